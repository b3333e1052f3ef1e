-- What the operation that writes a program's text promises.
use Rattle.std.specs.Prelude.{◌≡◌, List, ℕ}
use Rattle.meaning.specs.Book.{pictured}
use Rattle.meaning.specs.Call.{Call, work_after}
use Rattle.canonical.specs.Call.{text, answer_with, text_answer, out_with, text_out}
use Rattle.answers.specs.declared.Answer as Declared
use Rattle.answers.specs.Answers.{meant}
use Rattle.checking.specs.Checking.{read_answer}

-- the answer, and what every slice holds when it returns
pub record Formatted (c : Call) (r : Declared.Answer) (tokens code tokens' code' out' : List ℕ) : Type 0 where
  pub answered : meant r ≡ text_answer c
  pub tokens_after : tokens' ≡ work_after c tokens
  pub code_after : code' ≡ work_after c code
  pub out_after : out' ≡ text_out c

-- ---- inside
-- the same past the first question, of the answer and the out slice
pub record Written (program out : List ℕ) (r : Declared.Answer) (out' : List ℕ) : Type 0 where
  pub answered : meant r ≡ answer_with (read_answer program) (text program) out
  pub out_after : out' ≡ out_with (read_answer program) (text program) out

-- and of a text t that is there
pub record Fitted (t out : List ℕ) (r : Declared.Answer) (out' : List ℕ) : Type 0 where
  pub answered : meant r ≡ answer_with (pictured 0 0) t out
  pub out_after : out' ≡ out_with (pictured 0 0) t out
