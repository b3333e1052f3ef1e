-- What the operations promise to C and Rust: the answer told, and what each lent slice holds.
use Rattle.std.specs.Prelude.{ℕ, ◌≡◌, List}
use Rattle.meaning.specs.Call.{Call, answer, work_after}
use Rattle.canonical.specs.Call.{text_answer}
use Rattle.answers.specs.Answers.{Told}
use Rattle.checking.specs.Checking as Checking

-- what img_check promises: the answer told, and what both work slices hold when it returns
pub record Checks (program g tokens code front tokens' code' front' : List ℕ) (n : ℕ) : Type 0 where
  pub told : Told (answer (Checking.called program g tokens code)) front front' n
  pub tokens_after : tokens' ≡ work_after (Checking.called program g tokens code) tokens
  pub code_after : code' ≡ work_after (Checking.called program g tokens code) code

-- what img_text promises beside the out slice
pub record Formats (c : Call) (tokens code front tokens' code' front' : List ℕ) (n : ℕ) : Type 0 where
  pub told : Told (text_answer c) front front' n
  pub tokens_after : tokens' ≡ work_after c tokens
  pub code_after : code' ≡ work_after c code

-- what img_draw promises beside the out slice: the answer told, and what the four work slices hold
pub record Performs (c : Call) (tokens code words texts front tokens' code' words' texts' front' : List ℕ) (n : ℕ) : Type 0 where
  pub told : Told (answer c) front front' n
  pub tokens_after : tokens' ≡ work_after c tokens
  pub code_after : code' ≡ work_after c code
  pub words_after : words' ≡ work_after c words
  pub texts_after : texts' ≡ work_after c texts
