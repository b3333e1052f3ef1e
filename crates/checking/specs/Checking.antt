-- The checking operation as a call of the meaning's.
use Rattle.std.specs.Prelude.{ℕ, ◌≤◌, ◌≡◌, List, [], ◌∷◌, length, pos, ltb}
use Rattle.std.proofs.Math.Option.{Option, none, some}
use Rattle.meaning.specs.Basics.{if◌then◌otherwise◌}
use Rattle.meaning.specs.Grammar.{Reading, well_formed, malformed, reading}
use Rattle.meaning.specs.Procedure.{doubled}
use Rattle.meaning.specs.Program.{checking}
use Rattle.meaning.specs.Book.{Answer, pictured, number}
use Rattle.meaning.specs.Call.{Call, answer, work_after}
use Rattle.answers.specs.declared.Answer as Declared
use Rattle.answers.specs.Answers.{meant}
use Rattle.lending.specs.Lending.{grants_of}

-- Its two work slices are for token words and code. It takes nothing of what it is granted, and an out slice does not matter to it.
abbrev pub called_with : List ℕ → List ℕ → List ℕ → List ℕ → List ℕ → Call
called_with program g tokens code out = record {
  operation = checking;
  program = program;
  width = pos 0;
  height = pos 0;
  grants = grants_of g;
  lent = length tokens ∷ length code ∷ [];
  out = out;
}

-- it writes no picture
abbrev pub called : List ℕ → List ℕ → List ℕ → List ℕ → Call
called program g tokens code = called_with program g tokens code []

-- what it promises: the answer, and what both slices hold when it returns
pub record Checked (program g tokens code : List ℕ) (r : Declared.Answer) (tokens' code' : List ℕ) : Type 0 where
  pub answered : meant r ≡ answer (called program g tokens code)
  pub tokens_after : tokens' ≡ work_after (called program g tokens code) tokens
  pub code_after : code' ≡ work_after (called program g tokens code) code

-- ---- inside
pub record Lent (tokens code : List ℕ) : Type 0 where
  pub tokens_long : 8193 ≤ length tokens
  pub code_long : 16384 ≤ length code

-- 60 where a `def` has a name that is there already
unfoldable pub answer_apart : Option ℕ → Answer
answer_apart none = pictured 0 0
answer_apart (some p) = number 60 p 0 0

unfoldable pub answer_of : Reading → Answer
answer_of (well_formed m) = answer_apart (doubled [] m.procedures)
answer_of (malformed n p) = number n p 0 0

-- the answer where the counts are in their ranges and enough is lent
unfoldable pub read_answer : List ℕ → Answer
read_answer program = if ltb 32768 (length program) then (λ _. number 73 0 0 0) otherwise λ _. answer_of (reading program)
