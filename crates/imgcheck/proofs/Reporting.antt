-- Checking with slices that are long enough, and the report of its answer.
-- Assumes nothing.
use Prim.Native.Nat.{ℕ}
use mathlib.Core.List.{List, [], ◌∷◌}
use mathlib.Core.Bool.{true}
use mathlib.Core.Path.{◌≡◌, ◌∙◌, refl}
use lib.ListN.{length}
use Rattle.meaning.specs.Call.{in_range, needed, long_enough}
use Rattle.answers.specs.declared.Answer as Declared
use Rattle.answers.specs.Answers.{meant}
use Rattle.lending.specs.Lending.{enough_to_read}
use Rattle.checking.specs.Checking.{Checked, read_answer}
use Rattle.checking.proofs.Answered.{admitted_answer}
use Rattle.report.specs.Reports.{Said}
use Rattle.imgcheck.specs.Reports.{report_of, Reported}

pub checked_answer : (program g tokens code : List ℕ) (r : Declared.Answer) (tokens' code' : List ℕ) → enough_to_read g (length tokens) (length code) ≡ true
    → Checked program g tokens code r tokens' code' → meant r ≡ read_answer program
checked_answer program g tokens code r tokens' code' e k = k.answered ∙ admitted_answer program g tokens code [] e

-- one call, and counts of 0, are in their ranges
pub one_call_granted : enough_to_read (0 ∷ 0 ∷ 0 ∷ 0 ∷ 1 ∷ []) 8193 16384 ≡ true
unfolding enough_to_read in_range needed long_enough
one_call_granted = refl

pub reported : (program : List ℕ) (r : Declared.Answer) {before after : List ℕ} {size : ℕ} → meant r ≡ read_answer program
    → Said program (meant r) before after size → Reported program before after size
unfolding report_of
reported program r e w = record { wrote = rw e at w.wrote; short = w.short }
