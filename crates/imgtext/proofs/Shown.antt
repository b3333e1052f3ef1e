-- From what the operation promises to all that is printed.
use Prim.Native.Nat.{ℕ, ◌≤◌, ◌<◌}
use mathlib.Core.Bool.{true}
use mathlib.Core.List.{List, [], ◌∷◌}
use mathlib.Core.Path.{◌≡◌, refl}
use native.Mathlib.Decide.{dec_le}
use native.Mathlib.Omega.{arith}
use borrow.Author.Tests.{le-leb, lt-leb}
use lib.ListN.{length}
use Rattle.meaning.specs.Basics.{if◌then◌otherwise◌}
use Rattle.meaning.specs.Book.{Answer, pictured, number, undecided}
use Rattle.meaning.specs.Call.{in_range, needed, long_enough}
use Rattle.meaning.proofs.SliceLaws.{laid_front}
use Rattle.canonical.specs.Call.{text, fits, answer_with, text_answer, out_with, text_out}
use Rattle.answers.specs.declared.Answer as Declared
use Rattle.answers.specs.Answers.{meant}
use Rattle.lending.specs.Lending.{enough_to_read}
use Rattle.checking.specs.Checking.{called_with, read_answer}
use Rattle.checking.proofs.Answered.{admitted_answer}
use Rattle.formatting.specs.Formatting.{Formatted}
use Rattle.sheet.specs.Errors.{error_line}
use Rattle.sheet.specs.Shown.{shown_text, Front}
use Rattle.imgtext.specs.Printed.{out_bytes, printed_for, printed}

-- what is shown of a text that fits, and of one that does not
module _ (t out : List ℕ) (e : length out ≡ out_bytes) where
  shown_fits : length t ≤ out_bytes → shown_text (answer_with (pictured 0 0) t out) (out_with (pictured 0 0) t out) ≡ t
  unfolding shown_text answer_with out_with fits if◌then◌otherwise◌
  shown_fits h =
      let k : length t ≤ length out = omega (arith, e) in
      rw (le-leb (length t) 32768 h, le-leb (length t) (length out) k) (laid_front t out k)

  shown_long : out_bytes < length t → shown_text (answer_with (pictured 0 0) t out) (out_with (pictured 0 0) t out) ≡ error_line 82 0
  unfolding shown_text answer_with out_with fits if◌then◌otherwise◌
  shown_long h = rw (lt-leb (length t) 32768 h)

  shown_for : (a : Answer) → shown_text (answer_with a t out) (out_with a t out) ≡ printed_for a t
  unfolding shown_text answer_with out_with printed_for if◌then◌otherwise◌
  shown_for (pictured l n) = by (dec_le (length t) out_bytes)
    where
      by : Dec (length t ≤ out_bytes) → shown_text (answer_with (pictured 0 0) t out) (out_with (pictured 0 0) t out) ≡ printed_for (pictured l n) t
      by (yes h) = rw (le-leb (length t) 32768 h) (shown_fits h)
      by (no h) = let k : out_bytes < length t = omega arith in rw (lt-leb (length t) 32768 k) (shown_long k)
  shown_for (number k p n l) = refl
  shown_for undecided = refl

-- one call, and counts of 0, are in their ranges, and both work slices are long enough
pub lent_enough : enough_to_read (0 ∷ 0 ∷ 0 ∷ 0 ∷ 1 ∷ []) 8193 16384 ≡ true
unfolding enough_to_read in_range needed long_enough
lent_enough = refl

pub formatted_front : (program g tokens code out : List ℕ) → enough_to_read g (length tokens) (length code) ≡ true → length out ≡ out_bytes
    → (r : Declared.Answer) (tokens' code' out' after : List ℕ) (n : ℕ) → Formatted (called_with program g tokens code out) r tokens code tokens' code' out'
    → Front (shown_text (meant r) out') after n → Front (printed program) after n
unfolding printed text_answer text_out
formatted_front program g tokens code out e o r tokens' code' out' after n w f =
    let a = admitted_answer program g tokens code out e in
    let q : shown_text (meant r) out' ≡ printed_for (read_answer program) (text program) =
    rw (w.answered, w.out_after, a) (shown_for (text program) out o (read_answer program)) in
    rw q at f
