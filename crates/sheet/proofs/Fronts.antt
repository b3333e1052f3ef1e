-- The text of an answer in the front of the out slice.
-- Assumes nothing.
use Prim.Native.Nat.{ℕ, min, ◌≤◌}
use mathlib.Core.List.{List}
use mathlib.Core.Path.{◌≡◌, ◌∙◌, sym}
use native.Mathlib.Decide.{dec_le}
use native.Mathlib.Omega.{arith}
use lib.ListN.{length, take}
use lib.Seq.{take_all}
use Rattle.meaning.proofs.SliceLaws.{laid_front}
use Rattle.answers.specs.declared.Answer as Declared
use Rattle.answers.specs.declared.Answer.TheVariants.{Picture, Number}
use Rattle.answers.specs.Answers.{meant}
use Rattle.writing.proofs.Laying.{length_over}
use Rattle.sheet.specs.Errors.{error_line, ErrorWritten}
use Rattle.sheet.specs.Shown.{shown_text, Front}

-- no more is taken than there is
take_least : (n : ℕ) (xs : List ℕ) → take (min n (length xs)) xs ≡ take n xs
take_least n xs = by (dec_le n (length xs))
  where
    by : Dec (n ≤ length xs) → take (min n (length xs)) xs ≡ take n xs
    by (yes h) = let q : min n (length xs) ≡ n = omega arith in rw q
    by (no h) = let q : min n (length xs) ≡ length xs = omega arith in rw q (take_all (length xs) xs (omega arith) ∙ sym (take_all n xs (omega arith)))

-- the line of an error
pub error_line_lem : (n place r : ℕ) (out after : List ℕ) → 64 ≤ length out → ErrorWritten n place out after r → Front (error_line n place) after r
error_line_lem n place r out after h w =
    let few : length (error_line n place) ≤ length out = omega (arith, w.short, w.wrote.counts) in
    let same = length_over (error_line n place) out in
    record {
      holds = rw (w.wrote.counts, w.wrote.laid) (laid_front (error_line n place) out few);
      within = rw w.wrote.laid (omega (arith, w.wrote.counts));
    }

module _ (a : Declared.Answer) (out : List ℕ) where
  pub picture_front : (l n r : ℕ) → a ≡ Picture l n → r ≡ min l (length out) → Front (shown_text (meant a) out) out r
  unfolding shown_text meant
  picture_front l n r e h = record { holds = rw (e, h) (take_least l out); within = omega arith }

  pub error_front : (n place s l r : ℕ) (after : List ℕ) → a ≡ Number n place s l → 64 ≤ length out → ErrorWritten n place out after r
      → Front (shown_text (meant a) out) after r
  unfolding shown_text meant
  error_front n place s l r after e h w = rw e (error_line_lem n place r out after h w)
