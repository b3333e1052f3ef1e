-- The line is decided by the first 22 bytes of the input.
-- Assumes nothing.
use Prim.Native.Nat.{ℕ, zero, suc, ◌+◌, ◌-◌, min, ◌≤◌}
use mathlib.Core.Bool.{Bool, true, false}
use mathlib.Core.List.{List, [], ◌∷◌}
use mathlib.Core.Path.{◌≡◌, ◌∙◌, refl, sym}
use native.Mathlib.Decide.{dec_le}
use native.Mathlib.Nat.{zero-sub, sub-zero, suc-sub-suc}
use native.Mathlib.Omega.{arith}
use lib.ListN.{take, drop}
use lib.Seq.{get_or-take, take-take, take-nil}
use Rattle.std.specs.Prelude.{Option, Some, None}
use Rattle.meaning.specs.Basics.{if◌then◌otherwise◌, span}
use Rattle.meaning.specs.Byte.{is_digit}
use Rattle.sheet.specs.declared.line.Field.{Field}
use Rattle.sheet.specs.Lines.{field_with, field_of, after_height, with_height, after_width, with_width, sheet_of}
use Rattle.sheet.proofs.Fields.{field_long, found}

-- ---- lists
span_cut : (p : ℕ → Bool) (k : ℕ) (s : List ℕ) → span p (take k s) ≡ min k (span p s)
unfolding span if◌then◌otherwise◌
span_cut p zero s = omega arith
span_cut p (suc k) [] = omega arith
span_cut p (suc k) (b ∷ s) = by (p b) (span_cut p k s)
  where
    by : (t : Bool) → span p (take k s) ≡ min k (span p s)
        → (if t then (λ _. suc (span p (take k s))) otherwise λ _. 0) ≡ min (suc k) (if t then (λ _. suc (span p s)) otherwise λ _. 0)
    by true e = omega arith
    by false e = omega arith

pub drop_cut : (a k : ℕ) (s : List ℕ) → drop a (take k s) ≡ take (k - a) (drop a s)
drop_cut zero k s = rw (sub-zero k)
drop_cut (suc a) zero s = rw (zero-sub (suc a))
drop_cut (suc a) (suc k) [] = sym (take-nil (suc k - suc a))
drop_cut (suc a) (suc k) (x ∷ s) = rw (suc-sub-suc k a) (drop_cut a k s)

-- ---- a number
field_cut : (k : ℕ) (s : List ℕ) → 11 ≤ k → field_of (take k s) ≡ field_of s
unfolding field_of field_with
field_cut k s h = by (dec_le (span is_digit s) 10)
  where
    by : Dec (span is_digit s ≤ 10) → field_of (take k s) ≡ field_of s
    by (yes l) =
        let q : span is_digit (take k s) ≡ span is_digit s = omega (arith, span_cut is_digit k s) in
        rw (q, take-take (span is_digit s) k s (omega arith))
    by (no l) =
        let c = span_cut is_digit k s in
        sym (field_long (take k s) (span is_digit (take k s)) refl (omega arith) (omega arith))
        ∙ field_long s (span is_digit s) refl (omega arith) (omega arith)

-- ---- the line
height_cut : (k : ℕ) (s : List ℕ) (w n : ℕ) (r : Option Field) → 22 ≤ k → n ≤ 10 → r ≡ field_of (drop (n + 1) s)
    → with_height (take k s) w n r ≡ with_height s w n r
unfolding with_height after_height
height_cut k s w n (Some f) l e g =
    let d = (found (drop (n + 1) s) (Some f) f g refl).few in
    rw (get_or-take k s (n + 1 + f.digits) 0 (omega arith))
height_cut k s w n None l e g = refl

width_cut : (k : ℕ) (s : List ℕ) (r : Option Field) → 22 ≤ k → r ≡ field_of s → with_width (take k s) r ≡ with_width s r
unfolding with_width after_width
width_cut k s (Some f) l g =
    let d = (found s (Some f) f g refl).few in
    rw (
      get_or-take k s f.digits 0 (omega arith),
      drop_cut (f.digits + 1) k s,
      field_cut (k - (f.digits + 1)) (drop (f.digits + 1) s) (omega arith),
      height_cut k s f.value f.digits (field_of (drop (f.digits + 1) s)) l d refl,
    )
width_cut k s None l g = refl

pub sheet_cut : (k : ℕ) (s : List ℕ) → 22 ≤ k → sheet_of (take k s) ≡ sheet_of s
unfolding sheet_of
sheet_cut k s l = rw (field_cut k s (omega arith)) (width_cut k s (field_of s) l refl)
