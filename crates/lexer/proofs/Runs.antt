-- Runs of bytes.
-- Assumes nothing.
use mathlib.Core.Path.{◌≡◌, refl}
use mathlib.Core.Bool.{Bool, true, false}
use mathlib.Core.List.{List, [], ◌∷◌}
use Prim.Native.Nat.{ℕ, suc, ◌+◌, ◌≤◌, ◌<◌, zero-le, suc-le-suc}
use native.Mathlib.Numerals.{add-one}
use native.Mathlib.Nat.{add-zero}
use native.Mathlib.Omega.{arith}
use borrow.Author.Tests.{le-leb, lt-leb}
use mathlib.Core.Logic.{◌⊎◌, ⊎_elim}
use lib.ListN.{length, get_or, drop, drop_of_length-le}
use lib.Seq.{drop-cons}
use Rattle.meaning.specs.Basics.{if◌then◌otherwise◌, span}
use Rattle.meaning.specs.Byte.{class_of}
use Rattle.lexer.specs.Lexing.{from_class}

-- where the run from a place on ends
abbrev pub end_of : ℕ → List ℕ → ℕ → ℕ
end_of least s i = i + span (from_class least) (drop i s)

module _ (p : ℕ → Bool) (s : List ℕ) (i : ℕ) where
  stop : i < length s → p (get_or s i 0) ≡ false → i + span p (drop i s) ≡ i
  unfolding span if◌then◌otherwise◌
  stop h e = rw (drop-cons s i 0, e) (add-zero i)

  more : i < length s → p (get_or s i 0) ≡ true → i + span p (drop i s) ≡ i + 1 + span p (drop (i + 1) s)
  unfolding span if◌then◌otherwise◌
  more h e = rw (drop-cons s i 0, e, add-one i) (omega arith)

module _ (least : ℕ) (s : List ℕ) (i : ℕ) where
  pub end_over : length s ≤ i → end_of least s i ≡ i
  unfolding span
  end_over h = rw (drop_of_length-le s {i = i} h) (add-zero i)

  end_low : i < length s → class_of (get_or s i 0) < least → end_of least s i ≡ i
  unfolding from_class
  end_low h e = stop (from_class least) s i h (rw (lt-leb _ _ e))

  end_high : i < length s → least ≤ class_of (get_or s i 0) → 3 < class_of (get_or s i 0) → end_of least s i ≡ i
  unfolding from_class
  end_high h l e = stop (from_class least) s i h (rw (le-leb _ _ l, lt-leb _ _ e))

  pub end_out : i < length s → (c : ℕ) → c ≡ class_of (get_or s i 0) → (c < least) ⊎ ((least ≤ c) × (3 < c)) → end_of least s i ≡ i
  end_out h c q e =
      ⊎_elim (λ (l : c < least). end_low h (rw q at l))
      (λ (l : (least ≤ c) × (3 < c)). end_high h (rw q at l.0) (rw q at l.1)) e

  pub end_more : i < length s → least ≤ class_of (get_or s i 0) → class_of (get_or s i 0) ≤ 3 → end_of least s i ≡ end_of least s (i + 1)
  unfolding from_class
  end_more h l e = more (from_class least) s i h (rw (le-leb _ _ l, le-leb _ _ e))

-- a run is no longer than the list
if_le : (b : Bool) {m n : ℕ} → m ≤ n → (if b then (λ _. suc m) otherwise λ _. 0) ≤ suc n
unfolding if◌then◌otherwise◌
if_le true h = suc-le-suc h
if_le false h = zero-le

pub span_le : (p : ℕ → Bool) (l : List ℕ) → span p l ≤ length l
unfolding span
span_le p [] = zero-le
span_le p (x ∷ xs) = if_le (p x) (span_le p xs)

pub span_some : (p : ℕ → Bool) (x : ℕ) (xs : List ℕ) → p x ≡ true → 0 < span p (x ∷ xs)
unfolding span if◌then◌otherwise◌
span_some p x xs e = rw e (suc-le-suc zero-le)

-- two tests that agree give runs of one length
pub span_same : (p q : ℕ → Bool) → ((b : ℕ) → p b ≡ q b) → (l : List ℕ) → span p l ≡ span q l
unfolding span
span_same p q h [] = refl
span_same p q h (x ∷ xs) = rw (h x, span_same p q h xs)
