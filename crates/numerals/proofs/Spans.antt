-- A loop that counts the bytes from a place on that pass a test.
-- Assumes nothing.
use Prim.Native.Nat.{ℕ, suc, ◌+◌, ◌-◌, ◌≤◌, ◌<◌, zero-le, suc-le-suc}
use mathlib.Core.Bool.{Bool, true, false}
use mathlib.Core.List.{List, [], ◌∷◌}
use mathlib.Core.Path.{◌≡◌, refl}
use native.Mathlib.Numerals.{add-one}
use native.Mathlib.Omega.{arith}
use lib.ListN.{length, get_or, drop, drop_of_length-le}
use lib.Seq.{drop-cons}
use Rattle.meaning.specs.Basics.{if◌then◌otherwise◌, span}

-- it counts no more bytes than there are
clause_le : (b : Bool) {m n : ℕ} → m ≤ n → (if b then (λ _. suc m) otherwise λ _. 0) ≤ suc n
unfolding if◌then◌otherwise◌
clause_le true h = suc-le-suc h
clause_le false h = zero-le

pub span_le : (p : ℕ → Bool) (s : List ℕ) → span p s ≤ length s
unfolding span
span_le p [] = zero-le
span_le p (b ∷ s) = clause_le (p b) (span_le p s)

-- i was reached, and the bytes before it passed
pub record Spanning (p : ℕ → Bool) (s : List ℕ) (place i : ℕ) : Type 0 where
  pub begun : place ≤ i
  pub within : i ≤ length s
  pub counted : place + span p (drop place s) ≡ i + span p (drop i s)

pub span_none : (p : ℕ → Bool) (s : List ℕ) (place : ℕ) → place ≤ length s → Spanning p s place place
span_none p s place h = record { begun = omega arith; within = h; counted = refl }

module _ (p : ℕ → Bool) (s : List ℕ) (place i : ℕ) (g : Spanning p s place i) where
  pub span_more : i < length s → p (get_or s i 0) ≡ true → Spanning p s place (i + 1)
  unfolding span if◌then◌otherwise◌
  span_more h e =
      let q : span p (drop i s) ≡ suc (span p (drop (i + 1) s)) = rw (drop-cons s i 0, e, add-one i) in
      record { begun = omega (arith, g.begun); within = omega arith; counted = omega (arith, g.counted) }

  pub span_stop : i < length s → p (get_or s i 0) ≡ false → i - place ≡ span p (drop place s)
  unfolding span if◌then◌otherwise◌
  span_stop h e =
      let q : span p (drop i s) ≡ 0 = rw (drop-cons s i 0, e) in
      omega (arith, g.counted, g.begun)

  pub span_over : length s ≤ i → i - place ≡ span p (drop place s)
  unfolding span
  span_over h =
      let q : span p (drop i s) ≡ 0 = rw (drop_of_length-le s {i = i} h) in
      omega (arith, g.counted, g.begun)
