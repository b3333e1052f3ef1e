-- The value of digits, at most 2^32 - 1: it is capped at each digit, which the digits behind do not undo.
-- Assumes nothing.
use Prim.Native.Nat.{ℕ, ◌+◌, ◌-◌, ◌*◌, ◌≤◌, ◌<◌, min}
use mathlib.Core.Path.{◌≡◌, ◌∙◌, refl}
use mathlib.Core.Bool.{Bool, true, false}
use mathlib.Core.List.{List, [], ◌∷◌}
use native.Mathlib.Numerals.{add-one}
use native.Mathlib.Omega.{arith}
use borrow.Author.Tests.{leb-true, leb-false}
use lib.Dec.{leb}
use lib.ListN.{length, get_or, drop, drop_of_length-le}
use lib.Seq.{drop-cons}
use Rattle.meaning.specs.Grammar.{numeral, numeral_from}

abbrev capped : ℕ → ℕ
capped n = min n 4294967295

numeral_grows : (a : ℕ) (x : List ℕ) → a ≤ numeral_from a x
unfolding numeral_from
numeral_grows a [] = omega arith
numeral_grows a (d ∷ x) = omega (arith, numeral_grows (10 * a + (d - 48)) x)

cap_first : (a : ℕ) (x : List ℕ) → capped (numeral_from a x) ≡ capped (numeral_from (capped a) x)
cap_first a x = go (leb a 4294967295) refl
  where
    go : (b : Bool) → leb a 4294967295 ≡ b → capped (numeral_from a x) ≡ capped (numeral_from (capped a) x)
    go true e = let h = leb-true a 4294967295 e in let q : capped a ≡ a = omega arith in rw q
    go false e =
        let h = leb-false a 4294967295 e in
        let q : capped a ≡ 4294967295 = omega arith in
        rw q (omega (arith, numeral_grows a x, numeral_grows 4294967295 x))

pub record Reading (x : List ℕ) (v i : ℕ) : Type 0 where
  pub small : v < 4294967296
  pub rest : capped (numeral x) ≡ capped (numeral_from v (drop i x))

pub read_none : (x : List ℕ) → Reading x 0 0
read_none x = record { small = omega arith; rest = refl }

module _ (x : List ℕ) (v i : ℕ) (g : Reading x v i) where
  pub read_more : (r : ℕ) → i < length x → r ≡ min (10 * v + (get_or x i 0 - 48)) 4294967295 → Reading x r (i + 1)
  unfolding numeral_from
  read_more r l e =
      record {
        small = omega arith;
        rest = g.rest ∙ rw (drop-cons x i 0, add-one i, e) (cap_first (10 * v + (get_or x i 0 - 48)) (drop (Prim.Native.Nat.suc i) x));
      }

  pub read_all : length x ≤ i → v ≡ min (numeral x) 4294967295
  unfolding numeral_from
  read_all l =
      let q : capped (numeral x) ≡ capped v = g.rest ∙ rw (drop_of_length-le x {i = i} l) in
      omega (arith, g.small)
