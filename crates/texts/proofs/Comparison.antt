-- The comparison of two texts.
use mathlib.Core.Path.{◌≡◌, refl, sym}
use mathlib.Core.Bool.{Bool, true, false, ◌&&◌}
use mathlib.Core.List.{List, [], ◌∷◌}
use Prim.Native.Nat.{ℕ}
use native.Mathlib.Omega.{arith}
use borrow.Author.Tests.{eq-eqb, eqb-true}
use lib.Dec.{eqb}
use Rattle.meaning.specs.Basics.{same_text}

and_left : (a b : Bool) → (a && b) ≡ true → a ≡ true
and_left true b e = refl
and_left false b e = e

and_right : (a b : Bool) → (a && b) ≡ true → b ≡ true
and_right true b e = e
and_right false b e = let z : true ≡ false = sym e in cc

pub same_self : (x : List ℕ) → true ≡ same_text x x
unfolding same_text
same_self [] = refl
same_self (a ∷ x) = rw (eq-eqb a a refl) (same_self x)

pub same_eq : (x y : List ℕ) → same_text x y ≡ true → x ≡ y
unfolding same_text
same_eq [] [] e = refl
same_eq [] (b ∷ y) e = let z : ◌≡◌ {A = ℕ} 0 1 = cc in absurd (omega arith)
same_eq (a ∷ x) [] e = let z : ◌≡◌ {A = ℕ} 0 1 = cc in absurd (omega arith)
same_eq (a ∷ x) (b ∷ y) e =
    let p : a ≡ b = eqb-true a b (and_left (eqb a b) (same_text x y) e) in
    let q : x ≡ y = same_eq x y (and_right (eqb a b) (same_text x y) e) in
    cc
