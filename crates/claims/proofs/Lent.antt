-- No work slice need be long.
use Prim.Native.Nat.{ℕ, ◌+◌, ◌*◌, ◌≤◌}
use mathlib.Core.Path.{◌≡◌, refl}
use mathlib.Core.Bool.{Bool, true, ◌&&◌, and-eq-true_iff}
use mathlib.Core.List.{List, [], ◌∷◌}
use native.Mathlib.Omega.{arith}
use native.Mathlib.Nat.{mul-le-mul_right}
use lib.Dec.{leb}
use borrow.Author.Tests.{leb-true, le-leb}
use Rattle.meaning.specs.Program.{checking, drawing}
use Rattle.meaning.specs.Call.{Grants, in_range, reading_slices, running_slices, needed}
use Rattle.claims.specs.Claims.{NeededIsBounded, all_within}

abbrev parts : (a b : Bool) → a && b ≡ true → (a ≡ true) × (b ≡ true)
parts a b = (and-eq-true_iff a b).0

one_more : (n x : ℕ) (xs : List ℕ) → x ≤ n → all_within n xs ≡ true → all_within n (x ∷ xs) ≡ true
unfolding all_within
one_more n x xs h k = (and-eq-true_iff (leb x n) (all_within n xs)).1 (le-leb x n h, k)

-- each count of a grant in range is
record Within (g : Grants) : Type 0 where
  shapes : g.shapes ≤ 65535
  entries : g.entries ≤ 65535
  texts : g.text_bytes ≤ 65535
  calls : g.calls ≤ 64

within : (g : Grants) → in_range g ≡ true → Within g
unfolding in_range
within g h =
    let d = parts (leb g.steps 4294967295 && leb g.shapes 65535 && leb g.entries 65535 && leb g.text_bytes 65535 && leb 1 g.calls) (leb g.calls 64) h in
    let e = parts (leb g.steps 4294967295 && leb g.shapes 65535 && leb g.entries 65535 && leb g.text_bytes 65535) (leb 1 g.calls) d.0 in
    let a = parts (leb g.steps 4294967295 && leb g.shapes 65535 && leb g.entries 65535) (leb g.text_bytes 65535) e.0 in
    let b = parts (leb g.steps 4294967295 && leb g.shapes 65535) (leb g.entries 65535) a.0 in
    let c = parts (leb g.steps 4294967295) (leb g.shapes 65535) b.0 in
    record { shapes = leb-true _ _ c.1; entries = leb-true _ _ b.1; texts = leb-true _ _ a.1; calls = leb-true _ _ d.1 }

-- the longest has 5,128,198 elements
running_bounded : (n : ℕ) (g : Grants) → Within g → leb 5128198 n ≡ true → all_within n (reading_slices (running_slices g)) ≡ true
unfolding all_within
running_bounded n g w e =
    let l = leb-true 5128198 n e in
    let few : (5 + g.calls) * g.entries ≤ 69 * g.entries = mul-le-mul_right g.entries (omega (arith, w)) in
    one_more n 8193 (16384 ∷ running_slices g) (omega (arith, l)) (one_more n 16384 (running_slices g) (omega (arith, l))
    (one_more n (262416 + 5 * g.shapes + (5 + g.calls) * g.entries) (g.text_bytes ∷ []) (omega (arith, l, w, few))
    (one_more n g.text_bytes [] (omega (arith, l, w)) refl)))

reading_bounded : (n : ℕ) → leb 16384 n ≡ true → all_within n (reading_slices []) ≡ true
unfolding all_within
reading_bounded n e =
    let l = leb-true 16384 n e in
    one_more n 8193 (16384 ∷ []) (omega (arith, l)) (one_more n 16384 [] (omega (arith, l)) refl)

pub needed_is_bounded : NeededIsBounded
unfolding needed
needed_is_bounded checking g h = reading_bounded _ refl
needed_is_bounded drawing g h = running_bounded _ g (within g h) refl
