-- The words of a slot, one for each call: zeros in them, and those of other slots.
use Prim.Native.Nat.{ℕ, zero, suc, ◌+◌, ◌*◌, ◌≤◌, ◌<◌}
use native.Mathlib.Omega.{arith}
use native.Mathlib.Nat.{mul-add, mul-one, add-mul, mul-le-mul_left}
use mathlib.Core.Path.{◌≡◌, refl, ap, ◌∙◌}
use mathlib.Core.Logic.{◌≢◌}
use mathlib.Core.Bool.{Bool, true, false}
use mathlib.Core.List.{List}
use lib.ListN.{get_or, set, length, length-set}
use lib.Seq.{get_or-set_same, get_or-set_other}
use lib.Dec.{eqb, ltb}
use borrow.Author.Tests.{eqb-true, eqb-false, ltb-true, ltb-false}
use Rattle.machine.specs.Layout.{entries_granted, calls_granted, path_place, Room}
use Rattle.machine.specs.Groups.{zeroed}

-- ---- zeros in n words from a place on
pub length_zeroed : (ws : List ℕ) (at n : ℕ) → length (zeroed ws at n) ≡ length ws
unfolding zeroed
length_zeroed ws at zero = refl
length_zeroed ws at (suc n) = length_zeroed (set ws at 0) (at + 1) n ∙ length-set ws at 0

pub zeroed_other : (ws : List ℕ) (at n j : ℕ) → ((i : ℕ) → i < n → j ≢ at + i) → get_or (zeroed ws at n) j 0 ≡ get_or ws j 0
unfolding zeroed
zeroed_other ws at zero j f = refl
zeroed_other ws at (suc n) j f =
    zeroed_other (set ws at 0) (at + 1) n j (λ i l e. f (i + 1) (omega arith) (omega arith)) ∙ get_or-set_other ws at j 0 0 (λ e. f 0 (omega arith) (omega arith))

pub zeroed_here : (ws : List ℕ) (at n i : ℕ) → at + n ≤ length ws → i < n → get_or (zeroed ws at n) (at + i) 0 ≡ 0
unfolding zeroed
zeroed_here ws at zero i l m = absurd (omega arith)
zeroed_here ws at (suc n) zero l m =
    let q : at + 0 ≡ at = omega arith in
    zeroed_other (set ws at 0) (at + 1) n (at + 0) (λ i l e. omega arith) ∙ rw q (get_or-set_same ws at 0 0 (omega arith))
zeroed_here ws at (suc n) (suc i) l m =
    let q : at + suc i ≡ at + 1 + i = omega arith in
    rw q (zeroed_here (set ws at 0) (at + 1) n i (rw (length-set ws at 0) (omega arith)) (omega arith))

-- ---- words of different slots are apart, and of different calls
slot_less : (n d d' k k' : ℕ) → d < n → k < k' → n * k + d < n * k' + d'
slot_less n d d' k k' l m =
    let a : n * (k + 1) ≤ n * k' = mul-le-mul_left n (omega arith) in
    let b : n * (k + 1) ≡ n * k + n = mul-add n k 1 ∙ ap (λ x. n * k + x) (mul-one n) in
    omega arith

pub slot_apart : (g : List ℕ) (d d' k k' : ℕ) → d < calls_granted g → d' < calls_granted g → k ≢ k' → path_place g d k ≢ path_place g d' k'
slot_apart g d d' k k' a b n e = go (ltb k k') refl
  where
    go : (t : Bool) → ltb k k' ≡ t → ⊥
    go true q = omega (arith, slot_less (calls_granted g) d d' k k' a (ltb-true k k' q))
    go false q = let m : k' ≤ k = ltb-false k k' q in omega (arith, slot_less (calls_granted g) d' d k' k b (omega arith))

pub call_apart : (g : List ℕ) (d d' k k' : ℕ) → d < calls_granted g → d' < calls_granted g → d ≢ d' → path_place g d k ≢ path_place g d' k'
call_apart g d d' k k' a b n e = go (eqb k k') refl
  where
    go : (t : Bool) → eqb k k' ≡ t → ⊥
    go true q = let z : calls_granted g * k ≡ calls_granted g * k' = ap (λ x. calls_granted g * x) (eqb-true k k' q) in n (omega arith)
    go false q = slot_apart g d d' k k' a b (eqb-false k k' q) e

-- ---- they are lent
pub slot_room : (g ws : List ℕ) (k : ℕ) → Room g ws → k < entries_granted g → path_place g 0 k + calls_granted g ≤ length ws
slot_room g ws k r l =
    let a : calls_granted g * (k + 1) ≤ calls_granted g * entries_granted g = mul-le-mul_left (calls_granted g) (omega arith) in
    let b : calls_granted g * (k + 1) ≡ calls_granted g * k + calls_granted g = mul-add (calls_granted g) k 1 ∙ ap (λ x. calls_granted g * k + x) (mul-one (calls_granted g)) in
    omega (arith, r.words, add-mul 5 (calls_granted g) (entries_granted g))
