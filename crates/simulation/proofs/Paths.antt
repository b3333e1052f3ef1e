-- The way down to the figure that a loop has bound: the slots that it marked. How far up the next marked slot is, and what the loops inside add.
use Prim.Native.Nat.{ℕ, zero, suc, ◌+◌, ◌-◌, ◌*◌, ◌%◌, ◌^◌, ◌≤◌, ◌<◌}
use native.Mathlib.Omega.{arith}
use native.Mathlib.Nat.{pow-succ', pow-le-pow_right, one-le-pow}
use mathlib.Core.Path.{◌≡◌, refl, sym, ◌∙◌}
use mathlib.Core.Logic.{◌≢◌}
use mathlib.Core.Bool.{Bool, true, false, cond, ◌||◌}
use mathlib.Core.List.{List, [], ◌∷◌}
use lib.ListN.{get_or}
use lib.Dec.{eqb}
use borrow.Author.Tests.{eqb-true, eqb-false}
use Rattle.meaning.specs.Basics.{if◌then◌otherwise◌}
use Rattle.meaning.specs.Token.{Token}
use Rattle.meaning.specs.State.{State}
use Rattle.meaning.specs.Book.{Amounts}
use Rattle.machine.specs.Layout.{calls_used, components_made, loop_unit}
use Rattle.machine.specs.Act.{Raw}
use Rattle.machine.specs.Loops.{marked_at, marked_from, inner_unit}
use Rattle.simulation.specs.Follows.{Related}
use Rattle.simulation.proofs.Results.{After}
use Rattle.simulation.proofs.Marking.{mark_at, remarked, own_now, own_others}

-- ---- the next marked slot
module _ (g ws : List ℕ) where
  pub found_none : (k n : ℕ) → ((j : ℕ) → k ≤ j → j < k + n → marked_at g ws j ≡ false) → marked_from g ws k n ≡ 0
  unfolding marked_from if◌then◌otherwise◌
  found_none k zero f = refl
  found_none k (suc n) f = rw (f k (omega arith) (omega arith)) (found_none (k + 1) n (λ j x y. f j (omega arith) (omega arith)))

  pub found_first : (k n up : ℕ) → k ≤ up → up < k + n → ((j : ℕ) → k ≤ j → j < up → marked_at g ws j ≡ false) → marked_at g ws up ≡ true → marked_from g ws k n ≡ up + 1
  unfolding marked_from if◌then◌otherwise◌
  found_first k zero up a b f m = absurd (omega arith)
  found_first k (suc n) up a b f m = go (eqb k up) refl (λ d. found_first (k + 1) n up (omega arith) (omega arith) (λ j x y. f j (omega arith) y) m)
    where
      go : (t : Bool) → eqb k up ≡ t → (k ≢ up → marked_from g ws (k + 1) n ≡ up + 1) → (if marked_at g ws k then (λ _. k + 1) otherwise λ _. marked_from g ws (k + 1) n) ≡ up + 1
      go true e next = let q : k ≡ up = eqb-true k up e in rw (q, m)
      go false e next =
          let q : k ≢ up = eqb-false k up e in
          rw (f k (omega arith) (omega arith)) (next q)

-- whether a number is one of some
unfoldable pub is_in : ℕ → List ℕ → Bool
is_in x [] = false
is_in x (y ∷ ys) = eqb y x || is_in x ys

-- ---- the marks of a path: each slot of it has the unit on top of what loops around added
pub record Path (g : List ℕ) (around : ℕ → ℕ) (unit : ℕ) (ks : List ℕ) (r : Raw) : Type 0 where
  pub each : (k : ℕ) → mark_at g r k ≡ around k + cond (is_in k ks) unit 0
  pub less : (k : ℕ) → around k < unit

-- it stays where all marks do
pub path_after : {program : List ℕ} {ts : List Token} {g : List ℕ} {r r' : Raw} {s : State} {total : Amounts} {around : ℕ → ℕ} {unit : ℕ} {ks : List ℕ} → After program ts g r r' s total
    → 0 < get_or r.words calls_used 0 → Path g around unit ks r → Path g around unit ks r'
path_after a some p = record { each = λ k. rw a.untouched.calls (a.untouched.marks _ k (omega arith) ∙ p.each k); less = p.less }

-- ---- a loop inside: its unit fits with one foreach less, and is more than all that loops around it add
power_more : (n : ℕ) → 0 < n → n ≤ 64 → 2 ^ (64 - (n - 1)) ≡ 2 * 2 ^ (64 - n)
power_more n a b =
    let q : 64 - (n - 1) ≡ suc (64 - n) = omega arith in
    rw q (pow-succ' 2 (64 - n))

unit_small : (n u : ℕ) → 0 < n → n ≤ 64 → 2 * u ≤ 2 ^ (64 - n) → 2 * u < 2 ^ 64
unit_small n u a b l =
    let z : 0 < 2 = omega arith in
    let m : 64 - n ≤ 63 = omega arith in
    let q : 2 ^ (64 - n) ≤ 2 ^ 63 = pow-le-pow_right z m in
    omega arith

pub inner_fits : (n u : ℕ) → 0 < n → n ≤ 64 → 2 * u ≤ 2 ^ (64 - n) → 2 * inner_unit u ≤ 2 ^ (64 - (n - 1))
unfolding inner_unit if◌then◌otherwise◌
inner_fits n u a b l = rw (power_more n a b) (go (eqb u 0))
  where
    go : (t : Bool) → 2 * (if t then (λ _. 1) otherwise λ _. 2 * u % 2 ^ 64) ≤ 2 * 2 ^ (64 - n)
    go true = omega (arith, one-le-pow (64 - n) 2 (omega arith))
    go false =
        let q : 2 * u % 2 ^ 64 ≡ 2 * u = omega (arith, unit_small n u a b l) in
        rw q (omega arith)

pub inner_more : (n u m : ℕ) → 0 < n → n ≤ 64 → 2 * u ≤ 2 ^ (64 - n) → m ≤ 2 * u - 1 → m < inner_unit u
unfolding inner_unit if◌then◌otherwise◌
inner_more n u m a b l f = go (eqb u 0) refl
  where
    go : (t : Bool) → eqb u 0 ≡ t → m < (if t then (λ _. 1) otherwise λ _. 2 * u % 2 ^ 64)
    go true e = let q : u ≡ 0 = eqb-true u 0 e in omega arith
    go false e =
        let d : u ≢ 0 = eqb-false u 0 e in
        let q : 2 * u % 2 ^ 64 ≡ 2 * u = omega (arith, unit_small n u a b l) in
        rw q (omega arith)

-- ---- a slot more or less
module _ {program : List ℕ} {ts : List Token} {g : List ℕ} {r : Raw} {s : State} {total : Amounts} (h : Related program ts g r s total) (some : 0 < get_or r.words calls_used 0)
    (k : ℕ) (inside : k < get_or r.words components_made 0) (x : ℕ) (few : x ≤ 2 * get_or r.words loop_unit 0 - 1) {around : ℕ → ℕ} {unit : ℕ} (ks : List ℕ) where
  pub path_marked : Path g around unit ks r → is_in k ks ≡ false → x ≡ mark_at g r k + unit → Path g around unit (k ∷ ks) (remarked h some k inside x few)
  unfolding is_in
  path_marked p new e = record { each = λ j. at_slot j (eqb k j) refl; less = p.less }
    where
      at_slot : (j : ℕ) (t : Bool) → eqb k j ≡ t → mark_at g (remarked h some k inside x few) j ≡ around j + cond (t || is_in j ks) unit 0
      at_slot j true q =
          let here : k ≡ j = eqb-true k j q in
          let was : mark_at g r k ≡ around k + cond (is_in k ks) unit 0 = p.each k in
          let was' : mark_at g r k ≡ around k + 0 = rw new at was in
          rw (← here) (own_now h some k inside x few ∙ omega arith)
      at_slot j false q = own_others h some k inside x few j (λ d. eqb-false k j q (sym d)) ∙ p.each j

  pub path_unmarked : Path g around unit (k ∷ ks) r → is_in k ks ≡ false → x ≡ mark_at g r k - unit → Path g around unit ks (remarked h some k inside x few)
  unfolding is_in
  path_unmarked p last e = record { each = λ j. at_slot j (eqb k j) refl (p.each j); less = p.less }
    where
      at_slot : (j : ℕ) (t : Bool) → eqb k j ≡ t → mark_at g r j ≡ around j + cond (t || is_in j ks) unit 0
          → mark_at g (remarked h some k inside x few) j ≡ around j + cond (is_in j ks) unit 0
      at_slot j true q was =
          let here : k ≡ j = eqb-true k j q in
          let was' : mark_at g r k ≡ around k + unit = rw here was in
          rw (← here, last) (own_now h some k inside x few ∙ omega arith)
      at_slot j false q was = own_others h some k inside x few j (λ d. eqb-false k j q (sym d)) ∙ was
