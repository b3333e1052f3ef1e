-- A loop that the procedure leaves takes all its marks away.
use Prim.Native.Nat.{ℕ, zero, suc, ◌+◌, ◌-◌, ◌≤◌, ◌<◌}
use native.Mathlib.Omega.{arith}
use mathlib.Core.Path.{◌≡◌, refl, ◌∙◌}
use mathlib.Core.Logic.{◌≢◌}
use mathlib.Core.Bool.{Bool, true, false, cond}
use mathlib.Core.List.{List}
use lib.ListN.{get_or}
use lib.Dec.{eqb}
use borrow.Author.Tests.{eqb-true, eqb-false, le-leb, lt-leb}
use Rattle.meaning.specs.Basics.{if◌then◌otherwise◌}
use Rattle.meaning.specs.Token.{Token}
use Rattle.meaning.specs.State.{State}
use Rattle.meaning.specs.Book.{Amounts}
use Rattle.machine.specs.Layout.{calls_used, components_made, loop_unit}
use Rattle.machine.specs.Act.{Raw, done}
use Rattle.machine.specs.Act as Act
use Rattle.machine.specs.Loops.{marked_at, unmark_from}
use Rattle.simulation.specs.Follows.{Related}
use Rattle.simulation.proofs.Results.{unmoved}
use Rattle.simulation.proofs.Marking.{mark_at, AfterBut, but_after, but_trans, remarked, own_now, own_others, marks, own_call, own_word, few_less, unmark_is}

module _ (program : List ℕ) (ts : List Token) (g : List ℕ) (s : State) (total : Amounts) (around : ℕ → ℕ) (unit : ℕ) (less : (j : ℕ) → around j < unit)
    (on : ℕ → Bool) where
  -- n slots from k on are as they were without the loop, the others as they were
  pub record Cleared (k n : ℕ) (r : Raw) (o : Act.Out (Unit {0})) : Type 0 where
    pub slices : Raw
    pub is : o ≡ done tt slices
    pub after : AfterBut program ts g r slices s total
    pub clear : (j : ℕ) → k ≤ j → j < k + n → mark_at g slices j ≡ around j
    pub before : (j : ℕ) → j < k → mark_at g slices j ≡ mark_at g r j
    pub behind : (j : ℕ) → k + n ≤ j → mark_at g slices j ≡ mark_at g r j

  pub clears : (n k : ℕ) (r : Raw) → Related program ts g r s total → 0 < get_or r.words calls_used 0 → get_or r.words loop_unit 0 ≡ unit → k + n ≤ get_or r.words components_made 0
      → ((j : ℕ) → k ≤ j → j < k + n → mark_at g r j ≡ around j + cond (on j) unit 0) → Cleared k n r (unmark_from g k n r)
  unfolding unmark_from Act.◌>>=◌ Act.go_on Act.held Act.give if◌then◌otherwise◌
  clears zero k r h some u l m = record { slices = r; is = refl; after = but_after (unmoved h); clear = λ j x y. absurd (omega arith); before = λ j x. refl; behind = λ j x. refl }
  clears (suc n) k r h some u l m =
      go (on k) (m k (omega arith) (omega arith)) (λ r' h' c u' l' f. clears n (k + 1) r' h' c u' l' f)
    where
      at_slot : (r' : Raw) (j : ℕ) → k ≤ j → j < k + suc n → ((i : ℕ) → k + 1 ≤ i → i < k + 1 + n → mark_at g r' i ≡ around i) → mark_at g r' k ≡ around k
          → (t : Bool) → eqb j k ≡ t → mark_at g r' j ≡ around j
      at_slot r' j y z f here true q = rw (eqb-true j k q) here
      at_slot r' j y z f here false q = let d : j ≢ k = eqb-false j k q in f j (omega arith) (omega arith)

      go : (t : Bool) → mark_at g r k ≡ around k + cond t unit 0
          → ((r' : Raw) → Related program ts g r' s total → 0 < get_or r'.words calls_used 0 → get_or r'.words loop_unit 0 ≡ unit → k + 1 + n ≤ get_or r'.words components_made 0
          → ((j : ℕ) → k + 1 ≤ j → j < k + 1 + n → mark_at g r' j ≡ around j + cond (on j) unit 0) → Cleared (k + 1) n r' (unmark_from g (k + 1) n r'))
          → Cleared k (suc n) r (unmark_from g k (suc n) r)
      go true e next =
          let inside : k < get_or r.words components_made 0 = omega arith in
          let x = mark_at g r k - get_or r.words loop_unit 0 in
          let few = few_less h some k inside in
          let is_on : marked_at g r.words k ≡ true = rw (own_call h some k inside, own_word h some k inside) (le-leb (get_or r.words loop_unit 0) (mark_at g r k) (omega (arith, e, u))) in
          let a = marks h some k inside x few in
          let c = next (remarked h some k inside x few) a.related (rw a.calls some) (a.unit ∙ u) (omega (arith, a.parts.made))
          (λ j y z. own_others h some k inside x few j (λ q. omega arith) ∙ m j (omega arith) (omega arith)) in
          record {
            slices = c.slices;
            is = rw (is_on, unmark_is h some k inside) c.is;
            after = but_trans a c.after;
            clear = λ j y z. at_slot c.slices j y z c.clear (c.before k (omega arith) ∙ own_now h some k inside x few ∙ omega (arith, e, u)) (eqb j k) refl;
            before = λ j y. c.before j (omega arith) ∙ own_others h some k inside x few j (λ q. omega arith);
            behind = λ j y. c.behind j (omega arith) ∙ own_others h some k inside x few j (λ q. omega arith);
          }
      go false e next =
          let inside : k < get_or r.words components_made 0 = omega arith in
          let is_off : marked_at g r.words k ≡ false = rw (own_call h some k inside, own_word h some k inside) (lt-leb (get_or r.words loop_unit 0) (mark_at g r k) (omega (arith, e, u, less k))) in
          let c = next r h some u (omega arith) (λ j y z. m j (omega arith) (omega arith)) in
          record {
            slices = c.slices;
            is = rw is_off c.is;
            after = c.after;
            clear = λ j y z. at_slot c.slices j y z c.clear (c.before k (omega arith) ∙ omega (arith, e)) (eqb j k) refl;
            before = λ j y. c.before j (omega arith);
            behind = λ j y. c.behind j (omega arith);
          }
