-- Loops over groups: their variable, declared if it is not yet and bound to a shape, which it shares; and groups in which no figure is left.
use Prim.Native.Nat.{ℕ, zero, suc, ◌+◌, ◌≤◌, ◌<◌}
use native.Mathlib.Nat.{le_trans, le_of_lt}
use native.Mathlib.Numerals.{add-one}
use native.Mathlib.Omega.{arith}
use mathlib.Core.Path.{◌≡◌, refl, ap, subst}
use mathlib.Core.Logic.{◌≢◌}
use mathlib.Core.Bool.{Bool, true, false}
use mathlib.Core.List.{List, [], ◌∷◌}
use lib.ListN.{get_or, length}
use lib.Dec.{eqb}
use borrow.Author.Tests.{eqb-true, eqb-false}
use Rattle.meaning.specs.Basics.{if◌then◌otherwise◌}
use Rattle.meaning.specs.Token.{Token}
use Rattle.meaning.specs.Value as Value
use Rattle.meaning.specs.State.{State, by_content, is_destroyed, is_some, assigned, with_variables}
use Rattle.meaning.specs.Run as Run
use Rattle.meaning.specs.Book.{Amounts}
use Rattle.meaning.specs.Execute.{Flow, onward, continue, declaring_once, binding, turns, iterating}
use Rattle.meaning.specs.Procedure.{is_among}
use Rattle.numbering.specs.Numbers.{number_in}
use Rattle.machine.specs.declared.Value.TheVariants.{Shape}
use Rattle.machine.specs.Words.{packed}
use Rattle.machine.specs.Layout.{shapes_used, running}
use Rattle.machine.specs.Act.{Raw}
use Rattle.machine.specs.Act as Act
use Rattle.machine.specs.Shapes.{is_group_at, destroyed_at}
use Rattle.machine.specs.Groups.{component_at, first_at, count_at}
use Rattle.machine.specs.Show.{shown_from, figures_in}
use Rattle.machine.specs.Variables.{holding, declare_once, set_variable}
use Rattle.simulation.specs.Meant.{meant_value, listed, components_of}
use Rattle.simulation.specs.Scope.{scope_of}
use Rattle.simulation.specs.Sound.{Valid}
use Rattle.simulation.specs.Follows.{Related, Follows}
use Rattle.simulation.proofs.Frames.{append_none}
use Rattle.simulation.proofs.Results.{given, After, unmoved}
use Rattle.simulation.proofs.Usable.{group_found, destroyed_found}
use Rattle.simulation.proofs.Variables.{undeclared, is_declared_lem}
use Rattle.simulation.proofs.Keys.{back_again}
use Rattle.simulation.proofs.Declaring.{declare_free, new_value, new_after, put_after}
use Rattle.simulation.proofs.Assigning.{packed_narrow, set_at}

module _ {program : List ℕ} {ts : List Token} {g : List ℕ} {r : Raw} {s : State} {total : Amounts} (h : Related program ts g r s total) (x : List ℕ) where
  abbrev number : ℕ
  number = number_in (scope_of program ts (get_or r.words running 0)) x

  -- it is declared then
  pub record Once (r' : Raw) (s' : State) (total' : Amounts) : Type 0 where
    pub after : After program ts g r r' s' total'
    pub there : holding r'.words (number_in (scope_of program ts (get_or r.words running 0)) x) ≢ 0

  pub declares_once : {granted : Amounts} → is_among x (scope_of program ts (get_or r.words running 0)) ≡ true
      → Follows granted total (λ _ _ r' s' total'. Once r' s' total') (declare_once (number_in (scope_of program ts (get_or r.words running 0)) x) r) (declaring_once x s)
  unfolding declare_once declaring_once is_some if◌then◌otherwise◌ Act.◌>>=◌ Act.go_on Act.held Act.give Run.◌>>=◌ Run.go_on Run.current Run.become
  declares_once {granted} own = go (eqb (holding r.words number) 0) refl
    where
      go : (b : Bool) → eqb (holding r.words number) 0 ≡ b
          → Follows granted total (λ _ _ r' s' total'. Once r' s' total') (declare_once number r) (declaring_once x s)
      go true e =
          let z = eqb-true _ _ e in
          let a = new_after h x z own in
          rw (e, undeclared h x z, declare_free h x z 0)
          (given (record { after = a; there = rw a.untouched.frame (λ q. omega (arith, new_value h x z, q)) }))
      go false e =
          let n = eqb-false _ _ e in
          rw (e, is_declared_lem h x n) (given (record { after = unmoved h; there = n }))

  -- a shape put into it
  pub binds : (i : ℕ) → i < get_or r.words shapes_used 0 → holding r.words (number_in (scope_of program ts (get_or r.words running 0)) x) ≢ 0 → {granted : Amounts}
      → Follows granted total (λ _ _ r' s' total'. After program ts g r r' s' total')
      (set_variable (number_in (scope_of program ts (get_or r.words running 0)) x) (packed (Shape i)) r) (binding x i s)
  unfolding set_variable binding Act.◌>>=◌ Act.go_on Act.load Act.store Run.◌>>=◌ Run.go_on Run.current Run.become Valid meant_value packed
  binds i l n =
      let back = back_again h.sound (Shape i) l in
      given (subst (λ (y : Value.Value). After program ts g r (set_at r number (packed (Shape i))) (with_variables s (assigned s.variables x y)) total)
      (ap (meant_value program r.texts) back)
      (put_after h x (packed (Shape i)) n (λ e. omega arith) (rw back l) (packed_narrow h.sound (Shape i) l)))

-- ---- where no figure is left, nothing is done: no turn, no step, and the state stays
module _ {program : List ℕ} {ts : List Token} {g : List ℕ} {r : Raw} {s : State} {total : Amounts} (h : Related program ts g r s total) (B : ℕ → Run.Action Flow) where
  abbrev pub Idle : Run.Run Flow → Type 0
  Idle m = m ≡ Run.run [] (Run.result onward s)

  -- n components from slot k on, all older than i
  pub idle_turns : (visit : ℕ → Run.Action Flow) (inside : ℕ → List ℕ) (i n k : ℕ) → i ≤ get_or r.words shapes_used 0
      → ((c : ℕ) → c < i → inside c ≡ [] → Idle (visit c s)) → ((j : ℕ) → k ≤ j → j < k + n → component_at g r.words j < i)
      → shown_from inside g r.words k n ≡ [] → Idle (turns visit (listed (component_at g r.words) k n) s)
  unfolding turns shown_from listed continue if◌then◌otherwise◌ Run.◌>>=◌ Run.go_on Run.current Run.give
  idle_turns visit inside i zero k l f o e = refl
  idle_turns visit inside i (suc n) k l f o e =
      let c = component_at g r.words k in
      let older = o k (omega arith) (omega arith) in
      let q = append_none (if destroyed_at r.words c then (λ _. []) otherwise λ _. inside c) (shown_from inside g r.words (k + 1) n) e in
      one c (destroyed_at r.words c) (destroyed_found h c (le_trans older l)) (f c older) q.0
      (subst (λ j. Idle (turns visit (listed (component_at g r.words) j n) s)) (add-one k)
      (idle_turns visit inside i n (k + 1) l f (λ j x y. o j (omega arith) (omega arith)) q.1))
    where
      one : (c : ℕ) (b : Bool) → is_destroyed s c ≡ b → (inside c ≡ [] → Idle (visit c s)) → (if b then (λ _. []) otherwise λ _. inside c) ≡ []
          → Idle (turns visit (listed (component_at g r.words) (suc k) n) s) → Idle (turns visit (c ∷ listed (component_at g r.words) (suc k) n) s)
      one c true d f e again = rw d again
      one c false d f e again = rw (d, f e) again

  pub idle : (b b' i : ℕ) → i < get_or r.words shapes_used 0 → i < b → i < b' → figures_in b g r.words i ≡ [] → Idle (iterating b' B i s)
  unfolding figures_in iterating by_content components_of if◌then◌otherwise◌ Run.◌>>=◌ Run.go_on Run.current
  idle zero b' i l x y e = absurd (omega arith)
  idle (suc b) zero i l x y e = absurd (omega arith)
  idle (suc b) (suc b') i l x y e = go (is_group_at r.words i) refl e (λ c o. idle b b' c (le_trans o (le_of_lt l)) (omega arith) (omega arith))
    where
      go : (t : Bool) → is_group_at r.words i ≡ t → (if t then (λ _. shown_from (figures_in b g r.words) g r.words (first_at r.words i) (count_at r.words i)) otherwise λ _. i ∷ []) ≡ []
          → ((c : ℕ) → c < i → figures_in b g r.words c ≡ [] → Idle (iterating b' B c s)) → Idle (iterating (suc b') B i s)
      go true n e f =
          rw (group_found h i l n)
          (idle_turns (iterating b' B) (figures_in b g r.words) i (count_at r.words i) (first_at r.words i) (le_of_lt l) f (h.sound.shapes.groups i l n).older e)
      go false n e f = let z : ◌≡◌ {A = ℕ} 1 0 = ap length e in absurd (omega arith)
