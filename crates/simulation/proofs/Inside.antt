-- What stays inside loops over groups: the call under way, what the stack holds, and room for the marks of loops further in.
use Prim.Native.Nat.{ℕ, suc, ◌-◌, ◌*◌, ◌^◌, ◌≤◌, ◌<◌}
use native.Mathlib.Omega.{arith}
use native.Mathlib.Nat.{le_trans}
use mathlib.Core.Path.{◌≡◌, ◌∙◌}
use mathlib.Core.Bool.{true}
use mathlib.Core.List.{List}
use lib.ListN.{get_or, set}
use Rattle.meaning.specs.Token.{Token}
use Rattle.meaning.specs.State.{State}
use Rattle.meaning.specs.Run as Run
use Rattle.meaning.specs.Book.{Amounts}
use Rattle.meaning.specs.Execute.{declaring_once, binding, turns, iterating}
use Rattle.meaning.specs.Execute as Execute
use Rattle.meaning.specs.Procedure.{is_among}
use Rattle.numbering.specs.Numbers.{number_in}
use Rattle.machine.specs.declared.Flow.{Flow}
use Rattle.machine.specs.Layout.{steps_used, shapes_used, arguments_held, calls_used, running, loop_unit}
use Rattle.machine.specs.Act.{Raw, raw, Act}
use Rattle.machine.specs.Act as Act
use Rattle.machine.specs.Shapes.{is_group_at}
use Rattle.machine.specs.Variables.{declare_once}
use Rattle.machine.specs.Loops.{inner_unit, loop_over}
use Rattle.simulation.specs.Meant.{components_of}
use Rattle.simulation.specs.Scope.{scope_of}
use Rattle.simulation.specs.Follows.{Grants, Related, Follows}
use Rattle.simulation.proofs.Binding.{bind}
use Rattle.simulation.proofs.Frames.{group_stays, untouched_components, components_later}
use Rattle.simulation.proofs.Results.{After}
use Rattle.simulation.proofs.Counting.{here, other}
use Rattle.simulation.proofs.Under.{Under, stays}
use Rattle.simulation.proofs.Flows.{Flows, flow_from, Turns}
use Rattle.simulation.proofs.Marking.{AfterBut}
use Rattle.simulation.proofs.Paths.{inner_fits}
use Rattle.simulation.proofs.Looping.{declares_once}
use Rattle.simulation.proofs.Iterating.{Repeats}
use Rattle.simulation.proofs.OverGroups.{loops_over}

-- ---- marks: those of n loops more, inside one another, fit in a word
pub record Room (n : ℕ) (r : Raw) : Type 0 where
  pub few : n ≤ 64
  pub fits : 2 * get_or r.words loop_unit 0 ≤ 2 ^ (64 - n)

pub room_stays : {program : List ℕ} {ts : List Token} {g : List ℕ} {n : ℕ} {r r' : Raw} {s : State} {total : Amounts} → After program ts g r r' s total → Room n r → Room n r'
room_stays a m = record { few = m.few; fits = rw a.untouched.unit m.fits }

-- a call begins with none
pub room_first : {r : Raw} → get_or r.words loop_unit 0 ≡ 0 → Room 64 r
room_first e = record { few = omega arith; fits = rw e (omega arith) }

-- ---- all of it, in a call whose stack has so many words before each statement
pub record Inside (g : List ℕ) (w c limit base n : ℕ) (r : Raw) : Type 0 where
  pub under : Under g w c limit r
  pub held : get_or r.words arguments_held 0 ≡ base
  pub room : Room n r

module _ {program : List ℕ} {ts : List Token} {g : List ℕ} {w c limit base : ℕ} where
  pub inside_but : {n : ℕ} {r r' : Raw} {s : State} {total : Amounts} → AfterBut program ts g r r' s total → Inside g w c limit base n r → Inside g w c limit base n r'
  inside_but a x = record {
    under = record { procedure = a.procedure ∙ x.under.procedure; calls = a.calls ∙ x.under.calls; turns = omega (arith, a.later.steps, x.under.turns) };
    held = a.held ∙ x.held;
    room = record { few = x.room.few; fits = rw a.unit x.room.fits };
  }

  -- a loop further in
  pub inside_more : {n : ℕ} {r : Raw} {s : State} {total : Amounts} → Related program ts g r s total → 0 < n → Inside g w c limit base n r
      → Inside g w c limit base (n - 1) (raw r.texts (set r.words loop_unit (inner_unit (get_or r.words loop_unit 0))))
  inside_more {n} {r} h any x =
      let u = inner_unit (get_or r.words loop_unit 0) in
      let was = other h loop_unit u in record {
        under = record {
          procedure = was running (λ e. omega arith) ∙ x.under.procedure;
          calls = was calls_used (λ e. omega arith) ∙ x.under.calls;
          turns = omega (arith, was steps_used (λ e. omega arith), x.under.turns);
        };
        held = was arguments_held (λ e. omega arith) ∙ x.held;
        room = record {
          few = omega (arith, x.room.few);
          fits = rw (here h loop_unit u (omega arith)) (inner_fits n (get_or r.words loop_unit 0) any x.room.few x.room.fits);
        };
      }

-- ---- a loop's variable declared, and the loop; its body has a foreach less
module _ {program : List ℕ} {ts : List Token} {g : List ℕ} {granted : Amounts} (gr : Grants g granted) (x : List ℕ)
    (w c limit base n : ℕ) (busy : 0 < c) (any : 0 < n) (own : is_among x (scope_of program ts w) ≡ true) (body : Act Flow) (body' : Run.Action Execute.Flow)
    (does : (r : Raw) (s : State) (total : Amounts) → Related program ts g r s total → Under g w c limit r → get_or r.words arguments_held 0 ≡ base → Room (n - 1) r
    → Follows granted total (Turns program ts g r) (body r) (body' s)) (p : ℕ) where
  repeats : Repeats program ts g granted body body' (Inside g w c limit base (n - 1))
  repeats = record { keeps = λ a q. inside_but a q; does = λ h q. does _ _ _ h q.under q.held q.room }

  pub iterates : {r : Raw} {s : State} {total : Amounts} → Related program ts g r s total → Under g w c limit r → get_or r.words arguments_held 0 ≡ base → Room n r
      → (i : ℕ) → i < get_or r.words shapes_used 0 → is_group_at r.words i ≡ true
      → Follows granted total (Flows program ts g r) (Act.◌>>◌ (declare_once (number_in (scope_of program ts w) x)) (loop_over body g p (number_in (scope_of program ts w) x) i) r)
      (Run.◌>>◌ (declaring_once x) (turns (λ i. Run.◌>>◌ (Run.count p) (iterating (suc i) (λ j. Run.◌>>◌ (binding x j) body') i)) (components_of g r.words i)) s)
  unfolding Act.◌>>=◌ Run.◌>>=◌
  iterates {r} h un z low i l e =
      bind (rw un.procedure at (declares_once h x {granted = granted} (rw un.procedure own))) (λ _ _ r₁ s₁ total₁ a.
      let b = a.after in
      let un₁ = stays b un in
      let low₁ = room_stays b low in
      rw (← components_later b.later h.sound.shapes (untouched_components b.untouched) i l e)
      (flow_from b (loops_over b.related (rw un₁.calls busy) n any low₁.few low₁.fits gr x w body body' (Inside g w c limit base (n - 1)) repeats p
      i (le_trans l b.later.shapes) (group_stays (b.later.figures i l) ∙ e) un₁.procedure (rw un.procedure at a.there)
      (inside_more b.related any (record { under = un₁; held = b.held ∙ z; room = low₁ })))))
