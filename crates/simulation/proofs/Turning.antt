-- A turn of a loop over a group: its variable bound to a figure, and then the body.
use Prim.Native.Nat.{ℕ, ◌<◌}
use mathlib.Core.Logic.{◌≢◌}
use mathlib.Core.List.{List}
use lib.ListN.{get_or}
use Rattle.meaning.specs.Token.{Token}
use Rattle.meaning.specs.State.{State}
use Rattle.meaning.specs.Run as Run
use Rattle.meaning.specs.Book.{Amounts}
use Rattle.meaning.specs.Execute.{binding}
use Rattle.meaning.specs.Execute as Execute
use Rattle.numbering.specs.Numbers.{number_in}
use Rattle.machine.specs.declared.Flow.{Flow}
use Rattle.machine.specs.Layout.{shapes_used, running}
use Rattle.machine.specs.Act.{Raw, Act}
use Rattle.machine.specs.Act as Act
use Rattle.machine.specs.Variables.{holding}
use Rattle.machine.specs.Loops.{turn}
use Rattle.simulation.specs.Scope.{scope_of}
use Rattle.simulation.specs.Follows.{Related, Follows}
use Rattle.simulation.proofs.Binding.{bind}
use Rattle.simulation.proofs.Results.{After}
use Rattle.simulation.proofs.Flows.{Turns, turned_from}
use Rattle.simulation.proofs.Looping.{binds}

module _ {program : List ℕ} {ts : List Token} {g : List ℕ} {granted : Amounts} (x : List ℕ) (body : Act Flow) (body' : Run.Action Execute.Flow) where
  pub turn_follows : {r : Raw} {s : State} {total : Amounts} → Related program ts g r s total → (i : ℕ) → i < get_or r.words shapes_used 0
      → holding r.words (number_in (scope_of program ts (get_or r.words running 0)) x) ≢ 0
      → ((r' : Raw) (s' : State) (total' : Amounts) → After program ts g r r' s' total' → Follows granted total' (Turns program ts g r') (body r') (body' s'))
      → Follows granted total (Turns program ts g r) (turn body (number_in (scope_of program ts (get_or r.words running 0)) x) i r) (Run.◌>>◌ (binding x i) body' s)
  unfolding Act.◌>>=◌ Run.◌>>=◌
  turn_follows h i l n does = bind (binds h x i l n) (λ _ _ r₁ s₁ total₁ a. turned_from a (does r₁ s₁ total₁ a))
