-- How statements end, side by side.
use mathlib.Core.List.{List}
use Prim.Native.Nat.{ℕ, ◌<◌}
use native.Mathlib.Omega.{arith}
use lib.ListN.{get_or}
use Rattle.machine.specs.Layout.{steps_used}
use Rattle.meaning.specs.Token.{Token}
use Rattle.meaning.specs.State.{State}
use Rattle.meaning.specs.Run.{Run}
use Rattle.meaning.specs.Book.{Amounts}
use Rattle.meaning.specs.Execute.{onward}
use Rattle.meaning.specs.Execute as Execute
use Rattle.machine.specs.Act.{Raw, Out}
use Rattle.machine.specs.declared.Flow.{Flow}
use Rattle.simulation.specs.Follows.{Follows}
pub use Rattle.simulation.specs.After.{SameFlow, both_onward, both_returned, AfterFlow}
use Rattle.simulation.proofs.Binding.{Relation}
use Rattle.simulation.proofs.Results.{mapped, After}
use Rattle.simulation.proofs.Results as Results
use Rattle.simulation.proofs.Counting.{AfterStep}

module _ (program : List ℕ) (ts : List Token) (g : List ℕ) where
  abbrev pub Flows : Raw → Relation Flow Execute.Flow
  Flows r f f' r' s total = AfterFlow program ts g r f f' r' s total

module _ {program : List ℕ} {ts : List Token} {g : List ℕ} where
  pub flow_from : {r r₁ : Raw} {s₁ : State} {total₁ granted : Amounts} {o : Out Flow} {m : Run Execute.Flow}
      → After program ts g r r₁ s₁ total₁ → Follows granted total₁ (Flows program ts g r₁) o m → Follows granted total₁ (Flows program ts g r) o m
  flow_from a h = mapped (λ f f' r' s' total' w. record { after = Results.onward a w.after; flow = w.flow }) h

-- the same of a statement, which counts a step at least
pub record Turned (program : List ℕ) (ts : List Token) (g : List ℕ) (r : Raw) (f : Flow) (f' : Execute.Flow) (r' : Raw) (s : State) (total : Amounts) : Type 0 where
  pub ends : AfterFlow program ts g r f f' r' s total
  pub steps : get_or r.words steps_used 0 < get_or r'.words steps_used 0

module _ (program : List ℕ) (ts : List Token) (g : List ℕ) where
  abbrev pub Turns : Raw → Relation Flow Execute.Flow
  Turns r f f' r' s total = Turned program ts g r f f' r' s total

module _ {program : List ℕ} {ts : List Token} {g : List ℕ} where
  -- what follows a step
  pub turned : {r r₁ : Raw} {s₁ : State} {total₁ granted : Amounts} {o : Out Flow} {m : Run Execute.Flow}
      → AfterStep program ts g r r₁ s₁ total₁ → Follows granted total₁ (Flows program ts g r₁) o m → Follows granted total₁ (Turns program ts g r) o m
  turned a h = mapped (λ f f' r' s' total' w. record {
    ends = record { after = Results.onward a.after w.after; flow = w.flow };
    steps = omega (arith, a.spare, a.after.later.tables, w.after.later.steps);
  }) h

  pub turned_from : {r r₁ : Raw} {s₁ : State} {total₁ granted : Amounts} {o : Out Flow} {m : Run Execute.Flow}
      → After program ts g r r₁ s₁ total₁ → Follows granted total₁ (Turns program ts g r₁) o m → Follows granted total₁ (Turns program ts g r) o m
  turned_from a h = mapped (λ f f' r' s' total' w. record {
    ends = record { after = Results.onward a w.ends.after; flow = w.ends.flow };
    steps = omega (arith, a.later.steps, w.steps);
  }) h

  pub ended : {r : Raw} {total granted : Amounts} {o : Out Flow} {m : Run Execute.Flow} → Follows granted total (Turns program ts g r) o m → Follows granted total (Flows program ts g r) o m
  ended h = mapped (λ f f' r' s' total' w. w.ends) h
