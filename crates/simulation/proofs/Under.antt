-- A call under way: its procedure, how many calls there are, and how many turns are left; and what is asked of how calls are performed.
use Prim.Native.Nat.{ℕ, suc, ◌*◌, ◌-◌, ◌≤◌, ◌<◌}
use native.Mathlib.Omega.{arith}
use mathlib.Core.Path.{◌≡◌, ◌∙◌}
use mathlib.Core.List.{List}
use lib.ListN.{get_or}
use Rattle.meaning.specs.Token.{Token, a_name}
use Rattle.meaning.specs.Tree.{Procedure}
use Rattle.meaning.specs.Value as Value
use Rattle.meaning.specs.State.{State}
use Rattle.meaning.specs.Book.{Amounts}
use Rattle.meaning.specs.Procedure.{calling}
use Rattle.names.specs.Prepared.{procedure_number}
use Rattle.code.specs.Code.{slot_of}
use Rattle.reader.proofs.Homes.{Occurs}
use Rattle.machine.specs.Layout.{steps_used, arguments_held, calls_used, running, steps_granted}
use Rattle.machine.specs.Act.{Raw}
use Rattle.machine.specs.Evaluate.{Setting}
use Rattle.machine.specs.Interpret.{invoke_at}
use Rattle.simulation.specs.Follows.{Related, Later, Follows}
use Rattle.simulation.proofs.Results.{Untouched, After, Values}
use Rattle.simulation.proofs.Stacking.{AfterArguments}

-- how many steps are left
abbrev pub steps_left : List ℕ → Raw → ℕ
steps_left g r = steps_granted g - get_or r.words steps_used 0

pub record Under (g : List ℕ) (w c limit : ℕ) (r : Raw) : Type 0 where
  pub procedure : get_or r.words running 0 ≡ w
  pub calls : get_or r.words calls_used 0 ≡ c
  pub turns : steps_left g r < limit

module _ {program : List ℕ} {ts : List Token} {g : List ℕ} {w c limit : ℕ} where
  pub under_later : {r r' : Raw} → Untouched program ts g r r' → Later program r r' → Under g w c limit r → Under g w c limit r'
  under_later u l x = record { procedure = u.running ∙ x.procedure; calls = u.calls ∙ x.calls; turns = omega (arith, l.steps, x.turns) }

pub stays : {program : List ℕ} {ts : List Token} {g : List ℕ} {w c limit : ℕ} {r r' : Raw} {s : State} {total : Amounts} → After program ts g r r' s total
    → Under g w c limit r → Under g w c limit r'
stays a x = under_later a.untouched a.later x

-- A call of a name that is neither main nor in the library, its arguments on the stack, follows what it means, where twice what the stack holds is at
-- most `room`, and a turn more is left than steps.
pub record Invokes (e : Setting) (ts : List Token) (granted : Amounts) (fs : List Procedure) (limit w c room fuel : ℕ) : Type 0 where
  pub follows : (f : List ℕ) → Occurs ts a_name f → procedure_number f ≡ 11 → (p : ℕ) {r r' : Raw} {s s' : State} {total total' : Amounts} {us : List Value.Value}
      → Related e.program ts e.grants r s total → AfterArguments e.program ts e.grants r us r' s' total'
      → Under e.grants w c limit r' → suc (steps_left e.grants r') < limit → 2 * get_or r'.words arguments_held 0 ≤ room
      → Follows granted total' (Values e.program ts e.grants r) (invoke_at fuel e (slot_of ts f) p (get_or r.words arguments_held 0) r') (calling limit fs f p us s')
