-- The results that belong together, from slices r on.
use Rattle.std.specs.Prelude.{ℕ, suc, ◌+◌, ◌≤◌, ◌<◌, ◌≡◌, ◌≢◌, List, get_or}
use Rattle.meaning.specs.Token.{Token}
use Rattle.meaning.specs.Value as Value
use Rattle.meaning.specs.State.{State}
use Rattle.meaning.specs.Book.{Amounts}
use Rattle.meaning.specs.Execute.{onward, returned}
use Rattle.meaning.specs.Execute as Execute
use Rattle.machine.specs.declared.Value.{Value}
use Rattle.machine.specs.Layout.{steps_used, tables_made, arguments_held, calls_used, running, components_made, loop_unit, frame, call_place, component_place}
use Rattle.machine.specs.Act.{Raw}
use Rattle.machine.specs.Stack.{argument_at}
use Rattle.machine.specs.Variables.{holding}
use Rattle.machine.specs.declared.Flow.{Flow}
use Rattle.machine.specs.declared.Flow.TheVariants.{Onward, Returned}
use Rattle.simulation.specs.Meant.{meant_value}
use Rattle.simulation.specs.Sound.{Valid, size_of, mark_in}
use Rattle.simulation.specs.Follows.{Related, Later}

-- the calls that wait, the procedure under way and its frame, the stack below the frame and above it as far as it was held, the components of groups, and the
-- marks of loops under way; what was declared is so still
pub record Untouched (program : List ℕ) (ts : List Token) (g : List ℕ) (r r' : Raw) : Type 0 where
  pub calls : get_or r'.words calls_used 0 ≡ get_or r.words calls_used 0
  pub kept : (d j : ℕ) → 0 < d → d < get_or r.words calls_used 0 → j < 4 → get_or r'.words (call_place d + j) 0 ≡ get_or r.words (call_place d + j) 0
  pub below : (k : ℕ) → k < get_or r.words frame 0 → argument_at r'.words k ≡ argument_at r.words k
  pub above : (k : ℕ) → get_or r.words frame 0 + suc (size_of program ts (get_or r.words running 0)) ≤ k → k < get_or r.words arguments_held 0
      → argument_at r'.words k ≡ argument_at r.words k
  pub made : get_or r.words components_made 0 ≤ get_or r'.words components_made 0
  pub components : (k : ℕ) → k < get_or r.words components_made 0 → get_or r'.words (component_place g k) 0 ≡ get_or r.words (component_place g k) 0
  pub unit : get_or r'.words loop_unit 0 ≡ get_or r.words loop_unit 0
  pub marks : (d k : ℕ) → d < get_or r.words calls_used 0 → mark_in g r'.words d k ≡ mark_in g r.words d k
  pub bound : (i : ℕ) → i ≤ size_of program ts (get_or r.words running 0) → holding r.words i ≢ 0 → holding r'.words i ≢ 0
  pub running : get_or r'.words running 0 ≡ get_or r.words running 0
  pub frame : get_or r'.words frame 0 ≡ get_or r.words frame 0

-- The slices stand for the state. No more tables were made than steps counted; the calls under way and their arguments are untouched.
pub record After (program : List ℕ) (ts : List Token) (g : List ℕ) (r r' : Raw) (s : State) (total : Amounts) : Type 0 where
  pub related : Related program ts g r' s total
  pub later : Later program r r'
  pub spare : get_or r'.words tables_made 0 + get_or r.words steps_used 0 ≤ get_or r.words tables_made 0 + get_or r'.words steps_used 0
  pub held : get_or r'.words arguments_held 0 ≡ get_or r.words arguments_held 0
  pub untouched : Untouched program ts g r r'

-- values: the code's is held and stands for the meaning's
pub record AfterValue (program : List ℕ) (ts : List Token) (g : List ℕ) (r : Raw) (v : Value) (u : Value.Value) (r' : Raw) (s : State) (total : Amounts) : Type 0 where
  pub after : After program ts g r r' s total
  pub valid : Valid program r'.words v
  pub means : u ≡ meant_value program r'.texts v

-- how a statement ends: both go on, or both return values that belong together
pub data SameFlow (program : List ℕ) (r : Raw) : Flow → Execute.Flow → Type 0 where
  both_onward : SameFlow program r Onward onward
  both_returned : {v : Value} {u : Value.Value} → Valid program r.words v → u ≡ meant_value program r.texts v → SameFlow program r (Returned v) (returned u)

pub record AfterFlow (program : List ℕ) (ts : List Token) (g : List ℕ) (r : Raw) (f : Flow) (f' : Execute.Flow) (r' : Raw) (s : State) (total : Amounts) : Type 0 where
  pub after : After program ts g r r' s total
  pub flow : SameFlow program r' f f'
