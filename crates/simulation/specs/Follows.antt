-- The run of the code and the specified run, side by side.
use Rattle.std.specs.Prelude.{ℕ, ◌+◌, ◌≤◌, ◌<◌, ◌≡◌, true, false, List, get_or}
use Rattle.meaning.specs.Token.{Token}
use Rattle.meaning.specs.State.{State}
use Rattle.meaning.specs.Run as Run
use Rattle.meaning.specs.Run.{steps, shapes, entries, text_bytes, calls, Taking, Event, End, result, error, Run}
use Rattle.meaning.specs.Book.{Amounts, all_fit, lacking, book, shortage_of}
use Rattle.machine.specs.Layout.{steps_used, shapes_used, entries_used, text_used, tables_made, calls_used, steps_granted, shapes_granted, entries_granted, text_granted, calls_granted, shape_place}
use Rattle.machine.specs.Act.{Raw, Out, done, stop}
use Rattle.machine.specs.Texts.{text_of}
use Rattle.machine.specs.Shapes.{kind_at, is_group_at, destroyed_at, figure_at}
use Rattle.simulation.specs.Meant.{variables_of, suspended_of, shapes_of, entries_of}
use Rattle.simulation.specs.Sound.{Held, Sound}

-- the amounts granted are those of the list of five
pub record Grants (g : List ℕ) (granted : Amounts) : Type 0 where
  pub steps : granted steps ≡ steps_granted g
  pub shapes : granted shapes ≡ shapes_granted g
  pub entries : granted entries ≡ entries_granted g
  pub text : granted text_bytes ≡ text_granted g
  pub calls : granted calls ≡ calls_granted g

-- the slices stand for the state, and their counters for what was taken
pub record Related (program : List ℕ) (ts : List Token) (g : List ℕ) (r : Raw) (s : State) (total : Amounts) : Type 0 where
  pub sound : Sound program ts g r
  pub variables : s.variables ≡ variables_of program ts r
  pub suspended : s.suspended ≡ suspended_of program ts r
  pub shapes : s.shapes ≡ shapes_of program g r
  pub tables : s.tables ≡ get_or r.words tables_made 0
  pub entries : s.entries ≡ entries_of program g r
  pub steps_taken : total Run.steps ≡ get_or r.words steps_used 0
  pub shapes_taken : total Run.shapes ≡ get_or r.words shapes_used 0
  pub entries_taken : total Run.entries ≡ get_or r.words entries_used 0
  pub text_taken : total Run.text_bytes ≡ get_or r.words text_used 0
  pub calls_taken : total Run.calls ≡ get_or r.words calls_used 0

-- a shape stays what it is: a figure with its numbers and text, or a group with its slots; if it is destroyed it remains so
pub record Stays (ws ws' : List ℕ) (i : ℕ) : Type 0 where
  pub kind : kind_at ws' i ≡ kind_at ws i
  pub figure : is_group_at ws i ≡ false → figure_at ws' i ≡ figure_at ws i
  pub slots : get_or ws' (shape_place i + 1) 0 ≡ get_or ws (shape_place i + 1) 0
  pub dead : destroyed_at ws i ≡ true → destroyed_at ws' i ≡ true

-- what was held at r is held at r' and stands for the same: counters only rise, texts held and shapes stay
pub record Later (program : List ℕ) (r r' : Raw) : Type 0 where
  pub steps : get_or r.words steps_used 0 ≤ get_or r'.words steps_used 0
  pub shapes : get_or r.words shapes_used 0 ≤ get_or r'.words shapes_used 0
  pub text : get_or r.words text_used 0 ≤ get_or r'.words text_used 0
  pub tables : get_or r.words tables_made 0 ≤ get_or r'.words tables_made 0
  pub texts : (h : ℕ) → Held program (get_or r.words text_used 0) h → text_of program r'.texts h ≡ text_of program r.texts h
  pub figures : (i : ℕ) → i < get_or r.words shapes_used 0 → Stays r.words r'.words i

-- ---- outcomes
-- Both give results that belong together; or the first taking that does not fit has the number and the place at which the code stops; or both end
-- with one number and place. The steps counted are the same.
pub data Together {A B : Type 0} (granted total : Amounts) (R : A → B → Raw → State → Amounts → Type 0) : Out A → List Event → End B → Type 0 where
  gives : {a : A} {b : B} {r : Raw} {s : State} {us : List Event} (total' : Amounts) → book granted total us ≡ all_fit total' → R a b r s total'
      → Together granted total R (done a r) us (result b s)
  lacks : {n p : ℕ} {r : Raw} {us : List Event} {e : End B} (t : Taking) (total' : Amounts) → book granted total us ≡ lacking t total'
      → shortage_of t.of ≡ n → t.place ≡ p → get_or r.words steps_used 0 ≡ total' steps → Together granted total R (stop n p r) us e
  fails : {n p : ℕ} {r : Raw} {us : List Event} (total' : Amounts) → book granted total us ≡ all_fit total'
      → get_or r.words steps_used 0 ≡ total' steps → Together granted total R (stop n p r) us (error n p)

pub record Follows {A B : Type 0} (granted total : Amounts) (R : A → B → Raw → State → Amounts → Type 0) (o : Out A) (m : Run B) : Type 0 where
  pub is : Together granted total R o m.takings m.end
