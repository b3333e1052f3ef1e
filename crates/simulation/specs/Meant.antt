-- What the code's values, figures and lent slices stand for.
use Rattle.std.specs.Prelude.{ℕ, zero, suc, ◌+◌, ◌-◌, List, [], ◌∷◌, get_or, eqb}
use Rattle.std.proofs.Math.Option.{Option, some}
use Rattle.meaning.specs.Basics.{if◌then◌otherwise◌}
use Rattle.meaning.specs.Token.{Token}
use Rattle.meaning.specs.Figure.{line, ellipse, box, text}
use Rattle.meaning.specs.Figure as Meaning
use Rattle.meaning.specs.Value.{integer, string, boolean, none, table, shape}
use Rattle.meaning.specs.Value as Value
use Rattle.meaning.specs.State.{Variable, Content, atom, group, Key, Entry, key_with, key_of}
use Rattle.meaning.specs.State as State
use Rattle.machine.specs.declared.Value.{Value}
use Rattle.machine.specs.declared.Value.TheVariants.{Integer, Text, Boolean, Nothing, Table, Shape}
use Rattle.machine.specs.Words.{unpacked}
use Rattle.machine.specs.Layout.{shapes_used, entries_made, declared, calls_used, running, frame, call_place}
use Rattle.machine.specs.Act.{Raw}
use Rattle.machine.specs.Texts.{text_of}
use Rattle.machine.specs.declared.Figure.{Figure}
use Rattle.machine.specs.Shapes.{is_group_at, figure_at, destroyed_at}
use Rattle.machine.specs.Groups.{component_at, first_at, count_at}
use Rattle.machine.specs.Variables.{number_of, holding_of}
use Rattle.machine.specs.Tables.{owner_at, key_at, value_at}
use Rattle.simulation.specs.Scope.{scope_of}

-- ---- values and figures: a handle stands for its text, a number for itself
unfoldable pub meant_value : List ℕ → List ℕ → Value → Value.Value
meant_value program texts (Integer z) = integer z
meant_value program texts (Text h) = string (text_of program texts h)
meant_value program texts (Boolean b) = boolean b
meant_value program texts Nothing = none
meant_value program texts (Table t) = table t
meant_value program texts (Shape i) = shape i

abbrev pub meant_word : List ℕ → Raw → ℕ → Value.Value
meant_word program r w = meant_value program r.texts (unpacked w)

unfoldable pub meant_figure : List ℕ → List ℕ → Figure → Meaning.Figure
meant_figure program texts f =
    if eqb f.kind 0 then (λ _. line f.a f.b f.c f.d)
    otherwise λ _. if eqb f.kind 1 then (λ _. ellipse f.a f.b f.c f.d)
    otherwise λ _. if eqb f.kind 2 then (λ _. box f.a f.b f.c f.d)
    otherwise λ _. text f.a f.b (text_of program texts f.text)

-- ---- the state
-- f k, f (k + 1) and so on, n of them
unfoldable pub listed : {A : Type 0} → (ℕ → A) → ℕ → ℕ → List A
listed f k zero = []
listed f k (suc n) = f k ∷ listed f (suc k) n

-- the variable of the k-th declaration in the frame f, whose names these are
unfoldable pub variable_at : List ℕ → List (List ℕ) → Raw → ℕ → ℕ → Variable
variable_at program names r f k = record {
  name = get_or names (number_of r.words f k) [];
  holds = meant_word program r (holding_of r.words f k);
}

-- n of them, in the order of their declarations
unfoldable pub frame_of : List ℕ → List (List ℕ) → Raw → ℕ → ℕ → List Variable
frame_of program names r f n = listed (variable_at program names r f) 0 n

-- those of the call under way
abbrev pub variables_of : List ℕ → List Token → Raw → List Variable
variables_of program ts r = frame_of program (scope_of program ts (get_or r.words running 0)) r (get_or r.words frame 0) (get_or r.words declared 0)

-- the d-th call that waits: its frame, how many variables it has declared, its procedure and the unit of its innermost loop
abbrev pub frame_at : List ℕ → ℕ → ℕ
frame_at ws d = get_or ws (call_place d) 0

abbrev pub declared_at : List ℕ → ℕ → ℕ
declared_at ws d = get_or ws (call_place d + 1) 0

abbrev pub running_at : List ℕ → ℕ → ℕ
running_at ws d = get_or ws (call_place d + 2) 0

abbrev pub unit_at : List ℕ → ℕ → ℕ
unit_at ws d = get_or ws (call_place d + 3) 0

-- its variables
unfoldable pub waiting_of : List ℕ → List Token → Raw → ℕ → List Variable
waiting_of program ts r d = frame_of program (scope_of program ts (running_at r.words d)) r (frame_at r.words d) (declared_at r.words d)

-- of all calls that wait for the one under way, main's first
unfoldable pub suspended_of : List ℕ → List Token → Raw → List (List Variable)
suspended_of program ts r = listed (waiting_of program ts r) 1 (get_or r.words calls_used 0 - 1)

-- the components of a group, by their numbers
unfoldable pub components_of : List ℕ → List ℕ → ℕ → List ℕ
components_of g ws i = listed (component_at g ws) (first_at ws i) (count_at ws i)

unfoldable pub content_at : List ℕ → List ℕ → Raw → ℕ → Content
content_at program g r i =
    if is_group_at r.words i then (λ _. group (components_of g r.words i)) otherwise λ _. atom (meant_figure program r.texts (figure_at r.words i))

unfoldable pub shape_at : List ℕ → List ℕ → Raw → ℕ → State.Shape
shape_at program g r i = record { content = content_at program g r i; destroyed = destroyed_at r.words i }

unfoldable pub shapes_of : List ℕ → List ℕ → Raw → List State.Shape
shapes_of program g r = listed (shape_at program g r) 0 (get_or r.words shapes_used 0)

-- what a value is as a key among some shapes; no entry's key is a group
unfoldable pub some_key : Option Key → Key
some_key Option.none = key_with 0 [] []
some_key (some k) = k

unfoldable pub key_among : List State.Shape → Value.Value → Key
key_among ss v = some_key (key_of (record { variables = []; suspended = []; shapes = ss; tables = 0; entries = [] }) v)

abbrev pub meant_key : List ℕ → List ℕ → Raw → ℕ → Key
meant_key program g r w = key_among (shapes_of program g r) (meant_word program r w)

unfoldable pub entry_at : List ℕ → List ℕ → Raw → ℕ → Entry
entry_at program g r k = record {
  owner = owner_at g r.words k;
  key = meant_key program g r (key_at g r.words k);
  holds = meant_word program r (value_at g r.words k);
}

unfoldable pub entries_of : List ℕ → List ℕ → Raw → List Entry
entries_of program g r = listed (entry_at program g r) 0 (get_or r.words entries_made 0)
