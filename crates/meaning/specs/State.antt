-- The state of a run: variables, shapes, and the entries of tables.
use Rattle.std.specs.Prelude.{ℕ, suc, ◌+◌, Bool, true, false, ◌&&◌, cond, List, [], ◌∷◌, ◌++◌, get_or, set, ℤ, pos, eqb}
use Rattle.std.proofs.Math.Option.{Option, some}
use Rattle.meaning.specs.Basics.{if◌then◌otherwise◌, same_text}
use Rattle.meaning.specs.Integer.{same_integers}
use Rattle.meaning.specs.Figure.{Figure, line, figure_kind, numbers_of, text_of}
use Rattle.meaning.specs.Value.{Value, integer, string, boolean, none, table, shape}

pub record Variable : Type 0 where
  pub name : List ℕ
  pub holds : Value

-- a figure, or a group of older shapes
pub data Content : Type 0 where
  atom : Figure → Content
  group : List ℕ → Content

pub record Shape : Type 0 where
  pub content : Content
  pub destroyed : Bool

-- what a value is as a key: its kind, numbers and text, of a shape its figure's, whatever becomes of the shape
pub record Key : Type 0 where
  pub kind : ℕ
  pub numbers : List ℤ
  pub text : List ℕ

-- an entry of a table
pub record Entry : Type 0 where
  pub owner : ℕ
  pub key : Key
  pub holds : Value

-- the variables of the call under way in the order of their declarations, those of each call that waits for another, main's first, shapes as they were
-- made, how many tables were made, and the entries of all tables
pub record State : Type 0 where
  pub variables : List Variable
  pub suspended : List (List Variable)
  pub shapes : List Shape
  pub tables : ℕ
  pub entries : List Entry

-- ---- variables
unfoldable pub value_in : List Variable → List ℕ → Option Value
value_in [] x = Option.none
value_in (v ∷ vs) x = if same_text v.name x then (λ _. some v.holds) otherwise λ _. value_in vs x

unfoldable pub is_some : Option Value → Bool
is_some Option.none = false
is_some (some v) = true

abbrev pub is_declared : State → List ℕ → Bool
is_declared s x = is_some (value_in s.variables x)

unfoldable pub assigned : List Variable → List ℕ → Value → List Variable
assigned [] x u = []
assigned (v ∷ vs) x u =
    if same_text v.name x then (λ _. record { name = v.name; holds = u } ∷ vs) otherwise λ _. v ∷ assigned vs x u

abbrev pub with_variables : State → List Variable → State
with_variables s vs = record { variables = vs; suspended = s.suspended; shapes = s.shapes; tables = s.tables; entries = s.entries }

-- declared, and none yet
unfoldable pub fresh : List (List ℕ) → List Variable
fresh [] = []
fresh (x ∷ xs) = record { name = x; holds = none } ∷ fresh xs

-- a call begins with variables of its own, and that under way waits for it; it goes on with its variables when s' is the state at the return
abbrev pub entered : State → List Variable → State
entered s vs = record { variables = vs; suspended = s.suspended ++ (s.variables ∷ []); shapes = s.shapes; tables = s.tables; entries = s.entries }

abbrev pub resumed : State → State → State
resumed s s' = record { variables = s.variables; suspended = s.suspended; shapes = s'.shapes; tables = s'.tables; entries = s'.entries }

-- ---- shapes
-- what the number of no shape stands for; no value holds such a number
abbrev pub no_shape : Shape
no_shape = record { content = atom (line (pos 0) (pos 0) (pos 0) (pos 0)); destroyed = true }

abbrev pub content_of : State → ℕ → Content
content_of s i = (get_or s.shapes i no_shape).content

-- by what a shape is
unfoldable pub by_content : {A : Type 0} → Content → (Figure → A) → (List ℕ → A) → A
by_content (atom a) f g = f a
by_content (group cs) f g = g cs

unfoldable pub components_in : Content → List ℕ
components_in (atom a) = []
components_in (group cs) = cs

abbrev pub is_destroyed : State → ℕ → Bool
is_destroyed s i = (get_or s.shapes i no_shape).destroyed

abbrev pub with_shapes : State → List Shape → State
with_shapes s ss = record { variables = s.variables; suspended = s.suspended; shapes = ss; tables = s.tables; entries = s.entries }

unfoldable pub with_shape : State → Content → State
with_shape s c = with_shapes s (s.shapes ++ (record { content = c; destroyed = false } ∷ []))

unfoldable pub destroy : List Shape → ℕ → List Shape
destroy ss i = set ss i (record { content = (get_or ss i no_shape).content; destroyed = true })

-- those of some shapes that are not destroyed
unfoldable pub living : State → List ℕ → List ℕ
living s [] = []
living s (i ∷ is) = if is_destroyed s i then (λ _. living s is) otherwise λ _. i ∷ living s is

-- the shapes that variables hold, in their order
unfoldable pub shape_in : Value → List ℕ
shape_in (integer z) = []
shape_in (string t) = []
shape_in (boolean b) = []
shape_in none = []
shape_in (table t) = []
shape_in (shape i) = i ∷ []

unfoldable pub shapes_held : List Variable → List ℕ
shapes_held [] = []
shapes_held (v ∷ vs) = shape_in v.holds ++ shapes_held vs

-- the same of several calls
unfoldable pub shapes_held_by : List (List Variable) → List ℕ
shapes_held_by [] = []
shapes_held_by (vs ∷ more) = shapes_held vs ++ shapes_held_by more

-- ---- tables
abbrev pub key_with : ℕ → List ℤ → List ℕ → Key
key_with k ns t = record { kind = k; numbers = ns; text = t }

abbrev pub figure_key : Figure → Key
figure_key a = key_with (5 + figure_kind a) (numbers_of a) (text_of a)

-- a group is no key
unfoldable pub key_of : State → Value → Option Key
key_of s (integer z) = some (key_with 0 (z ∷ []) [])
key_of s (string t) = some (key_with 1 [] t)
key_of s (boolean b) = some (key_with 2 (pos (cond b 1 0) ∷ []) [])
key_of s none = some (key_with 3 [] [])
key_of s (table t) = some (key_with 4 (pos t ∷ []) [])
key_of s (shape i) = by_content (content_of s i) (λ a. some (figure_key a)) (λ cs. Option.none)

-- the same kind, numbers and text
unfoldable pub same_key : Key → Key → Bool
same_key a b = eqb a.kind b.kind && same_integers a.numbers b.numbers && same_text a.text b.text

abbrev pub matches : Entry → ℕ → Key → Bool
matches e t k = eqb e.owner t && same_key e.key k

unfoldable pub entry_in : List Entry → ℕ → Key → Option Value
entry_in [] t k = Option.none
entry_in (e ∷ es) t k = if matches e t k then (λ _. some e.holds) otherwise λ _. entry_in es t k

-- the entry with this key overwritten
unfoldable pub overwritten : List Entry → ℕ → Key → Value → List Entry
overwritten [] t k u = []
overwritten (e ∷ es) t k u =
    if matches e t k then (λ _. record { owner = e.owner; key = e.key; holds = u } ∷ es) otherwise λ _. e ∷ overwritten es t k u

abbrev pub with_entries : State → List Entry → State
with_entries s es = record { variables = s.variables; suspended = s.suspended; shapes = s.shapes; tables = s.tables; entries = es }

abbrev pub with_new_table : State → State
with_new_table s = record { variables = s.variables; suspended = s.suspended; shapes = s.shapes; tables = suc s.tables; entries = s.entries }
