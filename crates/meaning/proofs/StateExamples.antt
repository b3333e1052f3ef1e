-- Examples of variables, shapes, entries and keys.
use Prim.Native.Nat.{ℕ}
use mathlib.Core.Path.{◌≡◌, refl}
use mathlib.Core.Bool.{Bool, true, false}
use mathlib.Core.List.{List, [], ◌∷◌, map}
use mathlib.Core.Option.{Option, some}
use lib.IntN.{ℤ, pos}
use Rattle.meaning.specs.Basics.{bytes}
use Rattle.meaning.specs.Figure.{Figure, line, ellipse, box, text}
use Rattle.meaning.specs.Value.{Value, integer, string, boolean, none, table, shape, kind_of}
use Rattle.meaning.specs.State.{State, Variable, Shape, Entry, Key, atom, group, content_of, is_destroyed, living, shapes_held, shapes_held_by}
use Rattle.meaning.specs.State.{key_with, key_of, same_key, value_in, assigned, destroy, with_shape, with_new_table, entry_in, overwritten}
use Rattle.meaning.proofs.Computing.{everything}
use Rattle.meaning.proofs.Rows.{Row, ◌gives◌, Hold, alive, dead, holding, minus, standing}

abbrev small : (ℤ → ℤ → ℤ → ℤ → Figure) → Figure
small make = make (pos 1) (pos 2) (pos 3) (pos 4)

-- ---- keys
-- shapes that differ in kind, in one number, or in their text alone
abbrev pub many : State
many = record {
  variables = [];
  suspended = [];
  shapes = alive (small line) ∷ alive (small ellipse) ∷ alive (small box) ∷ alive (text (pos 1) (pos 2) (bytes "a")) ∷ alive (text (pos 1) (pos 2) (bytes "b")) ∷
      alive (text (pos 1) (pos 3) (bytes "a")) ∷ alive (line (pos 0) (pos 2) (pos 3) (pos 4)) ∷ alive (line (pos 1) (minus 2) (pos 3) (pos 4)) ∷
      alive (line (pos 1) (pos 2) (pos 5) (pos 4)) ∷ alive (line (pos 1) (pos 2) (pos 3) (pos 5)) ∷ dead (small line) ∷ alive (small box) ∷ [];
  tables = 2;
  entries = [];
}

-- the same with a group of the first two behind them
abbrev pub grouped : State
grouped = with_shape many (group (0 ∷ 1 ∷ []))

abbrev pub different : List Value
different =
    integer (pos 0) ∷ integer (pos 1) ∷ integer (minus 1) ∷ integer (minus 2) ∷ string [] ∷ string (bytes "a") ∷ string (bytes "b") ∷ string (bytes "ab")
    ∷ boolean false ∷ boolean true ∷ none ∷ table 0 ∷ table 1 ∷ shape 0 ∷ shape 1 ∷ shape 2 ∷ shape 3 ∷ shape 4 ∷ shape 5 ∷ shape 6 ∷ shape 7 ∷ shape 8 ∷ shape 9 ∷ []

-- whether two are keys, and match
unfoldable pub matched : Option Key → Option Key → Bool
matched Option.none k = false
matched (some a) Option.none = false
matched (some a) (some b) = same_key a b

unfoldable pub matching : List Value → List (List Bool)
matching vs = map (λ v. map (λ w. matched (key_of many v) (key_of many w)) vs) vs

-- true on the diagonal alone
unfoldable pub diagonal : {A : Type 0} → List A → List (List Bool)
diagonal [] = []
diagonal (v ∷ vs) = (true ∷ map (λ _. false) vs) ∷ map (λ row. false ∷ row) (diagonal vs)

-- each of these is a key of its own
pub own_keys : matching different ≡ diagonal different
unfolding everything matched matching diagonal
own_keys = refl

-- a destroyed shape's key is its figure's, and shapes that look alike have one key
abbrev pub keys : List (Row (State × Value) (Option Key))
keys =
    (many, shape 10) gives some (key_with 5 (pos 1 ∷ pos 2 ∷ pos 3 ∷ pos 4 ∷ []) [])
    ∷ (many, shape 1) gives some (key_with 6 (pos 1 ∷ pos 2 ∷ pos 3 ∷ pos 4 ∷ []) [])
    ∷ (many, shape 11) gives some (key_with 7 (pos 1 ∷ pos 2 ∷ pos 3 ∷ pos 4 ∷ []) [])
    ∷ (many, shape 3) gives some (key_with 8 (pos 1 ∷ pos 2 ∷ []) (bytes "a"))
    ∷ (many, integer (minus 5)) gives some (key_with 0 (minus 5 ∷ []) [])
    ∷ (many, string (bytes "day")) gives some (key_with 1 [] (bytes "day"))
    ∷ (many, boolean true) gives some (key_with 2 (pos 1 ∷ []) [])
    ∷ (many, boolean false) gives some (key_with 2 (pos 0 ∷ []) [])
    ∷ (many, none) gives some (key_with 3 [] [])
    ∷ (many, table 1) gives some (key_with 4 (pos 1 ∷ []) [])
    ∷ (grouped, shape 12) gives Option.none
    ∷ []

pub keys_hold : Hold (λ (q : State × Value). key_of q.0 q.1) keys
unfolding everything
keys_hold = refl

pub kinds_hold : map kind_of (integer (pos 5) ∷ string [] ∷ boolean true ∷ none ∷ table 0 ∷ shape 0 ∷ []) ≡ 0 ∷ 1 ∷ 2 ∷ 3 ∷ 4 ∷ 5 ∷ []
unfolding everything
kinds_hold = refl

-- ---- variables
abbrev two : List Variable
two = holding "a" none ∷ holding "b" (table 0) ∷ []

abbrev five : Value
five = integer (pos 5)

abbrev pub found : List (Row (Option Value) (Option Value))
found =
    value_in two (bytes "a") gives some none
    ∷ value_in two (bytes "b") gives some (table 0)
    ∷ value_in two (bytes "c") gives Option.none
    ∷ value_in two (bytes "ab") gives Option.none
    ∷ []

pub found_hold : Hold (λ v. v) found
unfolding everything
found_hold = refl

abbrev pub assignments : List (Row (List Variable) (List Variable))
assignments =
    assigned two (bytes "a") five gives (holding "a" five ∷ holding "b" (table 0) ∷ [])
    ∷ assigned two (bytes "b") five gives (holding "a" none ∷ holding "b" five ∷ [])
    ∷ assigned two (bytes "c") five gives two
    ∷ []

pub assignments_hold : Hold (λ v. v) assignments
unfolding everything
assignments_hold = refl

-- ---- shapes
abbrev three : List Shape
three = alive (small line) ∷ dead (small ellipse) ∷ alive (small box) ∷ []

abbrev pub shape_lists : List (Row (List Shape) (List Shape))
shape_lists =
    destroy three 2 gives (alive (small line) ∷ dead (small ellipse) ∷ dead (small box) ∷ [])
    ∷ destroy three 1 gives three
    ∷ destroy three 0 gives (dead (small line) ∷ dead (small ellipse) ∷ alive (small box) ∷ [])
    ∷ (with_shape standing (atom (small box))).shapes gives
    (alive (box (pos 2) (pos 9) (pos 3) (pos 10)) ∷ alive (line (pos 1) (pos 2) (pos 30) (pos 40)) ∷ alive (ellipse (pos 5) (pos 6) (pos 7) (pos 8)) ∷
    alive (text (pos 11) (pos 12) (bytes "ab")) ∷ dead (line (pos 1) (pos 1) (pos 1) (pos 1)) ∷ alive (small box) ∷ [])
    ∷ []

pub shape_lists_hold : Hold (λ v. v) shape_lists
unfolding everything
shape_lists_hold = refl

-- the shapes that variables hold, destroyed ones too, and those that are not destroyed
pub shapes-held :
    (shapes_held (holding "a" (shape 2) ∷ holding "b" (integer (pos 1)) ∷ holding "c" (shape 4) ∷ holding "d" (shape 2) ∷ holding "e" (table 0) ∷ []) ≡ 2 ∷ 4 ∷ 2 ∷ [])
    × (shapes_held (holding "a" (string []) ∷ holding "b" (boolean true) ∷ holding "c" none ∷ []) ≡ [])
    × (shapes_held_by ((holding "a" (shape 3) ∷ holding "b" (shape 1) ∷ []) ∷ [] ∷ (holding "a" (shape 2) ∷ []) ∷ []) ≡ 3 ∷ 1 ∷ 2 ∷ [])
    × (living standing (2 ∷ 4 ∷ 0 ∷ 5 ∷ 2 ∷ []) ≡ 2 ∷ 0 ∷ 2 ∷ [])
unfolding everything
shapes-held = (refl, refl, refl, refl)

pub tables_counted : (with_new_table standing).tables ≡ 3
tables_counted = refl

-- the number of no shape
pub no_shape_lem : (content_of standing 5 ≡ atom (line (pos 0) (pos 0) (pos 0) (pos 0))) × (is_destroyed standing 5 ≡ true)
no_shape_lem = (refl, refl)

-- ---- entries
abbrev entry : ℕ → ℕ → Value → Entry
entry t n v = record { owner = t; key = key_with 0 (pos n ∷ []) []; holds = v }

abbrev stored : List Entry
stored = entry 0 1 none ∷ entry 1 1 (table 0) ∷ entry 0 2 (table 1) ∷ []

abbrev at : ℕ → Key
at n = key_with 0 (pos n ∷ []) []

abbrev pub look_ups : List (Row (Option Value) (Option Value))
look_ups =
    entry_in stored 0 (at 1) gives some none
    ∷ entry_in stored 1 (at 1) gives some (table 0)
    ∷ entry_in stored 0 (at 2) gives some (table 1)
    ∷ entry_in stored 1 (at 2) gives Option.none
    ∷ entry_in stored 0 (key_with 1 (pos 1 ∷ []) []) gives Option.none
    ∷ entry_in stored 0 (key_with 0 (pos 1 ∷ []) (bytes "a")) gives Option.none
    ∷ entry_in stored 0 (key_with 0 (pos 1 ∷ pos 1 ∷ []) []) gives Option.none
    ∷ []

pub look_ups_hold : Hold (λ v. v) look_ups
unfolding everything
look_ups_hold = refl

abbrev pub overwritings : List (Row (List Entry) (List Entry))
overwritings =
    overwritten stored 0 (at 1) five gives (entry 0 1 five ∷ entry 1 1 (table 0) ∷ entry 0 2 (table 1) ∷ [])
    ∷ overwritten stored 1 (at 1) five gives (entry 0 1 none ∷ entry 1 1 five ∷ entry 0 2 (table 1) ∷ [])
    ∷ overwritten stored 0 (at 2) five gives (entry 0 1 none ∷ entry 1 1 (table 0) ∷ entry 0 2 five ∷ [])
    ∷ overwritten stored 2 (at 2) five gives stored
    ∷ []

pub overwritings_hold : Hold (λ v. v) overwritings
unfolding everything
overwritings_hold = refl
