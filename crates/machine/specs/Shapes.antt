-- Shapes: five words each. The first holds whether it is destroyed (1 bit), its kind (3 bits) and its text's handle; the next two four numbers of 32 bits.
-- A group's kind is 4; its second word holds the slot of its first component and how many there are, its third whether no figure is left in it (Groups).
-- The last two serve walks over groups, whichever the shape is.
use Rattle.std.specs.Prelude.{ℕ, ◌+◌, ◌-◌, ◌*◌, ◌/◌, ◌%◌, ◌^◌, Bool, List, get_or, set, ℤ, eqb}
use Rattle.std.specs.Int.{w32}
use Rattle.std.proofs.Common.{to_z}
use Rattle.meaning.specs.Integer.{bits}
use Rattle.machine.specs.declared.Value.{Value}
use Rattle.machine.specs.declared.Value.TheVariants.{Shape}
use Rattle.machine.specs.declared.Figure.{Figure}
use Rattle.machine.specs.Layout.{shapes_used, shapes_granted, shape_place}
use Rattle.machine.specs.Act.{raw, done, Act, give, load, store, spend, ◌>>=◌, ◌>>◌}

-- ---- words
abbrev pub first_word : ℕ → ℕ → ℕ
first_word kind text = 2 * (kind % 8) + 16 * (text % 2 ^ 40)

abbrev pub pair_word : ℤ → ℤ → ℕ
pair_word x y = bits x + 2 ^ 32 * bits y

abbrev pub low_number : ℕ → ℤ
low_number w = to_z w32 (w % 2 ^ 32)

abbrev pub high_number : ℕ → ℤ
high_number w = to_z w32 (w / 2 ^ 32 % 2 ^ 32)

-- ---- reading
abbrev pub destroyed_at : List ℕ → ℕ → Bool
destroyed_at ws i = eqb (get_or ws (shape_place i) 0 % 2) 1

abbrev pub kind_at : List ℕ → ℕ → ℕ
kind_at ws i = get_or ws (shape_place i) 0 / 2 % 8

abbrev pub kind_group : ℕ
kind_group = 4

abbrev pub is_group_at : List ℕ → ℕ → Bool
is_group_at ws i = eqb (kind_at ws i) kind_group

-- a figure: its kind (0 line, 1 ellipse, 2 box, 3 text), four numbers, and a text's handle, each 0 where it has none
unfoldable pub figure_at : List ℕ → ℕ → Figure
figure_at ws i = record {
  kind = kind_at ws i;
  a = low_number (get_or ws (shape_place i + 1) 0);
  b = high_number (get_or ws (shape_place i + 1) 0);
  c = low_number (get_or ws (shape_place i + 2) 0);
  d = high_number (get_or ws (shape_place i + 2) 0);
  text = get_or ws (shape_place i) 0 / 16;
}

-- ---- writing
-- a figure's words, from a place on
abbrev pub figure_laid : List ℕ → ℕ → Figure → List ℕ
figure_laid ws at f =
    set (set (set ws at (first_word f.kind f.text)) (at + 1) (pair_word f.a f.b)) (at + 2) (pair_word f.c f.d)

unfoldable pub put_figure : ℕ → Figure → Act (Unit {0})
put_figure at f r = done tt (raw r.texts (figure_laid r.words at f))

-- a new shape takes one
unfoldable pub new_shape : List ℕ → ℕ → Figure → Act Value
new_shape g p f = do
  i ← load shapes_used
  spend shapes_used (shapes_granted g) 1 76 p
  put_figure (shape_place i) f
  give (Shape i)

abbrev pub destroyed_word : ℕ → ℕ
destroyed_word w = w - w % 2 + 1

unfoldable pub destroy : ℕ → Act (Unit {0})
destroy i = do
  w ← load (shape_place i)
  store (shape_place i) (destroyed_word w)
