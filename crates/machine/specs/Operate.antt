-- Operators on values as the code holds them.
use Rattle.std.specs.Prelude.{ℕ, Bool, true, false, not, ◌&&◌, cond, List, ℤ, eqb}
use Rattle.std.specs.Int.Signed.{lt_z}
use Rattle.meaning.specs.Basics.{if◌then◌otherwise◌, same_text}
use Rattle.meaning.specs.Integer.{sum, difference, product, quotient, shifted_left, shifted_right, is_zero, same_integer}
use Rattle.meaning.specs.Integer as Integer
use Rattle.machine.specs.Opcodes.{tag_concatenate, tag_add, tag_subtract, tag_multiply, tag_divide, tag_remainder, tag_shift_right, tag_shift_left, tag_equal, tag_unequal, tag_greater, tag_less}
use Rattle.machine.specs.declared.Value.{Value}
use Rattle.machine.specs.declared.Value.TheVariants.{Integer, Text, Boolean, Nothing, Table, Shape}
use Rattle.machine.specs.Act.{Raw, Act, ◌>>=◌, ◌>>◌, give, fail, refuse, held}
use Rattle.machine.specs.Texts.{text_of, join_texts}
use Rattle.machine.specs.declared.Figure.{Figure}
use Rattle.machine.specs.Layout.{shapes_granted}
use Rattle.machine.specs.Shapes.{is_group_at, figure_at}
use Rattle.machine.specs.Groups.{remake, alike_at}
use Rattle.machine.specs.Variables.{usable}

-- ---- values of one kind; every other kind is 20
unfoldable pub with_integer : {A : Type 0} → ℕ → Value → (ℤ → Act A) → Act A
with_integer p (Integer z) k = k z
with_integer p (Text h) k = fail 20 p
with_integer p (Boolean b) k = fail 20 p
with_integer p Nothing k = fail 20 p
with_integer p (Table t) k = fail 20 p
with_integer p (Shape i) k = fail 20 p

unfoldable pub with_text : {A : Type 0} → ℕ → Value → (ℕ → Act A) → Act A
with_text p (Integer z) k = fail 20 p
with_text p (Text h) k = k h
with_text p (Boolean b) k = fail 20 p
with_text p Nothing k = fail 20 p
with_text p (Table t) k = fail 20 p
with_text p (Shape i) k = fail 20 p

unfoldable pub with_boolean : {A : Type 0} → ℕ → Value → (Bool → Act A) → Act A
with_boolean p (Integer z) k = fail 20 p
with_boolean p (Text h) k = fail 20 p
with_boolean p (Boolean b) k = k b
with_boolean p Nothing k = fail 20 p
with_boolean p (Table t) k = fail 20 p
with_boolean p (Shape i) k = fail 20 p

unfoldable pub with_table : {A : Type 0} → ℕ → Value → (ℕ → Act A) → Act A
with_table p (Integer z) k = fail 20 p
with_table p (Text h) k = fail 20 p
with_table p (Boolean b) k = fail 20 p
with_table p Nothing k = fail 20 p
with_table p (Table t) k = k t
with_table p (Shape i) k = fail 20 p

unfoldable pub with_shape : {A : Type 0} → ℕ → Value → (ℕ → Act A) → Act A
with_shape p (Integer z) k = fail 20 p
with_shape p (Text h) k = fail 20 p
with_shape p (Boolean b) k = fail 20 p
with_shape p Nothing k = fail 20 p
with_shape p (Table t) k = fail 20 p
with_shape p (Shape i) k = k i

unfoldable pub with_group : {A : Type 0} → ℕ → Value → (ℕ → Act A) → Act A
with_group p v k = with_shape p v λ i. held >>= λ ws. if is_group_at ws i then (λ _. k i) otherwise λ _. fail 20 p

-- ---- figures
-- each x coordinate by f, each y coordinate by g
unfoldable pub moved : (ℤ → ℤ) → (ℤ → ℤ) → Figure → Figure
moved f g s = record {
  kind = s.kind;
  a = f s.a;
  b = g s.b;
  c = cond (eqb s.kind 0) (f s.c) s.c;
  d = cond (eqb s.kind 0) (g s.d) s.d;
  text = s.text;
}

abbrev pub kept : ℤ → ℤ
kept z = z

unfoldable pub plus_y : Figure → ℤ → Figure
plus_y s n = moved kept (λ y. sum y n) s

unfoldable pub minus_y : Figure → ℤ → Figure
minus_y s n = moved kept (λ y. difference y n) s

unfoldable pub plus_x : Figure → ℤ → Figure
plus_x s n = moved (λ x. sum x n) kept s

unfoldable pub minus_x : Figure → ℤ → Figure
minus_x s n = moved (λ x. difference x n) kept s

-- each number by f; a text's last two are 0, and remain so where f gives 0 for 0
unfoldable pub scaled : (ℤ → ℤ) → Figure → Figure
scaled f s = record {
  kind = s.kind;
  a = f s.a;
  b = f s.b;
  c = f s.c;
  d = f s.d;
  text = s.text;
}

unfoldable pub scaled_up : Figure → ℤ → Figure
scaled_up s n = scaled (λ z. product z n) s

unfoldable pub scaled_down : Figure → ℤ → Figure
scaled_down s n = scaled (λ z. quotient z n) s

-- the same kind, numbers and text
unfoldable pub same_figure : List ℕ → List ℕ → Figure → Figure → Bool
same_figure program texts s t =
    eqb s.kind t.kind && same_integer s.a t.a && same_integer s.b t.b && same_integer s.c t.c &&
    same_integer s.d t.d && same_text (text_of program texts s.text) (text_of program texts t.text)

-- ---- operators
-- two integers by f, or a shape and an integer by g; where the right side divides it must not be 0
unfoldable pub calculated : List ℕ → Bool → (ℤ → ℤ → ℤ) → (Figure → ℤ → Figure) → ℕ → Value → Value → Act Value
calculated grants divides f g p (Integer a) w =
    with_integer p w λ b. refuse (divides && is_zero b) 70 p >> give (Integer (f a b))
calculated grants divides f g p (Text h) w = fail 20 p
calculated grants divides f g p (Boolean b) w = fail 20 p
calculated grants divides f g p Nothing w = fail 20 p
calculated grants divides f g p (Table t) w = fail 20 p
calculated grants divides f g p (Shape i) w =
    with_integer p w λ b. refuse (divides && is_zero b) 70 p >> remake grants p (λ s. g s b) i

-- two integers only
unfoldable pub compared : (ℤ → ℤ → Bool) → ℕ → Value → Value → Act Value
compared f p v w = with_integer p v λ a. with_integer p w λ b. give (Boolean (f a b))

unfoldable pub remaindered : ℕ → Value → Value → Act Value
remaindered p v w = with_integer p v λ a. with_integer p w λ b. refuse (is_zero b) 70 p >> give (Integer (Integer.remainder a b))

unfoldable pub joined : List ℕ → List ℕ → ℕ → Value → Value → Act Value
joined program grants p v w = with_text p v λ a. with_text p w λ b. join_texts program grants p a b

-- what two values come to: they cannot be compared, it is settled, or they are two shapes, whose contents decide
pub data Comparison : Type 0 where
  refused : Comparison
  settled : Bool → Comparison
  of_shapes : ℕ → ℕ → Comparison

unfoldable pub equality : List ℕ → Raw → Value → Value → Comparison
equality program r (Integer a) (Integer b) = settled (same_integer a b)
equality program r (Integer a) (Text b) = refused
equality program r (Integer a) (Boolean b) = refused
equality program r (Integer a) Nothing = settled false
equality program r (Integer a) (Table b) = refused
equality program r (Integer a) (Shape b) = refused
equality program r (Text a) (Integer b) = refused
equality program r (Text a) (Text b) = settled (same_text (text_of program r.texts a) (text_of program r.texts b))
equality program r (Text a) (Boolean b) = refused
equality program r (Text a) Nothing = settled false
equality program r (Text a) (Table b) = refused
equality program r (Text a) (Shape b) = refused
equality program r (Boolean a) (Integer b) = refused
equality program r (Boolean a) (Text b) = refused
equality program r (Boolean a) (Boolean b) = settled (cond a b (not b))
equality program r (Boolean a) Nothing = settled false
equality program r (Boolean a) (Table b) = refused
equality program r (Boolean a) (Shape b) = refused
equality program r Nothing (Integer b) = settled false
equality program r Nothing (Text b) = settled false
equality program r Nothing (Boolean b) = settled false
equality program r Nothing Nothing = settled true
equality program r Nothing (Table b) = settled false
equality program r Nothing (Shape b) = settled false
equality program r (Table a) (Integer b) = refused
equality program r (Table a) (Text b) = refused
equality program r (Table a) (Boolean b) = refused
equality program r (Table a) Nothing = settled false
equality program r (Table a) (Table b) = refused
equality program r (Table a) (Shape b) = refused
equality program r (Shape a) (Integer b) = refused
equality program r (Shape a) (Text b) = refused
equality program r (Shape a) (Boolean b) = refused
equality program r (Shape a) Nothing = settled false
equality program r (Shape a) (Table b) = refused
equality program r (Shape a) (Shape b) = of_shapes a b

-- two figures by their shapes' numbers
unfoldable pub figures_same : List ℕ → ℕ → ℕ → Act Bool
figures_same program i j r = give (same_figure program r.texts (figure_at r.words i) (figure_at r.words j)) r

unfoldable pub answered : List ℕ → List ℕ → ℕ → (Bool → Bool) → Comparison → Act Value
answered program grants p f refused = fail 20 p
answered program grants p f (settled b) = give (Boolean (f b))
answered program grants p f (of_shapes i j) = alike_at (figures_same program) (shapes_granted grants) grants p 0 i j >>= λ b. give (Boolean (f b))

unfoldable pub equated : List ℕ → List ℕ → (Bool → Bool) → ℕ → Value → Value → Act Value
equated program grants f p v w r = answered program grants p f (equality program r v w) r

-- by the operator's tag
unfoldable pub operate_on : List ℕ → List ℕ → ℕ → ℕ → Value → Value → Act Value
operate_on program grants tag p v w =
    if eqb tag tag_concatenate then (λ _. joined program grants p v w)
    otherwise λ _. if eqb tag tag_add then (λ _. calculated grants false sum plus_y p v w)
    otherwise λ _. if eqb tag tag_subtract then (λ _. calculated grants false difference minus_y p v w)
    otherwise λ _. if eqb tag tag_multiply then (λ _. calculated grants false product scaled_up p v w)
    otherwise λ _. if eqb tag tag_divide then (λ _. calculated grants true quotient scaled_down p v w)
    otherwise λ _. if eqb tag tag_remainder then (λ _. remaindered p v w)
    otherwise λ _. if eqb tag tag_shift_right then (λ _. calculated grants false shifted_right plus_x p v w)
    otherwise λ _. if eqb tag tag_shift_left then (λ _. calculated grants false shifted_left minus_x p v w)
    otherwise λ _. if eqb tag tag_equal then (λ _. equated program grants (λ b. b) p v w)
    otherwise λ _. if eqb tag tag_unequal then (λ _. equated program grants not p v w)
    otherwise λ _. if eqb tag tag_greater then (λ _. compared (λ a b. lt_z b a) p v w)
    otherwise λ _. if eqb tag tag_less then (λ _. compared lt_z p v w)
    otherwise λ _. fail 20 p

-- a shape among the sides must not be destroyed by now
unfoldable pub operate : List ℕ → List ℕ → ℕ → ℕ → Value → Value → Act Value
operate program grants tag p v w = do
  usable p v
  usable p w
  operate_on program grants tag p v w
