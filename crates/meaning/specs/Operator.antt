-- What values are asked, and what operators do (figure 3 of the IMG specification).
use Rattle.std.specs.Prelude.{ℕ, suc, Bool, true, false, not, cond, ◌&&◌, List, ◌++◌, length, ℤ}
use Rattle.std.specs.Int.Signed.{lt_z}
use Rattle.meaning.specs.Basics.{same_text}
use Rattle.meaning.specs.Integer.{sum, difference, product, quotient, shifted_left, shifted_right, is_zero, same_integer}
use Rattle.meaning.specs.Integer as Integer
use Rattle.meaning.specs.Figure.{Figure, plus_x, plus_y, minus_x, minus_y, scaled_up, scaled_down}
use Rattle.meaning.specs.Tree.{Operator, concatenate, add, subtract, multiply, divide, remainder, shift_right, shift_left, equal, unequal, greater, less}
use Rattle.meaning.specs.Value.{Value, integer, string, boolean, none, table, shape}
use Rattle.meaning.specs.State.{State, is_destroyed, content_of, by_content}
use Rattle.meaning.specs.Run.{Action, text_bytes, ◌>>=◌, ◌>>◌, give, fail, spend, refuse, current}
use Rattle.meaning.specs.Group.{remade, alike}

-- ---- questions about one value, at a place
-- a destroyed shape is 30
unfoldable pub is_dead : State → Value → Bool
is_dead s (integer z) = false
is_dead s (string t) = false
is_dead s (boolean b) = false
is_dead s none = false
is_dead s (table t) = false
is_dead s (shape i) = is_destroyed s i

unfoldable pub usable : ℕ → Value → Action (Unit {0})
usable p v = do
  s ← current
  refuse (is_dead s v) 30 p

-- each of these goes on with a value of one kind; every other kind is 20
unfoldable pub with_integer : {A : Type 0} → ℕ → Value → (ℤ → Action A) → Action A
with_integer p (integer z) k = k z
with_integer p (string t) k = fail 20 p
with_integer p (boolean b) k = fail 20 p
with_integer p none k = fail 20 p
with_integer p (table t) k = fail 20 p
with_integer p (shape i) k = fail 20 p

unfoldable pub with_string : {A : Type 0} → ℕ → Value → (List ℕ → Action A) → Action A
with_string p (integer z) k = fail 20 p
with_string p (string t) k = k t
with_string p (boolean b) k = fail 20 p
with_string p none k = fail 20 p
with_string p (table t) k = fail 20 p
with_string p (shape i) k = fail 20 p

unfoldable pub with_boolean : {A : Type 0} → ℕ → Value → (Bool → Action A) → Action A
with_boolean p (integer z) k = fail 20 p
with_boolean p (string t) k = fail 20 p
with_boolean p (boolean b) k = k b
with_boolean p none k = fail 20 p
with_boolean p (table t) k = fail 20 p
with_boolean p (shape i) k = fail 20 p

unfoldable pub with_table : {A : Type 0} → ℕ → Value → (ℕ → Action A) → Action A
with_table p (integer z) k = fail 20 p
with_table p (string t) k = fail 20 p
with_table p (boolean b) k = fail 20 p
with_table p none k = fail 20 p
with_table p (table t) k = k t
with_table p (shape i) k = fail 20 p

unfoldable pub with_shape_number : {A : Type 0} → ℕ → Value → (ℕ → Action A) → Action A
with_shape_number p (integer z) k = fail 20 p
with_shape_number p (string t) k = fail 20 p
with_shape_number p (boolean b) k = fail 20 p
with_shape_number p none k = fail 20 p
with_shape_number p (table t) k = fail 20 p
with_shape_number p (shape i) k = k i

unfoldable pub with_figure : {A : Type 0} → ℕ → Value → (Figure → Action A) → Action A
with_figure p v k = with_shape_number p v λ i. current >>= λ s. by_content (content_of s i) k (λ cs. fail 20 p)

unfoldable pub with_group : {A : Type 0} → ℕ → Value → (List ℕ → Action A) → Action A
with_group p v k = with_shape_number p v λ i. current >>= λ s. by_content (content_of s i) (λ a. fail 20 p) k

-- ---- strings made
-- a joined string takes as many text bytes as it is long
unfoldable pub new_string : ℕ → List ℕ → Action Value
new_string p t = do
  spend text_bytes (length t) p
  give (string t)

-- ---- operators
-- two integers by f, or a shape and an integer by g, of a group each figure in it; where the right side divides it must not be 0, which is asked first
unfoldable pub calculated : Bool → (ℤ → ℤ → ℤ) → (Figure → ℤ → Figure) → ℕ → Value → Value → Action Value
calculated divides f g p (integer a) w =
    with_integer p w λ b. refuse (divides && is_zero b) 70 p >> give (integer (f a b))
calculated divides f g p (string t) w = fail 20 p
calculated divides f g p (boolean b) w = fail 20 p
calculated divides f g p none w = fail 20 p
calculated divides f g p (table t) w = fail 20 p
calculated divides f g p (shape i) w =
    with_integer p w λ b. refuse (divides && is_zero b) 70 p >> (remade (suc i) p (λ a. g a b) i >>= λ j. give (shape j))

-- two integers only
unfoldable pub compared : (ℤ → ℤ → Bool) → ℕ → Value → Value → Action Value
compared f p v w = with_integer p v λ a. with_integer p w λ b. give (boolean (f a b))

unfoldable pub remaindered : ℕ → Value → Value → Action Value
remaindered p v w = with_integer p v λ a. with_integer p w λ b. refuse (is_zero b) 70 p >> give (integer (Integer.remainder a b))

unfoldable pub joined : ℕ → Value → Value → Action Value
joined p v w = with_string p v λ a. with_string p w λ b. new_string p (a ++ b)

-- what a pair of values comes to: it cannot be compared, it is settled, or it is two shapes, whose contents decide
pub data Comparison : Type 0 where
  refused : Comparison
  settled : Bool → Comparison
  of_shapes : ℕ → ℕ → Comparison

-- Figure 3's rows of == and !=, by the kinds of both sides. Integers, strings, booleans and shapes are compared with their own kind; nothing but none
-- equals none; a pair that cannot be compared, two tables among them, is refused.
unfoldable pub equality : Value → Value → Comparison
equality (integer a) (integer b) = settled (same_integer a b)
equality (integer a) (string b) = refused
equality (integer a) (boolean b) = refused
equality (integer a) none = settled false
equality (integer a) (table b) = refused
equality (integer a) (shape j) = refused
equality (string a) (integer b) = refused
equality (string a) (string b) = settled (same_text a b)
equality (string a) (boolean b) = refused
equality (string a) none = settled false
equality (string a) (table b) = refused
equality (string a) (shape j) = refused
equality (boolean a) (integer b) = refused
equality (boolean a) (string b) = refused
equality (boolean a) (boolean b) = settled (cond a b (not b))
equality (boolean a) none = settled false
equality (boolean a) (table b) = refused
equality (boolean a) (shape j) = refused
equality none (integer b) = settled false
equality none (string b) = settled false
equality none (boolean b) = settled false
equality none none = settled true
equality none (table b) = settled false
equality none (shape j) = settled false
equality (table a) (integer b) = refused
equality (table a) (string b) = refused
equality (table a) (boolean b) = refused
equality (table a) none = settled false
equality (table a) (table b) = refused
equality (table a) (shape j) = refused
equality (shape i) (integer b) = refused
equality (shape i) (string b) = refused
equality (shape i) (boolean b) = refused
equality (shape i) none = settled false
equality (shape i) (table b) = refused
equality (shape i) (shape j) = of_shapes i j

unfoldable pub answered : ℕ → (Bool → Bool) → Comparison → Action Value
answered p f refused = fail 20 p
answered p f (settled b) = give (boolean (f b))
answered p f (of_shapes i j) = alike (suc i) p i j >>= λ b. give (boolean (f b))

unfoldable pub equated : (Bool → Bool) → ℕ → Value → Value → Action Value
equated f p v w = answered p f (equality v w)

unfoldable pub operate_on : Operator → ℕ → Value → Value → Action Value
operate_on concatenate = joined
operate_on add = calculated false sum plus_y
operate_on subtract = calculated false difference minus_y
operate_on multiply = calculated false product scaled_up
operate_on divide = calculated true quotient scaled_down
operate_on remainder = remaindered
operate_on shift_right = calculated false shifted_right plus_x
operate_on shift_left = calculated false shifted_left minus_x
operate_on equal = equated (λ b. b)
operate_on unequal = equated not
operate_on greater = compared (λ a b. lt_z b a)
operate_on less = compared lt_z

-- both sides are evaluated; a shape among them must not be destroyed by now
unfoldable pub operate : Operator → ℕ → Value → Value → Action Value
operate o p v w = do
  usable p v
  usable p w
  operate_on o p v w
