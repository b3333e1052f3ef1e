-- Laws of comparison.
use Prim.Native.Nat.{ℕ, ◌<◌}
use mathlib.Core.Path.{◌≡◌, refl, ap}
use native.Mathlib.Omega.{arith}
use mathlib.Core.Bool.{Bool, true, false, not, cond}
use lib.IntN.{ℤ}
use Rattle.meaning.specs.Basics.{same_text}
use Rattle.meaning.specs.Integer.{same_integer}
use Rattle.meaning.specs.Tree.{greater, less}
use Rattle.meaning.specs.Value.{Value, integer, string, boolean, none, table, shape, kind_of}
use Rattle.meaning.specs.Operator.{with_integer, compared, Comparison, refused, settled, of_shapes, equality, operate_on}
use Rattle.meaning.proofs.KeyLaws.{test_symmetric, same_text_same, same_text_iff, same_integer_same, same_integer_iff}

-- a > b is b < a
pub greater_less : (p : ℕ) (a b : ℤ) → operate_on greater p (integer a) (integer b) ≡ operate_on less p (integer b) (integer a)
unfolding operate_on compared with_integer
greater_less p a b = refl

-- every value equals itself, but no table is compared, and of a shape its content decides
pub equality_same : (v : Value) → kind_of v < 4 → equality v v ≡ settled true
unfolding equality kind_of
equality_same (integer z) h = ap settled (same_integer_same z)
equality_same (string t) h = ap settled (same_text_same t)
equality_same (boolean true) h = refl
equality_same (boolean false) h = refl
equality_same none h = refl
equality_same (table t) h = absurd (omega arith)
equality_same (shape i) h = absurd (omega arith)

-- the sides can be exchanged: of two shapes too, by the law of what they hold
unfoldable pub exchanged : Comparison → Comparison
exchanged refused = refused
exchanged (settled b) = settled b
exchanged (of_shapes i j) = of_shapes j i

same_truth : (a b : Bool) → cond a b (not b) ≡ cond b a (not a)
same_truth true true = refl
same_truth true false = refl
same_truth false true = refl
same_truth false false = refl

pub equality_symmetric : (v w : Value) → equality v w ≡ exchanged (equality w v)
unfolding equality exchanged
equality_symmetric (integer a) (integer b) = ap settled (test_symmetric same_integer same_integer_iff a b)
equality_symmetric (integer a) (string b) = refl
equality_symmetric (integer a) (boolean b) = refl
equality_symmetric (integer a) none = refl
equality_symmetric (integer a) (table b) = refl
equality_symmetric (integer a) (shape j) = refl
equality_symmetric (string a) (integer b) = refl
equality_symmetric (string a) (string b) = ap settled (test_symmetric same_text same_text_iff a b)
equality_symmetric (string a) (boolean b) = refl
equality_symmetric (string a) none = refl
equality_symmetric (string a) (table b) = refl
equality_symmetric (string a) (shape j) = refl
equality_symmetric (boolean a) (integer b) = refl
equality_symmetric (boolean a) (string b) = refl
equality_symmetric (boolean a) (boolean b) = ap settled (same_truth a b)
equality_symmetric (boolean a) none = refl
equality_symmetric (boolean a) (table b) = refl
equality_symmetric (boolean a) (shape j) = refl
equality_symmetric none (integer b) = refl
equality_symmetric none (string b) = refl
equality_symmetric none (boolean b) = refl
equality_symmetric none none = refl
equality_symmetric none (table b) = refl
equality_symmetric none (shape j) = refl
equality_symmetric (table a) (integer b) = refl
equality_symmetric (table a) (string b) = refl
equality_symmetric (table a) (boolean b) = refl
equality_symmetric (table a) none = refl
equality_symmetric (table a) (table b) = refl
equality_symmetric (table a) (shape j) = refl
equality_symmetric (shape i) (integer b) = refl
equality_symmetric (shape i) (string b) = refl
equality_symmetric (shape i) (boolean b) = refl
equality_symmetric (shape i) none = refl
equality_symmetric (shape i) (table b) = refl
equality_symmetric (shape i) (shape j) = refl
