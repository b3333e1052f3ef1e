-- Expressions of integers worked out at once, and arguments that are strings or shapes. Their values are words; 0 says that this does not apply, and the
-- expression is evaluated.
-- x is the root's place in the code; depth bounds how deep expressions are nested.
use Rattle.std.specs.Prelude.{ℕ, zero, suc, ◌+◌, ◌-◌, ◌*◌, ◌%◌, ◌^◌, ◌≡◌, Bool, not, ◌&&◌, List, get_or, set, ℤ, eqb, ltb, leb}
use Rattle.std.specs.Int.Signed.{lt_z}
use Rattle.std.specs.Int.{w32}
use Rattle.std.proofs.Common.{to_z}
use Rattle.meaning.specs.Basics.{if◌then◌otherwise◌}
use Rattle.meaning.specs.Integer.{sum, difference, product, quotient, remainder, shifted_left, shifted_right, is_zero, same_integer}
use Rattle.machine.specs.Opcodes.{tag_in, size_in, number_in, first_operator, head_number, head_string, head_name, tag_add, tag_subtract, tag_multiply}
use Rattle.machine.specs.Opcodes.{tag_divide, tag_remainder, tag_shift_right, tag_shift_left, tag_equal, tag_unequal, tag_greater, tag_less}
use Rattle.machine.specs.declared.Value.TheVariants.{Integer, Text, Boolean, Shape}
use Rattle.machine.specs.Words.{kind_in, kind_integer, kind_truth, kind_shape, packed}
use Rattle.machine.specs.Words as Words
use Rattle.machine.specs.Layout.{steps_used, steps_granted}
use Rattle.machine.specs.Variables.{holding}
use Rattle.machine.specs.Shapes.{destroyed_at}

-- ---- constants and variables
-- what a variable holds, if it is an integer or a truth
unfoldable pub plain_word : ℕ → ℕ
plain_word u =
    if eqb (kind_in u) kind_integer then (λ _. u % 2 ^ 35)
    otherwise λ _. if eqb (kind_in u) kind_truth then (λ _. u % 16)
    otherwise λ _. 0

-- by the word of the code, whose lower half is that of a number or a name; the number above has 32 bits
unfoldable pub leaf_word : List ℕ → ℕ → ℕ
leaf_word ws w =
    if eqb (w % 2 ^ 32) head_number then (λ _. if ltb (number_in w) (2 ^ 32) then (λ _. 1 + 8 * number_in w) otherwise λ _. 0)
    otherwise λ _. if eqb (w % 2 ^ 32) head_name then (λ _. plain_word (holding ws (number_in w)))
    otherwise λ _. 0

-- ---- operators
-- on two integers, by the operator's tag
unfoldable pub operator_word : ℕ → ℤ → ℤ → ℕ
operator_word tag x y =
    if eqb tag tag_add then (λ _. packed (Integer (sum x y)))
    otherwise λ _. if eqb tag tag_subtract then (λ _. packed (Integer (difference x y)))
    otherwise λ _. if eqb tag tag_multiply then (λ _. packed (Integer (product x y)))
    otherwise λ _. if eqb tag tag_divide then (λ _. if is_zero y then (λ _. 0) otherwise λ _. packed (Integer (quotient x y)))
    otherwise λ _. if eqb tag tag_remainder then (λ _. if is_zero y then (λ _. 0) otherwise λ _. packed (Integer (remainder x y)))
    otherwise λ _. if eqb tag tag_shift_right then (λ _. packed (Integer (shifted_right x y)))
    otherwise λ _. if eqb tag tag_shift_left then (λ _. packed (Integer (shifted_left x y)))
    otherwise λ _. if eqb tag tag_equal then (λ _. packed (Boolean (same_integer x y)))
    otherwise λ _. if eqb tag tag_unequal then (λ _. packed (Boolean (not (same_integer x y))))
    otherwise λ _. if eqb tag tag_greater then (λ _. packed (Boolean (lt_z y x)))
    otherwise λ _. if eqb tag tag_less then (λ _. packed (Boolean (lt_z x y)))
    otherwise λ _. 0

-- on two words, which must hold integers
unfoldable pub word_on : ℕ → ℕ → ℕ → ℕ
word_on tag a b =
    if eqb (kind_in a) kind_integer
    then (λ _. if eqb (kind_in b) kind_integer then (λ _. operator_word tag (to_z w32 (Words.number_in a)) (to_z w32 (Words.number_in b))) otherwise λ _. 0)
    otherwise λ _. 0

-- an expression has one word more than its two sides
abbrev pub sizes_agree : ℕ → ℕ → ℕ → Bool
sizes_agree w u v = eqb (size_in w) (size_in u + size_in v + 1)

-- on two expressions, whose roots stand before its own
unfoldable pub operation_word : (ℕ → ℕ) → List ℕ → ℕ → ℕ → ℕ
operation_word inner code w x =
    if sizes_agree w (get_or code (x - 1 - number_in w) 0) (get_or code (x - 1) 0)
    then (λ _. word_on (tag_in w) (inner (x - 1 - number_in w)) (inner (x - 1)))
    otherwise λ _. 0

-- ---- expressions
unfoldable pub fast_at : ℕ → List ℕ → List ℕ → ℕ → ℕ
fast_at zero code ws x = 0
fast_at (suc depth) code ws x =
    if ltb (tag_in (get_or code x 0)) first_operator then (λ _. leaf_word ws (get_or code x 0))
    otherwise λ _. operation_word (fast_at depth code ws) code (get_or code x 0) x

-- ---- arguments
-- the shape that a variable's word holds, if it is not destroyed
unfoldable pub living_word : List ℕ → ℕ → ℕ
living_word ws u = if eqb (kind_in u) kind_shape && not (destroyed_at ws (Words.number_in u)) then (λ _. packed (Shape (Words.number_in u))) otherwise λ _. 0

-- a string, or a variable that holds such a shape, by the word of the code, as above
unfoldable pub other_word : List ℕ → ℕ → ℕ
other_word ws w =
    if eqb (w % 2 ^ 32) head_string then (λ _. if ltb (number_in w) (2 ^ 32) then (λ _. packed (Text (2 * number_in w))) otherwise λ _. 0)
    otherwise λ _. if eqb (w % 2 ^ 32) head_name then (λ _. living_word ws (holding ws (number_in w)))
    otherwise λ _. 0

-- a constant, a variable or a string
unfoldable pub leaf_argument : List ℕ → ℕ → ℕ
leaf_argument ws w = if eqb (other_word ws w) 0 then (λ _. leaf_word ws w) otherwise λ _. other_word ws w

unfoldable pub argument_at : ℕ → List ℕ → List ℕ → ℕ → ℕ
argument_at zero code ws x = 0
argument_at (suc depth) code ws x =
    if eqb (other_word ws (get_or code x 0)) 0 then (λ _. fast_at (suc depth) code ws x) otherwise λ _. other_word ws (get_or code x 0)

-- ---- steps
-- as many as the expression has words; they are counted at once, if they stay within the grant
unfoldable pub applies : ℕ → ℕ → List ℕ → List ℕ → Bool
applies word steps g ws = not (eqb word 0) && leb (get_or ws steps_used 0 + steps) (steps_granted g)

-- the value, which is this word if that applies, with the words then
pub record Values (word steps : ℕ) (g before : List ℕ) (value : ℕ) (after : List ℕ) : Type 0 where
  pub result : value ≡ (if applies word steps g before then (λ _. word) otherwise λ _. 0)
  pub words : after ≡ (if applies word steps g before then (λ _. set before steps_used (get_or before steps_used 0 + steps)) otherwise λ _. before)
