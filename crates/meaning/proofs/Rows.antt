-- Tables of examples: each row asks something and says the answer, and one claim says that all of a table's rows hold.
use Prim.Native.Nat.{ℕ}
use Prim.Native.String.{String}
use mathlib.Core.Path.{◌≡◌}
use mathlib.Core.Bool.{true, false, cond}
use mathlib.Core.List.{List, [], ◌∷◌, ◌++◌, map}
use lib.IntN.{ℤ, pos, neg_ℤ}
use lib.Dec.{eqb}
use Rattle.meaning.specs.Basics.{bytes}
use Rattle.meaning.specs.Token.{Lexed, lexed, stray, tokens_of}
use Rattle.meaning.specs.Tree.{Expression, Statement}
use Rattle.meaning.specs.Grammar.{Got, good, wrong, expression, statement}
use Rattle.meaning.specs.Figure.{Figure, line, ellipse, box, text}
use Rattle.meaning.specs.Value.{Value, integer, string, boolean, none, table, shape}
use Rattle.meaning.specs.State.{State, Shape, Variable, atom, key_with, content_of, by_content}
use Rattle.meaning.specs.Run.{End, result, error, unfinished}
use Rattle.meaning.specs.Evaluate.{evaluate}
use Rattle.meaning.specs.Procedure.{calling}
use Rattle.meaning.specs.Execute.{execute}

-- ---- tables
infix 68 ◌gives◌
pub data Row (Q A : Type 0) : Type 0 where
  ◌gives◌ : Q → A → Row Q A

abbrev pub asked : {Q A : Type 0} → List (Row Q A) → List Q
asked [] = []
asked ((q gives a) ∷ rows) = q ∷ asked rows

abbrev pub answered : {Q A : Type 0} → List (Row Q A) → List A
answered [] = []
answered ((q gives a) ∷ rows) = a ∷ answered rows

abbrev pub Hold : {Q A : Type 0} → (Q → A) → List (Row Q A) → Type 0
Hold f rows = map f (asked rows) ≡ answered rows

-- ---- a state to ask in
abbrev pub alive : Figure → Shape
alive a = record { content = atom a; destroyed = false }

abbrev pub dead : Figure → Shape
dead a = record { content = atom a; destroyed = true }

abbrev pub holding : String → Value → Variable
holding x v = record { name = bytes x; holds = v }

abbrev pub minus : ℕ → ℤ
minus n = neg_ℤ (pos n)

-- The variables i, s, b, o, t and f hold a value of each kind: an integer, a string, a boolean, none, a table and a shape. There are a line l, an
-- ellipse e and a text x too, a destroyed shape d, a second table u, and the largest and the smallest integer.
abbrev pub standing : State
standing = record {
  variables = holding "i" (integer (pos 7)) ∷ holding "s" (string (bytes "ab")) ∷ holding "b" (boolean true) ∷ holding "o" none ∷ holding "t" (table 0) ∷
      holding "f" (shape 0) ∷ holding "l" (shape 1) ∷ holding "e" (shape 2) ∷ holding "x" (shape 3) ∷ holding "d" (shape 4) ∷ holding "u" (table 1) ∷
      holding "max" (integer (pos 2147483647)) ∷ holding "min" (integer (minus 2147483648)) ∷ [];
  suspended = [];
  shapes = alive (box (pos 2) (pos 9) (pos 3) (pos 10)) ∷ alive (line (pos 1) (pos 2) (pos 30) (pos 40)) ∷ alive (ellipse (pos 5) (pos 6) (pos 7) (pos 8)) ∷
      alive (text (pos 11) (pos 12) (bytes "ab")) ∷ dead (line (pos 1) (pos 1) (pos 1) (pos 1)) ∷ [];
  tables = 2;
  entries = record { owner = 0; key = key_with 0 (pos 1 ∷ []) []; holds = string (bytes "one") } ∷ record { owner = 0; key = key_with 0 (pos 9 ∷ []) []; holds = shape 4 }
      ∷ record { owner = 1; key = key_with 0 (pos 1 ∷ []) []; holds = integer (pos 22) } ∷ record { owner = 0; key = key_with 1 [] (bytes "ab"); holds = shape 0 } ∷ [];
}

-- ---- expressions
-- what evaluating ends with: a value, a shape's figure or components, or a number and its place
pub data Shown : Type 0 where
  value : Value → Shown
  figure : Figure → Shown
  components : List ℕ → Shown
  number : ℕ → ℕ → Shown
  nothing : Shown

shown_value : State → Value → Shown
shown_value s (integer z) = value (integer z)
shown_value s (string t) = value (string t)
shown_value s (boolean b) = value (boolean b)
shown_value s none = value none
shown_value s (table t) = value (table t)
shown_value s (shape i) = by_content (content_of s i) figure components

unfoldable pub shown : End Value → Shown
unfolding shown_value
shown (result v s) = shown_value s v
shown (error n p) = number n p
shown unfinished = nothing

evaluated_read : State → Got Expression → Shown
unfolding shown
evaluated_read s (good e j) = shown (evaluate (calling 9 []) e 5 s).end
evaluated_read s (wrong n j) = nothing

evaluated_lexed : State → Lexed → Shown
evaluated_lexed s (lexed ts) = evaluated_read s (expression 64 ts 0)
evaluated_lexed s (stray p) = nothing

-- an expression, evaluated at place 5 in that state
unfoldable pub evaluated : String → Shown
unfolding evaluated_read evaluated_lexed shown
evaluated e = evaluated_lexed standing (tokens_of (bytes e))

unfoldable pub evaluated_bytes : List ℕ → Shown
unfolding evaluated_read evaluated_lexed shown
evaluated_bytes e = evaluated_lexed standing (tokens_of e)

-- ---- short forms of what is shown
abbrev pub whole : ℕ → Shown
whole n = value (integer (pos n))

abbrev pub less : ℕ → Shown
less n = value (integer (minus n))

abbrev pub word : String → Shown
word w = value (string (bytes w))

abbrev pub yes : Shown
yes = value (boolean true)

abbrev pub no : Shown
no = value (boolean false)

abbrev pub fails : ℕ → Shown
fails n = number n 5

-- ---- kinds at a glance
-- a letter for what is shown: the variable's that holds such a value, a dot for 20 at the place, and ? for anything else
letter_of : Shown → ℕ
letter_of (value (integer z)) = 105
letter_of (value (string t)) = 115
letter_of (value (boolean b)) = 98
letter_of (value none) = 111
letter_of (value (table t)) = 116
letter_of (value (shape i)) = 63
letter_of (figure a) = 102
letter_of (components cs) = 103
letter_of (number n p) = cond (eqb n 20) (cond (eqb p 5) 46 63) 63
letter_of nothing = 63

-- each # replaced by a letter
placed : ℕ → List ℕ → List ℕ
placed k [] = []
placed k (x ∷ xs) = cond (eqb x 35) k x ∷ placed k xs

abbrev kinds : List ℕ
kinds = bytes "isbotf"

-- the expression with each of the six kinds in the place of #
unfoldable pub kinds_at : String → List ℕ
unfolding letter_of placed
kinds_at e = map (λ k. letter_of (evaluated_bytes (placed k (bytes e)))) kinds

-- a statement likewise, executed: + where it ends with a result
letter_of_end : {A : Type 0} → End A → ℕ
letter_of_end (result a s) = 43
letter_of_end (error n p) = cond (eqb n 20) (cond (eqb p 0) 46 63) 63
letter_of_end unfinished = 63

executed_read : Got Statement → ℕ
unfolding letter_of_end
executed_read (good s j) = letter_of_end (execute (calling 9 []) s 9 standing).end
executed_read (wrong n j) = 63

executed_lexed : Lexed → ℕ
unfolding executed_read
executed_lexed (lexed ts) = executed_read (statement 64 ts 0)
executed_lexed (stray p) = 63

unfoldable pub statement_kinds : String → List ℕ
unfolding placed executed_lexed executed_read letter_of_end
statement_kinds s = map (λ k. executed_lexed (tokens_of (placed k (bytes s)))) kinds

-- the operator between any two of the six kinds
rows_of : String → List ℕ → List ℕ
unfolding letter_of
rows_of o [] = []
rows_of o (k ∷ ks) = 32 ∷ map (λ l. letter_of (evaluated_bytes (k ∷ bytes o ++ (l ∷ [])))) kinds ++ rows_of o ks

unfoldable pub kinds_of : String → List ℕ
unfolding rows_of
kinds_of o = rows_of o kinds
