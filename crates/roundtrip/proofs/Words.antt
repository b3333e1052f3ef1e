-- The words of a text: what its tokens are, without their places; and how many levels it opens.
use Prim.Native.Nat.{ℕ, suc, max}
use mathlib.Core.Bool.{Bool, ◌||◌, cond}
use mathlib.Core.List.{List, [], ◌∷◌, ◌++◌}
use lib.IntN.{ℤ, pos, negsuc}
use Rattle.meaning.specs.Basics.{bytes}
use Rattle.meaning.specs.Token.{digits, a_string, a_name, word_def, word_var, word_if, word_while, word_return, word_none, word_true, word_false, word_foreach, word_in, word_do}
use Rattle.meaning.specs.Token.{dot, comma, semicolon, open_paren, close_paren, open_bracket, close_bracket, open_brace, close_brace, becomes, doubled}
use Rattle.meaning.specs.Picture.{digits_of}
use Rattle.meaning.specs.Tree.{Operator, concatenate, add, subtract, multiply, divide, remainder, shift_right, shift_left, equal, unequal, greater, less, Expression, number, string, nothing, truth}
use Rattle.meaning.specs.Tree.{name, table, entry, operation, call, paren, Arguments, no_argument, argument, Statement, declare, assign, update, when, while, foreach, return, block, act, Statements}
use Rattle.meaning.specs.Tree.{only, first, Procedure}
use Rattle.canonical.specs.Text.{operator_text, is_operation, is_entry}

-- a token by its kind and text; or a minus and, directly behind it, digits
pub data Word : Type 0 where
  plain : ℕ → List ℕ → Word
  negative : List ℕ → Word

-- how many tokens some words are
abbrev pub tokens : List Word → ℕ
tokens [] = 0
tokens (plain k x ∷ ws) = suc (tokens ws)
tokens (negative x ∷ ws) = suc (suc (tokens ws))

-- a sign, and another word
abbrev pub sign : ℕ → List Word
sign k = plain k (k ∷ []) ∷ []

abbrev pub a_word : ℕ → List ℕ → List Word
a_word k x = plain k x ∷ []

-- words with a comma between each two
unfoldable pub joined : List (List Word) → List Word
joined [] = []
joined (w ∷ []) = w
joined (w ∷ v ∷ more) = w ++ sign comma ++ joined (v ∷ more)

-- ---- expressions
unfoldable pub operator_kind : Operator → ℕ
operator_kind concatenate = doubled 43
operator_kind add = 43
operator_kind subtract = 45
operator_kind multiply = 42
operator_kind divide = 47
operator_kind remainder = 37
operator_kind shift_right = doubled 62
operator_kind shift_left = doubled 60
operator_kind equal = doubled 61
operator_kind unequal = doubled 33
operator_kind greater = 62
operator_kind less = 60

-- the words of a constant
unfoldable pub number_words : ℤ → List Word
number_words (pos n) = a_word digits (digits_of n)
number_words (negsuc n) = negative (digits_of (suc n)) ∷ []

-- in parentheses if they are needed
unfoldable pub enclosed_words : Bool → List Word → List Word
enclosed_words needed ws = cond needed (sign open_paren ++ ws ++ sign close_paren) ws

unfoldable mutual
  pub words : Expression → List Word
  words (number z) = number_words z
  words (string t) = a_word a_string t
  words nothing = a_word word_none (bytes "none")
  words (truth b) = cond b (a_word word_true (bytes "true")) (a_word word_false (bytes "false"))
  words (name x) = a_word a_name x
  words (table e) = sign open_bracket ++ words e ++ sign close_bracket
  words (entry a b) = enclosed_words (is_operation a || is_entry a) (words a) ++ sign dot ++ enclosed_words (is_operation b || is_entry b) (words b)
  words (operation o a b) = enclosed_words (is_operation a) (words a) ++ a_word (operator_kind o) (operator_text o) ++ enclosed_words (is_operation b) (words b)
  words (call f es) = a_word a_name f ++ sign open_paren ++ joined (argument_words es) ++ sign close_paren
  words (paren e) = words e

  pub argument_words : Arguments → List (List Word)
  argument_words no_argument = []
  argument_words (argument e es) = words e ∷ argument_words es

-- how many levels the text opens, each inside the one before
unfoldable pub levels_in : Bool → ℕ → ℕ
levels_in enclosed n = cond enclosed (suc n) n

unfoldable mutual
  pub levels : Expression → ℕ
  levels (number z) = 0
  levels (string t) = 0
  levels nothing = 0
  levels (truth b) = 0
  levels (name x) = 0
  levels (table e) = suc (levels e)
  levels (entry a b) = max (levels_in (is_operation a || is_entry a) (levels a)) (levels_in (is_operation b || is_entry b) (levels b))
  levels (operation o a b) = max (levels_in (is_operation a) (levels a)) (levels_in (is_operation b) (levels b))
  levels (call f es) = suc (levels_all es)
  levels (paren e) = levels e

  pub levels_all : Arguments → ℕ
  levels_all no_argument = 0
  levels_all (argument e es) = max (levels e) (levels_all es)

-- ---- the tree with the parentheses that the text has
unfoldable pub paren_if : Bool → Expression → Expression
paren_if needed e = cond needed (paren e) e

unfoldable mutual
  pub kept : Expression → Expression
  kept (number z) = number z
  kept (string t) = string t
  kept nothing = nothing
  kept (truth b) = truth b
  kept (name x) = name x
  kept (table e) = table (kept e)
  kept (entry a b) = entry (paren_if (is_operation a || is_entry a) (kept a)) (paren_if (is_operation b || is_entry b) (kept b))
  kept (operation o a b) = operation o (paren_if (is_operation a) (kept a)) (paren_if (is_operation b) (kept b))
  kept (call f es) = call f (kept_all es)
  kept (paren e) = kept e

  pub kept_all : Arguments → Arguments
  kept_all no_argument = no_argument
  kept_all (argument e es) = argument (kept e) (kept_all es)

-- ---- statements
unfoldable mutual
  pub statement_words : Statement → List Word
  statement_words (declare p x) = a_word word_var (bytes "var") ++ a_word a_name x ++ sign semicolon
  statement_words (assign p x e) = a_word a_name x ++ sign becomes ++ words e ++ sign semicolon
  statement_words (update p a b e) = words (entry a b) ++ sign becomes ++ words e ++ sign semicolon
  statement_words (when p e s) = a_word word_if (bytes "if") ++ sign open_paren ++ words e ++ sign close_paren ++ statement_words s
  statement_words (while p e s) = a_word word_while (bytes "while") ++ sign open_paren ++ words e ++ sign close_paren ++ statement_words s
  statement_words (foreach p x e s) =
      a_word word_foreach (bytes "foreach") ++ a_word a_name x ++ a_word word_in (bytes "in") ++ words e ++ a_word word_do (bytes "do") ++ statement_words s
  statement_words (return p e) = a_word word_return (bytes "return") ++ words e ++ sign semicolon
  statement_words (block p ss) = sign open_brace ++ statements_words ss ++ sign close_brace
  statement_words (act p e) = words e ++ sign semicolon

  pub statements_words : Statements → List Word
  statements_words (only s) = statement_words s
  statements_words (first s ss) = statement_words s ++ statements_words ss

unfoldable mutual
  pub statement_levels : Statement → ℕ
  statement_levels (declare p x) = 0
  statement_levels (assign p x e) = levels e
  statement_levels (update p a b e) = max (levels (entry a b)) (levels e)
  statement_levels (when p e s) = suc (max (levels e) (statement_levels s))
  statement_levels (while p e s) = suc (max (levels e) (statement_levels s))
  statement_levels (foreach p x e s) = max (levels e) (suc (statement_levels s))
  statement_levels (return p e) = levels e
  statement_levels (block p ss) = suc (statements_levels ss)
  statement_levels (act p e) = levels e

  pub statements_levels : Statements → ℕ
  statements_levels (only s) = statement_levels s
  statements_levels (first s ss) = max (statement_levels s) (statements_levels ss)

-- ---- the program
unfoldable pub name_words : List (List ℕ) → List (List Word)
name_words [] = []
name_words (x ∷ xs) = a_word a_name x ∷ name_words xs

-- the words of a procedure
unfoldable pub procedure_words : Procedure → List Word
procedure_words f =
    a_word word_def (bytes "def") ++ a_word a_name f.name ++ sign open_paren ++ joined (name_words f.parameters) ++ (sign close_paren ++ sign open_brace)
    ++ statements_words f.body ++ sign close_brace

-- and of all
unfoldable pub procedures_words : List Procedure → List Word
procedures_words [] = []
procedures_words (f ∷ fs) = procedure_words f ++ procedures_words fs
