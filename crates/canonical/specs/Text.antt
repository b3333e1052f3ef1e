-- The one text of a program: a statement a line, no needless parentheses, constants without leading zeros, and white space only where it has to be.
use Rattle.std.specs.Prelude.{ℕ, ◌-◌, Bool, true, false, ◌||◌, cond, List, [], ◌∷◌, ◌++◌, length, get_or}
use Rattle.meaning.specs.Basics.{bytes}
use Rattle.meaning.specs.Byte.{is_name_part}
use Rattle.meaning.specs.Picture.{decimal}
use Rattle.meaning.specs.Tree.{Operator, concatenate, add, subtract, multiply, divide, remainder, shift_right, shift_left, equal, unequal, greater, less}
use Rattle.meaning.specs.Tree.{Expression, number, string, nothing, truth, name, table, entry, operation, call, paren, Arguments, no_argument, argument, Statement}
use Rattle.meaning.specs.Tree.{declare, assign, update, when, while, foreach, return, block, act, Statements, only, first, Procedure, Program}

-- texts with a comma between each two
unfoldable pub comma_separated : List (List ℕ) → List ℕ
comma_separated [] = []
comma_separated (t ∷ []) = t
comma_separated (t ∷ u ∷ more) = t ++ bytes "," ++ comma_separated (u ∷ more)

-- ---- expressions
unfoldable pub operator_text : Operator → List ℕ
operator_text concatenate = bytes "++"
operator_text add = bytes "+"
operator_text subtract = bytes "-"
operator_text multiply = bytes "*"
operator_text divide = bytes "/"
operator_text remainder = bytes "%"
operator_text shift_right = bytes ">>"
operator_text shift_left = bytes "<<"
operator_text equal = bytes "=="
operator_text unequal = bytes "!="
operator_text greater = bytes ">"
operator_text less = bytes "<"

-- whether an expression, without parentheses around it, is an operator's, and whether it is a table's entry
unfoldable pub is_operation : Expression → Bool
is_operation (number z) = false
is_operation (string t) = false
is_operation nothing = false
is_operation (truth b) = false
is_operation (name x) = false
is_operation (table e) = false
is_operation (entry a b) = false
is_operation (operation o a b) = true
is_operation (call f es) = false
is_operation (paren e) = is_operation e

unfoldable pub is_entry : Expression → Bool
is_entry (number z) = false
is_entry (string t) = false
is_entry nothing = false
is_entry (truth b) = false
is_entry (name x) = false
is_entry (table e) = false
is_entry (entry a b) = true
is_entry (operation o a b) = false
is_entry (call f es) = false
is_entry (paren e) = is_entry e

-- a text, in parentheses if they are needed
unfoldable pub enclosed_if : Bool → List ℕ → List ℕ
enclosed_if needed t = cond needed (bytes "(" ++ t ++ bytes ")") t

-- An operator's operand needs parentheses around an operator's expression, a dot's side around an entry too.
unfoldable mutual
  pub expression_text : Expression → List ℕ
  expression_text (number z) = decimal z
  expression_text (string t) = bytes "\"" ++ t ++ bytes "\""
  expression_text nothing = bytes "none"
  expression_text (truth b) = cond b (bytes "true") (bytes "false")
  expression_text (name x) = x
  expression_text (table e) = bytes "[" ++ expression_text e ++ bytes "]"
  expression_text (entry a b) =
      enclosed_if (is_operation a || is_entry a) (expression_text a) ++ bytes "." ++ enclosed_if (is_operation b || is_entry b) (expression_text b)
  expression_text (operation o a b) =
      enclosed_if (is_operation a) (expression_text a) ++ operator_text o ++ enclosed_if (is_operation b) (expression_text b)
  expression_text (call f es) = f ++ bytes "(" ++ comma_separated (argument_texts es) ++ bytes ")"
  expression_text (paren e) = expression_text e

  pub argument_texts : Arguments → List (List ℕ)
  argument_texts no_argument = []
  argument_texts (argument e es) = expression_text e ∷ argument_texts es

-- ---- statements
-- behind a word: one space before a letter or a digit
unfoldable pub apart : List ℕ → List ℕ
apart t = cond (is_name_part (get_or t 0 0)) (bytes " " ++ t) t

-- between two words: one space behind a letter or a digit too
unfoldable pub between : List ℕ → List ℕ
between t = apart (cond (is_name_part (get_or t (length t - 1) 0)) (t ++ bytes " ") t)

-- Each statement begins a line, the body of another too, and so does a closing brace.
unfoldable mutual
  pub statement_text : Statement → List ℕ
  statement_text (declare p x) = bytes "var" ++ apart x ++ bytes ";"
  statement_text (assign p x e) = x ++ bytes "=" ++ expression_text e ++ bytes ";"
  statement_text (update p a b e) = expression_text (entry a b) ++ bytes "=" ++ expression_text e ++ bytes ";"
  statement_text (when p e s) = bytes "if(" ++ expression_text e ++ bytes ")\n" ++ statement_text s
  statement_text (while p e s) = bytes "while(" ++ expression_text e ++ bytes ")\n" ++ statement_text s
  statement_text (foreach p x e s) = bytes "foreach" ++ apart x ++ bytes " in" ++ between (expression_text e) ++ bytes "do\n" ++ statement_text s
  statement_text (return p e) = bytes "return" ++ apart (expression_text e) ++ bytes ";"
  statement_text (block p ss) = bytes "{\n" ++ statements_text ss ++ bytes "\n}"
  statement_text (act p e) = expression_text e ++ bytes ";"

  pub statements_text : Statements → List ℕ
  statements_text (only s) = statement_text s
  statements_text (first s ss) = statement_text s ++ bytes "\n" ++ statements_text ss

-- ---- the program
unfoldable pub procedure_text : Procedure → List ℕ
procedure_text f = bytes "def" ++ apart f.name ++ bytes "(" ++ comma_separated f.parameters ++ bytes "){\n" ++ statements_text f.body ++ bytes "\n}"

-- each procedure ends its last line
unfoldable pub procedures_text : List Procedure → List ℕ
procedures_text [] = []
procedures_text (f ∷ fs) = procedure_text f ++ bytes "\n" ++ procedures_text fs

-- THE TEXT OF A PROGRAM
unfoldable pub program_text : Program → List ℕ
program_text m = procedures_text m.procedures
