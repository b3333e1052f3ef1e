-- The grammar, as what reading the tokens from left to right yields: a tree, or the first token that fails.
use Rattle.std.specs.Prelude.{ℕ, zero, suc, ◌+◌, ◌-◌, ◌*◌, Bool, true, false, ◌&&◌, ◌||◌, List, [], ◌∷◌, length, get_or, eqb, ltb, leb, pos, neg_ℤ}
use Rattle.std.proofs.Math.Option.{Option, none, some}
use Rattle.meaning.specs.Basics.{bytes, if◌then◌otherwise◌, same_text}
use Rattle.meaning.specs.Token.{Token, Lexed, lexed, stray, tokens_of, ending, a_name, digits, a_string, word_def, word_var, word_if, word_while, word_return, word_none, word_true, word_false}
use Rattle.meaning.specs.Token.{word_foreach, word_in, word_do, dot, comma, semicolon, open_paren, close_paren, open_bracket, close_bracket, open_brace, close_brace, becomes, minus, doubled}
use Rattle.meaning.specs.Tree.{Operator, concatenate, add, subtract, multiply, divide, remainder, shift_right, shift_left, equal, unequal, greater, less}
use Rattle.meaning.specs.Tree.{Expression, number, string, nothing, truth, name, table, entry, operation, call, paren, Arguments, no_argument, argument, Statement}
use Rattle.meaning.specs.Tree.{declare, assign, update, when, while, foreach, return, block, act, Statements, only, first, Procedure, Program}

-- ---- tokens by their index
abbrev pub after_last : Token
after_last = record { kind = ending; place = 0; text = [] }

abbrev pub kind_at : List Token → ℕ → ℕ
kind_at ts i = (get_or ts i after_last).kind

abbrev pub text_at : List Token → ℕ → List ℕ
text_at ts i = (get_or ts i after_last).text

abbrev pub start_at : List Token → ℕ → ℕ
start_at ts i = (get_or ts i after_last).place

-- whether token i is of a kind
abbrev pub is : ℕ → List Token → ℕ → Bool
is k ts i = eqb (kind_at ts i) k

-- ---- what reading yields
-- what was read and the index of the token behind it; or a number and the index of the token that fails
pub data Got (A : Type 0) : Type 0 where
  good : A → ℕ → Got A
  wrong : ℕ → ℕ → Got A

unfoldable pub after : {A B : Type 0} → Got A → (A → ℕ → Got B) → Got B
after (good a j) k = k a j
after (wrong n p) k = wrong n p

-- a token of a kind has to follow; what was read is a
unfoldable pub expect : {A : Type 0} → ℕ → List Token → ℕ → A → Got A
expect k ts j a = if is k ts j then (λ _. good a (j + 1)) otherwise λ _. wrong 10 j

-- the same where nothing comes of it
abbrev pub skip : ℕ → List Token → ℕ → Got (Unit {0})
skip k ts j = expect k ts j tt

-- ---- constants
-- the number that decimal digits write, behind those of a
unfoldable pub numeral_from : ℕ → List ℕ → ℕ
numeral_from a [] = a
numeral_from a (d ∷ ds) = numeral_from (10 * a + (d - 48)) ds

abbrev pub numeral : List ℕ → ℕ
numeral ds = numeral_from 0 ds

-- digits that write a constant, without and with a minus
abbrev pub positive_at : List Token → ℕ → Bool
positive_at ts i = is digits ts i && leb (numeral (text_at ts i)) 2147483647

abbrev pub negative_at : List Token → ℕ → Bool
negative_at ts i = is digits ts i && leb (numeral (text_at ts i)) 2147483648

-- a minus with digits directly behind it
abbrev pub signed_at : List Token → ℕ → Bool
signed_at ts i = is minus ts i && (is digits ts (i + 1) && eqb (start_at ts (i + 1)) (start_at ts i + 1))

-- ---- operators
-- ++ + - * / % >> << == != > <
unfoldable pub operator_of : ℕ → Option Operator
operator_of k =
    if eqb k (doubled 43) then (λ _. some concatenate)
    otherwise λ _. if eqb k 43 then (λ _. some add)
    otherwise λ _. if eqb k 45 then (λ _. some subtract)
    otherwise λ _. if eqb k 42 then (λ _. some multiply)
    otherwise λ _. if eqb k 47 then (λ _. some divide)
    otherwise λ _. if eqb k 37 then (λ _. some remainder)
    otherwise λ _. if eqb k (doubled 62) then (λ _. some shift_right)
    otherwise λ _. if eqb k (doubled 60) then (λ _. some shift_left)
    otherwise λ _. if eqb k (doubled 61) then (λ _. some equal)
    otherwise λ _. if eqb k (doubled 33) then (λ _. some unequal)
    otherwise λ _. if eqb k 62 then (λ _. some greater)
    otherwise λ _. if eqb k 60 then (λ _. some less)
    otherwise λ _. none

-- ---- expressions
-- how the inside of a level is read: not at all where no level is left
pub data Inside (A : Type 0) : Type 0 where
  no_level : Inside A
  level : A → Inside A

-- token p opens a level
unfoldable pub opening : {A B : Type 0} → Inside A → ℕ → (A → Got B) → Got B
opening no_level p k = wrong 75 p
opening (level f) p k = k f

abbrev pub ReadExpression : Type 0
ReadExpression = ℕ → Got Expression

-- One argument or more and the closing parenthesis. Each argument takes a token at least, so rounds need be no more than the tokens left: more of them
-- change nothing (`arguments-rounds` of GrammarLaws), and the clause for none left is never the answer.
unfoldable pub arguments_from : ℕ → ReadExpression → List Token → ℕ → Got Arguments
arguments_from zero inner ts i = wrong 10 i
arguments_from (suc rounds) inner ts i =
    after (inner i) λ e j.
    if is comma ts j then (λ _. after (arguments_from rounds inner ts (j + 1)) λ es m. good (argument e es) m)
    otherwise λ _. expect close_paren ts j (argument e no_argument)

unfoldable pub arguments : ReadExpression → List Token → ℕ → Got Arguments
arguments inner ts i =
    if is close_paren ts i then (λ _. good no_argument (i + 1))
    otherwise λ _. arguments_from (suc (length ts - i)) inner ts i

-- a constant whose minus is token i: its digits stand directly behind
abbrev pub signed_constant : List Token → ℕ → Got Expression
signed_constant ts i =
    if negative_at ts (i + 1) then (λ _. good (number (neg_ℤ (pos (numeral (text_at ts (i + 1)))))) (i + 2)) otherwise λ _. wrong 10 (i + 1)

-- a name, or a call if a parenthesis follows
abbrev pub name_or_call : Inside ReadExpression → List Token → ℕ → Got Expression
name_or_call inside ts i =
    if is open_paren ts (i + 1)
    then (λ _. opening inside (i + 1) λ inner. after (arguments inner ts (i + 2)) λ es j. good (call (text_at ts i) es) j)
    otherwise λ _. good (name (text_at ts i)) (i + 1)

-- an expression behind the opening token i, and the token that closes it
abbrev pub enclosed : ℕ → (Expression → Expression) → Inside ReadExpression → List Token → ℕ → Got Expression
enclosed closing make inside ts i = opening inside i λ inner. after (inner (i + 1)) λ e j. expect closing ts j (make e)

-- a primary: a constant, a name, a call, a table creation or a parenthesised expression
unfoldable pub primary : Inside ReadExpression → List Token → ℕ → Got Expression
primary inside ts i =
    if positive_at ts i then (λ _. good (number (pos (numeral (text_at ts i)))) (i + 1))
    otherwise λ _. if signed_at ts i then (λ _. signed_constant ts i)
    otherwise λ _. if is a_string ts i then (λ _. good (string (text_at ts i)) (i + 1))
    otherwise λ _. if is word_none ts i then (λ _. good nothing (i + 1))
    otherwise λ _. if is word_true ts i then (λ _. good (truth true) (i + 1))
    otherwise λ _. if is word_false ts i then (λ _. good (truth false) (i + 1))
    otherwise λ _. if is a_name ts i then (λ _. name_or_call inside ts i)
    otherwise λ _. if is open_paren ts i then (λ _. enclosed close_paren paren inside ts i)
    otherwise λ _. if is open_bracket ts i then (λ _. enclosed close_bracket table inside ts i)
    otherwise λ _. wrong 10 i

-- an operand: a primary, or a primary, a dot and a primary
unfoldable pub operand : Inside ReadExpression → List Token → ℕ → Got Expression
operand inside ts i =
    after (primary inside ts i) λ a j.
    if is dot ts j then (λ _. after (primary inside ts (j + 1)) λ b m. good (entry a b) m)
    otherwise λ _. good a j

-- an expression: an operand, or two with one operator
unfoldable pub operated : Option Operator → Inside ReadExpression → List Token → Expression → ℕ → Got Expression
operated none inside ts a j = good a j
operated (some o) inside ts a j = after (operand inside ts (j + 1)) λ b m. good (operation o a b) m

unfoldable pub expression_in : Inside ReadExpression → List Token → ℕ → Got Expression
expression_in inside ts i = after (operand inside ts i) λ a j. operated (operator_of (kind_at ts j)) inside ts a j

-- an expression in which so many levels may be opened, each inside the one before
unfoldable pub expression : ℕ → List Token → ℕ → Got Expression
expression zero ts i = expression_in no_level ts i
expression (suc left) ts i = expression_in (level (expression left ts)) ts i

-- ---- statements
abbrev pub ReadStatement : Type 0
ReadStatement = ℕ → Got Statement

-- how a level's inside is read: the expressions and the statements in it
pub record Readers : Type 0 where
  pub in_expression : ReadExpression
  pub in_statement : ReadStatement

-- var x;
unfoldable pub declaration : List Token → ℕ → Got Statement
declaration ts i =
    if is a_name ts (i + 1) then (λ _. expect semicolon ts (i + 2) (declare (start_at ts i) (text_at ts (i + 1))))
    otherwise λ _. wrong 10 (i + 1)

-- return e;
unfoldable pub returning : ReadExpression → List Token → ℕ → Got Statement
returning read ts i = after (read (i + 1)) λ e j. expect semicolon ts j (return (start_at ts i) e)

-- what an assignment's left side names
pub data Target : Type 0 where
  variable : List ℕ → Target
  element : Expression → Expression → Target
  no_target : Target

unfoldable pub target_of : Expression → Target
target_of (name x) = variable x
target_of (entry a b) = element a b
target_of (number z) = no_target
target_of (string w) = no_target
target_of nothing = no_target
target_of (truth b) = no_target
target_of (table e) = no_target
target_of (operation o a b) = no_target
target_of (call f es) = no_target
target_of (paren e) = no_target

-- = e; where token j is the sign
unfoldable pub assignment : ReadExpression → List Token → ℕ → ℕ → Target → Got Statement
assignment read ts p j (variable x) = after (read (j + 1)) λ e m. expect semicolon ts m (assign p x e)
assignment read ts p j (element a b) = after (read (j + 1)) λ e m. expect semicolon ts m (update p a b e)
assignment read ts p j no_target = wrong 10 j

-- e; or a = e;
unfoldable pub simple : ReadExpression → List Token → ℕ → Got Statement
simple read ts i =
    after (read i) λ a j.
    if is becomes ts j then (λ _. assignment read ts (start_at ts i) j (target_of a))
    otherwise λ _. expect semicolon ts j (act (start_at ts i) a)

-- (e) and a body, from the parenthesis at token i on, which opens a level
abbrev pub guarded_in : (Expression → Statement → Statement) → Readers → List Token → ℕ → Got Statement
guarded_in make inner ts i =
    after (inner.in_expression (i + 1)) λ e j.
    after (skip close_paren ts j) λ _ m.
    after (inner.in_statement m) λ s n.
    good (make e s) n

-- The same behind if or while. The level ends with the test, and the body's first token opens it again.
unfoldable pub guarded : (Expression → Statement → Statement) → Inside Readers → List Token → ℕ → Got Statement
guarded make inside ts i =
    if is open_paren ts i then (λ _. opening inside i λ inner. guarded_in make inner ts i) otherwise λ _. wrong 10 i

-- whether a statement can begin with token i
unfoldable pub begins_statement : List Token → ℕ → Bool
begins_statement ts i =
    positive_at ts i || signed_at ts i || is a_string ts i || is word_none ts i || is word_true ts i || is word_false ts i || is a_name ts i || is open_paren ts i ||
    is open_bracket ts i || is word_var ts i || is word_if ts i || is word_while ts i || is word_foreach ts i || is word_return ts i || is open_brace ts i

-- foreach x in e do and a body, whose first token opens a level if a statement can begin there
unfoldable pub iteration : ReadExpression → Inside Readers → List Token → ℕ → Got Statement
iteration read inside ts i =
    after (expect a_name ts (i + 1) (text_at ts (i + 1))) λ x i₂.
    after (skip word_in ts i₂) λ _ i₃.
    after (read i₃) λ e j.
    after (skip word_do ts j) λ _ m.
    if begins_statement ts m
    then (λ _. opening inside m λ inner. after (inner.in_statement m) λ s n. good (foreach (start_at ts i) x e s) n)
    otherwise λ _. wrong 10 m

-- One statement or more and the closing brace. Each statement takes a token at least, so rounds need be no more than the tokens left, as with
-- arguments (`statements-rounds` of GrammarLaws).
unfoldable pub statements_from : ℕ → ReadStatement → List Token → ℕ → Got Statements
statements_from zero inner ts i = wrong 10 i
statements_from (suc rounds) inner ts i =
    after (inner i) λ s j.
    if is close_brace ts j then (λ _. good (only s) (j + 1))
    otherwise λ _. after (statements_from rounds inner ts j) λ ss m. good (first s ss) m

abbrev pub statements : ReadStatement → List Token → ℕ → Got Statements
statements inner ts i = statements_from (suc (length ts - i)) inner ts i

-- { .. } at token i, which opens a level
abbrev pub block_at : Inside Readers → List Token → ℕ → Got Statement
block_at inside ts i = opening inside i λ inner. after (statements inner.in_statement ts (i + 1)) λ ss j. good (block (start_at ts i) ss) j

-- by the first token
unfoldable pub statement_in : ReadExpression → Inside Readers → List Token → ℕ → Got Statement
statement_in read inside ts i =
    if is word_var ts i then (λ _. declaration ts i)
    otherwise λ _. if is word_if ts i then (λ _. guarded (when (start_at ts i)) inside ts (i + 1))
    otherwise λ _. if is word_while ts i then (λ _. guarded (while (start_at ts i)) inside ts (i + 1))
    otherwise λ _. if is word_foreach ts i then (λ _. iteration read inside ts i)
    otherwise λ _. if is word_return ts i then (λ _. returning read ts i)
    otherwise λ _. if is open_brace ts i then (λ _. block_at inside ts i)
    otherwise λ _. simple read ts i

unfoldable pub statement : ℕ → List Token → ℕ → Got Statement
statement zero ts i = statement_in (expression zero ts) no_level ts i
statement (suc left) ts i =
    statement_in (expression (suc left) ts) (level (record { in_expression = expression left ts; in_statement = statement left ts })) ts i

-- ---- procedures
-- one name or more with commas between, and the closing parenthesis; rounds as with arguments (`parameters-rounds` of GrammarLaws)
unfoldable pub parameters_from : ℕ → List Token → ℕ → Got (List (List ℕ))
parameters_from zero ts i = wrong 10 i
parameters_from (suc rounds) ts i =
    after (expect a_name ts i (text_at ts i)) λ x j.
    if is comma ts j then (λ _. after (parameters_from rounds ts (j + 1)) λ xs m. good (x ∷ xs) m)
    otherwise λ _. expect close_paren ts j (x ∷ [])

unfoldable pub parameters : List Token → ℕ → Got (List (List ℕ))
parameters ts i =
    if is close_paren ts i then (λ _. good [] (i + 1))
    otherwise λ _. parameters_from (suc (length ts - i)) ts i

-- def f(x, y) { .. } from token i on
unfoldable pub procedure : List Token → ℕ → Got Procedure
procedure ts i =
    after (skip word_def ts i) λ _ i₁.
    after (expect a_name ts i₁ (text_at ts i₁)) λ f i₂.
    after (skip open_paren ts i₂) λ _ i₃.
    after (parameters ts i₃) λ xs i₄.
    after (skip open_brace ts i₄) λ _ i₅.
    after (statements (statement 64 ts) ts i₅) λ ss i₆.
    good (record { place = start_at ts i; name = f; parameters = xs; body = ss }) i₆

-- one procedure or more and nothing behind; rounds as with arguments (`procedures-rounds` of GrammarLaws)
unfoldable pub procedures_from : ℕ → List Token → ℕ → Got (List Procedure)
procedures_from zero ts i = wrong 10 i
procedures_from (suc rounds) ts i =
    after (procedure ts i) λ f j.
    if is ending ts j then (λ _. good (f ∷ []) j)
    otherwise λ _. after (procedures_from rounds ts j) λ fs m. good (f ∷ fs) m

-- the first procedure of a name
unfoldable pub procedure_named : List ℕ → List Procedure → Option Procedure
procedure_named x [] = none
procedure_named x (f ∷ fs) = if same_text f.name x then (λ _. some f) otherwise λ _. procedure_named x fs

-- a program without main ends too early
unfoldable pub with_main : List Token → List Procedure → ℕ → Option Procedure → Got Program
with_main ts fs j (some m) = good (record { procedures = fs; main = m }) j
with_main ts fs j none = wrong 10 (length ts)

unfoldable pub procedures : List Token → Got Program
procedures ts = after (procedures_from (suc (length ts)) ts 0) λ fs j. with_main ts fs j (procedure_named (bytes "main") fs)

-- ---- the program
-- a program as it was read, or a number and the place of what fails
pub data Reading : Type 0 where
  well_formed : Program → Reading
  malformed : ℕ → ℕ → Reading

-- the place of token i; behind the last token the program's length
unfoldable pub place_of : List ℕ → List Token → ℕ → ℕ
place_of program ts i = if ltb i (length ts) then (λ _. start_at ts i) otherwise λ _. length program

unfoldable pub read_of : List ℕ → List Token → Got Program → Reading
read_of program ts (good m i) = well_formed m
read_of program ts (wrong n i) = malformed n (place_of program ts i)

unfoldable pub parsed : List ℕ → Lexed → Reading
parsed program (stray p) = malformed 10 p
parsed program (lexed ts) =
    if ltb 8192 (length ts) then (λ _. malformed 74 (start_at ts 8192))
    otherwise λ _. read_of program ts (procedures ts)

unfoldable pub reading : List ℕ → Reading
reading program = parsed program (tokens_of program)
