-- The code of a program: its tree as a list of words, which the evaluator runs.
-- A variable is a number in it, given by a function of its name: the first token with that name, in what reading leaves.
-- An expression's word stands behind its parts, so the last word of its code is its root. A statement's word stands before its parts, so the code of
-- a body's statements is theirs one after the other. Each word holds how many words its code has. Parentheses leave no word. Behind a foreach's
-- word stands its variable's number, as a word of its own. A procedure's code is the slots of its parameters and its body's.
use Rattle.std.specs.Prelude.{ℕ, ◌+◌, ◌*◌, Bool, true, false, List, [], ◌∷◌, ◌++◌, map, length, set}
use Rattle.meaning.specs.Basics.{if◌then◌otherwise◌, same_text}
use Rattle.meaning.specs.Token.{Token, a_name, a_string}
use Rattle.meaning.specs.Tree.{Expression, number, string, nothing, truth, name, table, entry, operation, call, paren, Arguments, no_argument, argument}
use Rattle.meaning.specs.Tree.{Statement, declare, assign, update, when, while, foreach, return, block, act, Statements, only, first, Procedure}
use Rattle.meaning.specs.Grammar.{start_at}
use Rattle.meaning.specs.Integer.{bits}
use Rattle.machine.specs.Opcodes.{word, procedure_word, tag_number, tag_string, tag_none, tag_truth, tag_name, tag_table, tag_entry, tag_call, tag_argument}
use Rattle.machine.specs.Opcodes.{tag_of, tag_declare, tag_assign, tag_update, tag_when, tag_while, tag_return, tag_block, tag_act, tag_foreach}
use Rattle.names.specs.Prepared.{home, procedure_number}

-- ---- expressions
-- a variable is known by the first token with its name
abbrev pub slot_of : List Token → List ℕ → ℕ
slot_of ts x = home ts a_name x

-- where a string's text stands in the program, and how long it is, of the first token with that string
abbrev pub part_of : List Token → List ℕ → ℕ
part_of ts t = start_at ts (home ts a_string t) + 1 + 65536 * length t

abbrev pub truth_number : Bool → ℕ
truth_number true = 1
truth_number false = 0

-- the code of two parts with a word behind them that holds how many words the second has
abbrev pub joined : ℕ → List ℕ → List ℕ → List ℕ
joined tag a b = a ++ (b ++ (word tag (length a + length b + 1) (length b) ∷ []))

-- the function v numbers variables
unfoldable mutual
  pub code_with : (List ℕ → ℕ) → Expression → List Token → List ℕ
  code_with v (number z) ts = word tag_number 1 (bits z) ∷ []
  code_with v (string t) ts = word tag_string 1 (part_of ts t) ∷ []
  code_with v nothing ts = word tag_none 1 0 ∷ []
  code_with v (truth b) ts = word tag_truth 1 (truth_number b) ∷ []
  code_with v (name x) ts = word tag_name 1 (v x) ∷ []
  code_with v (table e) ts = code_with v e ts ++ (word tag_table (length (code_with v e ts) + 1) 0 ∷ [])
  code_with v (entry a b) ts = joined tag_entry (code_with v a ts) (code_with v b ts)
  code_with v (operation o a b) ts = joined (tag_of o) (code_with v a ts) (code_with v b ts)
  code_with v (call f es) ts =
      arguments_with v es ts ++ (word tag_call (length (arguments_with v es ts) + 1) (procedure_number f + 16 * slot_of ts f) ∷ [])
  code_with v (paren e) ts = code_with v e ts

  pub arguments_with : (List ℕ → ℕ) → Arguments → List Token → List ℕ
  arguments_with v no_argument ts = []
  arguments_with v (argument e es) ts = word tag_argument (length (code_with v e ts)) 0 ∷ (code_with v e ts ++ arguments_with v es ts)

abbrev pub code_of : Expression → List Token → List ℕ
code_of e ts = code_with (slot_of ts) e ts

abbrev pub code_of_all : Arguments → List Token → List ℕ
code_of_all es ts = arguments_with (slot_of ts) es ts

-- ---- statements
-- a word before its parts, with the place and another number
abbrev pub headed : ℕ → ℕ → ℕ → List ℕ → List ℕ
headed tag p n parts = word tag (length parts + 1) (p + 65536 * n) ∷ parts

unfoldable mutual
  pub statement_with : (List ℕ → ℕ) → Statement → List Token → List ℕ
  statement_with v (declare p x) ts = headed tag_declare p (v x) []
  statement_with v (assign p x e) ts = headed tag_assign p (v x) (code_with v e ts)
  statement_with v (update p a b e) ts = headed tag_update p 0 (code_with v a ts ++ (code_with v b ts ++ code_with v e ts))
  statement_with v (when p e s) ts = headed tag_when p (length (code_with v e ts)) (code_with v e ts ++ statement_with v s ts)
  statement_with v (while p e s) ts = headed tag_while p (length (code_with v e ts)) (code_with v e ts ++ statement_with v s ts)
  statement_with v (foreach p x e s) ts = headed tag_foreach p (length (code_with v e ts) + 1) (v x ∷ (code_with v e ts ++ statement_with v s ts))
  statement_with v (return p e) ts = headed tag_return p 0 (code_with v e ts)
  statement_with v (block p ss) ts = headed tag_block p 0 (statements_with v ss ts)
  statement_with v (act p e) ts = headed tag_act p 0 (code_with v e ts)

  pub statements_with : (List ℕ → ℕ) → Statements → List Token → List ℕ
  statements_with v (only s) ts = statement_with v s ts
  statements_with v (first s ss) ts = statement_with v s ts ++ statements_with v ss ts

abbrev pub code_of_statement : Statement → List Token → List ℕ
code_of_statement s ts = statement_with (slot_of ts) s ts

abbrev pub code_of_statements : Statements → List Token → List ℕ
code_of_statements ss ts = statements_with (slot_of ts) ss ts

-- ---- procedures
-- the slots of its parameters, and its body
unfoldable pub code_of_procedure : Procedure → List Token → List ℕ
code_of_procedure f ts = map (slot_of ts) f.parameters ++ code_of_statements f.body ts

-- one after the other
unfoldable pub code_of_procedures : List Procedure → List Token → List ℕ
code_of_procedures [] ts = []
code_of_procedures (f ∷ fs) ts = code_of_procedure f ts ++ code_of_procedures fs ts

-- a procedure's word in the table, where its code begins at a
abbrev pub head_word : ℕ → Procedure → List Token → ℕ
head_word a f ts = procedure_word a (length f.parameters) (length (code_of_statements f.body ts))

-- a table with the words of some procedures, by the slots of their names; their code begins at a
unfoldable pub tabled : ℕ → List Procedure → List Token → List ℕ → List ℕ
tabled a [] ts words = words
tabled a (f ∷ fs) ts words = tabled (a + length (code_of_procedure f ts)) fs ts (set words (slot_of ts f.name) (head_word a f ts))

-- the word of the first procedure of a name; 0 if there is none
unfoldable pub head_named : ℕ → List Procedure → List Token → List ℕ → ℕ
head_named a [] ts x = 0
head_named a (f ∷ fs) ts x = if same_text f.name x then (λ _. head_word a f ts) otherwise λ _. head_named (a + length (code_of_procedure f ts)) fs ts x
