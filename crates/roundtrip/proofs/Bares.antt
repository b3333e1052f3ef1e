-- The text of a tree is that of the tree without parentheses and places.
use mathlib.Core.Path.{◌≡◌, refl, ap, sym, ◌∙◌}
use mathlib.Core.List.{List, [], ◌∷◌, map}
use Rattle.meaning.specs.Tree.{Expression, number, string, nothing, truth, name, table, entry, operation, call, paren, Arguments, no_argument, argument, Statement}
use Rattle.meaning.specs.Tree.{declare, assign, update, when, while, foreach, return, block, act, Statements, only, first, Procedure, Program}
use Rattle.canonical.specs.Bare.{bare, bare_arguments, bare_statement, bare_statements, bare_procedure, bare_program}
use Rattle.canonical.specs.Text.{is_operation, is_entry, expression_text, argument_texts, statement_text, statements_text, procedure_text, procedures_text, program_text}

-- parentheses hide no operator
pub bare_operation : (e : Expression) → is_operation (bare e) ≡ is_operation e
unfolding bare is_operation
bare_operation (number z) = refl
bare_operation (string t) = refl
bare_operation nothing = refl
bare_operation (truth b) = refl
bare_operation (name x) = refl
bare_operation (table e) = refl
bare_operation (entry a b) = refl
bare_operation (operation o a b) = refl
bare_operation (call f es) = refl
bare_operation (paren e) = bare_operation e

-- and no entry
pub bare_entry : (e : Expression) → is_entry (bare e) ≡ is_entry e
unfolding bare is_entry
bare_entry (number z) = refl
bare_entry (string t) = refl
bare_entry nothing = refl
bare_entry (truth b) = refl
bare_entry (name x) = refl
bare_entry (table e) = refl
bare_entry (entry a b) = refl
bare_entry (operation o a b) = refl
bare_entry (call f es) = refl
bare_entry (paren e) = bare_entry e

mutual
  unfolding bare expression_text

  expression_text_lem : (e : Expression) → expression_text (bare e) ≡ expression_text e
  expression_text_lem (number z) = refl
  expression_text_lem (string t) = refl
  expression_text_lem nothing = refl
  expression_text_lem (truth b) = refl
  expression_text_lem (name x) = refl
  expression_text_lem (table e) = rw (expression_text_lem e)
  expression_text_lem (entry a b) = rw (expression_text_lem a, expression_text_lem b, bare_operation a, bare_entry a, bare_operation b, bare_entry b)
  expression_text_lem (operation o a b) = rw (expression_text_lem a, expression_text_lem b, bare_operation a, bare_operation b)
  expression_text_lem (call f es) = rw (argument_texts_lem es)
  expression_text_lem (paren e) = expression_text_lem e

  argument_texts_lem : (es : Arguments) → argument_texts (bare_arguments es) ≡ argument_texts es
  argument_texts_lem no_argument = refl
  argument_texts_lem (argument e es) = rw (expression_text_lem e, argument_texts_lem es)

mutual
  unfolding bare_statement statement_text expression_text

  statement_text_lem : (s : Statement) → statement_text (bare_statement s) ≡ statement_text s
  statement_text_lem (declare p x) = refl
  statement_text_lem (assign p x e) = rw (expression_text_lem e)
  statement_text_lem (update p a b e) = rw (expression_text_lem a, expression_text_lem b, expression_text_lem e, bare_operation a, bare_entry a, bare_operation b, bare_entry b)
  statement_text_lem (when p e s) = rw (expression_text_lem e, statement_text_lem s)
  statement_text_lem (while p e s) = rw (expression_text_lem e, statement_text_lem s)
  statement_text_lem (foreach p x e s) = rw (expression_text_lem e, statement_text_lem s)
  statement_text_lem (return p e) = rw (expression_text_lem e)
  statement_text_lem (block p ss) = rw (statements_text_lem ss)
  statement_text_lem (act p e) = rw (expression_text_lem e)

  statements_text_lem : (ss : Statements) → statements_text (bare_statements ss) ≡ statements_text ss
  statements_text_lem (only s) = statement_text_lem s
  statements_text_lem (first s ss) = rw (statement_text_lem s, statements_text_lem ss)

-- of a procedure
procedure_text_lem : (f : Procedure) → procedure_text (bare_procedure f) ≡ procedure_text f
unfolding procedure_text bare_procedure
procedure_text_lem f = rw (statements_text_lem f.body)

-- of all procedures
procedures_text_lem : (fs : List Procedure) → procedures_text (map bare_procedure fs) ≡ procedures_text fs
unfolding procedures_text
procedures_text_lem [] = refl
procedures_text_lem (f ∷ fs) = rw (procedure_text_lem f, procedures_text_lem fs)

-- of a program
program_text_lem : (m : Program) → program_text (bare_program m) ≡ program_text m
unfolding program_text bare_program
program_text_lem m = procedures_text_lem m.procedures

-- trees that are the same but for parentheses and places have one text
pub same_text_lem : (m n : Program) → bare_program m ≡ bare_program n → program_text m ≡ program_text n
same_text_lem m n e = sym (program_text_lem m) ∙ ap program_text e ∙ program_text_lem n
