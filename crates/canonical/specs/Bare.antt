-- What two programs must share to be the same: their trees without parentheses and places. How a constant is spelled is no part of a tree.
use Rattle.std.specs.Prelude.{map}
use Rattle.meaning.specs.Tree.{Expression, number, string, nothing, truth, name, table, entry, operation, call, paren, Arguments, no_argument, argument, Statement}
use Rattle.meaning.specs.Tree.{declare, assign, update, when, while, foreach, return, block, act, Statements, only, first, Procedure, Program}

unfoldable mutual
  pub bare : Expression → Expression
  bare (number z) = number z
  bare (string t) = string t
  bare nothing = nothing
  bare (truth b) = truth b
  bare (name x) = name x
  bare (table e) = table (bare e)
  bare (entry a b) = entry (bare a) (bare b)
  bare (operation o a b) = operation o (bare a) (bare b)
  bare (call f es) = call f (bare_arguments es)
  bare (paren e) = bare e

  pub bare_arguments : Arguments → Arguments
  bare_arguments no_argument = no_argument
  bare_arguments (argument e es) = argument (bare e) (bare_arguments es)

unfoldable mutual
  pub bare_statement : Statement → Statement
  bare_statement (declare p x) = declare 0 x
  bare_statement (assign p x e) = assign 0 x (bare e)
  bare_statement (update p a b e) = update 0 (bare a) (bare b) (bare e)
  bare_statement (when p e s) = when 0 (bare e) (bare_statement s)
  bare_statement (while p e s) = while 0 (bare e) (bare_statement s)
  bare_statement (foreach p x e s) = foreach 0 x (bare e) (bare_statement s)
  bare_statement (return p e) = return 0 (bare e)
  bare_statement (block p ss) = block 0 (bare_statements ss)
  bare_statement (act p e) = act 0 (bare e)

  pub bare_statements : Statements → Statements
  bare_statements (only s) = only (bare_statement s)
  bare_statements (first s ss) = first (bare_statement s) (bare_statements ss)

unfoldable pub bare_procedure : Procedure → Procedure
bare_procedure f = record { place = 0; name = f.name; parameters = f.parameters; body = bare_statements f.body }

unfoldable pub bare_program : Program → Program
bare_program m = record { procedures = map bare_procedure m.procedures; main = bare_procedure m.main }
