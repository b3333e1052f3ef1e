-- Code has as many words whatever the numbers of its variables; and the parts of a procedure's word once they are numbered.
use Prim.Native.Nat.{ℕ, ◌+◌, ◌*◌, ◌<◌}
use native.Mathlib.Omega.{arith}
use mathlib.Core.Path.{◌≡◌, refl}
use mathlib.Core.List.{List}
use lib.ListN.{length, length-append}
use Rattle.meaning.specs.Token.{Token}
use Rattle.meaning.specs.Tree.{Expression, number, string, nothing, truth, name, table, entry, operation, call, paren, Arguments, no_argument, argument}
use Rattle.meaning.specs.Tree.{Statement, declare, assign, update, when, while, foreach, return, block, act, Statements, only, first, Procedure}
use Rattle.machine.specs.Opcodes.{procedure_word, start_in, parameters_in, body_in, frame_in}
use Rattle.code.specs.Code.{code_with, arguments_with, statement_with, statements_with, code_of_statements}
use Rattle.numbering.specs.Numbers.{numbered_body}

module _ (v u : List ℕ → ℕ) (ts : List Token) where
  mutual
    unfolding code_with arguments_with

    expression_long : (x : Expression) → length (code_with v x ts) ≡ length (code_with u x ts)
    expression_long (number z) = refl
    expression_long (string t) = refl
    expression_long nothing = refl
    expression_long (truth b) = refl
    expression_long (name x) = refl
    expression_long (table x) = simp length-append (omega (arith, expression_long x))
    expression_long (entry x y) = simp length-append (omega (arith, expression_long x, expression_long y))
    expression_long (operation o x y) = simp length-append (omega (arith, expression_long x, expression_long y))
    expression_long (call f es) = simp length-append (omega (arith, arguments_long es))
    expression_long (paren x) = expression_long x

    arguments_long : (es : Arguments) → length (arguments_with v es ts) ≡ length (arguments_with u es ts)
    arguments_long no_argument = refl
    arguments_long (argument x es) = simp length-append (omega (arith, expression_long x, arguments_long es))

  mutual
    unfolding statement_with statements_with

    statement_long : (d : Statement) → length (statement_with v d ts) ≡ length (statement_with u d ts)
    statement_long (declare p x) = refl
    statement_long (assign p x y) = omega (arith, expression_long y)
    statement_long (update p x y z) = simp length-append (omega (arith, expression_long x, expression_long y, expression_long z))
    statement_long (when p x d) = simp length-append (omega (arith, expression_long x, statement_long d))
    statement_long (while p x d) = simp length-append (omega (arith, expression_long x, statement_long d))
    statement_long (foreach p x y d) = simp length-append (omega (arith, expression_long y, statement_long d))
    statement_long (return p x) = omega (arith, expression_long x)
    statement_long (block p ds) = omega (arith, statements_long ds)
    statement_long (act p x) = omega (arith, expression_long x)

    statements_long : (ds : Statements) → length (statements_with v ds ts) ≡ length (statements_with u ds ts)
    statements_long (only d) = statement_long d
    statements_long (first d ds) = simp length-append (omega (arith, statement_long d, statements_long ds))

pub body_long : (f : Procedure) (ts : List Token) → length (numbered_body f ts) ≡ length (code_of_statements f.body ts)
body_long f ts = statements_long _ _ ts f.body

-- ---- a procedure's word
module _ (start parameters size n : ℕ) (a : start < 65536) (b : parameters < 65536) (c : size < 65536) where
  pub start_numbered : start_in (procedure_word start parameters size + 281474976710656 * n) ≡ start
  unfolding procedure_word
  start_numbered = omega arith

  pub parameters_numbered : parameters_in (procedure_word start parameters size + 281474976710656 * n) ≡ parameters
  unfolding procedure_word
  parameters_numbered = omega arith

  pub body_numbered : body_in (procedure_word start parameters size + 281474976710656 * n) ≡ size
  unfolding procedure_word
  body_numbered = omega arith

  pub frame_numbered : frame_in (procedure_word start parameters size + 281474976710656 * n) ≡ n
  unfolding procedure_word
  frame_numbered = omega arith
