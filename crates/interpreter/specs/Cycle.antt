-- What the functions of the cycle do, by the fuel that is left: the expressions and statements inside are evaluated and executed with it.
use Rattle.std.specs.Prelude.{ℕ, Bool, Result, Ok, Err}
use Rattle.machine.specs.declared.Value.{Value}
use Rattle.machine.specs.declared.Fault.{Fault}
use Rattle.machine.specs.declared.Flow.{Flow}
use Rattle.machine.specs.declared.Flow.TheVariants.{Returned}
use Rattle.machine.specs.Act.{Act, ◌>>=◌}
use Rattle.machine.specs.Evaluate.{Setting, argument_of, call_at, operands_at}
use Rattle.machine.specs.Execute.{simple_at, update_at, test_of, when_at, repeat_at, foreach_at, statements_from}
use Rattle.machine.specs.Procedures.{result_of}
use Rattle.machine.specs.Interpret.{expression_at, statement_at, invoke_at}

-- ---- expressions
abbrev pub operands_in : ℕ → Setting → ℕ → ℕ → ℕ → Act Value
operands_in fuel e w x p = operands_at (expression_at fuel e) e w x p

abbrev pub call_in : ℕ → Setting → ℕ → ℕ → ℕ → Act Value
call_in fuel e w x p = call_at (expression_at fuel e) (invoke_at fuel e) e w x p

abbrev pub argument_in : ℕ → Setting → ℕ → ℕ → Act (Unit {0})
argument_in fuel e y p = argument_of (expression_at fuel e) y p

-- ---- statements
abbrev pub simple_in : ℕ → Setting → ℕ → ℕ → ℕ → Act Flow
simple_in fuel e w x p = simple_at (expression_at fuel e) e w x p

abbrev pub update_in : ℕ → Setting → ℕ → ℕ → Act Flow
update_in fuel e y p = update_at (expression_at fuel e) e y p

abbrev pub test_in : ℕ → Setting → ℕ → ℕ → Act Bool
test_in fuel e y p = test_of (expression_at fuel e) e y p

abbrev pub when_in : ℕ → Setting → ℕ → ℕ → Act Flow
when_in fuel e y p = when_at (expression_at fuel e) (statement_at fuel e) e y p

abbrev pub repeat_in : ℕ → Setting → ℕ → ℕ → Act Flow
repeat_in fuel e y p = repeat_at (expression_at fuel e) (statement_at fuel e) e y p

abbrev pub foreach_in : ℕ → Setting → ℕ → ℕ → ℕ → Act Flow
foreach_in fuel e slot y p = foreach_at (expression_at fuel e) (statement_at fuel e) e slot y p

abbrev pub statements_in : ℕ → Setting → ℕ → ℕ → ℕ → Act Flow
statements_in fuel e rounds a end = statements_from rounds (statement_at fuel e) e a end

-- what a procedure's statements give
abbrev pub procedure_in : ℕ → Setting → ℕ → ℕ → ℕ → Act Value
procedure_in fuel e rounds a end = statements_in fuel e rounds a end >>= result_of

-- how a return ends that answers so
unfoldable pub returned : Result Value Fault → Result Flow Fault
returned (Ok v) = Ok (Returned v)
returned (Err e) = Err e
