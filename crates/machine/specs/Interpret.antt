-- Evaluating and executing, which call each other. fuel bounds how deep expressions, statements and calls are inside one another. Where it runs out
-- the answer is 20; no program that was read ends so (simulation, Body.body-follows).
use Rattle.std.specs.Prelude.{ℕ, zero, suc, ◌+◌, get_or}
use Rattle.machine.specs.Opcodes.{place_in}
use Rattle.machine.specs.declared.Flow.{Flow}
use Rattle.machine.specs.Act.{Act, ◌>>◌, fail, count}
use Rattle.machine.specs.Evaluate.{Setting, Evaluator, Invoke, expression_by}
use Rattle.machine.specs.Execute.{Executor, statements_from, statement_by}
use Rattle.machine.specs.Procedures.{procedure_at}

unfoldable mutual
  pub expression_at : ℕ → Setting → Evaluator
  expression_at zero e x p = fail 20 p
  expression_at (suc fuel) e x p =
      count e.grants p >> expression_by (λ y q. expression_at fuel e y q) (procedure_at (λ a n. statements_from (n + 1) (λ y. statement_at fuel e y) e a (a + n)) e) e
      (get_or e.code x 0) x p

  pub statement_at : ℕ → Setting → Executor
  statement_at zero e x = fail 20 0
  statement_at (suc fuel) e x =
      statement_by (λ y q. expression_at fuel e y q) (λ y. statement_at fuel e y) e (get_or e.code x 0) x (place_in (get_or e.code x 0))

-- a body: n words from a on
unfoldable pub body_at : ℕ → Setting → ℕ → ℕ → Act Flow
body_at fuel e a n = statements_from (n + 1) (statement_at fuel e) e a (a + n)

-- a call of a procedure
abbrev pub invoke_at : ℕ → Setting → Invoke
invoke_at fuel e = procedure_at (body_at fuel e) e
