-- `definitions::read_body` meets its contract.
-- Assumes nothing.
use mathlib.Core.Path.{◌∙◌, sym}
use native.Mathlib.Omega.{arith}
use Rattle.expressions.proofs.Tokens.{token_inside}
use Rattle.definitions.proofs.Heads.{body_other, body_reads}
use Rattle.definitions.proofs.read_body.Goals as goal

pub returns-then-kind_at-ne-OPEN_BRACE : goal.returns-then-kind_at-ne-OPEN_BRACE
returns-then-kind_at-ne-OPEN_BRACE c = body_other _ _ _ _ _ c.kind_at.ensures c.if-kind_at-ne-OPEN_BRACE.true

pub overflow_add-i : goal.overflow_add-i
overflow_add-i c =
    let w = token_inside c.args.tokens.now c.args.i _ (sym c.kind_at.ensures
    ∙ c.if-kind_at-ne-OPEN_BRACE.false) (λ z. omega arith) in
    omega arith

pub returns : goal.returns
returns c = body_reads _ _ _ _ _ c.kind_at.ensures c.if-kind_at-ne-OPEN_BRACE.false _ _ c.read_statements.ensures
