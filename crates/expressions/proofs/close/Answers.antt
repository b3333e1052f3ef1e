-- `close` meets its contract. Assumes nothing.
use Rattle.expressions.proofs.Puts.{close_at, close_other}
use Rattle.expressions.proofs.close.Goals as goal

pub returns-then-kind_at-kind : goal.returns-then-kind_at-kind
returns-then-kind_at-kind c = close_other _ _ _ _ c.kind_at.ensures c.if-kind_at-kind.true

pub returns : goal.returns
returns c = close_at _ _ _ _ c.kind_at.ensures c.if-kind_at-kind.false
