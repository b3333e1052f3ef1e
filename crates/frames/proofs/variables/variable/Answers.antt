use Rattle.machine.proofs.Acts.{goes, stops, given}
use Rattle.frames.proofs.VariableLaws.{unknown, found}
use Rattle.frames.proofs.variables.variable.Goals as goal

pub returns-then-w-eq0 : goal.returns-then-w-eq0
returns-then-w-eq0 c = search unknown

pub returns-in_err-usable : goal.returns-in_err-usable
returns-in_err-usable c = found _ _ c.holding-w.ensures c.if-w-eq0.false (stops _ c.in_err-usable.ensures c.from_residual.ensures.1)

pub returns : goal.returns
returns c = found _ _ c.holding-w.ensures c.if-w-eq0.false (goes _ c.in_ok-usable.ensures (rw c.unpack.ensures (given _)))
