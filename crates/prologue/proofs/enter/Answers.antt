use Rattle.machine.proofs.Acts.{goes, stops, sure}
use Rattle.prologue.proofs.Ways.{one_name, begins}
use Rattle.prologue.proofs.enter.Goals as goal

pub returns-then-n-eq0 : goal.returns-then-n-eq0
returns-then-n-eq0 c = search one_name

pub returns-in_err-pay_one : goal.returns-in_err-pay_one
returns-in_err-pay_one c = begins _ _ _ _ _ c.if-n-eq0.false c.ranges.width c.ranges.height (stops _ c.in_err-pay_one.ensures c.from_residual.ensures.1)

pub returns-in_err-open_frame : goal.returns-in_err-open_frame
returns-in_err-open_frame c = begins _ _ _ _ _ c.if-n-eq0.false c.ranges.width c.ranges.height (goes _ c.in_ok-pay_one.ensures (stops _ c.in_err-open_frame.ensures c.from_residual-in_err-open_frame.ensures.1))

pub returns : goal.returns
returns c = begins _ _ _ _ _ c.if-n-eq0.false c.ranges.width c.ranges.height (goes _ c.in_ok-pay_one.ensures (goes _ c.in_ok-open_frame.ensures
    (rw (← c.pack.ensures, ← c.pack-2.ensures) (goes _ (sure c.set_variable.ensures) (sure c.set_variable-2.ensures)))))
