use Rattle.machine.proofs.Acts.{goes, stops}
use Rattle.library.proofs.ProcedureLaws.{unknown, performs}
use Rattle.library.proofs.call_library.Goals as goal

pub returns-then-number-ge-OTHER : goal.returns-then-number-ge-OTHER
returns-then-number-ge-OTHER c = search unknown

pub returns-in_err-all_usable : goal.returns-in_err-all_usable
returns-in_err-all_usable c = performs _ _ _ _ _ _ c.if-number-ge-OTHER.false (stops _ c.in_err-all_usable.ensures c.from_residual.ensures.1)

pub returns : goal.returns
returns c = performs _ _ _ _ _ _ c.if-number-ge-OTHER.false (goes _ c.in_ok-all_usable.ensures c.perform.ensures)
