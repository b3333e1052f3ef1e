use Rattle.machine.proofs.Acts.{goes, stops, given}
use Rattle.library.proofs.ProcedureLaws.{clear_count, clears}
use Rattle.library.proofs.clear.Goals as goal

pub returns-then-n-ne0 : goal.returns-then-n-ne0
returns-then-n-ne0 c = search clear_count

pub returns-in_err-clear_scene : goal.returns-in_err-clear_scene
returns-in_err-clear_scene c = clears _ _ _ 0 _ c.if-n-ne0.false (stops _ c.in_err-clear_scene.ensures c.from_residual.ensures.1)

pub returns : goal.returns
returns c = clears _ _ _ 0 _ c.if-n-ne0.false (goes _ c.in_ok-clear_scene.ensures (given _))
