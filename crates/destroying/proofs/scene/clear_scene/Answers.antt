use Rattle.machine.specs.Variables.{clear_scene}
use Rattle.machine.proofs.Acts.{goes, stops, loading}
use Rattle.destroying.proofs.scene.clear_scene.Goals as goal

pub returns-in_err-clear_calls : goal.returns-in_err-clear_calls
unfolding clear_scene
returns-in_err-clear_calls c = loading _ _ (stops _ c.in_err-clear_calls.ensures c.from_residual.ensures.1)

pub returns : goal.returns
unfolding clear_scene
returns c = loading _ _ (goes _ c.in_ok-clear_calls.ensures (loading _ _ (loading _ _
    (rw (c.frame-f.ensures, c.declared_count-n.ensures) at c.clear_frame.ensures))))
