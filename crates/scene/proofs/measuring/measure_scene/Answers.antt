use Rattle.machine.specs.Show.{show_scene}
use Rattle.machine.proofs.Acts.{goes, stored, loading}
use Rattle.scene.proofs.MeasureLaws.{room_cleared}
use Rattle.scene.proofs.measuring.measure_scene.Goals as goal

pub measure_variables-requires : goal.measure_variables-requires
measure_variables-requires c = room_cleared _ c.requires

pub returns : goal.returns
unfolding show_scene
returns c = goes _ (stored _ _) (loading _ _ (loading _ _ c.measure_variables.ensures))
