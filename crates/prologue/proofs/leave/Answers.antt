use mathlib.Core.Path.{refl}
use Rattle.prologue.proofs.Ways.{left_room, left}
use Rattle.prologue.proofs.leave.Goals as goal

pub measure_scene-requires : goal.measure_scene-requires
measure_scene-requires c = left_room _ _ c.requires

pub returns : goal.returns
returns c = left _ _ _ refl c.measure_scene.ensures
