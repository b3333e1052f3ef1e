use Rattle.drawing.proofs.Ways.{lent_number, lent_scene, lent_drawn}
use Rattle.drawing.proofs.draw_lent.Goals as goal

pub draw_scene-requires : goal.draw_scene-requires
draw_scene-requires c = lent_scene _ _ _ _ _ _ _ c.run.ensures c.in-Ok.is

pub returns-in-Ok : goal.returns-in-Ok
returns-in-Ok c = search lent_drawn

pub returns-in-Err : goal.returns-in-Err
returns-in-Err c = search lent_number
