use Rattle.rendering.proofs.Ways.{scene_room, scene_long, scene_short, scene_drawn}
use Rattle.rendering.proofs.draw_scene.Goals as goal

pub picture_length-length-requires : goal.picture_length-length-requires
picture_length-length-requires c = search scene_long

pub returns-then-out-length : goal.returns-then-out-length
returns-then-out-length c = search scene_short

pub write_picture-requires : goal.write_picture-requires
write_picture-requires c = search scene_room

pub returns : goal.returns
returns c = search scene_drawn
