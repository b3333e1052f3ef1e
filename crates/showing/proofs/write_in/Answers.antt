use Rattle.showing.proofs.WriteLaws.{no_shape_lem, shape_gone, shape_written}
use Rattle.showing.proofs.write_in.Goals as goal

pub returns-then-w-ne-SHAPE : goal.returns-then-w-ne-SHAPE
returns-then-w-ne-SHAPE c = search no_shape_lem

pub returns-then-is_destroyed : goal.returns-then-is_destroyed
returns-then-is_destroyed c = search shape_gone

pub returns : goal.returns
returns c = search shape_written
