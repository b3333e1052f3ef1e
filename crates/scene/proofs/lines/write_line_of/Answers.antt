-- `lines::write_line_of` meets its contract: the figure that is handed on is the shape's.
-- Assumes nothing.
use Rattle.scene.proofs.Figures.{kind_fits, line_written}
use Rattle.scene.proofs.lines.write_line_of.Goals as goal

pub shape_of-requires : goal.shape_of-requires
shape_of-requires c = search kind_fits

pub returns : goal.returns
returns c = search line_written
