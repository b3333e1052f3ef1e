-- `lines::line_length_of` meets its contract: the figure that is handed on is the shape's.
-- Assumes nothing.
use Rattle.scene.proofs.Figures.{kind_fits, line_counted}
use Rattle.scene.proofs.lines.line_length_of.Goals as goal

pub shape_of-requires : goal.shape_of-requires
shape_of-requires c = search kind_fits

pub returns : goal.returns
returns c = search line_counted
