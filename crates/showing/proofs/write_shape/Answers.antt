use Rattle.showing.proofs.WriteLaws.{group_written, figure_written}
use Rattle.showing.proofs.write_shape.Goals as goal

pub returns-then-is_group : goal.returns-then-is_group
returns-then-is_group c = search group_written

pub returns : goal.returns
returns c = search figure_written
