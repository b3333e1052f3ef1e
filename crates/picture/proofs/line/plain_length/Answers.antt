-- `picture::line::plain_length` meets its contract: by the kind.
-- Assumes nothing.
use Rattle.picture.proofs.Writers.{counted_line, counted_ellipse, counted_box, counted_other}
use Rattle.picture.proofs.line.plain_length.Goals as goal

pub returns-in-0 : goal.returns-in-0
returns-in-0 c = search counted_line

pub returns-in-1 : goal.returns-in-1
returns-in-1 c = search counted_ellipse

pub returns-in-2 : goal.returns-in-2
returns-in-2 c = search counted_box

pub returns-in_default : goal.returns-in_default
returns-in_default c = search counted_other
