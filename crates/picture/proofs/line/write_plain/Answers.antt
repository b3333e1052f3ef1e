-- `picture::line::write_plain` meets its contract: by the kind.
-- Assumes nothing.
use Rattle.picture.proofs.Writers.{wrote_line, wrote_ellipse, wrote_box, wrote_other}
use Rattle.picture.proofs.line.write_plain.Goals as goal

pub returns-in-0 : goal.returns-in-0
returns-in-0 c = search wrote_line

pub returns-in-1 : goal.returns-in-1
returns-in-1 c = search wrote_ellipse

pub returns-in-2 : goal.returns-in-2
returns-in-2 c = search wrote_box

pub returns-in_default : goal.returns-in_default
returns-in_default c = search wrote_other
