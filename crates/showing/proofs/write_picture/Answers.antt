use Rattle.showing.proofs.WriteLaws.{picture_written}
use Rattle.showing.proofs.write_picture.Goals as goal

pub returns : goal.returns
returns c = search picture_written
