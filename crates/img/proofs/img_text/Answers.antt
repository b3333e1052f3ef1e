-- `img::img_text` meets its contract: what `format` promises, and its answer told.
use Rattle.img.proofs.Written.{formats}
use Rattle.img.proofs.img_text.Goals as goal

pub returns : goal.returns
returns c = search formats
