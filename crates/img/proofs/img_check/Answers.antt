-- `img::img_check` meets its contract: what `check` promises, and its answer told.
use Rattle.img.proofs.Written.{checks}
use Rattle.img.proofs.img_check.Goals as goal

pub returns : goal.returns
returns c = search checks
