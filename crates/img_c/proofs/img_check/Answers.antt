-- `img_c::img_check` meets its contract: what it calls promises the same.
use Rattle.img_c.proofs.img_check.Goals as goal

pub returns : goal.returns
returns c = c.img_check.ensures
