-- `img_c::img_text` meets its contract: what it calls promises the same.
use Rattle.img_c.proofs.img_text.Goals as goal

pub returns : goal.returns
returns c = record { formats = c.img_text.ensures.formats; out_after = c.img_text.ensures.out_after }
