-- `promises::draw_by_c`: what `img_draw` promises and tells is a call that has returned.
use Rattle.promises.proofs.Calls.{drawn_by_c}
use Rattle.promises.proofs.draw_by_c.Goals as goal

pub returns : goal.returns
returns c = search drawn_by_c
