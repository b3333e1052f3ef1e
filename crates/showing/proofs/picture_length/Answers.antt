use Rattle.showing.proofs.WriteLaws.{frame_fits, length_is}
use Rattle.showing.proofs.picture_length.Goals as goal

pub overflow_add-frame : goal.overflow_add-frame
overflow_add-frame c = search frame_fits

pub returns : goal.returns
returns c = search length_is
