-- `formatting::format` meets its contract: after 71 nothing was touched; otherwise the answer is that of `write_read`, and both work slices were cleared.
use Rattle.formatting.proofs.Answering.{format_refused, format_lent, format_read}
use Rattle.formatting.proofs.format.Goals as goal

pub returns-then-not-can_read : goal.returns-then-not-can_read
returns-then-not-can_read c = search format_refused

pub write_read-r-requires : goal.write_read-r-requires
write_read-r-requires c = format_lent _ _ _ _ c.can_read.ensures c.if-not-can_read.false-raw

pub returns : goal.returns
returns c = search format_read
