-- `names::index::fill` meets its contract: the index is that of the tokens before i.
use Rattle.names.proofs.Noting.{fill_begin, fill_files, fill_next, fill_all}
use Rattle.names.proofs.index.fill.Goals as goal

pub loop-i-init : goal.loop-i-init
loop-i-init c = search fill_begin

pub file-requires : goal.file-requires
file-requires c = search fill_files

pub loop-i-preserved : goal.loop-i-preserved
loop-i-preserved c = search fill_next

pub returns : goal.returns
returns c = search fill_all
