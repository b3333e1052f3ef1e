-- `names::payload::value_of` meets its contract: what is left to read is the digits from i on.
use Rattle.names.proofs.Digits.{read_none, read_more, read_all}
use Rattle.names.proofs.payload.value_of.Goals as goal

pub loop-d-init : goal.loop-d-init
loop-d-init c = search read_none

pub loop-d-preserved : goal.loop-d-preserved
loop-d-preserved c = search read_more

pub returns : goal.returns
returns c = search read_all
