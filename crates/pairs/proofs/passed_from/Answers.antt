use Rattle.pairs.proofs.PairLaws.{pass_first, pass_last, pass_found, pass_next}
use Rattle.pairs.proofs.passed_from.Goals as goal

pub loop-y-init : goal.loop-y-init
loop-y-init c = search pass_first

pub returns-then-not-is_destroyed : goal.returns-then-not-is_destroyed
returns-then-not-is_destroyed c = search pass_found

pub loop-y-preserved : goal.loop-y-preserved
loop-y-preserved c = search pass_next

pub returns : goal.returns
returns c = search pass_last
