use Rattle.groups.specs.Making.{grouping}
use Rattle.machine.proofs.Acts.{goes, stops, given}
use Rattle.groups.proofs.making.new_group.Goals as goal

pub returns-in_err-j : goal.returns-in_err-j
unfolding grouping
returns-in_err-j c = stops _ c.in_err-j.ensures c.from_residual.ensures.1

pub returns : goal.returns
unfolding grouping
returns c = goes _ c.in_ok-j.ensures (given _)
