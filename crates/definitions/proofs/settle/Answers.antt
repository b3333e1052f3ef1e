-- `definitions::settle` meets its contract.
-- Assumes nothing.
use Rattle.definitions.specs.Steps.{answered}
use Rattle.definitions.proofs.settle.Goals as goal

pub returns-in_default : goal.returns-in_default
unfolding answered
returns-in_default c = rw c.in_default.is

pub returns-in-Some-twice : goal.returns-in-Some-twice
unfolding answered
returns-in-Some-twice c = rw (c.in-Some.is, c.in-Some-twice.is)

pub returns : goal.returns
unfolding answered
returns c = rw (c.in-Some.is, c.in_default-twice.is)
