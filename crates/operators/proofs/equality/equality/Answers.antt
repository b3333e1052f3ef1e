use Rattle.operators.proofs.EqualityLaws.{apart, integers, strings, truths, nothings, shapes, uncompared}
use Rattle.operators.proofs.equality.equality.Goals as goal

pub returns-then-k-l : goal.returns-then-k-l
returns-then-k-l c = search apart

pub returns-in-1 : goal.returns-in-1
returns-in-1 c = search integers

pub returns-in-2 : goal.returns-in-2
returns-in-2 c = search strings

pub returns-in-3 : goal.returns-in-3
returns-in-3 c = search truths

pub returns-in-4 : goal.returns-in-4
returns-in-4 c = search nothings

pub returns-in-6 : goal.returns-in-6
returns-in-6 c = search shapes

pub returns-in_default : goal.returns-in_default
returns-in_default c = search uncompared
