use Rattle.operators.proofs.EqualityLaws.{kind_1, kind_2, kind_3, kind_4, kind_5, kind_6}
use Rattle.operators.proofs.equality.kind.Goals as goal

pub returns-in-1 : goal.returns-in-1
returns-in-1 c = search kind_1

pub returns-in-2 : goal.returns-in-2
returns-in-2 c = search kind_2

pub returns-in-3 : goal.returns-in-3
returns-in-3 c = search kind_3

pub returns-in-5 : goal.returns-in-5
returns-in-5 c = search kind_5

pub returns-in-6 : goal.returns-in-6
returns-in-6 c = search kind_6

pub returns-in_default : goal.returns-in_default
returns-in_default c = search kind_4
