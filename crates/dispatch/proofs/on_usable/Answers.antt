use Rattle.dispatch.proofs.OperateLaws.{by_joining, by_equality, by_calculation}
use Rattle.dispatch.proofs.on_usable.Goals as goal

pub returns-in-16 : goal.returns-in-16
returns-in-16 c = search by_joining

pub returns-in-24 : goal.returns-in-24
returns-in-24 c = search by_equality

pub returns-in-25 : goal.returns-in-25
returns-in-25 c = search by_equality

pub returns-in_default : goal.returns-in_default
returns-in_default c = search by_calculation
