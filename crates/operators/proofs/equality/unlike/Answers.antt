use Rattle.operators.proofs.EqualityLaws.{unlike_4, unlike_to_4, unlike_other}
use Rattle.operators.proofs.equality.unlike.Goals as goal

pub returns-then-k-eq-NOTHING : goal.returns-then-k-eq-NOTHING
returns-then-k-eq-NOTHING c = search unlike_4

pub returns-then-l-eq-NOTHING : goal.returns-then-l-eq-NOTHING
returns-then-l-eq-NOTHING c = search unlike_to_4

pub returns : goal.returns
returns c = search unlike_other
