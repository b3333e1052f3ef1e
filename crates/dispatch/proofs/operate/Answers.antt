use Rattle.dispatch.proofs.OperateLaws.{two_integers, other_values}
use Rattle.dispatch.proofs.operate.Goals as goal

pub returns-then-both_integers : goal.returns-then-both_integers
returns-then-both_integers c = search two_integers

pub returns : goal.returns
returns c = search other_values
