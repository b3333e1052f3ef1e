use native.Mathlib.Omega.{arith}
use Rattle.numbering.proofs.Turns.{number_told, number_missing}
use Rattle.numbering.proofs.number_of.Goals as goal

pub returns-then-w-stamp : goal.returns-then-w-stamp
returns-then-w-stamp c = (search number_told, omega arith)

pub returns : goal.returns
returns c = (search number_missing, omega arith)
