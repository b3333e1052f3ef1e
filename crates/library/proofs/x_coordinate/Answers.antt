use Rattle.machine.specs.Arguments.{centre_x}
use Rattle.machine.proofs.Acts.{goes, stops}
use Rattle.library.proofs.ProcedureLaws.{coordinate_of, coordinate_is}
use Rattle.library.proofs.x_coordinate.Goals as goal

pub returns-in_err-f : goal.returns-in_err-f
returns-in_err-f c = coordinate_of _ _ _ _ centre_x (stops _ c.in_err-f.ensures c.from_residual.ensures.1)

pub returns : goal.returns
returns c = coordinate_of _ _ _ _ centre_x (goes _ c.in_ok-f.ensures (coordinate_is _ centre_x c.centre_x.ensures c.centre_x.type_inv))
