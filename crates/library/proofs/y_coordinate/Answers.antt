use Rattle.machine.specs.Arguments.{centre_y}
use Rattle.machine.proofs.Acts.{goes, stops}
use Rattle.library.proofs.ProcedureLaws.{coordinate_of, coordinate_is}
use Rattle.library.proofs.y_coordinate.Goals as goal

pub returns-in_err-f : goal.returns-in_err-f
returns-in_err-f c = coordinate_of _ _ _ _ centre_y (stops _ c.in_err-f.ensures c.from_residual.ensures.1)

pub returns : goal.returns
returns c = coordinate_of _ _ _ _ centre_y (goes _ c.in_ok-f.ensures (coordinate_is _ centre_y c.centre_y.ensures c.centre_y.type_inv))
