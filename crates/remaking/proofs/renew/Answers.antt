use mir.Facts.{to_z-of_z}
use Rattle.machine.proofs.Acts.{goes, stops, sure}
use Rattle.remaking.specs.Remaking.{changing, renewed}
use Rattle.remaking.proofs.renew.Goals as goal

pub returns-in_err-new_shape : goal.returns-in_err-new_shape
unfolding renewed changing
returns-in_err-new_shape c = stops _ (rw (c.changed-f.ensures, to_z-of_z c.ranges.by, c.figure_at.ensures) at c.in_err-new_shape.ensures) c.from_residual.ensures.1

pub returns : goal.returns
unfolding renewed changing
returns c = goes _ (rw (c.changed-f.ensures, to_z-of_z c.ranges.by, c.figure_at.ensures) at c.in_ok-new_shape.ensures) (sure c.await_shape.ensures)
