use Rattle.machine.specs.Library.{grouped}
use Rattle.machine.proofs.Acts.{stops}
use Rattle.library.proofs.ProcedureLaws.{group_made}
use Rattle.library.proofs.group.Goals as goal

pub returns-in_err-all_shapes : goal.returns-in_err-all_shapes
unfolding grouped
returns-in_err-all_shapes c = stops _ c.in_err-all_shapes.ensures c.from_residual.ensures.1

pub returns : goal.returns
returns c = group_made _ _ _ _ _ c.in_ok-all_shapes.ensures c.place_above-at.ensures c.new_group.ensures
