use Rattle.operators.proofs.ShapeLaws.{no_refusal, refuses, draws, draws_group}
use Rattle.operators.proofs.shapes.on_shape.Goals as goal

pub returns-in_err-allowed : goal.returns-in_err-allowed
returns-in_err-allowed c = refuses _ c.ranges.n c.in_err-allowed.ensures c.from_residual.ensures.1

pub returns-then-is_group : goal.returns-then-is_group
returns-then-is_group c = draws_group _ c.ranges.n c.in_ok-allowed.ensures _ c.is_group.ensures c.if-is_group.true c.remake_group.ensures

pub remake_group-requires : goal.remake_group-requires
remake_group-requires c = (c.requires, no_refusal _ _ c.in_ok-allowed.ensures)

pub changed-f-requires : goal.changed-f-requires
changed-f-requires c = no_refusal _ _ c.in_ok-allowed.ensures

pub returns : goal.returns
returns c = draws _ c.ranges.n c.in_ok-allowed.ensures _ c.is_group.ensures _ _ c.if-is_group.false c.figure_at.ensures c.changed-f.ensures c.new_shape.ensures
