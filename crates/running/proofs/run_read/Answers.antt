use native.Mathlib.Omega.{arith}
use Rattle.running.proofs.Ways.{way_malformed, way_parameters, few_tokens, way_main}
use Rattle.running.proofs.run_read.Goals as goal

pub returns-then-parameters_of-ne2 : goal.returns-then-parameters_of-ne2
returns-then-parameters_of-ne2 c =
    way_parameters _ _ _ _ _ _ _ c.requires _ _ _ c.in-Ok.ensures.0 _ c.parameters_of.ensures.0 c.if-parameters_of-ne2.true

pub number-main-requires : goal.number-main-requires
number-main-requires c = few_tokens _ _ _ _ c.in-Ok.ensures.0 c.in-Ok.ensures.1

pub returns-in-Err : goal.returns-in-Err
returns-in-Err c = way_malformed _ _ _ _ _ _ _ c.requires _ _ _ c.in-Err.ensures.0

pub returns-else-parameters_of-ne2 : goal.returns-else-parameters_of-ne2
returns-else-parameters_of-ne2 c =
    way_main _ _ _ _ _ _ _ c.requires _ _ _ c.in-Ok.ensures.0 _ c.parameters_of.ensures.0 _ c.in-Ok.ensures.1 c.if-parameters_of-ne2.false (omega arith) _ _ _
    c.number-main.ensures c.ranges.width c.ranges.height _ _ _ c.run_main.ensures
