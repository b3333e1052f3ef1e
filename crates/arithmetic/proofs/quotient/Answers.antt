use Rattle.arithmetic.proofs.Held.{divides, quotient_negates, quotient_is}
use Rattle.arithmetic.proofs.quotient.Goals as goal

pub nonzero_div-result : goal.nonzero_div-result
nonzero_div-result c = divides c.ranges.a c.ranges.b c.if-b-eqminus1.false c.requires

pub returns-then-b-eqminus1 : goal.returns-then-b-eqminus1
returns-then-b-eqminus1 c =
    let z = c.ranges in
    quotient_negates z.a z.b c.if-b-eqminus1.true c.difference.type_inv c.difference.ensures

pub returns-else-b-eqminus1 : goal.returns-else-b-eqminus1
returns-else-b-eqminus1 c = quotient_is c.ranges.a c.ranges.b c.if-b-eqminus1.false
