-- `sheet::line::read_field` meets its contract: a law for each way out.
-- Assumes nothing.
use native.Mathlib.Omega.{arith}
use lib.ListN.{length-take}
use Rattle.sheet.proofs.Fields.{count_fits, field_none, field_long, field_large, field_good}
use Rattle.sheet.proofs.line.read_field.Goals as goal

pub returns-then-n-lt1 : goal.returns-then-n-lt1
returns-then-n-lt1 c = field_none _ _ c.digit_count-n.ensures c.if-n-lt1.true

pub returns-then-n-gt10 : goal.returns-then-n-gt10
returns-then-n-gt10 c = field_long _ _ c.digit_count-n.ensures c.if-n-lt1.false c.if-n-gt10.true

pub slice_bounds-value_of-end : goal.slice_bounds-value_of-end
slice_bounds-value_of-end c = simp length-take (omega (arith, count_fits _ _ c.digit_count-n.ensures))

pub value_of-v-requires : goal.value_of-v-requires
value_of-v-requires c = simp length-take (omega (arith, c.if-n-gt10.false))

pub returns-then-v-gt2147483647 : goal.returns-then-v-gt2147483647
returns-then-v-gt2147483647 c = field_large _ _ c.digit_count-n.ensures _ c.if-n-lt1.false c.if-n-gt10.false
    c.value_of-v.ensures c.if-v-gt2147483647.true

pub returns : goal.returns
returns c = field_good _ _ c.digit_count-n.ensures _ c.if-n-lt1.false c.if-n-gt10.false
    c.value_of-v.ensures c.if-v-gt2147483647.false
