use native.Mathlib.Omega.{arith}
use Rattle.groups.proofs.MakingLaws.{fill_first, filled, fill_short, place_fits, fill_next}
use Rattle.groups.proofs.making.fill.Goals as goal

pub loop-left-init : goal.loop-left-init
loop-left-init c = search fill_first

pub add_one-requires : goal.add_one-requires
add_one-requires c = c.loop-left.invariant.source.units

pub returns-in_err-add_one : goal.returns-in_err-add_one
returns-in_err-add_one c = fill_short _ _ _ _ _ _ _ _ _ _ c.loop-left.invariant c.loop-left-test.true _ c.in_err-add_one.ensures.does c.from_residual.ensures.1

pub overflow_add-at : goal.overflow_add-at
overflow_add-at c = omega (arith, place_fits _ _ _ _ _ _ _ _ _ _ c.loop-left.invariant c.loop-left-test.true _ c.in_ok-add_one.ensures)

pub loop-left-preserved : goal.loop-left-preserved
loop-left-preserved c = fill_next _ _ _ _ _ _ _ _ _ _ c.loop-left.invariant c.loop-left-test.true _ c.in_ok-add_one.ensures c.add_one.auto.words

pub returns : goal.returns
returns c = filled _ _ _ _ _ _ _ _ _ _ c.loop-left.invariant (omega (arith, c.loop-left-test.false))
