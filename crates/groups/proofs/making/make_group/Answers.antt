use native.Mathlib.Omega.{arith}
use mathlib.Core.Path.{◌∙◌}
use Rattle.machine.specs.Groups.{new_group}
use Rattle.machine.proofs.Acts.{goes, stops, sure, loading, given}
use Rattle.stores.proofs.Laws.{shape_number, shape_room}
use Rattle.groups.proofs.MakingLaws.{puts_group, group_sources}
use Rattle.groups.proofs.making.make_group.Goals as goal

pub returns-in_err-pay_one : goal.returns-in_err-pay_one
unfolding new_group
returns-in_err-pay_one c = loading _ _ (stops _ c.in_err-pay_one.ensures c.from_residual.ensures.1)

pub overflow_cast-k : goal.overflow_cast-k
overflow_cast-k c = omega (arith, shape_number _ _ c.in_ok-pay_one.ensures c.requires.units.room)

pub put_group-requires : goal.put_group-requires
put_group-requires c = shape_room _ _ c.in_ok-pay_one.ensures c.requires.units.room _ c.place_of.ensures c.pay_one.auto.words

pub fill-requires : goal.fill-requires
fill-requires c = group_sources _ _ _ _ _ _ c.requires (c.put_group.auto.words ∙ c.pay_one.auto.words)

pub returns-in_err-fill : goal.returns-in_err-fill
unfolding new_group
returns-in_err-fill c = loading _ _ (goes _ c.in_ok-pay_one.ensures (loading _ _ (goes _ (sure (puts_group _ _ _ c.place_of.ensures c.put_group.ensures)) (stops _ c.in_err-fill.ensures c.from_residual-in_err-fill.ensures.1))))

pub returns : goal.returns
unfolding new_group
returns c = loading _ _ (goes _ c.in_ok-pay_one.ensures (loading _ _ (goes _ (sure (puts_group _ _ _ c.place_of.ensures c.put_group.ensures)) (goes _ c.in_ok-fill.ensures (given _)))))
