use native.Mathlib.Omega.{arith}
use Rattle.machine.specs.Shapes.{new_shape}
use Rattle.machine.proofs.Acts.{goes, stops, sure, loading, given}
use Rattle.stores.proofs.Laws.{shape_number, shape_room, puts_figure}
use Rattle.stores.proofs.shapes.new_shape.Goals as goal

pub returns-in_err-pay_one : goal.returns-in_err-pay_one
unfolding new_shape
returns-in_err-pay_one c = loading _ _ (stops _ c.in_err-pay_one.ensures c.from_residual.ensures.1)

pub overflow_cast-k : goal.overflow_cast-k
overflow_cast-k c = omega (arith, shape_number _ _ c.in_ok-pay_one.ensures c.requires)

pub put_figure-requires : goal.put_figure-requires
put_figure-requires c = shape_room _ _ c.in_ok-pay_one.ensures c.requires _ c.place_of.ensures c.pay_one.auto.words

pub returns : goal.returns
unfolding new_shape
returns c = loading _ _ (goes _ c.in_ok-pay_one.ensures (goes _ (sure (puts_figure _ _ c.place_of.ensures c.put_figure.ensures)) (given _)))
