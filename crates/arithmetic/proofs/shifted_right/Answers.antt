use mathlib.Core.Path.{◌∙◌, ap}
use mir.Facts.{to_z-of_z}
use Rattle.meaning.specs.Integer.{amount}
use Rattle.arithmetic.proofs.Held.{amount_casts, amount_below, right_is}
use Rattle.arithmetic.proofs.shifted_right.Goals as goal

pub overflow_cast-result : goal.overflow_cast-result
overflow_cast-result c = amount_casts _ c.shift_amount.ensures

pub overflow_shr-result : goal.overflow_shr-result
overflow_shr-result c = amount_below _ c.shift_amount.ensures

pub returns : goal.returns
returns c =
    let z = c.ranges in
    right_is _ (c.shift_amount.ensures ∙ ap amount (to_z-of_z z.b)) z.a
