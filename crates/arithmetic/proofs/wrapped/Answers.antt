use mathlib.Core.Path.{◌∙◌, ap}
use mir.Syntax.{w32}
use mir.Val.{to_z}
use mir.Facts.{to_z-of_z}
use Rattle.meaning.specs.Integer.{bits, wrap}
use Rattle.arithmetic.proofs.Held.{given}
use Rattle.arithmetic.proofs.wrapped.Goals as goal

pub returns : goal.returns
unfolding wrap
returns c =
    let e = c.low_bits.ensures ∙ ap bits (to_z-of_z c.ranges.z) in
    given c.signed_of.type_inv ∙ c.signed_of.ensures ∙ ap (to_z w32) e
