use mathlib.Core.Path.{◌∙◌, ap}
use Prim.Native.Nat.{ℕ, ◌%◌}
use mir.Facts.{to_z-of_z}
use Rattle.meaning.specs.Integer.{bits, amount}
use Rattle.arithmetic.proofs.shift_amount.Goals as goal

pub returns : goal.returns
unfolding amount
returns c = ap (λ (n : ℕ). n % 32) (c.bits_of.ensures ∙ ap bits (to_z-of_z c.ranges.b))
