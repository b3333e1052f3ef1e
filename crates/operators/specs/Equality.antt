-- Two values compared.
use Rattle.std.specs.Prelude.{ℕ, Bool, List}
use Rattle.machine.specs.Layout.{shapes_granted}
use Rattle.machine.specs.Words.{unpacked}
use Rattle.machine.specs.Act.{Act, give, fail}
use Rattle.machine.specs.Groups.{alike_at}
use Rattle.machine.specs.Operate.{Comparison, refused, settled, of_shapes, equality, figures_same}

module _ (program g : List ℕ) (p : ℕ) where
  -- two values
  unfoldable pub comparison : Comparison → Act Bool
  comparison refused = fail 20 p
  comparison (settled b) = give b
  comparison (of_shapes i j) = alike_at (figures_same program) (shapes_granted g) g p 0 i j

  -- two values by their words
  unfoldable pub equating : ℕ → ℕ → Act Bool
  equating a b r = comparison (equality program r (unpacked a) (unpacked b)) r
