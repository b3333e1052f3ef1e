-- What library procedures ask of their arguments.
use Rattle.std.specs.Prelude.{ℕ, not, eqb}
use Rattle.machine.specs.declared.Figure.{Figure}
use Rattle.machine.specs.Act.{Act, ◌>>◌, give, refuse}
use Rattle.machine.specs.Arguments.{argument}
use Rattle.machine.specs.Library.{with_figure}

-- the only argument, which has to be a figure
unfoldable pub only_figure : ℕ → ℕ → ℕ → Act Figure
only_figure p base n r = (do
  refuse (not (eqb n 1)) 20 p
  with_figure p (argument r base) λ s. give s) r
