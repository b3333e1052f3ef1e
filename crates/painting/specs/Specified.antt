-- The specified run of what was read.
use Rattle.std.specs.Prelude.{ℕ, suc, List, ℤ}
use Rattle.meaning.specs.Grammar.{Reading}
use Rattle.meaning.specs.Figure.{Figure}
use Rattle.meaning.specs.State.{shapes_held}
use Rattle.meaning.specs.Run.{Action, ◌>>=◌, ◌>>◌, give_back, current}
use Rattle.meaning.specs.Group.{each, figures_of}
use Rattle.meaning.specs.Execute.{execute_all}
use Rattle.meaning.specs.Procedure.{calling}
use Rattle.meaning.specs.Program.{understood, entering}

unfoldable pub paint_read : Reading → ℤ → ℤ → ℕ → Action (List Figure)
paint_read m width height n = do
  tree ← understood m
  entering tree.main.parameters width height
  execute_all (calling n tree.procedures) tree.main.body n
  give_back
  s ← current
  each (λ i. figures_of (suc i) 0 i) (shapes_held s.variables)
