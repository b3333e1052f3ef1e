-- Shapes made anew by an operator and an integer.
use Rattle.std.specs.Prelude.{ℕ, List, get_or, ℤ}
use Rattle.machine.specs.declared.Figure.{Figure}
use Rattle.machine.specs.Layout.{shapes_used}
use Rattle.machine.specs.Act.{Act, ◌>>◌}
use Rattle.machine.specs.Shapes.{figure_at, new_shape}
use Rattle.machine.specs.Groups.{await, remake_reached}
use Rattle.walks.specs.Walks.{Doing}
use Rattle.figures.specs.Changes.{changed}

-- a figure changed
unfoldable pub changing : ℕ → ℤ → Figure → Figure
changing tag n s = changed tag s n

-- a new figure waits, at any place
unfoldable pub renewed : List ℕ → ℕ → ℤ → ℕ → List ℕ → ℕ → Act (Unit {0})
renewed g tag n c ws p = new_shape g p (changing tag n (figure_at ws c)) >> await (get_or ws shapes_used 0)

-- a component is reached
unfoldable pub remake_reached_by : List ℕ → ℕ → ℤ → Doing
remake_reached_by g tag n p c = remake_reached g p (changing tag n) c
