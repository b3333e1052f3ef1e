-- A component destroyed where it is reached; nothing is done where a group is left.
use Rattle.std.specs.Prelude.{ℕ, List}
use Rattle.machine.specs.Act.{◌>>◌, give, count}
use Rattle.machine.specs.Shapes.{destroy}
use Rattle.walks.specs.Walks.{Doing}

unfoldable pub destroy_reached : List ℕ → Doing
destroy_reached g p c = count g p >> destroy c

unfoldable pub destroy_left : Doing
destroy_left p d = give tt
