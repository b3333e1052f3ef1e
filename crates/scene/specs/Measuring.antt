-- The walk over a scene that counts its components and the bytes of its lines.
use Rattle.std.specs.Prelude.{ℕ, List, length}
use Rattle.meaning.specs.Basics.{if◌then◌otherwise◌}
use Rattle.meaning.specs.Picture.{line_of}
use Rattle.machine.specs.Act.{Raw, raw, give, held, count, ◌>>=◌, ◌>>◌}
use Rattle.machine.specs.Shapes.{is_group_at}
use Rattle.machine.specs.Show.{measure}
use Rattle.walks.specs.Walks.{Doing}
use Rattle.scene.specs.Scene.{figure_for}

-- how long the line of a shape is
unfoldable pub line_size : List ℕ → Raw → ℕ → ℕ
line_size program r i = length (line_of (figure_for program r i))

-- the same with a text store that remains
unfoldable pub size_with : List ℕ → List ℕ → Raw → ℕ → ℕ
size_with program ts r i = line_size program (raw ts r.words) i

-- a component reached, at any place; nothing is done where a group is left
unfoldable pub measure_reached : List ℕ → List ℕ → List ℕ → Doing
measure_reached program ts g p c =
    count g p >> (held >>= λ ws. if is_group_at ws c then (λ _. give tt) otherwise λ _. measure (size_with program ts) c)

unfoldable pub nothing_left : Doing
nothing_left p d = give tt
