-- A turn of a loop over a group's own components, and the turns for the figures in one of them.
use Rattle.std.specs.Prelude.{ℕ, ◌+◌, List}
use Rattle.meaning.specs.Basics.{if◌then◌otherwise◌}
use Rattle.machine.specs.declared.Flow.{Flow}
use Rattle.machine.specs.declared.Flow.TheVariants.{Onward}
use Rattle.machine.specs.Layout.{steps_granted}
use Rattle.machine.specs.Act.{Act, ◌>>=◌, ◌>>◌, give, held, count}
use Rattle.machine.specs.Shapes.{destroyed_at}
use Rattle.machine.specs.Groups.{component_at}
use Rattle.machine.specs.Loops.{look_in, turns_from, own_turn}

unfoldable pub member_at : Act Flow → List ℕ → ℕ → ℕ → ℕ → Act Flow
member_at body g p slot k =
    held >>= λ ws.
    if destroyed_at ws (component_at g ws k) then (λ _. give Onward) otherwise λ _. count g p >> own_turn body g p slot k (component_at g ws k)

unfoldable pub inside_at : Act Flow → List ℕ → ℕ → ℕ → ℕ → ℕ → Act Flow
inside_at body g p slot end c = look_in g c >>= turns_from (steps_granted g + 1) body g p slot end
