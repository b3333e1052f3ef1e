-- What the functions on calls ask.
use Rattle.std.specs.Prelude.{ℕ, ◌^◌, ◌<◌, List}
use Rattle.machine.specs.Layout.{Room}

-- the slot of a name
pub record Callable (g ws : List ℕ) (callee : ℕ) : Type 0 where
  pub room : Room g ws
  pub small : callee < 2 ^ 32
