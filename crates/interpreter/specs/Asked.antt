-- What the functions ask: enough is lent, and places and fuel leave room for sums.
use Rattle.std.specs.Prelude.{ℕ, ◌+◌, ◌*◌, ◌^◌, ◌≤◌, ◌<◌, ◌≡◌, List, get_or}
use Rattle.machine.specs.Opcodes.{tag_in, tag_return}
use Rattle.machine.specs.Layout as Layout

pub record Lent (g ts ws : List ℕ) (fuel : ℕ) : Type 0 where
  pub lent : Layout.Lent g ts ws
  pub deep : 33554432 * fuel ≤ 2 ^ 60

-- a procedure by the slot of its name
pub record Calls (g ts ws : List ℕ) (fuel callee : ℕ) : Type 0 where
  pub lent : Lent g ts ws fuel
  pub small : callee < 2 ^ 32

-- there is room behind x for statements nested so deep
pub record Runs (g ts ws : List ℕ) (fuel x : ℕ) : Type 0 where
  pub lent : Lent g ts ws fuel
  pub room : x + 33554432 * fuel < 2 ^ 62

-- a return, the word w at x
pub record Leaves (code g ts ws : List ℕ) (fuel w x : ℕ) : Type 0 where
  pub runs : Runs g ts ws fuel x
  pub word : w ≡ get_or code x 0
  pub tagged : tag_in w ≡ tag_return

-- a body of n words from a on
pub record Body (g ts ws : List ℕ) (fuel a n : ℕ) : Type 0 where
  pub lent : Lent g ts ws fuel
  pub place : a < 2 ^ 32
  pub small : n < 2 ^ 32
