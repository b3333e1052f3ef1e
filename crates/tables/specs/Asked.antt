-- What the functions on single entries ask, and what they say.
use Rattle.std.specs.Prelude.{ℕ, zero, suc, Option, None, Some, ◌+◌, ◌%◌, ◌^◌, ◌≤◌, ◌<◌, Bool, ◌&&◌, List, length, get_or, eqb}
use Rattle.machine.specs.Act.{Act}
use Rattle.machine.specs.Tables.{same_key, find_entry, store_in}

-- whether the entry at a place has an owner and a key
unfoldable pub matches_at : List ℕ → List ℕ → List ℕ → ℕ → ℕ → ℕ → Bool
matches_at program ts ws at t key = eqb (get_or ws at 0 % 2 ^ 40) t && same_key program ts ws (get_or ws (at + 1) 0) key

-- the entry before a place, if there is one
unfoldable pub entry_before : ℕ → Option ℕ
entry_before zero = None
entry_before (suc k) = Some k

-- there is room for an entry and a head
pub record Puts (ws : List ℕ) (at head : ℕ) : Type 0 where
  pub entry : at + 3 ≤ length ws
  pub index : head < length ws

-- a value stored where the key is no group
unfoldable pub putting : List ℕ → List ℕ → List ℕ → List ℕ → ℕ → ℕ → ℕ → ℕ → Act (Unit {0})
putting program g ts ws t key value p = store_in program g t key value p (find_entry program g ts ws t key)
