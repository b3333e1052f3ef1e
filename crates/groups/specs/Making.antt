-- What making groups asks, and what its parts do.
use Rattle.std.specs.Prelude.{ℕ, ◌+◌, ◌/◌, ◌%◌, ◌^◌, ◌≤◌, ◌<◌, ◌≡◌, List, Result, Ok, get_or}
use Rattle.machine.specs.declared.Fault.{Fault}
use Rattle.machine.specs.declared.Value.{Value}
use Rattle.machine.specs.declared.Value.TheVariants.{Shape}
use Rattle.machine.specs.Layout.{entries_used, components_made, entries_granted, component_place, Room}
use Rattle.machine.specs.Act.{Does, Act, ◌>>=◌, ◌>>◌, give, load, store, spend}
use Rattle.machine.specs.Groups.{slot_word, first_at, count_at, unmarked, new_group}

-- the component whose number stands above so many bits, unit, of the word at a place, with n behind it, on no loop's way
unfoldable pub add_one : List ℕ → ℕ → ℕ → ℕ → ℕ → Act (Unit {0})
add_one g unit place n p = do
  k ← load components_made
  spend entries_used (entries_granted g) 1 77 p
  w ← load place
  store (component_place g (k % entries_granted g)) (slot_word (w / unit) n)
  unmarked g (k % entries_granted g)
  store components_made (k % entries_granted g + 1)

unfoldable pub grouping : List ℕ → ℕ → ℕ → ℕ → ℕ → ℕ → Act Value
grouping g p stride unit place n = new_group g p stride unit place n >>= λ j. give (Shape j)

pub record Units (g ws : List ℕ) (unit : ℕ) : Type 0 where
  pub room : Room g ws
  pub some : 0 < unit

pub record Sources (g ws : List ℕ) (stride unit place : ℕ) : Type 0 where
  pub units : Units g ws unit
  pub near : stride ≤ 5
  pub small : place < 2 ^ 40

unfoldable pub copy_group : List ℕ → ℕ → ℕ → List ℕ → Act Value
copy_group g p i ws = grouping g p 1 1 (component_place g (first_at ws i)) (count_at ws i)

-- a component added, and what it says of the entries used
pub record Adds (g : List ℕ) (p : ℕ) (ws : List ℕ) (unit place n : ℕ) (answer : Result (Unit {0}) Fault) (ws' : List ℕ) : Type 0 where
  pub does : Does ws (add_one g unit place n p) answer ws'
  pub used : answer ≡ Ok tt → (get_or ws' entries_used 0 ≡ get_or ws entries_used 0 + 1) × (get_or ws entries_used 0 < 2 ^ 16)
