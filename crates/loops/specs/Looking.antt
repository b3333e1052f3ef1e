-- Looking for the next figure, as a loop does it: the way is kept as in a walk.
use Rattle.std.specs.Prelude.{◌≡◌, ℕ, zero, suc, ◌+◌, ◌-◌, ◌%◌, ◌^◌, ◌<◌, Bool, ◌&&◌, ◌||◌, List, ◌==◌, nat_lt}
use Rattle.meaning.specs.Basics.{if◌then◌otherwise◌}
use Rattle.machine.specs.Layout.{shapes_granted, Room}
use Rattle.machine.specs.Act.{raw, Out, done, Act, ◌>>=◌, ◌>>◌, give, load, held}
use Rattle.machine.specs.Shapes.{is_group_at, destroyed_at}
use Rattle.machine.specs.Groups.{component_at, followers_at, first_at, count_at, way_place}
use Rattle.machine.specs.Loops.{hollow_at, hollow, marked_at, unmark, look_from, look_under}
use Rattle.std.proofs.Common.{ControlFlow, Continue, Break, Option, None, Some}
use Rattle.walks.specs.declared.Walk.{Walk}
use Rattle.walks.specs.Walks.{slot_in, left_in, Walks, owed}

-- whether a component is passed over
abbrev pub passed_over : List ℕ → ℕ → Bool
passed_over ws c = destroyed_at ws c || (is_group_at ws c && hollow_at ws c)

module _ (g : List ℕ) where
  unfoldable pub inside_at : ℕ → ℕ → ℕ → Act ℕ
  inside_at b d c = held >>= λ ws. look_under b g (d + 1) (first_at ws c) (count_at ws c)

  unfoldable pub look_level : ℕ → ℕ → ℕ → Act ℕ
  look_level d k n = look_from (inside_at (shapes_granted g - suc d) d) g d k n

  -- nothing was found in a group: it is marked no longer, and hollow
  unfoldable pub give_up : ℕ → Act (Unit {0})
  give_up k = held >>= λ ws. unmark g k >> hollow (component_at g ws k)

  unfoldable pub look_above : ℕ → ℕ → Act ℕ
  look_above zero found = give found
  look_above (suc d) found =
      if found == 0
      then (λ _. load (way_place d) >>= λ w. give_up (slot_in w) >> (look_level d (slot_in w + 1) (left_in w) >>= look_above d))
      otherwise λ _. give found

  unfoldable pub look_rest : ℕ → ℕ → ℕ → Act ℕ
  look_rest d k n = look_level d k n >>= look_above d

  unfoldable pub look_by : ControlFlow ℕ Walk → List ℕ → List ℕ → Out ℕ
  look_by (Continue w) ts ws = look_rest w.depth w.slot w.left (raw ts ws)
  look_by (Break found) ts ws = done found (raw ts ws)

-- the slot behind one; 0 if there is none
abbrev pub behind : Option ℕ → ℕ
behind None = 0
behind (Some k) = k + 1

-- how many components are counted at a depth
unfoldable pub within : List ℕ → ℕ → ℕ → ℕ
within g d n = if nat_lt d (shapes_granted g) then (λ _. n) otherwise λ _. 0

-- ---- a turn
unfoldable pub looks_within : List ℕ → List ℕ → ControlFlow ℕ Walk → Type 0
looks_within g ws (Continue w) = Walks g ws w
looks_within g ws (Break found) = Unit {0}

unfoldable pub left_to_look : ℕ → List ℕ → ControlFlow ℕ Walk → ℕ
left_to_look size ws (Continue w) = owed size ws w.depth w.left
left_to_look size ws (Break found) = 0

pub record Looked (g ws : List ℕ) (w : Walk) (turn : ControlFlow ℕ Walk) (ws' : List ℕ) : Type 0 where
  pub equal : (ts : List ℕ) → look_by g turn ts ws' ≡ look_rest g w.depth w.slot w.left (raw ts ws)
  pub walks : looks_within g ws' turn
  pub less : left_to_look (shapes_granted g) ws' turn < owed (shapes_granted g) ws w.depth w.left

-- what a search asks
pub record Starts (g ws : List ℕ) (k n : ℕ) : Type 0 where
  pub room : Room g ws
  pub small : k + n < 2 ^ 17
  pub few : n < 2 ^ 16

-- among the components that follow slot k in its group
unfoldable pub look_after : List ℕ → ℕ → Act ℕ
look_after g k = held >>= λ ws. look_under (shapes_granted g) g 0 ((k + 1) % 2 ^ 16) (followers_at g ws k)

-- a slot marked no longer, if it is
unfoldable pub clear_mark : List ℕ → ℕ → Act (Unit {0})
clear_mark g k = held >>= λ ws. if marked_at g ws k then (λ _. unmark g k) otherwise λ _. give tt
