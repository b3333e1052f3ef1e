-- Walks over all that a group holds, as a loop makes them: at depth d, n components are left from slot k on, and what is left at the depths above
-- stands in the words of the way.
use Rattle.std.specs.Prelude.{ℕ, zero, suc, ◌+◌, ◌-◌, ◌*◌, ◌/◌, ◌%◌, ◌^◌, ◌≤◌, ◌<◌, ◌≡◌, List, Result, Ok, Err, get_or, set, ltb}
use Rattle.meaning.specs.Basics.{if◌then◌otherwise◌}
use Rattle.machine.specs.Layout.{shapes_granted, waiting_held, Room}
use Rattle.machine.specs.Act.{raw, Out, stop, Act, ◌>>=◌, ◌>>◌, give, load, store, held}
use Rattle.machine.specs.Shapes.{is_group_at}
use Rattle.machine.specs.Groups.{first_at, count_at, way_word, way_place, each_from, walk_in}
use Rattle.machine.specs.declared.Fault.{Fault}
use Rattle.machine.specs.Fault.{number_of, place_of}
use Rattle.walks.specs.declared.Walk.{Walk}

-- what is done where a component is reached, and where a group is left, at a place
abbrev pub Doing : Type 0
Doing = ℕ → ℕ → Act (Unit {0})

-- a walk over all in group i
unfoldable pub walking : Doing → Doing → List ℕ → ℕ → ℕ → Act (Unit {0})
walking reach leave g i p = walk_in (reach p) (leave p) (shapes_granted g) g 0 i

-- ---- the way's words
abbrev pub slot_in : ℕ → ℕ
slot_in w = w % 2 ^ 32

abbrev pub left_in : ℕ → ℕ
left_in w = w / 2 ^ 32 % 2 ^ 16

-- ---- what is left
module _ (reach leave : Doing) (g : List ℕ) (p : ℕ) where
  -- a component visited at depth d
  unfoldable pub visit_at : ℕ → ℕ → ℕ → ℕ → ℕ → Act (Unit {0})
  visit_at b d k n c = reach p c >> (held >>= λ ws'. if is_group_at ws' c then (λ _. do
    m ← load waiting_held
    store (way_place d) (way_word k n m)
    walk_in (reach p) (leave p) b g (d + 1) c
    leave p d)
      otherwise λ _. give tt)

  unfoldable pub level_from : ℕ → ℕ → ℕ → Act (Unit {0})
  level_from d k n = each_from (visit_at (shapes_granted g - suc d) d) g k n

  unfoldable pub above_of : ℕ → Act (Unit {0})
  above_of zero = give tt
  above_of (suc d) = leave p d >> (load (way_place d) >>= λ w. level_from d (slot_in w + 1) (left_in w) >> above_of d)

  unfoldable pub rest_of : ℕ → ℕ → ℕ → Act (Unit {0})
  rest_of d k n = level_from d k n >> above_of d

  unfoldable pub rest_by : Result Walk Fault → List ℕ → List ℕ → Out (Unit {0})
  rest_by (Ok w) ts ws = rest_of w.depth w.slot w.left (raw ts ws)
  rest_by (Err e) ts ws = stop (number_of e) (place_of e) (raw ts ws)

-- ---- the places of a walk are in their ranges
pub record Walks (g ws : List ℕ) (w : Walk) : Type 0 where
  pub room : Room g ws
  pub deep : w.depth ≤ shapes_granted g
  pub within : 0 < w.left → w.depth < shapes_granted g
  pub small : w.slot + w.left < 2 ^ 17
  pub few : w.left < 2 ^ 16
  pub ways : (e : ℕ) → e < w.depth → slot_in (get_or ws (way_place e) 0) + left_in (get_or ws (way_place e) 0) + 1 < 2 ^ 17

-- how many components are counted below depth d
unfoldable pub count_within : List ℕ → List ℕ → ℕ → ℕ → ℕ
count_within g ws d i = if ltb d (shapes_granted g) then (λ _. count_at ws i) otherwise λ _. 0

-- ---- how much is left: at each depth more than all below it can hold
unfoldable pub unit_of : ℕ → ℕ
unit_of zero = 1
unit_of (suc h) = 131072 * unit_of h

unfoldable pub weight : ℕ → ℕ → ℕ → ℕ
weight size d n = (2 * n + 1) * unit_of (size - d)

unfoldable pub owed_above : ℕ → List ℕ → ℕ → ℕ
owed_above size ws zero = 0
owed_above size ws (suc d) = owed_above size ws d + weight size d (left_in (get_or ws (way_place d) 0))

unfoldable pub owed : ℕ → List ℕ → ℕ → ℕ → ℕ
owed size ws d n = owed_above size ws d + weight size d n

unfoldable pub owed_by : ℕ → List ℕ → Result Walk Fault → ℕ
owed_by size ws (Ok w) = owed size ws w.depth w.left
owed_by size ws (Err e) = 0

unfoldable pub WalksBy : List ℕ → List ℕ → Result Walk Fault → Type 0
WalksBy g ws (Ok w) = Walks g ws w
WalksBy g ws (Err e) = Unit {0}

-- ---- a turn
pub record Turned (reach leave : Doing) (g : List ℕ) (p : ℕ) (ws : List ℕ) (w : Walk) (turn : Result Walk Fault) (ws' : List ℕ) : Type 0 where
  pub equal : (ts : List ℕ) → rest_by reach leave g p turn ts ws' ≡ rest_of reach leave g p w.depth w.slot w.left (raw ts ws)
  pub walks : WalksBy g ws' turn
  pub less : owed_by (shapes_granted g) ws' turn < owed (shapes_granted g) ws w.depth w.left

-- a walk that is not over
pub record Under (g ws : List ℕ) (w : Walk) : Type 0 where
  pub walks : Walks g ws w
  pub more : w.depth + w.left ≡ 0 → ⊥

-- past a component, back at a depth, and down from one
abbrev pub past : Walk → Walk
past w = record { depth = w.depth; slot = w.slot + 1; left = w.left - 1 }

unfoldable pub back_at : List ℕ → ℕ → Walk
back_at ws d = record { depth = d; slot = slot_in (get_or ws (way_place d) 0) + 1; left = left_in (get_or ws (way_place d) 0) }

unfoldable pub way_laid : List ℕ → ℕ → ℕ → ℕ → List ℕ
way_laid ws d k n = set ws (way_place d) (way_word k n (get_or ws waiting_held 0))

unfoldable pub down_in : List ℕ → List ℕ → ℕ → ℕ → Walk
down_in g ws d c = record { depth = d + 1; slot = first_at ws c; left = count_within g ws (d + 1) c }

-- what going down asks, and what it does
pub record Descends (g ws : List ℕ) (d : ℕ) : Type 0 where
  pub room : Room g ws
  pub deep : d < shapes_granted g

pub record Descended (g ws : List ℕ) (d k n c : ℕ) (down : Walk) (ws' : List ℕ) : Type 0 where
  pub words : ws' ≡ way_laid ws d k n
  pub place : down ≡ down_in g ws' d c

-- the same where nothing waits
pub record Entered (g ws : List ℕ) (d k n c : ℕ) (down : Walk) (ws' : List ℕ) : Type 0 where
  pub words : ws' ≡ set ws (way_place d) (way_word k n 0)
  pub place : down ≡ down_in g ws' d c
