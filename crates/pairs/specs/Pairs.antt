-- Two groups compared pair by pair, as a loop does it: at depth d, n components are left from slot k on and m from slot l on, and what is left at the
-- depths above stands in the words of the way, on both sides.
use Rattle.std.specs.Prelude.{ℕ, zero, suc, ◌+◌, ◌-◌, ◌^◌, ◌<◌, ◌≡◌, Bool, true, false, List, Result, Ok, Err, get_or, set}
use Rattle.meaning.specs.Basics.{if◌then◌otherwise◌}
use Rattle.machine.specs.Layout.{shapes_granted, Room}
use Rattle.machine.specs.Act.{raw, Out, done, stop, Act, ◌>>=◌, ◌>>◌, give, load, store, held, count}
use Rattle.machine.specs.Groups.{component_at, first_at, count_at, way_word, way_place, waiting_place, pairs_from, alike_at}
use Rattle.machine.specs.Operate.{figures_same}
use Rattle.walks.specs.Walks.{slot_in, left_in, owed}
use Rattle.std.proofs.Common.{ControlFlow, Continue, Break}
use Rattle.machine.specs.declared.Fault.{Fault}
use Rattle.machine.specs.Fault.{number_of, place_of}
use Rattle.pairs.specs.declared.Ways.{Ways}
use Rattle.pairs.specs.declared.Met.{Met}
use Rattle.pairs.specs.declared.Met.TheVariants.{Apart, Same, Groups}

-- both ways kept at a depth
unfoldable pub both_laid : List ℕ → ℕ → ℕ → ℕ → ℕ → ℕ → List ℕ
both_laid ws d k n l m = set (set ws (way_place d) (way_word k n 0)) (waiting_place d) (way_word l m 0)

-- ---- what is left
module _ (program g : List ℕ) (p : ℕ) where
  -- a pair at depth d: n components follow slot k, and m slot l
  unfoldable pub pair_at : ℕ → ℕ → ℕ → ℕ → ℕ → ℕ → Act Bool
  pair_at b d k n l m = do
    count g p
    store (way_place d) (way_word k n 0)
    store (waiting_place d) (way_word l m 0)
    ws' ← held
    alike_at (figures_same program) b g p (d + 1) (component_at g ws' k) (component_at g ws' l)

  unfoldable pub pair_level : ℕ → ℕ → ℕ → ℕ → ℕ → Act Bool
  pair_level d k n l m = pairs_from (pair_at (shapes_granted g - suc d) d) g k n l m

  unfoldable pub pair_above : ℕ → Bool → Act Bool
  pair_above zero b = give b
  pair_above (suc d) b =
      if b
      then (λ _. load (way_place d) >>= λ w. load (waiting_place d) >>= λ v. pair_level d (slot_in w + 1) (left_in w) (slot_in v + 1) (left_in v) >>= pair_above d)
      otherwise λ _. give b

  unfoldable pub pair_rest : ℕ → ℕ → ℕ → ℕ → ℕ → Act Bool
  pair_rest d k n l m = pair_level d k n l m >>= pair_above d

  -- after a pair; a pair whose ways are kept, and a pair, each with all that is left
  unfoldable pub pair_after : ℕ → ℕ → ℕ → ℕ → ℕ → Bool → Act Bool
  pair_after d k n l m b = if b then (λ _. pair_level d (k + 1) n (l + 1) m) otherwise λ _. give false

  unfoldable pub pair_kept : ℕ → ℕ → ℕ → ℕ → ℕ → Act Bool
  pair_kept d k n l m =
      (held >>= λ ws. alike_at (figures_same program) (shapes_granted g - suc d) g p (d + 1) (component_at g ws k) (component_at g ws l))
      >>= pair_after d k n l m >>= pair_above d

  unfoldable pub pair_first : ℕ → ℕ → ℕ → ℕ → ℕ → Act Bool
  pair_first d k n l m = pair_at (shapes_granted g - suc d) d k n l m >>= pair_after d k n l m >>= pair_above d

  unfoldable pub pair_by : Result (ControlFlow Bool Ways) Fault → List ℕ → List ℕ → Out Bool
  pair_by (Ok (Continue w)) ts ws = pair_rest w.depth w.slot w.left w.other_slot w.other_left (raw ts ws)
  pair_by (Ok (Break b)) ts ws = done b (raw ts ws)
  pair_by (Err e) ts ws = stop (number_of e) (place_of e) (raw ts ws)

  -- what two shapes at depth d come to
  unfoldable pub met_by : Met → ℕ → ℕ → ℕ → List ℕ → List ℕ → Out Bool
  met_by Apart d i j ts ws = done false (raw ts ws)
  met_by Same d i j ts ws = done true (raw ts ws)
  met_by Groups d i j ts ws = pair_level d (first_at ws i) (count_at ws i) (first_at ws j) (count_at ws j) (raw ts ws)

-- ---- the places are in their ranges
pub record Pairs (g ws : List ℕ) (d k n l m : ℕ) : Type 0 where
  pub room : Room g ws
  pub deep : d < shapes_granted g
  pub small : k + n < 2 ^ 17
  pub few : n < 2 ^ 16
  pub small' : l + m < 2 ^ 17
  pub few' : m < 2 ^ 16
  pub ways : (e : ℕ) → e < d → slot_in (get_or ws (way_place e) 0) + left_in (get_or ws (way_place e) 0) + 1 < 2 ^ 17
  pub ways' : (e : ℕ) → e < d → slot_in (get_or ws (waiting_place e) 0) + left_in (get_or ws (waiting_place e) 0) + 1 < 2 ^ 17

unfoldable pub PairsBy : List ℕ → List ℕ → Result (ControlFlow Bool Ways) Fault → Type 0
PairsBy g ws (Ok (Continue w)) = Pairs g ws w.depth w.slot w.left w.other_slot w.other_left
PairsBy g ws (Ok (Break b)) = Unit {0}
PairsBy g ws (Err e) = Unit {0}

-- how much is left, by the left side
unfoldable pub left_by : ℕ → List ℕ → Result (ControlFlow Bool Ways) Fault → ℕ
left_by size ws (Ok (Continue w)) = owed size ws w.depth w.left
left_by size ws (Ok (Break b)) = 0
left_by size ws (Err e) = 0

-- what the parts ask
pub record Passing (g ws : List ℕ) (k n : ℕ) : Type 0 where
  pub room : Room g ws
  pub small : k + n < 2 ^ 17

pub record Backs (ws : List ℕ) (d : ℕ) : Type 0 where
  pub left : slot_in (get_or ws (way_place d) 0) + left_in (get_or ws (way_place d) 0) + 1 < 2 ^ 17
  pub right : slot_in (get_or ws (waiting_place d) 0) + left_in (get_or ws (waiting_place d) 0) + 1 < 2 ^ 17

-- the ways kept for a pair
pub record Kept (g ws : List ℕ) (d k n l m : ℕ) : Type 0 where
  pub pairs : Pairs g ws d k (n + 1) l (m + 1)
  pub left : get_or ws (way_place d) 0 ≡ way_word k n 0
  pub right : get_or ws (waiting_place d) 0 ≡ way_word l m 0

pub record Within (g ws : List ℕ) : Type 0 where
  pub room : Room g ws
  pub some : 0 < shapes_granted g

-- ---- what the parts do
-- back at a depth
unfoldable pub back_both : List ℕ → ℕ → Ways
back_both ws d = record {
  depth = d;
  slot = slot_in (get_or ws (way_place d) 0) + 1;
  left = left_in (get_or ws (way_place d) 0);
  other_slot = slot_in (get_or ws (waiting_place d) 0) + 1;
  other_left = left_in (get_or ws (waiting_place d) 0);
}

pub record Paired (program g : List ℕ) (p : ℕ) (ts ws : List ℕ) (d k n l m : ℕ) (turn : Result (ControlFlow Bool Ways) Fault) (ws' : List ℕ) : Type 0 where
  pub equal : pair_by program g p turn ts ws' ≡ pair_rest program g p d k n l m (raw ts ws)
  pub pairs : PairsBy g ws' turn
  pub less : left_by (shapes_granted g) ws' turn < owed (shapes_granted g) ws d n

-- the same of a pair that is not destroyed on either side
pub record PairedFirst (program g : List ℕ) (p : ℕ) (ts ws : List ℕ) (d k n l m : ℕ) (turn : Result (ControlFlow Bool Ways) Fault) (ws' : List ℕ) : Type 0 where
  pub equal : pair_by program g p turn ts ws' ≡ pair_first program g p d k n l m (raw ts ws)
  pub pairs : PairsBy g ws' turn
  pub less : left_by (shapes_granted g) ws' turn < owed (shapes_granted g) ws d (suc n)

-- its ways are kept: the words are not changed
pub record Follows (program g ts ws : List ℕ) (d k n l m : ℕ) (turn : ControlFlow Bool Ways) : Type 0 where
  pub equal : (p : ℕ) → pair_by program g p (Ok turn) ts ws ≡ pair_kept program g p d k n l m (raw ts ws)
  pub pairs : PairsBy g ws (Ok turn)
  pub less : left_by (shapes_granted g) ws (Ok turn) < owed (shapes_granted g) ws d (suc n)

-- the end of a level on the left side
pub record PairEnds (g ws : List ℕ) (d k l m : ℕ) (turn : ControlFlow Bool Ways) : Type 0 where
  pub equal : (program ts : List ℕ) (p : ℕ) → pair_by program g p (Ok turn) ts ws ≡ pair_rest program g p d k 0 l m (raw ts ws)
  pub pairs : PairsBy g ws (Ok turn)
  pub less : left_by (shapes_granted g) ws (Ok turn) < owed (shapes_granted g) ws d 0

pub record Meets (program g ts ws : List ℕ) (d i j : ℕ) (met : Met) : Type 0 where
  pub equal : (p : ℕ) → met_by program g p met d i j ts ws ≡ alike_at (figures_same program) (shapes_granted g - d) g p d i j (raw ts ws)
  pub deep : met ≡ Groups → d < shapes_granted g
