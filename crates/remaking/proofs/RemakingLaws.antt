-- Groups made anew by an operator: the way is kept.
use Prim.Native.Nat.{ℕ, ◌+◌, ◌-◌, ◌^◌, ◌<◌}
use mathlib.Core.Path.{◌≡◌, ◌∙◌}
use mathlib.Core.List.{List}
use native.Mathlib.Omega.{arith}
use lib.ListN.{get_or, set, length, length-set}
use lib.IntN.{ℤ}
use Rattle.std.specs.Prelude.{Ok}
use Rattle.machine.specs.Layout.{Room}
use Rattle.machine.specs.Act.{Does}
use Rattle.machine.specs.Groups.{way_place, remake_left}
use Rattle.walks.specs.declared.Walk.{Walk}
use Rattle.walks.specs.Walks.{slot_in, left_in, Under}
use Rattle.walks.proofs.WalkLaws.{Steady}
use Rattle.walks.proofs.TurnLaws.{room_same, leave_kept, way_bound}
use Rattle.remaking.specs.Remaking.{changing, remake_reached_by}
use Rattle.remaking.proofs.RemakeLaws.{remaking, remaking_steady}

pub steady : (g : List ℕ) (tag : ℕ) (n : ℤ) → Steady g (remake_reached_by g tag n) (remake_left g)
unfolding remaking remake_reached_by
steady g tag n = remaking_steady g (changing tag n)

-- the way is as it was when a group was left
pub back_bound : (g ws : List ℕ) (w : Walk) (p : ℕ) (ws₁ : List ℕ) → Under g ws w → w.left ≡ 0 → Does ws (remake_left g p (w.depth - 1)) (Ok tt) ws₁
    → slot_in (get_or ws₁ (way_place (w.depth - 1)) 0) + left_in (get_or ws₁ (way_place (w.depth - 1)) 0) + 1 < 2 ^ 17
back_bound g ws w p ws₁ u z h =
    let more = u.more in
    rw (leave_kept g (remaking g (λ s. s)) (remake_left g) (remaking_steady g (λ s. s)) p (w.depth - 1) h (w.depth - 1) (omega (arith, more, u.walks.deep)))
    (way_bound g ws w u z)

-- a word is put before the walk
module _ (g ws : List ℕ) (at w : ℕ) (ws₁ : List ℕ) (l : length ws₁ ≡ length (set ws at w)) where
  pub room_put : Room g ws → Room g ws₁
  room_put r = room_same r (l ∙ length-set ws at w)
