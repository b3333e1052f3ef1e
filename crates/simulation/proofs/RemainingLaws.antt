-- What a loop has left stays so while components and shapes do.
use Prim.Native.Nat.{ℕ, ◌+◌, ◌/◌, ◌%◌, ◌^◌, ◌≤◌, ◌<◌}
use native.Mathlib.Omega.{arith}
use native.Mathlib.Nat.{le_trans, le_refl}
use mathlib.Core.Path.{◌≡◌, refl, ap, sym, ◌∙◌}
use mathlib.Core.Bool.{true}
use mathlib.Core.List.{List, [], ◌∷◌}
use lib.ListN.{get_or}
use Rattle.meaning.specs.Run as Run
use Rattle.meaning.specs.Execute.{Flow, turns, iterating}
use Rattle.machine.specs.Layout.{shapes_used, components_made}
use Rattle.machine.specs.Act.{Raw}
use Rattle.machine.specs.Shapes.{is_group_at}
use Rattle.machine.specs.Groups.{component_at, followers_at}
use Rattle.simulation.specs.Sound.{Shapes}
use Rattle.simulation.specs.Follows.{Later}
use Rattle.simulation.proofs.Listed.{listed_same}
use Rattle.simulation.proofs.Frames.{group_stays, SameComponents, component_later, first_later, count_later}
use Rattle.simulation.proofs.Remaining.{Stop, level, remaining, Level, next_up, Way}

-- the slots of a way lie below the end
pub way_below : (g ws : List ℕ) (end : ℕ) (ways : List Stop) → Way g ws end ways → next_up end ways ≤ end
unfolding Way next_up
way_below g ws end [] w = le_refl end
way_below g ws end (at ∷ ways) w = omega (arith, w.0.below, way_below g ws end ways w.1)

module _ {program g : List ℕ} {r r' : Raw} (l : Later program r r') (shapes : Shapes program g r.words) (same : SameComponents g r r') where
  pub followers_later : (k : ℕ) → k < get_or r.words components_made 0 → followers_at g r'.words k ≡ followers_at g r.words k
  followers_later k h = ap (λ (w : ℕ). w / 2 ^ 32 % 2 ^ 16) (same.words k h)

  pub level_later : (body : ℕ → Run.Action Flow) (b k n : ℕ) → k + n ≤ get_or r.words components_made 0 → level g r'.words body b k n ≡ level g r.words body b k n
  unfolding level
  level_later body b k n h = ap (turns (iterating b body)) (listed_same _ _ k n (λ j x y. component_later l shapes same j (le_trans y h)))

  pub level_stays : {b k n up : ℕ} → k + n ≤ get_or r.words components_made 0 → Level g r.words b k n up → Level g r'.words b k n up
  level_stays h a = record {
    below = a.below;
    known = le_trans a.known l.shapes;
    older = λ j x y. rw (component_later l shapes same j (le_trans y h)) (a.older j x y);
    follow = λ j x y. rw (followers_later j (le_trans y h)) (a.follow j x y);
    inner = λ j x y e.
        let q = component_later l shapes same j (le_trans y h) in
        let m : component_at g r.words j < get_or r.words shapes_used 0 = le_trans (a.older j x y) a.known in
        let e' : is_group_at r'.words (component_at g r.words j) ≡ true = rw q at e in
        rw (q, first_later l shapes same (component_at g r.words j) m, count_later l shapes same (component_at g r.words j) m)
        (a.inner j x y (sym (group_stays (l.figures (component_at g r.words j) m)) ∙ e'));
  }

  pub way_later : (end : ℕ) (ways : List Stop) → Way g r.words end ways → end ≤ get_or r.words components_made 0 → Way g r'.words end ways
  unfolding Way
  way_later end [] w h = tt
  way_later end (at ∷ ways) w h =
      let z = way_below g r.words end ways w.1 in
      let x = w.0.below in
      rw (followers_later at.slot (omega arith)) (level_stays (omega arith) w.0, way_later end ways w.1 h)

  pub remaining_later : (body : ℕ → Run.Action Flow) (end : ℕ) (ways : List Stop) → Way g r.words end ways → end ≤ get_or r.words components_made 0
      → remaining g r'.words body ways ≡ remaining g r.words body ways
  unfolding Way remaining
  remaining_later body end [] w h = refl
  remaining_later body end (at ∷ ways) w h =
      let z = way_below g r.words end ways w.1 in
      let x = w.0.below in
      rw (followers_later at.slot (omega arith), level_later body at.depth (at.slot + 1) (followers_at g r.words at.slot) (omega arith), remaining_later body end ways w.1 h)
