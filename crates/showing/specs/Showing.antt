-- The walk that writes the lines of a scene, which changes nothing but the words of the way.
use Rattle.std.specs.Prelude.{ℕ, zero, suc, ◌+◌, ◌-◌, ◌<◌, ◌≡◌, List, [], ◌∷◌, ◌++◌, ℤ, get_or, length, ltb}
use Rattle.meaning.specs.Basics.{if◌then◌otherwise◌}
use Rattle.meaning.specs.Picture.{lines_of, picture_of}
use Rattle.machine.specs.Layout.{shapes_granted}
use Rattle.machine.specs.Act.{raw}
use Rattle.machine.specs.Shapes.{is_group_at, destroyed_at}
use Rattle.machine.specs.Groups.{component_at, way_place}
use Rattle.machine.specs.Show.{shown_from, figures_in}
use Rattle.writing.specs.Placed.{WroteAt}
use Rattle.walks.specs.declared.Walk.{Walk}
use Rattle.walks.specs.Walks.{slot_in, left_in, Walks, owed}
use Rattle.scene.specs.Scene.{figures_for, scene_in}

-- all but the words of the way is as it was
pub record Unmoved (g ws ws' : List ℕ) : Type 0 where
  pub long : length ws' ≡ length ws
  pub same : (j : ℕ) → ((e : ℕ) → e < shapes_granted g → j ≡ way_place e → ⊥) → get_or ws' j 0 ≡ get_or ws j 0

-- the lines of some shapes
abbrev pub lines_for : List ℕ → List ℕ → List ℕ → List ℕ → List ℕ
lines_for program ts ws shapes = lines_of (figures_for program (raw ts ws) shapes)

-- a figure at depth d
unfoldable pub figure_within : List ℕ → ℕ → ℕ → List ℕ
figure_within g d i = if ltb d (shapes_granted g) then (λ _. i ∷ []) otherwise λ _. []

-- what a walk shows at depth d in slot k, where n components are left
unfoldable pub shown_here : List ℕ → List ℕ → ℕ → ℕ → ℕ → List ℕ
shown_here g ws d k zero = []
shown_here g ws d k (suc n) =
    if destroyed_at ws (component_at g ws k) then (λ _. [])
    otherwise λ _. if is_group_at ws (component_at g ws k) then (λ _. []) otherwise λ _. figure_within g (d + 1) (component_at g ws k)

-- what it has yet to show
unfoldable pub level_shown : List ℕ → List ℕ → ℕ → ℕ → ℕ → List ℕ
level_shown g ws d k n = shown_from (figures_in (shapes_granted g - suc d) g ws) g ws k n

unfoldable pub above_shown : List ℕ → List ℕ → ℕ → List ℕ
above_shown g ws zero = []
above_shown g ws (suc d) = level_shown g ws d (slot_in (get_or ws (way_place d) 0) + 1) (left_in (get_or ws (way_place d) 0)) ++ above_shown g ws d

unfoldable pub left_shown : List ℕ → List ℕ → ℕ → ℕ → ℕ → List ℕ
left_shown g ws d k n = level_shown g ws d k n ++ above_shown g ws d

-- a turn
pub record Moved (g ws : List ℕ) (w next : Walk) (ws' : List ℕ) : Type 0 where
  pub walks : Walks g ws' next
  pub less : owed (shapes_granted g) ws' next.depth next.left < owed (shapes_granted g) ws w.depth w.left
  pub unmoved : Unmoved g ws ws'
  pub shown : shown_here g ws w.depth w.slot w.left ++ left_shown g ws' next.depth next.slot next.left ≡ left_shown g ws w.depth w.slot w.left

-- lines written from a place on
pub record Shown (program ts g ws shapes : List ℕ) (at : ℕ) (before ws' after : List ℕ) (next : ℕ) : Type 0 where
  pub wrote : WroteAt at (lines_for program ts ws shapes) before after next
  pub unmoved : Unmoved g ws ws'

-- the picture written to the front
pub record Pictured (program ts g ws : List ℕ) (w h : ℤ) (before ws' after : List ℕ) (next : ℕ) : Type 0 where
  pub wrote : WroteAt 0 (picture_of w h (scene_in program g (raw ts ws))) before after next
  pub unmoved : Unmoved g ws ws'
