-- Main's prologue and epilogue: what each does to the words.
use Rattle.std.specs.Prelude.{ℕ, ◌≤◌, ◌<◌, ◌≡◌, List, get_or, ℤ, eqb}
use Rattle.machine.specs.declared.Value.TheVariants.{Integer}
use Rattle.machine.specs.Words.{packed}
use Rattle.machine.specs.Layout.{calls_used, calls_granted, argument_place, entry_place, component_place}
use Rattle.machine.specs.Act.{Act, refuse, store, spend, ◌>>◌}
use Rattle.machine.specs.Variables.{set_variable}
use Rattle.machine.specs.Procedures.{open_frame}
use Rattle.machine.specs.Show.{show_scene}
use Rattle.scene.specs.Measuring.{size_with}

-- ---- before
-- the words hold zeros before the stack and where entries stand; what the others hold means nothing
pub record Blank (g ws : List ℕ) : Type 0 where
  pub front : (i : ℕ) → i < argument_place 0 → get_or ws i 0 ≡ 0
  pub entries : (i : ℕ) → entry_place g 0 ≤ i → i < component_place g 0 → get_or ws i 0 ≡ 0

-- main begins, by how many words its variables take: 60 if its parameters have one name, it is the first call, and they hold the width and the height
unfoldable pub main_begins : List ℕ → ℕ → ℤ → ℤ → Act (Unit {0})
main_begins g n width height = do
  refuse (eqb n 0) 60 0
  spend calls_used (calls_granted g) 1 81 0
  open_frame 0 2 n 0
  set_variable 0 (packed (Integer width))
  set_variable 1 (packed (Integer height))

-- ---- behind
-- main returns: its call is given back, and the scene that it leaves is measured
unfoldable pub main_ends : List ℕ → List ℕ → List ℕ → Act (Unit {0})
main_ends program texts g = do
  store calls_used 0
  show_scene (size_with program texts) g
