-- The word of a declaration's variable.
-- Assumes nothing.
use Prim.Native.Nat.{ℕ}
use mathlib.Core.Path.{◌≡◌}
use mathlib.Core.List.{List}
use lib.ListN.{get_or}
use Rattle.machine.specs.Layout.{frame}
use Rattle.machine.specs.Variables.{holding_of}
use Rattle.scene.specs.Scene.{word_of}

pub word_is : (ws : List ℕ) (k f : ℕ) {r : ℕ} → f ≡ get_or ws frame 0 → r ≡ holding_of ws f k → r ≡ word_of ws k
word_is ws k f e h = rw e at h
