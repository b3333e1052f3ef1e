-- What a loop over a group has left to do: behind the slot of the figure that was bound, and behind each slot on the way down to it.
use Prim.Native.Nat.{ℕ, suc, ◌+◌, ◌≤◌, ◌<◌}
use mathlib.Core.Path.{◌≡◌}
use mathlib.Core.Bool.{true, false}
use mathlib.Core.List.{List, [], ◌∷◌}
use lib.ListN.{get_or}
use Rattle.meaning.specs.Token.{Token}
use Rattle.meaning.specs.State.{State}
use Rattle.meaning.specs.Run as Run
use Rattle.meaning.specs.Book.{Amounts}
use Rattle.meaning.specs.Execute.{Flow, onward, continue, turns, iterating}
use Rattle.machine.specs.Layout.{shapes_used}
use Rattle.machine.specs.Act.{Raw, Out, done}
use Rattle.machine.specs.Shapes.{is_group_at, destroyed_at}
use Rattle.machine.specs.Groups.{component_at, followers_at, first_at, count_at}
use Rattle.simulation.specs.Meant.{listed}
use Rattle.simulation.proofs.Marking.{AfterBut}
use Rattle.simulation.proofs.Paths.{Path}

-- a slot on the way, and the b by which the meaning goes on behind it (Execute.iterating)
pub record Stop : Type 0 where
  pub slot : ℕ
  pub depth : ℕ

unfoldable pub slots : List Stop → List ℕ
slots [] = []
slots (w ∷ ways) = w.slot ∷ slots ways

-- ---- what the meaning has left
module _ (g ws : List ℕ) (body : ℕ → Run.Action Flow) where
  -- n components from slot k on
  unfoldable pub level : ℕ → ℕ → ℕ → Run.Action Flow
  level b k n = turns (iterating b body) (listed (component_at g ws) k n)

  -- behind each slot, innermost first
  unfoldable pub remaining : List Stop → Run.Action Flow
  remaining [] = Run.give onward
  remaining (w ∷ ways) = Run.◌>>=◌ (level w.depth (w.slot + 1) (followers_at g ws w.slot)) (λ f. continue f (remaining ways))

-- ---- where it lies
-- n components from slot k on lie below a slot further up, are older than b, and each tells how many follow it; groups among them have their slots before k
pub record Level (g ws : List ℕ) (b k n up : ℕ) : Type 0 where
  pub below : k + n ≤ up
  pub known : b ≤ get_or ws shapes_used 0
  pub older : (j : ℕ) → k ≤ j → j < k + n → component_at g ws j < b
  pub follow : (j : ℕ) → k ≤ j → j < k + n → suc j + followers_at g ws j ≡ k + n
  pub inner : (j : ℕ) → k ≤ j → j < k + n → is_group_at ws (component_at g ws j) ≡ true → first_at ws (component_at g ws j) + count_at ws (component_at g ws j) ≤ k

-- the next slot up, or the end
unfoldable pub next_up : ℕ → List Stop → ℕ
next_up end [] = end
next_up end (w ∷ ways) = w.slot

unfoldable pub Way : List ℕ → List ℕ → ℕ → List Stop → Type 0
Way g ws end [] = Unit {0}
Way g ws end (w ∷ ways) = (Level g ws w.depth (w.slot + 1) (followers_at g ws w.slot) (next_up end ways)) × (Way g ws end ways)

-- ---- what a search finds; the state stays as it is
module _ (program : List ℕ) (ts : List Token) (g : List ℕ) (body : ℕ → Run.Action Flow) (around : ℕ → ℕ) (unit end : ℕ) where
  -- a figure that is not destroyed, the first that is left, and the way up from it
  pub record Found (r : Raw) (s : State) (left : Run.Action Flow) (at : Stop) (ways : List Stop) : Type 0 where
    pub path : Path g around unit (slots ways) r
    pub way : Way g r.words end (at ∷ ways)
    pub younger : component_at g r.words at.slot < get_or r.words shapes_used 0
    pub figure : is_group_at r.words (component_at g r.words at.slot) ≡ false
    pub living : destroyed_at r.words (component_at g r.words at.slot) ≡ false
    pub first : left s ≡ Run.◌>>=◌ (body (component_at g r.words at.slot)) (λ f. continue f (remaining g r.words body (at ∷ ways))) s

  -- none is left in what was searched, which is left then with these slots marked
  pub record None (r : Raw) (s : State) (left : Run.Action Flow) (ways : List Stop) : Type 0 where
    pub path : Path g around unit (slots ways) r
    pub rest : left s ≡ remaining g r.words body ways s

  pub data Outcome (r : Raw) (s : State) (left : Run.Action Flow) (ways : List Stop) : ℕ → Type 0 where
    found : (at : Stop) (up : List Stop) → Found r s left at up → Outcome r s left ways (at.slot + 1)
    none : None r s left ways → Outcome r s left ways 0

  -- `left` is what is to be searched and then what remains by `ways`; if nothing is found in the former, `ways` are as they were
  pub record Sought (r : Raw) (s : State) (total : Amounts) (left : Run.Action Flow) (ways : List Stop) (o : Out ℕ) : Type 0 where
    pub result : ℕ
    pub slices : Raw
    pub is : o ≡ done result slices
    pub after : AfterBut program ts g r slices s total
    pub outcome : Outcome slices s left ways result
