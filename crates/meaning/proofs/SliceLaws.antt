-- Laws of slices: what is laid over a slice stands in its front, and the rest of the slice stays.
use Prim.Native.Nat.{ℕ, suc, ◌≤◌}
use mathlib.Core.Path.{◌≡◌, refl, ap}
use mathlib.Core.List.{List, [], ◌∷◌}
use native.Mathlib.Nat.{not-suc-le-zero, le_of_suc-le-suc}
use lib.ListN.{length, take, drop}
use Rattle.meaning.specs.Basics.{laid_over}

-- a text laid over a longer one is its front
pub laid_front : (b out : List ℕ) → length b ≤ length out → take (length b) (laid_over b out) ≡ b
unfolding laid_over
laid_front [] out h = refl
laid_front (x ∷ b) [] h = absurd (not-suc-le-zero h)
laid_front (x ∷ b) (y ∷ out) h = ap (λ (l : List ℕ). x ∷ l) (laid_front b out (le_of_suc-le-suc h))

-- behind it everything stays
pub laid_behind : (b out : List ℕ) → drop (length b) (laid_over b out) ≡ drop (length b) out
unfolding laid_over
laid_behind [] out = refl
laid_behind (x ∷ b) [] = refl
laid_behind (x ∷ b) (y ∷ out) = laid_behind b out

-- no slice changes its length
pub laid_length : (b out : List ℕ) → length (laid_over b out) ≡ length out
unfolding laid_over
laid_length [] out = refl
laid_length (x ∷ b) [] = refl
laid_length (x ∷ b) (y ∷ out) = ap suc (laid_length b out)
