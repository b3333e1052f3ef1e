-- A list laid over the front of another.
-- Assumes nothing.
use mathlib.Core.Path.{◌≡◌, refl, ap}
use mathlib.Core.List.{List, [], ◌∷◌, ◌++◌, map}
use Prim.Native.Nat.{ℕ, suc, ◌≤◌}
use native.Mathlib.Nat.{le_of_suc-le-suc, not-suc-le-zero}
use lib.ListN.{length, set, take}
use Rattle.meaning.specs.Basics.{laid_over}

pub laid_none : (d : List ℕ) → laid_over [] d ≡ d
unfolding laid_over
laid_none d = refl

pub laid_more : (xs : List ℕ) (x : ℕ) (d : List ℕ) → laid_over (xs ++ x ∷ []) d ≡ set (laid_over xs d) (length xs) x
unfolding laid_over
laid_more [] x [] = refl
laid_more [] x (y ∷ d) = refl
laid_more (a ∷ xs) x [] = refl
laid_more (a ∷ xs) x (y ∷ d) = ap (λ (l : List ℕ). a ∷ l) (laid_more xs x d)

pub laid_length : (xs d : List ℕ) → length (laid_over xs d) ≡ length d
unfolding laid_over
laid_length [] d = refl
laid_length (x ∷ xs) [] = refl
laid_length (x ∷ xs) (y ∷ d) = ap suc (laid_length xs d)

-- what is laid over a list that is long enough stands whole at its front
pub laid_front : (xs d : List ℕ) → length xs ≤ length d → take (length xs) (laid_over xs d) ≡ xs
unfolding laid_over
laid_front [] d h = refl
laid_front (x ∷ xs) [] h = absurd (not-suc-le-zero h)
laid_front (x ∷ xs) (y ∷ d) h = ap (λ (l : List ℕ). x ∷ l) (laid_front xs d (le_of_suc-le-suc h))

pub map_more {ℓ} : {A : Type ℓ} (f : A → ℕ) (ts : List A) (t : A) → map f (ts ++ t ∷ []) ≡ map f ts ++ f t ∷ []
map_more f [] t = refl
map_more f (a ∷ ts) t = ap (λ (l : List ℕ). f a ∷ l) (map_more f ts t)
