-- Four words written one by one lie over the front of the slice.
use Prim.Native.Nat.{ℕ}
use mathlib.Core.Path.{◌≡◌, refl, ap, ◌∙◌}
use mathlib.Core.List.{List, [], ◌∷◌}
use lib.ListN.{set}
use Rattle.meaning.specs.Basics.{laid_over}
use Rattle.answers.specs.declared.Answer as Declared
use Rattle.answers.specs.declared.Answer.TheVariants.{Picture, Number}
use Rattle.answers.specs.Answers.{meant, numbers_of, Told}

four : (a b c d : ℕ) (xs : List ℕ) → set (set (set (set xs 0 a) 1 b) 2 c) 3 d ≡ laid_over (a ∷ b ∷ c ∷ d ∷ []) xs
unfolding laid_over
four a b c d [] = refl
four a b c d (x ∷ []) = refl
four a b c d (x ∷ y ∷ []) = refl
four a b c d (x ∷ y ∷ z ∷ []) = refl
four a b c d (x ∷ y ∷ z ∷ u ∷ xs) = refl

module _ (r : Declared.Answer) (words words' : List ℕ) where
  pub write_picture : (l n : ℕ) → r ≡ Picture l n → words' ≡ set (set (set (set words 0 0) 1 0) 2 n) 3 l → Told (meant r) words words' 0
  unfolding numbers_of meant
  write_picture l n e h = record { written = rw (e, h) (four 0 0 n l words); returned = rw e }

  pub write_number : (m p n l : ℕ) → r ≡ Number m p n l → words' ≡ set (set (set (set words 0 m) 1 p) 2 n) 3 l → Told (meant r) words words' m
  unfolding numbers_of meant
  write_number m p n l e h = record { written = rw (e, h) (four m p n l words); returned = rw e }

-- one write after another
pub four_writes : (a b c d : ℕ) (xs xs₁ xs₂ xs₃ xs₄ : List ℕ) →
    xs₁ ≡ set xs 0 a → xs₂ ≡ set xs₁ 1 b → xs₃ ≡ set xs₂ 2 c → xs₄ ≡ set xs₃ 3 d → xs₄ ≡ set (set (set (set xs 0 a) 1 b) 2 c) 3 d
four_writes a b c d xs xs₁ xs₂ xs₃ xs₄ h₁ h₂ h₃ h₄ =
    h₄ ∙ ap (λ (ys : List ℕ). set ys 3 d) (h₃ ∙ ap (λ (ys : List ℕ). set ys 2 c) (h₂ ∙ ap (λ (ys : List ℕ). set ys 1 b) h₁))
