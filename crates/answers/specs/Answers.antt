-- What each case of an answer means, and the words in which it is told.
use Rattle.std.specs.Prelude.{ℕ, ◌≡◌, List, [], ◌∷◌, get_or}
use Rattle.meaning.specs.Basics.{laid_over}
use Rattle.meaning.specs.Book.{Answer, pictured, number, undecided}
use Rattle.answers.specs.declared.Answer as declared
use Rattle.answers.specs.declared.Answer.TheVariants.{Picture, Number}

unfoldable pub meant : declared.Answer → Answer
meant (Picture l n) = pictured l n
meant (Number m p n l) = number m p n l

-- the number (0: none), its place, the steps and the length; no call of an operation is undecided
unfoldable pub numbers_of : Answer → List ℕ
numbers_of (pictured l n) = 0 ∷ 0 ∷ n ∷ l ∷ []
numbers_of (number m p n l) = m ∷ p ∷ n ∷ l ∷ []
numbers_of undecided = []

-- an answer told: in the front of a slice as far as that reaches, and its number returned
pub record Told (a : Answer) (front front' : List ℕ) (n : ℕ) : Type 0 where
  pub written : front' ≡ laid_over (numbers_of a) front
  pub returned : n ≡ get_or (numbers_of a) 0 0
