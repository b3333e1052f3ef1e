-- What a writer of numbers promises.
use Rattle.std.specs.Prelude.{ℕ, ◌≤◌, List, ◌++◌, length}
use Rattle.meaning.specs.Picture.{digits_of}
use Rattle.writing.specs.Placed.{WroteAt}

-- bytes and a number's digits were written from a place on; a number of 64 bits has at most 20
pub record NumberAt (at : ℕ) (lead : List ℕ) (n : ℕ) (before after : List ℕ) (next : ℕ) : Type 0 where
  pub wrote : WroteAt at (lead ++ digits_of n) before after next
  pub short : length (digits_of n) ≤ 20
