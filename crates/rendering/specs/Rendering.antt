-- What drawing comes to where enough is lent.
use Rattle.std.specs.Prelude.{ℕ, suc, ◌≡◌, List, ℤ, Ok}
use Rattle.meaning.specs.Run.{Run}
use Rattle.meaning.specs.Program.{Outcome, drawing, specified}
use Rattle.meaning.specs.Book.{Answer, nothing_yet, book, booked}
use Rattle.meaning.specs.Call.{granted, out_after_end}
use Rattle.machine.specs.Layout.{steps_granted}
use Rattle.painting.specs.Running.{Ran, painting_run}
use Rattle.lending.specs.Lending.{grants_of}

abbrev pub drawing_run : List ℕ → ℤ → ℤ → List ℕ → Run Outcome
drawing_run program width height g = specified drawing program width height (suc (steps_granted g))

-- the answer that the book gives, and what the out slice holds then
pub record Drawn (program : List ℕ) (width height : ℤ) (g out : List ℕ) (a : Answer) (out' : List ℕ) : Type 0 where
  pub answered : a ≡ booked (granted (grants_of g) out) (drawing_run program width height g)
  pub written : out' ≡ out_after_end drawing (book (granted (grants_of g) out) nothing_yet (drawing_run program width height g).takings) (drawing_run program width height g).end out

-- the run was completed, and these are its stores
pub record Scene (program : List ℕ) (width height : ℤ) (g words texts : List ℕ) : Type 0 where
  pub ran : Ran program g (painting_run program width height g) (Ok tt) texts words
