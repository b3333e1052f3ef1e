-- What is shown of an answer.
use Rattle.std.specs.Prelude.{ℕ, ◌≤◌, ◌≡◌, List, [], length, take}
use Rattle.meaning.specs.Book.{Answer, pictured, number, undecided}
use Rattle.sheet.specs.Errors.{error_line}

-- the text of an answer, by what the out slice holds; no call is undecided
unfoldable pub shown_text : Answer → List ℕ → List ℕ
shown_text (pictured l n) out = take l out
shown_text (number n place s l) out = error_line n place
shown_text undecided out = []

-- a text stands in the front of a slice
pub record Front (text slice : List ℕ) (size : ℕ) : Type 0 where
  pub holds : take size slice ≡ text
  pub within : size ≤ length slice
