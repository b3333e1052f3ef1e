-- The line of an error.
use Rattle.std.specs.Prelude.{ℕ, ◌≤◌, List, ◌++◌}
use Rattle.meaning.specs.Basics.{bytes}
use Rattle.meaning.specs.Picture.{digits_of}
use Rattle.writing.specs.Placed.{Wrote}

-- error 72 at 0
unfoldable pub error_line : ℕ → ℕ → List ℕ
error_line n place = (bytes "error " ++ digits_of n) ++ (bytes " at " ++ digits_of place) ++ bytes "\n"

-- it was written to the front of a slice; 64 bytes are enough for any
pub record ErrorWritten (n place : ℕ) (before after : List ℕ) (size : ℕ) : Type 0 where
  pub wrote : Wrote (error_line n place) before after size
  pub short : size ≤ 64
