-- What the functions that write the text store ask, and what they leave.
use Rattle.std.specs.Prelude.{ℕ, ◌+◌, ◌≤◌, ◌≡◌, List, length, take}
use Rattle.machine.specs.Texts.{size_in, text_of, laid_at}

-- a text to lay behind what is used of the store, and room for it
pub record Lays (ts : List ℕ) (used at h : ℕ) : Type 0 where
  pub behind : used ≤ at
  pub fits : at + size_in h ≤ length ts

-- it is laid, up to the end
pub record Laid (program before : List ℕ) (used at h : ℕ) (end : ℕ) (after : List ℕ) : Type 0 where
  pub upto : end ≡ at + length (text_of program (take used before) h)
  pub holds : after ≡ laid_at before at (text_of program (take used before) h)
