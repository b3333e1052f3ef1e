-- What is said about a program.
use Rattle.std.specs.Prelude.{ℕ, ◌-◌, min, ◌≤◌, Bool, not, List, [], ◌++◌, eqb, length}
use Rattle.meaning.specs.Basics.{bytes}
use Rattle.meaning.specs.Book.{Answer, pictured, number, undecided}
use Rattle.meaning.specs.Picture.{digits_of}
use Rattle.writing.specs.Placed.{Wrote, WroteAt}
use Rattle.excerpts.specs.Excerpts.{optional, excerpt_of}
use Rattle.report.specs.declared.place.Position.{Position}
use Rattle.report.specs.Positions.{position_of}
use Rattle.report.specs.Sentences.{sentence_of}

-- error 10 at byte 17, line 2, column 3
unfoldable pub heading_of : ℕ → ℕ → Position → List ℕ
heading_of n place p =
    (bytes "error " ++ digits_of n) ++ (bytes " at byte " ++ digits_of place) ++ (bytes ", line " ++ digits_of p.line) ++
    (bytes ", column " ++ digits_of p.column) ++ bytes "\n"

-- 73 is about the whole program, and shows no line
abbrev pub has_line : ℕ → Bool
has_line n = not (eqb n 73)

-- A failure at a place within the program: the number and the place, the line with its mark, and a sentence.
unfoldable pub failure_of : List ℕ → ℕ → ℕ → Position → Bool → List ℕ
failure_of program n place p isEnd =
    heading_of n place p ++ optional (has_line n) (excerpt_of program (min place (length program)) (p.column - 1)) ++ sentence_of n isEnd

-- no call of checking is undecided
unfoldable pub said_of : List ℕ → Answer → List ℕ
said_of program (pictured l n) = bytes "well formed\n"
said_of program (number n place s l) =
    failure_of program n place (position_of program (min place (length program))) (eqb place (length program))
said_of program undecided = []

-- it was written to the front of a slice; 512 bytes are enough for any
pub record Said (program : List ℕ) (a : Answer) (before after : List ℕ) (size : ℕ) : Type 0 where
  pub wrote : Wrote (said_of program a) before after size
  pub short : size ≤ 512

-- ---- inside
pub record HeadingAt (at n place : ℕ) (p : Position) (before after : List ℕ) (next : ℕ) : Type 0 where
  pub wrote : WroteAt at (heading_of n place p) before after next
  pub short : length (heading_of n place p) ≤ 112

pub record Failed (program : List ℕ) (n place : ℕ) (before after : List ℕ) (size : ℕ) : Type 0 where
  pub wrote : Wrote (failure_of program n place (position_of program (min place (length program))) (eqb place (length program))) before after size
  pub short : size ≤ 512
