-- The line and the column of a place.
use Rattle.std.specs.Prelude.{ℕ, ◌+◌, ◌^◌, ◌<◌, List, [], ◌∷◌, eqb, take}
use Rattle.meaning.specs.Basics.{if◌then◌otherwise◌}
use Rattle.report.specs.declared.place.Position.{Position}

-- Where the byte behind one at p stands: on the next line behind a linefeed, else in the next column. A tab is a byte like any other.
unfoldable pub after_byte : Position → ℕ → Position
after_byte p b =
    if eqb b 10 then (λ _. record { line = p.line + 1; column = 1 })
    otherwise λ _. record { line = p.line; column = p.column + 1 }

unfoldable pub after_bytes : Position → List ℕ → Position
after_bytes p [] = p
after_bytes p (b ∷ bs) = after_bytes (after_byte p b) bs

-- the first byte of a program
abbrev pub first : Position
first = record { line = 1; column = 1 }

unfoldable pub position_of : List ℕ → ℕ → Position
position_of program place = after_bytes first (take place program)

-- ---- inside
pub record Small (p : Position) : Type 0 where
  pub few_lines : p.line < 2 ^ 63
  pub few_columns : p.column < 2 ^ 63
