-- The line of a place with a mark under the place, as they are printed.
use Rattle.std.specs.Prelude.{ℕ, ◌+◌, ◌-◌, min, ◌≤◌, Bool, true, false, not, ◌||◌, cond, List, [], ◌++◌, map, eqb, ltb, length, take, drop}
use Rattle.meaning.specs.Basics.{bytes, span}

-- A tab stays a tab, in the mark's line too, so that the mark stands under its byte. Any other byte that is not printable ASCII is shown as a
-- question mark. In the mark's line there are spaces.
unfoldable pub glyph_of : Bool → ℕ → ℕ
glyph_of isMark b = cond (eqb b 9) 9 (cond isMark 32 (cond (ltb b 32 || ltb 126 b) 63 b))

unfoldable pub glyphs_of : Bool → List ℕ → List ℕ
glyphs_of isMark bs = map (glyph_of isMark) bs

unfoldable pub optional : Bool → List ℕ → List ℕ
optional true b = b
optional false b = []

-- a part of a line; dots stand for what is left out before and behind it
unfoldable pub shown_line : Bool → Bool → List ℕ → List ℕ
shown_line cutBefore cutAfter part = optional cutBefore (bytes "...") ++ glyphs_of false part ++ optional cutAfter (bytes "...") ++ bytes "\n"

-- the mark behind a part of the line
unfoldable pub mark_line : Bool → List ℕ → List ℕ
mark_line cutBefore part = optional cutBefore (bytes "   ") ++ glyphs_of true part ++ bytes "^\n"

-- a line ends before its linefeed
unfoldable pub in_line : ℕ → Bool
in_line b = not (eqb b 10)

-- The line of a place behind which it has so many bytes: at most 60 bytes of it before the place, and at most 20 from the place on.
unfoldable pub excerpt_of : List ℕ → ℕ → ℕ → List ℕ
excerpt_of program place behind =
    shown_line (ltb 60 behind) (ltb 20 (span in_line (drop place program)))
    (take (min behind 60 + min (span in_line (drop place program)) 20) (drop (place - min behind 60) program)) ++
    mark_line (ltb 60 behind) (take (min behind 60) (drop (place - min behind 60) program))

-- ---- inside
pub record Around (program : List ℕ) (place behind : ℕ) : Type 0 where
  pub within : place ≤ length program
  pub enough : behind ≤ place
