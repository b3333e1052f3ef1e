-- Lines that are read, and lines that are not, as the definition has them.
-- Assumes nothing.
use mathlib.Core.List.{[], ◌∷◌, map}
use mathlib.Core.Path.{◌≡◌, refl}
use Prim.Native.Nat.{ℕ}
use lib.IntN.{pos}
use Rattle.std.specs.Prelude.{Some, None}
use Rattle.meaning.specs.Basics.{bytes, if◌then◌otherwise◌, span}
use Rattle.meaning.specs.Byte.{is_digit}
use Rattle.meaning.specs.Grammar.{numeral_from}
use Rattle.sheet.specs.declared.line.Sheet.{Sheet}
use Rattle.sheet.specs.Lines.{field_with, field_of, after_height, with_height, after_width, with_width, sheet_of}

-- a line with its numbers and its length
abbrev sized : ℕ → ℕ → ℕ → Sheet
sized w h n = record { width = pos w; height = pos h; line_length = n }

-- that a width is at least 1 is drawing's question
pub read :
    map sheet_of
    (bytes "20 20\ndef main" ∷ bytes "1 2147483647\n" ∷ bytes "0000000020 007\n" ∷ bytes "0 0\n" ∷ [])
    ≡ (Some (sized 20 20 6) ∷ Some (sized 1 2147483647 13) ∷ Some (sized 20 7 15) ∷ Some (sized 0 0 4) ∷ [])
unfolding sheet_of with_width field_of field_with if◌then◌otherwise◌ span is_digit numeral_from after_width with_height after_height
read = refl

pub unread :
    map sheet_of
    (bytes "" ∷ bytes "20" ∷ bytes "20 20" ∷ bytes "20 \n" ∷ bytes " 20 20\n" ∷ bytes "20  20\n" ∷ bytes "20 20 \n" ∷ bytes "20 20\r\n" ∷
    bytes "20\n20\n" ∷ bytes "20,20\n" ∷ bytes "-1 20\n" ∷ bytes "+1 20\n" ∷ bytes "00000000001 20\n" ∷ bytes "2147483648 20\n" ∷
    bytes "20 9999999999\n" ∷ bytes "def main(w,h){1;}" ∷ [])
    ≡ (None ∷ None ∷ None ∷ None ∷ None ∷ None ∷ None ∷ None ∷ None ∷ None ∷ None ∷ None ∷ None ∷ None ∷ None ∷
    None ∷ [])
unfolding sheet_of with_width field_of field_with if◌then◌otherwise◌ span is_digit numeral_from after_width with_height after_height
unread = refl
