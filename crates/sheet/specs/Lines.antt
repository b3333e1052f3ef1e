-- The line before the program: width, one space, height, linefeed; 1 to 10 digits each, and at most 2,147,483,647.
use Rattle.std.specs.Prelude.{ℕ, ◌+◌, ◌&&◌, Option, Some, None, List, leb, eqb, pos, get_or, take, drop}
use Rattle.meaning.specs.Basics.{if◌then◌otherwise◌, span}
use Rattle.meaning.specs.Byte.{is_digit}
use Rattle.meaning.specs.Grammar.{numeral}
use Rattle.sheet.specs.declared.line.Field.{Field}
use Rattle.sheet.specs.declared.line.Sheet.{Sheet}

-- n digits in front of a text
unfoldable pub field_with : List ℕ → ℕ → Option Field
field_with s n =
    if leb 1 n && leb n 10 && leb (numeral (take n s)) 2147483647 then (λ _. Some (record { value = numeral (take n s); digits = n })) otherwise λ _. None

unfoldable pub field_of : List ℕ → Option Field
field_of s = field_with s (span is_digit s)

-- a linefeed has to stand behind the height
unfoldable pub after_height : List ℕ → ℕ → ℕ → ℕ → Option Sheet
after_height s w h end =
    if eqb (get_or s end 0) 10 then (λ _. Some (record { width = pos w; height = pos h; line_length = end + 1 })) otherwise λ _. None

unfoldable pub with_height : List ℕ → ℕ → ℕ → Option Field → Option Sheet
with_height s w n (Some f) = after_height s w f.value (n + 1 + f.digits)
with_height s w n None = None

-- a space has to stand behind the n digits of the width
unfoldable pub after_width : List ℕ → ℕ → ℕ → Option Sheet
after_width s w n = if eqb (get_or s n 0) 32 then (λ _. with_height s w n (field_of (drop (n + 1) s))) otherwise λ _. None

unfoldable pub with_width : List ℕ → Option Field → Option Sheet
with_width s (Some f) = after_width s f.value f.digits
with_width s None = None

unfoldable pub sheet_of : List ℕ → Option Sheet
sheet_of s = with_width s (field_of s)
