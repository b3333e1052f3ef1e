-- The class of a byte.
use Rattle.std.specs.Prelude.{ℕ, Bool, ◌&&◌, ◌||◌, cond, leb, eqb}
use Rattle.meaning.specs.Basics.{bytes, stands_in}

-- space, tab, linefeed
unfoldable pub is_space : ℕ → Bool
is_space b = eqb b 32 || eqb b 9 || eqb b 10

-- A to Z and a to z
unfoldable pub is_letter : ℕ → Bool
is_letter b = (leb 65 b && leb b 90) || (leb 97 b && leb b 122)

-- 0 to 9
unfoldable pub is_digit : ℕ → Bool
is_digit b = leb 48 b && leb b 57

-- a letter or a digit
unfoldable pub is_name_part : ℕ → Bool
is_name_part b = is_letter b || is_digit b

unfoldable pub is_quote : ℕ → Bool
is_quote b = eqb b 34

-- the first byte of a sign; the quote stands only in strings
unfoldable pub is_sign : ℕ → Bool
is_sign b = stands_in b (bytes "+-*/%><=!.,;()[]{}")

-- 0 no token has it, 1 white space, 2 letter, 3 digit, 4 quote, 5 sign
unfoldable pub class_of : ℕ → ℕ
class_of b =
    cond (is_space b) 1
    (cond (is_letter b) 2
    (cond (is_digit b) 3
    (cond (is_quote b) 4
    (cond (is_sign b) 5
    0))))
