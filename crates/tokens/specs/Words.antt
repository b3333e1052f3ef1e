-- Tokens as words of 64 bits.
use Rattle.std.specs.Prelude.{ℕ, ◌+◌, ◌-◌, ◌*◌, ◌/◌, ◌%◌, cond, List, length, take, drop, eqb}
use Rattle.meaning.specs.Token.{Token, a_string}

-- how many bytes of the program a token covers: a string's quotes too
unfoldable pub size_of : Token → ℕ
size_of t = length t.text + cond (eqb t.kind a_string) 2 0

-- A token's word: 8 bits for its kind, 16 for its place, 16 for its size. The bits above are free.
unfoldable pub word_of : Token → ℕ
word_of t = t.kind + 256 * t.place + 16777216 * size_of t

abbrev pub kind_in : ℕ → ℕ
kind_in w = w % 256

abbrev pub place_in : ℕ → ℕ
place_in w = w / 256 % 65536

abbrev pub size_in : ℕ → ℕ
size_in w = w / 16777216 % 65536

-- the text of a token of a kind that covers so many bytes from a place on
unfoldable pub text_in : List ℕ → ℕ → ℕ → ℕ → List ℕ
text_in program k p n = cond (eqb k a_string) (take (n - 2) (drop (p + 1) program)) (take n (drop p program))

-- the token that a word stands for
unfoldable pub token_in : List ℕ → ℕ → Token
token_in program w =
    record { kind = kind_in w; place = place_in w; text = text_in program (kind_in w) (place_in w) (size_in w) }
