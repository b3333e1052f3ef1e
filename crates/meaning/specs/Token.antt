-- Tokens.
use Rattle.std.specs.Prelude.{ℕ, zero, suc, ◌+◌, ◌-◌, Bool, ◌&&◌, ◌||◌, cond, List, [], ◌∷◌, get_or, take, eqb}
use Rattle.meaning.specs.Basics.{bytes, if◌then◌otherwise◌, same_text, stands_in, span}
use Rattle.meaning.specs.Byte.{is_space, is_letter, is_digit, is_name_part, is_quote, is_sign}

-- ---- kinds
-- what stands behind the last token
abbrev pub ending : ℕ
ending = 0

abbrev pub a_name : ℕ
a_name = 1

abbrev pub digits : ℕ
digits = 2

abbrev pub a_string : ℕ
a_string = 3

abbrev pub word_def : ℕ
word_def = 4

abbrev pub word_var : ℕ
word_var = 5

abbrev pub word_if : ℕ
word_if = 6

abbrev pub word_while : ℕ
word_while = 7

abbrev pub word_return : ℕ
word_return = 8

abbrev pub word_none : ℕ
word_none = 9

abbrev pub word_true : ℕ
word_true = 10

abbrev pub word_false : ℕ
word_false = 11

abbrev pub word_foreach : ℕ
word_foreach = 12

abbrev pub word_in : ℕ
word_in = 13

abbrev pub word_do : ℕ
word_do = 14

-- A sign of one byte has that byte for its kind: . , ; ( ) [ ] { } = - + * / % > <
abbrev pub dot : ℕ
dot = 46

abbrev pub comma : ℕ
comma = 44

abbrev pub semicolon : ℕ
semicolon = 59

abbrev pub open_paren : ℕ
open_paren = 40

abbrev pub close_paren : ℕ
close_paren = 41

abbrev pub open_bracket : ℕ
open_bracket = 91

abbrev pub close_bracket : ℕ
close_bracket = 93

abbrev pub open_brace : ℕ
open_brace = 123

abbrev pub close_brace : ℕ
close_brace = 125

abbrev pub becomes : ℕ
becomes = 61

abbrev pub minus : ℕ
minus = 45

-- A sign of two bytes has its first byte and 128: ++ >> << == !=
abbrev pub doubled : ℕ → ℕ
doubled b = b + 128

-- the kind of a name or a reserved word
unfoldable pub word_kind : List ℕ → ℕ
word_kind w =
    cond (same_text w (bytes "def")) word_def
    (cond (same_text w (bytes "var")) word_var
    (cond (same_text w (bytes "if")) word_if
    (cond (same_text w (bytes "while")) word_while
    (cond (same_text w (bytes "return")) word_return
    (cond (same_text w (bytes "none")) word_none
    (cond (same_text w (bytes "true")) word_true
    (cond (same_text w (bytes "false")) word_false
    (cond (same_text w (bytes "foreach")) word_foreach
    (cond (same_text w (bytes "in")) word_in
    (cond (same_text w (bytes "do")) word_do
    a_name))))))))))

-- ---- one token
-- a token: its kind, its first byte's place, and its bytes, of a string without the quotes
pub record Token : Type 0 where
  pub kind : ℕ
  pub place : ℕ
  pub text : List ℕ

-- the token at the front of some bytes: its kind, how many bytes it has, and its text
pub data Front : Type 0 where
  found : ℕ → ℕ → List ℕ → Front
  nothing : Front

abbrev pub found_name : List ℕ → Front
found_name w = let n = span is_name_part w in found (word_kind (take n w)) n (take n w)

abbrev pub found_digits : List ℕ → Front
found_digits w = let n = span is_digit w in found digits n (take n w)

-- behind a quote: a name or a reserved word, and a quote
abbrev pub found_string : List ℕ → Front
found_string w =
    let n = span is_name_part w in
    if is_letter (get_or w 0 0) && is_quote (get_or w n 0) then (λ _. found a_string (n + 2) (take n w)) otherwise λ _. nothing

-- ++ >> << == and !=
unfoldable pub is_double : ℕ → ℕ → Bool
is_double b c = (eqb b c && stands_in b (bytes "+><=")) || (eqb b 33 && eqb c 61)

abbrev pub found_sign : ℕ → ℕ → Front
found_sign b c =
    if is_double b c then (λ _. found (doubled b) 2 (b ∷ c ∷ []))
    otherwise λ _. if eqb b 33 then (λ _. nothing) otherwise λ _. found b 1 (b ∷ [])

-- by the first byte
unfoldable pub front : List ℕ → Front
front [] = nothing
front (b ∷ bs) =
    if is_letter b then (λ _. found_name (b ∷ bs))
    otherwise λ _. if is_digit b then (λ _. found_digits (b ∷ bs))
    otherwise λ _. if is_quote b then (λ _. found_string bs)
    otherwise λ _. if is_sign b then (λ _. found_sign b (get_or bs 0 0))
    otherwise λ _. nothing

-- ---- all tokens
-- the tokens of a text, or the place of its first byte at which none begins
pub data Lexed : Type 0 where
  lexed : List Token → Lexed
  stray : ℕ → Lexed

unfoldable pub prepend : Token → Lexed → Lexed
prepend t (lexed ts) = lexed (t ∷ ts)
prepend t (stray p) = stray p

-- the token that begins at a place, and what follows: `rest k` is what follows when k more bytes belong to the token
unfoldable pub starting : Front → ℕ → (ℕ → Lexed) → Lexed
starting (found k n w) at rest = prepend (record { kind = k; place = at; text = w }) (rest (n - 1))
starting nothing at rest = stray at

-- the bytes from a place on, of which the first k belong to a token that began before
unfoldable pub scan : ℕ → ℕ → List ℕ → Lexed
scan k at [] = lexed []
scan (suc k) at (b ∷ bs) = scan k (suc at) bs
scan zero at (b ∷ bs) =
    if is_space b then (λ _. scan 0 (suc at) bs)
    otherwise λ _. starting (front (b ∷ bs)) at (λ k. scan k (suc at) bs)

unfoldable pub tokens_of : List ℕ → Lexed
tokens_of program = scan 0 0 program
