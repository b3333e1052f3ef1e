-- Examples of bytes and tokens: the class of every byte, every kind of token, and where none begins.
use Prim.Native.Nat.{ℕ, zero, suc, ◌+◌}
use Prim.Native.String.{String}
use mathlib.Core.Path.{◌≡◌, refl}
use mathlib.Core.Bool.{Bool, true, false, cond}
use mathlib.Core.List.{List, [], ◌∷◌, ◌++◌}
use lib.ListN.{replicate}
use Rattle.meaning.specs.Basics.{bytes, same_text, stands_in, span, laid_over}
use Rattle.meaning.specs.Byte.{is_digit, class_of}
use Rattle.meaning.specs.Token.{Token, nothing, front, Lexed, lexed, stray, tokens_of, is_double}
use Rattle.meaning.proofs.Computing.{everything}
use Rattle.meaning.proofs.Rows.{Row, ◌gives◌, Hold}

-- ---- bytes
-- the classes of so many bytes, from one on, as digits
unfoldable pub classes_from : ℕ → ℕ → List ℕ
classes_from b zero = []
classes_from b (suc n) = (class_of b + 48) ∷ classes_from (suc b) n

-- sixteen bytes a row: 0 none, 1 white space, 2 letter, 3 digit, 4 quote, 5 sign
pub classes :
    classes_from 0 256
    ≡ bytes "0000000001100000" ++ bytes "0000000000000000" ++ bytes "1540050055555555" ++ bytes "3333333333055550"
    ++ bytes "0222222222222222" ++ bytes "2222222222250500" ++ bytes "0222222222222222" ++ bytes "2222222222250500"
    ++ replicate 128 48
unfolding everything classes_from
classes = refl

-- the signs of two bytes, of all pairs of signs
unfoldable pub pairs_with : ℕ → List ℕ → List (List ℕ)
pairs_with b [] = []
pairs_with b (c ∷ cs) = cond (is_double b c) ((b ∷ c ∷ []) ∷ pairs_with b cs) (pairs_with b cs)

unfoldable pub pairs_of : List ℕ → List ℕ → List (List ℕ)
pairs_of [] cs = []
pairs_of (b ∷ bs) cs = pairs_with b cs ++ pairs_of bs cs

abbrev signs : List ℕ
signs = bytes "+-*/%><=!.,;()[]{}\" a0"

pub doubles : pairs_of signs signs ≡ bytes "++" ∷ bytes ">>" ∷ bytes "<<" ∷ bytes "==" ∷ bytes "!=" ∷ []
unfolding everything pairs_with pairs_of
doubles = refl

-- ---- texts
abbrev pub texts : List (Row Bool Bool)
texts =
    same_text (bytes "ab") (bytes "ab") gives true
    ∷ same_text (bytes "ab") (bytes "ac") gives false
    ∷ same_text (bytes "ab") (bytes "bb") gives false
    ∷ same_text (bytes "ab") (bytes "a") gives false
    ∷ same_text (bytes "a") (bytes "ab") gives false
    ∷ same_text [] [] gives true
    ∷ stands_in 97 (bytes "bca") gives true
    ∷ stands_in 100 (bytes "bca") gives false
    ∷ stands_in 97 [] gives false
    ∷ []

pub texts_hold : Hold (λ b. b) texts
unfolding everything
texts_hold = refl

abbrev pub lists : List (Row (List ℕ) (List ℕ))
lists =
    laid_over (bytes "ab") (bytes "wxyz") gives bytes "abyz"
    ∷ laid_over (bytes "abcde") (bytes "wxyz") gives bytes "abcd"
    ∷ laid_over [] (bytes "wxyz") gives bytes "wxyz"
    ∷ (span is_digit (bytes "12a3") ∷ span is_digit (bytes "a") ∷ span is_digit (bytes "123") ∷ span is_digit [] ∷ []) gives (2 ∷ 0 ∷ 3 ∷ 0 ∷ [])
    ∷ []

pub lists_hold : Hold (λ l. l) lists
unfolding everything
lists_hold = refl

-- ---- tokens
pub no_front : front [] ≡ nothing
unfolding front
no_front = refl

-- a token of a kind at a place
abbrev pub tok : ℕ → ℕ → String → Token
tok k p w = record { kind = k; place = p; text = bytes w }

abbrev pub tokens : List (Row (List ℕ) Lexed)
tokens =
    [] gives lexed []
    ∷ bytes "def var if while return none true false" gives
    lexed (tok 4 0 "def" ∷ tok 5 4 "var" ∷ tok 6 8 "if" ∷ tok 7 11 "while" ∷ tok 8 17 "return" ∷ tok 9 24 "none" ∷ tok 10 29 "true" ∷ tok 11 34 "false" ∷ [])
    ∷ bytes "foreach in do" gives lexed (tok 12 0 "foreach" ∷ tok 13 8 "in" ∷ tok 14 11 "do" ∷ [])
    ∷ bytes "foreachs foreac inn i doo d Do" gives
    lexed (tok 1 0 "foreachs" ∷ tok 1 9 "foreac" ∷ tok 1 16 "inn" ∷ tok 1 20 "i" ∷ tok 1 22 "doo" ∷ tok 1 26 "d" ∷ tok 1 28 "Do" ∷ [])
    ∷ bytes "defs Def iff whil a1 Z9z" gives
    lexed (tok 1 0 "defs" ∷ tok 1 5 "Def" ∷ tok 1 9 "iff" ∷ tok 1 13 "whil" ∷ tok 1 18 "a1" ∷ tok 1 21 "Z9z" ∷ [])
    ∷ bytes "vars returns nones truer falsey" gives
    lexed (tok 1 0 "vars" ∷ tok 1 5 "returns" ∷ tok 1 13 "nones" ∷ tok 1 19 "truer" ∷ tok 1 25 "falsey" ∷ [])
    ∷ bytes "007 42x9" gives lexed (tok 2 0 "007" ∷ tok 2 4 "42" ∷ tok 1 6 "x9" ∷ [])
    ∷ bytes "\"day\"a\"if\" \"x1\"" gives lexed (tok 3 0 "day" ∷ tok 1 5 "a" ∷ tok 3 6 "if" ∷ tok 3 11 "x1" ∷ [])
    ∷ bytes ".,;()[]{}" gives
    lexed (tok 46 0 "." ∷ tok 44 1 "," ∷ tok 59 2 ";" ∷ tok 40 3 "(" ∷ tok 41 4 ")" ∷ tok 91 5 "[" ∷ tok 93 6 "]" ∷ tok 123 7 "{" ∷ tok 125 8 "}" ∷ [])
    ∷ bytes "=-+*/%><" gives
    lexed (tok 61 0 "=" ∷ tok 45 1 "-" ∷ tok 43 2 "+" ∷ tok 42 3 "*" ∷ tok 47 4 "/" ∷ tok 37 5 "%" ∷ tok 62 6 ">" ∷ tok 60 7 "<" ∷ [])
    ∷ bytes "++>><<==!=" gives lexed (tok 171 0 "++" ∷ tok 190 2 ">>" ∷ tok 188 4 "<<" ∷ tok 189 6 "==" ∷ tok 161 8 "!=" ∷ [])
    ∷ bytes "+++ => <= --" gives
    lexed (tok 171 0 "++" ∷ tok 43 2 "+" ∷ tok 61 4 "=" ∷ tok 62 5 ">" ∷ tok 60 7 "<" ∷ tok 61 8 "=" ∷ tok 45 10 "-" ∷ tok 45 11 "-" ∷ [])
    ∷ bytes "a\tb\nc d" gives lexed (tok 1 0 "a" ∷ tok 1 2 "b" ∷ tok 1 4 "c" ∷ tok 1 6 "d" ∷ [])
    ∷ bytes " a" gives lexed (tok 1 1 "a" ∷ [])
    ∷ (97 ∷ 13 ∷ []) gives stray 1
    ∷ bytes "ab #" gives stray 3
    ∷ bytes "!" gives stray 0
    ∷ bytes "a ! =" gives stray 2
    ∷ bytes "\"\"" gives stray 0
    ∷ bytes "\"ab" gives stray 0
    ∷ bytes "\"1a\"" gives stray 0
    ∷ bytes "a \"a b\"" gives stray 2
    ∷ bytes "a_b" gives stray 1
    ∷ (97 ∷ 200 ∷ []) gives stray 1
    ∷ []

pub tokens_hold : Hold tokens_of tokens
unfolding everything
tokens_hold = refl
