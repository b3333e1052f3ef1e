-- Token words prepared for reading: digits carry their value, names and strings the first token that is spelled like them.
use Rattle.std.specs.Prelude.{ℕ, suc, ◌+◌, ◌*◌, min, ◌&&◌, cond, List, [], ◌∷◌, map, eqb}
use Rattle.std.proofs.Math.Option.{Option, none, some}
use Rattle.meaning.specs.Basics.{bytes, if◌then◌otherwise◌, same_text}
use Rattle.meaning.specs.Token.{Token, a_name, a_string, digits}
use Rattle.meaning.specs.Grammar.{numeral}
use Rattle.meaning.specs.Library.{Library, draw_line, draw_ellipse, draw_box, draw_text, connect_shapes, draw_text_on_shape, x_coordinate, y_coordinate, destroy_shape, clear_scene, draw_group, library_of}
use Rattle.tokens.specs.Words.{size_of, token_in}

-- the index of the first token of a kind and a text; how many tokens there are if none is
unfoldable pub home : List Token → ℕ → List ℕ → ℕ
home [] k x = 0
home (t ∷ ts) k x = if eqb t.kind k && same_text t.text x then (λ _. 0) otherwise λ _. suc (home ts k x)

-- a library procedure's number, by its name; 11 for every other name
unfoldable pub number_of : Option Library → ℕ
number_of (some draw_line) = 0
number_of (some draw_ellipse) = 1
number_of (some draw_box) = 2
number_of (some draw_text) = 3
number_of (some connect_shapes) = 4
number_of (some draw_text_on_shape) = 5
number_of (some x_coordinate) = 6
number_of (some y_coordinate) = 7
number_of (some destroy_shape) = 8
number_of (some clear_scene) = 9
number_of (some draw_group) = 10
number_of none = 11

unfoldable pub library_number : List ℕ → ℕ
library_number f = number_of (library_of f)

-- the same, but 12 for main
unfoldable pub procedure_number : List ℕ → ℕ
procedure_number f = cond (same_text f (bytes "main")) 12 (library_number f)

-- What stands in a token's word above its kind and place, 40 bits: of digits their value, if it fits 32 bits; else the token's size (16 bits),
-- and of a name or a string its home (16 bits), and of a name its number as a procedure (8 bits).
unfoldable pub payload : List Token → Token → ℕ
payload ts t =
    cond (eqb t.kind digits) (min (numeral t.text) 4294967295)
    (cond (eqb t.kind a_name) (size_of t + 65536 * home ts a_name t.text + 4294967296 * procedure_number t.text)
    (cond (eqb t.kind a_string) (size_of t + 65536 * home ts a_string t.text)
    (size_of t)))

unfoldable pub prepared : List Token → Token → ℕ
prepared ts t = t.kind + 256 * t.place + 16777216 * payload ts t

-- all words of a program
unfoldable pub prepared_all : List ℕ → List ℕ → List ℕ
prepared_all program words = let ts = map (token_in program) words in map (prepared ts) ts
