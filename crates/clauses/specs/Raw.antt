-- The text of the code of a statement that holds no other, and of a foreach up to its body.
use Rattle.std.specs.Prelude.{ℕ, ◌-◌, Bool, not, ◌&&◌, cond, List, ◌++◌, get_or, eqb, leb, ltb}
use Rattle.meaning.specs.Basics.{bytes, if◌then◌otherwise◌}
use Rattle.canonical.specs.Text.{apart}
use Rattle.machine.specs.Opcodes.{tag_in, size_at, tag_string, tag_table, tag_entry, first_operator}
use Rattle.phrases.specs.Raw.{Source, spelling, Writer, pair_text}

-- an expression and a semicolon behind some bytes
unfoldable pub ending_in : Writer → List ℕ → ℕ → List ℕ
ending_in inner lead y = lead ++ inner y ++ bytes ";"

-- a.b = e; whose last root is y
unfoldable pub update_text : Writer → Source → ℕ → List ℕ
update_text inner s y =
    let b = y - size_at s.code y in
    let a = b - size_at s.code b in
    ending_in inner (pair_text inner s tag_entry a b ++ bytes "=") y

-- Whether the text of an expression with root y ends with a letter or a digit: a leaf's does unless it is a string, a table's, a call's and one in
-- parentheses do not. By the tag of a primary; of an operand, whose last primary is the second part of an entry; and of an expression likewise.
unfoldable pub tag_ends : ℕ → Bool
tag_ends tag = ltb tag tag_table && not (eqb tag tag_string)

unfoldable pub operand_ends : List ℕ → ℕ → Bool
operand_ends code y = if eqb (tag_in (get_or code y 0)) tag_entry then (λ _. tag_ends (tag_in (get_or code (y - 1) 0))) otherwise λ _. tag_ends (tag_in (get_or code y 0))

unfoldable pub ends_word : List ℕ → ℕ → Bool
ends_word code y = if leb first_operator (tag_in (get_or code y 0)) then (λ _. operand_ends code (y - 1)) otherwise λ _. operand_ends code y

-- a foreach by its variable's slot and the root of its expression, up to its body
unfoldable pub iterator_text : Writer → Source → ℕ → ℕ → List ℕ
iterator_text inner s slot y = bytes "foreach " ++ spelling s slot ++ bytes " in" ++ apart (inner y) ++ cond (ends_word s.code y) (bytes " do\n") (bytes "do\n")
