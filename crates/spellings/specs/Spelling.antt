-- The spelling of one word: names by their slots, constants, and the signs between two parts.
use Rattle.std.specs.Prelude.{ℕ, Bool, ◌&&◌, ◌||◌, cond, List, ◌++◌, take, drop, eqb, leb}
use Rattle.std.specs.Int.{w32}
use Rattle.std.proofs.Common.{to_z}
use Rattle.meaning.specs.Basics.{bytes, if◌then◌otherwise◌}
use Rattle.meaning.specs.Picture.{decimal}
use Rattle.machine.specs.Opcodes.{tag_in, number_in, place_in, extra_in, tag_number, tag_string, tag_none, tag_truth, tag_entry, first_operator}
use Rattle.machine.specs.Opcodes.{tag_concatenate, tag_add, tag_subtract, tag_multiply, tag_divide, tag_remainder, tag_shift_right, tag_shift_left, tag_equal, tag_unequal, tag_greater}
use Rattle.expressions.specs.Words.{place_at, size_at}

-- some bytes of the program from a place on
unfoldable pub part : List ℕ → ℕ → ℕ → List ℕ
part program at size = take size (drop at program)

-- how the name of a slot is spelled: its first token is
unfoldable pub name_text : List ℕ → List ℕ → ℕ → List ℕ
name_text program tokens slot = part program (place_at tokens slot) (size_at tokens slot)

-- a constant or a name, by its word
unfoldable pub leaf_text : List ℕ → List ℕ → ℕ → List ℕ
leaf_text program tokens w =
    if eqb (tag_in w) tag_number then (λ _. decimal (to_z w32 (number_in w)))
    otherwise λ _. if eqb (tag_in w) tag_string then (λ _. bytes "\"" ++ part program (place_in w) (extra_in w) ++ bytes "\"")
    otherwise λ _. if eqb (tag_in w) tag_none then (λ _. bytes "none")
    otherwise λ _. if eqb (tag_in w) tag_truth then (λ _. cond (eqb (number_in w) 0) (bytes "false") (bytes "true"))
    otherwise λ _. name_text program tokens (number_in w)

-- the sign between the two parts of an entry or of an operator
unfoldable pub sign_text : ℕ → List ℕ
sign_text tag =
    if eqb tag tag_entry then (λ _. bytes ".")
    otherwise λ _. if eqb tag tag_concatenate then (λ _. bytes "++")
    otherwise λ _. if eqb tag tag_add then (λ _. bytes "+")
    otherwise λ _. if eqb tag tag_subtract then (λ _. bytes "-")
    otherwise λ _. if eqb tag tag_multiply then (λ _. bytes "*")
    otherwise λ _. if eqb tag tag_divide then (λ _. bytes "/")
    otherwise λ _. if eqb tag tag_remainder then (λ _. bytes "%")
    otherwise λ _. if eqb tag tag_shift_right then (λ _. bytes ">>")
    otherwise λ _. if eqb tag tag_shift_left then (λ _. bytes "<<")
    otherwise λ _. if eqb tag tag_equal then (λ _. bytes "==")
    otherwise λ _. if eqb tag tag_unequal then (λ _. bytes "!=")
    otherwise λ _. if eqb tag tag_greater then (λ _. bytes ">")
    otherwise λ _. bytes "<"

-- whether a part with a tag needs parentheses inside an entry or an operator with another: an operator does, and an entry inside an entry
unfoldable pub encloses : ℕ → ℕ → Bool
encloses outer inner = leb first_operator inner || (eqb outer tag_entry && eqb inner tag_entry)
