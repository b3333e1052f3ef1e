-- Values as words of 64 bits.
use Rattle.std.specs.Prelude.{ℕ, ◌+◌, ◌*◌, ◌/◌, ◌%◌, ◌^◌, Bool, cond, eqb}
use Rattle.std.specs.Int.{w32}
use Rattle.std.proofs.Common.{to_z}
use Rattle.meaning.specs.Basics.{if◌then◌otherwise◌}
use Rattle.meaning.specs.Integer.{bits}
use Rattle.machine.specs.declared.Value.{Value}
use Rattle.machine.specs.declared.Value.TheVariants.{Integer, Text, Boolean, Nothing, Table, Shape}

-- The lowest three bits say which value it is, 1 to 6; a word of 0 is none.
abbrev pub kind_in : ℕ → ℕ
kind_in w = w % 8

abbrev pub kind_integer : ℕ
kind_integer = 1

abbrev pub kind_text : ℕ
kind_text = 2

abbrev pub kind_truth : ℕ
kind_truth = 3

abbrev pub kind_nothing : ℕ
kind_nothing = 4

abbrev pub kind_table : ℕ
kind_table = 5

abbrev pub kind_shape : ℕ
kind_shape = 6

-- what stands above them: an integer's bits, a table's or a shape's number; a text's handle; a truth
abbrev pub number_in : ℕ → ℕ
number_in w = w / 8 % 2 ^ 32

abbrev pub handle_in : ℕ → ℕ
handle_in w = w / 8

abbrev pub truth_in : ℕ → Bool
truth_in w = eqb (w / 8 % 2) 1

unfoldable pub packed : Value → ℕ
packed (Integer z) = 1 + 8 * bits z
packed (Text h) = 2 + 8 * (h % 2 ^ 40)
packed (Boolean b) = cond b 11 3
packed Nothing = 4
packed (Table t) = 5 + 8 * t
packed (Shape i) = 6 + 8 * i

unfoldable pub unpacked : ℕ → Value
unpacked w =
    if eqb (kind_in w) kind_integer then (λ _. Integer (to_z w32 (number_in w)))
    otherwise λ _. if eqb (kind_in w) kind_text then (λ _. Text (handle_in w))
    otherwise λ _. if eqb (kind_in w) kind_truth then (λ _. Boolean (truth_in w))
    otherwise λ _. if eqb (kind_in w) kind_table then (λ _. Table (number_in w))
    otherwise λ _. if eqb (kind_in w) kind_shape then (λ _. Shape (number_in w))
    otherwise λ _. Nothing
