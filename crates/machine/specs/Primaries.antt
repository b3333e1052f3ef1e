-- What an expression does once its parts are evaluated; these are held as words. p is the statement's place.
use Rattle.std.specs.Prelude.{ℕ, ◌*◌, ◌-◌, Bool, not, ◌&&◌, List, eqb, ltb}
use Rattle.std.specs.Int.{w32}
use Rattle.std.proofs.Common.{to_z}
use Rattle.meaning.specs.Basics.{if◌then◌otherwise◌}
use Rattle.meaning.specs.Integer.{is_negative}
use Rattle.machine.specs.Opcodes.{tag_in, number_in, tag_number, tag_string, tag_none, tag_truth, tag_entry, first_operator}
use Rattle.machine.specs.declared.Value.{Value}
use Rattle.machine.specs.declared.Value.TheVariants.{Integer, Text, Boolean, Nothing}
use Rattle.machine.specs.Words.{kind_in, kind_table, unpacked}
use Rattle.machine.specs.Words as Words
use Rattle.machine.specs.Layout.{arguments_held}
use Rattle.machine.specs.Act.{Act, ◌>>=◌, ◌>>◌, give, refuse, load, new_table}
use Rattle.machine.specs.Stack.{drop_to}
use Rattle.machine.specs.Variables.{variable}
use Rattle.machine.specs.Tables.{read_entry}
use Rattle.machine.specs.Operate.{with_integer, operate}
use Rattle.machine.specs.Library.{call_library}

-- a constant or a variable, by the word of the code
unfoldable pub leaf : ℕ → ℕ → Act Value
leaf p w =
    if eqb (tag_in w) tag_number then (λ _. give (Integer (to_z w32 (number_in w))))
    otherwise λ _. if eqb (tag_in w) tag_string then (λ _. give (Text (2 * number_in w)))
    otherwise λ _. if eqb (tag_in w) tag_none then (λ _. give Nothing)
    otherwise λ _. if eqb (tag_in w) tag_truth then (λ _. give (Boolean (eqb (number_in w) 1)))
    otherwise λ _. variable p (number_in w)

-- a new table by its size: 20 if that is no integer, 40 if it is negative
unfoldable pub sized : ℕ → ℕ → Act Value
sized p a = with_integer p (unpacked a) λ size. refuse (is_negative size) 40 p >> new_table

-- whether the first part of a table read is no table
abbrev pub lacks_table : ℕ → ℕ → Bool
lacks_table tag a = ltb tag first_operator && not (eqb (kind_in a) kind_table)

-- a table read or an operator, by its tag, on its two parts
unfoldable pub applied : List ℕ → List ℕ → ℕ → ℕ → ℕ → ℕ → Act Value
applied program g tag p a b =
    if eqb tag tag_entry then (λ _. read_entry program g p (Words.number_in a) b) otherwise λ _. operate program g tag p (unpacked a) (unpacked b)

-- a library procedure on the arguments held from the one numbered base on, which are then dropped
unfoldable pub called : List ℕ → ℕ → ℕ → ℕ → Act Value
called grants number p base = do
  top ← load arguments_held
  v ← call_library grants number p base (top - base)
  drop_to base
  give v
