-- What was read, with code in place of trees.
use Rattle.std.specs.Prelude.{ℕ, zero, suc, List, map}
use Rattle.meaning.specs.Token.{Token}
use Rattle.meaning.specs.Tree.{Expression, number, string, nothing, truth, name, table, entry, operation, call, paren, Procedure}
use Rattle.meaning.specs.Grammar.{Got, good, wrong, Inside, no_level, level, ReadExpression, expression}
use Rattle.names.specs.Prepared.{procedure_number, prepared}
use Rattle.code.specs.Code.{slot_of, code_of, code_of_statements}
use Rattle.expressions.specs.declared.Target.{Target}
use Rattle.expressions.specs.declared.Target.TheVariants.{Neither, Name, Entry}
use Rattle.expressions.specs.Words.{Piece, piece}
use Rattle.definitions.specs.Words.{Head}
use Rattle.definitions.specs.Words as Definitions

-- the words of some tokens
abbrev pub words_of : List Token → List ℕ
words_of ts = map (prepared ts) ts

unfoldable pub map_got : {A B : Type 0} → (A → B) → Got A → Got B
map_got f (good a j) = good (f a) j
map_got f (wrong n p) = wrong n p

-- what an expression is as an assignment's left side
unfoldable pub side_of : Expression → Target
side_of (name x) = Name
side_of (entry a b) = Entry
side_of (number z) = Neither
side_of (string w) = Neither
side_of nothing = Neither
side_of (truth b) = Neither
side_of (table e) = Neither
side_of (operation o a b) = Neither
side_of (call f es) = Neither
side_of (paren e) = Neither

unfoldable pub piece_of : List Token → Expression → Piece
piece_of ts e = piece (code_of e ts) (side_of e)

unfoldable pub name_of : List Token → List ℕ → Definitions.Name
name_of ts x = record { number = procedure_number x; slot = slot_of ts x }

unfoldable pub head_of : List Token → Procedure → Head
head_of ts f = record {
  place = f.place;
  name = name_of ts f.name;
  slots = map (slot_of ts) f.parameters;
  body = code_of_statements f.body ts;
}

-- how the inside of a level is read, where so many are left
unfoldable pub inside_of : ℕ → List Token → Inside ReadExpression
inside_of zero ts = no_level
inside_of (suc left) ts = level (expression left ts)
