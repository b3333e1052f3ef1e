-- The text of an expression's code: what the functions here write. The laws of `faithful` show that it is the expression's text.
use Rattle.std.specs.Prelude.{ℕ, zero, suc, ◌+◌, ◌-◌, List, [], ◌++◌, get_or, eqb, ltb}
use Rattle.meaning.specs.Basics.{bytes, if◌then◌otherwise◌}
use Rattle.canonical.specs.Text.{enclosed_if}
use Rattle.machine.specs.Opcodes.{tag_in, size_in, number_in, argument_root, callee_in, tag_table, tag_entry}
use Rattle.spellings.specs.Spelling.{name_text, leaf_text, sign_text, encloses}

-- what is read: the program, its prepared token words, and its code with the table behind it
pub record Source : Type 0 where
  pub program : List ℕ
  pub tokens : List ℕ
  pub code : List ℕ

abbrev pub source : List ℕ → List ℕ → List ℕ → Source
source program tokens code = record { program = program; tokens = tokens; code = code }

abbrev pub word_at : Source → ℕ → ℕ
word_at s x = get_or s.code x 0

-- how the name of a slot is spelled
abbrev pub spelling : Source → ℕ → List ℕ
spelling s slot = name_text s.program s.tokens slot

-- ---- expressions
-- how one expression is written, by its root
abbrev pub Writer : Type 0
Writer = ℕ → List ℕ

-- a part whose root is y, inside an entry or an operator with a tag
unfoldable pub part_text : Writer → Source → ℕ → ℕ → List ℕ
part_text inner s outer y = enclosed_if (encloses outer (tag_in (word_at s y))) (inner y)

-- two parts by their roots, with the sign between
unfoldable pub pair_text : Writer → Source → ℕ → ℕ → ℕ → List ℕ
pair_text inner s tag y z = part_text inner s tag y ++ sign_text tag ++ part_text inner s tag z

-- the root of the argument whose first word is at a; x if there is none
abbrev pub argument_after : Source → ℕ → ℕ → ℕ
argument_after s a x = argument_root (word_at s a) a x

-- the arguments from the one whose root is y up to x, each but the first behind a comma; there are fewer than there are words up to x
unfoldable pub arguments_text : ℕ → List ℕ → Writer → Source → ℕ → ℕ → List ℕ
arguments_text zero lead inner s y x = []
arguments_text (suc rounds) lead inner s y x =
    if ltb y x then (λ _. lead ++ inner y ++ arguments_text rounds (bytes ",") inner s (argument_after s (y + 1) x) x) otherwise λ _. []

-- the call whose word, w, is at x
unfoldable pub call_text : Writer → Source → ℕ → ℕ → List ℕ
call_text inner s w x =
    spelling s (callee_in w) ++ bytes "(" ++ arguments_text (suc x) [] inner s (argument_after s (x - (size_in w - 1)) x) x ++ bytes ")"

-- by the word w at the root x; entries and operators are what needs parentheses inside an entry
unfoldable pub expression_by : Writer → Source → ℕ → ℕ → List ℕ
expression_by inner s w x =
    if ltb (tag_in w) tag_table then (λ _. leaf_text s.program s.tokens w)
    otherwise λ _. if eqb (tag_in w) tag_table then (λ _. bytes "[" ++ inner (x - 1) ++ bytes "]")
    otherwise λ _. if encloses tag_entry (tag_in w) then (λ _. pair_text inner s (tag_in w) (x - 1 - number_in w) (x - 1))
    otherwise λ _. call_text inner s w x

-- fuel falls at each expression inside another; there are fewer than there are words of code
unfoldable pub raw_expression : ℕ → Source → ℕ → List ℕ
raw_expression zero s x = []
raw_expression (suc fuel) s x = expression_by (raw_expression fuel s) s (word_at s x) x
