-- The grammar of expressions once more, over prepared token words and with code in place of trees: what the functions here yield.
-- The crate `reader` shows that it is the meaning's grammar with the code of each tree.
use Rattle.std.specs.Prelude.{ℕ, zero, suc, ◌+◌, ◌-◌, ◌*◌, ◌/◌, ◌%◌, Bool, ◌&&◌, List, [], ◌∷◌, ◌++◌, length, get_or, take, eqb, leb, Option, Some, None, Result, Ok, Err}
use Rattle.meaning.specs.Basics.{if◌then◌otherwise◌}
use Rattle.meaning.specs.Token.{a_name, digits, a_string, word_none, word_true, word_false, dot, comma, open_paren, close_paren, open_bracket, close_bracket, minus, doubled}
use Rattle.meaning.specs.Grammar.{Got, good, wrong, after, Inside, no_level, level, opening}
use Rattle.expressions.specs.declared.Read.{Read}
use Rattle.expressions.specs.declared.Misfit.{Misfit}
use Rattle.expressions.specs.declared.Target.{Target}
use Rattle.expressions.specs.declared.Target.TheVariants.{Neither, Name, Entry}
use Rattle.machine.specs.Opcodes.{word, tag_number, tag_string, tag_none, tag_truth, tag_name, tag_table, tag_entry, tag_call, tag_argument}
use Rattle.code.specs.Code.{joined}

-- ---- token words
abbrev pub kind_at : List ℕ → ℕ → ℕ
kind_at ws i = get_or ws i 0 % 256

abbrev pub place_at : List ℕ → ℕ → ℕ
place_at ws i = get_or ws i 0 / 256 % 65536

-- of digits their value
abbrev pub payload_at : List ℕ → ℕ → ℕ
payload_at ws i = get_or ws i 0 / 16777216

abbrev pub size_at : List ℕ → ℕ → ℕ
size_at ws i = payload_at ws i % 65536

abbrev pub home_at : List ℕ → ℕ → ℕ
home_at ws i = payload_at ws i / 65536 % 65536

-- the number of the procedure that a name names
abbrev pub procedure_at : List ℕ → ℕ → ℕ
procedure_at ws i = payload_at ws i / 4294967296

-- the same with the name's home, as a call has it
abbrev pub callee_at : List ℕ → ℕ → ℕ
callee_at ws i = procedure_at ws i + 16 * home_at ws i

-- where the text of a string stands and how long it is, of the first token with that string
abbrev pub part_at : List ℕ → ℕ → ℕ
part_at ws i = place_at ws (home_at ws i) + 1 + 65536 * (size_at ws i - 2)

abbrev pub is : ℕ → List ℕ → ℕ → Bool
is k ws i = eqb (kind_at ws i) k

abbrev pub positive_at : List ℕ → ℕ → Bool
positive_at ws i = is digits ws i && leb (payload_at ws i) 2147483647

abbrev pub signed_at : List ℕ → ℕ → Bool
signed_at ws i = is minus ws i && (is digits ws (i + 1) && eqb (place_at ws (i + 1)) (place_at ws i + 1))

abbrev pub negative_at : List ℕ → ℕ → Bool
negative_at ws i = is digits ws i && leb (payload_at ws i) 2147483648

-- the bits of minus n
abbrev pub minus_bits : ℕ → ℕ
minus_bits n = (4294967296 - n) % 4294967296

-- the tag of an operator's kind
unfoldable pub operator_tag : ℕ → Option ℕ
operator_tag k =
    if eqb k (doubled 43) then (λ _. Some 16)
    otherwise λ _. if eqb k 43 then (λ _. Some 17)
    otherwise λ _. if eqb k 45 then (λ _. Some 18)
    otherwise λ _. if eqb k 42 then (λ _. Some 19)
    otherwise λ _. if eqb k 47 then (λ _. Some 20)
    otherwise λ _. if eqb k 37 then (λ _. Some 21)
    otherwise λ _. if eqb k (doubled 62) then (λ _. Some 22)
    otherwise λ _. if eqb k (doubled 60) then (λ _. Some 23)
    otherwise λ _. if eqb k (doubled 61) then (λ _. Some 24)
    otherwise λ _. if eqb k (doubled 33) then (λ _. Some 25)
    otherwise λ _. if eqb k 62 then (λ _. Some 26)
    otherwise λ _. if eqb k 60 then (λ _. Some 27)
    otherwise λ _. None

-- ---- expressions
-- the code of an expression, and what it is as an assignment's left side
pub record Piece : Type 0 where
  pub code : List ℕ
  pub target : Target

abbrev pub piece : List ℕ → Target → Piece
piece c t = record { code = c; target = t }

abbrev pub leaf : ℕ → ℕ → Target → ℕ → Got Piece
leaf tag n target j = good (piece (word tag 1 n ∷ []) target) j

abbrev pub ReadPiece : Type 0
ReadPiece = ℕ → Got Piece

unfoldable pub expect : {A : Type 0} → ℕ → List ℕ → ℕ → A → Got A
expect k ws j a = if is k ws j then (λ _. good a (j + 1)) otherwise λ _. wrong 10 j

-- an argument's code with the word before it
abbrev pub argument_code : List ℕ → List ℕ
argument_code c = word tag_argument (length c) 0 ∷ c

unfoldable pub arguments_from : ℕ → ReadPiece → List ℕ → ℕ → Got (List ℕ)
arguments_from zero inner ws i = wrong 10 i
arguments_from (suc rounds) inner ws i =
    after (inner i) λ e j.
    if is comma ws j then (λ _. after (arguments_from rounds inner ws (j + 1)) λ es m. good (argument_code e.code ++ es) m)
    otherwise λ _. expect close_paren ws j (argument_code e.code ++ [])

unfoldable pub arguments : ReadPiece → List ℕ → ℕ → Got (List ℕ)
arguments inner ws i =
    if is close_paren ws i then (λ _. good [] (i + 1))
    otherwise λ _. arguments_from (suc (length ws - i)) inner ws i

abbrev pub call_code : ℕ → List ℕ → List ℕ
call_code n es = es ++ (word tag_call (length es + 1) n ∷ [])

abbrev pub table_code : List ℕ → List ℕ
table_code c = c ++ (word tag_table (length c + 1) 0 ∷ [])

unfoldable pub primary : Inside ReadPiece → List ℕ → ℕ → Got Piece
primary inside ws i =
    if positive_at ws i then (λ _. leaf tag_number (payload_at ws i) Neither (i + 1))
    otherwise λ _. if signed_at ws i then (λ _.
    if negative_at ws (i + 1) then (λ _. leaf tag_number (minus_bits (payload_at ws (i + 1))) Neither (i + 2))
    otherwise λ _. wrong 10 (i + 1))
    otherwise λ _. if is a_string ws i then (λ _. leaf tag_string (part_at ws i) Neither (i + 1))
    otherwise λ _. if is word_none ws i then (λ _. leaf tag_none 0 Neither (i + 1))
    otherwise λ _. if is word_true ws i then (λ _. leaf tag_truth 1 Neither (i + 1))
    otherwise λ _. if is word_false ws i then (λ _. leaf tag_truth 0 Neither (i + 1))
    otherwise λ _. if is a_name ws i then (λ _.
    if is open_paren ws (i + 1) then (λ _.
    opening inside (i + 1) λ inner. after (arguments inner ws (i + 2)) λ es j. good (piece (call_code (callee_at ws i) es) Neither) j)
    otherwise λ _. leaf tag_name (home_at ws i) Name (i + 1))
    otherwise λ _. if is open_paren ws i then (λ _.
    opening inside i λ inner. after (inner (i + 1)) λ e j. expect close_paren ws j (piece e.code Neither))
    otherwise λ _. if is open_bracket ws i then (λ _.
    opening inside i λ inner. after (inner (i + 1)) λ e j. expect close_bracket ws j (piece (table_code e.code) Neither))
    otherwise λ _. wrong 10 i

unfoldable pub operand : Inside ReadPiece → List ℕ → ℕ → Got Piece
operand inside ws i =
    after (primary inside ws i) λ a j.
    if is dot ws j then (λ _. after (primary inside ws (j + 1)) λ b m. good (piece (joined tag_entry a.code b.code) Entry) m)
    otherwise λ _. good a j

unfoldable pub operated : Option ℕ → Inside ReadPiece → List ℕ → Piece → ℕ → Got Piece
operated None inside ws a j = good a j
operated (Some tag) inside ws a j = after (operand inside ws (j + 1)) λ b m. good (piece (joined tag a.code b.code) Neither) m

unfoldable pub expression_in : Inside ReadPiece → List ℕ → ℕ → Got Piece
expression_in inside ws i = after (operand inside ws i) λ a j. operated (operator_tag (kind_at ws j)) inside ws a j

unfoldable pub expression : ℕ → List ℕ → ℕ → Got Piece
expression zero ws i = expression_in no_level ws i
expression (suc left) ws i = expression_in (level (expression left ws)) ws i

-- how the inside of a level is read, where so many are left
unfoldable pub inside_of : ℕ → List ℕ → Inside ReadPiece
inside_of zero ws = no_level
inside_of (suc left) ws = level (expression left ws)

-- ---- what the code's answers say
-- what was read, with the first words of the slice; where nothing was, those are left open
pub data Seen : Type 0 where
  at : ℕ → ℕ → Target → List ℕ → Seen
  failed : ℕ → ℕ → Seen

unfoldable pub seen : Result Read Misfit → List ℕ → Seen
seen (Ok r) slice = at r.token r.word r.target (take r.word slice)
seen (Err e) slice = failed e.number e.token

-- code written behind the first n words of a slice
unfoldable pub written : Got Piece → ℕ → List ℕ → Seen
written (good e j) n slice = at j (n + length e.code) e.target (take n slice ++ e.code)
written (wrong k p) n slice = failed k p

unfoldable pub written_code : Got (List ℕ) → ℕ → List ℕ → Seen
written_code (good c j) n slice = at j (n + length c) Neither (take n slice ++ c)
written_code (wrong k p) n slice = failed k p
