-- The text of a program's code: what the functions here write. The laws of `faithful` show that it is the program's text.
use Rattle.std.specs.Prelude.{ℕ, zero, suc, ◌+◌, ◌-◌, List, [], ◌++◌, map, length, take, drop, eqb, ltb}
use Rattle.meaning.specs.Basics.{bytes, if◌then◌otherwise◌}
use Rattle.meaning.specs.Token.{word_def}
use Rattle.canonical.specs.Text.{comma_separated, apart}
use Rattle.machine.specs.Opcodes.{tag_in, size_in, extra_in, size_at, table_place, start_in, parameters_in, body_in}
use Rattle.machine.specs.Opcodes.{tag_declare, tag_assign, tag_update, tag_when, tag_while, tag_foreach, tag_return, tag_block}
use Rattle.expressions.specs.Words.{is, home_at}
use Rattle.phrases.specs.Raw.{Source, word_at, spelling, Writer, raw_expression}
use Rattle.clauses.specs.Raw.{ending_in, update_text, iterator_text}

-- ---- statements
-- a test whose root is y and the statement behind it
unfoldable pub guarded_text : Writer → Writer → List ℕ → ℕ → List ℕ
guarded_text inner body lead y = lead ++ inner y ++ bytes ")\n" ++ body (y + 1)

-- a foreach by its variable's slot and the root of its expression, with its body
unfoldable pub foreach_text : Writer → Writer → Source → ℕ → ℕ → List ℕ
foreach_text inner body s slot y = iterator_text inner s slot y ++ body (y + 1)

-- the statements from a up to end, each with its linefeed; there are fewer than there are words
unfoldable pub raw_statements : ℕ → Writer → Source → ℕ → ℕ → List ℕ
raw_statements zero body s a end = []
raw_statements (suc rounds) body s a end =
    if ltb a end then (λ _. body a ++ bytes "\n" ++ raw_statements rounds body s (a + size_at s.code a) end) otherwise λ _. []

-- by the word w at x; the root of a statement's last expression is its last word
unfoldable pub statement_by : Writer → Writer → Source → ℕ → ℕ → List ℕ
statement_by inner body s w x =
    let y = x + size_in w - 1 in
    if eqb (tag_in w) tag_declare then (λ _. bytes "var " ++ spelling s (extra_in w) ++ bytes ";")
    otherwise λ _. if eqb (tag_in w) tag_assign then (λ _. ending_in inner (spelling s (extra_in w) ++ bytes "=") y)
    otherwise λ _. if eqb (tag_in w) tag_update then (λ _. update_text inner s y)
    otherwise λ _. if eqb (tag_in w) tag_when then (λ _. guarded_text inner body (bytes "if(") (x + extra_in w))
    otherwise λ _. if eqb (tag_in w) tag_while then (λ _. guarded_text inner body (bytes "while(") (x + extra_in w))
    otherwise λ _. if eqb (tag_in w) tag_foreach then (λ _. foreach_text inner body s (word_at s (x + 1)) (x + extra_in w))
    otherwise λ _. if eqb (tag_in w) tag_return then (λ _. bytes "return" ++ apart (inner y) ++ bytes ";")
    otherwise λ _. if eqb (tag_in w) tag_block then (λ _. bytes "{\n" ++ raw_statements (suc (size_in w)) body s (x + 1) (x + size_in w) ++ bytes "}")
    otherwise λ _. ending_in inner [] y

unfoldable pub raw_statement : ℕ → Source → ℕ → List ℕ
raw_statement zero s x = []
raw_statement (suc fuel) s x = statement_by (raw_expression fuel s) (raw_statement fuel s) s (word_at s x) x

-- ---- procedures
-- the names of n slots that stand in the code from a on
unfoldable pub parameter_names : Source → ℕ → ℕ → List (List ℕ)
parameter_names s a n = map (spelling s) (take n (drop a s.code))

-- the procedure of a name's slot, whose word in the table is d, on lines of its own
unfoldable pub procedure_by : ℕ → Source → ℕ → ℕ → List ℕ
procedure_by fuel s slot d =
    let a = start_in d + parameters_in d in
    bytes "def " ++ spelling s slot ++ bytes "(" ++ comma_separated (parameter_names s (start_in d) (parameters_in d)) ++ bytes "){\n" ++
    raw_statements (suc (body_in d)) (raw_statement fuel s) s a (a + body_in d) ++ bytes "}\n"

-- what token i begins: a procedure, if it is a def, or nothing
unfoldable pub procedure_text : ℕ → Source → ℕ → List ℕ
procedure_text fuel s i =
    if is word_def s.tokens i
    then (λ _. procedure_by fuel s (home_at s.tokens (i + 1)) (word_at s (table_place (home_at s.tokens (i + 1)))))
    otherwise λ _. []

-- the procedures that begin at one of n tokens from i on
unfoldable pub raw_procedures : ℕ → ℕ → Source → ℕ → List ℕ
raw_procedures fuel zero s i = []
raw_procedures fuel (suc n) s i = procedure_text fuel s i ++ raw_procedures fuel n s (i + 1)

-- more than there are words of code in a program, so enough for every expression and statement
abbrev pub enough_fuel : ℕ
enough_fuel = 8193

unfoldable pub raw_text : Source → List ℕ
raw_text s = raw_procedures enough_fuel (length s.tokens) s 0
