-- The grammar of procedures and of the whole program, over prepared token words and with code in place of trees.
use Rattle.std.specs.Prelude.{ℕ, zero, suc, ◌+◌, ◌-◌, not, ◌&&◌, ◌||◌, List, [], ◌∷◌, ◌++◌, length, get_or, set, take, drop, replicate, eqb, ltb, Option, Some, None, Result, Ok, Err}
use Rattle.meaning.specs.Basics.{if◌then◌otherwise◌}
use Rattle.meaning.specs.Token.{ending, a_name, word_def, comma, open_paren, close_paren, open_brace}
use Rattle.meaning.specs.Grammar.{Got, good, wrong, after}
use Rattle.machine.specs.Opcodes.{procedure_word}
use Rattle.expressions.specs.Words.{place_at, home_at, procedure_at, is, expect}
use Rattle.statements.specs.Words.{skip, statements, statement}
use Rattle.definitions.specs.declared.Parsed.{Parsed}
use Rattle.definitions.specs.declared.Procedure.{Procedure}
use Rattle.definitions.specs.declared.Unread.{Unread}
use Rattle.definitions.specs.declared.Unread.TheVariants.{Twice, Misfit}
use Rattle.expressions.specs.declared.Misfit as Expressions

-- ---- a procedure
-- the number and the slot of its name
pub record Name : Type 0 where
  pub number : ℕ
  pub slot : ℕ

abbrev pub name_at : List ℕ → ℕ → Name
name_at ws i = record { number = procedure_at ws i; slot = home_at ws i }

-- the place of its `def`, its name, the slots of its parameters, and its body's code
pub record Head : Type 0 where
  pub place : ℕ
  pub name : Name
  pub slots : List ℕ
  pub body : List ℕ

unfoldable pub parameters_from : ℕ → List ℕ → ℕ → Got (List ℕ)
parameters_from zero ws i = wrong 10 i
parameters_from (suc rounds) ws i =
    after (expect a_name ws i (home_at ws i)) λ x j.
    if is comma ws j then (λ _. after (parameters_from rounds ws (j + 1)) λ xs m. good (x ∷ xs) m)
    otherwise λ _. expect close_paren ws j (x ∷ [])

unfoldable pub parameters : List ℕ → ℕ → Got (List ℕ)
parameters ws i =
    if is close_paren ws i then (λ _. good [] (i + 1))
    otherwise λ _. parameters_from (suc (length ws - i)) ws i

-- the braces and what stands between, from token i on
unfoldable pub body : List ℕ → ℕ → Got (List ℕ)
body ws i = after (skip open_brace ws i) λ _ j. statements (statement 64 ws) ws j

-- def f(x, y) { .. } from token i on
unfoldable pub procedure : List ℕ → ℕ → Got Head
procedure ws i =
    after (skip word_def ws i) λ _ i₁.
    after (expect a_name ws i₁ (name_at ws i₁)) λ f i₂.
    after (skip open_paren ws i₂) λ _ i₃.
    after (parameters ws i₃) λ xs i₄.
    after (body ws i₄) λ ss i₅.
    good (record { place = place_at ws i; name = f; slots = xs; body = ss }) i₅

-- ---- all procedures
unfoldable pub procedures_from : ℕ → List ℕ → ℕ → Got (List Head)
procedures_from zero ws i = wrong 10 i
procedures_from (suc rounds) ws i =
    after (procedure ws i) λ f j.
    if is ending ws j then (λ _. good (f ∷ []) j)
    otherwise λ _. after (procedures_from rounds ws j) λ fs m. good (f ∷ fs) m

unfoldable pub procedures : List ℕ → Got (List Head)
procedures ws = procedures_from (suc (length ws)) ws 0

-- What is gathered from procedure to procedure: the code, the table, main's word, and the place of the first `def` whose name an earlier one or the
-- library has.
pub record Gathered : Type 0 where
  pub code : List ℕ
  pub table : List ℕ
  pub main : Option ℕ
  pub twice : Option ℕ

-- main's word, where a procedure with a number has the word w
unfoldable pub main_word : Option ℕ → ℕ → ℕ → Option ℕ
main_word (Some m) number w = Some m
main_word None number w = if eqb number 12 then (λ _. Some w) otherwise λ _. None

-- a `def` at a place p whose name has a number, and the word `old` in the table already
unfoldable pub first_twice : Option ℕ → ℕ → ℕ → ℕ → Option ℕ
first_twice (Some q) number old p = Some q
first_twice None number old p = if ltb number 11 || not (eqb old 0) then (λ _. Some p) otherwise λ _. None

-- the word in the table of a procedure whose code begins at a
abbrev pub word_at : ℕ → Head → ℕ
word_at a h = procedure_word a (length h.slots) (length h.body)

unfoldable pub gather : Gathered → Head → Gathered
gather a h = record {
  code = a.code ++ (h.slots ++ h.body);
  table = set a.table h.name.slot (word_at (length a.code) h);
  main = main_word a.main h.name.number (word_at (length a.code) h);
  twice = first_twice a.twice h.name.number (get_or a.table h.name.slot 0) h.place;
}

unfoldable pub gather_all : Gathered → List Head → Gathered
gather_all a [] = a
gather_all a (h ∷ hs) = gather_all (gather a h) hs

abbrev pub nothing : Gathered
nothing = record { code = []; table = replicate 8192 0; main = None; twice = None }

-- ---- what the code's answers say
-- a procedure that was read, with the first words of the slice
pub data SeenProcedure : Type 0 where
  up_to : ℕ → ℕ → ℕ → List ℕ → SeenProcedure
  failed_procedure : ℕ → ℕ → SeenProcedure

unfoldable pub seen_procedure : Result Procedure Expressions.Misfit → List ℕ → SeenProcedure
seen_procedure (Ok p) slice = up_to p.token p.word p.parameters (take p.word slice)
seen_procedure (Err e) slice = failed_procedure e.number e.token

-- a procedure's code, behind the first n words of a slice: the slots of its parameters, and its body's
unfoldable pub written_procedure : Got Head → ℕ → List ℕ → SeenProcedure
written_procedure (good h j) n slice = up_to j (n + length h.slots + length h.body) (length h.slots) (take n slice ++ (h.slots ++ h.body))
written_procedure (wrong k p) n slice = failed_procedure k p

-- the table stands in words 8192 to 16383
abbrev pub table_in : List ℕ → List ℕ
table_in slice = take 8192 (drop 8192 slice)

-- main's word, the code and the table; or the place of the first `def` of a name that is there already; or a number and the token that fails
pub data SeenWhole : Type 0 where
  whole : ℕ → List ℕ → List ℕ → SeenWhole
  twice_at : ℕ → SeenWhole
  failed_whole : ℕ → ℕ → SeenWhole

unfoldable pub seen_whole : Result Parsed Unread → List ℕ → SeenWhole
seen_whole (Ok p) slice = whole p.main (take p.words slice) (table_in slice)
seen_whole (Err (Twice p)) slice = twice_at p
seen_whole (Err (Misfit e)) slice = failed_whole e.number e.token

-- main has to be there, and each name once, in that order; the program ends at token `end`
unfoldable pub settled_by : Option ℕ → Option ℕ → ℕ → Gathered → SeenWhole
settled_by None twice end a = failed_whole 10 end
settled_by (Some main) None end a = whole main a.code a.table
settled_by (Some main) (Some p) end a = twice_at p

abbrev pub settled : ℕ → Gathered → SeenWhole
settled end a = settled_by a.main a.twice end a

unfoldable pub written_whole : ℕ → Gathered → Got (List Head) → SeenWhole
written_whole end a (good hs j) = settled end (gather_all a hs)
written_whole end a (wrong k p) = failed_whole k p
