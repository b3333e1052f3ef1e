-- What reading leaves behind: the program's code, or a number and its place.
use Rattle.std.specs.Prelude.{ℕ, ◌≤◌, ◌≡◌, List, [], map, length, get_or, take, drop, replicate, ltb, Result, Ok, Err}
use Rattle.std.proofs.Math.Option.{Option, none, some}
use Rattle.meaning.specs.Basics.{bytes, if◌then◌otherwise◌}
use Rattle.meaning.specs.Token.{Token, Lexed, lexed, stray, tokens_of}
use Rattle.meaning.specs.Tree.{Procedure}
use Rattle.meaning.specs.Grammar.{Reading, well_formed, malformed}
use Rattle.meaning.specs.Procedure.{doubled}
use Rattle.tokens.specs.Words.{word_of, place_in}
use Rattle.code.specs.Code.{code_of_procedures, tabled, head_named}
use Rattle.reader.specs.declared.Program.{Program}
use Rattle.reader.specs.declared.Malformed.{Malformed}
use Rattle.reader.specs.Coded.{words_of}

-- ---- what is lent
pub record Lent (program tokens code : List ℕ) : Type 0 where
  pub short : length program ≤ 32768
  pub tokens_long : 8193 ≤ length tokens
  pub code_long : 16384 ≤ length code

-- the words are those of the program's tokens
pub record Worded (program words code : List ℕ) : Type 0 where
  pub short : length program ≤ 32768
  pub tokens : List Token
  pub are : tokens_of program ≡ lexed tokens
  pub worded : words ≡ map word_of tokens
  pub few : length tokens ≤ 8192
  pub code_long : 16384 ≤ length code

-- ---- answers
unfoldable pub tokens_among : Lexed → List Token
tokens_among (lexed ts) = ts
tokens_among (stray p) = []

abbrev pub tokens_in : List ℕ → List Token
tokens_in program = tokens_among (tokens_of program)

-- main's word in the table, the code of all procedures, and the table behind it
pub data Seen : Type 0 where
  formed : ℕ → List ℕ → List ℕ → Seen
  refused : ℕ → ℕ → Seen

unfoldable pub seen : Result Program Malformed → List ℕ → Seen
seen (Ok p) slice = formed p.main (take p.words slice) (take 8192 (drop 8192 slice))
seen (Err m) slice = refused m.number m.place

-- the procedures of a program, or 60 where two have one name
unfoldable pub coded_apart : List Token → List Procedure → Option ℕ → Seen
coded_apart ts fs none = formed (head_named 0 fs ts (bytes "main")) (code_of_procedures fs ts) (tabled 0 fs ts (replicate 8192 0))
coded_apart ts fs (some p) = refused 60 p

unfoldable pub coded : List Token → Reading → Seen
coded ts (well_formed m) = coded_apart ts m.procedures (doubled [] m.procedures)
coded ts (malformed n p) = refused n p

-- Where a program was read, the words of its tokens are the first of a slice, and the answer says how many they are.
unfoldable pub Kept : Result Program Malformed → List Token → List ℕ → Type 0
Kept (Ok p) ts slice = (p.tokens ≡ length ts) × (take p.tokens slice ≡ words_of ts)
Kept (Err m) ts slice = Unit {0}

unfoldable pub place_among : List ℕ → ℕ → ℕ → ℕ
place_among words i n = if ltb i (length words) then (λ _. place_in (get_or words i 0)) otherwise λ _. n
