-- What the smaller functions read, and what is done with what was read.
use Rattle.std.specs.Prelude.{ℕ, zero, suc, ◌+◌, ◌-◌, ◌*◌, List, ◌∷◌, set}
use Rattle.meaning.specs.Basics.{if◌then◌otherwise◌}
use Rattle.meaning.specs.Token.{a_name, word_in, word_do, semicolon, open_paren, close_paren}
use Rattle.meaning.specs.Grammar.{Got, good, wrong, after, Inside, no_level, level, opening}
use Rattle.machine.specs.Opcodes.{word}
use Rattle.expressions.specs.declared.Target.TheVariants.{Neither}
use Rattle.expressions.specs.Words.{home_at, is, ReadPiece, expect, expression, Seen, at, failed}
use Rattle.statements.specs.Words.{Readers, skip, begins_statement, statement}

-- how the inside of a level is read, where so many are left
unfoldable pub inside_of : ℕ → List ℕ → Inside Readers
inside_of zero ws = no_level
inside_of (suc left) ws = level (record { in_expression = expression left ws; in_statement = statement left ws })

-- an expression and a semicolon
unfoldable pub ended : ReadPiece → List ℕ → ℕ → Got (List ℕ)
ended read ws i = after (read i) λ e j. expect semicolon ws j e.code

-- (e)
unfoldable pub test : Inside ReadPiece → List ℕ → ℕ → Got (List ℕ)
test inside ws i =
    if is open_paren ws i then (λ _. opening inside i λ inner. after (inner (i + 1)) λ e j. expect close_paren ws j e.code)
    otherwise λ _. wrong 10 i

-- x in e do, from token i on: the slot of x, and the code of e
unfoldable pub members : ReadPiece → List ℕ → ℕ → Got (List ℕ)
members read ws i =
    after (expect a_name ws i (home_at ws i)) λ x i₂.
    after (skip word_in ws i₂) λ _ i₃.
    after (read i₃) λ e j.
    expect word_do ws j (x ∷ e.code)

-- the same, and the first token of a body, which opens a level if a statement can begin there
unfoldable pub each : ReadPiece → Inside Readers → List ℕ → ℕ → Got (List ℕ)
each read inside ws i =
    after (members read ws i) λ c j.
    if begins_statement ws j then (λ _. opening inside j λ _. good c j) otherwise λ _. wrong 10 j

-- a statement's word at n, before its parts, with a place p and a number x
unfoldable pub topped : ℕ → ℕ → ℕ → ℕ → Seen → Seen
topped tag p n x (at j m t xs) = at j m Neither (set xs n (word tag (m - n) (p + 65536 * x)))
topped tag p n x (failed k q) = failed k q
