-- The grammar of statements, over prepared token words and with code in place of trees.
use Rattle.std.specs.Prelude.{ℕ, zero, suc, ◌+◌, ◌-◌, Bool, ◌||◌, List, [], ◌∷◌, ◌++◌, length, take}
use Rattle.meaning.specs.Basics.{if◌then◌otherwise◌}
use Rattle.meaning.specs.Token.{a_name, a_string, word_var, word_if, word_while, word_return, word_none, word_true, word_false, word_foreach, word_in, word_do}
use Rattle.meaning.specs.Token.{semicolon, open_paren, close_paren, open_bracket, open_brace, close_brace, becomes}
use Rattle.meaning.specs.Grammar.{Got, good, wrong, after, Inside, no_level, level, opening}
use Rattle.machine.specs.Opcodes.{tag_declare, tag_assign, tag_update, tag_when, tag_while, tag_return, tag_block, tag_act, tag_foreach}
use Rattle.code.specs.Code.{headed}
use Rattle.expressions.specs.declared.Target.{Target}
use Rattle.expressions.specs.declared.Target.TheVariants.{Neither, Name, Entry}
use Rattle.expressions.specs.Words.{place_at, home_at, is, positive_at, signed_at, Piece, ReadPiece, expect, expression}

-- ---- statements
abbrev pub ReadCode : Type 0
ReadCode = ℕ → Got (List ℕ)

pub record Readers : Type 0 where
  pub in_expression : ReadPiece
  pub in_statement : ReadCode

-- a token of a kind has to follow
abbrev pub skip : ℕ → List ℕ → ℕ → Got (Unit {0})
skip k ws j = expect k ws j tt

unfoldable pub declaration : List ℕ → ℕ → Got (List ℕ)
declaration ws i =
    if is a_name ws (i + 1) then (λ _. expect semicolon ws (i + 2) (headed tag_declare (place_at ws i) (home_at ws (i + 1)) []))
    otherwise λ _. wrong 10 (i + 1)

unfoldable pub returning : ReadPiece → List ℕ → ℕ → Got (List ℕ)
returning read ws i = after (read (i + 1)) λ e j. expect semicolon ws j (headed tag_return (place_at ws i) 0 e.code)

-- an entry's code without its word: that of the table and the key
unfoldable pub without_last : List ℕ → List ℕ
without_last c = take (length c - 1) c

-- = e; where token j is the sign, and the left side, which begins at token i, has the code c
unfoldable pub assignment : ReadPiece → List ℕ → ℕ → Target → List ℕ → ℕ → Got (List ℕ)
assignment read ws i Name c j = after (read (j + 1)) λ e m. expect semicolon ws m (headed tag_assign (place_at ws i) (home_at ws i) e.code)
assignment read ws i Entry c j = after (read (j + 1)) λ e m. expect semicolon ws m (headed tag_update (place_at ws i) 0 (without_last c ++ e.code))
assignment read ws i Neither c j = wrong 10 j

unfoldable pub simple : ReadPiece → List ℕ → ℕ → Got (List ℕ)
simple read ws i =
    after (read i) λ a j.
    if is becomes ws j then (λ _. assignment read ws i a.target a.code j)
    otherwise λ _. expect semicolon ws j (headed tag_act (place_at ws i) 0 a.code)

-- (e) and a body, behind if or while, whose place is p
unfoldable pub guarded : ℕ → ℕ → Inside Readers → List ℕ → ℕ → Got (List ℕ)
guarded tag p inside ws i =
    if is open_paren ws i then (λ _.
    opening inside i λ inner.
    after (inner.in_expression (i + 1)) λ e j.
    after (expect close_paren ws j e.code) λ c m.
    after (inner.in_statement m) λ s n.
    good (headed tag p (length c) (c ++ s)) n)
    otherwise λ _. wrong 10 i

-- whether a statement can begin with token i
unfoldable pub begins_statement : List ℕ → ℕ → Bool
begins_statement ws i =
    positive_at ws i || signed_at ws i || is a_string ws i || is word_none ws i || is word_true ws i || is word_false ws i || is a_name ws i || is open_paren ws i ||
    is open_bracket ws i || is word_var ws i || is word_if ws i || is word_while ws i || is word_foreach ws i || is word_return ws i || is open_brace ws i

-- foreach x in e do and a body, whose first token opens a level if a statement can begin there
unfoldable pub iteration : ReadPiece → Inside Readers → List ℕ → ℕ → Got (List ℕ)
iteration read inside ws i =
    after (expect a_name ws (i + 1) (home_at ws (i + 1))) λ x i₂.
    after (skip word_in ws i₂) λ _ i₃.
    after (read i₃) λ e j.
    after (skip word_do ws j) λ _ m.
    if begins_statement ws m then (λ _.
    opening inside m λ inner.
    after (inner.in_statement m) λ s n.
    good (headed tag_foreach (place_at ws i) (length e.code + 1) (x ∷ (e.code ++ s))) n)
    otherwise λ _. wrong 10 m

unfoldable pub statements_from : ℕ → ReadCode → List ℕ → ℕ → Got (List ℕ)
statements_from zero inner ws i = wrong 10 i
statements_from (suc rounds) inner ws i =
    after (inner i) λ s j.
    if is close_brace ws j then (λ _. good s (j + 1))
    otherwise λ _. after (statements_from rounds inner ws j) λ ss m. good (s ++ ss) m

abbrev pub statements : ReadCode → List ℕ → ℕ → Got (List ℕ)
statements inner ws i = statements_from (suc (length ws - i)) inner ws i

unfoldable pub statement_in : ReadPiece → Inside Readers → List ℕ → ℕ → Got (List ℕ)
statement_in read inside ws i =
    if is word_var ws i then (λ _. declaration ws i)
    otherwise λ _. if is word_if ws i then (λ _. guarded tag_when (place_at ws i) inside ws (i + 1))
    otherwise λ _. if is word_while ws i then (λ _. guarded tag_while (place_at ws i) inside ws (i + 1))
    otherwise λ _. if is word_foreach ws i then (λ _. iteration read inside ws i)
    otherwise λ _. if is word_return ws i then (λ _. returning read ws i)
    otherwise λ _. if is open_brace ws i then (λ _.
    opening inside i λ inner.
    after (statements inner.in_statement ws (i + 1)) λ ss j.
    good (headed tag_block (place_at ws i) 0 ss) j)
    otherwise λ _. simple read ws i

unfoldable pub statement : ℕ → List ℕ → ℕ → Got (List ℕ)
statement zero ws i = statement_in (expression zero ws) no_level ws i
statement (suc left) ws i =
    statement_in (expression (suc left) ws) (level (record { in_expression = expression left ws; in_statement = statement left ws })) ws i
