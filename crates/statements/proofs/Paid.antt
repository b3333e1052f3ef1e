-- Each word of a statement's code is paid by a token of its own: what is read from token i up to token j has at most j - i words.
-- Assumes nothing.
use Prim.Native.Nat.{ℕ, zero, suc, ◌+◌, ◌-◌, ◌<◌, ◌≤◌}
use mathlib.Core.Path.{◌≡◌, ◌∙◌, refl, sym, subst}
use mathlib.Core.List.{List, [], ◌++◌}
use native.Mathlib.Omega.{arith}
use lib.ListN.{length, length-append}
use lib.Seq.{length-take-le}
use Rattle.meaning.specs.Token.{a_name, word_var, word_if, word_while, word_return, word_foreach, word_in, word_do, semicolon, open_paren, close_paren, open_brace, close_brace, becomes}
use Rattle.meaning.specs.Grammar.{Got, good, wrong, after, Inside, no_level, level, opening}
use Rattle.code.specs.Code.{headed}
use Rattle.expressions.specs.declared.Target.{Target}
use Rattle.expressions.specs.declared.Target.TheVariants.{Neither, Name, Entry}
use Rattle.expressions.specs.Words.{place_at, home_at, is, Piece, ReadPiece, expect, expression}
use Rattle.expressions.specs.Words as Expressions
use Rattle.expressions.proofs.Tokens.{chosen}
use Rattle.expressions.proofs.Pays.{kind_inside}
use Rattle.expressions.proofs.Paid.{Paid, expression_paid}
use Rattle.statements.specs.Words.{ReadCode, Readers, declaration, returning, without_last, assignment, simple, guarded, begins_statement, iteration}
use Rattle.statements.specs.Words.{skip, statements_from, statements, statement_in, statement}
use Rattle.statements.specs.Steps.{inside_of, ended, test, members, each}

-- ---- what is read
abbrev pub Pays : List ℕ → ℕ → Got (List ℕ) → Type 0
Pays ws i (good c j) = Paid c ws i j
Pays ws i (wrong k p) = Unit {0}

abbrev pub PaysPiece : List ℕ → ReadPiece → Type 0
PaysPiece ws read = (i : ℕ) (e : Piece) (j : ℕ) → read i ≡ good e j → Paid e.code ws i j

abbrev pub PaysCode : List ℕ → ReadCode → Type 0
PaysCode ws read = (i : ℕ) (c : List ℕ) (j : ℕ) → read i ≡ good c j → Paid c ws i j

abbrev pub PaysInside : List ℕ → Inside Readers → Type 0
PaysInside ws no_level = Unit {0}
PaysInside ws (level r) = PaysPiece ws r.in_expression × PaysCode ws r.in_statement

pub pays : (ws : List ℕ) (i : ℕ) (g : Got (List ℕ)) → Pays ws i g → (c : List ℕ) (j : ℕ) → g ≡ good c j → Paid c ws i j
pays ws i g p c j q = subst (Pays ws i) q p

pub over : {A B : Type 0} (P : Got B → Type 0) (g : Got A) (f : A → ℕ → Got B) → ((k p : ℕ) → P (wrong k p)) → ((a : A) (j : ℕ) → g ≡ good a j → P (f a j)) → P (after g f)
unfolding after
over P (good a j) f w h = h a j refl
over P (wrong k p) f w h = w k p

pub on : {A : Type 0} (ws : List ℕ) (i : ℕ) (g : Got A) (f : A → ℕ → Got (List ℕ)) → ((a : A) (j : ℕ) → g ≡ good a j → Pays ws i (f a j)) → Pays ws i (after g f)
on ws i g f h = over (Pays ws i) g f (λ k p. tt) h

expect_pays : (ws : List ℕ) (i j k : ℕ) (c : List ℕ) → 0 < length c → i ≤ j → i + length c ≤ j + 1 → Pays ws i (expect (suc k) ws j c)
unfolding expect
expect_pays ws i j k c s h p =
    chosen (Pays ws i) (is (suc k) ws j) _ _
    (λ q. let w = kind_inside ws j k q in record { some = s; ahead = omega arith; paid = p; within = omega arith })
    (λ _. tt)

pub without_size : (c : List ℕ) → length (without_last c) ≡ length c - 1
unfolding without_last
without_size c = length-take-le (length c - 1) c (omega arith)

module _ (ws : List ℕ) (inner : ReadCode) (ok : PaysCode ws inner) where
  pub statements_from_pay : (rounds i : ℕ) → Pays ws i (statements_from rounds inner ws i)
  unfolding statements_from
  statements_from_pay zero i = tt
  statements_from_pay (suc rounds) i = on ws i (inner i) _ λ s j q.
      let p = ok i s j q in
      chosen (Pays ws i) (is close_brace ws j) _ _
      (λ b. let w = kind_inside ws j 124 b in record { some = p.some; ahead = omega (arith, p.ahead); paid = omega (arith, p.paid); within = omega arith })
      (λ _. on ws i (statements_from rounds inner ws j) _ λ ss m q₂.
      let p₂ = pays ws j _ (statements_from_pay rounds j) ss m q₂ in
      let l = length-append s ss in
      record { some = omega (arith, p.some); ahead = omega (arith, p.ahead, p₂.ahead); paid = omega (arith, p.paid, p₂.paid); within = p₂.within })

-- what was expected is what was there
pub expect_good : {A : Type 0} (k : ℕ) (ws : List ℕ) (j : ℕ) (a b : A) (m : ℕ) → expect k ws j a ≡ good b m → (a ≡ b) × (m ≡ j + 1)
unfolding expect
expect_good k ws j a b m =
    chosen (λ g. g ≡ good b m → (a ≡ b) × (m ≡ j + 1)) (is k ws j) _ _ (λ _ q. (cc, cc))
    (λ _ q. let z : ◌≡◌ {A = ℕ} 0 1 = cc in absurd (omega arith))

pub skip_good : (k : ℕ) (ws : List ℕ) (j : ℕ) (u : Unit {0}) (m : ℕ) → skip k ws j ≡ good u m → m ≡ j + 1
skip_good k ws j u m q = (expect_good k ws j tt u m q).1

opened : (ws : List ℕ) (i p : ℕ) (inside : Inside Readers) (f : Readers → Got (List ℕ)) → PaysInside ws inside
    → ((r : Readers) → PaysPiece ws r.in_expression → PaysCode ws r.in_statement → Pays ws i (f r)) → Pays ws i (opening inside p f)
unfolding opening
opened ws i p no_level f ok h = tt
opened ws i p (level r) f ok h = h r ok.0 ok.1

-- if or while at token i
guarded_pays : (ws : List ℕ) (tag p : ℕ) (inside : Inside Readers) → PaysInside ws inside → (i : ℕ) → Pays ws i (guarded tag p inside ws (i + 1))
unfolding guarded
guarded_pays ws tag p inside deep i =
    chosen (Pays ws i) (is open_paren ws (i + 1)) _ _
    (λ _. opened ws i (i + 1) inside _ deep λ r pieces codes.
    on ws i (r.in_expression (i + 1 + 1)) _ λ e j q.
    on ws i (expect close_paren ws j e.code) _ λ c m q₂.
    on ws i (r.in_statement m) _ λ s z q₃.
    let w = pieces (i + 1 + 1) e j q in
    let v = codes m s z q₃ in
    let x = expect_good close_paren ws j e.code c m q₂ in
    let l : length e.code ≡ length c = rw x.0 in
    let a = length-append c s in
    record { some = omega arith; ahead = omega (arith, w.ahead, v.ahead); paid = omega (arith, w.paid, v.paid); within = v.within })
    (λ _. tt)

-- { .. } at token i
block_pays : (ws : List ℕ) (p : ℕ) (inside : Inside Readers) → PaysInside ws inside → (i : ℕ)
    → Pays ws i (opening inside i λ inner. after (statements inner.in_statement ws (i + 1)) λ ss j. good (headed 38 p 0 ss) j)
block_pays ws p inside deep i =
    opened ws i i inside _ deep λ r pieces codes.
    on ws i (statements r.in_statement ws (i + 1)) _ λ ss j q.
    let w = pays ws (i + 1) _ (statements_from_pay ws r.in_statement codes (suc (length ws - (i + 1))) (i + 1)) ss j q in
    record { some = omega arith; ahead = omega (arith, w.ahead); paid = omega (arith, w.paid); within = w.within }

module _ (ws : List ℕ) (read : ReadPiece) (ok : PaysPiece ws read) where
  -- an expression with the word before it, and a semicolon
  headed_pays : (i j tag p x : ℕ) (b : List ℕ) → i + length b ≤ j → Pays ws i (after (read j) λ e m. expect semicolon ws m (headed tag p x (b ++ e.code)))
  headed_pays i j tag p x b h = on ws i (read j) _ λ e m q.
      let w = ok j e m q in
      let l = length-append b e.code in
      expect_pays ws i m 58 _ (omega arith) (omega (arith, w.ahead)) (omega (arith, w.paid))

  -- an expression, and a token of a kind
  bare_pays : (i j k : ℕ) → i ≤ j → Pays ws i (after (read j) λ e m. expect (suc k) ws m e.code)
  bare_pays i j k h = on ws i (read j) _ λ e m q.
      let w = ok j e m q in
      expect_pays ws i m k _ w.some (omega (arith, w.ahead)) (omega (arith, w.paid))

  assignment_pays : (i j : ℕ) (t : Target) (c : List ℕ) → Paid c ws i j → Pays ws i (assignment read ws i t c j)
  unfolding assignment
  assignment_pays i j Name c w = headed_pays i (j + 1) 33 _ _ [] (omega (arith, w.ahead))
  assignment_pays i j Entry c w = headed_pays i (j + 1) 34 _ 0 (without_last c) (omega (arith, w.paid, without_size c))
  assignment_pays i j Neither c w = tt

  simple_pays : (i : ℕ) → Pays ws i (simple read ws i)
  unfolding simple
  simple_pays i = on ws i (read i) _ λ a j q.
      let w = ok i a j q in
      chosen (Pays ws i) (is becomes ws j) _ _ (λ _. assignment_pays i j a.target a.code w)
      (λ _. expect_pays ws i j 58 _ (omega arith) (omega (arith, w.ahead)) (omega (arith, w.paid)))

  -- x in e do
  members_pay : (i : ℕ) → Pays ws i (members read ws i)
  unfolding members
  members_pay i =
      on ws i (expect a_name ws i (home_at ws i)) _ λ x i₂ q₂.
      on ws i (skip word_in ws i₂) _ λ u i₃ q₃.
      on ws i (read i₃) _ λ e j q.
      let w = ok i₃ e j q in
      let e₂ = expect_good a_name ws i (home_at ws i) x i₂ q₂ in
      let e₃ = skip_good word_in ws i₂ u i₃ q₃ in
      expect_pays ws i j 13 _ (omega arith) (omega (arith, e₂.1, w.ahead)) (omega (arith, e₂.1, w.paid))

  each_pays : (inside : Inside Readers) → PaysInside ws inside → (i : ℕ) → Pays ws i (each read inside ws i)
  unfolding each
  each_pays inside deep i =
      on ws i (members read ws i) _ λ c j q.
      chosen (Pays ws i) (begins_statement ws j) _ _ (λ _. opened ws i j inside _ deep λ _ _ _. pays ws i _ (members_pay i) c j q) (λ _. tt)

  -- foreach at token i
  iteration_pays : (inside : Inside Readers) → PaysInside ws inside → (i : ℕ) → Pays ws i (iteration read inside ws i)
  unfolding iteration
  iteration_pays inside deep i =
      on ws i (expect a_name ws (i + 1) (home_at ws (i + 1))) _ λ x i₂ q₂.
      on ws i (skip word_in ws i₂) _ λ u i₃ q₃.
      on ws i (read i₃) _ λ e j q.
      on ws i (skip word_do ws j) _ λ v m q₄.
      chosen (Pays ws i) (begins_statement ws m) _ _
      (λ _. opened ws i m inside _ deep λ r pieces codes.
      on ws i (r.in_statement m) _ λ s z q₅.
      let w = ok i₃ e j q in
      let y = codes m s z q₅ in
      let e₂ = expect_good a_name ws (i + 1) (home_at ws (i + 1)) x i₂ q₂ in
      let e₃ = skip_good word_in ws i₂ u i₃ q₃ in
      let e₄ = skip_good word_do ws j v m q₄ in
      let a = length-append e.code s in
      record { some = omega arith; ahead = omega (arith, e₂.1, w.ahead, y.ahead); paid = omega (arith, e₂.1, w.paid, y.paid); within = y.within })
      (λ _. tt)

  statement_in_pays : (inside : Inside Readers) → PaysInside ws inside → (i : ℕ) → Pays ws i (statement_in read inside ws i)
  unfolding statement_in declaration returning
  statement_in_pays inside deep i =
      chosen (Pays ws i) (is word_var ws i) _ _
      (λ _. chosen (Pays ws i) (is a_name ws (i + 1)) _ _ (λ _. expect_pays ws i (i + 2) 58 _ (omega arith) (omega arith) (omega arith)) (λ _. tt)) λ _.
      chosen (Pays ws i) (is word_if ws i) _ _ (λ _. guarded_pays ws 35 _ inside deep i) λ _.
      chosen (Pays ws i) (is word_while ws i) _ _ (λ _. guarded_pays ws 36 _ inside deep i) λ _.
      chosen (Pays ws i) (is word_foreach ws i) _ _ (λ _. iteration_pays inside deep i) λ _.
      chosen (Pays ws i) (is word_return ws i) _ _ (λ _. headed_pays i (i + 1) 37 _ 0 [] (omega arith)) λ _.
      chosen (Pays ws i) (is open_brace ws i) _ _ (λ _. block_pays ws _ inside deep i) λ _. simple_pays i

-- ---- levels
-- a statement is read with the inside of its level
pub statement_levels : (left : ℕ) (ws : List ℕ) (i : ℕ) → statement left ws i ≡ statement_in (expression left ws) (inside_of left ws) ws i
unfolding statement inside_of
statement_levels zero ws i = refl
statement_levels (suc left) ws i = refl

pub inside_pays : (left : ℕ) (ws : List ℕ) → PaysInside ws (inside_of left ws)
unfolding inside_of
inside_pays zero ws = tt
inside_pays (suc left) ws = (
  expression_paid left ws,
  λ i c j q. pays ws i _ (statement_in_pays ws (expression left ws) (expression_paid left ws) (inside_of left ws) (inside_pays left ws) i) c j (sym (statement_levels left ws i) ∙ q),
)

-- ---- each word is paid
module _ (left : ℕ) (ws : List ℕ) (i : ℕ) (c : List ℕ) (j : ℕ) where
  pub statement_paid : statement left ws i ≡ good c j → Paid c ws i j
  unfolding inside_of
  statement_paid q = (inside_pays (suc left) ws).1 i c j q

  pub statements_paid : statements (statement left ws) ws i ≡ good c j → Paid c ws i j
  unfolding inside_of
  statements_paid q = pays ws i _ (statements_from_pay ws (statement left ws) (inside_pays (suc left) ws).1 (suc (length ws - i)) i) c j q

  pub ended_paid : ended (expression left ws) ws i ≡ good c j → Paid c ws i j
  unfolding ended
  ended_paid q = pays ws i _ (bare_pays ws (expression left ws) (expression_paid left ws) i i 58 (omega arith)) c j q

  pub each_paid : each (expression left ws) (inside_of left ws) ws i ≡ good c j → Paid c ws i j
  each_paid q = pays ws i _ (each_pays ws (expression left ws) (expression_paid left ws) (inside_of left ws) (inside_pays left ws) i) c j q

pub test_paid : (left : ℕ) (ws : List ℕ) (i : ℕ) (c : List ℕ) (j : ℕ) → test (Expressions.inside_of left ws) ws i ≡ good c j → Paid c ws i j
unfolding test opening Expressions.inside_of
test_paid zero ws i c j q =
    pays ws i _ (chosen (Pays ws i) (is open_paren ws i) _ _ (λ _. tt) (λ _. tt)) c j q
test_paid (suc left) ws i c j q =
    pays ws i _ (chosen (Pays ws i) (is open_paren ws i) _ _ (λ _. bare_pays ws (expression left ws) (expression_paid left ws) i (i + 1) 40 (omega arith)) (λ _. tt)) c j q
