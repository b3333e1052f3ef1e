-- Laws of the grammar: whatever is read takes a token at least, so the rounds that arguments, statements, parameters and procedures are given are enough:
-- more of them change nothing, and what is read with none left is never the answer.
use Prim.Native.Nat.{ℕ, zero, suc, ◌+◌, ◌-◌, ◌<◌, ◌≤◌}
use mathlib.Core.Path.{◌≡◌, refl, ap, ◌∙◌}
use mathlib.Core.Bool.{Bool, true, false, ◌&&◌}
use mathlib.Core.List.{List, ◌∷◌}
use mathlib.Core.Option.{Option, none, some}
use native.Mathlib.Omega.{arith}
use lib.ListN.{length, get_or-eq_default}
use lib.Dec.{eqb, ltb}
use borrow.Author.Tests.{ltb-true, ltb-false, eqb-true, ne_eqb}
use Rattle.meaning.specs.Basics.{if◌then◌otherwise◌}
use Rattle.meaning.specs.Token.{Token, ending, comma, close_brace}
use Rattle.meaning.specs.Tree.{Operator, Expression, Arguments, argument, Statement, Statements, first, Procedure}
use Rattle.meaning.specs.Grammar.{Got, good, wrong, after, expect, is, after_last, kind_at, Inside, no_level, level, opening, ReadExpression, arguments_from, arguments, primary, operand}
use Rattle.meaning.specs.Grammar.{operated, expression_in, expression, ReadStatement, Readers, declaration, returning, Target, variable, element, no_target, assignment, simple}
use Rattle.meaning.specs.Grammar.{guarded, iteration, statements_from, statements, statement_in, statement, parameters_from, parameters, procedure, procedures_from}

-- ---- the relation
abbrev AheadGot : {A : Type 0} → ℕ → Got A → Type 0
AheadGot i (good a j) = i < j
AheadGot i (wrong n j) = Unit {0}

-- what is good ends behind token i
pub record Ahead {A : Type 0} (i : ℕ) (g : Got A) : Type 0 where
  pub ahead : AheadGot i g

-- a reader that takes a token at least, and what may be read inside a level
abbrev pub AheadAt : {A : Type 0} → (ℕ → Got A) → Type 0
AheadAt read = (i : ℕ) → Ahead i (read i)

abbrev Within : {A : Type 0} → (A → Type 0) → Inside A → Type 0
Within P no_level = Unit {0}
Within P (level a) = P a

abbrev AheadReaders : Readers → Type 0
AheadReaders r = AheadAt r.in_expression × AheadAt r.in_statement

fine : {A : Type 0} {a : A} {i j : ℕ} → i < j → Ahead i (good a j)
fine l = record { ahead = l }

bad : {A : Type 0} {i n j : ℕ} → Ahead {A = A} i (wrong n j)
bad = record { ahead = tt }

-- ---- it goes through what the grammar is made of
module _ {A B : Type 0} where
  after_ahead : {i j : ℕ} {g : Got A} {k : A → ℕ → Got B} → Ahead j g → ((a : A) (m : ℕ) → j < m → Ahead i (k a m)) → Ahead i (after g k)
  unfolding after
  after_ahead {g = good a m} h f = f a m h.ahead
  after_ahead {g = wrong n m} h f = bad

  opening_ahead : (P : A → Type 0) (inside : Inside A) (i p : ℕ) {k : A → Got B} → Within P inside → ((a : A) → P a → Ahead i (k a)) →
      Ahead i (opening inside p k)
  unfolding opening
  opening_ahead P no_level i p h f = bad
  opening_ahead P (level a) i p h f = f a h

if_ahead : {A : Type 0} (b : Bool) {i : ℕ} {x y : Got A} → Ahead i x → Ahead i y → Ahead i (if b then (λ _. x) otherwise λ _. y)
unfolding if◌then◌otherwise◌
if_ahead true h f = h
if_ahead false h f = f

expect_ahead : {A : Type 0} (k : ℕ) (ts : List Token) (i j : ℕ) (a : A) → i ≤ j → Ahead i (expect k ts j a)
unfolding expect
expect_ahead k ts i j a l = if_ahead _ (fine (omega arith)) bad

-- ---- every reader of the grammar takes a token at least
module _ (ts : List Token) where
  arguments_from_ahead : (rounds : ℕ) (inner : ReadExpression) → AheadAt inner → AheadAt (arguments_from rounds inner ts)
  unfolding arguments_from
  arguments_from_ahead zero inner h i = bad
  arguments_from_ahead (suc rounds) inner h i =
      after_ahead (h i) λ e j l. if_ahead _ (after_ahead (arguments_from_ahead rounds inner h (j + 1)) λ es m k. fine (omega arith))
      (expect_ahead _ ts i j _ (omega arith))

  arguments_ahead : (inner : ReadExpression) → AheadAt inner → AheadAt (arguments inner ts)
  unfolding arguments
  arguments_ahead inner h i = if_ahead _ (fine (omega arith)) (arguments_from_ahead _ inner h i)

  module _ (inside : Inside ReadExpression) (h : Within AheadAt inside) where
    primary_ahead : AheadAt (primary inside ts)
    unfolding primary
    primary_ahead i =
        if_ahead _ (fine (omega arith)) (if_ahead _ (if_ahead _ (fine (omega arith)) bad) (if_ahead _ (fine (omega arith)) (if_ahead _ (fine (omega arith))
        (if_ahead _ (fine (omega arith)) (if_ahead _ (fine (omega arith))
        (if_ahead _ (if_ahead _ (opening_ahead AheadAt inside i _ h λ inner w. after_ahead (arguments_ahead inner w (i + 2)) λ es j l. fine (omega arith))
        (fine (omega arith)))
        (if_ahead _ (opening_ahead AheadAt inside i _ h λ inner w. after_ahead (w (i + 1)) λ e j l. expect_ahead _ ts i j _ (omega arith))
        (if_ahead _ (opening_ahead AheadAt inside i _ h λ inner w. after_ahead (w (i + 1)) λ e j l. expect_ahead _ ts i j _ (omega arith)) bad))))))))

    operand_ahead : AheadAt (operand inside ts)
    unfolding operand
    operand_ahead i =
        after_ahead (primary_ahead i) λ a j l. if_ahead _ (after_ahead (primary_ahead (j + 1)) λ b m k. fine (omega arith)) (fine l)

    operated_ahead : (o : Option Operator) (a : Expression) (i j : ℕ) → i < j → Ahead i (operated o inside ts a j)
    unfolding operated
    operated_ahead none a i j l = fine l
    operated_ahead (some o) a i j l = after_ahead (operand_ahead (j + 1)) λ b m k. fine (omega arith)

    expression_in_ahead : AheadAt (expression_in inside ts)
    unfolding expression_in
    expression_in_ahead i = after_ahead (operand_ahead i) λ a j l. operated_ahead _ a i j l

  pub expression_ahead : (left : ℕ) → AheadAt (expression left ts)
  unfolding expression
  expression_ahead zero i = expression_in_ahead no_level tt i
  expression_ahead (suc left) i = expression_in_ahead (level (expression left ts)) (expression_ahead left) i

  declaration_ahead : AheadAt (declaration ts)
  unfolding declaration
  declaration_ahead i = if_ahead _ (expect_ahead _ ts i (i + 2) _ (omega arith)) bad

  module _ (read : ReadExpression) (h : AheadAt read) where
    returning_ahead : AheadAt (returning read ts)
    unfolding returning
    returning_ahead i = after_ahead (h (i + 1)) λ e j l. expect_ahead _ ts i j _ (omega arith)

    assignment_ahead : (p i j : ℕ) (a : Target) → i < j → Ahead i (assignment read ts p j a)
    unfolding assignment
    assignment_ahead p i j (variable x) l = after_ahead (h (j + 1)) λ e m k. expect_ahead _ ts i m _ (omega arith)
    assignment_ahead p i j (element a b) l = after_ahead (h (j + 1)) λ e m k. expect_ahead _ ts i m _ (omega arith)
    assignment_ahead p i j no_target l = bad

    simple_ahead : AheadAt (simple read ts)
    unfolding simple
    simple_ahead i = after_ahead (h i) λ a j l. if_ahead _ (assignment_ahead _ i j _ l) (expect_ahead _ ts i j _ (omega arith))

  statements_from_ahead : (rounds : ℕ) (inner : ReadStatement) → AheadAt inner → AheadAt (statements_from rounds inner ts)
  unfolding statements_from
  statements_from_ahead zero inner h i = bad
  statements_from_ahead (suc rounds) inner h i =
      after_ahead (h i) λ s j l. if_ahead _ (fine (omega arith)) (after_ahead (statements_from_ahead rounds inner h j) λ ss m k. fine (omega arith))

  module _ (inside : Inside Readers) (h : Within AheadReaders inside) where
    -- behind if or while, which is token i
    guarded_ahead : (make : Expression → Statement → Statement) (i : ℕ) → Ahead i (guarded make inside ts (i + 1))
    unfolding guarded
    guarded_ahead make i =
        if_ahead _ (opening_ahead AheadReaders inside i _ h λ inner w.
        after_ahead (w.0 (i + 1 + 1)) λ e j l. after_ahead (expect_ahead _ ts j j _ (omega arith)) λ _ m k. after_ahead (w.1 m) λ s n q. fine (omega arith)) bad

    iteration_ahead : (read : ReadExpression) → AheadAt read → AheadAt (iteration read inside ts)
    unfolding iteration
    iteration_ahead read k i =
        after_ahead (expect_ahead _ ts i (i + 1) _ (omega arith)) λ x i₂ l₂. after_ahead (expect_ahead _ ts i i₂ _ (omega arith)) λ _ i₃ l₃.
        after_ahead (k i₃) λ e j l. after_ahead (expect_ahead _ ts i j _ (omega arith)) λ _ m q.
        if_ahead _ (opening_ahead AheadReaders inside i m h λ inner w. after_ahead (w.1 m) λ s n r. fine (omega arith)) bad

    statement_in_ahead : (read : ReadExpression) → AheadAt read → AheadAt (statement_in read inside ts)
    unfolding statement_in
    statement_in_ahead read k i =
        if_ahead _ (declaration_ahead i) (if_ahead _ (guarded_ahead _ i) (if_ahead _ (guarded_ahead _ i) (if_ahead _ (iteration_ahead read k i) (if_ahead _ (returning_ahead read k i)
        (if_ahead _ (opening_ahead AheadReaders inside i _ h λ inner w.
        after_ahead (statements_from_ahead _ inner.in_statement w.1 (i + 1)) λ ss j l. fine (omega arith))
        (simple_ahead read k i))))))

  pub statement_ahead : (left : ℕ) → AheadAt (statement left ts)
  unfolding statement
  statement_ahead zero i = statement_in_ahead no_level tt _ (expression_ahead zero) i
  statement_ahead (suc left) i = statement_in_ahead (level _) (expression_ahead left, statement_ahead left) _ (expression_ahead (suc left)) i

  parameters_from_ahead : (rounds : ℕ) → AheadAt (parameters_from rounds ts)
  unfolding parameters_from
  parameters_from_ahead zero i = bad
  parameters_from_ahead (suc rounds) i =
      after_ahead (expect_ahead _ ts i i _ (omega arith)) λ x j l.
      if_ahead _ (after_ahead (parameters_from_ahead rounds (j + 1)) λ xs m k. fine (omega arith)) (expect_ahead _ ts i j _ (omega arith))

  parameters_ahead : AheadAt (parameters ts)
  unfolding parameters
  parameters_ahead i = if_ahead _ (fine (omega arith)) (parameters_from_ahead _ i)

  pub procedure_ahead : AheadAt (procedure ts)
  unfolding procedure
  procedure_ahead i =
      after_ahead (expect_ahead _ ts i i _ (omega arith)) λ _ i₁ l₁. after_ahead (expect_ahead _ ts i₁ i₁ _ (omega arith)) λ f i₂ l₂.
      after_ahead (expect_ahead _ ts i₂ i₂ _ (omega arith)) λ _ i₃ l₃. after_ahead (parameters_ahead i₃) λ xs i₄ l₄.
      after_ahead (expect_ahead _ ts i₄ i₄ _ (omega arith)) λ _ i₅ l₅.
      after_ahead (statements_from_ahead _ (statement 64 ts) (statement_ahead 64) i₅) λ ss i₆ l₆. fine (omega arith)

-- ---- rounds
module _ {A B : Type 0} where
  after_same : (i : ℕ) (g : Got A) (k k' : A → ℕ → Got B) → Ahead i g → ((a : A) (j : ℕ) → i < j → k a j ≡ k' a j) → after g k ≡ after g k'
  unfolding after
  after_same i (good a j) k k' h f = f a j h.ahead
  after_same i (wrong n j) k k' h f = refl

if_same : {A : Type 0} (b : Bool) (x y z : Unit {0} → A) → (b ≡ true → x tt ≡ y tt) → (if b then x otherwise z) ≡ (if b then y otherwise z)
unfolding if◌then◌otherwise◌
if_same true x y z h = h refl
if_same false x y z h = refl

else_same : {A : Type 0} (b : Bool) (x y z : Unit {0} → A) → (b ≡ false → y tt ≡ z tt) → (if b then x otherwise y) ≡ (if b then x otherwise z)
unfolding if◌then◌otherwise◌
else_same true x y z h = refl
else_same false x y z h = h refl

if_no : {A : Type 0} (b : Bool) (x y : Unit {0} → A) {z : A} → b ≡ false → y tt ≡ z → (if b then x otherwise y) ≡ z
unfolding if◌then◌otherwise◌
if_no b x y e h = rw e h

module _ (ts : List Token) where
  -- a token that is of some kind other than the ending's is one of the tokens
  kind_inside : (k j : ℕ) → is (suc k) ts j ≡ true → j < length ts
  kind_inside k j e = by (ltb j (length ts)) refl
    where
      by : (t : Bool) → ltb j (length ts) ≡ t → j < length ts
      by true l = ltb-true j (length ts) l
      by false l =
          let q : kind_at ts j ≡ 0 = ap (λ (t : Token). t.kind) (get_or-eq_default ts after_last (ltb-false j (length ts) l)) in
          absurd (omega (arith, q, eqb-true (kind_at ts j) (suc k) e))

  arguments_same : (inner : ReadExpression) → AheadAt inner → (r r' i : ℕ) → length ts - i < r → length ts - i < r' →
      arguments_from r inner ts i ≡ arguments_from r' inner ts i
  unfolding arguments_from
  arguments_same inner h zero r' i l l' = absurd (omega arith)
  arguments_same inner h (suc r) zero i l l' = absurd (omega arith)
  arguments_same inner h (suc r) (suc r') i l l' =
      after_same i (inner i) _ _ (h i) λ e j q. if_same (is comma ts j) _ _ _ λ c.
      ap (λ (g : Got Arguments). after g λ es m. good (argument e es) m) (let w = kind_inside 43 j c in arguments_same inner h r r' (j + 1) (omega arith) (omega arith))

  -- behind the last token nothing can be read
  is_past : (k i : ℕ) → length ts ≤ i → is (suc k) ts i ≡ false
  is_past k i l = ap (λ (t : Token). eqb t.kind (suc k)) (get_or-eq_default ts after_last l) ∙ ne_eqb 0 (suc k) (λ e. omega arith)

  both_past : (k i : ℕ) (b : Bool) → length ts ≤ i → is (suc k) ts i && b ≡ false
  both_past k i b l = ap (λ (c : Bool). c && b) (is_past k i l)

  primary_past : (inside : Inside ReadExpression) (i : ℕ) → length ts ≤ i → primary inside ts i ≡ wrong 10 i
  unfolding primary
  primary_past inside i l =
      if_no _ _ _ (both_past 1 i _ l) (if_no _ _ _ (both_past 44 i _ l) (if_no _ _ _ (is_past 2 i l) (if_no _ _ _ (is_past 8 i l)
      (if_no _ _ _ (is_past 9 i l) (if_no _ _ _ (is_past 10 i l) (if_no _ _ _ (is_past 0 i l) (if_no _ _ _ (is_past 39 i l) (if_no _ _ _ (is_past 90 i l) refl))))))))

  expression_past : (left i : ℕ) → length ts ≤ i → expression left ts i ≡ wrong 10 i
  unfolding expression expression_in operand after
  expression_past zero i l = rw (primary_past no_level i l)
  expression_past (suc left) i l = rw (primary_past (level (expression left ts)) i l)

  simple_past : (left i : ℕ) → length ts ≤ i → simple (expression left ts) ts i ≡ wrong 10 i
  unfolding simple after
  simple_past left i l = rw (expression_past left i l)

  statement_in_past : (left : ℕ) (inside : Inside Readers) (i : ℕ) → length ts ≤ i → statement_in (expression left ts) inside ts i ≡ wrong 10 i
  unfolding statement_in
  statement_in_past left inside i l =
      if_no _ _ _ (is_past 4 i l) (if_no _ _ _ (is_past 5 i l) (if_no _ _ _ (is_past 6 i l) (if_no _ _ _ (is_past 11 i l) (if_no _ _ _ (is_past 7 i l)
      (if_no _ _ _ (is_past 122 i l) (simple_past left i l))))))

  statement_past : (left i : ℕ) → length ts ≤ i → statement left ts i ≡ wrong 10 i
  unfolding statement
  statement_past zero i l = statement_in_past zero no_level i l
  statement_past (suc left) i l = statement_in_past (suc left) _ i l

  statements_same : (left r r' i : ℕ) → length ts - i < r → length ts - i < r' →
      statements_from r (statement left ts) ts i ≡ statements_from r' (statement left ts) ts i
  unfolding statements_from after
  statements_same left zero r' i l l' = absurd (omega arith)
  statements_same left (suc r) zero i l l' = absurd (omega arith)
  statements_same left (suc r) (suc r') i l l' = by (ltb i (length ts)) refl (λ j w q. statements_same left r r' j (omega arith) (omega arith))
    where
      by : (t : Bool) → ltb i (length ts) ≡ t →
          ((j : ℕ) → i < length ts → i < j → statements_from r (statement left ts) ts j ≡ statements_from r' (statement left ts) ts j) →
          statements_from (suc r) (statement left ts) ts i ≡ statements_from (suc r') (statement left ts) ts i
      by true w f =
          after_same i (statement left ts i) _ _ (statement_ahead ts left i) λ s j q. else_same (is close_brace ts j) _ _ _ λ c.
          ap (λ (g : Got Statements). after g λ ss m. good (first s ss) m) (f j (ltb-true i (length ts) w) q)
      by false w f = rw (statement_past left i (ltb-false i (length ts) w))

  parameters_same : (r r' i : ℕ) → length ts - i < r → length ts - i < r' → parameters_from r ts i ≡ parameters_from r' ts i
  unfolding parameters_from
  parameters_same zero r' i l l' = absurd (omega arith)
  parameters_same (suc r) zero i l l' = absurd (omega arith)
  parameters_same (suc r) (suc r') i l l' =
      after_same i (expect _ ts i _) _ _ (expect_ahead _ ts i i _ (omega arith)) λ x j q. if_same (is comma ts j) _ _ _ λ c.
      ap (λ (g : Got (List (List ℕ))). after g λ xs m. good (x ∷ xs) m) (let w = kind_inside 43 j c in parameters_same r r' (j + 1) (omega arith) (omega arith))

  procedure_past : (i : ℕ) → length ts ≤ i → procedure ts i ≡ wrong 10 i
  unfolding procedure expect after if◌then◌otherwise◌
  procedure_past i l = rw (is_past 3 i l)

  procedures_same : (r r' i : ℕ) → length ts - i < r → length ts - i < r' → procedures_from r ts i ≡ procedures_from r' ts i
  unfolding procedures_from after
  procedures_same zero r' i l l' = absurd (omega arith)
  procedures_same (suc r) zero i l l' = absurd (omega arith)
  procedures_same (suc r) (suc r') i l l' = by (ltb i (length ts)) refl (λ j w q. procedures_same r r' j (omega arith) (omega arith))
    where
      by : (t : Bool) → ltb i (length ts) ≡ t → ((j : ℕ) → i < length ts → i < j → procedures_from r ts j ≡ procedures_from r' ts j) →
          procedures_from (suc r) ts i ≡ procedures_from (suc r') ts i
      by true w f =
          after_same i (procedure ts i) _ _ (procedure_ahead ts i) λ p j q. else_same (is ending ts j) _ _ _ λ c.
          ap (λ (g : Got (List Procedure)). after g λ ps m. good (p ∷ ps) m) (f j (ltb-true i (length ts) w) q)
      by false w f = rw (procedure_past i (ltb-false i (length ts) w))

  -- THE LAWS
  pub arguments_rounds : (left i r : ℕ) → length ts - i < r →
      arguments_from r (expression left ts) ts i ≡ arguments_from (suc (length ts - i)) (expression left ts) ts i
  arguments_rounds left i r l = arguments_same (expression left ts) (expression_ahead ts left) r (suc (length ts - i)) i l (omega arith)

  pub statements_rounds : (left i r : ℕ) → length ts - i < r → statements_from r (statement left ts) ts i ≡ statements (statement left ts) ts i
  statements_rounds left i r l = statements_same left r (suc (length ts - i)) i l (omega arith)

  pub parameters_rounds : (i r : ℕ) → length ts - i < r → parameters_from r ts i ≡ parameters_from (suc (length ts - i)) ts i
  parameters_rounds i r l = parameters_same r (suc (length ts - i)) i l (omega arith)

  pub procedures_rounds_lem : (i r : ℕ) → length ts - i < r → procedures_from r ts i ≡ procedures_from (suc (length ts - i)) ts i
  procedures_rounds_lem i r l = procedures_same r (suc (length ts - i)) i l (omega arith)
