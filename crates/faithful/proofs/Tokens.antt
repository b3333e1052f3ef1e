-- Where the procedures of a program begin: no token inside one is a `def`, and the token behind a `def` is the procedure's name.
use Prim.Native.Nat.{ℕ, zero, suc, ◌+◌, ◌-◌, ◌≤◌, ◌<◌}
use native.Mathlib.Omega.{arith}
use mathlib.Core.Path.{◌≡◌, refl, ap, sym, ◌∙◌, subst}
use mathlib.Core.Logic.{◌≢◌}
use mathlib.Core.Bool.{Bool, true, false}
use mathlib.Core.List.{List, [], ◌∷◌}
use mathlib.Core.Option.{Option, none, some}
use lib.ListN.{length}
use lib.Dec.{ltb}
use borrow.Author.Tests.{eqb-true, ltb-true, ltb-false}
use Rattle.meaning.specs.Basics.{bytes, if◌then◌otherwise◌}
use Rattle.meaning.specs.Token.{Token, ending, a_name, digits, word_def, minus}
use Rattle.meaning.specs.Tree.{Operator, Expression, Statement, Procedure, Program}
use Rattle.meaning.specs.Grammar.{good, kind_at, text_at, is, expect, operator_of, Inside, ReadExpression, arguments_from, arguments, primary, operand, operated, expression_in, expression}
use Rattle.meaning.specs.Grammar.{ReadStatement, Readers, declaration, returning, Target, variable, element, no_target, assignment}
use Rattle.meaning.specs.Grammar.{simple, guarded, iteration, statements_from, statements, statement_in, statement}
use Rattle.meaning.specs.Grammar.{parameters_from, parameters, procedure, procedures_from, procedure_named, with_main, procedures}
use Rattle.meaning.specs.Grammar
use Rattle.reader.proofs.Homes.{both_true}
use Rattle.reader.proofs.Yields.{Yields, yields, fails, yielded, Inner, closed, opened, yields_if, yields_after, yields_opening}

-- no token from i up to j is a `def`
pub record Free (ts : List Token) (i j : ℕ) : Type 0 where
  pub forward : i ≤ j
  pub free : (m : ℕ) → i ≤ m → m < j → kind_at ts m ≢ word_def

module _ (ts : List Token) where
  free_none : (i : ℕ) → Free ts i i
  free_none i = record { forward = omega arith; free = λ m l k. absurd (omega arith) }

  free_one : (i : ℕ) → kind_at ts i ≢ word_def → Free ts i (i + 1)
  free_one i n = record { forward = omega arith; free = λ m l k e. n (ap (kind_at ts) (same m l k) ∙ e) }
    where
      same : (m : ℕ) → i ≤ m → m < i + 1 → i ≡ m
      same m l k = omega arith

  free_both : {i j k : ℕ} → Free ts i j → Free ts j k → Free ts i k
  free_both {i} {j} {k} p q = record { forward = omega (arith, p.forward, q.forward); free = λ m l h. by m l h (ltb m j) refl }
    where
      by : (m : ℕ) → i ≤ m → m < k → (b : Bool) → ltb m j ≡ b → kind_at ts m ≢ word_def
      by m l h true e = p.free m l (ltb-true m j e)
      by m l h false e = q.free m (ltb-false m j e) h

  -- a token of another kind
  free_kind : (i k : ℕ) → k ≢ word_def → is k ts i ≡ true → Free ts i (i + 1)
  free_kind i k n e = free_one i (λ q. n (sym (eqb-true _ _ e) ∙ q))

  free_next : {i j : ℕ} (k : ℕ) → k ≢ word_def → Free ts i j → is k ts j ≡ true → Free ts i (j + 1)
  free_next {i} {j} k n f e = free_both f (free_kind j k n e)

  abbrev Frees : {A : Type 0} → (ℕ → Grammar.Got A) → Type 0
  Frees read = (i : ℕ) → Yields (λ _ j. Free ts i j) (read i)

  free_expect : {A : Type 0} {i : ℕ} (k j : ℕ) (a : A) → k ≢ word_def → Free ts i j → Yields (λ _ m. Free ts i m) (expect k ts j a)
  unfolding expect
  free_expect k j a n f = yields_if _ _ _ (λ e. yields (free_next k n f e)) (λ _. fails)

  -- two tokens
  free_two : (i k l : ℕ) → k ≢ word_def → l ≢ word_def → is k ts i ≡ true → is l ts (i + 1) ≡ true → Free ts i (i + 2)
  free_two i k l n n₂ e e₂ =
      let same : i + 1 + 1 ≡ i + 2 = omega arith in
      subst (Free ts i) same (free_next l n₂ (free_kind i k n e) e₂)

  -- ---- expressions
  arguments_from_free : {f : ReadExpression} → Frees f → (rounds : ℕ) → Frees (arguments_from rounds f ts)
  unfolding arguments_from
  arguments_from_free s zero i = fails
  arguments_from_free s (suc rounds) i =
      yields_after _ (s i) λ e j p.
      yields_if _ _ _
      (λ c. yields_after _ (arguments_from_free s rounds (j + 1)) λ es m q. yields (free_both (free_next _ (omega arith) p c) q))
      λ _. free_expect _ j _ (omega arith) p

  arguments_free : {f : ReadExpression} → Frees f → Frees (arguments f ts)
  unfolding arguments
  arguments_free s i = yields_if _ _ _ (λ e. yields (free_kind i _ (omega arith) e)) λ _. arguments_from_free s (suc (length ts - i)) i

  primary_free : {x : Inside ReadExpression} → Inner (λ f. Frees f) x → Frees (primary x ts)
  unfolding primary
  primary_free l i =
      yields_if _ _ _ (λ e. yields (free_kind i digits (omega arith) (both_true _ _ e).0))
      λ _. yields_if _ _ _
      (λ e. yields_if _ _ _ (λ d. yields (free_two i minus digits (omega arith) (omega arith) (both_true _ _ e).0 (both_true _ _ d).0)) λ _. fails)
      λ _. yields_if _ _ _ (λ e. yields (free_kind i _ (omega arith) e))
      λ _. yields_if _ _ _ (λ e. yields (free_kind i _ (omega arith) e))
      λ _. yields_if _ _ _ (λ e. yields (free_kind i _ (omega arith) e))
      λ _. yields_if _ _ _ (λ e. yields (free_kind i _ (omega arith) e))
      λ _. yields_if _ _ _
      (λ e. yields_if _ _ _
      (λ d. yields_opening _ _ l λ f s. yields_after _ (arguments_free s (i + 2)) λ es j p.
      yields (free_both (free_two i a_name _ (omega arith) (omega arith) e d) p))
      λ _. yields (free_kind i _ (omega arith) e))
      λ _. yields_if _ _ _
      (λ e. yields_opening _ _ l λ f s. yields_after _ (s (i + 1)) λ a j p. free_expect _ j _ (omega arith) (free_both (free_kind i _ (omega arith) e) p))
      λ _. yields_if _ _ _
      (λ e. yields_opening _ _ l λ f s. yields_after _ (s (i + 1)) λ a j p. free_expect _ j _ (omega arith) (free_both (free_kind i _ (omega arith) e) p))
      λ _. fails

  operand_free : {x : Inside ReadExpression} → Inner (λ f. Frees f) x → Frees (operand x ts)
  unfolding operand
  operand_free l i =
      yields_after _ (primary_free l i) λ a j p.
      yields_if _ _ _
      (λ e. yields_after _ (primary_free l (j + 1)) λ b m q. yields (free_both (free_next _ (omega arith) p e) q))
      λ _. yields p

  -- the sign of an operator is no `def`
  no_operator : (j : ℕ) (o : Operator) → operator_of (kind_at ts j) ≡ some o → kind_at ts j ≢ word_def
  unfolding operator_of if◌then◌otherwise◌
  no_operator j o e q =
      let n : none ≡ some o = subst (λ k. operator_of k ≡ some o) q e in
      let z : ◌≡◌ {A = ℕ} 0 1 = cc in omega arith

  operated_free : {x : Inside ReadExpression} → Inner (λ f. Frees f) x → (o : Option Operator) (a : Expression) (i j : ℕ) → operator_of (kind_at ts j) ≡ o → Free ts i j
      → Yields (λ _ m. Free ts i m) (operated o x ts a j)
  unfolding operated
  operated_free l none a i j e p = yields p
  operated_free l (some o) a i j e p =
      yields_after _ (operand_free l (j + 1)) λ b m q. yields (free_both (free_both p (free_one j (no_operator j o e))) q)

  expression_in_free : {x : Inside ReadExpression} → Inner (λ f. Frees f) x → Frees (expression_in x ts)
  unfolding expression_in
  expression_in_free l i = yields_after _ (operand_free l i) λ a j p. operated_free l (operator_of (kind_at ts j)) a i j refl p

  expression_free : (left : ℕ) → Frees (expression left ts)
  unfolding expression
  expression_free zero i = expression_in_free closed i
  expression_free (suc left) i = expression_in_free (opened (expression_free left)) i

  -- ---- statements
  -- what is read inside a level
  record Both (r : Readers) : Type 0 where
    expressions : Frees r.in_expression
    statements : Frees r.in_statement

  -- var, return, if and while are token i
  declaration_free : (i : ℕ) → Free ts i (i + 1) → Yields (λ _ j. Free ts i j) (declaration ts i)
  unfolding declaration
  declaration_free i p =
      let same : i + 1 + 1 ≡ i + 2 = omega arith in
      yields_if _ _ _ (λ e. free_expect _ (i + 2) _ (omega arith) (subst (Free ts i) same (free_next a_name (omega arith) p e))) λ _. fails

  returning_free : {f : ReadExpression} → Frees f → (i : ℕ) → Free ts i (i + 1) → Yields (λ _ j. Free ts i j) (returning f ts i)
  unfolding returning
  returning_free s i p = yields_after _ (s (i + 1)) λ e j q. free_expect _ j _ (omega arith) (free_both p q)

  assignment_free : {f : ReadExpression} → Frees f → (p i j : ℕ) (a : Target) → Free ts i (j + 1) → Yields (λ _ m. Free ts i m) (assignment f ts p j a)
  unfolding assignment
  assignment_free s p i j (variable x) h = yields_after _ (s (j + 1)) λ e m q. free_expect _ m _ (omega arith) (free_both h q)
  assignment_free s p i j (element a b) h = yields_after _ (s (j + 1)) λ e m q. free_expect _ m _ (omega arith) (free_both h q)
  assignment_free s p i j no_target h = fails

  simple_free : {f : ReadExpression} → Frees f → Frees (simple f ts)
  unfolding simple
  simple_free s i =
      yields_after _ (s i) λ a j p.
      yields_if _ _ _ (λ e. assignment_free s _ i j _ (free_next _ (omega arith) p e)) λ _. free_expect _ j _ (omega arith) p

  guarded_free : {x : Inside Readers} → Inner Both x → (make : Expression → Statement → Statement) (i : ℕ) → Free ts i (i + 1)
      → Yields (λ _ j. Free ts i j) (guarded make x ts (i + 1))
  unfolding guarded
  guarded_free l make i p =
      yields_if _ _ _
      (λ e. yields_opening _ _ l λ f b.
      yields_after _ (b.expressions (i + 1 + 1)) λ a j q.
      yields_after _ (free_expect _ j _ (omega arith) (free_both (free_next _ (omega arith) p e) q)) λ _ m h.
      yields_after _ (b.statements m) λ a n g. yields (free_both h g))
      λ _. fails

  iteration_free : {f : ReadExpression} {x : Inside Readers} → Frees f → Inner Both x → (i : ℕ) → Free ts i (i + 1) → Yields (λ _ j. Free ts i j) (iteration f x ts i)
  unfolding iteration
  iteration_free s l i p =
      yields_after _ (free_expect _ (i + 1) _ (omega arith) p) λ _ i₂ p₂.
      yields_after _ (free_expect _ i₂ _ (omega arith) p₂) λ _ i₃ p₃.
      yields_after _ (s i₃) λ e j q.
      yields_after _ (free_expect _ j _ (omega arith) (free_both p₃ q)) λ _ m h.
      yields_if _ _ _ (λ _. yields_opening _ _ l λ f b. yields_after _ (b.statements m) λ a n g. yields (free_both h g)) λ _. fails

  statements_from_free : {f : ReadStatement} → Frees f → (rounds : ℕ) → Frees (statements_from rounds f ts)
  unfolding statements_from
  statements_from_free s zero i = fails
  statements_from_free s (suc rounds) i =
      yields_after _ (s i) λ a j p.
      yields_if _ _ _ (λ e. yields (free_next _ (omega arith) p e))
      λ _. yields_after _ (statements_from_free s rounds j) λ ss m q. yields (free_both p q)

  statement_in_free : {f : ReadExpression} {x : Inside Readers} → Frees f → Inner Both x → Frees (statement_in f x ts)
  unfolding statement_in
  statement_in_free s l i =
      yields_if _ _ _ (λ e. declaration_free i (free_kind i _ (omega arith) e))
      λ _. yields_if _ _ _ (λ e. guarded_free l _ i (free_kind i _ (omega arith) e))
      λ _. yields_if _ _ _ (λ e. guarded_free l _ i (free_kind i _ (omega arith) e))
      λ _. yields_if _ _ _ (λ e. iteration_free s l i (free_kind i _ (omega arith) e))
      λ _. yields_if _ _ _ (λ e. returning_free s i (free_kind i _ (omega arith) e))
      λ _. yields_if _ _ _
      (λ e. yields_opening _ _ l λ f b. yields_after _ (statements_from_free b.statements (suc (length ts - (i + 1))) (i + 1)) λ ss j p.
      yields (free_both (free_kind i _ (omega arith) e) p))
      λ _. simple_free s i

  statement_free : (left : ℕ) → Frees (statement left ts)
  unfolding statement
  statement_free zero i = statement_in_free (expression_free zero) closed i
  statement_free (suc left) i =
      statement_in_free (expression_free (suc left)) (opened (record { expressions = expression_free left; statements = statement_free left })) i

  -- ---- procedures
  parameters_from_free : (rounds : ℕ) → Frees (parameters_from rounds ts)
  unfolding parameters_from
  parameters_from_free zero i = fails
  parameters_from_free (suc rounds) i =
      yields_after _ (free_expect _ i _ (omega arith) (free_none i)) λ x j p.
      yields_if _ _ _
      (λ c. yields_after _ (parameters_from_free rounds (j + 1)) λ xs m q. yields (free_both (free_next _ (omega arith) p c) q))
      λ _. free_expect _ j _ (omega arith) p

  parameters_free : Frees (parameters ts)
  unfolding parameters
  parameters_free i = yields_if _ _ _ (λ e. yields (free_kind i _ (omega arith) e)) λ _. parameters_from_free (suc (length ts - i)) i

  -- a procedure that was read from token i up to token j
  pub record Begins (i : ℕ) (f : Procedure) (j : ℕ) : Type 0 where
    pub def : kind_at ts i ≡ word_def
    pub named : kind_at ts (i + 1) ≡ a_name
    pub name : text_at ts (i + 1) ≡ f.name
    pub inside : Free ts (i + 1) j

  procedure_begins : (i : ℕ) → Yields (Begins i) (procedure ts i)
  unfolding procedure expect
  procedure_begins i =
      yields_after {Q = λ _ j. (kind_at ts i ≡ word_def) × (i + 1 ≡ j)} _ (yields_if _ _ _ (λ e. yields (eqb-true _ _ e, refl)) (λ _. fails)) λ _ i₁ d.
      yields_after {Q = λ x j. (kind_at ts i₁ ≡ a_name) × (text_at ts i₁ ≡ x) × Free ts i₁ j} _
      (yields_if _ _ _ (λ e. yields (eqb-true _ _ e, refl, free_kind i₁ a_name (omega arith) e)) (λ _. fails)) λ x i₂ n.
      yields_after _ (free_expect _ i₂ _ (omega arith) n.2) λ _ i₃ p₃.
      yields_after _ (parameters_free i₃) λ xs i₄ p₄.
      yields_after _ (free_expect _ i₄ _ (omega arith) (free_both p₃ p₄)) λ _ i₅ p₅.
      yields_after _ (statements_from_free (statement_free 64) (suc (length ts - i₅)) i₅) λ ss i₆ p₆.
      yields (record {
        def = d.0;
        named = rw d.1 n.0;
        name = rw d.1 n.1;
        inside = rw d.1 (free_both p₅ p₆);
      })

  -- procedures that were read from token i on, one behind the other, and nothing behind them
  pub data Parted : ℕ → List Procedure → Type 0 where
    last : {i j : ℕ} {f : Procedure} → Begins i f j → kind_at ts j ≡ ending → Parted i (f ∷ [])
    more : {i j : ℕ} {f : Procedure} {fs : List Procedure} → Begins i f j → Parted j fs → Parted i (f ∷ fs)

  procedures_part : (rounds i : ℕ) → Yields (λ fs _. Parted i fs) (procedures_from rounds ts i)
  unfolding procedures_from
  procedures_part zero i = fails
  procedures_part (suc rounds) i =
      yields_after _ (procedure_begins i) λ f j p.
      yields_if _ _ _ (λ e. yields (last p (eqb-true _ _ e))) λ _. yields_after _ (procedures_part rounds j) λ fs m q. yields (more p q)

  main_part : (fs : List Procedure) (j : ℕ) (o : Option Procedure) → Parted 0 fs → Yields (λ m _. Parted 0 m.procedures) (with_main ts fs j o)
  unfolding with_main
  main_part fs j none p = fails
  main_part fs j (some f) p = yields p

  -- THE PROCEDURES OF A PROGRAM
  pub parted : (m : Program) (j : ℕ) → procedures ts ≡ good m j → Parted 0 m.procedures
  unfolding procedures
  parted m j e =
      yielded (yields_after {P = λ m _. Parted 0 m.procedures} _ (procedures_part (suc (length ts)) 0) λ fs i p.
      main_part fs i (procedure_named (bytes "main") fs) p) e
