-- What holds of the trees that are read: their code has no more words than there were tokens, and they are known. And where a name was read as an
-- expression, its token is the first.
use Prim.Native.Nat.{ℕ, zero, suc, ◌+◌, ◌-◌, ◌*◌, ◌≤◌, ◌<◌}
use native.Mathlib.Omega.{arith}
use mathlib.Core.Path.{◌≡◌, refl}
use mathlib.Core.Logic.{◌≢◌}
use mathlib.Core.Bool.{true}
use mathlib.Core.List.{List, [], ◌∷◌}
use mathlib.Core.Option.{Option, none, some}
use lib.ListN.{length, length-append, length-map}
use lib.IntN.{pos, neg_ℤ}
use borrow.Author.Tests.{eqb-true, leb-true}
use Rattle.meaning.specs.Basics.{bytes}
use Rattle.meaning.specs.Token.{Token, ending, a_name, digits, a_string}
use Rattle.meaning.specs.Tree.{Operator, Expression, number, string, nothing, truth, name, table, entry, operation, call, paren, Arguments, Statement, when, while, Statements, Procedure, Program}
use Rattle.meaning.specs.Grammar.{good, kind_at, text_at, start_at, is, expect, numeral, positive_at, negative_at, operator_of, Inside, ReadExpression, arguments_from, arguments, primary, operand}
use Rattle.meaning.specs.Grammar.{operated, expression_in, expression, ReadStatement, Readers, declaration, returning, target_of, assignment, simple, guarded, iteration, statements_from, statements}
use Rattle.meaning.specs.Grammar.{statement_in, statement, parameters_from, parameters, procedure, procedures_from, procedure_named, with_main, procedures}
use Rattle.meaning.specs.Integer.{wrap}
use Rattle.code.specs.Code.{slot_of, code_of, code_of_all, code_of_statement, code_of_statements, code_of_procedure, code_of_procedures, arguments_with, code_with, statement_with, statements_with}
use Rattle.reader.specs.Declarations.{declared_in, declared_by, declarations}
use Rattle.reader.proofs.Homes.{both_true, Occurs, there}
use Rattle.reader.proofs.Fields.{plain_wrap, minus_wrap}
use Rattle.reader.proofs.Known.{Placed, Known, KnownAll, KnownStatement, KnownStatements, KnownNames}
use Rattle.reader.proofs.Yields.{Yields, yields, fails, yielded, Inner, closed, opened, yields_if, yields_after, yields_opening}

-- from token i up to token j at least n tokens were read
pub record Spans (ts : List Token) (i n j : ℕ) : Type 0 where
  pub short : i + n ≤ j
  pub within : j ≤ length ts

is_there : (ts : List Token) (i k : ℕ) → k ≢ ending → is k ts i ≡ true → i < length ts
is_there ts i k k≢ e = there ts i k k≢ (eqb-true _ _ e)

-- if a name was read, then token i is that name
abbrev pub Names : List Token → ℕ → Expression → Type 0
Names ts i (name x) = (kind_at ts i ≡ a_name) × (text_at ts i ≡ x)
Names ts i (entry a b) = Unit {0}
Names ts i (number z) = Unit {0}
Names ts i (string w) = Unit {0}
Names ts i nothing = Unit {0}
Names ts i (truth b) = Unit {0}
Names ts i (table e) = Unit {0}
Names ts i (operation o a b) = Unit {0}
Names ts i (call f es) = Unit {0}
Names ts i (paren e) = Unit {0}

-- what was read from token i up to token j: an expression, arguments, a statement, statements, the parameters' names
module _ (ts : List Token) (i : ℕ) where
  pub record Spelled (e : Expression) (j : ℕ) : Type 0 where
    pub spans : Spans ts i (length (code_of e ts)) j
    pub known : Known e ts
    pub names : Names ts i e

  pub record SpelledAll (es : Arguments) (j : ℕ) : Type 0 where
    pub spans : Spans ts i (length (code_of_all es ts)) j
    pub known : KnownAll es ts

  pub record Stated (s : Statement) (j : ℕ) : Type 0 where
    pub spans : Spans ts i (length (code_of_statement s ts) + 2 * length (declared_in s)) j
    pub known : KnownStatement s ts

  pub record StatedAll (ss : Statements) (j : ℕ) : Type 0 where
    pub spans : Spans ts i (length (code_of_statements ss ts) + 2 * declarations ss) j
    pub known : KnownStatements ss ts

  pub record Named (xs : List (List ℕ)) (j : ℕ) : Type 0 where
    pub spans : Spans ts i (2 * length xs) j
    pub known : KnownNames xs ts

abbrev pub Spelling : List Token → ReadExpression → Type 0
Spelling ts f = (i : ℕ) → Yields (Spelled ts i) (f i)

abbrev pub Stating : List Token → ReadStatement → Type 0
Stating ts f = (i : ℕ) → Yields (Stated ts i) (f i)

pub record Both (ts : List Token) (r : Readers) : Type 0 where
  pub expressions : Spelling ts r.in_expression
  pub statements : Stating ts r.in_statement

module _ (ts : List Token) where
  yields_expect : {A : Type 0} {P : A → ℕ → Type 0} (k j : ℕ) (a : A) → k ≢ ending → (kind_at ts j ≡ k → j < length ts → P a (j + 1))
      → Yields P (expect k ts j a)
  unfolding expect
  yields_expect k j a k≢ h = yields_if _ _ _ (λ e. yields (h (eqb-true _ _ e) (is_there ts j k k≢ e))) (λ _. fails)

  -- ---- expressions
  arguments_from_spelled : {f : ReadExpression} → Spelling ts f → (rounds i : ℕ) → Yields (SpelledAll ts i) (arguments_from rounds f ts i)
  unfolding arguments_from arguments_with KnownAll
  arguments_from_spelled s zero i = fails
  arguments_from_spelled s (suc rounds) i =
      yields_after _ (s i) λ e j p.
      let p' = p.spans in
      yields_if _ _ _
      (λ _. yields_after _ (arguments_from_spelled s rounds (j + 1)) λ es m q.
      let q' = q.spans in
      yields (record { spans = simp length-append (omega arith); known = (p.known, q.known) }))
      λ _. yields_expect _ j _ (omega arith) λ _ h. record { spans = simp length-append (omega arith); known = (p.known, tt) }

  arguments_spelled : {f : ReadExpression} → Spelling ts f → (i : ℕ) → Yields (SpelledAll ts i) (arguments f ts i)
  unfolding arguments arguments_with KnownAll
  arguments_spelled s i =
      yields_if _ _ _
      (λ e. yields (record { spans = omega (arith, is_there ts i _ (omega arith) e); known = tt }))
      λ _. arguments_from_spelled s (suc (length ts - i)) i

  -- one word for one token
  alone : (i k : ℕ) → k ≢ ending → is k ts i ≡ true → Spans ts i 1 (i + 1)
  alone i k k≢ e = omega (arith, is_there ts i k k≢ e)

  occurs : (i k : ℕ) → is k ts i ≡ true → Occurs ts k (text_at ts i)
  occurs i k e = record { index = i; kind = eqb-true _ _ e; text = refl }

  positive_known : (i : ℕ) → positive_at ts i ≡ true → wrap (pos (numeral (text_at ts i))) ≡ pos (numeral (text_at ts i))
  positive_known i e =
      let h = leb-true (numeral (text_at ts i)) 2147483647 (both_true (is digits ts i) _ e).1 in
      plain_wrap _ (omega arith)

  negative_known : (i : ℕ) → negative_at ts i ≡ true → wrap (neg_ℤ (pos (numeral (text_at ts i)))) ≡ neg_ℤ (pos (numeral (text_at ts i)))
  negative_known i e = minus_wrap _ (leb-true (numeral (text_at ts i)) 2147483648 (both_true (is digits ts i) _ e).1)

  primary_spelled : {x : Inside ReadExpression} → Inner (Spelling ts) x → (i : ℕ) → Yields (Spelled ts i) (primary x ts i)
  unfolding primary code_with Known
  primary_spelled l i =
      yields_if _ _ _
      (λ e. yields (record { spans = alone i digits (omega arith) (both_true _ _ e).0; known = positive_known i e; names = tt }))
      λ _. yields_if _ _ _
      (λ _. yields_if _ _ _
      (λ e. yields
      (record { spans = omega (arith, is_there ts (i + 1) digits (omega arith) (both_true _ _ e).0); known = negative_known (i + 1) e; names = tt }))
      λ _. fails)
      λ _. yields_if _ _ _ (λ e. yields (record { spans = alone i _ (omega arith) e; known = occurs i a_string e; names = tt }))
      λ _. yields_if _ _ _ (λ e. yields (record { spans = alone i _ (omega arith) e; known = tt; names = tt }))
      λ _. yields_if _ _ _ (λ e. yields (record { spans = alone i _ (omega arith) e; known = tt; names = tt }))
      λ _. yields_if _ _ _ (λ e. yields (record { spans = alone i _ (omega arith) e; known = tt; names = tt }))
      λ _. yields_if _ _ _
      (λ e. yields_if _ _ _
      (λ _. yields_opening _ _ l λ f s. yields_after _ (arguments_spelled s (i + 2)) λ es j p.
      let p' = p.spans in
      yields (record { spans = simp length-append (omega arith); known = (occurs i a_name e, p.known); names = tt }))
      λ _. yields (record { spans = alone i _ (omega arith) e; known = occurs i a_name e; names = (eqb-true _ _ e, refl) }))
      λ _. yields_if _ _ _
      (λ _. yields_opening _ _ l λ f s. yields_after _ (s (i + 1)) λ e j p. yields_expect _ j _ (omega arith) λ _ h.
      let p' = p.spans in
      record { spans = omega arith; known = p.known; names = tt })
      λ _. yields_if _ _ _
      (λ _. yields_opening _ _ l λ f s. yields_after _ (s (i + 1)) λ e j p. yields_expect _ j _ (omega arith) λ _ h.
      let p' = p.spans in
      record { spans = simp length-append (omega arith); known = p.known; names = tt })
      λ _. fails

  operand_spelled : {x : Inside ReadExpression} → Inner (Spelling ts) x → (i : ℕ) → Yields (Spelled ts i) (operand x ts i)
  unfolding operand code_with Known
  operand_spelled l i =
      yields_after _ (primary_spelled l i) λ a j p.
      yields_if _ _ _
      (λ _. yields_after _ (primary_spelled l (j + 1)) λ b m q.
      let p' = p.spans in
      let q' = q.spans in
      yields (record { spans = simp length-append (omega arith); known = (p.known, q.known); names = tt }))
      λ _. yields p

  operated_spelled : {x : Inside ReadExpression} → Inner (Spelling ts) x → (o : Option Operator) (i : ℕ) (a : Expression) (j : ℕ)
      → Spelled ts i a j
      → Yields (Spelled ts i) (operated o x ts a j)
  unfolding operated code_with Known
  operated_spelled l none i a j p = yields p
  operated_spelled l (some o) i a j p =
      yields_after _ (operand_spelled l (j + 1)) λ b m q.
      let p' = p.spans in
      let q' = q.spans in
      yields (record { spans = simp length-append (omega arith); known = (p.known, q.known); names = tt })

  expression_in_spelled : {x : Inside ReadExpression} → Inner (Spelling ts) x → (i : ℕ) → Yields (Spelled ts i) (expression_in x ts i)
  unfolding expression_in
  expression_in_spelled l i =
      yields_after _ (operand_spelled l i) λ a j p. operated_spelled l (operator_of (kind_at ts j)) i a j p

  pub expression_spelled : (left i : ℕ) → Yields (Spelled ts i) (expression left ts i)
  unfolding expression
  expression_spelled zero i = expression_in_spelled closed i
  expression_spelled (suc left) i = expression_in_spelled (opened (expression_spelled left)) i

  -- ---- statements
  placed : (i : ℕ) → Placed ts (start_at ts i)
  placed i = record { index = i; begins = refl }

  declaration_stated : (i : ℕ) → Yields (Stated ts i) (declaration ts i)
  unfolding declaration statement_with KnownStatement declared_in
  declaration_stated i =
      yields_if _ _ _
      (λ e. yields_expect _ (i + 2) _ (omega arith) λ _ h. record { spans = omega arith; known = (placed i, occurs (i + 1) a_name e) })
      λ _. fails

  returning_stated : {f : ReadExpression} → Spelling ts f → (i : ℕ) → Yields (Stated ts i) (returning f ts i)
  unfolding returning statement_with KnownStatement declared_in
  returning_stated s i =
      yields_after _ (s (i + 1)) λ e j p. yields_expect _ j _ (omega arith) λ _ h.
      let p' = p.spans in
      record { spans = omega arith; known = (placed i, p.known) }

  assignment_stated : {f : ReadExpression} → Spelling ts f → (i j : ℕ) (a : Expression) → Spelled ts i a j
      → Yields (Stated ts i) (assignment f ts (start_at ts i) j (target_of a))
  unfolding assignment target_of code_with statement_with Known KnownStatement declared_in
  assignment_stated s i j (name x) p =
      yields_after _ (s (j + 1)) λ e m q. yields_expect _ m _ (omega arith) λ _ h.
      let p' = p.spans in
      let q' = q.spans in
      record { spans = omega arith; known = (placed i, p.known, q.known) }
  assignment_stated s i j (entry a b) p =
      yields_after _ (s (j + 1)) λ e m q. yields_expect _ m _ (omega arith) λ _ h.
      let p' = simp length-append at p.spans.short in
      let q' = q.spans in
      record { spans = simp length-append (omega arith); known = (placed i, p.known.0, p.known.1, q.known) }
  assignment_stated s i j (number z) p = fails
  assignment_stated s i j (string w) p = fails
  assignment_stated s i j nothing p = fails
  assignment_stated s i j (truth b) p = fails
  assignment_stated s i j (table e) p = fails
  assignment_stated s i j (operation o a b) p = fails
  assignment_stated s i j (call f es) p = fails
  assignment_stated s i j (paren e) p = fails

  simple_stated : {f : ReadExpression} → Spelling ts f → (i : ℕ) → Yields (Stated ts i) (simple f ts i)
  unfolding simple statement_with KnownStatement declared_in
  simple_stated s i =
      yields_after _ (s i) λ a j p.
      yields_if _ _ _ (λ _. assignment_stated s i j a p)
      λ _. yields_expect _ j _ (omega arith) λ _ h.
      let p' = p.spans in
      record { spans = omega arith; known = (placed i, p.known) }

  -- `make` makes a statement of an expression and a statement
  guarded_stated : {x : Inside Readers} → Inner (Both ts) x → (make : Expression → Statement → Statement) (i : ℕ)
      → ((e : Expression) (s : Statement) → length (code_of_statement (make e s) ts) ≡ length (code_of e ts) + length (code_of_statement s ts) + 1)
      → ((e : Expression) (s : Statement) → declared_in (make e s) ≡ declared_in s)
      → ((e : Expression) (s : Statement) → Known e ts → KnownStatement s ts → KnownStatement (make e s) ts)
      → Yields (Stated ts i) (guarded make x ts (i + 1))
  unfolding guarded
  guarded_stated l make i size same makes =
      yields_if _ _ _
      (λ _. yields_opening _ _ l λ f b.
      yields_after _ (b.expressions (i + 1 + 1)) λ e j p.
      yields_after {Q = λ _ m. m ≡ j + 1} _ (yields_expect _ j _ (omega arith) λ _ _. refl) λ _ m next.
      yields_after _ (b.statements m) λ s n q.
      let p' = p.spans in
      let q' = q.spans in
      yields (record { spans = rw (size e s, same e s) (omega arith); known = makes e s p.known q.known }))
      λ _. fails

  iteration_stated : {f : ReadExpression} {x : Inside Readers} → Spelling ts f → Inner (Both ts) x → (i : ℕ) → Yields (Stated ts i) (iteration f x ts i)
  unfolding iteration statement_with KnownStatement declared_in
  iteration_stated s l i =
      yields_after {Q = λ x j. Occurs ts a_name x × (j ≡ i + 1 + 1)} _
      (yields_expect a_name (i + 1) _ (omega arith) λ e _. (record { index = i + 1; kind = e; text = refl }, refl)) λ x i₂ o.
      yields_after {Q = λ _ j. j ≡ i₂ + 1} _ (yields_expect _ i₂ _ (omega arith) λ _ _. refl) λ _ i₃ e₃.
      yields_after _ (s i₃) λ e j p.
      yields_after {Q = λ _ m. m ≡ j + 1} _ (yields_expect _ j _ (omega arith) λ _ _. refl) λ _ m next.
      yields_if _ _ _
      (λ _. yields_opening _ _ l λ f b.
      yields_after _ (b.statements m) λ t n q.
      let p' = p.spans in
      let q' = q.spans in
      yields (record { spans = simp length-append (omega (arith, o.1)); known = (placed i, o.0, p.known, q.known) }))
      λ _. fails

  statements_from_stated : {f : ReadStatement} → Stating ts f → (rounds i : ℕ) → Yields (StatedAll ts i) (statements_from rounds f ts i)
  unfolding statements_from statements_with KnownStatements declared_by
  statements_from_stated s zero i = fails
  statements_from_stated s (suc rounds) i =
      yields_after _ (s i) λ a j p.
      let p' = p.spans in
      yields_if _ _ _ (λ e. yields (record { spans = omega (arith, is_there ts j _ (omega arith) e); known = p.known }))
      λ _. yields_after _ (statements_from_stated s rounds j) λ ss m q.
      let q' = q.spans in
      yields (record { spans = simp length-append (omega arith); known = (p.known, q.known) })

  statements_stated : {f : ReadStatement} → Stating ts f → (i : ℕ) → Yields (StatedAll ts i) (statements f ts i)
  statements_stated s i = statements_from_stated s (suc (length ts - i)) i

  statement_in_stated : {f : ReadExpression} {x : Inside Readers} → Spelling ts f → Inner (Both ts) x
      → (i : ℕ) → Yields (Stated ts i) (statement_in f x ts i)
  unfolding statement_in statement_with KnownStatement declared_in
  statement_in_stated s l i =
      yields_if _ _ _ (λ _. declaration_stated i)
      λ _. yields_if _ _ _
      (λ _. guarded_stated l (when (start_at ts i)) i (λ e s. simp length-append (omega arith)) (λ e s. refl) λ e s p q. (placed i, p, q))
      λ _. yields_if _ _ _
      (λ _. guarded_stated l (while (start_at ts i)) i (λ e s. simp length-append (omega arith)) (λ e s. refl) λ e s p q. (placed i, p, q))
      λ _. yields_if _ _ _ (λ _. iteration_stated s l i)
      λ _. yields_if _ _ _ (λ _. returning_stated s i)
      λ _. yields_if _ _ _
      (λ _. yields_opening _ _ l λ f b. yields_after _ (statements_stated b.statements (i + 1)) λ ss j p.
      let p' = p.spans in
      yields (record { spans = omega arith; known = (placed i, p.known) }))
      λ _. simple_stated s i

  pub statement_stated : (left i : ℕ) → Yields (Stated ts i) (statement left ts i)
  unfolding statement
  statement_stated zero i = statement_in_stated (expression_spelled zero) closed i
  statement_stated (suc left) i =
      statement_in_stated (expression_spelled (suc left))
      (opened (record { expressions = expression_spelled left; statements = statement_stated left })) i

  -- ---- procedures
  parameters_from_named : (rounds i : ℕ) → Yields (Named ts i) (parameters_from rounds ts i)
  unfolding parameters_from KnownNames
  parameters_from_named zero i = fails
  parameters_from_named (suc rounds) i =
      yields_after {Q = λ x j. Occurs ts a_name x × (j ≡ i + 1)} _
      (yields_expect a_name i _ (omega arith) λ e _. (record { index = i; kind = e; text = refl }, refl)) λ x j o.
      yields_if _ _ _
      (λ _. yields_after _ (parameters_from_named rounds (j + 1)) λ xs m p.
      let p' = p.spans in
      yields (record { spans = omega (arith, o.1); known = (o.0, p.known) }))
      λ _. yields_expect _ j _ (omega arith) λ _ h. record { spans = omega (arith, o.1); known = (o.0, tt) }

  parameters_named : (i : ℕ) → Yields (Named ts i) (parameters ts i)
  unfolding parameters KnownNames
  parameters_named i =
      yields_if _ _ _ (λ e. yields (record { spans = omega (arith, is_there ts i _ (omega arith) e); known = tt })) (λ _. parameters_from_named (suc (length ts - i)) i)

  -- of a procedure that was read: its names are known, and each `var` and each `foreach` has two tokens more than words, each parameter two tokens, and two stand around them
  pub record Understood (f : Procedure) : Type 0 where
    pub name : Occurs ts a_name f.name
    pub parameters : KnownNames f.parameters ts
    pub body : KnownStatements f.body ts
    pub short : length (code_of_statements f.body ts) + 2 * declarations f.body + 2 * length f.parameters + 2 ≤ length ts

  -- from token i up to token j
  record Stretch (i : ℕ) (f : Procedure) (j : ℕ) : Type 0 where
    understood : Understood f
    spans : Spans ts i (length (code_of_procedure f ts) + 1) j

  procedure_understood : (i : ℕ) → Yields (Stretch i) (procedure ts i)
  unfolding procedure code_of_procedure
  procedure_understood i =
      yields_after {Q = λ _ j. j ≡ i + 1} _ (yields_expect _ i _ (omega arith) λ _ _. refl) λ _ i₁ e₁.
      yields_after {Q = λ x j. Occurs ts a_name x × (j ≡ i₁ + 1)} _
      (yields_expect a_name i₁ _ (omega arith) λ e _. (record { index = i₁; kind = e; text = refl }, refl)) λ x i₂ e₂.
      yields_after {Q = λ _ j. j ≡ i₂ + 1} _ (yields_expect _ i₂ _ (omega arith) λ _ _. refl) λ _ i₃ e₃.
      yields_after _ (parameters_named i₃) λ xs i₄ p.
      yields_after {Q = λ _ j. j ≡ i₄ + 1} _ (yields_expect _ i₄ _ (omega arith) λ _ _. refl) λ _ i₅ e₅.
      yields_after _ (statements_stated (statement_stated 64) i₅) λ ss i₆ q.
      let p' = p.spans in
      let q' = q.spans in
      let l = length-map xs (slot_of ts) in
      yields (record {
        understood = record { name = e₂.0; parameters = p.known; body = q.known; short = omega (arith, e₂.1) };
        spans = simp length-append (omega (arith, e₂.1));
      })

  -- of each of some procedures
  unfoldable pub UnderstoodAll : List Procedure → Type 0
  UnderstoodAll [] = Unit {0}
  UnderstoodAll (f ∷ fs) = Understood f × UnderstoodAll fs

  record StretchAll (i : ℕ) (fs : List Procedure) (j : ℕ) : Type 0 where
    understood : UnderstoodAll fs
    spans : Spans ts i (length (code_of_procedures fs ts) + 1) j

  procedures_from_understood : (rounds i : ℕ) → Yields (StretchAll i) (procedures_from rounds ts i)
  unfolding procedures_from UnderstoodAll code_of_procedures
  procedures_from_understood zero i = fails
  procedures_from_understood (suc rounds) i =
      yields_after _ (procedure_understood i) λ f j p.
      let p' = p.spans in
      yields_if _ _ _ (λ _. yields (record { understood = (p.understood, tt); spans = simp length-append (omega arith) }))
      λ _. yields_after _ (procedures_from_understood rounds j) λ fs m q.
      let q' = q.spans in
      yields (record { understood = (p.understood, q.understood); spans = simp length-append (omega arith) })

  pub procedures_known : (rounds i : ℕ) (fs : List Procedure) (j : ℕ) → procedures_from rounds ts i ≡ good fs j → UnderstoodAll fs
  procedures_known rounds i fs j e = (yielded (procedures_from_understood rounds i) e).understood

  -- of a program that was read
  pub record UnderstoodWhole (m : Program) : Type 0 where
    pub each : UnderstoodAll m.procedures
    pub short : length (code_of_procedures m.procedures ts) < length ts
    pub main : procedure_named (bytes "main") m.procedures ≡ some m.main

  with_main_lem : (fs : List Procedure) (j : ℕ) → StretchAll 0 fs j → (o : Option Procedure) → procedure_named (bytes "main") fs ≡ o
      → Yields (λ m _. UnderstoodWhole m) (with_main ts fs j o)
  unfolding with_main
  with_main_lem fs j p none e = fails
  with_main_lem fs j p (some m) e = let q = p.spans in yields (record { each = p.understood; short = omega arith; main = e })

  pub procedures_understood : (m : Program) (j : ℕ) → procedures ts ≡ good m j → UnderstoodWhole m
  unfolding procedures
  procedures_understood m j e =
      yielded (yields_after {P = λ m _. UnderstoodWhole m} _ (procedures_from_understood (suc (length ts)) 0) λ fs i p.
      with_main_lem fs i p (procedure_named (bytes "main") fs) refl) e
