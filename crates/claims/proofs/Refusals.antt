-- Reading a program: which numbers it can end with.
use Prim.Native.Nat.{ℕ, zero, suc, ◌+◌}
use mathlib.Core.Path.{refl, subst}
use mathlib.Core.Bool.{Bool, true, false}
use mathlib.Core.List.{List}
use mathlib.Core.Option.{Option, none, some}
use Rattle.meaning.specs.Basics.{bytes, if◌then◌otherwise◌, stands_in}
use Rattle.meaning.specs.Token.{Token, Lexed, lexed, stray, tokens_of}
use Rattle.meaning.specs.Tree.{Operator, Expression, Statement, Procedure}
use Rattle.meaning.specs.Grammar.{Got, good, wrong, after, expect, Inside, no_level, level, opening, ReadExpression, arguments_from, arguments, primary, operand, operated, expression_in, expression}
use Rattle.meaning.specs.Grammar.{ReadStatement, Readers, declaration, returning, Target, variable, element, no_target, assignment, simple, guarded, iteration, statements_from, statement_in, statement}
use Rattle.meaning.specs.Grammar.{parameters_from, parameters, procedure, procedures_from, procedure_named, with_main, procedures, Reading, well_formed, malformed, read_of, parsed, reading}
use Rattle.claims.specs.Claims.{among, reading_errors, ReadingErrors}

-- ---- the relation
abbrev LowGot : {A : Type 0} → Got A → Type 0
LowGot (good a j) = Unit {0}
LowGot (wrong n j) = among reading_errors n

-- what is wrong has such a number
record Low {A : Type 0} (g : Got A) : Type 0 where
  low : LowGot g

fine : {A : Type 0} {a : A} {j : ℕ} → Low (good a j)
fine = record { low = tt }

-- the grammar's own number
wrong_10 : {A : Type 0} {j : ℕ} → Low {A = A} (wrong 10 j)
unfolding stands_in
wrong_10 = record { low = refl }

wrong_75 : {A : Type 0} {j : ℕ} → Low {A = A} (wrong 75 j)
unfolding stands_in
wrong_75 = record { low = refl }

-- a reader that yields only such, and what may be read inside a level
abbrev LowAt : {A : Type 0} → (ℕ → Got A) → Type 0
LowAt read = (i : ℕ) → Low (read i)

abbrev Within : {A : Type 0} → (A → Type 0) → Inside A → Type 0
Within P no_level = Unit {0}
Within P (level a) = P a

abbrev LowReaders : Readers → Type 0
LowReaders r = LowAt r.in_expression × LowAt r.in_statement

-- ---- it goes through what the grammar is made of
module _ {A B : Type 0} where
  after_low : {g : Got A} {k : A → ℕ → Got B} → Low g → ((a : A) (j : ℕ) → Low (k a j)) → Low (after g k)
  unfolding after
  after_low {g = good a j} h f = f a j
  after_low {g = wrong n j} h f = record { low = h.low }

  opening_low : (P : A → Type 0) (inside : Inside A) (p : ℕ) {k : A → Got B} → Within P inside → ((a : A) → P a → Low (k a)) →
      Low (opening inside p k)
  unfolding opening
  opening_low P no_level p h f = wrong_75
  opening_low P (level a) p h f = f a h

if_low : {A : Type 0} (b : Bool) {x y : Got A} → Low x → Low y → Low (if b then (λ _. x) otherwise λ _. y)
unfolding if◌then◌otherwise◌
if_low true h f = h
if_low false h f = f

expect_low : {A : Type 0} (k : ℕ) (ts : List Token) (j : ℕ) (a : A) → Low (expect k ts j a)
unfolding expect
expect_low k ts j a = if_low _ fine wrong_10

-- ---- expressions
module _ (ts : List Token) where
  arguments_from_low : (rounds : ℕ) (inner : ReadExpression) → LowAt inner → LowAt (arguments_from rounds inner ts)
  unfolding arguments_from
  arguments_from_low zero inner h i = wrong_10
  arguments_from_low (suc rounds) inner h i =
      after_low (h i) λ e j. if_low _ (after_low (arguments_from_low rounds inner h (j + 1)) λ es m. fine) (expect_low _ ts j _)

  arguments_low : (inner : ReadExpression) → LowAt inner → LowAt (arguments inner ts)
  unfolding arguments
  arguments_low inner h i = if_low _ fine (arguments_from_low _ inner h i)

  module _ (inside : Inside ReadExpression) (h : Within LowAt inside) where
    primary_low : LowAt (primary inside ts)
    unfolding primary
    primary_low i =
        if_low _ fine (if_low _ (if_low _ fine wrong_10) (if_low _ fine (if_low _ fine (if_low _ fine (if_low _ fine
        (if_low _ (if_low _ (opening_low LowAt inside _ h λ inner w. after_low (arguments_low inner w (i + 2)) λ es j. fine) fine)
        (if_low _ (opening_low LowAt inside _ h λ inner w. after_low (w (i + 1)) λ e j. expect_low _ ts j _)
        (if_low _ (opening_low LowAt inside _ h λ inner w. after_low (w (i + 1)) λ e j. expect_low _ ts j _) wrong_10))))))))

    operand_low : LowAt (operand inside ts)
    unfolding operand
    operand_low i = after_low (primary_low i) λ a j. if_low _ (after_low (primary_low (j + 1)) λ b m. fine) fine

    operated_low : (o : Option Operator) (a : Expression) → LowAt (operated o inside ts a)
    unfolding operated
    operated_low none a j = fine
    operated_low (some o) a j = after_low (operand_low (j + 1)) λ b m. fine

    expression_in_low : LowAt (expression_in inside ts)
    unfolding expression_in
    expression_in_low i = after_low (operand_low i) λ a j. operated_low _ a j

  expression_low : (left : ℕ) → LowAt (expression left ts)
  unfolding expression
  expression_low zero i = expression_in_low no_level tt i
  expression_low (suc left) i = expression_in_low (level (expression left ts)) (expression_low left) i

  -- ---- statements
  declaration_low : LowAt (declaration ts)
  unfolding declaration
  declaration_low i = if_low _ (expect_low _ ts (i + 2) _) wrong_10

  module _ (read : ReadExpression) (h : LowAt read) where
    returning_low : LowAt (returning read ts)
    unfolding returning
    returning_low i = after_low (h (i + 1)) λ e j. expect_low _ ts j _

    assignment_low : (p j : ℕ) (a : Target) → Low (assignment read ts p j a)
    unfolding assignment
    assignment_low p j (variable x) = after_low (h (j + 1)) λ e m. expect_low _ ts m _
    assignment_low p j (element a b) = after_low (h (j + 1)) λ e m. expect_low _ ts m _
    assignment_low p j no_target = wrong_10

    simple_low : LowAt (simple read ts)
    unfolding simple
    simple_low i = after_low (h i) λ a j. if_low _ (assignment_low _ j _) (expect_low _ ts j _)

  statements_from_low : (rounds : ℕ) (inner : ReadStatement) → LowAt inner → LowAt (statements_from rounds inner ts)
  unfolding statements_from
  statements_from_low zero inner h i = wrong_10
  statements_from_low (suc rounds) inner h i =
      after_low (h i) λ s j. if_low _ fine (after_low (statements_from_low rounds inner h j) λ ss m. fine)

  module _ (inside : Inside Readers) (h : Within LowReaders inside) where
    guarded_low : (make : Expression → Statement → Statement) → LowAt (guarded make inside ts)
    unfolding guarded
    guarded_low make i =
        if_low _ (opening_low LowReaders inside _ h λ inner w.
        after_low (w.0 (i + 1)) λ e j. after_low (expect_low _ ts j _) λ _ m. after_low (w.1 m) λ s n. fine) wrong_10

    iteration_low : (read : ReadExpression) → LowAt read → LowAt (iteration read inside ts)
    unfolding iteration
    iteration_low read k i =
        after_low (expect_low _ ts (i + 1) _) λ x i₂. after_low (expect_low _ ts i₂ _) λ _ i₃. after_low (k i₃) λ e j. after_low (expect_low _ ts j _) λ _ m.
        if_low _ (opening_low LowReaders inside m h λ inner w. after_low (w.1 m) λ s n. fine) wrong_10

    statement_in_low : (read : ReadExpression) → LowAt read → LowAt (statement_in read inside ts)
    unfolding statement_in
    statement_in_low read k i =
        if_low _ (declaration_low i) (if_low _ (guarded_low _ (i + 1)) (if_low _ (guarded_low _ (i + 1)) (if_low _ (iteration_low read k i)
        (if_low _ (returning_low read k i)
        (if_low _ (opening_low LowReaders inside _ h λ inner w. after_low (statements_from_low _ inner.in_statement w.1 (i + 1)) λ ss j. fine)
        (simple_low read k i))))))

  statement_low : (left : ℕ) → LowAt (statement left ts)
  unfolding statement
  statement_low zero i = statement_in_low no_level tt _ (expression_low zero) i
  statement_low (suc left) i = statement_in_low (level _) (expression_low left, statement_low left) _ (expression_low (suc left)) i

  -- ---- procedures
  parameters_from_low : (rounds : ℕ) → LowAt (parameters_from rounds ts)
  unfolding parameters_from
  parameters_from_low zero i = wrong_10
  parameters_from_low (suc rounds) i =
      after_low (expect_low _ ts i _) λ x j. if_low _ (after_low (parameters_from_low rounds (j + 1)) λ xs m. fine) (expect_low _ ts j _)

  parameters_low : LowAt (parameters ts)
  unfolding parameters
  parameters_low i = if_low _ fine (parameters_from_low _ i)

  procedure_low : LowAt (procedure ts)
  unfolding procedure
  procedure_low i =
      after_low (expect_low _ ts i _) λ _ i₁. after_low (expect_low _ ts i₁ _) λ _ i₂.
      after_low (expect_low _ ts i₂ _) λ _ i₃. after_low (parameters_low i₃) λ xs i₄. after_low (expect_low _ ts i₄ _) λ _ i₅.
      after_low (statements_from_low _ (statement 64 ts) (statement_low 64) i₅) λ ss i₆. fine

  procedures_from_low : (rounds : ℕ) → LowAt (procedures_from rounds ts)
  unfolding procedures_from
  procedures_from_low zero i = wrong_10
  procedures_from_low (suc rounds) i =
      after_low (procedure_low i) λ f j. if_low _ fine (after_low (procedures_from_low rounds j) λ fs m. fine)

  main_low : (fs : List Procedure) (j : ℕ) (o : Option Procedure) → Low (with_main ts fs j o)
  unfolding with_main
  main_low fs j none = wrong_10
  main_low fs j (some m) = fine

  procedures_low : Low (procedures ts)
  unfolding procedures
  procedures_low = after_low (procedures_from_low _ 0) λ fs j. main_low fs j (procedure_named (bytes "main") fs)

-- ---- the program
abbrev pub LowReading : Reading → Type 0
LowReading (well_formed m) = Unit {0}
LowReading (malformed n p) = among reading_errors n

read_low : (program : List ℕ) (ts : List Token) (g : Got _) → Low g → LowReading (read_of program ts g)
unfolding read_of
read_low program ts (good m i) h = tt
read_low program ts (wrong n i) h = h.low

if_reading : (b : Bool) (x y : Reading) → LowReading x → LowReading y → LowReading (if b then (λ _. x) otherwise λ _. y)
unfolding if◌then◌otherwise◌
if_reading true x y h f = h
if_reading false x y h f = f

parsed_low : (program : List ℕ) (l : Lexed) → LowReading (parsed program l)
unfolding parsed stands_in
parsed_low program (stray p) = refl
parsed_low program (lexed ts) = if_reading _ (malformed 74 _) _ refl (read_low program ts (procedures ts) (procedures_low ts))

-- THE LAW
pub reading_low : (program : List ℕ) → LowReading (reading program)
unfolding reading
reading_low program = parsed_low program (tokens_of program)

pub reading_errors_lem : ReadingErrors
reading_errors_lem program m p e = subst LowReading e (reading_low program)
