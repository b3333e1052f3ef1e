-- The grammar of statements and of procedures over words is the meaning's, with the code of each tree.
use Prim.Native.Nat.{ℕ, zero, suc, ◌+◌, ◌-◌}
use native.Mathlib.Omega.{arith}
use mathlib.Core.Path.{◌≡◌, refl}
use mathlib.Core.List.{List, [], ◌∷◌, ◌++◌, append_assoc, map}
use lib.ListN.{length, length-append, length-map}
use lib.Seq.{take_at}
use borrow.Author.Tests.{eqb-true}
use Rattle.meaning.specs.Basics.{if◌then◌otherwise◌}
use Rattle.meaning.specs.Token.{Token, a_name, word_def, word_in, word_do, open_paren, open_brace}
use Rattle.meaning.specs.Tree.{Expression, number, string, nothing, truth, name, table, entry, operation, call, paren, Statement, when, while}
use Rattle.meaning.specs.Grammar.{text_at, start_at, expect, skip, Inside, ReadExpression, ReadStatement, Readers, declaration, returning, target_of, assignment, simple, guarded}
use Rattle.meaning.specs.Grammar.{begins_statement, iteration, statements_from, statements, statement_in, statement, parameters_from, parameters, procedure, procedures_from}
use Rattle.names.specs.Prepared.{prepared}
use Rattle.machine.specs.Opcodes.{tag_when, tag_while}
use Rattle.code.specs.Code.{slot_of, code_of, code_of_statement, code_of_statements, joined, headed, code_with, statement_with, statements_with}
use Rattle.expressions.specs.Words as Words
use Rattle.statements.specs.Words as Bodies
use Rattle.definitions.specs.Words as Definitions
use Rattle.reader.specs.Coded.{words_of, map_got, side_of, piece_of, name_of, head_of}
use Rattle.reader.specs.Sane.{Sane}
use Rattle.reader.proofs.Fields.{kind_at_lem, is_at, positive_at_lem, signed_at_lem, place_at, name_home_at, procedure_at}
use Rattle.reader.proofs.Mapped.{Maps, Levels, neither, both, maps_good, maps_wrong, maps_if, maps_after, maps_opening, after_after}
use Rattle.reader.proofs.Yields.{yielded}
use Rattle.reader.proofs.Trees.{Names, Spelling, expression_spelled}
use Rattle.reader.proofs.Expressions.{Reads, expect_maps, expression_maps}

-- two readers of statements, the first over words
abbrev pub Codes : List Token → Bodies.ReadCode → ReadStatement → Type 0
Codes ts g f = (i : ℕ) → Maps (λ s. code_of_statement s ts) (g i) (f i)

-- two ways to read the inside of a level
pub record Both (ts : List Token) (g : Bodies.Readers) (f : Readers) : Type 0 where
  pub expressions : Reads ts g.in_expression f.in_expression
  pub statements : Codes ts g.in_statement f.in_statement

without_last : (xs : List ℕ) (w : ℕ) → Bodies.without_last (xs ++ (w ∷ [])) ≡ xs
unfolding Bodies.without_last
without_last xs w = take_at xs (w ∷ []) (length (xs ++ (w ∷ [])) - 1) (simp length-append (omega arith))

-- an entry's code without its word
without_joint : (tag : ℕ) (a b : List ℕ) → Bodies.without_last (joined tag a b) ≡ a ++ b
without_joint tag a b = rw (← append_assoc) (without_last (a ++ b) _)

module _ (ts : List Token) (sane : Sane ts) where
  declaration_maps : (i : ℕ) → Maps (λ s. code_of_statement s ts) (Bodies.declaration (words_of ts) i) (declaration ts i)
  unfolding declaration Bodies.declaration statement_with
  declaration_maps i =
      maps_if _ _ _ _ _ _ (is_at ts sane _ (i + 1))
      (λ e. expect_maps ts sane _ (i + 2) _ _ (rw (place_at ts sane i, name_home_at ts sane (i + 1) (eqb-true _ _ e))))
      λ _. maps_wrong

  returning_maps : {g : Words.ReadPiece} {f : ReadExpression} → Reads ts g f
      → (i : ℕ) → Maps (λ s. code_of_statement s ts) (Bodies.returning g (words_of ts) i) (returning f ts i)
  unfolding returning Bodies.returning statement_with piece_of
  returning_maps r i =
      maps_after _ _ (r (i + 1)) λ e j _. expect_maps ts sane _ j _ _ (rw (place_at ts sane i))

  assignment_maps : {g : Words.ReadPiece} {f : ReadExpression} → Reads ts g f
      → (i j : ℕ) (a : Expression) → Names ts i a
      → Maps (λ s. code_of_statement s ts) (Bodies.assignment g (words_of ts) i (side_of a) (code_of a ts) j) (assignment f ts (start_at ts i) j (target_of a))
  unfolding assignment Bodies.assignment target_of piece_of side_of code_with statement_with if◌then◌otherwise◌
  assignment_maps r i j (name x) n =
      maps_after _ _ (r (j + 1)) λ e m _. expect_maps ts sane _ m _ _ (rw (place_at ts sane i, name_home_at ts sane i n.0, n.1))
  assignment_maps r i j (entry a b) n =
      maps_after _ _ (r (j + 1)) λ e m _. expect_maps ts sane _ m _ _ (rw (place_at ts sane i, without_joint, append_assoc))
  assignment_maps r i j (number z) n = maps_wrong
  assignment_maps r i j (string w) n = maps_wrong
  assignment_maps r i j nothing n = maps_wrong
  assignment_maps r i j (truth b) n = maps_wrong
  assignment_maps r i j (table e) n = maps_wrong
  assignment_maps r i j (operation o a b) n = maps_wrong
  assignment_maps r i j (call f es) n = maps_wrong
  assignment_maps r i j (paren e) n = maps_wrong

  simple_maps : {g : Words.ReadPiece} {f : ReadExpression} → Reads ts g f → Spelling ts f
      → (i : ℕ) → Maps (λ s. code_of_statement s ts) (Bodies.simple g (words_of ts) i) (simple f ts i)
  unfolding simple Bodies.simple statement_with piece_of
  simple_maps r s i =
      maps_after _ _ (r i) λ a j read.
      maps_if _ _ _ _ _ _ (is_at ts sane _ j)
      (λ _. assignment_maps r i j a (yielded (s i) read).names)
      λ _. expect_maps ts sane _ j _ _ (rw (place_at ts sane i))

  guarded_maps : {x : Inside Bodies.Readers} {y : Inside Readers} → Levels (Both ts) x y
      → (tag p : ℕ) (make : Expression → Statement → Statement)
      → ((e : Expression) (s : Statement) → headed tag p (length (code_of e ts)) (code_of e ts ++ code_of_statement s ts) ≡ code_of_statement (make e s) ts)
      → (i : ℕ) → Maps (λ s. code_of_statement s ts) (Bodies.guarded tag p x (words_of ts) i) (guarded make y ts i)
  unfolding guarded Bodies.guarded piece_of
  guarded_maps l tag p make m i =
      maps_if _ _ _ _ _ _ (is_at ts sane _ i)
      (λ _. maps_opening _ _ _ l λ g f b.
      maps_after _ _ (b.expressions (i + 1)) λ e j _.
      maps_after {g = λ _. code_of e ts} _ _ (expect_maps ts sane _ j _ _ refl) λ _ n _.
      maps_after _ _ (b.statements n) λ s k _.
      maps_good (m e s))
      λ _. maps_wrong

  name_maps : (i : ℕ) → Maps (slot_of ts) (Words.expect a_name (words_of ts) i (Words.home_at (words_of ts) i)) (expect a_name ts i (text_at ts i))
  unfolding expect Words.expect
  name_maps i =
      maps_if _ _ _ _ _ _ (is_at ts sane _ i) (λ e. maps_good (name_home_at ts sane i (eqb-true _ _ e))) (λ _. maps_wrong)

  skip_maps : (k i : ℕ) → Maps (λ u. u) (Bodies.skip k (words_of ts) i) (skip k ts i)
  skip_maps k i = expect_maps ts sane k i tt tt refl

  begins_same : (i : ℕ) → Bodies.begins_statement (words_of ts) i ≡ begins_statement ts i
  unfolding begins_statement Bodies.begins_statement
  begins_same i = rw (positive_at_lem ts sane i, signed_at_lem ts sane i, kind_at_lem ts sane i)

  iteration_maps : {g : Words.ReadPiece} {f : ReadExpression} {x : Inside Bodies.Readers} {y : Inside Readers} → Reads ts g f → Levels (Both ts) x y
      → (i : ℕ) → Maps (λ s. code_of_statement s ts) (Bodies.iteration g x (words_of ts) i) (iteration f y ts i)
  unfolding iteration Bodies.iteration piece_of statement_with
  iteration_maps r l i =
      maps_after {g = slot_of ts} _ _ (name_maps (i + 1)) λ x i₂ _.
      maps_after _ _ (skip_maps word_in i₂) λ _ i₃ _.
      maps_after _ _ (r i₃) λ e j _.
      maps_after _ _ (skip_maps word_do j) λ _ m _.
      maps_if _ _ _ _ _ _ (begins_same m)
      (λ _. maps_opening _ _ _ l λ g f b.
      maps_after _ _ (b.statements m) λ s n _.
      maps_good (rw (place_at ts sane i)))
      λ _. maps_wrong

  statements_from_maps : {g : Bodies.ReadCode} {f : ReadStatement} → Codes ts g f
      → (rounds i : ℕ) → Maps (λ ss. code_of_statements ss ts) (Bodies.statements_from rounds g (words_of ts) i) (statements_from rounds f ts i)
  unfolding statements_from Bodies.statements_from statements_with
  statements_from_maps c zero i = maps_wrong
  statements_from_maps c (suc rounds) i =
      maps_after _ _ (c i) λ s j _.
      maps_if _ _ _ _ _ _ (is_at ts sane _ j) (λ _. maps_good refl)
      λ _. maps_after _ _ (statements_from_maps c rounds j) λ ss m _. maps_good refl

  pub statements_maps : {g : Bodies.ReadCode} {f : ReadStatement} → Codes ts g f
      → (i : ℕ) → Maps (λ ss. code_of_statements ss ts) (Bodies.statements g (words_of ts) i) (statements f ts i)
  statements_maps c i = rw (length-map ts (prepared ts)) (statements_from_maps c (suc (length ts - i)) i)

  pub statement_in_maps : {g : Words.ReadPiece} {f : ReadExpression} {x : Inside Bodies.Readers} {y : Inside Readers}
      → Reads ts g f → Spelling ts f → Levels (Both ts) x y
      → (i : ℕ) → Maps (λ s. code_of_statement s ts) (Bodies.statement_in g x (words_of ts) i) (statement_in f y ts i)
  unfolding statement_in Bodies.statement_in statement_with
  statement_in_maps r s l i =
      maps_if _ _ _ _ _ _ (is_at ts sane _ i) (λ _. declaration_maps i)
      λ _. maps_if _ _ _ _ _ _ (is_at ts sane _ i)
      (λ _. rw (place_at ts sane i) (guarded_maps l tag_when (start_at ts i) (when (start_at ts i)) (λ _ _. refl) (i + 1)))
      λ _. maps_if _ _ _ _ _ _ (is_at ts sane _ i)
      (λ _. rw (place_at ts sane i) (guarded_maps l tag_while (start_at ts i) (while (start_at ts i)) (λ _ _. refl) (i + 1)))
      λ _. maps_if _ _ _ _ _ _ (is_at ts sane _ i) (λ _. iteration_maps r l i)
      λ _. maps_if _ _ _ _ _ _ (is_at ts sane _ i) (λ _. returning_maps r i)
      λ _. maps_if _ _ _ _ _ _ (is_at ts sane _ i)
      (λ _. maps_opening _ _ _ l λ g f b. maps_after _ _ (statements_maps b.statements (i + 1)) λ ss j _.
      maps_good (rw (place_at ts sane i)))
      λ _. simple_maps r s i

  pub statement_maps : (left i : ℕ) → Maps (λ s. code_of_statement s ts) (Bodies.statement left (words_of ts) i) (statement left ts i)
  unfolding statement Bodies.statement
  statement_maps zero i = statement_in_maps (expression_maps ts sane zero) (expression_spelled ts zero) neither i
  statement_maps (suc left) i =
      statement_in_maps (expression_maps ts sane (suc left)) (expression_spelled ts (suc left))
      (both (record { expressions = expression_maps ts sane left; statements = statement_maps left })) i

  -- ---- procedures
  parameters_from_maps : (rounds i : ℕ) → Maps (map (slot_of ts)) (Definitions.parameters_from rounds (words_of ts) i) (parameters_from rounds ts i)
  unfolding parameters_from Definitions.parameters_from
  parameters_from_maps zero i = maps_wrong
  parameters_from_maps (suc rounds) i =
      maps_after {g = slot_of ts} _ _ (name_maps i) λ x j _.
      maps_if _ _ _ _ _ _ (is_at ts sane _ j)
      (λ _. maps_after _ _ (parameters_from_maps rounds (j + 1)) λ xs m _. maps_good refl)
      λ _. expect_maps ts sane _ j _ _ refl

  parameters_maps : (i : ℕ) → Maps (map (slot_of ts)) (Definitions.parameters (words_of ts) i) (parameters ts i)
  unfolding parameters Definitions.parameters
  parameters_maps i =
      maps_if _ _ _ _ _ _ (is_at ts sane _ i) (λ _. maps_good refl)
      λ _. rw (length-map ts (prepared ts)) (parameters_from_maps (suc (length ts - i)) i)

  name_of_maps : (i : ℕ) → Maps (name_of ts) (Words.expect a_name (words_of ts) i (Definitions.name_at (words_of ts) i)) (expect a_name ts i (text_at ts i))
  unfolding expect Words.expect name_of
  name_of_maps i =
      maps_if _ _ _ _ _ _ (is_at ts sane _ i)
      (λ e. maps_good (rw (procedure_at ts sane i (eqb-true _ _ e), name_home_at ts sane i (eqb-true _ _ e))))
      (λ _. maps_wrong)

  pub procedure_maps : (i : ℕ) → Maps (head_of ts) (Definitions.procedure (words_of ts) i) (procedure ts i)
  unfolding procedure Definitions.procedure Definitions.body head_of
  procedure_maps i =
      maps_after _ _ (skip_maps word_def i) λ _ i₁ _.
      maps_after _ _ (name_of_maps i₁) λ f i₂ _.
      maps_after _ _ (skip_maps open_paren i₂) λ _ i₃ _.
      maps_after _ _ (parameters_maps i₃) λ xs i₄ _.
      rw after_after
      (maps_after _ _ (skip_maps open_brace i₄) λ _ i₅ _.
      maps_after _ _ (statements_maps (statement_maps 64) i₅) λ ss i₆ _.
      maps_good (rw (place_at ts sane i)))

  procedures_from_maps : (rounds i : ℕ) → Maps (map (head_of ts)) (Definitions.procedures_from rounds (words_of ts) i) (procedures_from rounds ts i)
  unfolding procedures_from Definitions.procedures_from
  procedures_from_maps zero i = maps_wrong
  procedures_from_maps (suc rounds) i =
      maps_after _ _ (procedure_maps i) λ f j _.
      maps_if _ _ _ _ _ _ (is_at ts sane _ j) (λ _. maps_good refl)
      λ _. maps_after _ _ (procedures_from_maps rounds j) λ fs m _. maps_good refl

  -- ---- the laws
  pub statement_law : (left i : ℕ) → Bodies.statement left (words_of ts) i ≡ map_got (λ s. code_of_statement s ts) (statement left ts i)
  statement_law left i = (statement_maps left i).same

  pub statements_law : (left i : ℕ)
      → Bodies.statements (Bodies.statement left (words_of ts)) (words_of ts) i ≡ map_got (λ ss. code_of_statements ss ts) (statements (statement left ts) ts i)
  statements_law left i = (statements_maps (statement_maps left) i).same

  pub procedures_law : Definitions.procedures (words_of ts) ≡ map_got (map (head_of ts)) (procedures_from (suc (length ts)) ts 0)
  unfolding Definitions.procedures
  procedures_law = rw (length-map ts (prepared ts)) (procedures_from_maps (suc (length ts)) 0).same
