-- What is read of a program's tokens: statements and procedures that can be written, in so many levels and in no more tokens.
use Prim.Native.Nat.{ℕ, zero, suc, ◌+◌, ◌≤◌, ◌<◌}
use native.Mathlib.Omega.{arith}
use mathlib.Core.Path.{◌≡◌, refl, ap, subst}
use mathlib.Core.Bool.{Bool, true, false}
use mathlib.Core.List.{List, [], ◌∷◌, ◌++◌}
use mathlib.Core.Option.{Option, none, some}
use lib.ListN.{length, get_or-eq_default}
use lib.Dec.{ltb}
use borrow.Author.Tests.{eqb-true, ltb-true, ltb-false}
use Rattle.meaning.specs.Basics.{bytes}
use Rattle.meaning.specs.Token.{Token, a_name, word_do, close_brace}
use Rattle.meaning.specs.Grammar.{Got, is, after_last, kind_at, text_at, start_at, Inside, no_level, level, expression, ReadStatement, Readers, declaration, returning, target_of, assignment, simple}
use Rattle.meaning.specs.Grammar.{guarded, iteration, statements_from, statement_in, statement, parameters_from, parameters, procedure, procedures_from, procedure_named, with_main, procedures}
use Rattle.meaning.specs.Tree.{Expression, number, string, nothing, truth, name, table, entry, operation, call, paren, Statement, when, while, Statements, Procedure, Program}
use Rattle.roundtrip.proofs.Words.{tokens, sign, a_word, joined, enclosed_words, words, levels_in, levels, statement_words}
use Rattle.roundtrip.proofs.Words.{statements_words, statement_levels, statements_levels, name_words, procedure_words, procedures_words}
use Rattle.roundtrip.proofs.Sound.{Named, Sound, SoundStatement, SoundStatements, NamedAll, SoundProcedure, SoundProcedures}
use Rattle.roundtrip.proofs.Spelling.{Spelt}
use Rattle.roundtrip.proofs.RereadingProgram.{Shallow}
use Rattle.roundtrip.proofs.Yields.{Yields, yields, fails, Inner, closed, opened, yields_if, yields_after, yields_opening, yields_expect}
use Rattle.roundtrip.proofs.SoundReading.{tokens_append, joined_tokens, Fine, expression_fine}

-- the same without what is said of enclosing
pub record Plain (left i : ℕ) (e : Expression) (j : ℕ) : Type 0 where
  pub sound : Sound e
  pub low : levels e ≤ left
  pub few : i + tokens (words e) ≤ j

-- every expression is
plain_of : {left i : ℕ} {e : Expression} {j : ℕ} → Fine false left i e j → Plain left i e j
unfolding levels_in enclosed_words
plain_of f = record { sound = f.sound; low = f.low; few = f.few }

pub record FineStatement (left i : ℕ) (s : Statement) (j : ℕ) : Type 0 where
  pub sound : SoundStatement s
  pub low : statement_levels s ≤ left
  pub few : i + tokens (statement_words s) ≤ j

-- statements, and the closing brace
pub record FineStatements (ts : List Token) (left i : ℕ) (ss : Statements) (j : ℕ) : Type 0 where
  pub sound : SoundStatements ss
  pub low : statements_levels ss ≤ left
  pub few : i + tokens (statements_words ss) + 1 ≤ j
  pub inside : j ≤ length ts

module _ (ts : List Token) (spelt : (i : ℕ) → Spelt (kind_at ts i) (text_at ts i)) where
  -- a token that is of some kind other than the ending's is one of the tokens
  kind_inside : (k j : ℕ) → kind_at ts j ≡ suc k → j < length ts
  kind_inside k j e = by (ltb j (length ts)) refl
    where
      by : (t : Bool) → ltb j (length ts) ≡ t → j < length ts
      by true l = ltb-true j (length ts) l
      by false l =
          let q : kind_at ts j ≡ 0 = ap (λ (t : Token). t.kind) (get_or-eq_default ts after_last (ltb-false j (length ts) l)) in
          absurd (omega (arith, q, e))

  -- a name token is a name
  named : (i : ℕ) → is a_name ts i ≡ true → Named (text_at ts i)
  named i e = (spelt i).as_name (eqb-true (kind_at ts i) a_name e)

  -- every expression that is read
  read_fine : (left i : ℕ) → Yields (λ e j. Plain left i e j) (expression left ts i)
  read_fine left i = by (expression left ts i) (expression_fine ts spelt left i)
    where
      by : (g : Got Expression) → Yields (λ e j. Fine false left i e j) g → Yields (λ e j. Plain left i e j) g
      by g (yields f) = yields (plain_of f)
      by g fails = fails

  -- ---- simple statements
  -- a declaration
  declaration_fine : (left i : ℕ) → Yields (λ s j. FineStatement left i s j) (declaration ts i)
  unfolding declaration SoundStatement statement_levels statement_words
  declaration_fine left i = yields_if _ _ _
      (λ e. yields_expect _ ts (i + 2) _ λ _. record { sound = named (i + 1) e; low = omega arith; few = omega arith })
      (λ _. fails)

  -- a return
  returning_fine : (left i : ℕ) → Yields (λ s j. FineStatement left i s j) (returning (expression left ts) ts i)
  unfolding returning SoundStatement statement_levels statement_words
  returning_fine left i = yields_after _ (read_fine left (i + 1)) λ e j f. yields_expect _ ts j _ λ _.
      record { sound = f.sound; low = f.low; few = let a = f.few in omega (arith, tokens_append (words e) (sign 59)) }

  -- what a target says of the expression that it was
  target_fine : (left p i j : ℕ) (a : Expression) → Plain left i a j → Yields (λ s m. FineStatement left i s m) (assignment (expression left ts) ts p j (target_of a))
  unfolding assignment target_of SoundStatement statement_levels statement_words Sound words levels
  target_fine left p i j (name x) f = yields_after _ (read_fine left (j + 1)) λ e m g. yields_expect _ ts m _ λ _. record {
    sound = (f.sound, g.sound);
    low = g.low;
    few = let a = f.few in let b = g.few in omega (arith, tokens_append (words e) (sign 59));
  }
  target_fine left p i j (entry a b) f = yields_after _ (read_fine left (j + 1)) λ e m g. yields_expect _ ts m _ λ _. record {
    sound = (f.sound.0, f.sound.1, g.sound);
    low = let c = f.low in let d = g.low in omega arith;
    few =
        let c = f.few in
        let d = g.few in
        omega (arith, tokens_append (words (entry a b) ++ sign 61 ++ words e) (sign 59), tokens_append (words (entry a b) ++ sign 61) (words e), tokens_append (words (entry a b)) (sign 61));
  }
  target_fine left p i j (number z) f = fails
  target_fine left p i j (string w) f = fails
  target_fine left p i j nothing f = fails
  target_fine left p i j (truth b) f = fails
  target_fine left p i j (table e) f = fails
  target_fine left p i j (operation o a b) f = fails
  target_fine left p i j (call x es) f = fails
  target_fine left p i j (paren e) f = fails

  -- an expression, an assignment or an update
  simple_fine : (left i : ℕ) → Yields (λ s j. FineStatement left i s j) (simple (expression left ts) ts i)
  unfolding simple SoundStatement statement_levels statement_words
  simple_fine left i = yields_after _ (read_fine left i) λ a j f. yields_if _ _ _ (λ _. target_fine left _ i j a f)
      λ _. yields_expect _ ts j _ λ _. record { sound = f.sound; low = f.low; few = let b = f.few in omega (arith, tokens_append (words a) (sign 59)) }

  -- ---- blocks, if and while
  abbrev FineReader : ℕ → ReadStatement → Type 0
  FineReader left read = (i : ℕ) → Yields (λ s j. FineStatement left i s j) (read i)

  -- statements up to the closing brace
  statements_fine : (r left : ℕ) (inner : ReadStatement) → FineReader left inner → (i : ℕ) → Yields (λ ss j. FineStatements ts left i ss j) (statements_from r inner ts i)
  unfolding statements_from SoundStatement statement_levels statement_words
  statements_fine zero left inner h i = fails
  statements_fine (suc r) left inner h i = yields_after _ (h i) λ s j f. yields_if _ _ _
      (λ e. yields (record {
        sound = f.sound;
        low = f.low;
        few = let a = f.few in omega arith;
        inside = let a = kind_inside 124 j (eqb-true (kind_at ts j) close_brace e) in omega arith;
      }))
      λ _. yields_after _ (statements_fine r left inner h j) λ ss m g. yields (record {
        sound = (f.sound, g.sound);
        low = let a = f.low in let b = g.low in omega arith;
        few = let a = f.few in let b = g.few in omega (arith, tokens_append (statement_words s) (statements_words ss));
        inside = g.inside;
      })

  record FineReaders (left : ℕ) (r : Readers) : Type 0 where
    expressions : (i : ℕ) → Yields (λ e j. Plain left i e j) (r.in_expression i)
    statements : FineReader left r.in_statement

  module _ (left : ℕ) (inside : Inside Readers) (h : Inner FineReaders left inside) where
    -- if and while
    guarded_fine : (make : Expression → Statement → Statement) (i : ℕ) →
        ((l m : ℕ) (e : Expression) (s : Statement) (j n : ℕ) → left ≡ suc l → Plain l (i + 1 + 1) e j → FineStatement l (j + 1) s n → FineStatement left i (make e s) n) →
        Yields (λ s j. FineStatement left i s j) (guarded make inside ts (i + 1))
    unfolding guarded
    guarded_fine make i g = yields_if _ _ _
        (λ _. yields_opening _ _ h λ l inner q w. yields_after _ (w.expressions (i + 1 + 1)) λ e j f.
        yields_after {Q = λ _ m. m ≡ j + 1} _ (yields_expect _ ts j _ λ _. refl) λ _ m k.
        yields_after _ (w.statements m) λ s n u. yields (g l m e s j n q f (subst (λ (x : ℕ). FineStatement l x s n) k u)))
        (λ _. fails)

    -- an if
    when_fine : (p i l m : ℕ) (e : Expression) (s : Statement) (j n : ℕ) → left ≡ suc l → Plain l (i + 1 + 1) e j → FineStatement l (j + 1) s n → FineStatement left i (when p e s) n
    unfolding SoundStatement statement_levels statement_words
    when_fine p i l m e s j n q f u = record {
      sound = (f.sound, u.sound);
      low = let a = f.low in let b = u.low in omega arith;
      few = let a = f.few in let b = u.few in omega (arith, tokens_append (words e ++ sign 41) (statement_words s), tokens_append (words e) (sign 41));
    }

    -- a while
    while_fine : (p i l m : ℕ) (e : Expression) (s : Statement) (j n : ℕ) → left ≡ suc l → Plain l (i + 1 + 1) e j → FineStatement l (j + 1) s n → FineStatement left i (while p e s) n
    unfolding SoundStatement statement_levels statement_words
    while_fine p i l m e s j n q f u = record {
      sound = (f.sound, u.sound);
      low = let a = f.low in let b = u.low in omega arith;
      few = let a = f.few in let b = u.few in omega (arith, tokens_append (words e ++ sign 41) (statement_words s), tokens_append (words e) (sign 41));
    }

    -- a foreach
    iteration_fine : (i : ℕ) → Yields (λ s j. FineStatement left i s j) (iteration (expression left ts) inside ts i)
    unfolding iteration SoundStatement statement_levels statement_words
    iteration_fine i =
        yields_after {Q = λ x j. Named x × (j ≡ i + 1 + 1)} _ (yields_expect _ ts (i + 1) _ λ k. ((spelt (i + 1)).as_name k, refl)) λ x i₂ l₂.
        yields_after {Q = λ _ j. j ≡ i₂ + 1} _ (yields_expect _ ts i₂ _ λ _. refl) λ _ i₃ l₃.
        yields_after _ (read_fine left i₃) λ e j f.
        yields_after {Q = λ _ m. m ≡ j + 1} _ (yields_expect _ ts j _ λ _. refl) λ _ m k. yields_if _ _ _
        (λ _. yields_opening _ _ h λ l inner q w. yields_after _ (w.statements m) λ s n u. yields (record {
          sound = (l₂.0, f.sound, u.sound);
          low = let a = f.low in let b = u.low in omega arith;
          few =
              let a = f.few in
              let b = u.few in
              let c = l₂.1 in
              let d = a_word word_do (bytes "do") in
              omega (arith, tokens_append (words e ++ d) (statement_words s), tokens_append (words e) d);
        }))
        (λ _. fails)

    -- a statement in a level
    statement_in_fine : (i : ℕ) → Yields (λ s j. FineStatement left i s j) (statement_in (expression left ts) inside ts i)
    unfolding statement_in SoundStatement statement_levels statement_words
    statement_in_fine i =
        yields_if _ _ _ (λ _. declaration_fine left i)
        λ _. yields_if _ _ _ (λ _. guarded_fine _ i (when_fine (start_at ts i) i))
        λ _. yields_if _ _ _ (λ _. guarded_fine _ i (while_fine (start_at ts i) i))
        λ _. yields_if _ _ _ (λ _. iteration_fine i)
        λ _. yields_if _ _ _ (λ _. returning_fine left i)
        λ _. yields_if _ _ _ (λ _. yields_opening _ _ h λ l inner q w. yields_after _ (statements_fine _ l inner.in_statement w.statements (i + 1)) λ ss j f. yields (record {
          sound = f.sound;
          low = let a = f.low in omega arith;
          few = let a = f.few in omega (arith, tokens_append (statements_words ss) (sign 125));
        }))
        λ _. simple_fine left i

  -- every statement
  statement_fine : (left : ℕ) → FineReader left (statement left ts)
  unfolding statement
  statement_fine zero i = statement_in_fine zero no_level closed i
  statement_fine (suc left) i =
      statement_in_fine (suc left) (level _) (opened (record { expressions = read_fine left; statements = statement_fine left })) i

  -- ---- procedures
  -- parameters, and the closing parenthesis
  record FineNames (i : ℕ) (xs : List (List ℕ)) (j : ℕ) : Type 0 where
    sound : NamedAll xs
    few : i + tokens (joined (name_words xs)) + 1 ≤ j

  -- one parameter or more
  parameters_from_fine : (r i : ℕ) → Yields (λ xs j. FineNames i xs j) (parameters_from r ts i)
  unfolding parameters_from NamedAll name_words joined
  parameters_from_fine zero i = fails
  parameters_from_fine (suc r) i =
      yields_after {Q = λ x j. Named x × (j ≡ i + 1)} _ (yields_expect _ ts i _ λ k. ((spelt i).as_name k, refl)) λ x j f. yields_if _ _ _
      (λ _. yields_after _ (parameters_from_fine r (j + 1)) λ xs m g. yields (record {
        sound = (f.0, g.sound);
        few = let a = f.1 in let b = g.few in omega (arith, joined_tokens (a_word a_name x) (name_words xs));
      }))
      λ _. yields_expect _ ts j _ λ _. record { sound = (f.0, tt); few = let a = f.1 in omega arith }

  -- all parameters
  parameters_fine : (i : ℕ) → Yields (λ xs j. FineNames i xs j) (parameters ts i)
  unfolding parameters NamedAll name_words joined
  parameters_fine i = yields_if _ _ _ (λ _. yields (record { sound = tt; few = omega arith })) (λ _. parameters_from_fine _ i)

  record FineProcedure (i : ℕ) (f : Procedure) (j : ℕ) : Type 0 where
    sound : SoundProcedure f
    low : statements_levels f.body ≤ 64
    few : i + tokens (procedure_words f) ≤ j
    inside : j ≤ length ts

  -- a procedure
  procedure_fine : (i : ℕ) → Yields (λ f j. FineProcedure i f j) (procedure ts i)
  unfolding procedure procedure_words
  procedure_fine i =
      yields_after {Q = λ _ j. j ≡ i + 1} _ (yields_expect _ ts i _ λ _. refl) λ _ i₁ l₁.
      yields_after {Q = λ x j. Named x × (j ≡ i₁ + 1)} _ (yields_expect _ ts i₁ _ λ k. ((spelt i₁).as_name k, refl)) λ x i₂ l₂.
      yields_after {Q = λ _ j. j ≡ i₂ + 1} _ (yields_expect _ ts i₂ _ λ _. refl) λ _ i₃ l₃.
      yields_after _ (parameters_fine i₃) λ xs i₄ f.
      yields_after {Q = λ _ j. j ≡ i₄ + 1} _ (yields_expect _ ts i₄ _ λ _. refl) λ _ i₅ l₅.
      yields_after _ (statements_fine _ 64 (statement 64 ts) (statement_fine 64) i₅) λ ss i₆ g. yields (record {
        sound = record { name = l₂.0; parameters = f.sound; body = g.sound };
        low = g.low;
        few =
            let a = f.few in
            let b = g.few in
            let l = l₂.1 in
            let w = joined (name_words xs) in
            omega (
              arith,
              tokens_append (w ++ (sign 41 ++ sign 123) ++ statements_words ss) (sign 125),
              tokens_append (w ++ (sign 41 ++ sign 123)) (statements_words ss),
              tokens_append w (sign 41 ++ sign 123),
            );
        inside = g.inside;
      })

  pub record FineProcedures (i : ℕ) (fs : List Procedure) : Type 0 where
    pub sound : SoundProcedures fs
    pub low : Shallow fs
    pub few : i + tokens (procedures_words fs) ≤ length ts
    pub some : (f : Procedure) × (gs : List Procedure) × (fs ≡ f ∷ gs)

  -- one procedure or more
  procedures_fine : (r i : ℕ) → Yields (λ fs j. FineProcedures i fs) (procedures_from r ts i)
  unfolding procedures_from SoundProcedures Shallow procedures_words
  procedures_fine zero i = fails
  procedures_fine (suc r) i =
      yields_after _ (procedure_fine i) λ f j a. yields_if _ _ _
      (λ _. yields (record {
        sound = (a.sound, tt);
        low = (a.low, tt);
        few = let p = a.few in let q = a.inside in omega (arith, tokens_append (procedure_words f) []);
        some = (f, [], refl);
      }))
      λ _. yields_after _ (procedures_fine r j) λ fs m b. yields (record {
        sound = (a.sound, b.sound);
        low = (a.low, b.low);
        few = let p = a.few in let q = b.few in omega (arith, tokens_append (procedure_words f) (procedures_words fs));
        some = (f, fs, refl);
      })

  -- THE PROGRAM
  pub record FineProgram (m : Program) : Type 0 where
    pub procedures : FineProcedures 0 m.procedures
    pub main : procedure_named (bytes "main") m.procedures ≡ some m.main

  -- every program that is read
  pub program_fine : Yields (λ m j. FineProgram m) (procedures ts)
  unfolding procedures with_main
  program_fine = yields_after _ (procedures_fine (suc (length ts)) 0) λ fs j a. by fs j a (procedure_named (bytes "main") fs) refl
    where
      by : (fs : List Procedure) (j : ℕ) → FineProcedures 0 fs → (o : Option Procedure) → procedure_named (bytes "main") fs ≡ o → Yields (λ m j. FineProgram m) (with_main ts fs j o)
      by fs j a none e = fails
      by fs j a (some m) e = yields (record { procedures = a; main = e })
