-- The words of statements and procedures are read as their trees, but for places.
use Prim.Native.Nat.{ℕ, zero, suc, ◌+◌, ◌≤◌, ◌<◌}
use native.Mathlib.Omega.{arith}
use mathlib.Core.Path.{◌≡◌, refl, sym, ◌∙◌, subst}
use mathlib.Core.Bool.{Bool, true, false, ◌||◌}
use mathlib.Core.List.{List, ◌++◌}
use lib.ListN.{length}
use lib.Dec.{eqb}
use borrow.Author.Tests.{eqb-true}
use Rattle.meaning.specs.Basics.{bytes, if◌then◌otherwise◌}
use Rattle.meaning.specs.Token.{Token}
use Rattle.meaning.specs.Grammar.{good, after, expect, kind_at, start_at, operator_of, Inside, no_level, level, opening, expression, Readers, declaration, returning}
use Rattle.meaning.specs.Grammar.{target_of, assignment, simple, guarded, begins_statement, iteration, statements_from, statements, statement_in, statement}
use Rattle.meaning.specs.Tree.{Expression, name, entry, Statement, declare, assign, update, when, while, foreach, return, block, act, Statements, only, first}
use Rattle.meaning.proofs.GrammarLaws.{statements_rounds}
use Rattle.canonical.specs.Bare.{bare_statement, bare_statements}
use Rattle.canonical.specs.Text.{is_operation, is_entry}
use Rattle.roundtrip.proofs.Words.{sign, a_word, words, levels, kept, paren_if, statement_words, statements_words, statement_levels, statements_levels}
use Rattle.roundtrip.proofs.Scanning.{differs}
use Rattle.roundtrip.proofs.Sound.{Named, Sound, SoundStatement, SoundStatements}
use Rattle.roundtrip.proofs.Stands.{Stands, split}
use Rattle.roundtrip.proofs.Kept.{bare_kept, bare_paren}
use Rattle.roundtrip.proofs.Rereading.{opens, opens_at, Ends, ends, starts, read}

module _ (ts : List Token) where
  -- what may be read inside a level
  abbrev readers_of : ℕ → Inside Readers
  readers_of zero = no_level
  readers_of (suc left) = level (record { in_expression = expression left ts; in_statement = statement left ts })

  -- a statement is read alike with levels left and without
  statement_is : (left i : ℕ) → statement left ts i ≡ statement_in (expression left ts) (readers_of left) ts i
  unfolding statement
  statement_is zero i = refl
  statement_is (suc left) i = refl

  -- an expression's tree, if a token of kind k stands behind it
  tree : (e : Expression) → Sound e → (left i j k : ℕ) → levels e ≤ left → Stands ts i (words e) j → kind_at ts j ≡ k → Ends k → expression left ts i ≡ good (kept e) j
  tree e h left i j k l s d n = (read ts e h).as_expression left i j l s (subst Ends (sym d) n)

  -- a statement that begins with an expression
  simple_is : (left i : ℕ) → opens_at ts i ≡ true → statement left ts i ≡ simple (expression left ts) ts i
  unfolding statement_in if◌then◌otherwise◌ opens
  simple_is left i o =
      let k = kind_at ts i in
      statement_is left i
      ∙ rw (
        differs (opens _ _) k 5 o refl,
        differs (opens _ _) k 6 o refl,
        differs (opens _ _) k 7 o refl,
        differs (opens _ _) k 12 o refl,
        differs (opens _ _) k 8 o refl,
        differs (opens _ _) k 123 o refl,
      )

  -- ---- statements
  pub record Again (s : Statement) (left i j : ℕ) : Type 0 where
    pub tree : Statement
    pub reads : statement left ts i ≡ good tree j
    pub same : bare_statement tree ≡ bare_statement s

  -- a declaration
  again_declare : (p : ℕ) (x : List ℕ) (left i j : ℕ) → Stands ts i (statement_words (declare p x)) j → Again (declare p x) left i j
  unfolding statement_words statement_in declaration expect if◌then◌otherwise◌ bare_statement
  again_declare p x left i j h =
      let e : i + 1 + 1 ≡ i + 2 = omega arith in
      let k : kind_at ts (i + 2) ≡ 59 = subst (λ (n : ℕ). kind_at ts n ≡ 59) e h.2.2.0 in
      let m : i + 2 + 1 ≡ j = omega (arith, h.2.2.2) in
      record {
        tree = declare (start_at ts i) x;
        reads = statement_is left i ∙ rw (h.0, h.2.0, k, h.2.1, m);
        same = refl;
      }

  -- a return
  again_return : (p : ℕ) (e : Expression) → Sound e → (left i j : ℕ) → levels e ≤ left → Stands ts i (statement_words (return p e)) j → Again (return p e) left i j
  unfolding statement_words statement_in returning after expect if◌then◌otherwise◌ bare_statement operator_of
  again_return p e f left i j l h =
      let q = split ts (i + 1) (words e) (sign 59) j h.2 in
      record {
        tree = return (start_at ts i) (kept e);
        reads = statement_is left i ∙ rw (h.0, tree e f left (i + 1) q.0 59 l q.1 q.2.0 (ends 59 refl refl refl), q.2.0, q.2.2);
        same = rw (bare_kept e);
      }

  -- an expression
  again_act : (p : ℕ) (e : Expression) → Sound e → (left i j : ℕ) → levels e ≤ left → Stands ts i (statement_words (act p e)) j → Again (act p e) left i j
  unfolding statement_words simple after expect if◌then◌otherwise◌ bare_statement operator_of
  again_act p e f left i j l h =
      let q = split ts i (words e) (sign 59) j h in
      record {
        tree = act (start_at ts i) (kept e);
        reads = simple_is left i (starts ts e f i q.0 q.1) ∙ rw (tree e f left i q.0 59 l q.1 q.2.0 (ends 59 refl refl refl), q.2.0, q.2.2);
        same = rw (bare_kept e);
      }

  -- an assignment
  again_assign : (p : ℕ) (x : List ℕ) (e : Expression) → Named x → Sound e → (left i j : ℕ) → levels e ≤ left → Stands ts i (statement_words (assign p x e)) j →
      Again (assign p x e) left i j
  unfolding statement_words simple assignment target_of after expect if◌then◌otherwise◌ bare_statement operator_of words levels kept Sound opens
  again_assign p x e g f left i j l h =
      let q = split ts (i + 1 + 1) (words e) (sign 59) j h.2.2 in
      let o : opens_at ts i ≡ true = rw h.0 in
      record {
        tree = assign (start_at ts i) x (kept e);
        reads =
            simple_is left i o ∙ rw (
              tree (name x) g left i (i + 1) 61 (omega arith) (h.0, h.1, refl) h.2.0 (ends 61 refl refl refl),
              h.2.0,
              tree e f left (i + 1 + 1) q.0 59 l q.1 q.2.0 (ends 59 refl refl refl),
              q.2.0,
              q.2.2,
            );
        same = rw (bare_kept e);
      }

  -- an update
  again_update : (p : ℕ) (a b e : Expression) → Sound a → Sound b → Sound e → (left i j : ℕ) → statement_levels (update p a b e) ≤ left →
      Stands ts i (statement_words (update p a b e)) j → Again (update p a b e) left i j
  unfolding statement_words simple assignment target_of after expect if◌then◌otherwise◌ bare_statement operator_of kept Sound statement_levels
  again_update p a b e f g h left i j l s =
      let q = split ts i (words (entry a b) ++ sign 61 ++ words e) (sign 59) j s in
      let r = split ts i (words (entry a b) ++ sign 61) (words e) q.0 q.1 in
      let u = split ts i (words (entry a b)) (sign 61) r.0 r.1 in
      let x = paren_if (is_operation a || is_entry a) (kept a) in
      let y = paren_if (is_operation b || is_entry b) (kept b) in
      record {
        tree = update (start_at ts i) x y (kept e);
        reads =
            simple_is left i (starts ts (entry a b) (f, g) i u.0 u.1) ∙
            rw (
              tree (entry a b) (f, g) left i u.0 61 (omega arith) u.1 u.2.0 (ends 61 refl refl refl),
              u.2.0,
              u.2.2,
              tree e h left r.0 q.0 59 (omega arith) r.2 q.2.0 (ends 59 refl refl refl),
              q.2.0,
              q.2.2,
            );
        same =
            rw (bare_paren (is_operation a || is_entry a) (kept a), bare_paren (is_operation b || is_entry b) (kept b), bare_kept a, bare_kept b, bare_kept e);
      }

  -- if and while
  again_guarded : (make : ℕ → Expression → Statement → Statement) (left i j : ℕ) (e : Expression) (s : Statement) → Sound e → levels e ≤ left →
      ((m : ℕ) → Stands ts m (statement_words s) j → Again s left m j) →
      kind_at ts i ≡ 40 → Stands ts (i + 1) (words e ++ sign 41 ++ statement_words s) j → (p : ℕ) →
      (t : Statement) × (guarded (make p) (readers_of (suc left)) ts i ≡ good (make p (kept e) t) j) × (bare_statement t ≡ bare_statement s)
  unfolding guarded opening after expect if◌then◌otherwise◌ operator_of
  again_guarded make left i j e s f l g k h p =
      let q = split ts (i + 1) (words e ++ sign 41) (statement_words s) j h in
      let r = split ts (i + 1) (words e) (sign 41) q.0 q.1 in
      let t = g q.0 q.2 in
      (t.tree, rw (k, tree e f left (i + 1) r.0 41 l r.1 r.2.0 (ends 41 refl refl refl), r.2.0, r.2.2, t.reads), t.same)

  -- an if
  again_when : (p : ℕ) (e : Expression) (s : Statement) → Sound e → (left i j : ℕ) → statement_levels (when p e s) ≤ left →
      ((left m : ℕ) → statement_levels s ≤ left → Stands ts m (statement_words s) j → Again s left m j) →
      Stands ts i (statement_words (when p e s)) j → Again (when p e s) left i j
  unfolding statement_words statement_levels statement_in if◌then◌otherwise◌ bare_statement
  again_when p e s f zero i j l g h = absurd (omega arith)
  again_when p e s f (suc left) i j l g h =
      let r = again_guarded when left (i + 1) j e s f (omega arith) (λ m k. g left m (omega arith) k) h.2.0 h.2.2 (start_at ts i) in
      record { tree = when (start_at ts i) (kept e) r.0; reads = statement_is (suc left) i ∙ rw h.0 r.1; same = rw (bare_kept e, r.2) }

  -- a while
  again_while : (p : ℕ) (e : Expression) (s : Statement) → Sound e → (left i j : ℕ) → statement_levels (while p e s) ≤ left →
      ((left m : ℕ) → statement_levels s ≤ left → Stands ts m (statement_words s) j → Again s left m j) →
      Stands ts i (statement_words (while p e s)) j → Again (while p e s) left i j
  unfolding statement_words statement_levels statement_in if◌then◌otherwise◌ bare_statement
  again_while p e s f zero i j l g h = absurd (omega arith)
  again_while p e s f (suc left) i j l g h =
      let r = again_guarded while left (i + 1) j e s f (omega arith) (λ m k. g left m (omega arith) k) h.2.0 h.2.2 (start_at ts i) in
      record { tree = while (start_at ts i) (kept e) r.0; reads = statement_is (suc left) i ∙ rw h.0 r.1; same = rw (bare_kept e, r.2) }

  -- ---- foreach
  -- a statement can begin with the first token of every statement
  begins_so : (i : ℕ) → opens_at ts i ≡ true → begins_statement ts i ≡ true
  unfolding opens begins_statement
  begins_so i o = rw o

  begins : (s : Statement) → SoundStatement s → (i j : ℕ) → Stands ts i (statement_words s) j → begins_statement ts i ≡ true
  unfolding statement_words SoundStatement Sound begins_statement
  begins (declare p x) f i j h = rw h.0
  begins (assign p x e) f i j h = rw h.0
  begins (update p a b e) f i j s =
      let q = split ts i (words (entry a b) ++ sign 61 ++ words e) (sign 59) j s in
      let r = split ts i (words (entry a b) ++ sign 61) (words e) q.0 q.1 in
      let u = split ts i (words (entry a b)) (sign 61) r.0 r.1 in
      begins_so i (starts ts (entry a b) (f.0, f.1) i u.0 u.1)
  begins (when p e s) f i j h = rw h.0
  begins (while p e s) f i j h = rw h.0
  begins (foreach p x e s) f i j h = rw h.0
  begins (return p e) f i j h = rw h.0
  begins (block p ss) f i j h = rw h.0
  begins (act p e) f i j h =
      let q = split ts i (words e) (sign 59) j h in
      begins_so i (starts ts e f i q.0 q.1)

  -- a foreach
  again_foreach : (p : ℕ) (x : List ℕ) (e : Expression) (s : Statement) → Sound e → SoundStatement s → (left i j : ℕ) → statement_levels (foreach p x e s) ≤ left →
      ((left m : ℕ) → statement_levels s ≤ left → Stands ts m (statement_words s) j → Again s left m j) →
      Stands ts i (statement_words (foreach p x e s)) j → Again (foreach p x e s) left i j
  unfolding statement_words statement_levels statement_in iteration opening after expect if◌then◌otherwise◌ bare_statement operator_of
  again_foreach p x e s f u zero i j l g h = absurd (omega arith)
  again_foreach p x e s f u (suc left) i j l g h =
      let d = a_word 14 (bytes "do") in
      let q = split ts (i + 1 + 1 + 1) (words e ++ d) (statement_words s) j h.2.2.2 in
      let r = split ts (i + 1 + 1 + 1) (words e) d q.0 q.1 in
      let t = g left q.0 (omega arith) q.2 in
      record {
        tree = foreach (start_at ts i) x (kept e) t.tree;
        reads =
            statement_is (suc left) i ∙ rw (
              h.0,
              h.2.0,
              h.2.2.0,
              tree e f (suc left) (i + 1 + 1 + 1) r.0 14 (omega arith) r.1 r.2.0 (ends 14 refl refl refl),
            ) (rw (r.2.0, r.2.2, begins s u q.0 j q.2, t.reads, h.2.1));
        same = rw (bare_kept e, t.same);
      }

  -- ---- blocks
  -- no statement begins with a closing brace
  no_brace : (i : ℕ) → begins_statement ts i ≡ true → eqb (kind_at ts i) 125 ≡ false
  unfolding begins_statement
  no_brace i b = by (eqb (kind_at ts i) 125) refl
    where
      by : (t : Bool) → eqb (kind_at ts i) 125 ≡ t → t ≡ false
      by true e = sym (rw (eqb-true (kind_at ts i) 125 e) at b)
      by false e = refl

  -- nor do statements
  no_braces : (ss : Statements) → SoundStatements ss → (i j : ℕ) → Stands ts i (statements_words ss) j → eqb (kind_at ts i) 125 ≡ false
  unfolding statement_words SoundStatement
  no_braces (only s) f i j h = no_brace i (begins s f i j h)
  no_braces (first s ss) f i j h = let q = split ts i (statement_words s) (statements_words ss) j h in no_brace i (begins s f.0 i q.0 q.1)

  -- as many rounds as statements, and more
  pub rounds : Statements → ℕ → ℕ
  rounds (only s) r = suc r
  rounds (first s ss) r = suc (rounds ss r)

  rounds_more : (ss : Statements) (r : ℕ) → r < rounds ss r
  unfolding rounds
  rounds_more (only s) r = omega arith
  rounds_more (first s ss) r = omega (arith, rounds_more ss r)

  pub record AgainAll (ss : Statements) (r left i j : ℕ) : Type 0 where
    pub tree : Statements
    pub reads : statements_from (rounds ss r) (statement left ts) ts i ≡ good tree (j + 1)
    pub same : bare_statements tree ≡ bare_statements ss

  -- the last statement
  again_only : (s : Statement) (r left i j : ℕ) → Again s left i j → kind_at ts j ≡ 125 → AgainAll (only s) r left i j
  unfolding rounds statements_from after if◌then◌otherwise◌ bare_statement
  again_only s r left i j a k = record { tree = only a.tree; reads = rw (a.reads, k); same = rw a.same }

  -- a statement before others
  again_first : (s : Statement) (ss : Statements) → SoundStatements ss → (r left i m j : ℕ) → Again s left i m → Stands ts m (statements_words ss) j → AgainAll ss r left m j →
      AgainAll (first s ss) r left i j
  unfolding rounds statements_from after if◌then◌otherwise◌ bare_statement
  again_first s ss f r left i m j a h b =
      record { tree = first a.tree b.tree; reads = rw (a.reads, no_braces ss f m j h, b.reads); same = rw (a.same, b.same) }

  -- the rounds that the grammar gives are enough
  pub again_statements : (ss : Statements) (left i j : ℕ) → AgainAll ss (length ts) left i j →
      (t : Statements) × (statements (statement left ts) ts i ≡ good t (j + 1)) × (bare_statements t ≡ bare_statements ss)
  again_statements ss left i j a =
      (a.tree, sym (statements_rounds ts left i (rounds ss (length ts)) (omega (arith, rounds_more ss (length ts)))) ∙ a.reads, a.same)

  -- a block
  again_block : (p : ℕ) (ss : Statements) (left i j : ℕ) → statement_levels (block p ss) ≤ left →
      ((left i j : ℕ) → statements_levels ss ≤ left → Stands ts i (statements_words ss) j → kind_at ts j ≡ 125 → AgainAll ss (length ts) left i j) →
      Stands ts i (statement_words (block p ss)) j → Again (block p ss) left i j
  unfolding statement_words statement_levels statement_in opening after if◌then◌otherwise◌ bare_statement
  again_block p ss zero i j l g h = absurd (omega arith)
  again_block p ss (suc left) i j l g h =
      let q = split ts (i + 1) (statements_words ss) (sign 125) j h.2 in
      let r = again_statements ss left (i + 1) q.0 (g left (i + 1) q.0 (omega arith) q.1 q.2.0) in
      record { tree = block (start_at ts i) r.0; reads = statement_is (suc left) i ∙ rw (h.0, r.1, q.2.2); same = rw r.2 }

  -- ---- all statements
  mutual
    unfolding statement_words statement_levels SoundStatement

    pub again : (s : Statement) → SoundStatement s → (left i j : ℕ) → statement_levels s ≤ left → Stands ts i (statement_words s) j → Again s left i j
    again (declare p x) f left i j l h = again_declare p x left i j h
    again (assign p x e) f left i j l h = again_assign p x e f.0 f.1 left i j l h
    again (update p a b e) f left i j l h = again_update p a b e f.0 f.1 f.2 left i j l h
    again (when p e s) f left i j l h = again_when p e s f.0 left i j l (λ n m k w. again s f.1 n m j k w) h
    again (while p e s) f left i j l h = again_while p e s f.0 left i j l (λ n m k w. again s f.1 n m j k w) h
    again (foreach p x e s) f left i j l h = again_foreach p x e s f.1 f.2 left i j l (λ n m k w. again s f.2 n m j k w) h
    again (return p e) f left i j l h = again_return p e f left i j l h
    again (block p ss) f left i j l h = again_block p ss left i j l (λ n m k u w z. again_all ss f (length ts) n m k u w z) h
    again (act p e) f left i j l h = again_act p e f left i j l h

    pub again_all : (ss : Statements) → SoundStatements ss → (r left i j : ℕ) → statements_levels ss ≤ left → Stands ts i (statements_words ss) j → kind_at ts j ≡ 125 →
        AgainAll ss r left i j
    again_all (only s) f r left i j l h k = again_only s r left i j (again s f left i j l h) k
    again_all (first s ss) f r left i j l h k =
        let q = split ts i (statement_words s) (statements_words ss) j h in
        again_first s ss f.1 r left i q.0 j (again s f.0 left i q.0 (omega arith) q.1) q.2 (again_all ss f.1 r left q.0 j (omega arith) q.2 k)
