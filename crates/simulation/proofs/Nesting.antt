-- In a program that was read, each body has at most 64 foreach inside one another: each is a level of its own.
use Prim.Native.Nat.{ℕ, zero, suc, ◌+◌, ◌-◌, ◌≤◌, ◌<◌}
use native.Mathlib.Omega.{arith}
use mathlib.Core.Path.{◌≡◌, subst}
use mathlib.Core.Bool.{Bool, true, false}
use mathlib.Core.List.{List, [], ◌∷◌}
use mathlib.Core.Option.{Option, none, some}
use lib.ListN.{length}
use Rattle.meaning.specs.Basics.{bytes, if◌then◌otherwise◌, same_text}
use Rattle.meaning.specs.Token.{Token}
use Rattle.meaning.specs.Tree.{Expression, Statement, declare, assign, update, when, while, foreach, return, block, act, Statements, only, first, Procedure, Program}
use Rattle.meaning.specs.Grammar.{Got, good, wrong, expect, start_at, Inside, ReadExpression, ReadStatement, Readers, declaration, returning, Target, variable, element, no_target, target_of, assignment}
use Rattle.meaning.specs.Grammar.{simple, guarded, iteration, statements_from, statement_in, expression, statement, procedure, procedures_from, procedure_named, with_main, procedures}
use Rattle.reader.proofs.Yields.{Yields, yields, fails, yielded, Inner, closed, opened, yields_if, yields_after, yields_opening}
use Rattle.simulation.specs.Nesting.{Nests, NestsAll}

-- ---- more may stand
mutual
  unfolding Nests NestsAll

  nests_more : (s : Statement) {m n : ℕ} → m ≤ n → Nests m s → Nests n s
  nests_more (declare p x) l h = tt
  nests_more (assign p x e) l h = tt
  nests_more (update p a b e) l h = tt
  nests_more (when p e s) l h = nests_more s l h
  nests_more (while p e s) l h = nests_more s l h
  nests_more (foreach p x e s) l h = (omega (arith, h.0), nests_more s (omega arith) h.1)
  nests_more (return p e) l h = tt
  nests_more (block p ss) l h = nests_more_all ss l h
  nests_more (act p e) l h = tt

  nests_more_all : (ss : Statements) {m n : ℕ} → m ≤ n → NestsAll m ss → NestsAll n ss
  nests_more_all (only s) l h = nests_more s l h
  nests_more_all (first s ss) l h = (nests_more s l h.0, nests_more_all ss l h.1)

-- ---- what is read
any : {A : Type 0} (x : Got A) → Yields (λ _ _. Unit {0}) x
any (good a j) = yields tt
any (wrong n p) = fails

expected : {A : Type 0} {P : A → ℕ → Type 0} (k : ℕ) (ts : List Token) (j : ℕ) (a : A) → P a (j + 1) → Yields P (expect k ts j a)
unfolding expect
expected k ts j a p = yields_if _ _ _ (λ _. yields p) λ _. fails

abbrev Nested : ℕ → Statement → ℕ → Type 0
Nested n s j = Nests n s

abbrev NestedAll : ℕ → Statements → ℕ → Type 0
NestedAll n ss j = NestsAll n ss

-- statements inside a level, of n levels
record Levelled (n : ℕ) (r : Readers) : Type 0 where
  some_level : 0 < n
  inner : (i : ℕ) → Yields (Nested (n - 1)) (r.in_statement i)

module _ (ts : List Token) where
  declaration_nests : (n i : ℕ) → Yields (Nested n) (declaration ts i)
  unfolding declaration Nests
  declaration_nests n i = yields_if _ _ _ (λ _. expected _ ts _ _ tt) λ _. fails

  returning_nests : (n : ℕ) (f : ReadExpression) (i : ℕ) → Yields (Nested n) (returning f ts i)
  unfolding returning Nests
  returning_nests n f i = yields_after _ (any (f (i + 1))) λ e j _. expected _ ts _ _ tt

  assignment_nests : (n : ℕ) (f : ReadExpression) (p j : ℕ) (a : Target) → Yields (Nested n) (assignment f ts p j a)
  unfolding assignment Nests
  assignment_nests n f p j (variable x) = yields_after _ (any (f (j + 1))) λ e m _. expected _ ts _ _ tt
  assignment_nests n f p j (element a b) = yields_after _ (any (f (j + 1))) λ e m _. expected _ ts _ _ tt
  assignment_nests n f p j no_target = fails

  simple_nests : (n : ℕ) (f : ReadExpression) (i : ℕ) → Yields (Nested n) (simple f ts i)
  unfolding simple Nests
  simple_nests n f i = yields_after _ (any (f i)) λ a j _. yields_if _ _ _ (λ _. assignment_nests n f _ j (target_of a)) λ _. expected _ ts _ _ tt

  statements_nest : (n : ℕ) (f : ReadStatement) → ((i : ℕ) → Yields (Nested n) (f i)) → (rounds i : ℕ) → Yields (NestedAll n) (statements_from rounds f ts i)
  unfolding statements_from NestsAll
  statements_nest n f h zero i = fails
  statements_nest n f h (suc rounds) i =
      yields_after _ (h i) λ s j p. yields_if _ _ _ (λ _. yields p) λ _. yields_after _ (statements_nest n f h rounds j) λ ss m q. yields (p, q)

  module _ (n : ℕ) {x : Inside Readers} (l : Inner (Levelled n) x) where
    guarded_nests : (make : Expression → Statement → Statement) → ((e : Expression) (s : Statement) → Nests n s → Nests n (make e s)) → (i : ℕ) → Yields (Nested n) (guarded make x ts i)
    unfolding guarded
    guarded_nests make h i =
        yields_if _ _ _
        (λ _. yields_opening _ _ l λ f b. yields_after _ (any (f.in_expression (i + 1))) λ e j _. yields_after _ (any (expect _ ts j tt)) λ _ m _.
        yields_after _ (b.inner m) λ s k q. yields (h e s (nests_more s (omega arith) q)))
        λ _. fails

    iteration_nests : (f : ReadExpression) (i : ℕ) → Yields (Nested n) (iteration f x ts i)
    unfolding iteration Nests
    iteration_nests f i =
        yields_after _ (any (expect _ ts (i + 1) _)) λ y i₂ _. yields_after _ (any (expect _ ts i₂ tt)) λ _ i₃ _.
        yields_after _ (any (f i₃)) λ e j _. yields_after _ (any (expect _ ts j tt)) λ _ m _.
        yields_if _ _ _ (λ _. yields_opening _ _ l λ r b. yields_after _ (b.inner m) λ s k q. yields (b.some_level, q)) λ _. fails

    statement_in_nests : (f : ReadExpression) (i : ℕ) → Yields (Nested n) (statement_in f x ts i)
    unfolding statement_in Nests
    statement_in_nests f i =
        yields_if _ _ _ (λ _. declaration_nests n i)
        λ _. yields_if _ _ _ (λ _. guarded_nests (when (start_at ts i)) (λ e s h. h) (i + 1))
        λ _. yields_if _ _ _ (λ _. guarded_nests (while (start_at ts i)) (λ e s h. h) (i + 1))
        λ _. yields_if _ _ _ (λ _. iteration_nests f i)
        λ _. yields_if _ _ _ (λ _. returning_nests n f i)
        λ _. yields_if _ _ _
        (λ _. yields_opening _ _ l λ r b. yields_after _ (statements_nest (n - 1) r.in_statement b.inner _ (i + 1)) λ ss j q.
        yields (nests_more_all ss (omega arith) q))
        λ _. simple_nests n f i

  levelled : (left : ℕ) → ((i : ℕ) → Yields (Nested left) (statement left ts i)) → Levelled (suc left) (record { in_expression = expression left ts; in_statement = statement left ts })
  levelled left h =
      let q : left ≡ suc left - 1 = omega arith in
      record { some_level = omega arith; inner = λ i. subst (λ n. Yields (Nested n) (statement left ts i)) q (h i) }

  statement_nests : (left i : ℕ) → Yields (Nested left) (statement left ts i)
  unfolding statement
  statement_nests zero i = statement_in_nests zero closed _ i
  statement_nests (suc left) i = statement_in_nests (suc left) (opened (levelled left (statement_nests left))) _ i

  -- ---- procedures
  procedure_nests : (i : ℕ) → Yields (λ f _. NestsAll 64 f.body) (procedure ts i)
  unfolding procedure
  procedure_nests i =
      yields_after _ (any _) λ _ i₁ _. yields_after _ (any _) λ f i₂ _. yields_after _ (any _) λ _ i₃ _. yields_after _ (any _) λ xs i₄ _.
      yields_after _ (any _) λ _ i₅ _. yields_after _ (statements_nest 64 (statement 64 ts) (statement_nests 64) _ i₅) λ ss i₆ q. yields q

  abbrev Each : List Procedure → Type 0
  Each fs = (x : List ℕ) (f : Procedure) → procedure_named x fs ≡ some f → NestsAll 64 f.body

  each_more : (f : Procedure) (fs : List Procedure) → NestsAll 64 f.body → Each fs → Each (f ∷ fs)
  unfolding procedure_named if◌then◌otherwise◌
  each_more f fs h hs x f' e = go (same_text f.name x) e
    where
      go : (b : Bool) → (if b then (λ _. some f) otherwise λ _. procedure_named x fs) ≡ some f' → NestsAll 64 f'.body
      go true q = let w : f ≡ f' = cc in subst (λ u. NestsAll 64 u.body) w h
      go false q = hs x f' q

  each_none : Each []
  unfolding procedure_named
  each_none x f e = let z : ◌≡◌ {A = ℕ} 0 1 = cc in absurd (omega arith)

  procedures_from_nest : (rounds i : ℕ) → Yields (λ fs _. Each fs) (procedures_from rounds ts i)
  unfolding procedures_from
  procedures_from_nest zero i = fails
  procedures_from_nest (suc rounds) i =
      yields_after _ (procedure_nests i) λ f j p. yields_if _ _ _ (λ _. yields (each_more f [] p each_none))
      λ _. yields_after _ (procedures_from_nest rounds j) λ fs m q. yields (each_more f fs p q)

  with_main_lem : (fs : List Procedure) (j : ℕ) → Each fs → (o : Option Procedure) → Yields (λ m _. Each m.procedures) (with_main ts fs j o)
  unfolding with_main
  with_main_lem fs j p none = fails
  with_main_lem fs j p (some m) = yields p

  -- each body that a name finds
  pub procedures_nest : (m : Program) (j : ℕ) → procedures ts ≡ good m j → (x : List ℕ) (f : Procedure) → procedure_named x m.procedures ≡ some f → NestsAll 64 f.body
  unfolding procedures
  procedures_nest m j e =
      yielded (yields_after {P = λ m _. Each m.procedures} _ (procedures_from_nest (suc (length ts)) 0) λ fs i p. with_main_lem fs i p (procedure_named (bytes "main") fs)) e
