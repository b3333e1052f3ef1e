-- The words of a program are read as its procedures, but for parentheses and places.
use Prim.Native.Nat.{ℕ, suc, ◌+◌, ◌≤◌}
use native.Mathlib.Omega.{arith}
use mathlib.Core.Path.{◌≡◌, refl, ap, sym, ◌∙◌, subst}
use mathlib.Core.Bool.{Bool, true, false}
use mathlib.Core.List.{List, [], ◌∷◌, ◌++◌, map}
use mathlib.Core.Option.{Option, none, some}
use lib.ListN.{length, get_or-eq_default}
use Rattle.meaning.specs.Basics.{bytes, if◌then◌otherwise◌, same_text}
use Rattle.meaning.specs.Token.{Token}
use Rattle.meaning.specs.Grammar.{good, after, expect, kind_at, start_at, after_last, parameters_from, parameters, procedure, procedures_from, procedure_named, with_main, procedures}
use Rattle.meaning.specs.Tree.{Procedure, Program}
use Rattle.meaning.proofs.GrammarLaws.{parameters_rounds, procedures_rounds_lem}
use Rattle.canonical.specs.Bare.{bare_procedure, bare_program}
use Rattle.roundtrip.proofs.Words.{sign, joined, statements_words, statements_levels, name_words, procedure_words, procedures_words}
use Rattle.roundtrip.proofs.Sound.{SoundProcedure, SoundProcedures}
use Rattle.roundtrip.proofs.Stands.{Stands, split}
use Rattle.roundtrip.proofs.RereadingTree.{again_all, again_statements}

-- bodies that open at most 64 levels
unfoldable pub Shallow : List Procedure → Type 0
Shallow [] = Unit {0}
Shallow (f ∷ fs) = (statements_levels f.body ≤ 64) × Shallow fs

module _ (ts : List Token) where
  -- ---- parameters
  -- as many rounds as parameters, and more
  rounds : List (List ℕ) → ℕ → ℕ
  rounds [] r = r
  rounds (x ∷ xs) r = suc (rounds xs r)

  rounds_more : (xs : List (List ℕ)) (r : ℕ) → r ≤ rounds xs r
  unfolding rounds
  rounds_more [] r = omega arith
  rounds_more (x ∷ xs) r = omega (arith, rounds_more xs r)

  -- one parameter or more
  names_from : (x : List ℕ) (xs : List (List ℕ)) (r i j : ℕ) → Stands ts i (joined (name_words (x ∷ xs))) j → kind_at ts j ≡ 41 →
      parameters_from (suc (rounds xs r)) ts i ≡ good (x ∷ xs) (j + 1)
  unfolding parameters_from rounds joined name_words after expect if◌then◌otherwise◌
  names_from x [] r i j h k = rw (h.0, h.2, k, h.1)
  names_from x (y ∷ xs) r i j h k = rw (h.0, h.2.0, names_from y xs r (i + 1 + 1) j h.2.2 k, h.1)

  -- all parameters
  read_names : (xs : List (List ℕ)) (i j : ℕ) → Stands ts i (joined (name_words xs)) j → kind_at ts j ≡ 41 → parameters ts i ≡ good xs (j + 1)
  unfolding parameters joined name_words if◌then◌otherwise◌
  read_names [] i j h k =
      let d : kind_at ts i ≡ 41 = subst (λ (n : ℕ). kind_at ts n ≡ 41) (sym h) k in
      rw (d, h)
  read_names (x ∷ xs) i j h k =
      let d = first_of x xs i j h in
      let m = rounds_more xs (length ts) in
      rw (d, ← parameters_rounds ts i (suc (rounds xs (length ts))) (omega arith)) (names_from x xs (length ts) i j h k)
    where
      first_of : (x : List ℕ) (xs : List (List ℕ)) (i j : ℕ) → Stands ts i (joined (name_words (x ∷ xs))) j → kind_at ts i ≡ 1
      first_of x [] i j h = h.0
      first_of x (y ∷ xs) i j h = h.0

  -- ---- procedures
  pub record AgainProcedure (f : Procedure) (i j : ℕ) : Type 0 where
    pub tree : Procedure
    pub reads : procedure ts i ≡ good tree j
    pub same : bare_procedure tree ≡ bare_procedure f

  -- a procedure
  again_procedure : (f : Procedure) → SoundProcedure f → statements_levels f.body ≤ 64 → (i j : ℕ) → Stands ts i (procedure_words f) j → AgainProcedure f i j
  unfolding procedure_words procedure after expect if◌then◌otherwise◌ bare_procedure
  again_procedure f g l i j h =
      let a = joined (name_words f.parameters) in
      let b = statements_words f.body in
      let n = i + 1 + 1 + 1 in
      let p = split ts n (a ++ (sign 41 ++ sign 123) ++ b) (sign 125) j h.2.2.2 in
      let q = split ts n (a ++ (sign 41 ++ sign 123)) b p.0 p.1 in
      let r = split ts n a (sign 41 ++ sign 123) q.0 q.1 in
      let x = read_names f.parameters n r.0 r.1 r.2.0 in
      let y = again_statements ts f.body 64 q.0 p.0 (again_all ts f.body g.body (length ts) 64 q.0 p.0 l q.2 p.2.0) in
      record {
        tree = record { place = start_at ts i; name = f.name; parameters = f.parameters; body = y.0 };
        reads = rw (h.0, h.2.0, h.2.2.0, x, r.2.2.0, r.2.2.2, y.1, h.2.1, p.2.2);
        same = rw y.2;
      }

  -- ---- all procedures
  -- as many rounds as procedures, and more
  procedures_rounds : List Procedure → ℕ → ℕ
  procedures_rounds [] r = r
  procedures_rounds (f ∷ fs) r = suc (procedures_rounds fs r)

  procedures_more : (fs : List Procedure) (r : ℕ) → r ≤ procedures_rounds fs r
  unfolding procedures_rounds
  procedures_more [] r = omega arith
  procedures_more (f ∷ fs) r = omega (arith, procedures_more fs r)

  record AgainProcedures (f : Procedure) (fs : List Procedure) (r i : ℕ) : Type 0 where
    tree : List Procedure
    reads : procedures_from (suc (procedures_rounds fs r)) ts i ≡ good tree (length ts)
    same : map bare_procedure tree ≡ map bare_procedure (f ∷ fs)

  -- behind the last token
  last_kind : kind_at ts (length ts) ≡ 0
  last_kind = ap (λ (t : Token). t.kind) (get_or-eq_default ts after_last (omega arith))

  -- a procedure begins with def
  def_first : (f : Procedure) (i j : ℕ) → Stands ts i (procedure_words f) j → kind_at ts i ≡ 4
  unfolding procedure_words
  def_first f i j h = h.0

  -- and so do procedures
  begins_def : (f : Procedure) (fs : List Procedure) (i : ℕ) → Stands ts i (procedures_words (f ∷ fs)) (length ts) → kind_at ts i ≡ 4
  unfolding procedures_words
  begins_def f fs i h = let q = split ts i (procedure_words f) (procedures_words fs) (length ts) h in def_first f i q.0 q.1

  -- one procedure or more
  again_procedures : (f : Procedure) (fs : List Procedure) (r i : ℕ) → SoundProcedures (f ∷ fs) → Shallow (f ∷ fs) →
      Stands ts i (procedures_words (f ∷ fs)) (length ts) → AgainProcedures f fs r i
  unfolding procedures_words SoundProcedures Shallow procedures_from procedures_rounds after if◌then◌otherwise◌
  again_procedures f [] r i g l h =
      let p = split ts i (procedure_words f) [] (length ts) h in
      let s : Stands ts i (procedure_words f) (length ts) = subst (Stands ts i (procedure_words f)) p.2 p.1 in
      let a = again_procedure f g.0 l.0 i (length ts) s in
      record { tree = a.tree ∷ []; reads = rw (a.reads, last_kind); same = rw a.same }
  again_procedures f (f' ∷ fs) r i g l h =
      let p = split ts i (procedure_words f) (procedures_words (f' ∷ fs)) (length ts) h in
      let a = again_procedure f g.0 l.0 i p.0 p.1 in
      let b = again_procedures f' fs r p.0 g.1 l.1 p.2 in
      let d = begins_def f' fs p.0 p.2 in
      record { tree = a.tree ∷ b.tree; reads = rw (a.reads, d, b.reads); same = rw (a.same, b.same) }

-- ---- main
abbrev Bared : Option Procedure → Option Procedure
Bared none = none
Bared (some f) = some (bare_procedure f)

-- a procedure is found by its name alone
named_bare : (x : List ℕ) (fs : List Procedure) → procedure_named x (map bare_procedure fs) ≡ Bared (procedure_named x fs)
unfolding procedure_named bare_procedure if◌then◌otherwise◌
named_bare x [] = refl
named_bare x (f ∷ fs) = by (same_text f.name x) (named_bare x fs)
  where
    by : (b : Bool) → procedure_named x (map bare_procedure fs) ≡ Bared (procedure_named x fs) →
        (if b then (λ _. some (bare_procedure f)) otherwise λ _. procedure_named x (map bare_procedure fs)) ≡ Bared (if b then (λ _. some f) otherwise λ _. procedure_named x fs)
    by true h = refl
    by false h = h

-- procedures that are the same but for parentheses and places have the same main
same_named : (x : List ℕ) (fs gs : List Procedure) (f : Procedure) → map bare_procedure gs ≡ map bare_procedure fs → procedure_named x fs ≡ some f →
    (g : Procedure) × (procedure_named x gs ≡ some g) × (bare_procedure g ≡ bare_procedure f)
same_named x fs gs f e h =
    by (procedure_named x gs) refl (sym (named_bare x gs) ∙ ap (procedure_named x) e ∙ named_bare x fs ∙ ap Bared h)
  where
    by : (o : Option Procedure) → procedure_named x gs ≡ o → Bared o ≡ some (bare_procedure f) → (g : Procedure) × (procedure_named x gs ≡ some g) × (bare_procedure g ≡ bare_procedure f)
    by none k w = let z : ◌≡◌ {A = ℕ} 0 1 = cc in absurd (omega arith)
    by (some g) k w = (g, k, cc)

module _ (ts : List Token) where
  pub record AgainProgram (m : Program) : Type 0 where
    pub tree : Program
    pub end : ℕ
    pub reads : procedures ts ≡ good tree end
    pub same : bare_program tree ≡ bare_program m

  -- THE WORDS OF A PROGRAM ARE READ AS ITS TREE
  pub again_program : (m : Program) (f : Procedure) (fs : List Procedure) → m.procedures ≡ f ∷ fs → procedure_named (bytes "main") m.procedures ≡ some m.main →
      SoundProcedures (f ∷ fs) → Shallow (f ∷ fs) → Stands ts 0 (procedures_words (f ∷ fs)) (length ts) → AgainProgram m
  unfolding procedures after with_main bare_program
  again_program m f fs e main g l h =
      let a = again_procedures ts f fs (length ts) 0 g l h in
      let n = procedures_more ts fs (length ts) in
      let r = procedures_rounds_lem ts 0 (suc (length ts)) (omega arith) ∙ sym (procedures_rounds_lem ts 0 (suc (procedures_rounds ts fs (length ts))) (omega arith)) ∙ a.reads in
      let s : map bare_procedure a.tree ≡ map bare_procedure m.procedures = a.same ∙ ap (map bare_procedure) (sym e) in
      let b = same_named (bytes "main") m.procedures a.tree m.main s main in
      record {
        tree = record { procedures = a.tree; main = b.0 };
        end = length ts;
        reads = rw (r, b.1);
        same = λ i. record { procedures = s i; main = b.2 i };
      }
