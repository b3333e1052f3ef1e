-- The table of procedures: by the slot of a name stands the word of the procedure of that name, and 0 if there is none.
use Prim.Native.Nat.{ℕ, zero, suc, ◌+◌, ◌%◌, ◌≤◌, ◌<◌}
use native.Mathlib.Omega.{arith}
use mathlib.Core.Path.{◌≡◌, refl, sym, ap, ◌∙◌, subst}
use mathlib.Core.Bool.{Bool, true, false, ◌||◌, cond}
use mathlib.Core.List.{List, [], ◌∷◌}
use mathlib.Core.Option.{Option, none, some}
use lib.ListN.{length, get_or, set, replicate, length-append, length-set, length-replicate, get_or-replicate, get_or-append}
use lib.Seq.{get_or-drop, get_or-set_same, get_or-set_other}
use lib.Dec.{eqb}
use borrow.Author.Tests.{ne_eqb}
use Rattle.meaning.specs.Basics.{if◌then◌otherwise◌, same_text}
use Rattle.meaning.specs.Token.{Token, a_name}
use Rattle.meaning.specs.Tree.{Statements, only, first, Procedure}
use Rattle.meaning.specs.Grammar.{procedure_named}
use Rattle.meaning.specs.Procedure.{is_among, in_library, doubled}
use Rattle.meaning.specs.Library.{library_of}
use Rattle.machine.specs.Opcodes.{table_place, procedure_word, start_in, parameters_in, body_in}
use Rattle.code.specs.Code.{slot_of, code_of_statements, code_of_procedure, code_of_procedures, head_word, tabled, head_named, statements_with}
use Rattle.reader.proofs.Homes.{same_text_lem, text_same, Occurs, slot_small, slots_apart}
use Rattle.reader.proofs.Fields.{statement_some}
use Rattle.reader.proofs.Trees.{Understood, UnderstoodAll}
use Rattle.reader.proofs.Walk.{Stands, stands_front, stands_back}

-- ---- a procedure's word
statements_some : (ss : Statements) (ts : List Token) → 0 < length (code_of_statements ss ts)
unfolding statements_with
statements_some (only s) ts = statement_some s ts
statements_some (first s ss) ts = rw length-append (omega (arith, statement_some s ts))

pub head_positive : (a : ℕ) (f : Procedure) (ts : List Token) → 0 < head_word a f ts
unfolding procedure_word
head_positive a f ts = omega (arith, statements_some f.body ts)

-- its parts
module _ (start parameters size : ℕ) (a : start < 65536) (b : parameters < 65536) where
  pub start_told : start_in (procedure_word start parameters size) ≡ start
  unfolding procedure_word
  start_told = omega arith

  pub parameters_told : parameters_in (procedure_word start parameters size) ≡ parameters
  unfolding procedure_word
  parameters_told = omega arith

  pub body_told : size < 65536 → body_in (procedure_word start parameters size) ≡ size
  unfolding procedure_word
  body_told few = omega arith

-- ---- the procedure of a name
pub head_none : (a : ℕ) (fs : List Procedure) (ts : List Token) (x : List ℕ) → procedure_named x fs ≡ none → head_named a fs ts x ≡ 0
unfolding procedure_named head_named if◌then◌otherwise◌
head_none a [] ts x e = refl
head_none a (f ∷ fs) ts x e = go (same_text f.name x) e (head_none (a + length (code_of_procedure f ts)) fs ts x)
  where
    go : (b : Bool) → (if b then (λ _. some f) otherwise λ _. procedure_named x fs) ≡ none
        → (procedure_named x fs ≡ none → head_named (a + length (code_of_procedure f ts)) fs ts x ≡ 0)
        → (if b then (λ _. head_word a f ts) otherwise λ _. head_named (a + length (code_of_procedure f ts)) fs ts x) ≡ 0
    go true q r = let z : ◌≡◌ {A = ℕ} 0 1 = cc in absurd (omega arith)
    go false q r = r q

-- the first procedure of a name, among some whose code begins at a
pub record Listed (a : ℕ) (fs : List Procedure) (ts : List Token) (x : List ℕ) (f : Procedure) : Type 0 where
  pub start : ℕ
  pub word : head_named a fs ts x ≡ head_word start f ts
  pub some : 0 < head_named a fs ts x
  pub named : f.name ≡ x
  pub stands : (code : List ℕ) → Stands code a (code_of_procedures fs ts) → Stands code start (code_of_procedure f ts)
  pub within : start + length (code_of_procedure f ts) ≤ a + length (code_of_procedures fs ts)

pub head_some : (a : ℕ) (fs : List Procedure) (ts : List Token) (x : List ℕ) (f : Procedure) → procedure_named x fs ≡ some f → Listed a fs ts x f
unfolding procedure_named if◌then◌otherwise◌ head_named code_of_procedures
head_some a [] ts x f e = let z : ◌≡◌ {A = ℕ} 0 1 = cc in absurd (omega arith)
head_some a (g ∷ fs) ts x f e = go (same_text g.name x) refl e (head_some (a + length (code_of_procedure g ts)) fs ts x f)
  where
    go : (b : Bool) → same_text g.name x ≡ b → (if b then (λ _. some g) otherwise λ _. procedure_named x fs) ≡ some f
        → (procedure_named x fs ≡ some f → Listed (a + length (code_of_procedure g ts)) fs ts x f) → Listed a (g ∷ fs) ts x f
    go true s q i =
        let w : g ≡ f = cc in
        let h : head_named a (g ∷ fs) ts x ≡ head_word a g ts = rw s in
        subst (Listed a (g ∷ fs) ts x) w (record {
          start = a;
          word = h;
          some = rw h (head_positive a g ts);
          named = same_text_lem g.name x s;
          stands = λ code t. stands_front (code_of_procedure g ts) (code_of_procedures fs ts) t;
          within = rw length-append (omega arith);
        })
    go false s q i =
        let r = i q in
        let h : head_named a (g ∷ fs) ts x ≡ head_named (a + length (code_of_procedure g ts)) fs ts x = rw s in
        record {
          start = r.start;
          word = h ∙ r.word;
          some = rw h r.some;
          named = r.named;
          stands = λ code t. r.stands code (stands_back (code_of_procedure g ts) (code_of_procedures fs ts) t);
          within = rw length-append (omega (arith, r.within));
        }

pub named_understood : (ts : List Token) (fs : List Procedure) → UnderstoodAll ts fs → (x : List ℕ) (f : Procedure) → procedure_named x fs ≡ some f → Understood ts f
unfolding procedure_named UnderstoodAll if◌then◌otherwise◌
named_understood ts [] u x f e = let z : ◌≡◌ {A = ℕ} 0 1 = cc in absurd (omega arith)
named_understood ts (g ∷ fs) u x f e = go (same_text g.name x) e (named_understood ts fs u.1 x f)
  where
    go : (b : Bool) → (if b then (λ _. some g) otherwise λ _. procedure_named x fs) ≡ some f → (procedure_named x fs ≡ some f → Understood ts f) → Understood ts f
    go true q r = let w : g ≡ f = cc in subst (Understood ts) w u.0
    go false q r = r q

-- ---- names that stand once
either_false : (a b : Bool) → a || b ≡ false → (a ≡ false) × (b ≡ false)
either_false false b e = (refl, e)
either_false true b e = let z : ◌≡◌ {A = ℕ} 0 1 = cc in absurd (omega arith)

picked_none : (b : Bool) (p : ℕ) (d : Option ℕ) → (if b then (λ _. some p) otherwise λ _. d) ≡ none → (b ≡ false) × (d ≡ none)
unfolding if◌then◌otherwise◌
picked_none true p d e = let z : ◌≡◌ {A = ℕ} 0 1 = cc in absurd (omega arith)
picked_none false p d e = (refl, e)

-- no name is that of an earlier procedure or of the library
pub record Apart (names : List (List ℕ)) (f : Procedure) (fs : List Procedure) : Type 0 where
  pub new : is_among f.name names ≡ false
  pub own : in_library (library_of f.name) ≡ false
  pub rest : doubled (f.name ∷ names) fs ≡ none

pub apart : (names : List (List ℕ)) (f : Procedure) (fs : List Procedure) → doubled names (f ∷ fs) ≡ none → Apart names f fs
unfolding doubled
apart names f fs e =
    let p = picked_none (is_among f.name names || in_library (library_of f.name)) f.place (doubled (f.name ∷ names) fs) e in
    let q = either_false _ _ p.0 in
    record { new = q.0; own = q.1; rest = p.1 }

lacks : (x : List ℕ) (names : List (List ℕ)) (fs : List Procedure) → is_among x names ≡ true → doubled names fs ≡ none → procedure_named x fs ≡ none
unfolding procedure_named is_among if◌then◌otherwise◌
lacks x names [] m e = refl
lacks x names (f ∷ fs) m e =
    let p = apart names f fs e in
    go (same_text f.name x) refl p.new (lacks x (f.name ∷ names) fs (rw m (or_true (same_text f.name x))) p.rest)
  where
    or_true : (b : Bool) → b || true ≡ true
    or_true true = refl
    or_true false = refl

    go : (b : Bool) → same_text f.name x ≡ b → is_among f.name names ≡ false → procedure_named x fs ≡ none
        → (if b then (λ _. some f) otherwise λ _. procedure_named x fs) ≡ none
    go true s n q =
        let w : is_among f.name names ≡ is_among x names = ap (λ y. is_among y names) (same_text_lem f.name x s) in
        let z : ◌≡◌ {A = ℕ} 0 1 = cc in absurd (omega arith)
    go false s n q = q

-- ---- the table
-- a word if it is not 0, else another
unfoldable or_else : ℕ → ℕ → ℕ
or_else h t = cond (eqb h 0) t h

or_zero : (t : ℕ) → or_else 0 t ≡ t
unfolding or_else
or_zero t = refl

or_none : (h : ℕ) → or_else h 0 ≡ h
unfolding or_else
or_none zero = refl
or_none (suc h) = rw (ne_eqb (suc h) 0 (λ e. omega arith))

or_some : (h t : ℕ) → 0 < h → or_else h t ≡ h
unfolding or_else
or_some h t l = rw (ne_eqb h 0 (λ e. omega arith))

module _ (ts : List Token) (few : length ts ≤ 8192) where
  table_from : (a : ℕ) (names : List (List ℕ)) (fs : List Procedure) (table : List ℕ) → length table ≡ 8192 → UnderstoodAll ts fs → doubled names fs ≡ none
      → (x : List ℕ) → Occurs ts a_name x → get_or (tabled a fs ts table) (slot_of ts x) 0 ≡ or_else (head_named a fs ts x) (get_or table (slot_of ts x) 0)
  unfolding tabled head_named UnderstoodAll if◌then◌otherwise◌ is_among
  table_from a names [] table l u e x o = sym (or_zero (get_or table (slot_of ts x) 0))
  table_from a names (f ∷ fs) table l u e x o =
      let p = apart names f fs e in
      let w = head_word a f ts in
      table_from (a + length (code_of_procedure f ts)) (f.name ∷ names) fs (set table (slot_of ts f.name) w) (rw length-set l) u.1 p.rest x o
      ∙ go (same_text f.name x) refl p.rest
    where
      go : (b : Bool) → same_text f.name x ≡ b → doubled (f.name ∷ names) fs ≡ none
          → or_else (head_named (a + length (code_of_procedure f ts)) fs ts x) (get_or (set table (slot_of ts f.name) (head_word a f ts)) (slot_of ts x) 0)
          ≡ or_else (if b then (λ _. head_word a f ts) otherwise λ _. head_named (a + length (code_of_procedure f ts)) fs ts x) (get_or table (slot_of ts x) 0)
      go true s d =
          let n : f.name ≡ x = same_text_lem f.name x s in
          let none_left = head_none (a + length (code_of_procedure f ts)) fs ts x (lacks x (f.name ∷ names) fs (rw s) d) in
          let small : slot_of ts x < length table = omega (arith, slot_small ts x o) in
          rw (none_left, n, get_or-set_same table (slot_of ts x) (head_word a f ts) 0 small, or_some (head_word a f ts) (get_or table (slot_of ts x) 0) (head_positive a f ts)) (or_zero _)
      go false s d =
          let other : slot_of ts x ≡ slot_of ts f.name → ⊥ = λ q.
          let n : f.name ≡ x = sym ((slots_apart ts x f.name o u.0.name).0 q) in
          let t : same_text f.name x ≡ true = rw n (text_same x) in
          let z : ◌≡◌ {A = ℕ} 0 1 = cc in omega arith in
          rw (get_or-set_other table (slot_of ts f.name) (slot_of ts x) (head_word a f ts) 0 other)

  pub table_at : (fs : List Procedure) → UnderstoodAll ts fs → doubled [] fs ≡ none → (x : List ℕ) → Occurs ts a_name x
      → get_or (tabled 0 fs ts (replicate 8192 0)) (slot_of ts x) 0 ≡ head_named 0 fs ts x
  table_at fs u e x o =
      table_from 0 [] fs (replicate 8192 0) (length-replicate {A = ℕ} 8192 0) u e x o
      ∙ ap (or_else (head_named 0 fs ts x)) (get_or-replicate 8192 (slot_of ts x) 0 0 (omega (arith, slot_small ts x o)))
      ∙ or_none (head_named 0 fs ts x)

pub table_length : (a : ℕ) (fs : List Procedure) (ts : List Token) (table : List ℕ) → length (tabled a fs ts table) ≡ length table
unfolding tabled
table_length a [] ts table = refl
table_length a (f ∷ fs) ts table = table_length (a + length (code_of_procedure f ts)) fs ts (set table (slot_of ts f.name) (head_word a f ts)) ∙ length-set table (slot_of ts f.name) (head_word a f ts)

-- a word of the table, behind the code
pub table_word : (code table : List ℕ) → Stands code 8192 table → length table ≡ 8192 → (slot : ℕ) → slot < 8192 → get_or code (table_place slot) 0 ≡ get_or table slot 0
table_word code table s long slot l =
    let i : slot % 8192 ≡ slot = omega arith in
    rw i (sym (get_or-drop 8192 code slot 0) ∙ ap (λ (c : List ℕ). get_or c slot 0) s.here ∙ get_or-append table s.behind 0 slot (omega (arith, long)))
