-- Where the code of each procedure begins, and which slot has a procedure.
use Prim.Native.Nat.{ℕ, ◌+◌, ◌≤◌}
use native.Mathlib.Omega.{arith}
use mathlib.Core.Path.{◌≡◌, refl, sym, ap, ◌∙◌, subst}
use mathlib.Core.Logic.{◌⊎◌, inl, inr}
use mathlib.Core.Bool.{Bool, true, false}
use mathlib.Core.List.{List, [], ◌∷◌, map}
use mathlib.Core.Option.{Option, none, some}
use lib.ListN.{length, get_or, set, length-append, length-map}
use lib.Seq.{get_or-set_other}
use lib.Dec.{eqb}
use borrow.Author.Tests.{eqb-true, eqb-false}
use Rattle.meaning.specs.Basics.{if◌then◌otherwise◌, same_text}
use Rattle.meaning.specs.Token.{Token, a_name}
use Rattle.meaning.specs.Tree.{Procedure}
use Rattle.meaning.specs.Grammar.{procedure_named, kind_at, text_at}
use Rattle.code.specs.Code.{slot_of, code_of_statements, code_of_procedure, code_of_procedures, head_word, tabled, head_named}
use Rattle.reader.proofs.Homes.{same_text_lem, text_same, Occurs, occurs_found, slots_apart}
use Rattle.reader.proofs.Walk.{Stands, stands_front, stands_back}

some_none : {f : Procedure} {A : Type 0} → some f ≡ none → A
some_none e = let z : ◌≡◌ {A = ℕ} 0 1 = cc in absurd (omega arith)

pub code_length : (f : Procedure) (ts : List Token) → length (code_of_procedure f ts) ≡ length f.parameters + length (code_of_statements f.body ts)
unfolding code_of_procedure
code_length f ts = length-append (map (slot_of ts) f.parameters) (code_of_statements f.body ts) ∙ rw (length-map f.parameters (slot_of ts))

-- ---- where code begins
-- that of the first procedure of a name, among some whose code begins at a
unfoldable pub start_named : ℕ → List Procedure → List Token → List ℕ → ℕ
start_named a [] ts x = a
start_named a (f ∷ fs) ts x = if same_text f.name x then (λ _. a) otherwise λ _. start_named (a + length (code_of_procedure f ts)) fs ts x

pub record Lies (a : ℕ) (fs : List Procedure) (ts : List Token) (x : List ℕ) (f : Procedure) : Type 0 where
  pub named : f.name ≡ x
  pub word : head_named a fs ts x ≡ head_word (start_named a fs ts x) f ts
  pub low : a ≤ start_named a fs ts x
  pub high : start_named a fs ts x + length (code_of_procedure f ts) ≤ a + length (code_of_procedures fs ts)
  pub stands : (code : List ℕ) → Stands code a (code_of_procedures fs ts) → Stands code (start_named a fs ts x) (code_of_procedure f ts)

pub lies : (a : ℕ) (fs : List Procedure) (ts : List Token) (x : List ℕ) (f : Procedure) → procedure_named x fs ≡ some f → Lies a fs ts x f
unfolding procedure_named start_named head_named code_of_procedures if◌then◌otherwise◌
lies a [] ts x f e = some_none (sym e)
lies a (g ∷ fs) ts x f e = go (same_text g.name x) refl e (lies (a + length (code_of_procedure g ts)) fs ts x f)
  where
    go : (b : Bool) → same_text g.name x ≡ b → (if b then (λ _. some g) otherwise λ _. procedure_named x fs) ≡ some f
        → (procedure_named x fs ≡ some f → Lies (a + length (code_of_procedure g ts)) fs ts x f) → Lies a (g ∷ fs) ts x f
    go true s q i =
        let w : g ≡ f = cc in
        let at : start_named a (g ∷ fs) ts x ≡ a = rw s in
        subst (Lies a (g ∷ fs) ts x) w (record {
          named = same_text_lem g.name x s;
          word = rw s;
          low = rw at (omega arith);
          high = rw (at, length-append (code_of_procedure g ts) (code_of_procedures fs ts)) (omega arith);
          stands = λ code t. rw at (stands_front (code_of_procedure g ts) (code_of_procedures fs ts) t);
        })
    go false s q i =
        let r = i q in
        let at : start_named a (g ∷ fs) ts x ≡ start_named (a + length (code_of_procedure g ts)) fs ts x = rw s in
        record {
          named = r.named;
          word = rw s r.word;
          low = rw at (omega (arith, r.low));
          high = rw (at, length-append (code_of_procedure g ts) (code_of_procedures fs ts)) (omega (arith, r.high));
          stands = λ code t. rw at (r.stands code (stands_back (code_of_procedure g ts) (code_of_procedures fs ts) t));
        }

-- procedures of two names stand apart
abbrev Apart : ℕ → ℕ → ℕ → ℕ → Type 0
Apart a m b n = (a + m ≤ b) ⊎ (b + n ≤ a)

pub starts_apart : (a : ℕ) (fs : List Procedure) (ts : List Token) (x y : List ℕ) (f g : Procedure) → procedure_named x fs ≡ some f → procedure_named y fs ≡ some g
    → (x ≡ y → ⊥)
    → Apart (start_named a fs ts x) (length (code_of_procedure f ts)) (start_named a fs ts y) (length (code_of_procedure g ts))
unfolding procedure_named start_named if◌then◌otherwise◌
starts_apart a [] ts x y f g p q n = some_none (sym p)
starts_apart a (h ∷ fs) ts x y f g p q n =
    go (same_text h.name x) refl p (same_text h.name y) refl q (starts_apart (a + length (code_of_procedure h ts)) fs ts x y f g)
  where
    go : (b : Bool) → same_text h.name x ≡ b → (if b then (λ _. some h) otherwise λ _. procedure_named x fs) ≡ some f
        → (c : Bool) → same_text h.name y ≡ c → (if c then (λ _. some h) otherwise λ _. procedure_named y fs) ≡ some g
        → (procedure_named x fs ≡ some f → procedure_named y fs ≡ some g → (x ≡ y → ⊥)
        → Apart (start_named (a + length (code_of_procedure h ts)) fs ts x) (length (code_of_procedure f ts)) (start_named (a + length (code_of_procedure h ts)) fs ts y) (length (code_of_procedure g ts)))
        → Apart (if b then (λ _. a) otherwise λ _. start_named (a + length (code_of_procedure h ts)) fs ts x) (length (code_of_procedure f ts))
        (if c then (λ _. a) otherwise λ _. start_named (a + length (code_of_procedure h ts)) fs ts y) (length (code_of_procedure g ts))
    go true s e true t k i = absurd (n (sym (same_text_lem h.name x s) ∙ same_text_lem h.name y t))
    go true s e false t k i =
        let w : h ≡ f = cc in
        let l : a + length (code_of_procedure h ts) ≤ start_named (a + length (code_of_procedure h ts)) fs ts y = (lies (a + length (code_of_procedure h ts)) fs ts y g k).low in
        let m : length (code_of_procedure h ts) ≡ length (code_of_procedure f ts) = ap (λ (k : Procedure). length (code_of_procedure k ts)) w in
        inl (omega arith)
    go false s e true t k i =
        let w : h ≡ g = cc in
        let l : a + length (code_of_procedure h ts) ≤ start_named (a + length (code_of_procedure h ts)) fs ts x = (lies (a + length (code_of_procedure h ts)) fs ts x f e).low in
        let m : length (code_of_procedure h ts) ≡ length (code_of_procedure g ts) = ap (λ (k : Procedure). length (code_of_procedure k ts)) w in
        inr (omega arith)
    go false s e false t k i = i e k n

-- ---- the table
-- a slot that no procedure has is left
pub table_free : (a : ℕ) (fs : List Procedure) (ts : List Token) (table : List ℕ) (slot : ℕ)
    → ((x : List ℕ) → (procedure_named x fs ≡ none → ⊥) → slot_of ts x ≡ slot → ⊥) → get_or (tabled a fs ts table) slot 0 ≡ get_or table slot 0
unfolding tabled procedure_named if◌then◌otherwise◌
table_free a [] ts table slot h = refl
table_free a (f ∷ fs) ts table slot h =
    table_free (a + length (code_of_procedure f ts)) fs ts (set table (slot_of ts f.name) (head_word a f ts)) slot (λ x p q. h x (go x (same_text f.name x) p) q)
    ∙ get_or-set_other table (slot_of ts f.name) slot (head_word a f ts) 0 (λ q. h f.name (λ e. some_none (rw (text_same f.name) at e)) (sym q))
  where
    go : (x : List ℕ) (b : Bool) → (procedure_named x fs ≡ none → ⊥) → (if b then (λ _. some f) otherwise λ _. procedure_named x fs) ≡ none → ⊥
    go x true p e = some_none e
    go x false p e = p e

-- whether a procedure has a slot
pub record Has (fs : List Procedure) (ts : List Token) (slot : ℕ) : Type 0 where
  pub name : List ℕ
  pub procedure : Procedure
  pub occurs : Occurs ts a_name name
  pub is : procedure_named name fs ≡ some procedure
  pub there : slot_of ts name ≡ slot

abbrev pub Lacks : List Procedure → List Token → ℕ → Type 0
Lacks fs ts slot = (x : List ℕ) (f : Procedure) → Occurs ts a_name x → procedure_named x fs ≡ some f → slot_of ts x ≡ slot → ⊥

pub has_or_lacks : (fs : List Procedure) (ts : List Token) (slot : ℕ) → Has fs ts slot ⊎ Lacks fs ts slot
has_or_lacks fs ts slot = by_kind (eqb (kind_at ts slot) a_name) refl
  where
    by_name : Occurs ts a_name (text_at ts slot) → (p : Option Procedure) → procedure_named (text_at ts slot) fs ≡ p → slot_of ts (text_at ts slot) ≡ slot
        → Has fs ts slot ⊎ Lacks fs ts slot
    by_name o (some f) e q = inl (record { name = text_at ts slot; procedure = f; occurs = o; is = e; there = q })
    by_name o none e q = inr (λ y f p n r.
        let same : text_at ts slot ≡ y = (slots_apart ts (text_at ts slot) y o p).0 (q ∙ sym r) in
        some_none (sym n ∙ ap (λ (z : List ℕ). procedure_named z fs) (sym same) ∙ e))

    by_slot : Occurs ts a_name (text_at ts slot) → (b : Bool) → eqb (slot_of ts (text_at ts slot)) slot ≡ b → Has fs ts slot ⊎ Lacks fs ts slot
    by_slot o true e = by_name o (procedure_named (text_at ts slot) fs) refl (eqb-true _ _ e)
    by_slot o false e = inr (λ y f p n r.
        let same : text_at ts slot ≡ y = ap (text_at ts) (sym r) ∙ (occurs_found ts a_name y (omega arith) p).text in
        eqb-false _ _ e (ap (slot_of ts) same ∙ r))

    by_kind : (b : Bool) → eqb (kind_at ts slot) a_name ≡ b → Has fs ts slot ⊎ Lacks fs ts slot
    by_kind true e = by_slot (record { index = slot; kind = eqb-true _ _ e; text = refl }) (eqb (slot_of ts (text_at ts slot)) slot) refl
    by_kind false e = inr (λ y f p n r. eqb-false _ _ e (ap (kind_at ts) (sym r) ∙ (occurs_found ts a_name y (omega arith) p).kind))
