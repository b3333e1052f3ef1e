-- What each way through the code does.
use Prim.Native.Nat.{ℕ, zero, suc, ◌+◌, ◌-◌, ◌*◌, ◌/◌, ◌%◌, ◌≤◌, ◌<◌}
use mathlib.Core.Path.{◌≡◌, refl, ap, sym, ◌∙◌}
use mathlib.Core.Bool.{Bool, true, false}
use mathlib.Core.List.{List, [], ◌∷◌, ◌++◌}
use native.Mathlib.Omega.{arith}
use lib.ListN.{get_or, set, length, replicate, length-set}
use lib.Seq.{get_or-set_other}
use lib.Dec.{eqb}
use borrow.Author.Tests.{eq-eqb, ne_eqb}
use Rattle.meaning.specs.Basics.{if◌then◌otherwise◌}
use Rattle.machine.specs.Opcodes.{tag_in, number_in, extra_in, table_place, start_in, parameters_in, body_in}
use Rattle.numbering.specs.Pass.{words_from, put_from, Entries, entries, is_entered, number_of, entered, entered_all, slot_follows, slots_in, declared_slots}
use Rattle.numbering.specs.Pass.{renumbered_word, renumbered_words, pass, framed_word, renumbered_code, number_procedure, settled, number_slot, number_slots, number_all}

-- ---- a slot
module _ (table : List ℕ) (stamp slot : ℕ) where
  pub entered_so : (w : ℕ) → w ≡ get_or table (slot % 8192) 0 → eqb (w / 65536) stamp ≡ is_entered table stamp slot
  unfolding is_entered
  entered_so w e = rw e

  pub number_told : (n w : ℕ) → w ≡ get_or table (slot % 8192) 0 → w / 65536 ≡ stamp → w % 65536 ≡ number_of table stamp n slot
  unfolding number_of is_entered if◌then◌otherwise◌
  number_told n w e q =
      let t : eqb (get_or table (slot % 8192) 0 / 65536) stamp ≡ true = rw (← e) (eq-eqb _ _ q) in
      rw (t, e)

  pub number_missing : (n w : ℕ) → w ≡ get_or table (slot % 8192) 0 → (w / 65536 ≡ stamp → ⊥) → n % 65536 ≡ number_of table stamp n slot
  unfolding number_of is_entered if◌then◌otherwise◌
  number_missing n w e q =
      let t : eqb (get_or table (slot % 8192) 0 / 65536) stamp ≡ false = rw (← e) (ne_eqb _ _ q) in
      rw t

  pub enter_again : (n : ℕ) (b : Bool) → b ≡ is_entered table stamp slot → b ≡ true → entries table n ≡ entered stamp slot (entries table n)
  unfolding entered if◌then◌otherwise◌
  enter_again n b e t = rw (sym e ∙ t)

  pub enter_new : (n : ℕ) (b : Bool) (after : List ℕ) → b ≡ is_entered table stamp slot → b ≡ false → after ≡ set table (slot % 8192) (65536 * stamp + n % 65536)
      → entries after (n % 65536 + 1) ≡ entered stamp slot (entries table n)
  unfolding entered if◌then◌otherwise◌
  enter_new n b after e t q = rw (sym e ∙ t, q)

-- ---- a word
module _ (stamp : ℕ) (b : Bool) (w : ℕ) (table after : List ℕ) (m r : ℕ) where
  pub word_slot : b ≡ true → entries after r ≡ entered stamp w (entries table m) → entries after r ≡ entered_all stamp (slots_in b w) (entries table m)
  unfolding slots_in entered_all
  word_slot e q = rw e q

  pub word_declares : b ≡ false → (t x : ℕ) → t ≡ tag_in w → t ≡ 32 → x ≡ extra_in w → entries after r ≡ entered stamp x (entries table m)
      → entries after r ≡ entered_all stamp (slots_in b w) (entries table m)
  unfolding slots_in entered_all if◌then◌otherwise◌
  word_declares e t x u v k q =
      let y : eqb (tag_in w) 32 ≡ true = eq-eqb _ _ (sym u ∙ v) in
      rw (e, y, sym k) q

pub word_idle : (stamp : ℕ) (b : Bool) (w : ℕ) (table : List ℕ) (m : ℕ) → b ≡ false → (t : ℕ) → t ≡ tag_in w → (t ≡ 32 → ⊥)
    → entries table m ≡ entered_all stamp (slots_in b w) (entries table m)
unfolding slots_in entered_all if◌then◌otherwise◌
word_idle stamp b w table m e t u v =
    let y : eqb (tag_in w) 32 ≡ false = ne_eqb _ _ (λ z. v (u ∙ z)) in
    rw (e, y)

module _ (v : ℕ → ℕ) (b : Bool) (w : ℕ) where
  pub renumber_slot : (r : ℕ) → b ≡ true → r ≡ v w → r ≡ renumbered_word v b w
  unfolding renumbered_word
  renumber_slot r e q = rw e q

  module _ (word : b ≡ false) (t : ℕ) (tag : t ≡ tag_in w) where
    pub renumber_name : (x r : ℕ) → t ≡ 5 → x ≡ number_in w → r ≡ v x → w % 4294967296 + 4294967296 * r ≡ renumbered_word v b w
    unfolding renumbered_word if◌then◌otherwise◌
    renumber_name x r e q k =
        let y : eqb (tag_in w) 5 ≡ true = eq-eqb _ _ (sym tag ∙ e) in
        rw (word, y, k, q)

    pub renumber_declare : (x r : ℕ) → (t ≡ 5 → ⊥) → t ≡ 32 → x ≡ extra_in w → r ≡ v x → w % 281474976710656 + 281474976710656 * r ≡ renumbered_word v b w
    unfolding renumbered_word if◌then◌otherwise◌
    renumber_declare x r n e q k =
        let y : eqb (tag_in w) 5 ≡ false = ne_eqb _ _ (λ z. n (tag ∙ z)) in
        let z : eqb (tag_in w) 32 ≡ true = eq-eqb _ _ (sym tag ∙ e) in
        rw (word, y, z, k, q)

    pub renumber_assign : (x r : ℕ) → (t ≡ 5 → ⊥) → (t ≡ 32 → ⊥) → eqb t 33 ≡ true → x ≡ extra_in w → r ≡ v x
        → w % 281474976710656 + 281474976710656 * r ≡ renumbered_word v b w
    unfolding renumbered_word if◌then◌otherwise◌
    renumber_assign x r n o e q k =
        let y : eqb (tag_in w) 5 ≡ false = ne_eqb _ _ (λ z. n (tag ∙ z)) in
        let z : eqb (tag_in w) 32 ≡ false = ne_eqb _ _ (λ z. o (tag ∙ z)) in
        let u : eqb (tag_in w) 33 ≡ true = rw (← tag) e in
        rw (word, y, z, u, k, q)

    pub renumber_other : (t ≡ 5 → ⊥) → (t ≡ 32 → ⊥) → eqb t 33 ≡ false → w ≡ renumbered_word v b w
    unfolding renumbered_word if◌then◌otherwise◌
    renumber_other n o p =
        let x : eqb (tag_in w) 5 ≡ false = ne_eqb _ _ (λ z. n (tag ∙ z)) in
        let y : eqb (tag_in w) 32 ≡ false = ne_eqb _ _ (λ z. o (tag ∙ z)) in
        let z : eqb (tag_in w) 33 ≡ false = rw (← tag) p in
        rw (word, x, y, z)

-- ---- words one after the other
pub words_more : (code : List ℕ) (a n k : ℕ) → k < n → words_from code (a + k) (n - k) ≡ get_or code (a + k) 0 ∷ words_from code (a + (k + 1)) (n - (k + 1))
unfolding words_from
words_more code a n k l =
    let s : n - k ≡ suc (n - (k + 1)) = omega arith in
    let t : a + k + 1 ≡ a + (k + 1) = omega arith in
    rw (s, t)

pub words_none : (code : List ℕ) (a n k : ℕ) → n ≤ k → words_from code (a + k) (n - k) ≡ []
unfolding words_from
words_none code a n k l = let s : n - k ≡ 0 = omega arith in rw s

words_all : (code : List ℕ) (a n : ℕ) → words_from code (a + 0) (n - 0) ≡ words_from code a n
words_all code a n = let s : n - 0 ≡ n = omega arith in let t : a + 0 ≡ a = omega arith in rw (s, t)

pub words_set : (code : List ℕ) (i w a n : ℕ) → i < a → words_from (set code i w) a n ≡ words_from code a n
unfolding words_from
words_set code i w a zero l = refl
words_set code i w a (suc n) l = rw (get_or-set_other code i a w 0 (λ e. omega arith), words_set code i w (a + 1) n (omega arith))

-- ---- lengths
entered_long : (stamp slot : ℕ) (e : Entries) → length (entered stamp slot e).table ≡ length e.table
unfolding entered if◌then◌otherwise◌
entered_long stamp slot e = go (is_entered e.table stamp slot)
  where
    go : (b : Bool) → length (if b then (λ _. e) otherwise λ _. entries (set e.table (slot % 8192) (65536 * stamp + e.count % 65536)) (e.count % 65536 + 1)).table
        ≡ length e.table
    go true = refl
    go false = length-set e.table (slot % 8192) (65536 * stamp + e.count % 65536)

entered_all_long : (stamp : ℕ) (slots : List ℕ) (e : Entries) → length (entered_all stamp slots e).table ≡ length e.table
unfolding entered_all
entered_all_long stamp [] e = refl
entered_all_long stamp (slot ∷ slots) e = entered_all_long stamp slots (entered stamp slot e) ∙ entered_long stamp slot e

-- ---- parameters
-- what is left to enter leads to the same
pub record Entering (code table₀ : List ℕ) (stamp a n : ℕ) (table : List ℕ) (m k : ℕ) : Type 0 where
  pub few : k ≤ n
  pub long : length table ≡ length table₀
  pub same : entered_all stamp (words_from code (a + k) (n - k)) (entries table m) ≡ entered_all stamp (words_from code a n) (entries table₀ 0)

module _ (code table₀ : List ℕ) (stamp a n : ℕ) where
  pub enter_none : Entering code table₀ stamp a n table₀ 0 0
  enter_none = record { few = omega arith; long = refl; same = rw (words_all code a n) }

  module _ (table : List ℕ) (m k : ℕ) (g : Entering code table₀ stamp a n table m k) where
    pub enter_more : k < n → (w : ℕ) → w ≡ get_or code (a + k) 0 → (after : List ℕ) (r : ℕ) → entries after r ≡ entered stamp w (entries table m)
        → Entering code table₀ stamp a n after r (k + 1)
    unfolding entered_all
    enter_more l w e after r q = record {
      few = omega arith;
      long = ap (λ (x : Entries). length x.table) q ∙ entered_long stamp w (entries table m) ∙ g.long;
      same = rw (q, e) (rw (words_more code a n k l) at g.same);
    }

    pub enter_done : n ≤ k → entries table m ≡ entered_all stamp (words_from code a n) (entries table₀ 0)
    unfolding entered_all
    enter_done l = rw (words_none code a n k l) at g.same

-- ---- declarations
pub entered_append : (stamp : ℕ) (xs ys : List ℕ) (e : Entries) → entered_all stamp (xs ++ ys) e ≡ entered_all stamp ys (entered_all stamp xs e)
unfolding entered_all
entered_append stamp [] ys e = refl
entered_append stamp (x ∷ xs) ys e = entered_append stamp xs ys (entered stamp x e)

pub record Declaring (code table₀ : List ℕ) (stamp a n m : ℕ) (table : List ℕ) (all : ℕ) (slot : Bool) (k : ℕ) : Type 0 where
  pub few : k ≤ n
  pub long : length table ≡ length table₀
  pub same : entered_all stamp (declared_slots slot (words_from code (a + k) (n - k))) (entries table all)
      ≡ entered_all stamp (declared_slots false (words_from code a n)) (entries table₀ m)

module _ (code table₀ : List ℕ) (stamp a n m : ℕ) where
  pub declare_none : Declaring code table₀ stamp a n m table₀ m false 0
  declare_none = record { few = omega arith; long = refl; same = rw (words_all code a n) }

  module _ (table : List ℕ) (all : ℕ) (slot : Bool) (k : ℕ) (g : Declaring code table₀ stamp a n m table all slot k) where
    pub declare_more : k < n → (w : ℕ) → w ≡ get_or code (a + k) 0 → (after : List ℕ) (r : ℕ) → entries after r ≡ entered_all stamp (slots_in slot w) (entries table all)
        → (next : Bool) → next ≡ slot_follows slot w → Declaring code table₀ stamp a n m after r next (k + 1)
    unfolding declared_slots
    declare_more l w e after r q next f = record {
      few = omega arith;
      long = ap (λ (x : Entries). length x.table) q ∙ entered_all_long stamp (slots_in slot w) (entries table all) ∙ g.long;
      same = rw (q, f, e) (sym (entered_append stamp (slots_in slot (get_or code (a + k) 0)) _ (entries table all)) ∙ rw (words_more code a n k l) at g.same);
    }

    pub declare_done : n ≤ k → entries table all ≡ entered_all stamp (declared_slots false (words_from code a n)) (entries table₀ m)
    unfolding entered_all declared_slots
    declare_done l = rw (words_none code a n k l) at g.same

-- ---- the code
pub record Renumbering (v : ℕ → ℕ) (code₀ : List ℕ) (a n : ℕ) (code : List ℕ) (slot : Bool) (k : ℕ) : Type 0 where
  pub few : k ≤ n
  pub long : length code ≡ length code₀
  pub same : put_from code (a + k) (renumbered_words v slot (words_from code (a + k) (n - k))) ≡ put_from code₀ a (renumbered_words v false (words_from code₀ a n))

put_more : (code : List ℕ) (i w : ℕ) (ws : List ℕ) (j : ℕ) → i + 1 ≡ j → put_from code i (w ∷ ws) ≡ put_from (set code i w) j ws
unfolding put_from
put_more code i w ws j e = ap (λ (n : ℕ). put_from (set code i w) n ws) e

module _ (v : ℕ → ℕ) (code₀ : List ℕ) (a n : ℕ) where
  pub renumber_none : Renumbering v code₀ a n code₀ false 0
  renumber_none = record { few = omega arith; long = refl; same = let t : a + 0 ≡ a = omega arith in rw (words_all code₀ a n, t) }

  module _ (code : List ℕ) (slot : Bool) (k : ℕ) (g : Renumbering v code₀ a n code slot k) where
    pub renumber_more : k < n → (w : ℕ) → w ≡ get_or code (a + k) 0 → (r : ℕ) → r ≡ renumbered_word v slot w → (after : List ℕ) → after ≡ set code (a + k) r
        → (next : Bool) → next ≡ slot_follows slot w → Renumbering v code₀ a n after next (k + 1)
    unfolding renumbered_words
    renumber_more l w e r h after q next f = record {
      few = omega arith;
      long = ap length q ∙ length-set code (a + k) r ∙ g.long;
      same = rw (q, words_set code (a + k) r (a + (k + 1)) (n - (k + 1)) (omega arith), f, h, e)
          (sym (put_more code (a + k) _ _ (a + (k + 1)) (omega arith)) ∙ rw (words_more code a n k l) at g.same);
    }

    pub renumber_done : n ≤ k → code ≡ put_from code₀ a (renumbered_words v false (words_from code₀ a n))
    unfolding renumbered_words put_from
    renumber_done l = rw (words_none code a n k l) at g.same

pub renumber_all : (stamp a n m : ℕ) (table code₀ code : List ℕ) (slot : Bool) (k : ℕ) → Renumbering (number_of table stamp m) code₀ a n code slot k → n ≤ k
    → code ≡ renumbered_code stamp a n (entries table m) code₀
unfolding renumbered_code
renumber_all stamp a n m table code₀ code slot k g l = renumber_done (number_of table stamp m) code₀ a n code slot k g l

-- ---- a procedure
pub framed_not : (d n m all : ℕ) → (m ≡ n → ⊥) → d ≡ framed_word d n m all
unfolding framed_word if◌then◌otherwise◌
framed_not d n m all h = rw (ne_eqb m n h)

pub framed_so : (d n m all : ℕ) → m ≡ n → d % 281474976710656 + 281474976710656 * (all % 65535 + 1) ≡ framed_word d n m all
unfolding framed_word if◌then◌otherwise◌
framed_so d n m all h = rw (eq-eqb m n h)

module _ (stamp d : ℕ) (code table : List ℕ) (a n size : ℕ) (start : a ≡ start_in d) (takes : n ≡ parameters_in d) (has : size ≡ body_in d) where
  pub procedure_numbered : (t₁ : List ℕ) (m : ℕ) → entries t₁ m ≡ entered_all stamp (words_from code a n) (entries table 0)
      → (t₂ : List ℕ) (all : ℕ) → entries t₂ all ≡ entered_all stamp (declared_slots false (words_from code (a + n) size)) (entries t₁ m)
      → (after : List ℕ) → after ≡ renumbered_code stamp (a + n) size (entries t₂ all) code
      → (r : ℕ) → r ≡ framed_word d n m all → pass after t₂ r ≡ number_procedure stamp d code table
  unfolding number_procedure
  procedure_numbered t₁ m e t₂ all f after g r h =
      let p : entries t₁ m ≡ entered_all stamp (words_from code (start_in d) (parameters_in d)) (entries table 0) = rw (← start, ← takes) e in
      let q : entries t₂ all
      ≡ entered_all stamp (declared_slots false (words_from code (start_in d + parameters_in d) (body_in d)))
      (entered_all stamp (words_from code (start_in d) (parameters_in d)) (entries table 0)) = rw (← start, ← takes, ← has) (f ∙ rw e) in
      rw (g, h, start, takes, has, ← p) (rw (p, ← q))

-- ---- a slot's procedure
module _ (main slot found : ℕ) (code table : List ℕ) (place d : ℕ) (at : place ≡ table_place slot) (told : d ≡ get_or code place 0) where
  pub slot_none : d ≡ 0 → pass code table found ≡ number_slot main slot (pass code table found)
  unfolding number_slot if◌then◌otherwise◌
  slot_none z =
      let t : eqb (get_or code (table_place slot) 0) 0 ≡ true = eq-eqb _ _ (ap (λ (i : ℕ). get_or code i 0) (sym at) ∙ sym told ∙ z) in
      rw t

  module _ (some : d ≡ 0 → ⊥) (code₁ table₁ : List ℕ) (e : ℕ) (numbered : pass code₁ table₁ e ≡ number_procedure (slot + 1) d code table)
      (place₂ : ℕ) (at₂ : place₂ ≡ table_place slot) (code₂ : List ℕ) (put : code₂ ≡ set code₁ place₂ e) where
    here : d ≡ get_or code (table_place slot) 0
    here = told ∙ ap (λ (i : ℕ). get_or code i 0) at

    turned : settled main slot found d (pass code₁ table₁ e) ≡ number_slot main slot (pass code table found)
    unfolding number_slot if◌then◌otherwise◌
    turned =
        let t : eqb (get_or code (table_place slot) 0) 0 ≡ false = ne_eqb _ _ (λ z. some (here ∙ z)) in
        rw (t, ← here, numbered)

    pub slot_main : d ≡ main → pass code₂ table₁ e ≡ number_slot main slot (pass code table found)
    unfolding settled if◌then◌otherwise◌
    slot_main q = rw (eq-eqb d main q) (rw (put, at₂) refl) ∙ turned

    pub slot_other : (d ≡ main → ⊥) → pass code₂ table₁ found ≡ number_slot main slot (pass code table found)
    unfolding settled if◌then◌otherwise◌
    slot_other q = rw (ne_eqb d main q) (rw (put, at₂) refl) ∙ turned

-- ---- all
pub record Numbering (main n : ℕ) (code₀ table₀ code table : List ℕ) (found slot : ℕ) : Type 0 where
  pub few : slot ≤ n
  pub code_long : length code ≡ length code₀
  pub table_long : length table ≡ length table₀
  pub same : number_slots main slot (n - slot) (pass code table found) ≡ number_slots main 0 n (pass code₀ table₀ main)

module _ (main n : ℕ) (code₀ table₀ : List ℕ) where
  pub number_none : Numbering main n code₀ table₀ code₀ table₀ main 0
  number_none = record { few = omega arith; code_long = refl; table_long = refl; same = let s : n - 0 ≡ n = omega arith in rw s }

  module _ (code table : List ℕ) (found slot : ℕ) (g : Numbering main n code₀ table₀ code table found slot) where
    pub number_more : slot < n → (code₁ table₁ : List ℕ) (r : ℕ) → length code₁ ≡ length code → length table₁ ≡ length table
        → pass code₁ table₁ r ≡ number_slot main slot (pass code table found) → Numbering main n code₀ table₀ code₁ table₁ r (slot + 1)
    unfolding number_slots
    number_more l code₁ table₁ r cl tl e =
        let s : n - slot ≡ suc (n - (slot + 1)) = omega arith in
        record { few = omega arith; code_long = cl ∙ g.code_long; table_long = tl ∙ g.table_long; same = rw e (rw s at g.same) }

    pub number_done : n ≤ slot → (table₁ : List ℕ) → table₀ ≡ replicate (length table₁) 0 → pass code table found ≡ number_all main n code₀ table₁
    unfolding number_slots number_all
    number_done l table₁ e = let s : n - slot ≡ 0 = omega arith in rw (← e) (rw s at g.same)
