-- Slots entered in the table of numbers are names numbered, each once.
use Prim.Native.Nat.{ℕ, ◌+◌, ◌*◌, ◌/◌, ◌%◌, ◌≤◌, ◌<◌}
use native.Mathlib.Omega.{arith}
use mathlib.Core.Path.{◌≡◌, refl, sym, ap, ◌∙◌, subst}
use mathlib.Core.Bool.{Bool, true, false, ◌||◌}
use mathlib.Core.List.{List, [], ◌∷◌, ◌++◌, map}
use lib.ListN.{length, get_or, set, length-append, length-set}
use lib.Seq.{get_or-set_same, get_or-set_other}
use lib.Dec.{eqb}
use borrow.Author.Tests.{eqb-true, eqb-false, eq-eqb, ne_eqb}
use Rattle.meaning.specs.Basics.{if◌then◌otherwise◌, same_text}
use Rattle.meaning.specs.Token.{Token, a_name}
use Rattle.meaning.specs.Tree.{Statement, declare, assign, update, when, while, foreach, return, block, act, Statements, only, first}
use Rattle.meaning.specs.Procedure.{is_among}
use Rattle.code.specs.Code.{slot_of}
use Rattle.reader.specs.Declarations.{declared_in, declared_by}
use Rattle.reader.proofs.Homes.{same_text_lem, text_same, Occurs, slot_small, slots_apart}
use Rattle.reader.proofs.Known.{KnownNames, KnownStatement, KnownStatements}
use Rattle.numbering.specs.Numbers.{with_name, with_names, number_in}
use Rattle.numbering.proofs.Laws.{false_true, number_front, number_missing, number_below, number_last, among_more, name_few}
use Rattle.numbering.specs.Pass.{Entries, entries, is_entered, number_of, entered, entered_all}

-- ---- names in the table
module _ (ts : List Token) (few : length ts ≤ 8192) (stamp : ℕ) where
  pub record Holds (e : Entries) (names : List (List ℕ)) : Type 0 where
    pub counts : e.count ≡ length names
    pub long : 8192 ≤ length e.table
    pub told : (x : List ℕ) → Occurs ts a_name x → is_among x names ≡ true → get_or e.table (slot_of ts x % 8192) 0 ≡ 65536 * stamp + number_in names x
    pub free : (x : List ℕ) → Occurs ts a_name x → is_among x names ≡ false → get_or e.table (slot_of ts x % 8192) 0 / 65536 ≡ stamp → ⊥
    pub old : (t : ℕ) → get_or e.table t 0 / 65536 ≤ stamp

  pub holds_none : (table : List ℕ) → 8192 ≤ length table → ((t : ℕ) → get_or table t 0 / 65536 < stamp) → Holds (entries table 0) []
  unfolding is_among
  holds_none table l h = record {
    counts = refl;
    long = l;
    told = λ x o e. false_true e;
    free = λ x o e q. omega (arith, h (slot_of ts x % 8192));
    old = λ t. omega (arith, h t);
  }

  module _ (e : Entries) (names : List (List ℕ)) (g : Holds e names) (narrow : length names < 65536) where
    is_entered_lem : (x : List ℕ) → Occurs ts a_name x → (b : Bool) → is_among x names ≡ b → is_entered e.table stamp (slot_of ts x) ≡ b
    unfolding is_entered
    is_entered_lem x o true q =
        let r : get_or e.table (slot_of ts x % 8192) 0 / 65536 ≡ stamp = rw (g.told x o q) (omega (arith, number_below x names q)) in
        eq-eqb _ _ r
    is_entered_lem x o false q = ne_eqb _ _ (g.free x o q)

    pub numbered : (x : List ℕ) → Occurs ts a_name x → number_of e.table stamp e.count (slot_of ts x) ≡ number_in names x
    unfolding number_of if◌then◌otherwise◌
    numbered x o = go (is_among x names) refl
      where
        go : (b : Bool) → is_among x names ≡ b → number_of e.table stamp e.count (slot_of ts x) ≡ number_in names x
        go true q = rw (is_entered_lem x o true q, g.told x o q) (omega (arith, number_below x names q))
        go false q = rw (is_entered_lem x o false q, g.counts) (omega (arith, number_missing x names q))

    -- a name that is new
    module _ (x : List ℕ) (o : Occurs ts a_name x) (new : is_among x names ≡ false) where
      abbrev next : List ℕ
      next = set e.table (slot_of ts x % 8192) (65536 * stamp + e.count % 65536)

      here : slot_of ts x % 8192 ≡ slot_of ts x
      here = omega (arith, slot_small ts x o)

      same : get_or next (slot_of ts x % 8192) 0 ≡ 65536 * stamp + length names
      same =
          get_or-set_same e.table (slot_of ts x % 8192) (65536 * stamp + e.count % 65536) 0 (omega (arith, here, slot_small ts x o, g.long))
          ∙ omega (arith, g.counts)

      other : (y : List ℕ) → Occurs ts a_name y → same_text x y ≡ false → get_or next (slot_of ts y % 8192) 0 ≡ get_or e.table (slot_of ts y % 8192) 0
      other y p d = get_or-set_other e.table (slot_of ts x % 8192) (slot_of ts y % 8192) (65536 * stamp + e.count % 65536) 0 (λ q.
          let z : slot_of ts x ≡ slot_of ts y = omega (arith, here, slot_small ts x o, slot_small ts y p) in
          false_true (sym d ∙ ap (same_text x) (sym ((slots_apart ts x y o p).0 z)) ∙ text_same x))

      told_more : (y : List ℕ) → Occurs ts a_name y → is_among y (names ++ (x ∷ [])) ≡ true
          → get_or next (slot_of ts y % 8192) 0 ≡ 65536 * stamp + number_in (names ++ (x ∷ [])) y
      told_more y p q = go (same_text x y) refl (sym (among_more y x names) ∙ q)
        where
          is_here : x ≡ y → get_or next (slot_of ts y % 8192) 0 ≡ 65536 * stamp + number_in (names ++ (x ∷ [])) y
          is_here n = subst (λ (z : List ℕ). get_or next (slot_of ts z % 8192) 0 ≡ 65536 * stamp + number_in (names ++ (x ∷ [])) z) n
              (same ∙ ap (λ (i : ℕ). 65536 * stamp + i) (sym (number_last x names new)))

          was_there : same_text x y ≡ false → is_among y names || false ≡ true → is_among y names ≡ true
          was_there d = by (is_among y names)
            where
              by : (b : Bool) → b || false ≡ true → b ≡ true
              by true z = refl
              by false z = z

          go : (b : Bool) → same_text x y ≡ b → is_among y names || same_text x y ≡ true → get_or next (slot_of ts y % 8192) 0 ≡ 65536 * stamp + number_in (names ++ (x ∷ [])) y
          go true d a = is_here (same_text_lem x y d)
          go false d a =
              let m : is_among y names ≡ true = was_there d (rw d at a) in
              other y p d ∙ g.told y p m ∙ ap (λ (i : ℕ). 65536 * stamp + i) (sym (number_front names (x ∷ []) y (number_below y names m)))

      free_more : (y : List ℕ) → Occurs ts a_name y → is_among y (names ++ (x ∷ [])) ≡ false → get_or next (slot_of ts y % 8192) 0 / 65536 ≡ stamp → ⊥
      free_more y p q =
          let b = both (is_among y names) (same_text x y) (sym (among_more y x names) ∙ q) in
          rw (other y p b.1) (g.free y p b.0)
        where
          both : (a b : Bool) → a || b ≡ false → (a ≡ false) × (b ≡ false)
          both false b z = (refl, z)
          both true b z = false_true (sym z)

      old_more : (t : ℕ) → get_or next t 0 / 65536 ≤ stamp
      old_more t = go (eqb t (slot_of ts x % 8192)) refl
        where
          go : (b : Bool) → eqb t (slot_of ts x % 8192) ≡ b → get_or next t 0 / 65536 ≤ stamp
          go true q =
              let at : get_or next t 0 ≡ 65536 * stamp + length names = ap (λ (i : ℕ). get_or next i 0) (eqb-true t (slot_of ts x % 8192) q) ∙ same in
              rw at (omega arith)
          go false q = rw (get_or-set_other e.table (slot_of ts x % 8192) t (65536 * stamp + e.count % 65536) 0 (eqb-false _ _ q)) (g.old t)

      holds_new : Holds (entries next (e.count % 65536 + 1)) (names ++ (x ∷ []))
      holds_new = record {
        counts = omega (arith, g.counts, length-append names (x ∷ []));
        long = rw (length-set e.table (slot_of ts x % 8192) (65536 * stamp + e.count % 65536)) g.long;
        told = told_more;
        free = free_more;
        old = old_more;
      }

    holds_more : (x : List ℕ) → Occurs ts a_name x → Holds (entered stamp (slot_of ts x) e) (with_name names x)
    unfolding entered with_name if◌then◌otherwise◌
    holds_more x o = go (is_among x names) refl
      where
        go : (b : Bool) → is_among x names ≡ b → Holds (entered stamp (slot_of ts x) e) (with_name names x)
        go true q = rw (is_entered_lem x o true q, q) g
        go false q = rw (is_entered_lem x o false q, q) (holds_new x o q)

  -- THE LAW
  pub holds_all : (ys : List (List ℕ)) → KnownNames ys ts → (e : Entries) (names : List (List ℕ)) → Holds e names → length names + length ys < 65536
      → Holds (entered_all stamp (map (slot_of ts) ys) e) (with_names names ys)
  unfolding entered_all with_names KnownNames
  holds_all [] k e names g l = g
  holds_all (y ∷ ys) k e names g l =
      holds_all ys k.1 (entered stamp (slot_of ts y) e) (with_name names y) (holds_more e names g (omega arith) y k.0) (omega (arith, name_few names y))

-- ---- names that a body declares
known_append : (ts : List Token) (xs ys : List (List ℕ)) → KnownNames xs ts → KnownNames ys ts → KnownNames (xs ++ ys) ts
unfolding KnownNames
known_append ts [] ys k h = h
known_append ts (x ∷ xs) ys k h = (k.0, known_append ts xs ys k.1 h)

module _ (ts : List Token) where
  mutual
    unfolding KnownStatement KnownStatements KnownNames declared_in declared_by

    declared_in_lem : (s : Statement) → KnownStatement s ts → KnownNames (declared_in s) ts
    declared_in_lem (declare p x) k = (k.1, tt)
    declared_in_lem (assign p x e) k = tt
    declared_in_lem (update p a b e) k = tt
    declared_in_lem (when p e s) k = declared_in_lem s k.2
    declared_in_lem (while p e s) k = declared_in_lem s k.2
    declared_in_lem (foreach p x e s) k = (k.1, declared_in_lem s k.3)
    declared_in_lem (return p e) k = tt
    declared_in_lem (block p ss) k = declared_by_lem ss k.1
    declared_in_lem (act p e) k = tt

    pub declared_by_lem : (ss : Statements) → KnownStatements ss ts → KnownNames (declared_by ss) ts
    declared_by_lem (only s) k = declared_in_lem s k
    declared_by_lem (first s ss) k = known_append ts (declared_in s) (declared_by ss) (declared_in_lem s k.0) (declared_by_lem ss k.1)
