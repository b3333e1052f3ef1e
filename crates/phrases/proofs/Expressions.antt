-- One law for each way through each function on expressions.
-- Assumes nothing.
use Prim.Native.Nat.{ℕ, zero, suc, ◌+◌, ◌-◌, ◌*◌, ◌^◌, ◌≤◌, ◌<◌}
use mathlib.Core.Path.{◌≡◌, refl}
use mathlib.Core.Bool.{Bool, true, false, cond}
use mathlib.Core.List.{List, [], ◌∷◌, ◌++◌}
use native.Mathlib.Omega.{arith}
use borrow.Author.Tests.{lt-ltb, le-ltb, le-leb, lt-leb, ne_eqb}
use lib.Dec.{ltb}
use lib.ListN.{length, get_or}
use Rattle.meaning.specs.Basics.{bytes, if◌then◌otherwise◌, laid_over}
use Rattle.meaning.specs.Byte.{is_name_part}
use Rattle.canonical.specs.Text.{enclosed_if}
use Rattle.machine.specs.Opcodes.{tag_in, size_in, number_in, callee_in, argument_root, tag_table, tag_entry, first_operator}
use Rattle.writing.specs.Placed.{laid_at, WroteAt}
use Rattle.spellings.specs.Spelling.{name_text, leaf_text, sign_text, encloses}
use Rattle.phrases.specs.Raw.{source, part_text, pair_text, arguments_text, call_text, expression_by, raw_expression}
use Rattle.spellings.proofs.Chains.{nothing, then_two, then_three, then_four, Writing, begin, goes_on, ends}

-- ---- what needs parentheses
below_operators : (tag : ℕ) → tag < first_operator → encloses first_operator tag ≡ false
unfolding encloses
below_operators tag l = rw (lt-leb first_operator tag l)

pub operator_in_entry : (tag : ℕ) → first_operator ≤ tag → encloses tag_entry tag ≡ true
unfolding encloses
operator_in_entry tag l = rw (le-leb first_operator tag l)

-- all operators alike
in_operator : (outer inner : ℕ) → first_operator ≤ outer → encloses outer inner ≡ encloses first_operator inner
unfolding encloses
in_operator outer inner l = rw (ne_eqb outer tag_entry (λ k. omega arith))

no_entry : (tag : ℕ) → (tag ≡ tag_entry → ⊥) → encloses first_operator tag ≡ encloses tag_entry tag
unfolding encloses
no_entry tag k = rw (ne_eqb tag tag_entry k)

entry_in_operator : encloses first_operator tag_entry ≡ false
unfolding encloses
entry_in_operator = refl

pub entry_in_entry : encloses tag_entry tag_entry ≡ true
unfolding encloses
entry_in_entry = refl

-- ---- how much is left to do falls: with the same fuel a root in parentheses goes from the part to the expression, any other from the expression to its part
unfoldable pub operand_work : List ℕ → ℕ → ℕ → ℕ
operand_work code fuel x = 16 * fuel + cond (encloses first_operator (tag_in (get_or code x 0))) 8 3

unfoldable pub primary_work : List ℕ → ℕ → ℕ → ℕ
primary_work code fuel x = 16 * fuel + cond (encloses tag_entry (tag_in (get_or code x 0))) 7 2

operand_most : (code : List ℕ) (fuel x : ℕ) → operand_work code fuel x ≤ 16 * fuel + 8
unfolding operand_work
operand_most code fuel x = go (encloses first_operator (tag_in (get_or code x 0)))
  where
    go : (b : Bool) → 16 * fuel + cond b 8 3 ≤ 16 * fuel + 8
    go true = omega arith
    go false = omega arith

primary_most : (code : List ℕ) (fuel x : ℕ) → primary_work code fuel x ≤ 16 * fuel + 7
unfolding primary_work
primary_most code fuel x = go (encloses tag_entry (tag_in (get_or code x 0)))
  where
    go : (b : Bool) → 16 * fuel + cond b 7 2 ≤ 16 * fuel + 7
    go true = omega arith
    go false = omega arith

pub side_falls : (code : List ℕ) (fuel y t : ℕ) → 16 * fuel + 8 ≡ t → primary_work code fuel y < t
side_falls code fuel y t m = omega (arith, primary_most code fuel y)

pub inner_falls : (code : List ℕ) (fuel y t : ℕ) → (fuel ≡ 0 → ⊥) → 16 * fuel + 4 ≡ t → operand_work code (fuel - 1) y < t
inner_falls code fuel y t n m = omega (arith, n, operand_most code (fuel - 1) y)

module _ (code : List ℕ) (fuel x w tag t : ℕ) (i : w ≡ get_or code x 0) (j : tag ≡ tag_in w) where
  pub operand_falls : tag < first_operator → 16 * fuel + 4 ≡ t → operand_work code fuel x < t
  unfolding operand_work
  operand_falls l m = rw (← i, ← j, below_operators tag l) (omega arith)

  pub primary_falls : (tag ≡ tag_entry → ⊥) → operand_work code fuel x ≡ t → primary_work code fuel x < t
  unfolding operand_work primary_work
  primary_falls k m = rw (← m, ← i, ← j, no_entry tag k) (go (encloses tag_entry tag))
    where
      go : (b : Bool) → 16 * fuel + cond b 7 2 < 16 * fuel + cond b 8 3
      go true = omega arith
      go false = omega arith

  pub entry_falls : tag ≡ tag_entry → (fuel ≡ 0 → ⊥) → operand_work code fuel x ≡ t → 16 * (fuel - 1) + 8 < t
  unfolding operand_work
  entry_falls k n m = rw (← m, ← i, ← j, k, entry_in_operator) (omega (arith, n))

  pub enclosed_falls : (b : Bool) → b ≡ encloses tag_entry tag → b ≡ true → primary_work code fuel x ≡ t → 16 * fuel + 6 < t
  unfolding primary_work
  enclosed_falls b k q m = rw (← m, ← i, ← j, ← k, q) (omega arith)

pub call_falls : (code : List ℕ) (fuel x t : ℕ) → (fuel ≡ 0 → ⊥) → primary_work code fuel x ≡ t → 16 * (fuel - 1) + 7 < t
unfolding primary_work
call_falls code fuel x t n m = rw (← m) (omega (arith, n))

pub table_falls : (code : List ℕ) (fuel x t : ℕ) → (fuel ≡ 0 → ⊥) → primary_work code fuel x ≡ t → 16 * (fuel - 1) + 6 < t
table_falls code fuel x t n m = omega (arith, call_falls code fuel x t n m)

module _ (program tokens code : List ℕ) where
  -- ---- by the word
  module _ (fuel x : ℕ) (n : fuel ≡ 0 → ⊥) (w : ℕ) (i : w ≡ get_or code x 0) where
    begun : raw_expression fuel (source program tokens code) x ≡ expression_by (raw_expression (fuel - 1) (source program tokens code)) (source program tokens code) w x
    unfolding raw_expression
    begun =
        let deeper : fuel ≡ suc (fuel - 1) = omega (arith, n) in
        rw deeper (rw (i, ← deeper))

  -- ---- an expression, as it is and as a part of an operator or of an entry
  module _ (fuel x : ℕ) {at : ℕ} {d : List ℕ} where
    pub too_deep : fuel ≡ 0 → at < 2 ^ 64 → WroteAt at (raw_expression fuel (source program tokens code) x) d d at
    unfolding raw_expression
    too_deep z h = rw z (nothing h)

    module _ (w tag : ℕ) (i : w ≡ get_or code x 0) (j : tag ≡ tag_in w) where
      bare : (outer : ℕ) {r : ℕ} {e : List ℕ} → encloses outer tag ≡ false → WroteAt at (raw_expression fuel (source program tokens code) x) d e r
          → WroteAt at (part_text (raw_expression fuel (source program tokens code)) (source program tokens code) outer x) d e r
      unfolding part_text enclosed_if
      bare outer k p = rw (← i, ← j, k) p

      -- ---- write_expression
      pub one_operand : {r : ℕ} {e : List ℕ} → tag < first_operator
          → WroteAt at (part_text (raw_expression fuel (source program tokens code)) (source program tokens code) first_operator x) d e r
          → WroteAt at (raw_expression fuel (source program tokens code) x) d e r
      unfolding part_text enclosed_if
      one_operand l p = rw (← i, ← j, below_operators tag l) at p

      pub two_operands : (first last : ℕ) {m n r : ℕ} {e f g : List ℕ} → length d < 2 ^ 64 → (fuel ≡ 0 → ⊥) → first_operator ≤ tag
          → first ≡ x - 1 - number_in w → last ≡ x - 1
          → WroteAt at (part_text (raw_expression (fuel - 1) (source program tokens code)) (source program tokens code) first_operator first) d e m
          → WroteAt m (sign_text tag) e f n
          → WroteAt n (part_text (raw_expression (fuel - 1) (source program tokens code)) (source program tokens code) first_operator last) f g r
          → WroteAt at (raw_expression fuel (source program tokens code) x) d g r
      unfolding expression_by pair_text part_text if◌then◌otherwise◌
      two_operands first last h n l a b p q s =
          rw (begun fuel x n w i, ← j, le-ltb tag tag_table (omega arith), ne_eqb tag tag_table (λ k. omega arith), operator_in_entry tag l, ← a, ← b)
          (rw (in_operator tag (tag_in (get_or code first 0)) l, in_operator tag (tag_in (get_or code last 0)) l) (then_three h p q s))

      -- ---- write_operand
      pub one_primary : {r : ℕ} {e : List ℕ} → (tag ≡ tag_entry → ⊥)
          → WroteAt at (part_text (raw_expression fuel (source program tokens code)) (source program tokens code) tag_entry x) d e r
          → WroteAt at (part_text (raw_expression fuel (source program tokens code)) (source program tokens code) first_operator x) d e r
      unfolding part_text
      one_primary k p = rw (← i, ← j, no_entry tag k) (rw (← i, ← j) at p)

      pub entry_too_deep : tag ≡ tag_entry → fuel ≡ 0 → at < 2 ^ 64
          → WroteAt at (part_text (raw_expression fuel (source program tokens code)) (source program tokens code) first_operator x) d d at
      entry_too_deep k z h = bare first_operator (rw (k, entry_in_operator)) (too_deep z h)

      pub is_entry : (first last : ℕ) {r : ℕ} {e : List ℕ} → tag ≡ tag_entry → (fuel ≡ 0 → ⊥) → first ≡ x - 1 - number_in w → last ≡ x - 1
          → WroteAt at (pair_text (raw_expression (fuel - 1) (source program tokens code)) (source program tokens code) tag_entry first last) d e r
          → WroteAt at (part_text (raw_expression fuel (source program tokens code)) (source program tokens code) first_operator x) d e r
      unfolding expression_by if◌then◌otherwise◌
      is_entry first last k n a b p = bare first_operator (rw (k, entry_in_operator)) (rw (begun fuel x n w i, ← j, k, entry_in_entry, ← a, ← b) p)

      -- ---- write_primary
      module _ (b : Bool) (k : b ≡ encloses tag_entry tag) where
        pub enclosed : {r : ℕ} {e : List ℕ} → b ≡ true → WroteAt at (bytes "(" ++ raw_expression fuel (source program tokens code) x ++ bytes ")") d e r
            → WroteAt at (part_text (raw_expression fuel (source program tokens code)) (source program tokens code) tag_entry x) d e r
        unfolding part_text enclosed_if
        enclosed t p = rw (← i, ← j, ← k, t) p

        pub primary_too_deep : b ≡ false → fuel ≡ 0 → at < 2 ^ 64
            → WroteAt at (part_text (raw_expression fuel (source program tokens code)) (source program tokens code) tag_entry x) d d at
        primary_too_deep t z h = bare tag_entry (rw (← k) t) (too_deep z h)

        module _ (t : b ≡ false) (n : fuel ≡ 0 → ⊥) {r : ℕ} {e : List ℕ} where
          pub is_leaf : tag < tag_table → WroteAt at (leaf_text program tokens w) d e r
              → WroteAt at (part_text (raw_expression fuel (source program tokens code)) (source program tokens code) tag_entry x) d e r
          unfolding expression_by if◌then◌otherwise◌
          is_leaf l p = bare tag_entry (rw (← k) t) (rw (begun fuel x n w i, ← j, lt-ltb tag tag_table l) p)

          pub is_table : (last : ℕ) → tag_table ≤ tag → tag ≡ tag_table → last ≡ x - 1
              → WroteAt at (bytes "[" ++ raw_expression (fuel - 1) (source program tokens code) last ++ bytes "]") d e r
              → WroteAt at (part_text (raw_expression fuel (source program tokens code)) (source program tokens code) tag_entry x) d e r
          unfolding expression_by if◌then◌otherwise◌
          is_table last l q m p = bare tag_entry (rw (← k) t) (rw (begun fuel x n w i, ← j, q, ← m) p)

          pub is_call : tag_table ≤ tag → (tag ≡ tag_table → ⊥) → WroteAt at (call_text (raw_expression (fuel - 1) (source program tokens code)) (source program tokens code) w x) d e r
              → WroteAt at (part_text (raw_expression fuel (source program tokens code)) (source program tokens code) tag_entry x) d e r
          unfolding expression_by if◌then◌otherwise◌
          is_call l q p = bare tag_entry (rw (← k) t) (rw (begun fuel x n w i, ← j, le-ltb tag tag_table l, ne_eqb tag tag_table q, ← k, t) p)

  module _ (fuel : ℕ) {at r : ℕ} {d : List ℕ} where
    pub entry_written : (y z : ℕ) {m n : ℕ} {e f g : List ℕ} → length d < 2 ^ 64
        → WroteAt at (part_text (raw_expression fuel (source program tokens code)) (source program tokens code) tag_entry y) d e m
        → WroteAt m (sign_text tag_entry) e f n
        → WroteAt n (part_text (raw_expression fuel (source program tokens code)) (source program tokens code) tag_entry z) f g r
        → WroteAt at (pair_text (raw_expression fuel (source program tokens code)) (source program tokens code) tag_entry y z) d g r
    unfolding pair_text
    entry_written y z h p q s = then_three h p q s

    -- ---- calls
    pub call_written : (w x a y slot : ℕ) {l m n : ℕ} {e f g o : List ℕ} → length d < 2 ^ 64 → a ≡ x - (size_in w - 1) → y ≡ argument_root (get_or code a 0) a x
        → slot ≡ callee_in w → WroteAt at (name_text program tokens slot) d e l → WroteAt l (bytes "(") e f m
        → WroteAt m (arguments_text (suc x) [] (raw_expression fuel (source program tokens code)) (source program tokens code) y x) f g n
        → WroteAt n (bytes ")") g o r → WroteAt at (call_text (raw_expression fuel (source program tokens code)) (source program tokens code) w x) d o r
    unfolding call_text
    call_written w x a y slot h i j b p q s t = rw (← i, ← j, ← b) (then_four h p q s t)

-- ---- arguments
root_behind : (w a x : ℕ) → a ≤ x → a ≤ argument_root w a x
unfolding argument_root if◌then◌otherwise◌
root_behind w a x m = go (ltb (a + size_in w) x) refl
  where
    go : (b : Bool) → ltb (a + size_in w) x ≡ b → a ≤ (if b then (λ _. a + size_in w) otherwise λ _. x)
    go true q = omega arith
    go false q = m

pub root_falls : (k x y z : ℕ) → y < x → z ≡ argument_root k (y + 1) x → x - z < x - y
root_falls k x y z l e = let b : y + 1 ≤ z = rw e (root_behind k (y + 1) x (omega arith)) in omega arith

-- of the arguments from `second` on, those from y on are left
pub record Listing (program tokens code : List ℕ) (fuel second x at : ℕ) (before now : List ℕ) (next y : ℕ) : Type 0 where
  pub short : length before < 2 ^ 64
  pub rounds : ℕ
  pub enough : x < y + rounds
  pub writing : Writing at (arguments_text x (bytes ",") (raw_expression fuel (source program tokens code)) (source program tokens code) second x)
      (arguments_text rounds (bytes ",") (raw_expression fuel (source program tokens code)) (source program tokens code) y x) before now next

module _ (program tokens code : List ℕ) (fuel first x : ℕ) {at : ℕ} {d : List ℕ} where
  pub no_argument : x ≤ first → at < 2 ^ 64
      → WroteAt at (arguments_text (suc x) [] (raw_expression fuel (source program tokens code)) (source program tokens code) first x) d d at
  unfolding arguments_text if◌then◌otherwise◌
  no_argument l h = rw (le-ltb first x l) (nothing h)

  pub first_listed : (second : ℕ) {next r : ℕ} {e f : List ℕ} → length d < 2 ^ 64 → first < x → second ≡ argument_root (get_or code (first + 1) 0) (first + 1) x
      → WroteAt at (raw_expression fuel (source program tokens code) first) d e next
      → WroteAt next (arguments_text x (bytes ",") (raw_expression fuel (source program tokens code)) (source program tokens code) second x) e f r
      → WroteAt at (arguments_text (suc x) [] (raw_expression fuel (source program tokens code)) (source program tokens code) first x) d f r
  unfolding arguments_text if◌then◌otherwise◌
  first_listed second h l j p q = rw (lt-ltb first x l, ← j) (then_two h p q)

  pub list_first : (second : ℕ) → length d < 2 ^ 64 → at < 2 ^ 64 → first < x → second ≡ argument_root (get_or code (first + 1) 0) (first + 1) x
      → Listing program tokens code fuel second x at d d at second
  list_first second h k l j = record {
    short = h;
    rounds = x;
    enough = let b : first + 1 ≤ second = rw j (root_behind (get_or code (first + 1) 0) (first + 1) x (omega arith)) in omega arith;
    writing = begin _ k;
  }

module _ (program tokens code : List ℕ) (fuel second x y : ℕ) {at next : ℕ} {before now : List ℕ} (g : Listing program tokens code fuel second x at before now next y) where
  none_left : (rounds : ℕ) → x ≤ y → arguments_text rounds (bytes ",") (raw_expression fuel (source program tokens code)) (source program tokens code) y x ≡ []
  unfolding arguments_text if◌then◌otherwise◌
  none_left zero l = refl
  none_left (suc rounds) l = rw (le-ltb y x l)

  pub list_ends : x ≤ y → WroteAt at (arguments_text x (bytes ",") (raw_expression fuel (source program tokens code)) (source program tokens code) second x) before now next
  list_ends l = ends g.writing (none_left g.rounds l)

  one_more : (rounds z : ℕ) → y < x → x < y + rounds → z ≡ argument_root (get_or code (y + 1) 0) (y + 1) x
      → arguments_text rounds (bytes ",") (raw_expression fuel (source program tokens code)) (source program tokens code) y x
      ≡ (bytes "," ++ raw_expression fuel (source program tokens code) y)
      ++ arguments_text (rounds - 1) (bytes ",") (raw_expression fuel (source program tokens code)) (source program tokens code) z x
  unfolding arguments_text if◌then◌otherwise◌
  one_more zero z l b j = absurd (omega arith)
  one_more (suc rounds) z l b j =
      let q : suc rounds - 1 ≡ rounds = omega arith in
      rw (lt-ltb y x l, q, ← j)

  pub list_next : (z : ℕ) {after : List ℕ} {last : ℕ} → y < x → WroteAt next (bytes "," ++ raw_expression fuel (source program tokens code) y) now after last
      → z ≡ argument_root (get_or code (y + 1) 0) (y + 1) x → Listing program tokens code fuel second x at before after last z
  list_next z l p j = record {
    short = g.short;
    rounds = g.rounds - 1;
    enough = let b : y + 1 ≤ z = rw j (root_behind (get_or code (y + 1) 0) (y + 1) x (omega arith)) in omega (arith, g.enough);
    writing = goes_on _ _ g.short g.writing (one_more g.rounds z l g.enough j) p;
  }

-- ---- the first byte
first_byte : (t now : List ℕ) {r : ℕ} → WroteAt 0 t (0 ∷ []) now r → get_or now 0 0 ≡ get_or t 0 0
unfolding laid_at laid_over
first_byte [] now p = rw p.laid
first_byte (b ∷ t) now p = rw p.laid

pub word_begins : (t now : List ℕ) (b : Bool) {r : ℕ} → b ≡ is_name_part (get_or now 0 0) → WroteAt 0 t (0 ∷ []) now r → b ≡ is_name_part (get_or t 0 0)
word_begins t now b e p = rw (← first_byte t now p) e
