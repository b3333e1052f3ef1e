-- One law for each way through each function on statements.
-- Assumes nothing.
use Prim.Native.Nat.{ℕ, suc, ◌+◌, ◌-◌, ◌^◌, ◌≤◌, ◌<◌}
use mathlib.Core.Path.{◌≡◌}
use mathlib.Core.List.{List, [], ◌++◌}
use native.Mathlib.Numerals.{add-one}
use native.Mathlib.Omega.{arith}
use borrow.Author.Tests.{lt-ltb, le-ltb, ne_eqb}
use lib.ListN.{length, get_or}
use Rattle.meaning.specs.Basics.{bytes, if◌then◌otherwise◌}
use Rattle.canonical.specs.Text.{apart}
use Rattle.machine.specs.Opcodes.{tag_in, size_in, extra_in, tag_declare, tag_assign, tag_update, tag_when, tag_while, tag_foreach, tag_return, tag_block}
use Rattle.writing.specs.Placed.{WroteAt}
use Rattle.spellings.specs.Spelling.{name_text}
use Rattle.phrases.specs.Raw.{source, spelling, raw_expression}
use Rattle.clauses.specs.Raw.{ending_in, update_text, iterator_text}
use Rattle.formatter.specs.Raw.{guarded_text, foreach_text, raw_statements, statement_by, raw_statement}
use Rattle.formatter.specs.Asked.{Room}
use Rattle.spellings.proofs.Chains.{nothing, then_two, then_three, Writing, begin, goes_on, ends}

-- ---- by the word
pub some_fuel : (fuel : ℕ) → (fuel ≡ 0 → ⊥) → 1 ≤ fuel
some_fuel fuel n = omega (arith, n)

module _ (program tokens code : List ℕ) (fuel x : ℕ) where
  module _ (n : fuel ≡ 0 → ⊥) (w : ℕ) (i : w ≡ get_or code x 0) where
    begun : raw_statement fuel (source program tokens code) x
        ≡ statement_by (raw_expression (fuel - 1) (source program tokens code)) (raw_statement (fuel - 1) (source program tokens code)) (source program tokens code) w x
    unfolding raw_statement
    begun =
        let deeper : fuel ≡ suc (fuel - 1) = omega (arith, n) in
        rw deeper (rw (i, ← deeper))

  pub too_deep : {at : ℕ} {d : List ℕ} → fuel ≡ 0 → at < 2 ^ 64 → WroteAt at (raw_statement fuel (source program tokens code) x) d d at
  unfolding raw_statement
  too_deep z h = rw z (nothing h)

  module _ (n : fuel ≡ 0 → ⊥) (w tag : ℕ) (i : w ≡ get_or code x 0) (j : tag ≡ tag_in w) {at r : ℕ} {d e : List ℕ} where
    pub is_declaration : (slot : ℕ) → slot ≡ extra_in w → tag ≡ tag_declare → WroteAt at (bytes "var " ++ name_text program tokens slot ++ bytes ";") d e r
        → WroteAt at (raw_statement fuel (source program tokens code) x) d e r
    unfolding statement_by if◌then◌otherwise◌
    is_declaration slot k t p = rw (begun n w i, ← j, t, ← k) p

    pub is_assignment : (slot y : ℕ) → y ≡ x + size_in w - 1 → slot ≡ extra_in w → tag ≡ tag_assign
        → WroteAt at (ending_in (raw_expression (fuel - 1) (source program tokens code)) (spelling (source program tokens code) slot ++ bytes "=") y) d e r
        → WroteAt at (raw_statement fuel (source program tokens code) x) d e r
    unfolding statement_by if◌then◌otherwise◌
    is_assignment slot y l k t p = rw (begun n w i, ← j, t, ← k, ← l) p

    pub is_update : (y : ℕ) → y ≡ x + size_in w - 1 → tag ≡ tag_update
        → WroteAt at (update_text (raw_expression (fuel - 1) (source program tokens code)) (source program tokens code) y) d e r
        → WroteAt at (raw_statement fuel (source program tokens code) x) d e r
    unfolding statement_by if◌then◌otherwise◌
    is_update y l t p = rw (begun n w i, ← j, t, ← l) p

    pub is_when : (extra : ℕ) → extra ≡ extra_in w → tag ≡ tag_when
        → WroteAt at (guarded_text (raw_expression (fuel - 1) (source program tokens code)) (raw_statement (fuel - 1) (source program tokens code)) (bytes "if(") (x + extra)) d e r
        → WroteAt at (raw_statement fuel (source program tokens code) x) d e r
    unfolding statement_by if◌then◌otherwise◌
    is_when extra k t p = rw (begun n w i, ← j, t, ← k) p

    pub is_while : (extra : ℕ) → extra ≡ extra_in w → tag ≡ tag_while
        → WroteAt at (guarded_text (raw_expression (fuel - 1) (source program tokens code)) (raw_statement (fuel - 1) (source program tokens code)) (bytes "while(") (x + extra)) d e r
        → WroteAt at (raw_statement fuel (source program tokens code) x) d e r
    unfolding statement_by if◌then◌otherwise◌
    is_while extra k t p = rw (begun n w i, ← j, t, ← k) p

    pub is_foreach : (extra : ℕ) → extra ≡ extra_in w → tag ≡ tag_foreach
        → WroteAt at (foreach_text (raw_expression (fuel - 1) (source program tokens code)) (raw_statement (fuel - 1) (source program tokens code)) (source program tokens code)
        (get_or code (x + 1) 0) (x + extra)) d e r
        → WroteAt at (raw_statement fuel (source program tokens code) x) d e r
    unfolding statement_by if◌then◌otherwise◌
    is_foreach extra k t p = rw (begun n w i, ← j, t, ← k) p

    pub is_return : (y : ℕ) → y ≡ x + size_in w - 1 → tag ≡ tag_return
        → WroteAt at (bytes "return" ++ apart (raw_expression (fuel - 1) (source program tokens code) y) ++ bytes ";") d e r
        → WroteAt at (raw_statement fuel (source program tokens code) x) d e r
    unfolding statement_by if◌then◌otherwise◌
    is_return y l t p = rw (begun n w i, ← j, t, ← l) p

    pub is_block : (size : ℕ) → size ≡ size_in w → tag ≡ tag_block
        → WroteAt at (bytes "{\n" ++ raw_statements (suc size) (raw_statement (fuel - 1) (source program tokens code)) (source program tokens code) (x + 1) (x + size) ++ bytes "}") d e r
        → WroteAt at (raw_statement fuel (source program tokens code) x) d e r
    unfolding statement_by if◌then◌otherwise◌
    is_block size k t p = rw (begun n w i, ← j, t, ← k) p

    pub is_act : (y : ℕ) → y ≡ x + size_in w - 1 → (tag ≡ tag_declare → ⊥) → (tag ≡ tag_assign → ⊥) → (tag ≡ tag_update → ⊥) → (tag ≡ tag_when → ⊥) → (tag ≡ tag_while → ⊥)
        → (tag ≡ tag_foreach → ⊥) → (tag ≡ tag_return → ⊥) → (tag ≡ tag_block → ⊥) → WroteAt at ([] ++ raw_expression (fuel - 1) (source program tokens code) y ++ bytes ";") d e r
        → WroteAt at (raw_statement fuel (source program tokens code) x) d e r
    unfolding statement_by if◌then◌otherwise◌ ending_in
    is_act y l a b c f g o k m p =
        rw (begun n w i, ← j, ne_eqb _ _ a, ne_eqb _ _ b, ne_eqb _ _ c)
        (rw (ne_eqb _ _ f, ne_eqb _ _ g, ne_eqb _ _ o, ne_eqb _ _ k, ne_eqb _ _ m, ← l) p)

-- ---- statements that hold others
module _ (program tokens code : List ℕ) (fuel : ℕ) {at r : ℕ} {d : List ℕ} where
  pub guarded_written : (lead : List ℕ) (y : ℕ) {m : ℕ} {e f : List ℕ} → length d < 2 ^ 64
      → WroteAt at (lead ++ raw_expression fuel (source program tokens code) y ++ bytes ")\n") d e m
      → WroteAt m (raw_statement fuel (source program tokens code) (y + 1)) e f r
      → WroteAt at (guarded_text (raw_expression fuel (source program tokens code)) (raw_statement fuel (source program tokens code)) lead y) d f r
  unfolding guarded_text
  guarded_written lead y h p q = then_two h p q

  pub foreach_written : (x extra slot y : ℕ) {m : ℕ} {e f : List ℕ} → length d < 2 ^ 64 → y ≡ x + extra → slot ≡ get_or code (x + 1) 0
      → WroteAt at (iterator_text (raw_expression fuel (source program tokens code)) (source program tokens code) slot y) d e m
      → WroteAt m (raw_statement fuel (source program tokens code) (y + 1)) e f r
      → WroteAt at (foreach_text (raw_expression fuel (source program tokens code)) (raw_statement fuel (source program tokens code)) (source program tokens code)
      (get_or code (x + 1) 0) (x + extra)) d f r
  unfolding foreach_text
  foreach_written x extra slot y h i j p q = rw (← i, ← j) (then_two h p q)

  pub block_written : (x n : ℕ) {m o : ℕ} {e f g : List ℕ} → length d < 2 ^ 64 → WroteAt at (bytes "{\n") d e m
      → WroteAt m (raw_statements (n + 1) (raw_statement fuel (source program tokens code)) (source program tokens code) (x + 1) (x + n)) e f o
      → WroteAt o (bytes "}") f g r
      → WroteAt at (bytes "{\n" ++ raw_statements (suc n) (raw_statement fuel (source program tokens code)) (source program tokens code) (x + 1) (x + n) ++ bytes "}") d g r
  block_written x n h p q s = rw (← add-one n) (then_three h p q s)

-- the statements from x on are left, at most so many
pub record Following (program tokens code : List ℕ) (fuel first end rounds at : ℕ) (before now : List ℕ) (next x left : ℕ) : Type 0 where
  pub short : length before < 2 ^ 64
  pub room : Room fuel end
  pub writing : Writing at (raw_statements rounds (raw_statement fuel (source program tokens code)) (source program tokens code) first end)
      (raw_statements left (raw_statement fuel (source program tokens code)) (source program tokens code) x end) before now next

module _ (program tokens code : List ℕ) (fuel first end rounds : ℕ) {at : ℕ} {before : List ℕ} where
  pub all_first : length before < 2 ^ 64 → at < 2 ^ 64 → Room fuel end → Following program tokens code fuel first end rounds at before before at first rounds
  all_first h k m = record { short = h; room = m; writing = begin _ k }

  module _ (x left : ℕ) {now : List ℕ} {next : ℕ} (g : Following program tokens code fuel first end rounds at before now next x left) where
    pub room_before : x < end → Room fuel x
    room_before l = record { room = omega (arith, g.room.room) }

    none_short : left ≤ 0 → raw_statements left (raw_statement fuel (source program tokens code)) (source program tokens code) x end ≡ []
    unfolding raw_statements
    none_short l = let z : left ≡ 0 = omega arith in rw z

    pub all_short : left ≤ 0 → WroteAt at (raw_statements rounds (raw_statement fuel (source program tokens code)) (source program tokens code) first end) before now next
    all_short l = ends g.writing (none_short l)

    none_left : 0 < left → end ≤ x → raw_statements left (raw_statement fuel (source program tokens code)) (source program tokens code) x end ≡ []
    unfolding raw_statements if◌then◌otherwise◌
    none_left m l = let z : left ≡ suc (left - 1) = omega arith in rw z (rw (le-ltb x end l))

    pub all_done : 0 < left → end ≤ x
        → WroteAt at (raw_statements rounds (raw_statement fuel (source program tokens code)) (source program tokens code) first end) before now next
    all_done m l = ends g.writing (none_left m l)

    module _ (m : 0 < left) (l : x < end) (w n : ℕ) (i : w ≡ get_or code x 0) (j : n ≡ size_in w) where
      one_more : raw_statements left (raw_statement fuel (source program tokens code)) (source program tokens code) x end
          ≡ (raw_statement fuel (source program tokens code) x ++ bytes "\n")
          ++ raw_statements (left - 1) (raw_statement fuel (source program tokens code)) (source program tokens code) (x + n) end
      unfolding raw_statements if◌then◌otherwise◌
      one_more = let z : left ≡ suc (left - 1) = omega arith in rw z (rw (lt-ltb x end l, ← z, ← i, ← j))

      pub all_again : {after : List ℕ} {last : ℕ} → WroteAt next (raw_statement fuel (source program tokens code) x ++ bytes "\n") now after last
          → Following program tokens code fuel first end rounds at before after last (x + n) (left - 1)
      all_again p = record { short = g.short; room = g.room; writing = goes_on _ _ g.short g.writing one_more p }
