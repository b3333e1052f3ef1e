-- One law for each way through each function.
-- Assumes nothing.
use Prim.Native.Nat.{ℕ, ◌-◌, ◌^◌, ◌≤◌, ◌<◌}
use mathlib.Core.Path.{◌≡◌, ◌∙◌}
use mathlib.Core.Bool.{Bool, true, false, not}
use mathlib.Core.List.{List, [], ◌++◌, append_assoc}
use borrow.Author.Tests.{lt-ltb, le-ltb, lt-leb, le-leb, ne_eqb}
use lib.ListN.{length, get_or}
use lib.Dec.{eqb}
use Rattle.meaning.specs.Basics.{bytes, if◌then◌otherwise◌}
use Rattle.meaning.specs.Byte.{is_name_part}
use Rattle.canonical.specs.Text.{apart}
use Rattle.machine.specs.Opcodes.{tag_in, size_in, tag_string, tag_table, tag_entry, first_operator}
use Rattle.writing.specs.Placed.{WroteAt}
use Rattle.spellings.specs.Spelling.{name_text}
use Rattle.spellings.proofs.Chains.{then_two, then_ending}
use Rattle.phrases.specs.Raw.{source, spelling, pair_text, raw_expression}
use Rattle.clauses.specs.Raw.{ending_in, update_text, tag_ends, operand_ends, ends_word, iterator_text}

-- ---- statements that hold no others
module _ (program tokens code : List ℕ) (fuel : ℕ) {at r : ℕ} {d : List ℕ} where
  pub assignment_written : (slot y : ℕ) {m : ℕ} {e f : List ℕ} → length d < 2 ^ 64 → WroteAt at (name_text program tokens slot) d e m
      → WroteAt m (bytes "=" ++ raw_expression fuel (source program tokens code) y ++ bytes ";") e f r
      → WroteAt at (ending_in (raw_expression fuel (source program tokens code)) (spelling (source program tokens code) slot ++ bytes "=") y) d f r
  unfolding ending_in
  assignment_written slot y h p q = then_ending _ _ _ h p q

  pub update_written : (y j b k a : ℕ) {m : ℕ} {e f : List ℕ} → length d < 2 ^ 64 → j ≡ get_or code y 0 → b ≡ y - size_in j → k ≡ get_or code b 0 → a ≡ b - size_in k
      → WroteAt at (pair_text (raw_expression fuel (source program tokens code)) (source program tokens code) tag_entry a b) d e m
      → WroteAt m (bytes "=" ++ raw_expression fuel (source program tokens code) y ++ bytes ";") e f r
      → WroteAt at (update_text (raw_expression fuel (source program tokens code)) (source program tokens code) y) d f r
  unfolding update_text ending_in
  update_written y j b k a h i l m n p q = rw (← i, ← l, ← m, ← n) (then_ending _ _ _ h p q)

  module _ (y : ℕ) (b : Bool) (i : b ≡ is_name_part (get_or (raw_expression fuel (source program tokens code) y) 0 0)) (word close : List ℕ) {m : ℕ} {e f : List ℕ}
      (h : length d < 2 ^ 64) (p : WroteAt at word d e m) where
    pub apart_spaced : b ≡ true → WroteAt m (bytes " " ++ raw_expression fuel (source program tokens code) y ++ close) e f r
        → WroteAt at (word ++ apart (raw_expression fuel (source program tokens code) y) ++ close) d f r
    unfolding apart
    apart_spaced t q = rw (← i, t, append_assoc word (bytes " " ++ raw_expression fuel (source program tokens code) y) close) (then_two h p q)

    pub apart_closed : b ≡ false → WroteAt m ([] ++ raw_expression fuel (source program tokens code) y ++ close) e f r
        → WroteAt at (word ++ apart (raw_expression fuel (source program tokens code) y) ++ close) d f r
    unfolding apart
    apart_closed t q = rw (← i, t, append_assoc word (raw_expression fuel (source program tokens code) y) close) (then_two h p q)

  -- ---- foreach up to its body
  module _ (slot y : ℕ) (b : Bool) (i : b ≡ ends_word code y) {m n : ℕ} {e f g : List ℕ}
      (h : length d < 2 ^ 64) (p : WroteAt at (bytes "foreach ") d e m) (q : WroteAt m (name_text program tokens slot) e f n) where
    pub iterator_spaced : b ≡ true → WroteAt n (bytes " in" ++ apart (raw_expression fuel (source program tokens code) y) ++ bytes " do\n") f g r
        → WroteAt at (iterator_text (raw_expression fuel (source program tokens code)) (source program tokens code) slot y) d g r
    unfolding iterator_text
    iterator_spaced t w = rw (← i, t) (then_ending _ _ _ h (then_two h p q) w)

    pub iterator_closed : b ≡ false → WroteAt n (bytes " in" ++ apart (raw_expression fuel (source program tokens code) y) ++ bytes "do\n") f g r
        → WroteAt at (iterator_text (raw_expression fuel (source program tokens code)) (source program tokens code) slot y) d g r
    unfolding iterator_text
    iterator_closed t w = rw (← i, t) (then_ending _ _ _ h (then_two h p q) w)

-- ---- how an expression ends
module _ (tag : ℕ) where
  pub tag_closed : tag_table ≤ tag → false ≡ tag_ends tag
  unfolding tag_ends
  tag_closed h = rw (le-ltb tag 6 h)

  pub tag_leaf : tag < tag_table → not (eqb tag tag_string) ≡ tag_ends tag
  unfolding tag_ends
  tag_leaf h = rw (lt-ltb tag 6 h)

module _ (code : List ℕ) (y w tag : ℕ) (i : w ≡ get_or code y 0) (j : tag ≡ tag_in w) {r : Bool} where
  pub operand_own : (tag ≡ tag_entry → ⊥) → r ≡ tag_ends tag → r ≡ operand_ends code y
  unfolding operand_ends if◌then◌otherwise◌
  operand_own n q = q ∙ rw (← i, ← j, ne_eqb tag 7 n)

  pub operand_second : (z v u : ℕ) → tag ≡ tag_entry → z ≡ y - 1 → v ≡ get_or code z 0 → u ≡ tag_in v → r ≡ tag_ends u → r ≡ operand_ends code y
  unfolding operand_ends if◌then◌otherwise◌
  operand_second z v u e k l m q = q ∙ rw (← i, ← j, e, ← k, ← l, ← m)

  pub word_own : tag < first_operator → r ≡ operand_ends code y → r ≡ ends_word code y
  unfolding ends_word if◌then◌otherwise◌
  word_own l q = q ∙ rw (← i, ← j, lt-leb 16 tag l)

  pub word_second : (z : ℕ) → first_operator ≤ tag → z ≡ y - 1 → r ≡ operand_ends code z → r ≡ ends_word code y
  unfolding ends_word if◌then◌otherwise◌
  word_second z l k q = q ∙ rw (← i, ← j, le-leb 16 tag l, ← k)
