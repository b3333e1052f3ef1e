-- What the writers of one word come to.
-- Assumes nothing.
use Prim.Native.Nat.{ℕ, ◌+◌, ◌-◌, ◌^◌, ◌≤◌, ◌<◌}
use mathlib.Core.Path.{◌≡◌}
use mathlib.Core.Bool.{true, false, cond}
use mathlib.Core.List.{List, ◌++◌}
use native.Mathlib.Omega.{arith}
use borrow.Author.Tests.{le-leb, lt-leb, ne_eqb}
use lib.Dec.{eqb}
use lib.IntN.{ℤ}
use lib.ListN.{length, get_or, take, drop}
use mir.Syntax.{w32}
use mir.Val.{SFits, to_z}
use Rattle.meaning.specs.Basics.{bytes, if◌then◌otherwise◌}
use Rattle.meaning.specs.Picture.{decimal}
use Rattle.machine.specs.Opcodes.{tag_in, number_in, place_in, extra_in, first_operator, tag_number, tag_string, tag_none, tag_truth, tag_entry}
use Rattle.machine.specs.Opcodes.{tag_concatenate, tag_add, tag_subtract, tag_multiply, tag_divide, tag_remainder, tag_shift_right, tag_shift_left, tag_equal, tag_unequal, tag_greater}
use Rattle.tokens.specs.Words as Tokens
use Rattle.writing.specs.Placed.{WroteAt}
use Rattle.writing.proofs.Signs.{seen_wide, seen, handed_both}
use Rattle.spellings.specs.Spelling.{part, name_text, leaf_text, sign_text, encloses}
use Rattle.spellings.proofs.Chains.{then_three}

-- ---- parts of the program
pub part_written : (program t : List ℕ) (start size : ℕ) {at r : ℕ} {d e : List ℕ} → t ≡ take (start + size - start) (drop start program) → WroteAt at t d e r
    → WroteAt at (part program start size) d e r
unfolding part
part_written program t start size i p = let q : start + size - start ≡ size = omega arith in rw (i, q) at p

pub name_written : (program tokens : List ℕ) (slot w place size : ℕ) {at r : ℕ} {d e : List ℕ} → w ≡ get_or tokens slot 0 → place ≡ Tokens.place_in w → size ≡ Tokens.size_in w
    → WroteAt at (part program place size) d e r → WroteAt at (name_text program tokens slot) d e r
unfolding name_text
name_written program tokens slot w place size i j k p = rw (j, k, i) at p

-- ---- constants and names
pub number_written : (w n : ℕ) (z : ℤ) {at r : ℕ} {d e : List ℕ} → SFits w32 z → n ≡ number_in w → z ≡ to_z w32 n → WroteAt at (decimal (seen_wide (seen z))) d e r
    → WroteAt at (decimal (to_z w32 (number_in w))) d e r
number_written w n z f i j p = rw (← i, ← j) (rw (handed_both z f) at p)

pub truth_false : (w n : ℕ) {at r : ℕ} {d e : List ℕ} → n ≡ number_in w → n ≡ 0 → WroteAt at (bytes "false") d e r
    → WroteAt at (cond (eqb (number_in w) 0) (bytes "false") (bytes "true")) d e r
truth_false w n i j p = rw (← i, j) p

pub truth_true : (w n : ℕ) {at r : ℕ} {d e : List ℕ} → n ≡ number_in w → (n ≡ 0 → ⊥) → WroteAt at (bytes "true") d e r
    → WroteAt at (cond (eqb (number_in w) 0) (bytes "false") (bytes "true")) d e r
truth_true w n i j p = rw (← i, ne_eqb _ _ j) p

pub string_written : (program : List ℕ) (w start size : ℕ) {at m n r : ℕ} {d e f g : List ℕ} → length d < 2 ^ 64 → start ≡ place_in w → size ≡ extra_in w
    → WroteAt at (bytes "\"") d e m → WroteAt m (part program start size) e f n → WroteAt n (bytes "\"") f g r
    → WroteAt at (bytes "\"" ++ part program (place_in w) (extra_in w) ++ bytes "\"") d g r
string_written program w start size h i j p q s = rw (← i, ← j) (then_three h p q s)

module _ (program tokens : List ℕ) (w tag : ℕ) (i : tag ≡ tag_in w) {at r : ℕ} {d e : List ℕ} where
  pub number_leaf : tag ≡ tag_number → WroteAt at (decimal (to_z w32 (number_in w))) d e r → WroteAt at (leaf_text program tokens w) d e r
  unfolding leaf_text if◌then◌otherwise◌
  number_leaf j p = rw (← i, j) p

  pub string_leaf : tag ≡ tag_string → WroteAt at (bytes "\"" ++ part program (place_in w) (extra_in w) ++ bytes "\"") d e r
      → WroteAt at (leaf_text program tokens w) d e r
  unfolding leaf_text if◌then◌otherwise◌
  string_leaf j p = rw (← i, j) p

  pub none_leaf : tag ≡ tag_none → WroteAt at (bytes "none") d e r → WroteAt at (leaf_text program tokens w) d e r
  unfolding leaf_text if◌then◌otherwise◌
  none_leaf j p = rw (← i, j) p

  pub truth_leaf : tag ≡ tag_truth → WroteAt at (cond (eqb (number_in w) 0) (bytes "false") (bytes "true")) d e r
      → WroteAt at (leaf_text program tokens w) d e r
  unfolding leaf_text if◌then◌otherwise◌
  truth_leaf j p = rw (← i, j) p

  pub name_leaf : (slot : ℕ) → (tag ≡ tag_number → ⊥) → (tag ≡ tag_string → ⊥) → (tag ≡ tag_none → ⊥) → (tag ≡ tag_truth → ⊥) → slot ≡ number_in w
      → WroteAt at (name_text program tokens slot) d e r → WroteAt at (leaf_text program tokens w) d e r
  unfolding leaf_text if◌then◌otherwise◌
  name_leaf slot j k l m n p = rw (← i, ne_eqb _ _ j, ne_eqb _ _ k, ne_eqb _ _ l, ne_eqb _ _ m, ← n) p

-- ---- parentheses
module _ (outer inner : ℕ) where
  pub operator_encloses : first_operator ≤ inner → true ≡ encloses outer inner
  unfolding encloses
  operator_encloses h = rw (le-leb 16 inner h)

  pub operator_keeps : inner < first_operator → (outer ≡ tag_entry → ⊥) → false ≡ encloses outer inner
  unfolding encloses
  operator_keeps h k = rw (lt-leb 16 inner h, ne_eqb _ _ k)

  pub entry_encloses : inner < first_operator → outer ≡ tag_entry → eqb inner tag_entry ≡ encloses outer inner
  unfolding encloses
  entry_encloses h k = rw (lt-leb 16 inner h, k)

-- ---- signs
module _ (tag : ℕ) {at r : ℕ} {d e : List ℕ} where
  pub sign_entry : tag ≡ tag_entry → WroteAt at (bytes ".") d e r → WroteAt at (sign_text tag) d e r
  unfolding sign_text if◌then◌otherwise◌
  sign_entry i p = rw i p

  pub sign_concatenate : tag ≡ tag_concatenate → WroteAt at (bytes "++") d e r → WroteAt at (sign_text tag) d e r
  unfolding sign_text if◌then◌otherwise◌
  sign_concatenate i p = rw i p

  pub sign_add : tag ≡ tag_add → WroteAt at (bytes "+") d e r → WroteAt at (sign_text tag) d e r
  unfolding sign_text if◌then◌otherwise◌
  sign_add i p = rw i p

  pub sign_subtract : tag ≡ tag_subtract → WroteAt at (bytes "-") d e r → WroteAt at (sign_text tag) d e r
  unfolding sign_text if◌then◌otherwise◌
  sign_subtract i p = rw i p

  pub sign_multiply : tag ≡ tag_multiply → WroteAt at (bytes "*") d e r → WroteAt at (sign_text tag) d e r
  unfolding sign_text if◌then◌otherwise◌
  sign_multiply i p = rw i p

  pub sign_divide : tag ≡ tag_divide → WroteAt at (bytes "/") d e r → WroteAt at (sign_text tag) d e r
  unfolding sign_text if◌then◌otherwise◌
  sign_divide i p = rw i p

  pub sign_remainder : tag ≡ tag_remainder → WroteAt at (bytes "%") d e r → WroteAt at (sign_text tag) d e r
  unfolding sign_text if◌then◌otherwise◌
  sign_remainder i p = rw i p

  pub sign_shift_right : tag ≡ tag_shift_right → WroteAt at (bytes ">>") d e r → WroteAt at (sign_text tag) d e r
  unfolding sign_text if◌then◌otherwise◌
  sign_shift_right i p = rw i p

  pub sign_shift_left : tag ≡ tag_shift_left → WroteAt at (bytes "<<") d e r → WroteAt at (sign_text tag) d e r
  unfolding sign_text if◌then◌otherwise◌
  sign_shift_left i p = rw i p

  pub sign_equal : tag ≡ tag_equal → WroteAt at (bytes "==") d e r → WroteAt at (sign_text tag) d e r
  unfolding sign_text if◌then◌otherwise◌
  sign_equal i p = rw i p

  pub sign_unequal : tag ≡ tag_unequal → WroteAt at (bytes "!=") d e r → WroteAt at (sign_text tag) d e r
  unfolding sign_text if◌then◌otherwise◌
  sign_unequal i p = rw i p

  pub sign_greater : tag ≡ tag_greater → WroteAt at (bytes ">") d e r → WroteAt at (sign_text tag) d e r
  unfolding sign_text if◌then◌otherwise◌
  sign_greater i p = rw i p

  pub sign_less : (tag ≡ tag_entry → ⊥) → (tag ≡ tag_concatenate → ⊥) → (tag ≡ tag_add → ⊥) → (tag ≡ tag_subtract → ⊥) → (tag ≡ tag_multiply → ⊥) → (tag ≡ tag_divide → ⊥)
      → (tag ≡ tag_remainder → ⊥) → (tag ≡ tag_shift_right → ⊥) → (tag ≡ tag_shift_left → ⊥) → (tag ≡ tag_equal → ⊥) → (tag ≡ tag_unequal → ⊥) → (tag ≡ tag_greater → ⊥) → WroteAt at (bytes "<") d e r
      → WroteAt at (sign_text tag) d e r
  unfolding sign_text if◌then◌otherwise◌
  sign_less n0 n1 n2 n3 n4 n5 n6 n7 n8 n9 n10 n11 p =
      rw (ne_eqb _ _ n0, ne_eqb _ _ n1, ne_eqb _ _ n2, ne_eqb _ _ n3, ne_eqb _ _ n4, ne_eqb _ _ n5)
      (rw (ne_eqb _ _ n6, ne_eqb _ _ n7, ne_eqb _ _ n8, ne_eqb _ _ n9, ne_eqb _ _ n10, ne_eqb _ _ n11) p)
