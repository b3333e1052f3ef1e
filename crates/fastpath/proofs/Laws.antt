-- One law for each way through each function.
use Prim.Native.Nat.{ℕ, zero, suc, ◌+◌, ◌-◌, ◌*◌, ◌/◌, ◌%◌, ◌^◌, ◌≤◌, ◌<◌}
use mathlib.Core.Path.{◌≡◌, refl, sym, ◌∙◌}
use mathlib.Core.Bool.{Bool, true, false, not}
use mathlib.Core.List.{List}
use native.Mathlib.Omega.{arith}
use lib.ListN.{get_or, length, take, drop}
use borrow.Author.Rules.{part_to_end}
use lib.IntN.{ℤ}
use lib.Signed.{mag, lt_z}
use lib.Dec.{eqb, leb}
use mir.Syntax.{w32}
use mir.Val.{to_z, SFits}
use mir.Facts.{to_z-of_z}
use borrow.Author.Tests.{not-true, not-false, lt-ltb, le-ltb, le-leb, lt-leb, ne_eqb, eqb-true, eqb-false}
use Rattle.meaning.specs.Basics.{if◌then◌otherwise◌}
use Rattle.meaning.specs.Integer.{sum, difference, product, quotient, remainder, shifted_left, shifted_right, is_zero, same_integer}
use Rattle.machine.specs.Opcodes.{tag_in, size_in, size_at, number_in, first_operator, head_number, head_string, head_name, tag_add, tag_subtract, tag_multiply}
use Rattle.machine.specs.Opcodes.{tag_divide, tag_remainder, tag_shift_right, tag_shift_left, tag_equal, tag_unequal, tag_greater, tag_less}
use Rattle.machine.specs.declared.Value.TheVariants.{Integer, Text, Boolean, Shape}
use Rattle.machine.specs.Words.{packed}
use Rattle.machine.specs.Words as Words
use Rattle.machine.specs.Layout.{steps_used, steps_granted}
use Rattle.machine.specs.Variables.{holding}
use Rattle.machine.specs.Act.{Pays}
use Rattle.machine.specs.Shapes.{destroyed_at}
use Rattle.stores.proofs.Acts.{paid, short}
use Rattle.values.proofs.Held.{held, back_by, test_is}
use Rattle.fastpath.specs.Fast.{plain_word, leaf_word, operator_word, word_on, sizes_agree, operation_word, fast_at, living_word, other_word, leaf_argument, argument_at, applies, Values}

-- ---- constants and variables
module _ (u : ℕ) where
  pub plain_integer : u % 8 ≡ 1 → u % 34359738368 ≡ plain_word u
  unfolding plain_word if◌then◌otherwise◌
  plain_integer h = rw h

  pub plain_truth : (u % 8 ≡ 1 → ⊥) → u % 8 ≡ 3 → u % 16 ≡ plain_word u
  unfolding plain_word if◌then◌otherwise◌
  plain_truth n h = rw h

  pub plain_other : (u % 8 ≡ 1 → ⊥) → (u % 8 ≡ 3 → ⊥) → 0 ≡ plain_word u
  unfolding plain_word if◌then◌otherwise◌
  plain_other n m = rw (ne_eqb _ _ n, ne_eqb _ _ m)

module _ (ws : List ℕ) (w : ℕ) where
  pub leaf_number : w % 4294967296 ≡ head_number → w < 2 ^ 64 → 1 + 8 * (w / 4294967296) ≡ leaf_word ws w
  unfolding leaf_word if◌then◌otherwise◌
  leaf_number h l = rw (h, lt-ltb (w / 4294967296) (2 ^ 32) (omega arith))

  pub leaf_name : (r k : ℕ) → w % 4294967296 ≡ head_name → k ≡ holding ws (w / 4294967296) → r ≡ plain_word k → r ≡ leaf_word ws w
  unfolding leaf_word if◌then◌otherwise◌
  leaf_name r k h f g = g ∙ rw (h, f)

  pub leaf_other : (w % 4294967296 ≡ head_number → ⊥) → (w % 4294967296 ≡ head_name → ⊥) → 0 ≡ leaf_word ws w
  unfolding leaf_word if◌then◌otherwise◌
  leaf_other n m = rw (ne_eqb _ _ n, ne_eqb _ _ m)

-- ---- operators
module _ {x y : ℤ} (i : SFits w32 x) (j : SFits w32 y) {r : ℕ} {s : ℤ} (h : mag s < 2 ^ 31) (k : r ≡ packed (Integer (held s))) where
  by : (f : ℤ → ℤ → ℤ) → s ≡ f (held x) (held y) → r ≡ packed (Integer (f x y))
  by f e = rw (← back_by f i j h e) k

  module _ {b : Bool} (z : b ≡ is_zero (held y)) (n : b ≡ false) where
    pub divides : s ≡ quotient (held x) (held y) → r ≡ operator_word tag_divide x y
    unfolding operator_word if◌then◌otherwise◌
    divides e = rw (test_is is_zero j z n) (by quotient e)

    pub leaves : s ≡ remainder (held x) (held y) → r ≡ operator_word tag_remainder x y
    unfolding operator_word if◌then◌otherwise◌
    leaves e = rw (test_is is_zero j z n) (by remainder e)

  module _ {tag : ℕ} where
    pub adds : tag ≡ tag_add → s ≡ sum (held x) (held y) → r ≡ operator_word tag x y
    unfolding operator_word if◌then◌otherwise◌
    adds t e = rw t (by sum e)

    pub subtracts : tag ≡ tag_subtract → s ≡ difference (held x) (held y) → r ≡ operator_word tag x y
    unfolding operator_word if◌then◌otherwise◌
    subtracts t e = rw t (by difference e)

    pub multiplies : tag ≡ tag_multiply → s ≡ product (held x) (held y) → r ≡ operator_word tag x y
    unfolding operator_word if◌then◌otherwise◌
    multiplies t e = rw t (by product e)

    pub shifts_right : tag ≡ tag_shift_right → s ≡ shifted_right (held x) (held y) → r ≡ operator_word tag x y
    unfolding operator_word if◌then◌otherwise◌
    shifts_right t e = rw t (by shifted_right e)

    pub shifts_left : tag ≡ tag_shift_left → s ≡ shifted_left (held x) (held y) → r ≡ operator_word tag x y
    unfolding operator_word if◌then◌otherwise◌
    shifts_left t e = rw t (by shifted_left e)

module _ (x : ℤ) {y : ℤ} (j : SFits w32 y) {b : Bool} (z : b ≡ is_zero (held y)) (n : b ≡ true) where
  pub divides_by_zero : 0 ≡ operator_word tag_divide x y
  unfolding operator_word if◌then◌otherwise◌
  divides_by_zero = rw (test_is is_zero j z n)

  pub no_remainder : 0 ≡ operator_word tag_remainder x y
  unfolding operator_word if◌then◌otherwise◌
  no_remainder = rw (test_is is_zero j z n)

module _ {x y : ℤ} (i : SFits w32 x) (j : SFits w32 y) {r tag : ℕ} where
  pub by_tag : (n : ℕ) → tag ≡ n → r ≡ operator_word n (held x) (held y) → r ≡ operator_word tag x y
  by_tag n t h = rw (t, ← to_z-of_z i, ← to_z-of_z j) h

  module _ {b : Bool} where
    pub equals : tag ≡ tag_equal → b ≡ same_integer (held x) (held y) → r ≡ packed (Boolean b) → r ≡ operator_word tag x y
    unfolding operator_word if◌then◌otherwise◌
    equals t e k = k ∙ rw (t, e, to_z-of_z i, to_z-of_z j)

    pub differs : tag ≡ tag_unequal → b ≡ same_integer (held x) (held y) → r ≡ packed (Boolean (not b)) → r ≡ operator_word tag x y
    unfolding operator_word if◌then◌otherwise◌
    differs t e k = k ∙ rw (t, e, to_z-of_z i, to_z-of_z j)

    pub exceeds : tag ≡ tag_greater → b ≡ lt_z (held y) (held x) → r ≡ packed (Boolean b) → r ≡ operator_word tag x y
    unfolding operator_word if◌then◌otherwise◌
    exceeds t e k = k ∙ rw (t, e, to_z-of_z i, to_z-of_z j)

    pub is_less : tag ≡ tag_less → b ≡ lt_z (held x) (held y) → r ≡ packed (Boolean b) → r ≡ operator_word tag x y
    unfolding operator_word if◌then◌otherwise◌
    is_less t e k = k ∙ rw (t, e, to_z-of_z i, to_z-of_z j)

pub no_operator : {tag : ℕ} (x y : ℤ) → (tag ≡ tag_add → ⊥) → (tag ≡ tag_subtract → ⊥) → (tag ≡ tag_multiply → ⊥) → (tag ≡ tag_divide → ⊥) → (tag ≡ tag_remainder → ⊥) → (tag ≡ tag_shift_right → ⊥)
    → (tag ≡ tag_shift_left → ⊥) → (tag ≡ tag_equal → ⊥) → (tag ≡ tag_unequal → ⊥) → (tag ≡ tag_greater → ⊥) → (tag ≡ tag_less → ⊥) → 0 ≡ operator_word tag x y
unfolding operator_word if◌then◌otherwise◌
no_operator {tag} x y a b c d e f g h i j k =
    rw (ne_eqb _ _ a, ne_eqb _ _ b, ne_eqb _ _ c, ne_eqb _ _ d, ne_eqb _ _ e, ne_eqb _ _ f)
    (rw (ne_eqb _ _ g, ne_eqb _ _ h, ne_eqb _ _ i, ne_eqb _ _ j, ne_eqb _ _ k) refl)

-- ---- on words
module _ (tag a b : ℕ) where
  pub left_other : (a % 8 ≡ 1 → ⊥) → 0 ≡ word_on tag a b
  unfolding word_on if◌then◌otherwise◌
  left_other n = rw (ne_eqb _ _ n)

  pub right_other : a % 8 ≡ 1 → (b % 8 ≡ 1 → ⊥) → 0 ≡ word_on tag a b
  unfolding word_on if◌then◌otherwise◌
  right_other h n = rw (h, ne_eqb _ _ n)

  pub on_integers : {r : ℕ} {x y : ℤ} → a % 8 ≡ 1 → b % 8 ≡ 1 → mag x < 2 ^ 31 → mag y < 2 ^ 31 → x ≡ to_z w32 (Words.number_in a) → y ≡ to_z w32 (Words.number_in b)
      → r ≡ operator_word tag (held x) (held y) → r ≡ word_on tag a b
  unfolding word_on if◌then◌otherwise◌
  on_integers h k i j e f g =
      rw (h, k, ← e, ← f) (rw (to_z-of_z {w = w32} (record { sfits = i }), to_z-of_z {w = w32} (record { sfits = j })) at g)

pub agree : (w u v a b c : ℕ) → a ≡ size_in w → b ≡ size_in u → c ≡ size_in v → eqb a (b + c + 1) ≡ sizes_agree w u v
agree w u v a b c e f g = rw (e, f, g)

-- ---- expressions
-- a slice lent anew, as the part of it from 0 on
abbrev whole : List ℕ → List ℕ
whole s = take (length s - 0) (drop 0 s)

whole_is : (s : List ℕ) → whole s ≡ s
whole_is s = part_to_end s 0

module _ (depth : ℕ) (code ws : List ℕ) (w x y z u v : ℕ) (e : z ≡ x - 1 - number_in w) (f : y ≡ x - 1) (g : u ≡ get_or (whole code) z 0) (h : v ≡ get_or (whole code) y 0)
    (ok : Bool) (s : ok ≡ sizes_agree w u v) where
  agreed : ok ≡ sizes_agree w (get_or code (x - 1 - number_in w) 0) (get_or code (x - 1) 0)
  agreed = s ∙ rw (g, h, whole_is code, e, f)

  pub sizes_differ : not ok ≡ true → 0 ≡ operation_word (fast_at depth code ws) code w x
  unfolding operation_word if◌then◌otherwise◌
  sizes_differ t = rw (← agreed, not-true ok t)

  module _ (a : ℕ) (t : not ok ≡ false) (c : a ≡ fast_at depth (whole code) (whole ws) z) where
    left : a ≡ fast_at depth code ws (x - 1 - number_in w)
    left = c ∙ rw (whole_is code, whole_is ws, e)

    pub left_fails : (a % 8 ≡ 1 → ⊥) → 0 ≡ operation_word (fast_at depth code ws) code w x
    unfolding operation_word if◌then◌otherwise◌
    left_fails n = rw (← agreed, not-false ok t, ← left) (left_other _ a _ n)

    pub operates : (b tag r : ℕ) → b ≡ fast_at depth (whole code) (whole ws) y → tag ≡ tag_in w → r ≡ word_on tag a b → r ≡ operation_word (fast_at depth code ws) code w x
    unfolding operation_word if◌then◌otherwise◌
    operates b tag r d k o =
        let m : b ≡ fast_at depth code ws (x - 1) = d ∙ rw (whole_is code, whole_is ws, f) in
        o ∙ rw (← agreed, not-false ok t) (rw (← left, ← m, ← k))

module _ (depth : ℕ) (code ws : List ℕ) (w x : ℕ) where
  pub too_deep : depth ≡ 0 → 0 ≡ fast_at depth code ws x
  unfolding fast_at
  too_deep z = rw z

  module _ (n : depth ≡ 0 → ⊥) (e : w ≡ get_or code x 0) (tag r : ℕ) (t : tag ≡ tag_in w) where
    deeper : depth ≡ suc (depth - 1)
    deeper = omega (arith, n)

    pub is_leaf : tag < first_operator → r ≡ leaf_word ws w → r ≡ fast_at depth code ws x
    unfolding fast_at if◌then◌otherwise◌
    is_leaf l h = rw deeper (rw (← e, ← t, lt-ltb tag first_operator l) h)

    pub is_operation : first_operator ≤ tag → r ≡ operation_word (fast_at (depth - 1) code ws) code w x → r ≡ fast_at depth code ws x
    unfolding fast_at if◌then◌otherwise◌
    is_operation l h = rw deeper (rw (← e, ← t, le-ltb tag first_operator l) h)

    pub is_operation_anew : first_operator ≤ tag → r ≡ operation_word (fast_at (depth - 1) (whole code) (whole ws)) (whole code) w x → r ≡ fast_at depth code ws x
    is_operation_anew l h = is_operation l (rw (whole_is code, whole_is ws) at h)

-- ---- their steps
module _ (v steps : ℕ) (g ws : List ℕ) where
  pub no_value : v ≡ 0 → Values v steps g ws 0 ws
  unfolding applies if◌then◌otherwise◌
  no_value z = record { result = rw z; words = rw z }

  module _ (n : v ≡ 0 → ⊥) (ok : Bool) (ws₁ : List ℕ) (p : Pays ws 0 (steps_granted g) steps ok ws₁) where
    pub too_many : not ok ≡ true → Values v steps g ws 0 ws₁
    unfolding applies if◌then◌otherwise◌
    too_many t =
        let q = short (rw (not-true ok t) at p) in
        let b : leb (get_or ws steps_used 0 + steps) (steps_granted g) ≡ false = lt-leb _ _ q.beyond in
        record { result = rw (ne_eqb _ _ n, b); words = q.words ∙ rw (ne_eqb _ _ n, b) }

    pub all_counted : not ok ≡ false → Values v steps g ws v ws₁
    unfolding applies if◌then◌otherwise◌
    all_counted t =
        let q = paid (rw (not-false ok t) at p) in
        let b : leb (get_or ws steps_used 0 + steps) (steps_granted g) ≡ true = le-leb _ _ q.within in
        record { result = rw (ne_eqb _ _ n, b); words = q.words ∙ rw (ne_eqb _ _ n, b) }

pub values_anew : (depth : ℕ) (code g ws : List ℕ) (x v w steps r : ℕ) (ws₁ : List ℕ) → w ≡ get_or (whole code) x 0 → v ≡ fast_at depth (whole code) ws x → steps ≡ size_in w
    → Values v steps g ws r ws₁ → Values (fast_at depth code ws x) (size_at code x) g ws r ws₁
values_anew depth code g ws x v w steps r ws₁ e f s h = rw (f, s, e, whole_is code) at h

-- ---- arguments
module _ (ws : List ℕ) (u : ℕ) where
  pub no_shape_lem : (u % 8 ≡ 6 → ⊥) → 0 ≡ living_word ws u
  unfolding living_word if◌then◌otherwise◌
  no_shape_lem n = rw (ne_eqb _ _ n)

  module _ (i : ℕ) (h : u % 8 ≡ 6) (e : i ≡ Words.number_in u) (b : Bool) (d : b ≡ destroyed_at ws i) where
    pub no_longer : b ≡ true → 0 ≡ living_word ws u
    unfolding living_word if◌then◌otherwise◌
    no_longer t = rw (h, ← e, ← d, t)

    pub lives : (r : ℕ) → b ≡ false → r ≡ packed (Shape i) → r ≡ living_word ws u
    unfolding living_word if◌then◌otherwise◌
    lives r t f = f ∙ rw (h, ← e, ← d, t)

module _ (ws : List ℕ) (w : ℕ) where
  pub other_string : (r : ℕ) → w % 4294967296 ≡ head_string → w < 2 ^ 64 → r ≡ packed (Text (2 * (w / 4294967296))) → r ≡ other_word ws w
  unfolding other_word if◌then◌otherwise◌
  other_string r h l f = f ∙ rw (h, lt-ltb (w / 4294967296) (2 ^ 32) (omega arith))

  pub other_name : (r k : ℕ) → w % 4294967296 ≡ head_name → k ≡ holding ws (w / 4294967296) → r ≡ living_word ws k → r ≡ other_word ws w
  unfolding other_word if◌then◌otherwise◌
  other_name r k h f g = g ∙ rw (h, f)

  pub no_other : (w % 4294967296 ≡ head_string → ⊥) → (w % 4294967296 ≡ head_name → ⊥) → 0 ≡ other_word ws w
  unfolding other_word if◌then◌otherwise◌
  no_other n m = rw (ne_eqb _ _ n, ne_eqb _ _ m)

  -- a leaf that is an integer or a truth is nothing else
  no_other_leaf : (leaf_word ws w ≡ 0 → ⊥) → 0 ≡ other_word ws w
  no_other_leaf n = go (eqb (w % 2 ^ 32) head_string) (eqb (w % 2 ^ 32) head_name) refl refl
    where
      go : (i j : Bool) → eqb (w % 2 ^ 32) head_string ≡ i → eqb (w % 2 ^ 32) head_name ≡ j → 0 ≡ other_word ws w
      go true j p q = let h = eqb-true (w % 2 ^ 32) head_string p in absurd (n (sym (leaf_other ws w (λ k. omega arith) (λ k. omega arith))))
      go false true p q =
          let h = eqb-true (w % 2 ^ 32) head_name q in
          other_name 0 _ h refl (no_shape_lem ws _ λ s. n (sym (leaf_name ws w 0 _ h refl (plain_other _ (λ k. omega arith) (λ k. omega arith)))))
      go false false p q = no_other (eqb-false _ _ p) (eqb-false _ _ q)

  module _ (v : ℕ) (e : v ≡ leaf_word ws w) where
    pub leaf_found : (v ≡ 0 → ⊥) → v ≡ leaf_argument ws w
    unfolding leaf_argument if◌then◌otherwise◌
    leaf_found n = rw (← no_other_leaf (λ z. n (e ∙ z))) e

    pub leaf_or_other : (r : ℕ) → v ≡ 0 → r ≡ other_word ws w → r ≡ leaf_argument ws w
    unfolding leaf_argument if◌then◌otherwise◌
    leaf_or_other r z f = rw (← f, ← e) (go (eqb r 0) refl)
      where
        go : (i : Bool) → eqb r 0 ≡ i → r ≡ (if i then (λ _. v) otherwise λ _. r)
        go true q = eqb-true _ _ q ∙ sym z
        go false q = refl

  -- a word of another size than 1 is none
  no_leaf : (size_in w ≡ 1 → ⊥) → 0 ≡ leaf_argument ws w
  unfolding leaf_argument if◌then◌otherwise◌
  no_leaf n = rw (← no_other (λ h. n (omega arith)) (λ h. n (omega arith))) (leaf_other ws w (λ h. n (omega arith)) (λ h. n (omega arith)))

  one_step : (v : ℕ) (g : List ℕ) (r : ℕ) (ws₁ : List ℕ) → v ≡ leaf_argument ws w → Values v 1 g ws r ws₁ → Values v (size_in w) g ws r ws₁
  unfolding applies if◌then◌otherwise◌
  one_step v g r ws₁ e h = go (eqb (size_in w) 1) refl
    where
      go : (i : Bool) → eqb (size_in w) 1 ≡ i → Values v (size_in w) g ws r ws₁
      go true q = rw (eqb-true (size_in w) 1 q) h
      go false q =
          let z = e ∙ sym (no_leaf (eqb-false _ _ q)) in
          let k = rw z at h in
          rw z record { result = k.result; words = k.words }

module _ (code ws : List ℕ) (x : ℕ) where
  leaf_argument_lem : (depth w : ℕ) → (depth ≡ 0 → ⊥) → w ≡ get_or code x 0 → tag_in w < first_operator → argument_at depth code ws x ≡ leaf_argument ws w
  unfolding argument_at fast_at leaf_argument if◌then◌otherwise◌
  leaf_argument_lem zero w n e l = absurd (n refl)
  leaf_argument_lem (suc depth) w n e l = rw (← e, lt-ltb (tag_in w) first_operator l)

  operation_argument : (depth w : ℕ) → (depth ≡ 0 → ⊥) → w ≡ get_or code x 0 → first_operator ≤ tag_in w → argument_at depth code ws x ≡ fast_at depth code ws x
  unfolding argument_at if◌then◌otherwise◌
  operation_argument zero w n e l = absurd (n refl)
  operation_argument (suc depth) w n e l = rw (← e, ← no_other ws w (λ k. omega arith) (λ k. omega arith))

  module _ (depth : ℕ) (g : List ℕ) where
    pub no_argument : depth ≡ 0 → Values (argument_at depth code ws x) (size_at code x) g ws 0 ws
    unfolding argument_at applies if◌then◌otherwise◌
    no_argument z = rw z record { result = refl; words = refl }

    module _ (w tag r : ℕ) (ws₁ : List ℕ) (n : depth ≡ 0 → ⊥) (e : w ≡ get_or code x 0) (t : tag ≡ tag_in w) where
      pub argument_leaf : (v : ℕ) → tag < first_operator → v ≡ leaf_argument ws w → Values v 1 g ws r ws₁ → Values (argument_at depth code ws x) (size_at code x) g ws r ws₁
      argument_leaf v l f h = rw (leaf_argument_lem depth w n e (rw t at l), ← f, ← e) (one_step ws w v g r ws₁ f h)

      pub argument_operation : first_operator ≤ tag → Values (fast_at depth code ws x) (size_at code x) g ws r ws₁ → Values (argument_at depth code ws x) (size_at code x) g ws r ws₁
      argument_operation l h = rw (operation_argument depth w n e (rw t at l)) h
