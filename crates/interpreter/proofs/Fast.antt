-- An expression that is worked out at once gives what evaluating it gives, and so does an argument.
use Prim.Native.Nat.{ℕ, zero, suc, ◌+◌, ◌-◌, ◌*◌, ◌/◌, ◌%◌, ◌^◌, ◌≤◌, ◌<◌}
use mathlib.Core.Path.{◌≡◌, refl, ap, sym, ◌∙◌}
use mathlib.Core.Bool.{Bool, true, false, not, ◌&&◌}
use mathlib.Core.List.{List, [], ◌∷◌}
use native.Mathlib.Omega.{arith}
use lib.ListN.{get_or, set, length}
use lib.IntN.{ℤ}
use lib.Signed.{mag, lt_z}
use lib.Dec.{eqb, ltb, leb}
use mir.Syntax.{w32}
use mir.Val.{to_z}
use borrow.Author.Tests.{eqb-true, eqb-false, ltb-true, ltb-false, leb-true, le-leb, le-ltb, ne_eqb}
use Rattle.meaning.specs.Basics.{if◌then◌otherwise◌}
use Rattle.meaning.specs.Integer.{sum, difference, product, quotient, remainder, shifted_left, shifted_right, is_zero, same_integer}
use Rattle.arithmetic.proofs.Ranges.{bits_signed, signed_small, sum_small, difference_small, product_small, quotient_small, remainder_small, shifted_left_small, shifted_right_small}
use Rattle.machine.specs.Opcodes.{tag_in, size_in, size_at, number_in, tag_number, tag_string, tag_name, tag_table, tag_entry, tag_call, first_operator, head_number, head_string, head_name}
use Rattle.machine.specs.Opcodes.{tag_add, tag_subtract, tag_multiply, tag_divide, tag_remainder, tag_shift_right, tag_shift_left, tag_equal, tag_unequal, tag_greater, tag_less}
use Rattle.machine.specs.declared.Value.TheVariants.{Integer, Text, Boolean, Shape}
use Rattle.std.specs.Prelude.{Result, Ok}
use Rattle.machine.specs.declared.Fault.{Fault}
use Rattle.machine.specs.Words.{kind_in, packed, unpacked}
use Rattle.machine.specs.Words as Words
use Rattle.values.proofs.Laws.{InRange, unpacked_packed, unpacked_integer, unpacked_truth, unpacked_shape}
use Rattle.machine.specs.Layout.{frame, fixed_words, shape_place, Lent, steps_used, steps_granted}
use Rattle.machine.specs.Act.{Raw, raw, done, go_on, ◌>>=◌, give, refuse, spend, out_of, Does, DoesIn}
use Rattle.machine.specs.Shapes.{destroyed_at}
use Rattle.machine.specs.Variables.{is_dead, usable, word_in, holding}
use Rattle.frames.proofs.VariableLaws.{not_dead, dead_shape, found}
use Rattle.machine.specs.Operate.{with_integer, calculated, compared, remaindered, equality, answered, equated, operate_on, operate}
use Rattle.values.proofs.Held.{by_number}
use Rattle.fastpath.specs.Fast.{plain_word, leaf_word, operator_word, word_on, sizes_agree, operation_word, fast_at, living_word, other_word, argument_at, applies, Values}
use Rattle.machine.specs.Evaluate.{Evaluator, Invoke, Setting, setting, argument_of, second_of, first_of, operands_at, expression_by}
use Rattle.machine.specs.Interpret.{expression_at, invoke_at, body_at}
use Rattle.machine.specs.Primaries.{leaf, applied}
use Rattle.machine.specs.Stack.{push}
use Rattle.machine.proofs.Acts.{goes_in, in_both}

-- ---- words of integers and truths
-- a word that packing its value gives again, and that is no shape
pub record Plain (v : ℕ) : Type 0 where
  pub back : packed (unpacked v) ≡ v
  pub no_shape_lem : kind_in v ≡ 6 → ⊥

integer_plain : (z : ℤ) → mag z < 2 ^ 31 → Plain (packed (Integer z))
unfolding packed InRange
integer_plain z h = record { back = ap packed (unpacked_packed (Integer z) h); no_shape_lem = λ q. absurd (omega arith) }

truth_plain : (b : Bool) → Plain (packed (Boolean b))
unfolding packed unpacked if◌then◌otherwise◌
truth_plain true = record { back = refl; no_shape_lem = λ q. absurd (omega arith) }
truth_plain false = record { back = refl; no_shape_lem = λ q. absurd (omega arith) }

truth_back : (b : Bool) → unpacked (packed (Boolean b)) ≡ Boolean b
unfolding packed unpacked if◌then◌otherwise◌
truth_back true = refl
truth_back false = refl

-- the number of a word of which the upper bits are dropped
rest_is : (n a r : ℕ) → n ≡ 4294967296 * a + r → r < 4294967296 → n % 2 ^ 32 ≡ r
rest_is n a r e l = omega arith

small_is : (n : ℕ) → n < 2 ^ 32 → n % 2 ^ 32 ≡ n
small_is n l = omega arith

module _ (k v : ℕ) (e : k % 2 ^ 35 ≡ v) (i : kind_in k ≡ 1) where
  parts : k ≡ 34359738368 * (k / 34359738368) + v
  parts = omega arith

  cut_small : v < 2 ^ 35
  cut_small = omega arith

  cut_kind : kind_in v ≡ 1
  cut_kind = let d = parts in omega arith

  above : k / 8 ≡ 4294967296 * (k / 34359738368) + v / 8
  above = let d = parts in let j : v % 8 ≡ 1 = cut_kind in omega arith

  below : v / 8 < 4294967296
  below = let d = cut_small in omega arith

  cut_number : Words.number_in v ≡ Words.number_in k
  cut_number = small_is (v / 8) below ∙ sym (rest_is (k / 8) (k / 34359738368) (v / 8) above below)

constant_number : (n v : ℕ) → 1 + 8 * n ≡ v → n < 2 ^ 32 → Words.number_in v ≡ n
constant_number n v e l = let d : v / 8 ≡ n = omega arith in rw d (small_is n l)

truth_word : (k : ℕ) (b : Bool) → eqb (k / 8 % 2) 1 ≡ b → kind_in k ≡ 3 → k % 16 ≡ packed (Boolean b)
unfolding packed
truth_word k true s q = let d : k / 8 % 2 ≡ 1 = eqb-true _ _ s in omega arith
truth_word k false s q = let d : k / 8 % 2 ≡ 1 → ⊥ = eqb-false _ _ s in omega (arith, d)

-- a word of an integer
module _ (a : ℕ) (k : kind_in a ≡ 1) where
  small : mag (to_z w32 (Words.number_in a)) < 2 ^ 31
  small = signed_small (Words.number_in a) (omega arith)

  through_integer : unpacked (packed (unpacked a)) ≡ Integer (to_z w32 (Words.number_in a))
  unfolding InRange
  through_integer = rw (unpacked_integer a k) (unpacked_packed (Integer (to_z w32 (Words.number_in a))) small)

  back_integer : a < 2 ^ 35 → Plain a
  unfolding packed
  back_integer l =
      let e : 1 + 8 * (a / 8 % 2 ^ 32) ≡ a = omega arith in
      record { back = rw (unpacked_integer a k, bits_signed (Words.number_in a) (omega arith)) e; no_shape_lem = λ q. absurd (omega arith) }

-- ---- operators on two integers
pub record Operated (program g : List ℕ) (tag p : ℕ) (x y : ℤ) (v : ℕ) : Type 0 where
  pub gives : (r : Raw) → operate_on program g tag p (Integer x) (Integer y) r ≡ done (unpacked v) r
  pub plain : Plain v

module _ (program g : List ℕ) (p : ℕ) (x y : ℤ) where
  with_integer_lem : (tag : ℕ) (z : ℤ) → mag z < 2 ^ 31 → ((r : Raw) → operate_on program g tag p (Integer x) (Integer y) r ≡ done (Integer z) r)
      → (v : ℕ) → packed (Integer z) ≡ v → Operated program g tag p x y v
  unfolding InRange
  with_integer_lem tag z h o v e = rw (← e) (record { gives = λ r. o r ∙ rw (unpacked_packed (Integer z) h); plain = integer_plain z h })

  with_truth : (tag : ℕ) (b : Bool) → ((r : Raw) → operate_on program g tag p (Integer x) (Integer y) r ≡ done (Boolean b) r)
      → (v : ℕ) → packed (Boolean b) ≡ v → Operated program g tag p x y v
  with_truth tag b o v e = rw (← e) (record { gives = λ r. o r ∙ rw (truth_back b); plain = truth_plain b })

  abbrev Works : ℕ → Type 0
  Works tag = (v : ℕ) → operator_word tag x y ≡ v → (v ≡ 0 → ⊥) → Operated program g tag p x y v

  works_add : Works tag_add
  unfolding operator_word operate_on if◌then◌otherwise◌ calculated with_integer ◌>>=◌ go_on refuse give
  works_add v e n = with_integer_lem tag_add (sum x y) (sum_small x y) (λ r. refl) v e

  works_subtract : Works tag_subtract
  unfolding operator_word operate_on if◌then◌otherwise◌ calculated with_integer ◌>>=◌ go_on refuse give
  works_subtract v e n = with_integer_lem tag_subtract (difference x y) (difference_small x y) (λ r. refl) v e

  works_multiply : Works tag_multiply
  unfolding operator_word operate_on if◌then◌otherwise◌ calculated with_integer ◌>>=◌ go_on refuse give
  works_multiply v e n = with_integer_lem tag_multiply (product x y) (product_small x y) (λ r. refl) v e

  works_divide : Works tag_divide
  unfolding operator_word operate_on if◌then◌otherwise◌ calculated with_integer ◌>>=◌ go_on refuse give
  works_divide v e n = go (is_zero y) refl e
    where
      go : (b : Bool) → is_zero y ≡ b → (if b then (λ _. 0) otherwise λ _. packed (Integer (quotient x y))) ≡ v → Operated program g tag_divide p x y v
      go true q f = absurd (n (sym f))
      go false q f = with_integer_lem tag_divide (quotient x y) (quotient_small x y) (λ r. rw q) v f

  works_remainder : Works tag_remainder
  unfolding operator_word operate_on if◌then◌otherwise◌ remaindered with_integer ◌>>=◌ go_on refuse give
  works_remainder v e n = go (is_zero y) refl e
    where
      go : (b : Bool) → is_zero y ≡ b → (if b then (λ _. 0) otherwise λ _. packed (Integer (remainder x y))) ≡ v → Operated program g tag_remainder p x y v
      go true q f = absurd (n (sym f))
      go false q f = with_integer_lem tag_remainder (remainder x y) (remainder_small x y) (λ r. rw q) v f

  works_shift_right : mag x < 2 ^ 31 → Works tag_shift_right
  unfolding operator_word operate_on if◌then◌otherwise◌ calculated with_integer ◌>>=◌ go_on refuse give
  works_shift_right h v e n = with_integer_lem tag_shift_right (shifted_right x y) (shifted_right_small x y h) (λ r. refl) v e

  works_shift_left : Works tag_shift_left
  unfolding operator_word operate_on if◌then◌otherwise◌ calculated with_integer ◌>>=◌ go_on refuse give
  works_shift_left v e n = with_integer_lem tag_shift_left (shifted_left x y) (shifted_left_small x y) (λ r. refl) v e

  works_equal : Works tag_equal
  unfolding operator_word operate_on if◌then◌otherwise◌ equated equality answered give
  works_equal v e n = with_truth tag_equal (same_integer x y) (λ r. refl) v e

  works_unequal : Works tag_unequal
  unfolding operator_word operate_on if◌then◌otherwise◌ equated equality answered give
  works_unequal v e n = with_truth tag_unequal (not (same_integer x y)) (λ r. refl) v e

  works_greater : Works tag_greater
  unfolding operator_word operate_on if◌then◌otherwise◌ compared with_integer give
  works_greater v e n = with_truth tag_greater (lt_z y x) (λ r. refl) v e

  works_less : Works tag_less
  unfolding operator_word operate_on if◌then◌otherwise◌ compared with_integer give
  works_less v e n = with_truth tag_less (lt_z x y) (λ r. refl) v e

  no_operator : (tag : ℕ) → (tag ≡ tag_add → ⊥) → (tag ≡ tag_subtract → ⊥) → (tag ≡ tag_multiply → ⊥) → (tag ≡ tag_divide → ⊥) → (tag ≡ tag_remainder → ⊥) → (tag ≡ tag_shift_right → ⊥)
      → (tag ≡ tag_shift_left → ⊥) → (tag ≡ tag_equal → ⊥) → (tag ≡ tag_unequal → ⊥) → (tag ≡ tag_greater → ⊥) → (tag ≡ tag_less → ⊥) → operator_word tag x y ≡ 0
  unfolding operator_word if◌then◌otherwise◌
  no_operator tag a b c d e f h i j k l =
      rw (ne_eqb _ _ a, ne_eqb _ _ b, ne_eqb _ _ c, ne_eqb _ _ d, ne_eqb _ _ e, ne_eqb _ _ f)
      (rw (ne_eqb _ _ h, ne_eqb _ _ i, ne_eqb _ _ j, ne_eqb _ _ k, ne_eqb _ _ l) refl)

  works : mag x < 2 ^ 31 → (tag : ℕ) → Works tag
  works s tag =
      by_number Works tag tag_add works_add λ a.
      by_number Works tag tag_subtract works_subtract λ b.
      by_number Works tag tag_multiply works_multiply λ c.
      by_number Works tag tag_divide works_divide λ d.
      by_number Works tag tag_remainder works_remainder λ e.
      by_number Works tag tag_shift_right (works_shift_right s) λ f.
      by_number Works tag tag_shift_left works_shift_left λ h.
      by_number Works tag tag_equal works_equal λ i.
      by_number Works tag tag_unequal works_unequal λ j.
      by_number Works tag tag_greater works_greater λ k.
      by_number Works tag tag_less works_less λ l.
      λ v q n. absurd (n (sym q ∙ no_operator tag a b c d e f h i j k l))

operate_integers : (program g : List ℕ) (tag p : ℕ) (x y : ℤ) (r : Raw) → operate program g tag p (Integer x) (Integer y) r ≡ operate_on program g tag p (Integer x) (Integer y) r
unfolding operate usable is_dead refuse give ◌>>=◌ go_on
operate_integers program g tag p x y r = refl

-- ---- on two words
record Combined (program g : List ℕ) (tag p a b v : ℕ) : Type 0 where
  pub left : kind_in a ≡ 1
  pub right : kind_in b ≡ 1
  pub operated : Operated program g tag p (to_z w32 (Words.number_in a)) (to_z w32 (Words.number_in b)) v

combines : (program g : List ℕ) (tag p a b v : ℕ) → word_on tag a b ≡ v → (v ≡ 0 → ⊥) → Combined program g tag p a b v
unfolding word_on if◌then◌otherwise◌
combines program g tag p a b v h n = go (eqb (kind_in a) 1) (eqb (kind_in b) 1) refl refl h
  where
    go : (i j : Bool) → eqb (kind_in a) 1 ≡ i → eqb (kind_in b) 1 ≡ j
        → (if i then (λ _. if j then (λ _. operator_word tag (to_z w32 (Words.number_in a)) (to_z w32 (Words.number_in b))) otherwise λ _. 0) otherwise λ _. 0) ≡ v
        → Combined program g tag p a b v
    go false j q s f = absurd (n (sym f))
    go true false q s f = absurd (n (sym f))
    go true true q s f = record {
      left = eqb-true _ _ q;
      right = eqb-true _ _ s;
      operated = works program g p (to_z w32 (Words.number_in a)) (to_z w32 (Words.number_in b)) (small a (eqb-true _ _ q)) tag v f n;
    }

-- ---- expressions
-- a word of code by its lower half: the tag and a size of 1
module _ (w t : ℕ) (s : t < 256) (h : w % 2 ^ 32 ≡ 256 + t) where
  upper : w / 256 ≡ 1 + 16777216 * (w / 4294967296)
  upper = omega arith

  one_word : size_in w ≡ 1
  one_word = let e = upper in omega arith

  tag_below : tag_in w ≡ t
  tag_below = let e = upper in omega arith

-- words apart from the steps' counter
module _ (rest : List ℕ) (a b k : ℕ) where
  elsewhere : get_or (a ∷ rest) (272 + k) 0 ≡ get_or (b ∷ rest) (272 + k) 0
  elsewhere = let e : 272 + k ≡ suc (271 + k) = omega arith in rw e

module _ (program code g ts rest : List ℕ) (u p : ℕ) where
  abbrev e : Setting
  e = setting program code g

  record Leaf (w v : ℕ) : Type 0 where
    pub size : size_in w ≡ 1
    pub plain : Plain v
    pub gives : (inner : Evaluator) (invoke : Invoke) (x n : ℕ) → expression_by inner invoke e w x p (raw ts (n ∷ rest)) ≡ done (unpacked v) (raw ts (n ∷ rest))

  number_leaf : (w v : ℕ) → w % 2 ^ 32 ≡ head_number → number_in w < 2 ^ 32 → 1 + 8 * number_in w ≡ v → Leaf w v
  unfolding expression_by leaf if◌then◌otherwise◌ give
  number_leaf w v h l f =
      let t : tag_in w ≡ tag_number = tag_below w tag_number (omega arith) h in
      let k : kind_in v ≡ 1 = omega arith in
      let m : Words.number_in v ≡ number_in w = constant_number (number_in w) v f l in
      record {
        size = one_word w tag_number (omega arith) h;
        plain = back_integer v k (omega arith);
        gives = λ inner invoke x n. rw (t, unpacked_integer v k, m);
      }

  -- a variable that is declared and holds no destroyed shape
  module _ (w v k : ℕ) (h : w % 2 ^ 32 ≡ head_name) (f : k ≡ holding (u ∷ rest) (number_in w)) (z : k ≡ 0 → ⊥) (q : unpacked v ≡ unpacked k) where
    name_gives : ((m : ℕ) → false ≡ is_dead (m ∷ rest) (unpacked k)) → (inner : Evaluator) (invoke : Invoke) (x n : ℕ)
        → expression_by inner invoke e w x p (raw ts (n ∷ rest)) ≡ done (unpacked v) (raw ts (n ∷ rest))
    unfolding expression_by leaf if◌then◌otherwise◌ out_of usable ◌>>=◌ go_on refuse give
    name_gives dead inner invoke x m =
        let t : tag_in w ≡ tag_name = tag_below w tag_name (omega arith) h in
        let d : holding (m ∷ rest) (number_in w) ≡ k = ap word_in (elsewhere rest m u ((get_or (u ∷ rest) frame 0 + number_in w) % 262144)) ∙ sym f in
        rw t (sym ((found p (number_in w) {r = Ok (unpacked v)} (sym d) z (record { equal = λ ts. rw (← dead m, q) })).equal ts))

    name_leaf : (kind_in k ≡ 6 → ⊥) → Plain v → Leaf w v
    name_leaf n c = record { size = one_word w tag_name (omega arith) h; plain = c; gives = name_gives (λ m. not_dead (m ∷ rest) k n) }

  plain_leaf : (w v k : ℕ) → w % 2 ^ 32 ≡ head_name → k ≡ holding (u ∷ rest) (number_in w) → plain_word k ≡ v → (v ≡ 0 → ⊥) → Leaf w v
  unfolding plain_word if◌then◌otherwise◌
  plain_leaf w v k h f r n = go (eqb (kind_in k) 1) (eqb (kind_in k) 3) refl refl r
    where
      go : (i j : Bool) → eqb (kind_in k) 1 ≡ i → eqb (kind_in k) 3 ≡ j → (if i then (λ _. k % 2 ^ 35) otherwise λ _. if j then (λ _. k % 16) otherwise λ _. 0) ≡ v → Leaf w v
      go true j q s m =
          let a : kind_in k ≡ 1 = eqb-true _ _ q in
          let b : kind_in v ≡ 1 = cut_kind k v m a in
          name_leaf w v k h f (λ z. omega arith) (rw (unpacked_integer v b, unpacked_integer k a, cut_number k v m a)) (λ z. omega arith) (back_integer v b (cut_small k v m a))
      go false true q s m =
          let a : kind_in k ≡ 3 = eqb-true _ _ s in
          let b : v ≡ packed (Boolean (eqb (k / 8 % 2) 1)) = sym m ∙ truth_word k (eqb (k / 8 % 2) 1) refl a in
          name_leaf w v k h f (λ z. omega arith) (rw (b, unpacked_truth k a) (truth_back _)) (λ z. omega arith) (rw b (truth_plain _))
      go false false q s m = absurd (n (sym m))

  leaf_found : (w v : ℕ) → leaf_word (u ∷ rest) w ≡ v → (v ≡ 0 → ⊥) → Leaf w v
  unfolding leaf_word if◌then◌otherwise◌
  leaf_found w v r n = go (eqb (w % 2 ^ 32) head_number) (eqb (w % 2 ^ 32) head_name) (ltb (number_in w) (2 ^ 32)) refl refl refl r
    where
      go : (i j k : Bool) → eqb (w % 2 ^ 32) head_number ≡ i → eqb (w % 2 ^ 32) head_name ≡ j → ltb (number_in w) (2 ^ 32) ≡ k
          → (if i then (λ _. if k then (λ _. 1 + 8 * number_in w) otherwise λ _. 0) otherwise λ _. if j then (λ _. plain_word (holding (u ∷ rest) (number_in w))) otherwise λ _. 0) ≡ v
          → Leaf w v
      go true j true q s l m = number_leaf w v (eqb-true _ _ q) (ltb-true _ _ l) m
      go true j false q s l m = absurd (n (sym m))
      go false true k q s l m = plain_leaf w v _ (eqb-true _ _ s) refl m n
      go false false k q s l m = absurd (n (sym m))

  -- an operator, where its two sides were evaluated
  sides : (inner : Evaluator) (invoke : Invoke) (w x a b v l m n : ℕ) → first_operator ≤ tag_in w → Combined program g (tag_in w) p a b v
      → inner (x - 1 - number_in w) p (raw ts (l ∷ rest)) ≡ done (unpacked a) (raw ts (m ∷ rest)) → inner (x - 1) p (raw ts (m ∷ rest)) ≡ done (unpacked b) (raw ts (n ∷ rest))
      → expression_by inner invoke e w x p (raw ts (l ∷ rest)) ≡ done (unpacked v) (raw ts (n ∷ rest))
  unfolding expression_by operands_at first_of second_of applied if◌then◌otherwise◌ ◌>>=◌ go_on refuse give
  sides inner invoke w x a b v l m n t c i j =
      let behind = le-ltb (tag_in w) tag_table (omega arith) in
      let no_call = ne_eqb (tag_in w) tag_call (λ q. omega arith) in
      let no_table = ne_eqb (tag_in w) tag_table (λ q. omega arith) in
      let no_entry = ne_eqb (tag_in w) tag_entry (λ q. omega arith) in
      let operator = le-ltb (tag_in w) first_operator t in
      rw (behind, no_call, i) (rw (no_table, operator, j) (rw (no_entry, through_integer a c.left, through_integer b c.right)
      (operate_integers program g (tag_in w) p _ _ (raw ts (n ∷ rest)) ∙ c.operated.gives (raw ts (n ∷ rest)))))

  counted : (fuel x n : ℕ) → n + 1 ≤ steps_granted g
      → expression_at (suc fuel) e x p (raw ts (n ∷ rest)) ≡ expression_by (expression_at fuel e) (invoke_at fuel e) e (get_or code x 0) x p (raw ts ((n + 1) ∷ rest))
  unfolding expression_at body_at ◌>>=◌ go_on spend if◌then◌otherwise◌
  counted fuel x n l = rw (le-leb (n + 1) (steps_granted g) l)

  record Found (fuel x v : ℕ) : Type 0 where
    pub plain : Plain v
    pub gives : (n : ℕ) → n + size_in (get_or code x 0) ≤ steps_granted g
        → expression_at fuel e x p (raw ts (n ∷ rest)) ≡ done (unpacked v) (raw ts ((n + size_in (get_or code x 0)) ∷ rest))

  -- an operator, where its two sides are found
  module _ (fuel x v : ℕ) (n : v ≡ 0 → ⊥) (inner : (y a : ℕ) → fast_at fuel code (u ∷ rest) y ≡ a → (a ≡ 0 → ⊥) → Found fuel y a) where
    operation : (w y z : ℕ) → w ≡ get_or code x 0 → y ≡ x - 1 → z ≡ x - 1 - number_in w → (a b : ℕ) → fast_at fuel code (u ∷ rest) z ≡ a → fast_at fuel code (u ∷ rest) y ≡ b
        → first_operator ≤ tag_in w → size_in w ≡ size_in (get_or code z 0) + size_in (get_or code y 0) + 1 → word_on (tag_in w) a b ≡ v → Found (suc fuel) x v
    operation w y z ew ey ez a b i j t s f =
        let c = combines program g (tag_in w) p a b v f n in
        let k : kind_in a ≡ 1 = c.left in
        let l : kind_in b ≡ 1 = c.right in
        let left = inner z a i (λ q. omega arith) in
        let right = inner y b j (λ q. omega arith) in
        record {
          plain = c.operated.plain;
          gives = rw (← ew) λ m d.
              let o : m + 1 + size_in (get_or code z 0) + size_in (get_or code y 0) ≡ m + size_in w = omega arith in
              rw (← o) (counted fuel x m (omega arith)
              ∙ rw (← ew) (sides (expression_at fuel e) (invoke_at fuel e) w x a b v (m + 1) (m + 1 + size_in (get_or code z 0)) (m + 1 + size_in (get_or code z 0) + size_in (get_or code y 0)) t c
              (rw (← ez) (left.gives (m + 1) (omega arith))) (rw (← ey) (right.gives (m + 1 + size_in (get_or code z 0)) (omega arith)))));
        }

  runs : (fuel x v : ℕ) → fast_at fuel code (u ∷ rest) x ≡ v → (v ≡ 0 → ⊥) → Found fuel x v
  unfolding fast_at operation_word if◌then◌otherwise◌
  runs zero x v h n = absurd (n (sym h))
  runs (suc fuel) x v h n = go (λ y a q m. runs fuel y a q m) (ltb (tag_in (get_or code x 0)) first_operator)
      (sizes_agree (get_or code x 0) (get_or code (x - 1 - number_in (get_or code x 0)) 0) (get_or code (x - 1) 0)) refl refl h
    where
      go : ((y a : ℕ) → fast_at fuel code (u ∷ rest) y ≡ a → (a ≡ 0 → ⊥) → Found fuel y a) → (i j : Bool) → ltb (tag_in (get_or code x 0)) first_operator ≡ i
          → sizes_agree (get_or code x 0) (get_or code (x - 1 - number_in (get_or code x 0)) 0) (get_or code (x - 1) 0) ≡ j
          → (if i then (λ _. leaf_word (u ∷ rest) (get_or code x 0)) otherwise λ _. if j then
          (λ _. word_on (tag_in (get_or code x 0)) (fast_at fuel code (u ∷ rest) (x - 1 - number_in (get_or code x 0))) (fast_at fuel code (u ∷ rest) (x - 1))) otherwise λ _. 0) ≡ v
          → Found (suc fuel) x v
      go inner true j q s f =
          let c = leaf_found (get_or code x 0) v f n in
          let o : size_in (get_or code x 0) ≡ 1 = c.size in
          record {
            plain = c.plain;
            gives = λ m d. rw o (counted fuel x m (omega arith) ∙ c.gives (expression_at fuel e) (invoke_at fuel e) x (m + 1));
          }
      go inner false true q s f = operation fuel x v n inner (get_or code x 0) (x - 1) (x - 1 - number_in (get_or code x 0)) refl refl refl _ _ refl refl (ltb-false _ _ q) (eqb-true _ _ s) f
      go inner false false q s f = absurd (n (sym f))

  -- ---- arguments
  -- a string, or a variable that holds a shape which is not destroyed
  record Other (w v : ℕ) : Type 0 where
    pub size : size_in w ≡ 1
    pub back : packed (unpacked v) ≡ v
    pub gives : (inner : Evaluator) (invoke : Invoke) (x n : ℕ) → expression_by inner invoke e w x p (raw ts (n ∷ rest)) ≡ done (unpacked v) (raw ts (n ∷ rest))

  string_leaf : (w v : ℕ) → w % 2 ^ 32 ≡ head_string → number_in w < 2 ^ 32 → packed (Text (2 * number_in w)) ≡ v → Other w v
  unfolding expression_by leaf if◌then◌otherwise◌ give InRange
  string_leaf w v h l f =
      let t : tag_in w ≡ tag_string = tag_below w tag_string (omega arith) h in
      let b : unpacked v ≡ Text (2 * number_in w) = rw (← f) (unpacked_packed (Text (2 * number_in w)) (omega arith)) in
      record { size = one_word w tag_string (omega arith) h; back = rw b f; gives = λ inner invoke x n. rw (t, b) }

  shape_leaf : (w v k : ℕ) → w % 2 ^ 32 ≡ head_name → k ≡ holding (u ∷ rest) (number_in w) → living_word (u ∷ rest) k ≡ v → (v ≡ 0 → ⊥) → Other w v
  unfolding living_word if◌then◌otherwise◌ InRange
  shape_leaf w v k h f r n = go (eqb (kind_in k) 6) (destroyed_at (u ∷ rest) (Words.number_in k)) refl refl r
    where
      go : (i j : Bool) → eqb (kind_in k) 6 ≡ i → destroyed_at (u ∷ rest) (Words.number_in k) ≡ j → (if i && not j then (λ _. packed (Shape (Words.number_in k))) otherwise λ _. 0) ≡ v → Other w v
      go false j q s m = absurd (n (sym m))
      go true true q s m = absurd (n (sym m))
      go true false q s m =
          let a : kind_in k ≡ 6 = eqb-true _ _ q in
          let b : unpacked v ≡ Shape (Words.number_in k) = rw (← m) (unpacked_packed (Shape (Words.number_in k)) (omega arith)) in
          let place : shape_place (Words.number_in k) ≡ 272 + (262144 + 5 * Words.number_in k) = omega arith in
          let alike : (o : ℕ) → destroyed_at (o ∷ rest) (Words.number_in k) ≡ false = λ o. rw (place, elsewhere rest o u (262144 + 5 * Words.number_in k), ← place) s in
          record {
            size = one_word w tag_name (omega arith) h;
            back = rw b m;
            gives = name_gives w v k h f (λ z. omega arith) (b ∙ sym (unpacked_shape k a)) (λ o. dead_shape (o ∷ rest) k false (Words.number_in k) a refl (sym (alike o)));
          }

  other_found : (w v : ℕ) → other_word (u ∷ rest) w ≡ v → (v ≡ 0 → ⊥) → Other w v
  unfolding other_word if◌then◌otherwise◌
  other_found w v r n = go (eqb (w % 2 ^ 32) head_string) (eqb (w % 2 ^ 32) head_name) (ltb (number_in w) (2 ^ 32)) refl refl refl r
    where
      go : (i j k : Bool) → eqb (w % 2 ^ 32) head_string ≡ i → eqb (w % 2 ^ 32) head_name ≡ j → ltb (number_in w) (2 ^ 32) ≡ k
          → (if i then (λ _. if k then (λ _. packed (Text (2 * number_in w))) otherwise λ _. 0) otherwise λ _. if j then (λ _. living_word (u ∷ rest) (holding (u ∷ rest) (number_in w))) otherwise
          λ _. 0) ≡ v
          → Other w v
      go true j true q s l m = string_leaf w v (eqb-true _ _ q) (ltb-true _ _ l) m
      go true j false q s l m = absurd (n (sym m))
      go false true k q s l m = shape_leaf w v _ (eqb-true _ _ s) refl m n
      go false false k q s l m = absurd (n (sym m))

  record Handed (fuel x v : ℕ) : Type 0 where
    pub back : packed (unpacked v) ≡ v
    pub gives : (n : ℕ) → n + size_in (get_or code x 0) ≤ steps_granted g
        → expression_at fuel e x p (raw ts (n ∷ rest)) ≡ done (unpacked v) (raw ts ((n + size_in (get_or code x 0)) ∷ rest))

  hands : (fuel x v : ℕ) → argument_at fuel code (u ∷ rest) x ≡ v → (v ≡ 0 → ⊥) → Handed fuel x v
  unfolding argument_at if◌then◌otherwise◌
  hands zero x v h n = absurd (n (sym h))
  hands (suc fuel) x v h n = go (eqb (other_word (u ∷ rest) (get_or code x 0)) 0) refl h
    where
      go : (i : Bool) → eqb (other_word (u ∷ rest) (get_or code x 0)) 0 ≡ i
          → (if i then (λ _. fast_at (suc fuel) code (u ∷ rest) x) otherwise λ _. other_word (u ∷ rest) (get_or code x 0)) ≡ v → Handed (suc fuel) x v
      go true q f = let c = runs (suc fuel) x v f n in record { back = c.plain.back; gives = c.gives }
      go false q f =
          let c = other_found (get_or code x 0) v f n in
          let o : size_in (get_or code x 0) ≡ 1 = c.size in
          record {
            back = c.back;
            gives = λ m d. rw o (counted fuel x m (omega arith) ∙ c.gives (expression_at fuel e) (invoke_at fuel e) x (m + 1));
          }

-- ---- as the code has it
record Applied (word steps : ℕ) (g ws : List ℕ) (v : ℕ) (ws₁ : List ℕ) : Type 0 where
  pub fast : word ≡ v
  pub within : get_or ws steps_used 0 + steps ≤ steps_granted g
  pub words : ws₁ ≡ set ws steps_used (get_or ws steps_used 0 + steps)

module _ {word steps : ℕ} (g ws : List ℕ) (v : ℕ) (ws₁ : List ℕ) (h : Values word steps g ws v ws₁) where
  as_applied : (v ≡ 0 → ⊥) → Applied word steps g ws v ws₁
  unfolding applies if◌then◌otherwise◌
  as_applied n = go (eqb word 0) (leb (get_or ws steps_used 0 + steps) (steps_granted g)) refl h.result h.words
    where
      go : (i j : Bool) → leb (get_or ws steps_used 0 + steps) (steps_granted g) ≡ j → v ≡ (if not i && j then (λ _. word) otherwise λ _. 0)
          → ws₁ ≡ (if not i && j then (λ _. set ws steps_used (get_or ws steps_used 0 + steps)) otherwise λ _. ws) → Applied word steps g ws v ws₁
      go true j q f d = absurd (n f)
      go false false q f d = absurd (n f)
      go false true q f d = record { fast = sym f; within = leb-true _ _ q; words = d }

  -- where it does not apply, nothing has changed
  pub unchanged : v ≡ 0 → ws₁ ≡ ws
  unfolding applies if◌then◌otherwise◌
  unchanged z = go (eqb word 0) (leb (get_or ws steps_used 0 + steps) (steps_granted g)) refl h.result h.words
    where
      go : (i j : Bool) → eqb word 0 ≡ i → v ≡ (if not i && j then (λ _. word) otherwise λ _. 0)
          → ws₁ ≡ (if not i && j then (λ _. set ws steps_used (get_or ws steps_used 0 + steps)) otherwise λ _. ws) → ws₁ ≡ ws
      go true j q f d = d
      go false false q f d = d
      go false true q f d = absurd (eqb-false _ _ q (sym f ∙ z))

fast_found : (program code g ts ws : List ℕ) (p fuel x v : ℕ) → 0 < length ws → fast_at fuel code ws x ≡ v → (v ≡ 0 → ⊥) → get_or ws steps_used 0 + size_in (get_or code x 0) ≤ steps_granted g
    → expression_at fuel (setting program code g) x p (raw ts ws) ≡ done (unpacked v) (raw ts (set ws steps_used (get_or ws steps_used 0 + size_in (get_or code x 0))))
fast_found program code g ts [] p fuel x v l h n d = absurd (omega arith)
fast_found program code g ts (u ∷ rest) p fuel x v l h n d = (runs program code g ts rest u p fuel x v h n).gives u d

fast_plain : (code ws : List ℕ) (fuel x v : ℕ) → 0 < length ws → fast_at fuel code ws x ≡ v → (v ≡ 0 → ⊥) → Plain v
fast_plain code [] fuel x v l h n = absurd (omega arith)
fast_plain code (u ∷ rest) fuel x v l h n = (runs [] code [] [] rest u 0 fuel x v h n).plain

-- an expression by fast_value
abbrev pub Fast : ℕ → List ℕ → List ℕ → List ℕ → ℕ → ℕ → List ℕ → Type 0
Fast fuel code g ws x v ws₁ = Values (fast_at fuel code ws x) (size_at code x) g ws v ws₁

module _ (fuel : ℕ) (code g ws : List ℕ) (x v : ℕ) (ws₁ : List ℕ) (h : Fast fuel code g ws x v ws₁) (l : fixed_words ≤ length ws) (n : v ≡ 0 → ⊥) where
  pub plain : Plain v
  plain = fast_plain code ws fuel x v (omega arith) (as_applied g ws v ws₁ h n).fast n

  -- the evaluator gives the word's value, and leaves the words so
  pub evaluates : (program ts : List ℕ) (p : ℕ) → DoesIn ts ws (expression_at fuel (setting program code g) x p) (Ok (unpacked v)) ts ws₁
  unfolding out_of
  evaluates program ts p =
      let q = as_applied g ws v ws₁ h n in
      record { equal = sym (rw q.words (fast_found program code g ts ws p fuel x v (omega arith) q.fast n q.within)) }

-- an argument by argument_value
argument_found : (program code g ts ws : List ℕ) (p fuel x v : ℕ) → 0 < length ws → argument_at fuel code ws x ≡ v → (v ≡ 0 → ⊥) → get_or ws steps_used 0 + size_in (get_or code x 0) ≤ steps_granted g
    → expression_at fuel (setting program code g) x p (raw ts ws) ≡ done (unpacked v) (raw ts (set ws steps_used (get_or ws steps_used 0 + size_in (get_or code x 0))))
argument_found program code g ts [] p fuel x v l h n d = absurd (omega arith)
argument_found program code g ts (u ∷ rest) p fuel x v l h n d = (hands program code g ts rest u p fuel x v h n).gives u d

argument_back : (code ws : List ℕ) (fuel x v : ℕ) → 0 < length ws → argument_at fuel code ws x ≡ v → (v ≡ 0 → ⊥) → packed (unpacked v) ≡ v
argument_back code [] fuel x v l h n = absurd (omega arith)
argument_back code (u ∷ rest) fuel x v l h n = (hands [] code [] [] rest u 0 fuel x v h n).back

module _ (program code g : List ℕ) (fuel p : ℕ) (ts ws : List ℕ) (y w : ℕ) (ws₁ : List ℕ) (h : Values (argument_at fuel code ws y) (size_at code y) g ws w ws₁) where
  pub push_fast : (r : Result (Unit {0}) Fault) (ws₂ : List ℕ) → Lent g ts ws → (w ≡ 0 → ⊥) → Does ws₁ (push w p) r ws₂
      → DoesIn ts ws (argument_of (expression_at fuel (setting program code g)) y p) r ts ws₂
  unfolding argument_of out_of
  push_fast r ws₂ v n q =
      let some : 0 < length ws = omega (arith, v.room.words) in
      let a = as_applied g ws w ws₁ h n in
      let d : DoesIn ts ws (expression_at fuel (setting program code g) y p) (Ok (unpacked w)) ts ws₁
      = record { equal = sym (rw a.words (argument_found program code g ts ws p fuel y w some a.fast n a.within)) } in
      goes_in _ d (rw (argument_back code ws fuel y w some a.fast n) (in_both q ts))

  -- where it does not apply, the argument is evaluated
  pub push_slow : (r : Result (Unit {0}) Fault) (ts₂ ws₂ : List ℕ) → w ≡ 0 → DoesIn ts ws₁ (argument_of (expression_at fuel (setting program code g)) y p) r ts₂ ws₂
      → DoesIn ts ws (argument_of (expression_at fuel (setting program code g)) y p) r ts₂ ws₂
  push_slow r ts₂ ws₂ z c = rw (unchanged g ws w ws₁ h z) at c
