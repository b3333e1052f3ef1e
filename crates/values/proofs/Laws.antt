-- Words and their values.
use Prim.Native.Nat.{ℕ, ◌+◌, ◌*◌, ◌/◌, ◌%◌, ◌^◌, ◌<◌}
use mathlib.Core.Path.{◌≡◌, refl, ap, ◌∙◌}
use mathlib.Core.Bool.{Bool, true, false}
use native.Mathlib.Omega.{arith}
use borrow.Author.Tests.{ne_eqb, eqb-true}
use lib.Dec.{eqb}
use lib.IntN.{ℤ}
use lib.Signed.{mag}
use mir.Syntax.{w32}
use mir.Val.{to_z, of_z, SFits}
use mir.Facts.{to_z-of_z}
use Rattle.meaning.specs.Basics.{if◌then◌otherwise◌}
use Rattle.meaning.specs.Integer.{bits}
use Rattle.arithmetic.proofs.Ranges.{bits_below, signed_bits}
use Rattle.machine.specs.declared.Value.{Value}
use Rattle.machine.specs.declared.Value.TheVariants.{Integer, Text, Boolean, Nothing, Table, Shape}
use Rattle.machine.specs.Words.{kind_in, number_in, handle_in, truth_in, packed, unpacked}

-- an integer that a call gave, read back from its bits
pub same_back : {r : ℤ} {n k : ℕ} → mag r < 2 ^ 31 → r ≡ to_z w32 n → n ≡ k → to_z w32 (of_z w32 r) ≡ to_z w32 k
same_back h e f = to_z-of_z {w = w32} (record { sfits = h }) ∙ e ∙ ap (to_z w32) f

-- ---- packing, by kind
pub integer_is : {z : ℤ} {r : ℕ} → SFits w32 z → r ≡ bits (to_z w32 (of_z w32 z)) → 1 + 8 * r ≡ packed (Integer z)
unfolding packed
integer_is f e = rw (e, to_z-of_z f)

pub text_is : (h : ℕ) → 2 + 8 * (h % 1099511627776) ≡ packed (Text h)
unfolding packed
text_is h = refl

pub truth_is : {b : Bool} → b ≡ true → 11 ≡ packed (Boolean b)
unfolding packed
truth_is e = rw e

pub untruth_is : {b : Bool} → b ≡ false → 3 ≡ packed (Boolean b)
unfolding packed
untruth_is e = rw e

pub table_is : (t : ℕ) → 5 + 8 * t ≡ packed (Table t)
unfolding packed
table_is t = refl

pub shape_is : (i : ℕ) → 6 + 8 * i ≡ packed (Shape i)
unfolding packed
shape_is i = refl

pub nothing_is : {v : Value} → v ≡ Nothing → 4 ≡ packed v
unfolding packed
nothing_is e = rw e

module _ {v : Value} {r : ℕ} where
  pub pack_integer : {z : ℤ} → v ≡ Integer z → SFits w32 z → r ≡ packed (Integer (to_z w32 (of_z w32 z))) → r ≡ packed v
  pack_integer e f h = h ∙ rw (to_z-of_z f, e)

  pub pack_text : {h : ℕ} → v ≡ Text h → r ≡ packed (Text h) → r ≡ packed v
  pack_text e h = h ∙ rw e

  pub pack_truth : {b : Bool} → v ≡ Boolean b → r ≡ packed (Boolean b) → r ≡ packed v
  pack_truth e h = h ∙ rw e

  pub pack_table : {t : ℕ} → v ≡ Table t → r ≡ packed (Table t) → r ≡ packed v
  pack_table e h = h ∙ rw e

  pub pack_shape : {i : ℕ} → v ≡ Shape i → r ≡ packed (Shape i) → r ≡ packed v
  pack_shape e h = h ∙ rw e

-- ---- unpacking, by kind
module _ (w : ℕ) where
  pub as_integer : {z : ℤ} → kind_in w ≡ 1 → mag z < 2 ^ 31 → z ≡ to_z w32 (number_in w) → Integer (to_z w32 (of_z w32 z)) ≡ unpacked w
  unfolding unpacked if◌then◌otherwise◌
  as_integer {z} e h f = rw (to_z-of_z {w = w32} {z = z} (record { sfits = h }), e, f)

  pub as_text : kind_in w ≡ 2 → Text (w / 8) ≡ unpacked w
  unfolding unpacked if◌then◌otherwise◌
  as_text e = rw e

  pub as_truth : {b : Bool} → kind_in w ≡ 3 → b ≡ truth_in w → Boolean b ≡ unpacked w
  unfolding unpacked if◌then◌otherwise◌
  as_truth e f = rw (e, f)

  pub as_table : {t : ℕ} → kind_in w ≡ 5 → t ≡ number_in w → Table t ≡ unpacked w
  unfolding unpacked if◌then◌otherwise◌
  as_table e f = rw (e, f)

  pub as_shape : {i : ℕ} → kind_in w ≡ 6 → i ≡ number_in w → Shape i ≡ unpacked w
  unfolding unpacked if◌then◌otherwise◌
  as_shape e f = rw (e, f)

  pub as_nothing : (kind_in w ≡ 1 → ⊥) → (kind_in w ≡ 2 → ⊥) → (kind_in w ≡ 3 → ⊥) → (kind_in w ≡ 5 → ⊥) → (kind_in w ≡ 6 → ⊥) → Nothing ≡ unpacked w
  unfolding unpacked if◌then◌otherwise◌
  as_nothing a b c d e = rw (ne_eqb _ _ a, ne_eqb _ _ b, ne_eqb _ _ c, ne_eqb _ _ d, ne_eqb _ _ e)

-- ---- values by their words
module _ (w : ℕ) where
  pub unpacked_integer : kind_in w ≡ 1 → unpacked w ≡ Integer (to_z w32 (number_in w))
  unfolding unpacked if◌then◌otherwise◌
  unpacked_integer e = rw e

  pub unpacked_text : kind_in w ≡ 2 → unpacked w ≡ Text (handle_in w)
  unfolding unpacked if◌then◌otherwise◌
  unpacked_text e = rw e

  pub unpacked_truth : kind_in w ≡ 3 → unpacked w ≡ Boolean (truth_in w)
  unfolding unpacked if◌then◌otherwise◌
  unpacked_truth e = rw e

  pub unpacked_table : kind_in w ≡ 5 → unpacked w ≡ Table (number_in w)
  unfolding unpacked if◌then◌otherwise◌
  unpacked_table e = rw e

  pub unpacked_shape : kind_in w ≡ 6 → unpacked w ≡ Shape (number_in w)
  unfolding unpacked if◌then◌otherwise◌
  unpacked_shape e = rw e

  -- what holds of every kind of value, where the word is of that kind, holds of the word's value
  pub by_kind : (P : Value → Type 0) → (kind_in w ≡ 1 → P (Integer (to_z w32 (number_in w)))) → (kind_in w ≡ 2 → P (Text (handle_in w)))
      → (kind_in w ≡ 3 → P (Boolean (truth_in w))) → P Nothing → (kind_in w ≡ 5 → P (Table (number_in w))) → (kind_in w ≡ 6 → P (Shape (number_in w))) → P (unpacked w)
  unfolding unpacked if◌then◌otherwise◌
  by_kind P a b c d e f = go (eqb (kind_in w) 1) (eqb (kind_in w) 2) (eqb (kind_in w) 3) (eqb (kind_in w) 5) (eqb (kind_in w) 6)
      (λ q. a (eqb-true _ _ q)) (λ q. b (eqb-true _ _ q)) (λ q. c (eqb-true _ _ q)) (λ q. e (eqb-true _ _ q)) (λ q. f (eqb-true _ _ q))
    where
      go : (i j k l m : Bool) → (i ≡ true → P (Integer (to_z w32 (number_in w)))) → (j ≡ true → P (Text (handle_in w))) → (k ≡ true → P (Boolean (truth_in w)))
          → (l ≡ true → P (Table (number_in w))) → (m ≡ true → P (Shape (number_in w)))
          → P (if i then (λ _. Integer (to_z w32 (number_in w))) otherwise λ _. if j then (λ _. Text (handle_in w)) otherwise λ _. if k then (λ _. Boolean (truth_in w))
          otherwise λ _. if l then (λ _. Table (number_in w)) otherwise λ _. if m then (λ _. Shape (number_in w)) otherwise λ _. Nothing)
      go true j k l m a b c e f = a refl
      go false true k l m a b c e f = b refl
      go false false true l m a b c e f = c refl
      go false false false true m a b c e f = e refl
      go false false false false true a b c e f = f refl
      go false false false false false a b c e f = d

-- ---- there and back
-- a value that code can hold: an integer of 32 bits, a handle of 40, a table's or a shape's number of 32
unfoldable pub InRange : Value → Type 0
InRange (Integer z) = mag z < 2 ^ 31
InRange (Text h) = h < 2 ^ 40
InRange (Boolean b) = Unit {0}
InRange Nothing = Unit {0}
InRange (Table t) = t < 2 ^ 32
InRange (Shape i) = i < 2 ^ 32

kind_is : (k n : ℕ) → k < 8 → (k + 8 * n) % 8 ≡ k
kind_is k n h = omega arith

above_is : (k n : ℕ) → k < 8 → (k + 8 * n) / 8 ≡ n
above_is k n h = omega arith

small : (n : ℕ) → n < 2 ^ 32 → n % 2 ^ 32 ≡ n
small n h = omega arith

pub unpacked_packed : (v : Value) → InRange v → unpacked (packed v) ≡ v
unfolding packed unpacked InRange if◌then◌otherwise◌
unpacked_packed (Integer z) h =
    rw (kind_is 1 (bits z) (omega arith), above_is 1 (bits z) (omega arith), small (bits z) (bits_below z), signed_bits z h)
unpacked_packed (Text h) l =
    let e : h % 2 ^ 40 ≡ h = omega arith in
    rw (e, kind_is 2 h (omega arith), above_is 2 h (omega arith))
unpacked_packed (Boolean true) h = refl
unpacked_packed (Boolean false) h = refl
unpacked_packed Nothing h = refl
unpacked_packed (Table t) h = rw (kind_is 5 t (omega arith), above_is 5 t (omega arith), small t h)
unpacked_packed (Shape i) h = rw (kind_is 6 i (omega arith), above_is 6 i (omega arith), small i h)
