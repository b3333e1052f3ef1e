-- What the code's locals hold. A signed local holds bits, and its value is read back from them: `held z` and `long z`,
-- which are z where z fits. A law here is stated as the code's need is, of such values, from a plain law of `Ranges`.
use Prim.Native.Nat.{ℕ, zero, suc, ◌+◌, ◌-◌, ◌*◌, ◌%◌, ◌^◌, ◌<◌, ◌≤◌}
use mathlib.Core.Path.{◌≡◌, refl, ap, sym, ◌∙◌}
use mathlib.Core.Bool.{Bool, true, false}
use native.Mathlib.Omega.{arith}
use native.Mathlib.Nat.{lt_of_le_of_lt, div-one, mod-one, add-mul}
use borrow.Author.Tests.{lt-ltb, le-ltb, eq-eqb, ne_eqb, eqb-true, eqb-false}
use lib.Bits.{bit_and, and_mask}
use lib.Dec.{T, eqb}
use lib.IntN.{ℤ, pos, negsuc, nat_abs, neg_ℤ, ◌+ℤ◌, ◌-ℤ◌, ◌*ℤ◌, +ℤ_idl}
use lib.Signed.{mag, mag_rem, mag_shr, non_neg, lt_z, quot_z, rem_z, shr_z}
use mir.Syntax.{w32, w64}
use mir.Val.{to_z, of_z, Fits, SFits}
use mir.ValLaws.{to_z_pos}
use mir.Facts.{to_z-of_z, sfits_widen}
use Rattle.meaning.specs.Integer.{bits, wrap, sum, difference, quotient, remainder}
use Rattle.meaning.specs.Integer.{amount, shifted_left, shifted_right, half, same_integer, is_zero, is_negative}
use Rattle.arithmetic.proofs.Ranges.{bits_below, wrap_kept, sum_bound, negated_bound, product_bound}
use Rattle.arithmetic.proofs.Ranges.{quotient_bound, half_small, middle_small}

-- a local of 32 bits, one of 64 bits, and one of 64 bits that was set from one of 32
abbrev held : ℤ → ℤ
held z = to_z w32 (of_z w32 z)

abbrev long : ℤ → ℤ
long z = to_z w64 (of_z w64 z)

abbrev wide : ℤ → ℤ
wide z = long (held z)

-- a result that a call gives has 32 bits
pub given : {r : ℤ} → mag r < 2 ^ 31 → held r ≡ r
given h = to_z-of_z {w = w32} (record { sfits = h })

-- ---- the lowest 32 bits
lowest : (z : ℤ) → SFits w64 z → of_z w64 z % 2 ^ 32 ≡ bits z
unfolding bits
lowest (pos n) f = refl
lowest (negsuc n) f = omega (arith, f.sfits)

abbrev masked : ℤ → ℤ
masked z = to_z w64 (bit_and (of_z w64 z) 4294967295)

module _ {z : ℤ} (f : SFits w64 z) where
  masked_is : masked z ≡ pos (bits z)
  masked_is =
      ap (to_z w64) (and_mask (of_z w64 z) 32 ∙ lowest z f) ∙ to_z_pos w64 (bits z) (omega (arith, bits_below z))

  pub low_casts : T (non_neg (masked z)) × Fits w32 (nat_abs (masked z))
  low_casts = rw masked_is (tt, record { fits = bits_below z })

  pub low_is : nat_abs (masked z) ≡ bits z
  low_is = ap nat_abs masked_is

-- ---- bits of a number below 0
abbrev lowered : ℕ → ℤ
lowered n = to_z w64 n -ℤ pos 4294967296

module _ {n : ℕ} (f : Fits w32 n) (h : 2 ^ 31 ≤ n) where
  lowered_is : lowered n ≡ negsuc (2 ^ 32 - suc n)
  lowered_is =
      let k = f.fits in
      rw (lt-ltb n 9223372036854775808 (omega arith), lt-ltb n 4294967296 (omega arith))

  pub lowered_fits : SFits w64 (lowered n)
  lowered_fits = rw lowered_is (record { sfits = omega arith })

  lowered_held : long (lowered n) ≡ negsuc (2 ^ 32 - suc n)
  lowered_held = to_z-of_z lowered_fits ∙ lowered_is

  pub lowered_casts : SFits w32 (long (lowered n))
  lowered_casts = rw lowered_held (record { sfits = omega arith })

  pub signed_is : held (long (lowered n)) ≡ to_z w32 n
  signed_is = to_z-of_z lowered_casts ∙ lowered_held ∙ sym (rw (le-ltb n 2147483648 h))

-- ---- sums, differences and products, in 64 bits
module _ {z : ℤ} (f : SFits w32 z) where
  pub widened : SFits w64 (held z)
  widened = rw (to_z-of_z f) (sfits_widen tt f)

  pub wide_is : wide z ≡ z
  wide_is = to_z-of_z widened ∙ to_z-of_z f

pub sums_fit : (a b : ℤ) → SFits w32 a → SFits w32 b → SFits w64 (a +ℤ b)
sums_fit a b f g = record { sfits = omega (arith, sum_bound a b, f.sfits, g.sfits) }

pub differences_fit : (a b : ℤ) → SFits w32 a → SFits w32 b → SFits w64 (a -ℤ b)
differences_fit a b f g =
    record { sfits = omega (arith, sum_bound a (neg_ℤ b), negated_bound b, f.sfits, g.sfits) }

pub products_fit : (a b : ℤ) → SFits w32 a → SFits w32 b → SFits w64 (a *ℤ b)
products_fit a b f g = record { sfits = omega (arith, product_bound a b f.sfits g.sfits) }

-- any of the three
module _ (op : ℤ → ℤ → ℤ) (fits : (a b : ℤ) → SFits w32 a → SFits w32 b → SFits w64 (op a b)) where
  module _ {a b : ℤ} (f : SFits w32 a) (g : SFits w32 b) where
    pub wide_fits : SFits w64 (op (wide a) (wide b))
    wide_fits = rw (wide_is f, wide_is g) (fits a b f g)

    wide_op : long (op (wide a) (wide b)) ≡ op a b
    wide_op = to_z-of_z wide_fits ∙ rw (wide_is f, wide_is g)

    pub wide_wraps : {r : ℤ} → mag r < 2 ^ 31 → r ≡ wrap (long (op (wide a) (wide b))) → held r ≡ wrap (op a b)
    wide_wraps k e = given k ∙ e ∙ ap wrap wide_op

-- ---- division
minus_one : (b : ℤ) → SFits w32 b → of_z w32 b ≡ 4294967295 → b ≡ negsuc 0
minus_one (pos n) f e = absurd (omega (arith, f.sfits))
minus_one (negsuc n) f e = let h : n ≡ 0 = omega (arith, f.sfits) in ap negsuc h

by_minus_one : (a : ℤ) → pos 0 -ℤ a ≡ quot_z a (negsuc 0)
by_minus_one (pos n) = +ℤ_idl (neg_ℤ (pos n)) ∙ ap (λ (k : ℕ). neg_ℤ (pos k)) (sym (div-one n))
by_minus_one (negsuc n) = +ℤ_idl (pos (suc n)) ∙ ap pos (sym (div-one (suc n)))

nothing_left : (a : ℤ) → rem_z a (negsuc 0) ≡ pos 0
nothing_left (pos n) = ap pos (mod-one n)
nothing_left (negsuc n) = ap (λ (k : ℕ). neg_ℤ (pos k)) (mod-one (suc n))

nonzero : (b : ℤ) → SFits w32 b → is_zero b ≡ false → 0 < of_z w32 b
unfolding same_integer
nonzero (pos n) f h = omega (arith, eqb-false n 0 h)
nonzero (negsuc n) f h = omega (arith, f.sfits)

module _ {a b : ℤ} (f : SFits w32 a) (g : SFits w32 b) where
  -- the divisor is -1
  module _ (e : of_z w32 b ≡ 4294967295) where
    pub quotient_negates : {r : ℤ} → mag r < 2 ^ 31 → r ≡ difference (pos 0) (held a) → held r ≡ quotient a b
    unfolding difference quotient
    quotient_negates k h = given k ∙ h ∙ ap wrap (rw (to_z-of_z f, minus_one b g e) (by_minus_one a))

    pub remainder_none : pos 0 ≡ remainder a b
    unfolding remainder
    remainder_none = sym (rw (minus_one b g e, nothing_left a) (wrap_kept (pos 0) (omega arith)))

  -- it is another
  module _ (other : of_z w32 b ≡ 4294967295 → ⊥) where
    quotient_fits : SFits w32 (quot_z a b)
    quotient_fits =
        record { sfits = lt_of_le_of_lt (quotient_bound a b (λ e. other (ap (of_z w32) e))) f.sfits }

    pub divides : is_zero b ≡ false → (0 < of_z w32 b) × SFits w32 (quot_z (held a) (held b))
    divides h = (nonzero b g h, rw (to_z-of_z f, to_z-of_z g) quotient_fits)

    pub quotient_is : held (quot_z (held a) (held b)) ≡ quotient a b
    unfolding quotient
    quotient_is =
        rw (to_z-of_z f, to_z-of_z g, to_z-of_z quotient_fits) (sym (wrap_kept (quot_z a b) quotient_fits.sfits))

  remainder_fits : SFits w32 (rem_z a b)
  remainder_fits = record { sfits = lt_of_le_of_lt (mag_rem a b) f.sfits }

  pub remainder_is : held (rem_z (held a) (held b)) ≡ remainder a b
  unfolding remainder
  remainder_is =
      rw (to_z-of_z f, to_z-of_z g, to_z-of_z remainder_fits) (sym (wrap_kept (rem_z a b) remainder_fits.sfits))

-- ---- shifts
minus_bits : (k : ℕ) → bits (neg_ℤ (pos k)) ≡ (2 ^ 32 - k % 2 ^ 32) % 2 ^ 32
unfolding bits
minus_bits zero = refl
minus_bits (suc n) = omega arith

scaled : (a : ℤ) (m : ℕ) → mag a < 2 ^ 31 → (of_z w32 a * m) % 2 ^ 32 ≡ bits (a *ℤ pos m)
unfolding bits
scaled (pos a) m h = refl
scaled (negsuc a) m h =
    let e : (2 ^ 32 - suc a) + suc a ≡ 2 ^ 32 = omega arith in
    let k : (2 ^ 32 - suc a) * m + suc a * m ≡ 2 ^ 32 * m =
    sym (add-mul (2 ^ 32 - suc a) (suc a) m) ∙ ap (λ (n : ℕ). n * m) e in
    omega (arith, k, minus_bits (suc a * m))

module _ (b : ℤ) {n : ℕ} (e : n ≡ amount b) where
  pub amount_below : n < 32
  unfolding amount
  amount_below = omega arith

  pub amount_casts : SFits w32 (pos n)
  amount_casts = record { sfits = omega (arith, amount_below) }

  module _ {a : ℤ} (f : SFits w32 a) where
    pub left_is : to_z w32 ((of_z w32 a * 2 ^ n) % 4294967296) ≡ shifted_left a b
    unfolding shifted_left wrap
    left_is =
        ap (λ (k : ℕ). to_z w32 ((of_z w32 a * 2 ^ k) % 2 ^ 32)) e ∙ ap (to_z w32) (scaled a (2 ^ amount b) f.sfits)

    shift_fits : SFits w32 (shr_z a (2 ^ n))
    shift_fits = record { sfits = lt_of_le_of_lt (mag_shr a (2 ^ n)) f.sfits }

    pub right_is : held (shr_z (held a) (2 ^ n)) ≡ shifted_right a b
    unfolding shifted_right
    right_is = rw (to_z-of_z f, to_z-of_z shift_fits) (ap (λ (k : ℕ). shr_z a (2 ^ k)) e)

-- ---- comparing
pub same_is : (a b : ℤ) → SFits w32 a → SFits w32 b → eqb (of_z w32 a) (of_z w32 b) ≡ same_integer a b
unfolding same_integer
same_is (pos a) (pos b) f g = refl
same_is (pos a) (negsuc b) f g = ne_eqb a (2 ^ 32 - suc b) (λ e. omega (arith, f.sfits, g.sfits))
same_is (negsuc a) (pos b) f g = ne_eqb (2 ^ 32 - suc a) b (λ e. omega (arith, f.sfits, g.sfits))
same_is (negsuc a) (negsuc b) f g = go (eqb a b) refl
  where
    go : (t : Bool) → eqb a b ≡ t → eqb (2 ^ 32 - suc a) (2 ^ 32 - suc b) ≡ t
    go true e = eq-eqb (2 ^ 32 - suc a) (2 ^ 32 - suc b) (omega (arith, eqb-true a b e))
    go false e =
        ne_eqb (2 ^ 32 - suc a) (2 ^ 32 - suc b) (λ k. eqb-false a b e (omega (arith, f.sfits, g.sfits)))

negative : (a : ℤ) → lt_z a (pos 0) ≡ is_negative a
unfolding is_negative
negative (pos n) = le-ltb n 0 (omega arith)
negative (negsuc n) = refl

pub negative_is : {a : ℤ} → SFits w32 a → lt_z (held a) (pos 0) ≡ is_negative a
negative_is {a} f = rw (to_z-of_z f) (negative a)

-- ---- halves
module _ {a : ℤ} (f : SFits w32 a) where
  half_fits : SFits w32 (half a)
  half_fits = record { sfits = half_small a f.sfits }

  pub halves : (0 < 2) × SFits w32 (quot_z (held a) (pos 2))
  unfolding half
  halves = (omega arith, rw (to_z-of_z f) half_fits)

  pub half_is : held (quot_z (held a) (pos 2)) ≡ half a
  unfolding half
  half_is = rw (to_z-of_z f, to_z-of_z half_fits)

module _ {a b : ℤ} (f : SFits w32 a) (g : SFits w32 b) where
  middle_fits : SFits w32 (half (a +ℤ b))
  middle_fits = record { sfits = middle_small a b f.sfits g.sfits }

  pub middle_divides : (0 < 2) × SFits w64 (quot_z (long (wide a +ℤ wide b)) (pos 2))
  unfolding half
  middle_divides = (omega arith, rw (wide_op ◌+ℤ◌ sums_fit f g) (sfits_widen tt middle_fits))

  middle_held : long (quot_z (long (wide a +ℤ wide b)) (pos 2)) ≡ half (a +ℤ b)
  unfolding half
  middle_held = to_z-of_z middle_divides.1 ∙ ap half (wide_op ◌+ℤ◌ sums_fit f g)

  pub middle_casts : SFits w32 (long (quot_z (long (wide a +ℤ wide b)) (pos 2)))
  middle_casts = rw middle_held middle_fits

  pub middle_is : held (long (quot_z (long (wide a +ℤ wide b)) (pos 2))) ≡ half (a +ℤ b)
  middle_is = to_z-of_z middle_casts ∙ middle_held

module _ {x w h r : ℤ} (f : SFits w32 x) (g : SFits w32 w) (k : mag h < 2 ^ 31) (l : mag r < 2 ^ 31) where
  pub corner_is : h ≡ half (held w) → r ≡ sum (held x) (held h) → held r ≡ sum x (half w)
  corner_is e t = given l ∙ t ∙ rw (to_z-of_z f) (ap (sum x) (given k ∙ e ∙ ap half (to_z-of_z g)))
