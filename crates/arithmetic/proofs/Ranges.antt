-- Integers of 32 bits are those from -2 ^ 31 to 2 ^ 31 - 1: `mag z < 2 ^ 31`. Their bits tell them apart, and every
-- operation gives one.
use Prim.Native.Nat.{ℕ, zero, suc, ◌+◌, ◌-◌, ◌*◌, ◌/◌, ◌^◌, ◌<◌, ◌≤◌}
use mathlib.Core.Path.{◌≡◌, refl, ap, ◌∙◌}
use mathlib.Core.Bool.{Bool, true, false, cond}
use native.Mathlib.Omega.{arith}
use native.Mathlib.Nat.{le_refl, le_trans, lt_of_le_of_lt, div-le_self, div-lt_self, mul-le-mul_left}
use lib.Dec.{ltb}
use lib.IntN.{ℤ, pos, negsuc, sub_ℕ, neg_ℤ, ◌+ℤ◌, ◌-ℤ◌, ◌*ℤ◌}
use lib.Signed.{mag, mag_shr, quot_z, rem_z}
use mir.Syntax.{w32}
use mir.Val.{to_z, of_z}
use mir.ValLaws.{to_z-of_z, of_z-to_z, to_z-Fits}
use Rattle.meaning.specs.Integer.{bits, wrap, sum, difference, product, quotient, remainder}
use Rattle.meaning.specs.Integer.{amount, shifted_left, shifted_right, half}

-- ---- bits
pub bits_below : (z : ℤ) → bits z < 2 ^ 32
unfolding bits
bits_below (pos n) = omega arith
bits_below (negsuc n) = omega arith

-- of an integer that has 32 bits they are the bits that the machine holds
pub bits_held : (z : ℤ) → mag z < 2 ^ 31 → bits z ≡ of_z w32 z
unfolding bits
bits_held (pos n) h = omega arith
bits_held (negsuc n) h = omega arith

pub signed_bits : (z : ℤ) → mag z < 2 ^ 31 → to_z w32 (bits z) ≡ z
signed_bits z h = ap (to_z w32) (bits_held z h) ∙ to_z-of_z w32 z (record { sfits = h })

pub signed_small : (n : ℕ) → n < 2 ^ 32 → mag (to_z w32 n) < 2 ^ 31
signed_small n h = (to_z-Fits w32 n (record { fits = h })).sfits

pub bits_signed : (n : ℕ) → n < 2 ^ 32 → bits (to_z w32 n) ≡ n
bits_signed n h = bits_held (to_z w32 n) (signed_small n h) ∙ of_z-to_z w32 n (record { fits = h })

-- ---- wrapping
pub wrap_small : (z : ℤ) → mag (wrap z) < 2 ^ 31
unfolding wrap
wrap_small z = signed_small (bits z) (bits_below z)

pub wrap_kept : (z : ℤ) → mag z < 2 ^ 31 → wrap z ≡ z
unfolding wrap
wrap_kept z h = signed_bits z h

pub bits_wrap : (z : ℤ) → bits (wrap z) ≡ bits z
unfolding wrap
bits_wrap z = bits_signed (bits z) (bits_below z)

-- ---- how large sums, products and quotients can be
difference_bound : (m n : ℕ) → mag (sub_ℕ m n) ≤ m + n
difference_bound m n = go (ltb m n) refl
  where
    go : (t : Bool) → ltb m n ≡ t → mag (cond t (negsuc (n - suc m)) (pos (m - n))) ≤ m + n
    go true e = omega arith
    go false e = omega arith

pub sum_bound : (a b : ℤ) → mag (a +ℤ b) ≤ suc (mag a + mag b)
sum_bound (pos a) (pos b) = omega arith
sum_bound (pos a) (negsuc b) = omega (arith, difference_bound a (suc b))
sum_bound (negsuc a) (pos b) = omega (arith, difference_bound b (suc a))
sum_bound (negsuc a) (negsuc b) = omega arith

minus_bound : (n m : ℕ) → n ≤ suc m → mag (neg_ℤ (pos n)) ≤ m
minus_bound zero m h = omega arith
minus_bound (suc n) m h = omega arith

pub negated_bound : (a : ℤ) → mag (neg_ℤ a) ≤ suc (mag a)
negated_bound (pos zero) = omega arith
negated_bound (pos (suc n)) = omega arith
negated_bound (negsuc n) = omega arith

-- a product of two that have 32 bits has 63
factors : (m n : ℕ) → m ≤ 2 ^ 31 → n ≤ 2 ^ 31 → m * n ≤ 2 ^ 62
factors m n h k = le_trans (mul-le-mul_left m k) (let e : m * 2 ^ 31 ≤ 2 ^ 62 = omega arith in e)

pub product_bound : (a b : ℤ) → mag a < 2 ^ 31 → mag b < 2 ^ 31 → mag (a *ℤ b) ≤ 2 ^ 62
product_bound (pos a) (pos b) h k = factors a b (omega arith) (omega arith)
product_bound (pos a) (negsuc b) h k =
    minus_bound (a * suc b) (2 ^ 62) (omega (arith, factors a (suc b) (omega arith) k))
product_bound (negsuc a) (pos b) h k =
    minus_bound (suc a * b) (2 ^ 62) (omega (arith, factors (suc a) b h (omega arith)))
product_bound (negsuc a) (negsuc b) h k = factors (suc a) (suc b) h k

-- only a quotient by -1 can be larger than the dividend
pub quotient_bound : (a b : ℤ) → (b ≡ negsuc 0 → ⊥) → mag (quot_z a b) ≤ mag a
quotient_bound (pos a) (pos b) h = div-le_self a b
quotient_bound (pos a) (negsuc b) h = minus_bound (a / suc b) a (omega (arith, div-le_self a (suc b)))
quotient_bound (negsuc a) (pos b) h = minus_bound (suc a / b) a (div-le_self (suc a) b)
quotient_bound (negsuc a) (negsuc zero) h = absurd (h refl)
quotient_bound (negsuc a) (negsuc (suc b)) h =
    omega (arith, div-lt_self {n = suc a} {k = suc (suc b)} (omega arith) (omega arith))

half_bound : (a : ℤ) → mag (half a) ≤ mag a / 2
unfolding half
half_bound (pos a) = le_refl (a / 2)
half_bound (negsuc a) = minus_bound (suc a / 2) (a / 2) (omega arith)

-- ---- what the operations give
pub sum_small : (a b : ℤ) → mag (sum a b) < 2 ^ 31
unfolding sum
sum_small a b = wrap_small (a +ℤ b)

pub difference_small : (a b : ℤ) → mag (difference a b) < 2 ^ 31
unfolding difference
difference_small a b = wrap_small (a -ℤ b)

pub product_small : (a b : ℤ) → mag (product a b) < 2 ^ 31
unfolding product
product_small a b = wrap_small (a *ℤ b)

pub quotient_small : (a b : ℤ) → mag (quotient a b) < 2 ^ 31
unfolding quotient
quotient_small a b = wrap_small (quot_z a b)

pub remainder_small : (a b : ℤ) → mag (remainder a b) < 2 ^ 31
unfolding remainder
remainder_small a b = wrap_small (rem_z a b)

pub shifted_left_small : (a b : ℤ) → mag (shifted_left a b) < 2 ^ 31
unfolding shifted_left
shifted_left_small a b = wrap_small (a *ℤ pos (2 ^ amount b))

pub shifted_right_small : (a b : ℤ) → mag a < 2 ^ 31 → mag (shifted_right a b) < 2 ^ 31
unfolding shifted_right
shifted_right_small a b h = lt_of_le_of_lt (mag_shr a (2 ^ amount b)) h

pub half_small : (a : ℤ) → mag a < 2 ^ 31 → mag (half a) < 2 ^ 31
half_small a h = omega (arith, half_bound a)

pub middle_small : (a b : ℤ) → mag a < 2 ^ 31 → mag b < 2 ^ 31 → mag (half (a +ℤ b)) < 2 ^ 31
middle_small a b h k = omega (arith, half_bound (a +ℤ b), sum_bound a b)
