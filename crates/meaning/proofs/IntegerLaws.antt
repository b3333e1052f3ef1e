-- Laws of the 32-bit integers.
use Prim.Native.Nat.{ℕ, zero, suc, ◌+◌, ◌-◌, ◌*◌, ◌/◌, ◌%◌, ◌^◌, ◌<◌, ◌≤◌}
use mathlib.Core.Path.{◌≡◌, refl, ap, sym, ◌∙◌}
use mathlib.Core.Bool.{Bool, true, false, cond}
use native.Mathlib.Omega.{arith}
use native.Mathlib.Nat.{lt_of_le_of_lt, mod-add-div, div-add-mod', add-mul, mul-add, mul_assoc, mul_comm, mul-one, zero-mul, zero-div, div-one, add-mul-mod_self_left}
use lib.Dec.{ltb}
use borrow.Author.Tests.{lt-ltb, le-ltb, ltb-true, ltb-false}
use lib.IntN.{ℤ, pos, negsuc, sub_ℕ, ◌+ℤ◌, ◌-ℤ◌, ◌*ℤ◌, neg_ℤ, +ℤ_comm, +ℤ-neg_ℤ_cancel, -ℤ-+ℤ_cancel, neg_ℤ-+ℤ}
use lib.Signed.{mag, quot_z, rem_z, mag_shr}
use mir.Syntax.{w32}
use mir.Val.{to_z, sel}
use Rattle.meaning.specs.Integer.{bits, wrap, sum, difference, product, quotient, remainder, amount, shifted_left, shifted_right, half}

-- ---- wrapping
to_pos : (n : ℕ) → n < 2147483648 → to_z w32 n ≡ pos n
to_pos n h = rw (lt-ltb n 2147483648 h)

to_neg : (n : ℕ) → 2147483648 ≤ n → to_z w32 n ≡ negsuc (4294967296 - suc n)
to_neg n h = rw (le-ltb n 2147483648 h)

-- an integer in range is its own wrapping
pub wrap_id : (z : ℤ) → mag z < 2 ^ 31 → wrap z ≡ z
unfolding wrap bits
wrap_id (pos n) h =
    let e : n % 4294967296 ≡ n = omega arith in
    ap (to_z w32) e ∙ to_pos n h
wrap_id (negsuc n) h =
    let e : 4294967295 - n % 4294967296 ≡ 4294967295 - n = omega arith in
    let k : 4294967296 - suc (4294967295 - n) ≡ n = omega arith in
    ap (to_z w32) e ∙ to_neg (4294967295 - n) (omega arith) ∙ ap negsuc k

bits_below : (z : ℤ) → bits z < 4294967296
unfolding bits
bits_below (pos n) = omega arith
bits_below (negsuc n) = omega arith

to_z_range : (n : ℕ) → n < 4294967296 → mag (to_z w32 n) < 2147483648
to_z_range n h = go (ltb n 2147483648) refl
  where
    go : (t : Bool) → ltb n 2147483648 ≡ t → mag (sel t (pos n) (negsuc (4294967296 - suc n))) < 2147483648
    go true e = ltb-true n 2147483648 e
    go false e = omega (arith, ltb-false n 2147483648 e)

bits_to_z : (n : ℕ) → n < 4294967296 → bits (to_z w32 n) ≡ n
unfolding bits
bits_to_z n h = go (ltb n 2147483648) refl
  where
    go : (t : Bool) → ltb n 2147483648 ≡ t → bits (sel t (pos n) (negsuc (4294967296 - suc n))) ≡ n
    go true e = omega arith
    go false e = omega (arith, ltb-false n 2147483648 e)

pub wrap_range : (z : ℤ) → mag (wrap z) < 2 ^ 31
unfolding wrap
wrap_range z = to_z_range (bits z) (bits_below z)

pub wrap_wrap : (z : ℤ) → wrap (wrap z) ≡ wrap z
wrap_wrap z = wrap_id (wrap z) (wrap_range z)

pub bits_wrap : (z : ℤ) → bits (wrap z) ≡ bits z
unfolding wrap
bits_wrap z = bits_to_z (bits z) (bits_below z)

-- ---- the bits of a sum and of a product come from the bits of its parts
bits_sub : (a b : ℕ) → bits (sub_ℕ a b) ≡ (a % 4294967296 + (4294967296 - b % 4294967296)) % 4294967296
unfolding bits
bits_sub a b = go (ltb a b) refl
  where
    go : (t : Bool) → ltb a b ≡ t → bits (cond t (negsuc (b - suc a)) (pos (a - b))) ≡ (a % 4294967296 + (4294967296 - b % 4294967296)) % 4294967296
    go true e = let h = ltb-true a b e in omega arith
    go false e = let h = ltb-false a b e in omega arith

pub bits_add : (a b : ℤ) → bits (a +ℤ b) ≡ (bits a + bits b) % 2 ^ 32
unfolding bits
bits_add (pos a) (pos b) = omega arith
bits_add (pos a) (negsuc b) = omega (arith, bits_sub a (suc b))
bits_add (negsuc a) (pos b) = omega (arith, bits_sub b (suc a))
bits_add (negsuc a) (negsuc b) = omega arith

mod_mul : (a b : ℕ) → (a * b) % 4294967296 ≡ (a % 4294967296 * b) % 4294967296
mod_mul a b =
    let e : a * b ≡ a % 4294967296 * b + 4294967296 * (a / 4294967296 * b) =
    ap (λ (n : ℕ). n * b) (sym (mod-add-div a 4294967296)) ∙ add-mul (a % 4294967296) (4294967296 * (a / 4294967296)) b
    ∙ ap (λ (n : ℕ). a % 4294967296 * b + n) (mul_assoc 4294967296 (a / 4294967296) b) in
    rw e (add-mul-mod_self_left (a % 4294967296 * b) 4294967296 (a / 4294967296 * b))

mod_mul₂ : (a b : ℕ) → (a * b) % 4294967296 ≡ (a % 4294967296 * (b % 4294967296)) % 4294967296
mod_mul₂ a b = mod_mul a b ∙ rw (mul_comm (a % 4294967296) b, mod_mul b (a % 4294967296), mul_comm (b % 4294967296) (a % 4294967296))

suc_mod_mul : (a b : ℕ) → (a * suc b) % 4294967296 ≡ (a % 4294967296 * suc (b % 4294967296)) % 4294967296
suc_mod_mul a b =
    let e : suc b % 4294967296 ≡ suc (b % 4294967296) % 4294967296 = omega arith in
    mod_mul₂ a (suc b) ∙ ap (λ (n : ℕ). (a % 4294967296 * n) % 4294967296) e
    ∙ rw (mul_comm (a % 4294967296) (suc (b % 4294967296) % 4294967296), ← mod_mul (suc (b % 4294967296)) (a % 4294967296), mul_comm (suc (b % 4294967296)) (a % 4294967296))

-- u (2³² − 1 − v) and u (v + 1) make up u times 2³²
makes_up : (u v : ℕ) → v < 4294967296 → u * (4294967295 - v) + u * suc v ≡ 4294967296 * u
makes_up u v h =
    let e : (4294967295 - v) + suc v ≡ 4294967296 = omega arith in
    sym (mul-add u (4294967295 - v) (suc v)) ∙ ap (λ (n : ℕ). u * n) e ∙ mul_comm u 4294967296

below : (n : ℕ) → n % 4294967296 < 4294967296
below n = omega arith

bits_neg : (n : ℕ) → bits (neg_ℤ (pos n)) ≡ (4294967296 - n % 4294967296) % 4294967296
unfolding bits
bits_neg zero = refl
bits_neg (suc n) = omega arith

pos_neg : (a b : ℕ) → bits (neg_ℤ (pos (a * suc b))) ≡ (a % 4294967296 * (4294967295 - b % 4294967296)) % 4294967296
pos_neg a b = omega (arith, bits_neg (a * suc b), suc_mod_mul a b, makes_up (a % 4294967296) (b % 4294967296) (below b))

pub bits_mul : (a b : ℤ) → bits (a *ℤ b) ≡ (bits a * bits b) % 2 ^ 32
unfolding bits
bits_mul (pos a) (pos b) = mod_mul₂ a b
bits_mul (pos a) (negsuc b) = pos_neg a b
bits_mul (negsuc a) (pos b) = rw (mul_comm (suc a) b, mul_comm (4294967295 - a % 4294967296) (b % 4294967296)) (pos_neg b a)
bits_mul (negsuc a) (negsuc b) =
    let u : ℕ = 4294967295 - a % 4294967296 in
    let v : ℕ = b % 4294967296 in
    let e₁ : u * (4294967295 - v) + u * suc v ≡ 4294967296 * u = makes_up u v (below b) in
    let e₂ : suc v * u + suc v * suc (a % 4294967296) ≡ 4294967296 * suc v = makes_up (suc v) (a % 4294967296) (below a) in
    let k : suc b % 4294967296 ≡ suc v % 4294967296 = omega arith in
    let e₃ : (suc b * suc a) % 4294967296 ≡ (suc v * suc (a % 4294967296)) % 4294967296 =
    suc_mod_mul (suc b) a ∙ ap (λ (n : ℕ). (n * suc (a % 4294967296)) % 4294967296) k ∙ sym (mod_mul (suc v) (suc (a % 4294967296))) in
    omega (arith, e₁, e₂, e₃, mul_comm u (suc v), mul_comm (suc a) (suc b))

-- wrapping a part first changes nothing
pub wrap_sum_left : (a b : ℤ) → wrap (wrap a +ℤ b) ≡ wrap (a +ℤ b)
unfolding wrap
wrap_sum_left a b =
    ap (to_z w32) (bits_add (wrap a) b ∙ ap (λ (n : ℕ). (n + bits b) % 4294967296) (bits_wrap a) ∙ sym (bits_add a b))

pub wrap_sum_right : (a b : ℤ) → wrap (a +ℤ wrap b) ≡ wrap (a +ℤ b)
wrap_sum_right a b = ap wrap (+ℤ_comm a (wrap b)) ∙ wrap_sum_left b a ∙ ap wrap (+ℤ_comm b a)

pub wrap_product_left : (a b : ℤ) → wrap (wrap a *ℤ b) ≡ wrap (a *ℤ b)
unfolding wrap
wrap_product_left a b =
    ap (to_z w32) (bits_mul (wrap a) b ∙ ap (λ (n : ℕ). (n * bits b) % 4294967296) (bits_wrap a) ∙ sym (bits_mul a b))

-- ---- results are in range
pub sum_range : (a b : ℤ) → mag (sum a b) < 2 ^ 31
unfolding sum
sum_range a b = wrap_range (a +ℤ b)

pub difference_range : (a b : ℤ) → mag (difference a b) < 2 ^ 31
unfolding difference
difference_range a b = wrap_range (a -ℤ b)

pub product_range : (a b : ℤ) → mag (product a b) < 2 ^ 31
unfolding product
product_range a b = wrap_range (a *ℤ b)

pub quotient_range : (a b : ℤ) → mag (quotient a b) < 2 ^ 31
unfolding quotient
quotient_range a b = wrap_range (quot_z a b)

pub remainder_range : (a b : ℤ) → mag (remainder a b) < 2 ^ 31
unfolding remainder
remainder_range a b = wrap_range (rem_z a b)

pub shifted_left_range : (a b : ℤ) → mag (shifted_left a b) < 2 ^ 31
unfolding shifted_left
shifted_left_range a b = wrap_range (a *ℤ pos (2 ^ amount b))

pub shifted_right_range : (a b : ℤ) → mag a < 2 ^ 31 → mag (shifted_right a b) < 2 ^ 31
unfolding shifted_right
shifted_right_range a b h = lt_of_le_of_lt (mag_shr a (2 ^ amount b)) h

pub amount_range : (b : ℤ) → amount b < 32
unfolding amount
amount_range b = omega arith

-- ---- sums
pub sum_comm : (a b : ℤ) → sum a b ≡ sum b a
unfolding sum
sum_comm a b = ap wrap (+ℤ_comm a b)

-- (a + b) − b and (a − b) + b are a
pub sum_difference : (a b : ℤ) → mag a < 2 ^ 31 → difference (sum a b) b ≡ a
unfolding sum difference
sum_difference a b h = wrap_sum_left (a +ℤ b) (neg_ℤ b) ∙ ap wrap (+ℤ-neg_ℤ_cancel a b) ∙ wrap_id a h

pub difference_sum : (a b : ℤ) → mag a < 2 ^ 31 → sum (difference a b) b ≡ a
unfolding sum difference
difference_sum a b h = wrap_sum_left (a -ℤ b) b ∙ ap wrap (-ℤ-+ℤ_cancel a b) ∙ wrap_id a h

-- ---- products and quotients by 1, and of 0
times_one : (a : ℤ) → a *ℤ pos 1 ≡ a
times_one (pos a) = ap pos (mul-one a)
times_one (negsuc a) = ap (λ (n : ℕ). neg_ℤ (pos n)) (mul-one (suc a))

over_one : (a : ℤ) → quot_z a (pos 1) ≡ a
over_one (pos a) = ap pos (div-one a)
over_one (negsuc a) = ap (λ (n : ℕ). neg_ℤ (pos n)) (div-one (suc a))

pub product_one : (a : ℤ) → mag a < 2 ^ 31 → product a (pos 1) ≡ a
unfolding product
product_one a h = ap wrap (times_one a) ∙ wrap_id a h

pub quotient_one : (a : ℤ) → mag a < 2 ^ 31 → quotient a (pos 1) ≡ a
unfolding quotient
quotient_one a h = ap wrap (over_one a) ∙ wrap_id a h

pub product_zero : (b : ℤ) → product (pos 0) b ≡ pos 0
unfolding product wrap bits
product_zero (pos b) = rw (zero-mul b)
product_zero (negsuc b) = rw (zero-mul (suc b))

pub quotient_zero : (b : ℤ) → quotient (pos 0) b ≡ pos 0
unfolding quotient wrap bits
quotient_zero (pos b) = rw (zero-div b)
quotient_zero (negsuc b) = rw (zero-div (suc b))

-- ---- quotients
minus_times_pos : (q b : ℕ) → neg_ℤ (pos q) *ℤ pos b ≡ neg_ℤ (pos (q * b))
minus_times_pos zero b = ap pos (zero-mul b) ∙ sym (ap (λ (n : ℕ). neg_ℤ (pos n)) (zero-mul b))
minus_times_pos (suc q) b = refl

minus_times_neg : (q b : ℕ) → neg_ℤ (pos q) *ℤ negsuc b ≡ pos (q * suc b)
minus_times_neg zero b = ap (λ (n : ℕ). neg_ℤ (pos n)) (zero-mul (suc b)) ∙ sym (ap pos (zero-mul (suc b)))
minus_times_neg (suc q) b = refl

minus_sum : (m n k : ℕ) → m + n ≡ suc k → neg_ℤ (pos m) +ℤ neg_ℤ (pos n) ≡ negsuc k
minus_sum m n k e = sym (neg_ℤ-+ℤ (pos m) (pos n)) ∙ ap (λ (x : ℕ). neg_ℤ (pos x)) e

-- the quotient times the divisor, and the remainder, make up the dividend (where nothing divides, 0 and all of it)
pub quotient_remainder : (a b : ℤ) → quot_z a b *ℤ b +ℤ rem_z a b ≡ a
quotient_remainder (pos a) (pos b) = ap pos (div-add-mod' a b)
quotient_remainder (pos a) (negsuc b) = rw (minus_times_neg (a / suc b) b) (ap pos (div-add-mod' a (suc b)))
quotient_remainder (negsuc a) (pos b) =
    rw (minus_times_pos (suc a / b) b) (minus_sum (suc a / b * b) (suc a % b) a (div-add-mod' (suc a) b))
quotient_remainder (negsuc a) (negsuc b) =
    minus_sum (suc a / suc b * suc b) (suc a % suc b) a (div-add-mod' (suc a) (suc b))

pub quotient_remainder_wrapped : (a b : ℤ) → mag a < 2 ^ 31 → sum (product (quotient a b) b) (remainder a b) ≡ a
unfolding sum product quotient remainder
quotient_remainder_wrapped a b h =
    wrap_sum_right (wrap (wrap (quot_z a b) *ℤ b)) (rem_z a b) ∙ ap (λ (z : ℤ). wrap (z +ℤ rem_z a b)) (wrap_product_left (quot_z a b) b)
    ∙ wrap_sum_left (quot_z a b *ℤ b) (rem_z a b) ∙ ap wrap (quotient_remainder a b) ∙ wrap_id a h

-- −2,147,483,648 / −1 is −2,147,483,648 with remainder 0
pub least_by_minus_one : (quotient (negsuc 2147483647) (negsuc 0) ≡ negsuc 2147483647) × (remainder (negsuc 2147483647) (negsuc 0) ≡ pos 0)
unfolding quotient remainder wrap bits
least_by_minus_one = (refl, refl)

-- ---- halves
-- half an exact sum needs no wrapping
mag_minus : (n : ℕ) → mag (neg_ℤ (pos n)) ≤ n - 1
mag_minus zero = omega arith
mag_minus (suc n) = omega arith

half_sub : (a b : ℕ) → a < 2147483648 → b < 2147483648 → mag (half (sub_ℕ a (suc b))) < 2147483648
unfolding half
half_sub a b f g = go (ltb a (suc b)) refl
  where
    go : (t : Bool) → ltb a (suc b) ≡ t → mag (quot_z (cond t (negsuc (suc b - suc a)) (pos (a - suc b))) (pos 2)) < 2147483648
    go true e = omega (arith, mag_minus (suc (suc b - suc a) / 2))
    go false e = omega arith

pub half_sum_range : (a b : ℤ) → mag a < 2 ^ 31 → mag b < 2 ^ 31 → mag (half (a +ℤ b)) < 2 ^ 31
unfolding half
half_sum_range (pos a) (pos b) f g = omega arith
half_sum_range (pos a) (negsuc b) f g = half_sub a b f g
half_sum_range (negsuc a) (pos b) f g = half_sub b a g f
half_sum_range (negsuc a) (negsuc b) f g = omega (arith, mag_minus (suc (suc (a + b)) / 2))
