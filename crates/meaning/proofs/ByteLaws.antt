-- Laws of the classes of bytes, from tests computed at all 256 of them.
use Prim.Native.Nat.{ℕ, zero, suc, ◌<◌}
use mathlib.Core.Path.{◌≡◌, refl}
use mathlib.Core.Bool.{Bool, true, false, not, ◌&&◌, ◌||◌, beq, and-eq-true_iff}
use native.Mathlib.Omega.{arith}
use lib.Dec.{ltb, eqb}
use borrow.Author.Tests.{eqb-true, eqb-false, lt-ltb}
use Rattle.meaning.specs.Basics.{stands_in}
use Rattle.meaning.specs.Byte.{is_space, is_letter, is_digit, is_name_part, is_quote, is_sign, class_of}

-- ---- a test at all numbers below a bound
all_below : ℕ → (ℕ → Bool) → Bool
all_below zero p = true
all_below (suc n) p = p n && all_below n p

at : (n : ℕ) (p : ℕ → Bool) → all_below n p ≡ true → (b : ℕ) → b < n → p b ≡ true
unfolding all_below
at zero p e b h = absurd (omega arith)
at (suc n) p e b h =
    let parts = (and-eq-true_iff (p n) (all_below n p)).0 e in
    go (eqb b n) refl parts.0 (at n p parts.1 b)
  where
    go : (t : Bool) → eqb b n ≡ t → p n ≡ true → (b < n → p b ≡ true) → p b ≡ true
    go true k here below = rw (eqb-true b n k) here
    go false k here below = let d = eqb-false b n k in below (omega arith)

-- ---- the rule
-- the class tells each of the five kinds of byte, so no byte is of two kinds; above 127 there is none
pub record Told (b : ℕ) : Type 0 where
  pub space : is_space b ≡ eqb (class_of b) 1
  pub letter : is_letter b ≡ eqb (class_of b) 2
  pub digit : is_digit b ≡ eqb (class_of b) 3
  pub quote : is_quote b ≡ eqb (class_of b) 4
  pub name_part : is_name_part b ≡ eqb (class_of b) 2 || eqb (class_of b) 3
  pub sign : is_sign b ≡ eqb (class_of b) 5
  pub none : 127 < b → class_of b ≡ 0

same : (s t : Bool) → beq s t ≡ true → s ≡ t
same true true e = refl
same true false e = cc
same false true e = cc
same false false e = refl

agrees : (ℕ → Bool) → ℕ → ℕ → Bool
agrees test k b = beq (test b) (eqb (class_of b) k)

abbrev Agree : (ℕ → Bool) → ℕ → Type 0
Agree test k = all_below 256 (agrees test k) ≡ true

agreed : (test : ℕ → Bool) (k : ℕ) → Agree test k → (b : ℕ) → b < 256 → test b ≡ eqb (class_of b) k
unfolding agrees
agreed test k e b h = same (test b) (eqb (class_of b) k) (at 256 (agrees test k) e b h)

low_or_none : ℕ → Bool
low_or_none b = not (ltb 127 b) || eqb (class_of b) 0

none_above : (b : ℕ) → low_or_none b ≡ true → 127 < b → class_of b ≡ 0
unfolding low_or_none
none_above b e h =
    let k : not (ltb 127 b) || eqb (class_of b) 0 ≡ true = e in
    eqb-true (class_of b) 0 (rw (lt-ltb 127 b h) at k)

-- the tests, computed
computed : Agree is_space 1 × Agree is_letter 2 × Agree is_digit 3 × Agree is_quote 4 × Agree is_sign 5 × (all_below 256 low_or_none ≡ true)
unfolding all_below agrees low_or_none is_space is_letter is_digit is_quote is_sign stands_in class_of
computed = (refl, refl, refl, refl, refl, refl)

pub class_tells : (b : ℕ) → b < 256 → Told b
unfolding is_name_part
class_tells b h = record {
  space = agreed is_space 1 computed.0 b h;
  letter = agreed is_letter 2 computed.1 b h;
  digit = agreed is_digit 3 computed.2 b h;
  quote = agreed is_quote 4 computed.3 b h;
  name_part = rw (← agreed is_letter 2 computed.1 b h, ← agreed is_digit 3 computed.2 b h);
  sign = agreed is_sign 5 computed.4 b h;
  none = none_above b (at 256 low_or_none computed.5 b h);
}
