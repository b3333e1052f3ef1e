-- What the calls of each writer of numbers come to together. A call hands a number on as its bits, which `seen_wide` reads back.
-- Assumes nothing.
use mathlib.Core.Bool.{Bool, true, false}
use mathlib.Core.List.{List, [], ◌∷◌, ◌++◌}
use mathlib.Core.Path.{◌≡◌, ◌∙◌, sym}
use Prim.Native.Nat.{ℕ, ◌+◌, ◌^◌, ◌≤◌, ◌<◌}
use native.Mathlib.Omega.{arith}
use lib.IntN.{ℤ, pos, nat_abs}
use lib.ListN.{length}
use lib.Signed.{lt_z}
use mir.Syntax.{w64}
use mir.Val.{SFits}
use Rattle.meaning.specs.Picture.{digits_of, decimal}
use Rattle.writing.specs.Digits.{pair}
use Rattle.writing.specs.Placed.{WroteAt}
use Rattle.writing.proofs.Decimals.{decimal_negative, decimal_positive, decimal_limit}
use Rattle.writing.proofs.Laying.{then}
use Rattle.writing.proofs.Signs.{seen_wide, handed_wide, sign}

-- ---- a number of 64 bits
module _ (z : ℤ) {n : ℕ} {t : Bool} (f : SFits w64 z) (m : n ≡ nat_abs (seen_wide z)) (s : t ≡ lt_z (seen_wide z) (pos 0)) where
  split : t ≡ true → decimal z ≡ (45 ∷ []) ++ digits_of n
  split e = rw (decimal_negative z (sym (s ∙ sign z f) ∙ e), m, handed_wide z f)

  whole : t ≡ false → decimal z ≡ digits_of n
  whole e = rw (decimal_positive z (sym (s ∙ sign z f) ∙ e), m, handed_wide z f)

  pub length_negative : {count : ℕ} → count ≡ length (digits_of n) → t ≡ true → count + 1 ≡ length (decimal z)
  length_negative k e = rw (split e) (omega arith)

  pub length_positive : {count : ℕ} → count ≡ length (digits_of n) → t ≡ false → count ≡ length (decimal z)
  length_positive k e = rw (whole e) k

  pub wrote_negative : t ≡ true → {at next r : ℕ} {d after last : List ℕ} → length d < 2 ^ 64 → WroteAt at (45 ∷ []) d after next
      → WroteAt next (digits_of n) after last r → WroteAt at (decimal z) d last r
  wrote_negative e h p q = rw (split e) (then h p q)

  pub wrote_positive : t ≡ false → {at r : ℕ} {d last : List ℕ} → WroteAt at (digits_of n) d last r → WroteAt at (decimal z) d last r
  wrote_positive e p = rw (whole e) p

-- ---- a number behind a byte string
pub wrote_pair : (z : ℤ) {lead d after last : List ℕ} {at next r : ℕ} → SFits w64 z → length d < 2 ^ 64
    → WroteAt at lead d after next → WroteAt next (decimal (seen_wide z)) after last r → WroteAt at (pair lead z) d last r
wrote_pair z f h p q = then h p (rw (handed_wide z f) at q)

-- ---- two numbers
pub length_pair : (a b : ℤ) {m n : ℕ} → SFits w64 a → SFits w64 b → m ≡ length (decimal (seen_wide a)) → n ≡ length (decimal (seen_wide b))
    → m + n ≡ length (decimal a) + length (decimal b)
length_pair a b fa fb p q = rw (p, q, handed_wide a fa, handed_wide b fb)

pub pair_short : (a b : ℤ) {m n : ℕ} → SFits w64 a → SFits w64 b → m ≡ length (decimal (seen_wide a)) → n ≡ length (decimal (seen_wide b))
    → m + n ≤ 40
pair_short a b fa fb p q = rw (length_pair a b fa fb p q) (omega (arith, decimal_limit a fa, decimal_limit b fb))
