-- Signed numbers as the machine has them.
-- Assumes nothing.
use mathlib.Core.Path.{◌≡◌, ◌∙◌, refl}
use Prim.Native.Nat.{◌<◌, ◌^◌, zero-le}
use native.Mathlib.Omega.{arith}
use borrow.Author.Tests.{le-ltb}
use lib.IntN.{ℤ, pos, negsuc}
use lib.Signed.{lt_z, mag}
use mir.Syntax.{w32, w64}
use mir.Val.{SFits, to_z, of_z}
use mir.ValLaws.{to_z-of_z}
use Rattle.writing.specs.Digits.{is_negative}

-- a number as a call hands it on: its bits, read back
abbrev pub seen : ℤ → ℤ
seen z = to_z w32 (of_z w32 z)

pub handed : (z : ℤ) → SFits w32 z → seen z ≡ z
handed z f = to_z-of_z w32 z f

-- the same of 64 bits
abbrev pub seen_wide : ℤ → ℤ
seen_wide z = to_z w64 (of_z w64 z)

pub handed_wide : (z : ℤ) → SFits w64 z → seen_wide z ≡ z
handed_wide z f = to_z-of_z w64 z f

-- what fits 32 bits fits 64
pub wide : (z : ℤ) → SFits w32 z → SFits w64 z
wide z f = let h : mag z < 2 ^ 31 = f.sfits in record { sfits = omega arith }

pub wide_seen : (z : ℤ) → SFits w32 z → SFits w64 (seen z)
wide_seen z f = rw (handed z f) (wide z f)

pub handed_both : (z : ℤ) → SFits w32 z → seen_wide (seen z) ≡ z
handed_both z f = handed_wide (seen z) (wide_seen z f) ∙ handed z f

-- ---- signs
below_zero : (z : ℤ) → lt_z z (pos 0) ≡ is_negative z
below_zero (pos n) = le-ltb n 0 zero-le
below_zero (negsuc n) = refl

pub sign : (z : ℤ) → SFits w64 z → lt_z (seen_wide z) (pos 0) ≡ is_negative z
sign z f = rw (handed_wide z f) (below_zero z)
