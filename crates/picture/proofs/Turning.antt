-- The laws of turned numbers: how far they reach, and that the machine's are these.
-- Assumes nothing.
use mathlib.Core.Bool.{Bool, true, false, cond}
use mathlib.Core.Path.{◌≡◌, ◌∙◌, refl, sym}
use Prim.Native.Nat.{ℕ, zero, suc, ◌+◌, ◌-◌, ◌≤◌, ◌<◌, ◌^◌}
use native.Mathlib.Omega.{arith}
use borrow.Author.Tests.{ltb-true}
use lib.Dec.{ltb}
use lib.IntN.{ℤ, pos, negsuc, nat_abs, sub_ℕ, ◌+ℤ◌}
use lib.Signed.{lt_z}
use mir.Syntax.{w32, w64}
use mir.Val.{SFits, to_z}
use mir.ValLaws.{to_z_pos}
use Rattle.meaning.specs.Picture.{side_start, absolute}
use Rattle.writing.proofs.Signs.{seen, handed, seen_wide, handed_wide, handed_both}
use Rattle.picture.specs.Parts.{shown_start, shown_size}

-- ---- how far they reach
near : (z : ℤ) → SFits w32 z → nat_abs z ≤ 2 ^ 31
near (pos n) f = let h : n < 2 ^ 31 = f.sfits in omega arith
near (negsuc n) f = let h : n < 2 ^ 31 = f.sfits in omega arith

-- a difference of two numbers is no larger than both together
sub_near : (a b : ℕ) → nat_abs (sub_ℕ a b) ≤ a + b
sub_near a b = go (ltb a b) refl
  where
    go : (t : Bool) → ltb a b ≡ t → nat_abs (cond t (negsuc (b - suc a)) (pos (a - b))) ≤ a + b
    go true e = let h = ltb-true a b e in omega arith
    go false e = omega arith

side_near : (x w : ℤ) → SFits w32 x → SFits w32 w → nat_abs (side_start x w) ≤ 2 ^ 32
unfolding side_start
side_near x (pos w) fx fw = omega (arith, near x fx)
side_near (pos x) (negsuc w) fx fw = omega (arith, near (pos x) fx, near (negsuc w) fw, sub_near x (suc w))
side_near (negsuc x) (negsuc w) fx fw = omega (arith, near (negsuc x) fx, near (negsuc w) fw)

absolute_near : (z : ℤ) → SFits w32 z → nat_abs (absolute z) ≤ 2 ^ 32
unfolding absolute
absolute_near z f = omega (arith, near z f)

pub start_near : (k : ℕ) (x w : ℤ) → SFits w32 x → SFits w32 w → nat_abs (shown_start k x w) ≤ 2 ^ 32
unfolding shown_start
start_near zero x w fx fw = omega (arith, near x fx)
start_near (suc zero) x w fx fw = omega (arith, near x fx)
start_near (suc (suc zero)) x w fx fw = side_near x w fx fw
start_near (suc (suc (suc k))) x w fx fw = omega (arith, near x fx)

pub size_near : (k : ℕ) (z : ℤ) → SFits w32 z → nat_abs (shown_size k z) ≤ 2 ^ 32
unfolding shown_size
size_near zero z f = omega (arith, near z f)
size_near (suc k) z f = absolute_near z f

-- what reaches so far fits 64 bits
near_fits : (z : ℤ) → nat_abs z ≤ 2 ^ 32 → SFits w64 z
near_fits (pos n) h = record { sfits = omega arith }
near_fits (negsuc n) h = record { sfits = omega arith }

-- ---- the machine's sums
start_sum : (x w : ℤ) → lt_z w (pos 0) ≡ true → side_start x w ≡ x +ℤ w
unfolding side_start
start_sum x (pos n) e = let h = ltb-true n 0 e in absurd (omega arith)
start_sum x (negsuc n) e = refl

start_same : (x w : ℤ) → lt_z w (pos 0) ≡ false → side_start x w ≡ x
unfolding side_start
start_same x (pos n) e = refl
start_same x (negsuc n) e = let z : true ≡ false = e in let y : ◌≡◌ {A = ℕ} 0 1 = cc in absurd (omega arith)

-- numbers of 32 bits, and what is made of them with 64
module _ (x w : ℤ) (fx : SFits w32 x) (fw : SFits w32 w) where
  start_back : lt_z (seen w) (pos 0) ≡ true → seen_wide (seen x) +ℤ seen_wide (seen w) ≡ side_start x w
  start_back e = rw (handed_both x fx, handed_both w fw) (sym (start_sum x w (rw (handed w fw) at e)))

  pub start_fits : lt_z (seen w) (pos 0) ≡ true → SFits w64 (seen_wide (seen x) +ℤ seen_wide (seen w))
  start_fits e = rw (start_back e) (near_fits (side_start x w) (side_near x w fx fw))

  pub start_is : lt_z (seen w) (pos 0) ≡ true → seen_wide (seen_wide (seen x) +ℤ seen_wide (seen w)) ≡ side_start x w
  start_is e = handed_wide (seen_wide (seen x) +ℤ seen_wide (seen w)) (start_fits e) ∙ start_back e

  pub start_kept : lt_z (seen w) (pos 0) ≡ false → seen_wide (seen x) ≡ side_start x w
  start_kept e = handed_both x fx ∙ sym (start_same x w (rw (handed w fw) at e))

-- ---- by the kind
place_same : (k : ℕ) (x w : ℤ) → (k ≡ 2 → ⊥) → shown_start k x w ≡ x
unfolding shown_start
place_same zero x w n = refl
place_same (suc zero) x w n = refl
place_same (suc (suc zero)) x w n = absurd (n refl)
place_same (suc (suc (suc k))) x w n = refl

pub shows_side : (k : ℕ) (x w : ℤ) {r : ℤ} → SFits w32 x → SFits w32 w → k ≡ 2 → r ≡ side_start (seen x) (seen w)
    → seen_wide r ≡ shown_start k x w
unfolding shown_start
shows_side k x w fx fw e p =
    rw (e, p, handed x fx, handed w fw) (handed_wide (side_start x w) (near_fits (side_start x w) (side_near x w fx fw)))

pub shows_place : (k : ℕ) (x w : ℤ) → SFits w32 x → (k ≡ 2 → ⊥) → seen_wide (seen x) ≡ shown_start k x w
shows_place k x w f n = handed_both x f ∙ sym (place_same k x w n)

pub shows_number : (k : ℕ) (z : ℤ) → SFits w32 z → k ≡ 0 → seen_wide (seen z) ≡ shown_size k z
unfolding shown_size
shows_number k z f e = rw e (handed_both z f)

pub shows_size : (k : ℕ) (z : ℤ) {n : ℕ} → SFits w32 z → (k ≡ 0 → ⊥) → n ≡ nat_abs (seen z) → to_z w64 n ≡ shown_size k z
unfolding shown_size absolute
shows_size zero z f n p = absurd (n refl)
shows_size (suc k) z f n p = rw (p, handed z f) (to_z_pos w64 (nat_abs z) (omega (arith, near z f)))
