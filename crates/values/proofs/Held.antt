-- Integers as locals hold them, and words by their kinds.
use Prim.Native.Nat.{ℕ, ◌^◌, ◌<◌}
use mathlib.Core.Path.{◌≡◌, ◌∙◌, refl, sym}
use mathlib.Core.Bool.{Bool, true, false}
use Rattle.meaning.specs.Basics.{if◌then◌otherwise◌}
use Rattle.machine.specs.Act.{Raw, Out, Act}
use borrow.Author.Tests.{eqb-true, eqb-false}
use lib.Dec.{eqb}
use lib.IntN.{ℤ}
use lib.Signed.{mag}
use mir.Syntax.{w32}
use mir.Val.{to_z, of_z, SFits}
use mir.Facts.{to_z-of_z}

-- a signed local holds bits, and its value is read back from them
abbrev pub held : ℤ → ℤ
held z = to_z w32 (of_z w32 z)

-- what a call gave has 32 bits
pub back : {r : ℤ} → mag r < 2 ^ 31 → held r ≡ r
back h = to_z-of_z {w = w32} (record { sfits = h })

pub back_to : {r z : ℤ} → mag r < 2 ^ 31 → r ≡ z → held r ≡ z
back_to h e = back h ∙ e

pub back_by : {x y r : ℤ} (f : ℤ → ℤ → ℤ) → SFits w32 x → SFits w32 y → mag r < 2 ^ 31 → r ≡ f (held x) (held y) → held r ≡ f x y
back_by f i j h e = back h ∙ e ∙ rw (to_z-of_z i, to_z-of_z j)

pub test_is : {y : ℤ} {b c : Bool} (f : ℤ → Bool) → SFits w32 y → b ≡ f (held y) → b ≡ c → f y ≡ c
test_is f j z e = rw (← to_z-of_z j) (sym z ∙ e)

-- whichever way a choice goes
pub either : {A : Type 0} (b : Bool) (f g : Act A) (r : Raw) {o : Out A} → f r ≡ o → g r ≡ o → (if b then (λ _. f) otherwise λ _. g) r ≡ o
unfolding if◌then◌otherwise◌
either true f g r h k = h
either false f g r h k = k

-- the second way
pub past : {A : Type 0} {b : Bool} → b ≡ false → (f g : Act A) (r : Raw) {o : Out A} → g r ≡ o → (if b then (λ _. f) otherwise λ _. g) r ≡ o
unfolding if◌then◌otherwise◌
past e f g r h = rw e h

-- a number is this one, or it is another
pub by_number : (P : ℕ → Type 0) (n k : ℕ) → P k → ((n ≡ k → ⊥) → P n) → P n
by_number P n k h o = go (eqb n k) refl
  where
    go : (b : Bool) → eqb n k ≡ b → P n
    go true e = rw (eqb-true n k e) h
    go false e = o (eqb-false n k e)
