-- The last index below a bound that meets a test.
-- Assumes nothing.
use Prim.Native.Nat.{ℕ, zero, suc, ◌-◌, ◌≤◌, ◌<◌}
use mathlib.Core.Path.{◌≡◌, ◌∙◌, refl, sym, ap}
use mathlib.Core.Bool.{Bool, true, false, cond}
use native.Mathlib.Omega.{arith}
use Rattle.names.specs.Index.{last}

pub last_here : (f : ℕ → Bool) (i : ℕ) → 0 < i → f (i - 1) ≡ true → last f i ≡ i
unfolding last
last_here f zero h e = absurd (omega arith)
last_here f (suc i) h e = let q : suc i - 1 ≡ i = omega arith in rw (rw q at e)

pub last_below : (f : ℕ → Bool) (i : ℕ) → 0 < i → f (i - 1) ≡ false → last f i ≡ last f (i - 1)
unfolding last
last_below f zero h e = absurd (omega arith)
last_below f (suc i) h e = let q : suc i - 1 ≡ i = omega arith in rw (q, rw q at e)

pub last_none : (f : ℕ → Bool) (i : ℕ) → i ≤ 0 → last f i ≡ 0
unfolding last
last_none f zero h = refl
last_none f (suc i) h = absurd (omega arith)

pub last_le : (f : ℕ → Bool) (n : ℕ) → last f n ≤ n
unfolding last
last_le f zero = omega arith
last_le f (suc n) = go (f n) (last_le f n)
  where
    go : (b : Bool) → last f n ≤ n → cond b (suc n) (last f n) ≤ suc n
    go true h = omega arith
    go false h = omega arith

pub last_meets : (f : ℕ → Bool) (n : ℕ) → 0 < last f n → f (last f n - 1) ≡ true
unfolding last
last_meets f zero h = absurd (omega arith)
last_meets f (suc n) h = go (f n) refl (last_meets f n) h
  where
    go : (b : Bool) → f n ≡ b → (0 < last f n → f (last f n - 1) ≡ true) → 0 < cond b (suc n) (last f n) → f (cond b (suc n) (last f n) - 1) ≡ true
    go true e r l = let q : suc n - 1 ≡ n = omega arith in rw q e
    go false e r l = r l

-- what meets f meets g: the last that meets f is not behind the last that meets g
pub last_skip : (f g : ℕ → Bool) (n : ℕ) → ((i : ℕ) → f i ≡ true → g i ≡ true) → last f n ≡ last f (last g n)
unfolding last
last_skip f g zero h = refl
last_skip f g (suc n) h = go (g n) (f n) refl refl (last_skip f g n h)
  where
    go : (x y : Bool) → g n ≡ x → f n ≡ y → last f n ≡ last f (last g n) → cond (f n) (suc n) (last f n) ≡ last f (cond (g n) (suc n) (last g n))
    go true y e u r = rw e
    go false true e u r = let z : ◌≡◌ {A = Bool} false true = sym e ∙ h n u in let w : ◌≡◌ {A = ℕ} 0 1 = cc in absurd (omega arith)
    go false false e u r = rw (e, u) r

-- a test that only m meets
module _ (f : ℕ → Bool) (m : ℕ) (one : (i : ℕ) → f i ≡ true → i ≡ m) where
  pub only_before : (n : ℕ) → n ≤ m → last f n ≡ 0
  unfolding last
  only_before zero h = refl
  only_before (suc n) h = go (f n) refl (only_before n (omega arith))
    where
      go : (b : Bool) → f n ≡ b → last f n ≡ 0 → cond (f n) (suc n) (last f n) ≡ 0
      go true e r = absurd (omega (arith, one n e))
      go false e r = rw e r

  pub only_behind : (n : ℕ) → f m ≡ true → m < n → last f n ≡ suc m
  unfolding last
  only_behind zero t h = absurd (omega arith)
  only_behind (suc n) t h = go (f n) refl (only_behind n t)
    where
      other : f n ≡ false → m ≡ n → ⊥
      other e q = let z : ◌≡◌ {A = Bool} true false = sym t ∙ ap f q ∙ e in let w : ◌≡◌ {A = ℕ} 0 1 = cc in omega arith

      go : (b : Bool) → f n ≡ b → (m < n → last f n ≡ suc m) → cond (f n) (suc n) (last f n) ≡ suc m
      go true e r = rw e (ap suc (one n e))
      go false e r = rw e (r (let q = other e in omega arith))
