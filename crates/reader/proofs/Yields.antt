-- What holds of all that a reading can yield.
use Prim.Native.Nat.{ℕ}
use native.Mathlib.Omega.{arith}
use mathlib.Core.Path.{◌≡◌, refl, subst₂}
use mathlib.Core.Bool.{Bool, true, false}
use Rattle.meaning.specs.Basics.{if◌then◌otherwise◌}
use Rattle.meaning.specs.Grammar.{Got, good, wrong, after, Inside, no_level, level, opening}

-- if something was read, then P holds of it and of the index of the token behind
pub data Yields {A : Type 0} (P : A → ℕ → Type 0) : Got A → Type 0 where
  yields : {a : A} {j : ℕ} → P a j → Yields P (good a j)
  fails : {n p : ℕ} → Yields P (wrong n p)

pub yielded : {A : Type 0} {P : A → ℕ → Type 0} {x : Got A} {a : A} {j : ℕ} → Yields P x → x ≡ good a j → P a j
yielded {A} {P} {x} {a} {j} (yields {a = b} {j = m} p) e =
    let p₁ : b ≡ a = cc in
    let p₂ : m ≡ j = cc in
    subst₂ P p₁ p₂ p
yielded fails e =
    let z : ◌≡◌ {A = ℕ} 0 1 = cc in
    absurd (omega arith)

-- a level's inside, if one is left
pub data Inner {I : Type 0} (R : I → Type 0) : Inside I → Type 0 where
  closed : Inner R no_level
  opened : {a : I} → R a → Inner R (level a)

module _ {A : Type 0} {P : A → ℕ → Type 0} where
  pub yields_if : (c : Bool) (t u : Unit {0} → Got A) → (c ≡ true → Yields P (t tt)) → (c ≡ false → Yields P (u tt))
      → Yields P (if c then t otherwise u)
  unfolding if◌then◌otherwise◌
  yields_if true t u p q = p refl
  yields_if false t u p q = q refl

  pub yields_after : {C : Type 0} {Q : C → ℕ → Type 0} {x : Got C} (k : C → ℕ → Got A)
      → Yields Q x
      → ((c : C) (j : ℕ) → Q c j → Yields P (k c j))
      → Yields P (after x k)
  unfolding after
  yields_after k (yields q) h = h _ _ q
  yields_after k fails h = fails

  pub yields_opening : {I : Type 0} {R : I → Type 0} {x : Inside I} (p : ℕ) (k : I → Got A)
      → Inner R x
      → ((a : I) → R a → Yields P (k a))
      → Yields P (opening x p k)
  unfolding opening
  yields_opening p k closed h = fails
  yields_opening p k (opened r) h = h _ r
