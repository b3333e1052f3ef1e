-- What holds of all that a reading can yield.
use Prim.Native.Nat.{ℕ, suc, ◌+◌}
use native.Mathlib.Omega.{arith}
use mathlib.Core.Path.{◌≡◌, refl, subst₂}
use mathlib.Core.Bool.{Bool, true, false}
use mathlib.Core.List.{List}
use borrow.Author.Tests.{eqb-true}
use Rattle.meaning.specs.Basics.{if◌then◌otherwise◌}
use Rattle.meaning.specs.Token.{Token}
use Rattle.meaning.specs.Grammar.{Got, good, wrong, after, expect, is, kind_at, Inside, no_level, level, opening}

-- if something was read, then P holds of it and of the index of the token behind
pub data Yields {A : Type 0} (P : A → ℕ → Type 0) : Got A → Type 0 where
  yields : {a : A} {j : ℕ} → P a j → Yields P (good a j)
  fails : {n p : ℕ} → Yields P (wrong n p)

-- what was read
pub yielded : {A : Type 0} {P : A → ℕ → Type 0} {x : Got A} {a : A} {j : ℕ} → Yields P x → x ≡ good a j → P a j
yielded {A} {P} {x} {a} {j} (yields {a = b} {j = m} p) e =
    let p₁ : b ≡ a = cc in
    let p₂ : m ≡ j = cc in
    subst₂ P p₁ p₂ p
yielded fails e =
    let z : ◌≡◌ {A = ℕ} 0 1 = cc in
    absurd (omega arith)

-- a level's inside, if one is left, and what holds of it
pub data Inner {I : Type 0} (R : ℕ → I → Type 0) : ℕ → Inside I → Type 0 where
  closed : {left : ℕ} → Inner R left no_level
  opened : {left : ℕ} {a : I} → R left a → Inner R (suc left) (level a)

module _ {A : Type 0} {P : A → ℕ → Type 0} where
  -- a choice
  pub yields_if : (c : Bool) (t u : Unit {0} → Got A) → (c ≡ true → Yields P (t tt)) → (c ≡ false → Yields P (u tt)) → Yields P (if c then t otherwise u)
  unfolding if◌then◌otherwise◌
  yields_if true t u p q = p refl
  yields_if false t u p q = q refl

  -- one reading after another
  pub yields_after : {C : Type 0} {Q : C → ℕ → Type 0} {x : Got C} (k : C → ℕ → Got A) → Yields Q x → ((c : C) (j : ℕ) → Q c j → Yields P (k c j)) →
      Yields P (after x k)
  unfolding after
  yields_after k (yields q) h = h _ _ q
  yields_after k fails h = fails

  -- a level that is opened
  pub yields_opening : {I : Type 0} {R : ℕ → I → Type 0} {left : ℕ} {x : Inside I} (p : ℕ) (k : I → Got A) → Inner R left x →
      ((l : ℕ) (a : I) → left ≡ suc l → R l a → Yields P (k a)) → Yields P (opening x p k)
  unfolding opening
  yields_opening p k closed h = fails
  yields_opening p k (opened r) h = h _ _ refl r

  -- a token that has to follow
  pub yields_expect : (k : ℕ) (ts : List Token) (j : ℕ) (a : A) → (kind_at ts j ≡ k → P a (j + 1)) → Yields P (expect k ts j a)
  unfolding expect
  yields_expect k ts j a h = yields_if (is k ts j) _ _ (λ e. yields (h (eqb-true (kind_at ts j) k e))) (λ _. fails)
