-- What asks a value's kind, by the value's word.
use Prim.Native.Nat.{ℕ, ◌%◌}
use native.Mathlib.Omega.{arith}
use mathlib.Core.Path.{◌≡◌, refl}
use mathlib.Core.Bool.{Bool, true, false, cond, ◌&&◌}
use borrow.Author.Tests.{eqb-true, eqb-false, ne_eqb}
use lib.Dec.{eqb}
use lib.IntN.{ℤ}
use mir.Syntax.{w32}
use mir.Val.{to_z}
use Rattle.machine.specs.Words.{kind_in, number_in, handle_in, unpacked}
use Rattle.values.proofs.Laws.{unpacked_integer, unpacked_text, unpacked_shape, by_kind}
use Rattle.machine.specs.Act.{Raw, stop, Act, fail}
use Rattle.machine.specs.Operate.{with_integer, with_text, with_shape}
use Rattle.operators.specs.Parts.{both_integers, NotBoth}

module _ {A : Type 0} (p a : ℕ) (s : Raw) where
  -- any other kind is 20
  pub no_integer : (k : ℤ → Act A) → (kind_in a ≡ 1 → ⊥) → with_integer p (unpacked a) k s ≡ stop 20 p s
  unfolding with_integer fail
  no_integer k h = by_kind a (λ v. with_integer p v k s ≡ stop 20 p s) (λ e. absurd (h e)) (λ _. refl) (λ _. refl) refl (λ _. refl) (λ _. refl)

  pub no_text : (k : ℕ → Act A) → (kind_in a ≡ 2 → ⊥) → with_text p (unpacked a) k s ≡ stop 20 p s
  unfolding with_text fail
  no_text k h = by_kind a (λ v. with_text p v k s ≡ stop 20 p s) (λ _. refl) (λ e. absurd (h e)) (λ _. refl) refl (λ _. refl) (λ _. refl)

  pub no_shape_lem : (k : ℕ → Act A) → (kind_in a ≡ 6 → ⊥) → with_shape p (unpacked a) k s ≡ stop 20 p s
  unfolding with_shape fail
  no_shape_lem k h = by_kind a (λ v. with_shape p v k s ≡ stop 20 p s) (λ _. refl) (λ _. refl) (λ _. refl) refl (λ _. refl) (λ e. absurd (h e))

  -- with a value of the kind it goes on
  pub integer_or : (k : ℤ → Act A) → with_integer p (unpacked a) k s ≡ cond (eqb (kind_in a) 1) (k (to_z w32 (number_in a)) s) (stop 20 p s)
  unfolding with_integer
  integer_or k = go (eqb (kind_in a) 1) refl
    where
      go : (b : Bool) → eqb (kind_in a) 1 ≡ b → with_integer p (unpacked a) k s ≡ cond b (k (to_z w32 (number_in a)) s) (stop 20 p s)
      go true e = rw (unpacked_integer a (eqb-true _ _ e))
      go false e = no_integer k (eqb-false _ _ e)

  pub text_or : (k : ℕ → Act A) → with_text p (unpacked a) k s ≡ cond (eqb (kind_in a) 2) (k (handle_in a) s) (stop 20 p s)
  unfolding with_text
  text_or k = go (eqb (kind_in a) 2) refl
    where
      go : (b : Bool) → eqb (kind_in a) 2 ≡ b → with_text p (unpacked a) k s ≡ cond b (k (handle_in a) s) (stop 20 p s)
      go true e = rw (unpacked_text a (eqb-true _ _ e))
      go false e = no_text k (eqb-false _ _ e)

  pub shape_or : (k : ℕ → Act A) → with_shape p (unpacked a) k s ≡ cond (eqb (kind_in a) 6) (k (number_in a) s) (stop 20 p s)
  unfolding with_shape
  shape_or k = go (eqb (kind_in a) 6) refl
    where
      go : (b : Bool) → eqb (kind_in a) 6 ≡ b → with_shape p (unpacked a) k s ≡ cond b (k (number_in a) s) (stop 20 p s)
      go true e = rw (unpacked_shape a (eqb-true _ _ e))
      go false e = no_shape_lem k (eqb-false _ _ e)

-- ---- both integers, or not
module _ (a b : ℕ) where
  pub left_apart : (a % 8 ≡ 1 → ⊥) → false ≡ both_integers a b
  unfolding both_integers
  left_apart h = rw (ne_eqb _ _ h)

  pub right_left : a % 8 ≡ 1 → eqb (b % 8) 1 ≡ both_integers a b
  unfolding both_integers
  right_left e = rw e

  pub left_is : both_integers a b ≡ true → kind_in a ≡ 1
  unfolding both_integers
  left_is h = eqb-true _ _ (go (eqb (kind_in a) 1) (eqb (kind_in b) 1) h)
    where
      go : (x y : Bool) → x && y ≡ true → x ≡ true
      go true y h = refl
      go false y h = h

  pub right_is : both_integers a b ≡ true → kind_in b ≡ 1
  unfolding both_integers
  right_is h = eqb-true _ _ (go (eqb (kind_in a) 1) (eqb (kind_in b) 1) h)
    where
      go : (x y : Bool) → x && y ≡ true → y ≡ true
      go true y h = h
      go false y h = let z : ◌≡◌ {A = ℕ} 0 1 = cc in absurd (omega arith)

  pub not_both : both_integers a b ≡ false → NotBoth a b
  unfolding both_integers
  not_both h e f = let x : true ≡ false = rw (e, f) at h in let z : ◌≡◌ {A = ℕ} 0 1 = cc in absurd (omega arith)
