-- Figures moved and scaled.
use Prim.Native.Nat.{ℕ, ◌^◌, ◌<◌}
use mathlib.Core.Path.{◌≡◌, ◌∙◌, refl}
use mathlib.Core.Bool.{Bool, true, false, cond}
use native.Mathlib.Omega.{arith}
use borrow.Author.Tests.{ne_eqb}
use lib.IntN.{ℤ}
use lib.Signed.{mag}
use mir.Syntax.{w32}
use mir.Val.{SFits}
use mir.Facts.{to_z-of_z}
use Rattle.std.specs.Prelude.{Ok, Err}
use Rattle.machine.specs.declared.Fault.TheVariants.{Misuse, DivisionByZero}
use Rattle.meaning.specs.Basics.{if◌then◌otherwise◌}
use Rattle.meaning.specs.Integer.{sum, difference, product, quotient, is_zero}
use Rattle.machine.specs.declared.Figure.{Figure}
use Rattle.machine.specs.Operate.{moved, kept, plus_x, plus_y, minus_x, minus_y, scaled, scaled_up, scaled_down}
use Rattle.figures.specs.Changes.{placed, renumbered, refusal, unless, changed}
use Rattle.values.proofs.Held.{held, back, back_by, test_is}

-- ---- points in other places, and other numbers
module _ (f : Figure) {x y : ℤ} (z w : ℤ) (i : SFits w32 x) (j : SFits w32 y) where
  pub line_placed : {r : Figure} → SFits w32 z → SFits w32 w → f.kind ≡ 0 → r ≡ renumbered f (held x) (held y) (held z) (held w) → r ≡ placed f x y z w
  unfolding placed renumbered
  line_placed k l e h = h ∙ rw (to_z-of_z i, to_z-of_z j, to_z-of_z k, to_z-of_z l, e)

  pub other_placed : mag f.c < 2 ^ 31 → mag f.d < 2 ^ 31 → (f.kind ≡ 0 → ⊥)
      → ◌≡◌ {A = Figure} (record { kind = f.kind; a = held x; b = held y; c = held f.c; d = held f.d; text = f.text }) (placed f x y z w)
  unfolding placed
  other_placed k l e = rw (to_z-of_z i, to_z-of_z j, back {r = f.c} k, back {r = f.d} l, ne_eqb _ _ e)

pub other_numbers : (f : Figure) {x y z w : ℤ} → SFits w32 x → SFits w32 y → SFits w32 z → SFits w32 w
    → ◌≡◌ {A = Figure} (record { kind = f.kind; a = held x; b = held y; c = held z; d = held w; text = f.text }) (renumbered f x y z w)
unfolding renumbered
other_numbers f i j k l = rw (to_z-of_z i, to_z-of_z j, to_z-of_z k, to_z-of_z l)

module _ (op : ℤ → ℤ → ℤ) (f : Figure) {n : ℤ} (j : SFits w32 n) {r : Figure} (ka : mag f.a < 2 ^ 31) (kb : mag f.b < 2 ^ 31) (kc : mag f.c < 2 ^ 31)
    (kd : mag f.d < 2 ^ 31) where
  moves_y : {y w : ℤ} → r ≡ placed f (held f.a) (held y) (held f.c) (held w) → y ≡ op (held f.b) (held n) → mag y < 2 ^ 31
      → w ≡ op (held f.d) (held n) → mag w < 2 ^ 31 → r ≡ moved kept (λ y. op y n) f
  unfolding moved placed
  moves_y t e h q k = t ∙ rw (back {r = f.a} ka, back {r = f.c} kc, back_by {x = f.b} op (record { sfits = kb }) j h e, back_by {x = f.d} op (record { sfits = kd }) j k q)

  moves_x : {x z : ℤ} → r ≡ placed f (held x) (held f.b) (held z) (held f.d) → x ≡ op (held f.a) (held n) → mag x < 2 ^ 31
      → z ≡ op (held f.c) (held n) → mag z < 2 ^ 31 → r ≡ moved (λ x. op x n) kept f
  unfolding moved placed
  moves_x t e h q k = t ∙ rw (back {r = f.b} kb, back {r = f.d} kd, back_by {x = f.a} op (record { sfits = ka }) j h e, back_by {x = f.c} op (record { sfits = kc }) j k q)

  scales : {x y z w : ℤ} → r ≡ renumbered f (held x) (held y) (held z) (held w) → x ≡ op (held f.a) (held n) → mag x < 2 ^ 31 → y ≡ op (held f.b) (held n)
      → mag y < 2 ^ 31 → z ≡ op (held f.c) (held n) → mag z < 2 ^ 31 → w ≡ op (held f.d) (held n) → mag w < 2 ^ 31
      → r ≡ scaled (λ z. op z n) f
  unfolding scaled renumbered
  scales t p h q i s k u l =
      t ∙ rw (
        back_by {x = f.a} op (record { sfits = ka }) j h p,
        back_by {x = f.b} op (record { sfits = kb }) j i q,
        back_by {x = f.c} op (record { sfits = kc }) j k s,
        back_by {x = f.d} op (record { sfits = kd }) j l u,
      )

module _ (f : Figure) {n : ℤ} (j : SFits w32 n) {r : Figure} (ka : mag f.a < 2 ^ 31) (kb : mag f.b < 2 ^ 31) (kc : mag f.c < 2 ^ 31) (kd : mag f.d < 2 ^ 31) where
  pub plus_y_is : {y w : ℤ} → r ≡ placed f (held f.a) (held y) (held f.c) (held w) → y ≡ sum (held f.b) (held n) → mag y < 2 ^ 31
      → w ≡ sum (held f.d) (held n) → mag w < 2 ^ 31 → r ≡ plus_y f n
  unfolding plus_y
  plus_y_is t e h q k = moves_y sum f j ka kb kc kd t e h q k

  pub minus_y_is : {y w : ℤ} → r ≡ placed f (held f.a) (held y) (held f.c) (held w) → y ≡ difference (held f.b) (held n) → mag y < 2 ^ 31
      → w ≡ difference (held f.d) (held n) → mag w < 2 ^ 31 → r ≡ minus_y f n
  unfolding minus_y
  minus_y_is t e h q k = moves_y difference f j ka kb kc kd t e h q k

  pub plus_x_is : {x z : ℤ} → r ≡ placed f (held x) (held f.b) (held z) (held f.d) → x ≡ sum (held f.a) (held n) → mag x < 2 ^ 31
      → z ≡ sum (held f.c) (held n) → mag z < 2 ^ 31 → r ≡ plus_x f n
  unfolding plus_x
  plus_x_is t e h q k = moves_x sum f j ka kb kc kd t e h q k

  pub minus_x_is : {x z : ℤ} → r ≡ placed f (held x) (held f.b) (held z) (held f.d) → x ≡ difference (held f.a) (held n) → mag x < 2 ^ 31
      → z ≡ difference (held f.c) (held n) → mag z < 2 ^ 31 → r ≡ minus_x f n
  unfolding minus_x
  minus_x_is t e h q k = moves_x difference f j ka kb kc kd t e h q k

  pub scaled_up_is : {x y z w : ℤ} → r ≡ renumbered f (held x) (held y) (held z) (held w) → x ≡ product (held f.a) (held n) → mag x < 2 ^ 31
      → y ≡ product (held f.b) (held n) → mag y < 2 ^ 31 → z ≡ product (held f.c) (held n) → mag z < 2 ^ 31 → w ≡ product (held f.d) (held n) → mag w < 2 ^ 31
      → r ≡ scaled_up f n
  unfolding scaled_up
  scaled_up_is t p h q i s k u l = scales product f j ka kb kc kd t p h q i s k u l

  pub scaled_down_is : {x y z w : ℤ} → r ≡ renumbered f (held x) (held y) (held z) (held w) → x ≡ quotient (held f.a) (held n) → mag x < 2 ^ 31
      → y ≡ quotient (held f.b) (held n) → mag y < 2 ^ 31 → z ≡ quotient (held f.c) (held n) → mag z < 2 ^ 31 → w ≡ quotient (held f.d) (held n) → mag w < 2 ^ 31
      → r ≡ scaled_down f n
  unfolding scaled_down
  scaled_down_is t p h q i s k u l = scales quotient f j ka kb kc kd t p h q i s k u l

-- ---- by tag
module _ {tag : ℕ} (n : ℤ) (p : ℕ) where
  pub makes_17 : tag ≡ 17 → Ok tt ≡ unless (refusal tag n) p
  unfolding refusal unless if◌then◌otherwise◌
  makes_17 t = rw t

  pub makes_18 : tag ≡ 18 → Ok tt ≡ unless (refusal tag n) p
  unfolding refusal unless if◌then◌otherwise◌
  makes_18 t = rw t

  pub makes_19 : tag ≡ 19 → Ok tt ≡ unless (refusal tag n) p
  unfolding refusal unless if◌then◌otherwise◌
  makes_19 t = rw t

  pub makes_20 : {b : Bool} → tag ≡ 20 → SFits w32 n → b ≡ is_zero (held n) → b ≡ false → Ok tt ≡ unless (refusal tag n) p
  unfolding refusal unless if◌then◌otherwise◌
  makes_20 t j z e = rw (t, test_is is_zero j z e)

  pub zero_20 : {b : Bool} → tag ≡ 20 → SFits w32 n → b ≡ is_zero (held n) → b ≡ true → Err (DivisionByZero p) ≡ unless (refusal tag n) p
  unfolding refusal unless if◌then◌otherwise◌
  zero_20 t j z e = rw (t, test_is is_zero j z e)

  pub makes_22 : tag ≡ 22 → Ok tt ≡ unless (refusal tag n) p
  unfolding refusal unless if◌then◌otherwise◌
  makes_22 t = rw t

  pub makes_23 : tag ≡ 23 → Ok tt ≡ unless (refusal tag n) p
  unfolding refusal unless if◌then◌otherwise◌
  makes_23 t = rw t

  pub makes_none : (tag ≡ 17 → ⊥) → (tag ≡ 18 → ⊥) → (tag ≡ 19 → ⊥) → (tag ≡ 20 → ⊥) → (tag ≡ 22 → ⊥) → (tag ≡ 23 → ⊥) → Err (Misuse p) ≡ unless (refusal tag n) p
  unfolding refusal unless if◌then◌otherwise◌
  makes_none a b c d e f = rw (ne_eqb _ _ a, ne_eqb _ _ b, ne_eqb _ _ c, ne_eqb _ _ d, ne_eqb _ _ e, ne_eqb _ _ f)

module _ {tag : ℕ} (n : ℤ) where
  -- a figure is scaled down by no 0
  pub no_zero : tag ≡ 20 → SFits w32 n → refusal tag n ≡ 0 → is_zero (held n) ≡ false
  unfolding refusal if◌then◌otherwise◌
  no_zero t j e = rw (to_z-of_z j) (go (is_zero n) (rw t at e))
    where
      go : (b : Bool) → ◌≡◌ {A = ℕ} (cond b 70 0) 0 → b ≡ false
      go true e = absurd (omega arith)
      go false e = refl

  module _ (f : Figure) {r : Figure} (j : SFits w32 n) where
    pub changes_17 : tag ≡ 17 → r ≡ plus_y f (held n) → r ≡ changed tag f n
    unfolding changed if◌then◌otherwise◌
    changes_17 t e = rw (t, e, to_z-of_z j)

    pub changes_18 : tag ≡ 18 → r ≡ minus_y f (held n) → r ≡ changed tag f n
    unfolding changed if◌then◌otherwise◌
    changes_18 t e = rw (t, e, to_z-of_z j)

    pub changes_19 : tag ≡ 19 → r ≡ scaled_up f (held n) → r ≡ changed tag f n
    unfolding changed if◌then◌otherwise◌
    changes_19 t e = rw (t, e, to_z-of_z j)

    pub changes_20 : tag ≡ 20 → r ≡ scaled_down f (held n) → r ≡ changed tag f n
    unfolding changed if◌then◌otherwise◌
    changes_20 t e = rw (t, e, to_z-of_z j)

    pub changes_22 : tag ≡ 22 → r ≡ plus_x f (held n) → r ≡ changed tag f n
    unfolding changed if◌then◌otherwise◌
    changes_22 t e = rw (t, e, to_z-of_z j)

    pub changes_23 : (tag ≡ 17 → ⊥) → (tag ≡ 18 → ⊥) → (tag ≡ 19 → ⊥) → (tag ≡ 20 → ⊥) → (tag ≡ 22 → ⊥) → r ≡ minus_x f (held n) → r ≡ changed tag f n
    unfolding changed if◌then◌otherwise◌
    changes_23 a b c d g e = rw (ne_eqb _ _ a, ne_eqb _ _ b, ne_eqb _ _ c, ne_eqb _ _ d, ne_eqb _ _ g, e, to_z-of_z j)
