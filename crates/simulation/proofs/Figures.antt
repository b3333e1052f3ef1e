-- Figures: moved, scaled and compared as the meaning does it.
use Prim.Native.Nat.{ℕ, zero, suc, ◌^◌, ◌<◌}
use native.Mathlib.Omega.{arith}
use mathlib.Core.Path.{◌≡◌, refl, ap, ◌∙◌}
use mathlib.Core.Bool.{Bool, true, false, cond}
use mathlib.Core.List.{List}
use lib.Dec.{eqb}
use lib.IntN.{ℤ, pos}
use lib.Signed.{mag}
use Rattle.meaning.specs.Basics.{if◌then◌otherwise◌}
use Rattle.meaning.specs.Integer.{half}
use Rattle.meaning.specs.Figure.{line, ellipse, box, text}
use Rattle.meaning.specs.Figure as Meaning
use Rattle.meaning.proofs.IntegerLaws.{sum_range, half_sum_range}
use Rattle.machine.specs.Texts.{text_of}
use Rattle.machine.specs.declared.Figure.{Figure}
use Rattle.machine.specs.Operate.{moved, scaled}
use Rattle.machine.specs.Arguments.{figure, centre_x, centre_y}
use Rattle.simulation.specs.Meant.{meant_figure}
use Rattle.simulation.specs.Sound.{Held, Proper}

-- ---- the four kinds
pub kinds : {A : Type 0} (k : ℕ) → k < 4 → (k ≡ 0 → A) → (k ≡ 1 → A) → (k ≡ 2 → A) → (k ≡ 3 → A) → A
kinds zero l a b c d = a refl
kinds (suc zero) l a b c d = b refl
kinds (suc (suc zero)) l a b c d = c refl
kinds (suc (suc (suc zero))) l a b c d = d refl
kinds (suc (suc (suc (suc k)))) l a b c d = absurd (omega arith)

module _ (program texts : List ℕ) (f : Figure) where
  pub as_line : f.kind ≡ 0 → meant_figure program texts f ≡ line f.a f.b f.c f.d
  unfolding meant_figure if◌then◌otherwise◌
  as_line e = rw e

  pub as_ellipse : f.kind ≡ 1 → meant_figure program texts f ≡ ellipse f.a f.b f.c f.d
  unfolding meant_figure if◌then◌otherwise◌
  as_ellipse e = rw e

  pub as_box : f.kind ≡ 2 → meant_figure program texts f ≡ box f.a f.b f.c f.d
  unfolding meant_figure if◌then◌otherwise◌
  as_box e = rw e

  pub as_text : f.kind ≡ 3 → meant_figure program texts f ≡ text f.a f.b (text_of program texts f.text)
  unfolding meant_figure if◌then◌otherwise◌
  as_text e = rw e

-- ---- moved
module _ (F G : ℤ → ℤ) (f : Figure) where
  pub moved_meant : (program texts : List ℕ) → f.kind < 4 → meant_figure program texts (moved F G f) ≡ Meaning.moved F G (meant_figure program texts f)
  unfolding moved Meaning.moved
  moved_meant program texts l = kinds f.kind l
      (λ e. as_line program texts (moved F G f) e ∙ rw (as_line program texts f e, e))
      (λ e. as_ellipse program texts (moved F G f) e ∙ rw (as_ellipse program texts f e, e))
      (λ e. as_box program texts (moved F G f) e ∙ rw (as_box program texts f e, e))
      (λ e. as_text program texts (moved F G f) e ∙ rw (as_text program texts f e))

  pub moved_proper : {program : List ℕ} {used : ℕ} → ((z : ℤ) → mag z < 2 ^ 31 → mag (F z) < 2 ^ 31) → ((z : ℤ) → mag z < 2 ^ 31 → mag (G z) < 2 ^ 31)
      → Proper program used f → Proper program used (moved F G f)
  unfolding moved
  moved_proper p q v = record {
    kind = v.kind;
    a = p _ v.a;
    b = q _ v.b;
    c = either (eqb f.kind 0) _ _ (p _ v.c) v.c;
    d = either (eqb f.kind 0) _ _ (q _ v.d) v.d;
    text = v.text;
    plain = v.plain;
    lettered = λ e. rw e (v.lettered e);
  }
    where
      either : (b : Bool) (x y : ℤ) → mag x < 2 ^ 31 → mag y < 2 ^ 31 → mag (cond b x y) < 2 ^ 31
      either true x y p q = p
      either false x y p q = q

-- ---- scaled
module _ (F : ℤ → ℤ) (f : Figure) where
  pub scaled_meant : (program texts : List ℕ) → f.kind < 4 → meant_figure program texts (scaled F f) ≡ Meaning.scaled F (meant_figure program texts f)
  unfolding scaled Meaning.scaled
  scaled_meant program texts l = kinds f.kind l
      (λ e. as_line program texts (scaled F f) e ∙ rw (as_line program texts f e))
      (λ e. as_ellipse program texts (scaled F f) e ∙ rw (as_ellipse program texts f e))
      (λ e. as_box program texts (scaled F f) e ∙ rw (as_box program texts f e))
      (λ e. as_text program texts (scaled F f) e ∙ rw (as_text program texts f e))

  -- a text's last two numbers stay 0
  pub scaled_proper : {program : List ℕ} {used : ℕ} → ((z : ℤ) → mag (F z) < 2 ^ 31) → F (pos 0) ≡ pos 0 → Proper program used f → Proper program used (scaled F f)
  unfolding scaled
  scaled_proper p o v = record {
    kind = v.kind;
    a = p _;
    b = p _;
    c = p _;
    d = p _;
    text = v.text;
    plain = v.plain;
    lettered = λ e. (ap F (v.lettered e).0 ∙ o, ap F (v.lettered e).1 ∙ o);
  }

-- ---- centres
module _ (program texts : List ℕ) (f : Figure) where
  pub centre_x_lem : f.kind < 4 → centre_x f ≡ Meaning.centre_x (meant_figure program texts f)
  unfolding centre_x Meaning.centre_x if◌then◌otherwise◌
  centre_x_lem l = kinds f.kind l
      (λ e. rw (as_line program texts f e, e)) (λ e. rw (as_ellipse program texts f e, e))
      (λ e. rw (as_box program texts f e, e)) (λ e. rw (as_text program texts f e, e))

  pub centre_y_lem : f.kind < 4 → centre_y f ≡ Meaning.centre_y (meant_figure program texts f)
  unfolding centre_y Meaning.centre_y if◌then◌otherwise◌
  centre_y_lem l = kinds f.kind l
      (λ e. rw (as_line program texts f e, e)) (λ e. rw (as_ellipse program texts f e, e))
      (λ e. rw (as_box program texts f e, e)) (λ e. rw (as_text program texts f e, e))

module _ {program : List ℕ} {used : ℕ} {f : Figure} (v : Proper program used f) where
  pub centre_x_range : mag (centre_x f) < 2 ^ 31
  unfolding centre_x if◌then◌otherwise◌
  centre_x_range = kinds f.kind v.kind
      (λ e. rw e (half_sum_range f.a f.c v.a v.c)) (λ e. rw e v.a)
      (λ e. rw e (sum_range f.a (half f.c))) (λ e. rw e v.a)

  pub centre_y_range : mag (centre_y f) < 2 ^ 31
  unfolding centre_y if◌then◌otherwise◌
  centre_y_range = kinds f.kind v.kind
      (λ e. rw e (half_sum_range f.b f.d v.b v.d)) (λ e. rw e v.b)
      (λ e. rw e (sum_range f.b (half f.d))) (λ e. rw e v.b)

-- ---- figures from numbers
pub held_none : (program : List ℕ) (used : ℕ) → Held program used 0
held_none program used = record { small = omega arith; inside = omega arith }

pub proper_plain : (program : List ℕ) (used k : ℕ) (x y z w : ℤ) → k < 3 → mag x < 2 ^ 31 → mag y < 2 ^ 31 → mag z < 2 ^ 31 → mag w < 2 ^ 31
    → Proper program used (figure k x y z w 0)
proper_plain program used k x y z w l a b c d = record {
  kind = omega arith;
  a = a;
  b = b;
  c = c;
  d = d;
  text = held_none program used;
  plain = λ _. refl;
  lettered = λ e. absurd (omega arith);
}

pub proper_text : {program : List ℕ} {used h : ℕ} (x y : ℤ) → mag x < 2 ^ 31 → mag y < 2 ^ 31 → Held program used h → Proper program used (figure 3 x y (pos 0) (pos 0) h)
proper_text x y a b v = record {
  kind = omega arith;
  a = a;
  b = b;
  c = omega arith;
  d = omega arith;
  text = v;
  plain = λ n. absurd (n refl);
  lettered = λ _. (refl, refl);
}
