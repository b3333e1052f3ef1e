-- Centres of figures, and the figures that procedures make.
use Prim.Native.Nat.{ℕ, ◌^◌, ◌<◌}
use mathlib.Core.Path.{◌≡◌, ◌∙◌}
use mathlib.Core.List.{List}
use borrow.Author.Tests.{ne_eqb}
use lib.IntN.{ℤ, pos, ◌+ℤ◌}
use lib.Signed.{mag}
use mir.Syntax.{w32}
use mir.Val.{SFits}
use mir.Facts.{to_z-of_z}
use Rattle.meaning.specs.Basics.{if◌then◌otherwise◌}
use Rattle.meaning.specs.Integer.{sum, half}
use Rattle.machine.specs.declared.Figure.{Figure}
use Rattle.values.proofs.Held.{held, back, back_to}
use Rattle.machine.specs.Arguments.{centre_x, centre_y, connecting, text_on}
use Rattle.arguments.specs.Given.{centre, integer_at, handle_at, given_figure, drawn_figure, text_figure, connecting_figure, label_figure}

-- ---- centres
module _ (kind : ℕ) {x z : ℤ} (i : SFits w32 x) (j : SFits w32 z) {m : ℤ} (h : mag m < 2 ^ 31) where
  pub line_centre : kind ≡ 0 → m ≡ half (held x +ℤ held z) → held m ≡ centre kind x z
  unfolding centre if◌then◌otherwise◌
  line_centre k e = back_to h e ∙ rw (k, to_z-of_z i, to_z-of_z j)

  pub box_centre : kind ≡ 2 → m ≡ sum (held x) (half (held z)) → held m ≡ centre kind x z
  unfolding centre if◌then◌otherwise◌
  box_centre k e = back_to h e ∙ rw (k, to_z-of_z i, to_z-of_z j)

pub other_centre : (kind : ℕ) {x : ℤ} (z : ℤ) → SFits w32 x → (kind ≡ 0 → ⊥) → (kind ≡ 2 → ⊥) → held x ≡ centre kind x z
unfolding centre if◌then◌otherwise◌
other_centre kind z i k l = to_z-of_z i ∙ rw (ne_eqb _ _ k, ne_eqb _ _ l)

module _ (f : Figure) {m : ℤ} (h : mag m < 2 ^ 31) where
  pub centre_is_x : mag f.a < 2 ^ 31 → mag f.c < 2 ^ 31 → m ≡ centre f.kind (held f.a) (held f.c) → held m ≡ centre_x f
  unfolding centre centre_x
  centre_is_x i j e = back_to h e ∙ rw (back {r = f.a} i, back {r = f.c} j)

  pub centre_is_y : mag f.b < 2 ^ 31 → mag f.d < 2 ^ 31 → m ≡ centre f.kind (held f.b) (held f.d) → held m ≡ centre_y f
  unfolding centre centre_y
  centre_is_y i j e = back_to h e ∙ rw (back {r = f.b} i, back {r = f.d} j)

-- ---- figures
pub connecting_is : (f g : Figure) {x y z w : ℤ} → x ≡ centre_x f → mag x < 2 ^ 31 → y ≡ centre_y f → mag y < 2 ^ 31 → z ≡ centre_x g → mag z < 2 ^ 31
    → w ≡ centre_y g → mag w < 2 ^ 31 → ◌≡◌ {A = Figure} (record { kind = 0; a = held x; b = held y; c = held z; d = held w; text = 0 }) (connecting f g)
unfolding connecting
connecting_is f g x i y j z k w l = rw (back_to i x, back_to j y, back_to k z, back_to l w)

pub text_on_is : (f : Figure) (h : ℕ) {x y : ℤ} → x ≡ centre_x f → mag x < 2 ^ 31 → y ≡ centre_y f → mag y < 2 ^ 31
    → ◌≡◌ {A = Figure} (record { kind = 3; a = held x; b = held y; c = pos 0; d = pos 0; text = h }) (text_on f h)
unfolding text_on
text_on_is f h x i y j = rw (back_to i x, back_to j y)

module _ (ws : List ℕ) (base : ℕ) {x y : ℤ} (e : x ≡ integer_at ws base 0) (i : mag x < 2 ^ 31) (q : y ≡ integer_at ws base 1) (j : mag y < 2 ^ 31) where
  pub drawn_is : (kind : ℕ) {z w : ℤ} → z ≡ integer_at ws base 2 → mag z < 2 ^ 31 → w ≡ integer_at ws base 3 → mag w < 2 ^ 31
      → ◌≡◌ {A = Figure} (record { kind = kind; a = held x; b = held y; c = held z; d = held w; text = 0 }) (drawn_figure ws kind base)
  unfolding drawn_figure
  drawn_is kind s k t l = rw (back_to i e, back_to j q, back_to k s, back_to l t)

  pub text_is : {h : ℕ} → h ≡ handle_at ws base 2
      → ◌≡◌ {A = Figure} (record { kind = 3; a = held x; b = held y; c = pos 0; d = pos 0; text = h }) (text_figure ws base)
  unfolding text_figure
  text_is s = rw (back_to i e, back_to j q, s)

module _ (ws : List ℕ) (base : ℕ) {f : Figure} (s : Figure) (e : s ≡ given_figure ws base 0) where
  pub connecting_given : (t : Figure) → t ≡ given_figure ws base 1 → f ≡ connecting s t → f ≡ connecting_figure ws base
  unfolding connecting_figure
  connecting_given t q h = h ∙ rw (e, q)

  pub label_given : (h : ℕ) → h ≡ handle_at ws base 1 → f ≡ text_on s h → f ≡ label_figure ws base
  unfolding label_figure
  label_given h q k = k ∙ rw (e, q)
