-- Figures compared.
use Prim.Native.Nat.{ℕ, ◌^◌, ◌<◌}
use mathlib.Core.Path.{◌≡◌, ◌∙◌, refl, ap, sym}
use mathlib.Core.Bool.{Bool, true, false, ◌&&◌}
use mathlib.Core.List.{List}
use borrow.Author.Tests.{ne_eqb, eq-eqb}
use lib.Dec.{eqb}
use lib.IntN.{ℤ}
use lib.Signed.{mag}
use mir.Syntax.{w32}
use mir.Val.{SFits}
use mir.Facts.{to_z-of_z}
use Rattle.meaning.specs.Basics.{same_text}
use Rattle.meaning.specs.Integer.{same_integer}
use Rattle.machine.specs.declared.Figure.{Figure}
use Rattle.machine.specs.Texts.{text_of}
use Rattle.machine.specs.Shapes.{figure_at}
use Rattle.machine.specs.Operate.{same_figure}
use Rattle.figures.specs.Comparing.{same_pair, same_numbers}
use Rattle.values.proofs.Held.{held, back}

module _ {x : ℤ} (y : ℤ) {z : ℤ} (w : ℤ) {b : Bool} (i : SFits w32 x) (k : SFits w32 z) (e : b ≡ same_integer (held x) (held z)) where
  pub pair_apart : b ≡ false → b ≡ same_pair x y z w
  unfolding same_pair
  pair_apart h = rw (← to_z-of_z i, ← to_z-of_z k, ← e, h)

  pub pair_rest : {r : Bool} → SFits w32 y → SFits w32 w → b ≡ true → r ≡ same_integer (held y) (held w) → r ≡ same_pair x y z w
  unfolding same_pair
  pair_rest j l h q = rw (q, ← to_z-of_z i, ← to_z-of_z k, ← e, h, to_z-of_z j, to_z-of_z l)

module _ (f g : Figure) {b : Bool} (i : mag f.a < 2 ^ 31) (j : mag f.b < 2 ^ 31) (k : mag g.a < 2 ^ 31) (l : mag g.b < 2 ^ 31)
    (e : b ≡ same_pair (held f.a) (held f.b) (held g.a) (held g.b)) where
  first_pair : same_pair f.a f.b g.a g.b ≡ b
  first_pair = sym (e ∙ rw (back {r = f.a} i, back {r = f.b} j, back {r = g.a} k, back {r = g.b} l))

  pub numbers_apart : b ≡ false → b ≡ same_numbers f g
  unfolding same_numbers
  numbers_apart h = rw (first_pair, h)

  pub numbers_rest : {r : Bool} → b ≡ true → mag f.c < 2 ^ 31 → mag f.d < 2 ^ 31 → mag g.c < 2 ^ 31 → mag g.d < 2 ^ 31
      → r ≡ same_pair (held f.c) (held f.d) (held g.c) (held g.d) → r ≡ same_numbers f g
  unfolding same_numbers
  numbers_rest h m n o p q = q ∙ rw (first_pair, h, back {r = f.c} m, back {r = f.d} n, back {r = g.c} o, back {r = g.d} p)

regroup : (k a b c d t : Bool) → k && a && b && c && d && t ≡ k && (a && b && (c && d)) && t
regroup false a b c d t = refl
regroup true false b c d t = refl
regroup true true false c d t = refl
regroup true true true false d t = refl
regroup true true true true d t = refl

pub same_kind : (f g : Figure) {r : Bool} → f.kind ≡ g.kind → r ≡ same_numbers f g → r ≡ eqb f.kind g.kind && same_numbers f g
same_kind f g k e = e ∙ rw (eq-eqb _ _ k)

pub other_kind : (f g : Figure) → (f.kind ≡ g.kind → ⊥) → eqb f.kind g.kind ≡ eqb f.kind g.kind && same_numbers f g
other_kind f g h = rw (ne_eqb _ _ h)

module _ (program ts : List ℕ) (f g : Figure) {v : Bool} (e : v ≡ eqb f.kind g.kind && same_numbers f g) where
  figures_by : same_figure program ts f g ≡ v && same_text (text_of program ts f.text) (text_of program ts g.text)
  unfolding same_figure same_numbers same_pair
  figures_by =
      regroup (eqb f.kind g.kind) (same_integer f.a g.a) (same_integer f.b g.b) (same_integer f.c g.c) (same_integer f.d g.d)
      (same_text (text_of program ts f.text) (text_of program ts g.text))
      ∙ ap (λ (b : Bool). b && same_text (text_of program ts f.text) (text_of program ts g.text)) (sym e)

  pub figures_apart : v ≡ false → v ≡ same_figure program ts f g
  figures_apart h = h ∙ sym (figures_by ∙ rw h)

  pub text_left : {r : Bool} → v ≡ true → r ≡ same_text (text_of program ts f.text) (text_of program ts g.text) → r ≡ same_figure program ts f g
  text_left h q = q ∙ sym (figures_by ∙ rw h)

pub same_shapes : (program ts ws : List ℕ) (i j : ℕ) (f g : Figure) {r : Bool} → f ≡ figure_at ws i → g ≡ figure_at ws j → r ≡ same_figure program ts f g
    → r ≡ same_figure program ts (figure_at ws i) (figure_at ws j)
same_shapes program ts ws i j f g e q h = rw (← e, ← q) h
