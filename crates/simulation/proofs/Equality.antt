-- Values and figures are compared as the meaning compares them.
use Prim.Native.Nat.{ℕ, ◌<◌}
use native.Mathlib.Omega.{arith}
use mathlib.Core.Path.{◌≡◌, refl, ap, sym, ◌∙◌}
use mathlib.Core.Logic.{◌≢◌}
use mathlib.Core.Bool.{Bool, true, false, ◌&&◌}
use mathlib.Core.List.{List}
use lib.ListN.{get_or}
use lib.Dec.{eqb}
use lib.IntN.{ℤ, pos}
use borrow.Author.Tests.{eqb-true}
use Rattle.meaning.specs.Basics.{same_text}
use Rattle.meaning.specs.Integer.{same_integer, same_integers}
use Rattle.meaning.specs.Figure.{text, figure_kind, numbers_of}
use Rattle.meaning.specs.Figure as Meaning
use Rattle.meaning.specs.Operator as Operator
use Rattle.meaning.proofs.KeyLaws.{same_text_same, same_integer_same}
use Rattle.machine.specs.declared.Value.{Value}
use Rattle.machine.specs.declared.Value.TheVariants.{Integer, Text, Boolean, Nothing, Table, Shape}
use Rattle.machine.specs.Layout.{shapes_used}
use Rattle.machine.specs.Act.{Raw}
use Rattle.machine.specs.Texts.{text_of}
use Rattle.machine.specs.declared.Figure.{Figure}
use Rattle.machine.specs.Operate.{same_figure, Comparison, refused, settled, of_shapes, equality}
use Rattle.simulation.specs.Meant.{meant_value, meant_figure}
use Rattle.simulation.specs.Sound.{Valid, Proper}
use Rattle.simulation.proofs.Figures.{kinds, as_line, as_ellipse, as_box, as_text}

-- ---- truths
pub and_true : (a : Bool) → (a && true) ≡ a
and_true true = refl
and_true false = refl

pub and-false : (a : Bool) → (a && false) ≡ false
and-false true = refl
and-false false = refl

pub and_assoc : (a b c : Bool) → ((a && b) && c) ≡ (a && (b && c))
and_assoc true b c = refl
and_assoc false b c = refl

four : (a b c d : Bool) (t u : List ℕ) → t ≡ u → (a && b && c && d && same_text t u) ≡ ((a && (b && (c && (d && true)))) && true)
four true true true true t u e = rw (← e) (same_text_same t)
four true true true false t u e = refl
four true true false d t u e = refl
four true false c d t u e = refl
four false b c d t u e = refl

two : (a b : Bool) (c d : ℤ) (t : Bool) → c ≡ d → (a && b && same_integer c d && same_integer c d && t) ≡ ((a && (b && true)) && t)
two true true c d t e = rw (← e, same_integer_same c)
two true false c d t e = refl
two false b c d t e = refl

-- ---- figures
module _ (program texts : List ℕ) where
  pub kind_meant : (f : Figure) → f.kind < 4 → figure_kind (meant_figure program texts f) ≡ f.kind
  unfolding figure_kind
  kind_meant f l = kinds f.kind l
      (λ e. rw (as_line program texts f e, e)) (λ e. rw (as_ellipse program texts f e, e))
      (λ e. rw (as_box program texts f e, e)) (λ e. rw (as_text program texts f e, e))

  pub figures_compared : {used : ℕ} (f h : Figure) → Proper program used f → Proper program used h
      → same_figure program texts f h ≡ Meaning.same_figure (meant_figure program texts f) (meant_figure program texts h)
  unfolding same_figure Meaning.same_figure figure_kind numbers_of Meaning.text_of same_integers same_text
  figures_compared f h v w = go (eqb f.kind h.kind) refl
    where
      plainly : f.kind ≢ 3 → h.kind ≢ 3 → text_of program texts f.text ≡ text_of program texts h.text
      plainly m n = ap (text_of program texts) (v.plain m ∙ sym (w.plain n))

      go : (b : Bool) → eqb f.kind h.kind ≡ b
          → same_figure program texts f h ≡ Meaning.same_figure (meant_figure program texts f) (meant_figure program texts h)
      go false e = rw (e, kind_meant f v.kind, kind_meant h w.kind, e)
      go true q =
          let e = eqb-true _ _ q in
          kinds f.kind v.kind
          (λ z. let y : h.kind ≡ 0 = sym e ∙ z in
          rw (as_line program texts f z, as_line program texts h y, z, y)
          (four (same_integer f.a h.a) (same_integer f.b h.b) (same_integer f.c h.c) (same_integer f.d h.d) (text_of program texts f.text)
          (text_of program texts h.text) (plainly (λ x. omega arith) (λ x. omega arith))))
          (λ z. let y : h.kind ≡ 1 = sym e ∙ z in
          rw (as_ellipse program texts f z, as_ellipse program texts h y, z, y)
          (four (same_integer f.a h.a) (same_integer f.b h.b) (same_integer f.c h.c) (same_integer f.d h.d) (text_of program texts f.text)
          (text_of program texts h.text) (plainly (λ x. omega arith) (λ x. omega arith))))
          (λ z. let y : h.kind ≡ 2 = sym e ∙ z in
          rw (as_box program texts f z, as_box program texts h y, z, y)
          (four (same_integer f.a h.a) (same_integer f.b h.b) (same_integer f.c h.c) (same_integer f.d h.d) (text_of program texts f.text)
          (text_of program texts h.text) (plainly (λ x. omega arith) (λ x. omega arith))))
          (λ z. let y : h.kind ≡ 3 = sym e ∙ z in
          rw (as_text program texts f z, as_text program texts h y, z, y, (v.lettered z).0, (v.lettered z).1, (w.lettered y).0, (w.lettered y).1)
          (two (same_integer f.a h.a) (same_integer f.b h.b) (pos 0) (pos 0) (same_text (text_of program texts f.text) (text_of program texts h.text)) refl))

-- ---- values
unfoldable pub meant_comparison : Comparison → Operator.Comparison
meant_comparison refused = Operator.refused
meant_comparison (settled b) = Operator.settled b
meant_comparison (of_shapes i j) = Operator.of_shapes i j

pub equal_alike : (program : List ℕ) (r : Raw) (v w : Value)
    → Operator.equality (meant_value program r.texts v) (meant_value program r.texts w) ≡ meant_comparison (equality program r v w)
unfolding equality Operator.equality meant_value meant_comparison
equal_alike program r (Integer a) (Integer b) = refl
equal_alike program r (Integer a) (Text b) = refl
equal_alike program r (Integer a) (Boolean b) = refl
equal_alike program r (Integer a) Nothing = refl
equal_alike program r (Integer a) (Table b) = refl
equal_alike program r (Integer a) (Shape b) = refl
equal_alike program r (Text a) (Integer b) = refl
equal_alike program r (Text a) (Text b) = refl
equal_alike program r (Text a) (Boolean b) = refl
equal_alike program r (Text a) Nothing = refl
equal_alike program r (Text a) (Table b) = refl
equal_alike program r (Text a) (Shape b) = refl
equal_alike program r (Boolean a) (Integer b) = refl
equal_alike program r (Boolean a) (Text b) = refl
equal_alike program r (Boolean a) (Boolean b) = refl
equal_alike program r (Boolean a) Nothing = refl
equal_alike program r (Boolean a) (Table b) = refl
equal_alike program r (Boolean a) (Shape b) = refl
equal_alike program r Nothing (Integer b) = refl
equal_alike program r Nothing (Text b) = refl
equal_alike program r Nothing (Boolean b) = refl
equal_alike program r Nothing Nothing = refl
equal_alike program r Nothing (Table b) = refl
equal_alike program r Nothing (Shape b) = refl
equal_alike program r (Table a) (Integer b) = refl
equal_alike program r (Table a) (Text b) = refl
equal_alike program r (Table a) (Boolean b) = refl
equal_alike program r (Table a) Nothing = refl
equal_alike program r (Table a) (Table b) = refl
equal_alike program r (Table a) (Shape b) = refl
equal_alike program r (Shape a) (Integer b) = refl
equal_alike program r (Shape a) (Text b) = refl
equal_alike program r (Shape a) (Boolean b) = refl
equal_alike program r (Shape a) Nothing = refl
equal_alike program r (Shape a) (Table b) = refl
equal_alike program r (Shape a) (Shape b) = refl

-- two shapes that are to be compared were made
unfoldable pub Fine : List ℕ → Comparison → Type 0
Fine ws refused = Unit {0}
Fine ws (settled b) = Unit {0}
Fine ws (of_shapes i j) = (i < get_or ws shapes_used 0) × (j < get_or ws shapes_used 0)

pub fine : (program : List ℕ) (r : Raw) (v w : Value) → Valid program r.words v → Valid program r.words w → Fine r.words (equality program r v w)
unfolding Fine equality Valid
fine program r (Integer a) (Integer b) p q = tt
fine program r (Integer a) (Text b) p q = tt
fine program r (Integer a) (Boolean b) p q = tt
fine program r (Integer a) Nothing p q = tt
fine program r (Integer a) (Table b) p q = tt
fine program r (Integer a) (Shape b) p q = tt
fine program r (Text a) (Integer b) p q = tt
fine program r (Text a) (Text b) p q = tt
fine program r (Text a) (Boolean b) p q = tt
fine program r (Text a) Nothing p q = tt
fine program r (Text a) (Table b) p q = tt
fine program r (Text a) (Shape b) p q = tt
fine program r (Boolean a) (Integer b) p q = tt
fine program r (Boolean a) (Text b) p q = tt
fine program r (Boolean a) (Boolean b) p q = tt
fine program r (Boolean a) Nothing p q = tt
fine program r (Boolean a) (Table b) p q = tt
fine program r (Boolean a) (Shape b) p q = tt
fine program r Nothing (Integer b) p q = tt
fine program r Nothing (Text b) p q = tt
fine program r Nothing (Boolean b) p q = tt
fine program r Nothing Nothing p q = tt
fine program r Nothing (Table b) p q = tt
fine program r Nothing (Shape b) p q = tt
fine program r (Table a) (Integer b) p q = tt
fine program r (Table a) (Text b) p q = tt
fine program r (Table a) (Boolean b) p q = tt
fine program r (Table a) Nothing p q = tt
fine program r (Table a) (Table b) p q = tt
fine program r (Table a) (Shape b) p q = tt
fine program r (Shape a) (Integer b) p q = tt
fine program r (Shape a) (Text b) p q = tt
fine program r (Shape a) (Boolean b) p q = tt
fine program r (Shape a) Nothing p q = tt
fine program r (Shape a) (Table b) p q = tt
fine program r (Shape a) (Shape b) p q = (p, q)
