-- Figures made.
use Prim.Native.Nat.{ℕ, ◌+◌, ◌≤◌, ◌<◌}
use native.Mathlib.Omega.{arith}
use mathlib.Core.Path.{◌≡◌, refl, ap, sym, ◌∙◌}
use mathlib.Core.Logic.{◌≢◌}
use mathlib.Core.Bool.{Bool, true, false}
use mathlib.Core.List.{List}
use lib.ListN.{get_or, set, length}
use borrow.Author.Tests.{ne_eqb}
use Rattle.meaning.specs.Basics.{if◌then◌otherwise◌}
use Rattle.meaning.specs.Token.{Token}
use Rattle.meaning.specs.Figure as Meaning
use Rattle.meaning.specs.Value as Value
use Rattle.meaning.specs.State.{State, atom, components_in, with_shape}
use Rattle.meaning.specs.Run as Run
use Rattle.meaning.specs.Book.{Amounts, added, resource_number, shortage_of}
use Rattle.meaning.specs.Group as Group
use Rattle.machine.specs.declared.Value.{Value}
use Rattle.machine.specs.declared.Value.TheVariants.{Shape}
use Rattle.machine.specs.Layout.{shapes_used, entries_used, text_used, entries_made, components_made, shapes_granted, shape_place}
use Rattle.machine.specs.Act.{Raw, raw}
use Rattle.machine.specs.Act as Act
use Rattle.machine.specs.declared.Figure.{Figure}
use Rattle.machine.specs.Shapes.{first_word, pair_word, kind_at, kind_group, is_group_at, figure_at, figure_laid, put_figure, new_shape}
use Rattle.simulation.specs.Meant.{meant_value, meant_figure, content_at}
use Rattle.simulation.specs.Sound.{Valid, Proper}
use Rattle.simulation.specs.Follows.{Grants, Related, Follows}
use Rattle.simulation.proofs.Results.{due, given, AfterValue, steps_told, spent_then}
use Rattle.simulation.proofs.Frames.{mark_same}
use Rattle.simulation.proofs.Growing.{
  low_of,
  high_of,
  pair_small,
  text_of,
  kind_of,
  alive,
  length_four,
  read_four,
  read_first,
  read_second,
  read_third,
  read_fourth,
  Grown,
  AfterShape,
  grown_after,
}

-- ---- a figure
module _ {program : List ℕ} {ts : List Token} {g : List ℕ} {r : Raw} {s : State} {total : Amounts} (h : Related program ts g r s total) (f : Figure)
    (proper : Proper program (get_or r.words text_used 0) f) (fit : get_or r.words shapes_used 0 + 1 ≤ shapes_granted g) where
  abbrev m : ℕ
  m = get_or r.words shapes_used 0

  abbrev place : ℕ
  place = shape_place (get_or r.words shapes_used 0)

  abbrev ws' : List ℕ
  ws' = figure_laid (set r.words shapes_used (get_or r.words shapes_used 0 + 1)) (shape_place (get_or r.words shapes_used 0)) f

  long : place + 3 ≤ length r.words
  long = omega (arith, fit, h.sound.lent.room.words)

  untouched : (j : ℕ) → j ≢ shapes_used → j ≢ place → j ≢ place + 1 → j ≢ place + 2 → get_or ws' j 0 ≡ get_or r.words j 0
  untouched j a b c d = read_four r.words 1 place (place + 1) (place + 2) (m + 1) (first_word f.kind f.text) (pair_word f.a f.b) (pair_word f.c f.d) j a b c d

  lowly : (j : ℕ) → j ≢ shapes_used → j < place → get_or ws' j 0 ≡ get_or r.words j 0
  lowly j a b = untouched j a (λ e. omega arith) (λ e. omega arith) (λ e. omega arith)

  highly : (j : ℕ) → place + 3 ≤ j → get_or ws' j 0 ≡ get_or r.words j 0
  highly j b = untouched j (λ e. omega arith) (λ e. omega arith) (λ e. omega arith) (λ e. omega arith)

  word₀ : get_or ws' place 0 ≡ first_word f.kind f.text
  word₀ = read_second r.words 1 place (place + 1) (place + 2) (m + 1) (first_word f.kind f.text) (pair_word f.a f.b) (pair_word f.c f.d) (omega (arith, long))
      (λ e. omega arith) (λ e. omega arith)

  word₁ : get_or ws' (place + 1) 0 ≡ pair_word f.a f.b
  word₁ = read_third r.words 1 place (place + 1) (place + 2) (m + 1) (first_word f.kind f.text) (pair_word f.a f.b) (pair_word f.c f.d) (omega (arith, long)) (λ e. omega arith)

  word₂ : get_or ws' (place + 2) 0 ≡ pair_word f.c f.d
  word₂ = read_fourth r.words 1 place (place + 1) (place + 2) (m + 1) (first_word f.kind f.text) (pair_word f.a f.b) (pair_word f.c f.d) (omega (arith, long))

  kind_read : kind_at ws' m ≡ f.kind
  kind_read = rw word₀ (kind_of f.kind f.text (omega (arith, proper.kind)))

  no_group : is_group_at ws' m ≡ false
  no_group = rw kind_read (ne_eqb f.kind kind_group (λ e. omega (arith, proper.kind)))

  newest : figure_at ws' m ≡ f
  unfolding figure_at
  newest = rw (
    word₀,
    word₁,
    word₂,
    kind_of f.kind f.text (omega (arith, proper.kind)),
    text_of f.kind f.text proper.text.small,
    low_of f.a f.b proper.a,
    high_of f.a f.b proper.b,
    low_of f.c f.d proper.c,
    high_of f.c f.d proper.d,
  )

  no : {A : Type 0} → is_group_at ws' m ≡ true → A
  no e = let z : ◌≡◌ {A = Bool} true false = sym e ∙ no_group in let y : ◌≡◌ {A = ℕ} 0 1 = cc in absurd (omega arith)

  figure_grown : Grown program g r ws'
  figure_grown = let c = h.sound.counted in record {
    long = length_four r.words 1 place (place + 1) (place + 2) (m + 1) (first_word f.kind f.text) (pair_word f.a f.b) (pair_word f.c f.d);
    low = λ j x y z l. lowly j x (omega arith);
    used = read_first r.words 1 place (place + 1) (place + 2) (m + 1) (first_word f.kind f.text) (pair_word f.a f.b) (pair_word f.c f.d) (omega (arith, long))
        (λ e. omega arith) (λ e. omega arith) (λ e. omega arith);
    fit = fit;
    shapes = λ i j l k. lowly _ (λ e. omega arith) (omega arith);
    ways = λ i j x y l. untouched _ (λ e. omega arith) (λ e. omega arith) (λ e. omega arith) (λ e. omega arith);
    entries = λ j x y. highly j (omega arith);
    parts = record { made = omega (arith, lowly components_made (λ e. omega arith) (omega arith)); words = λ k l. highly _ (omega arith) };
    marks = λ d k l. mark_same g r.words d k ws' (lowly components_made (λ e. omega arith) (omega arith)) (highly _ (omega arith));
    taken = rw (lowly entries_used (λ e. omega arith) (omega arith)) c.entries;
    made = rw (lowly entries_made (λ e. omega arith) (omega arith), lowly components_made (λ e. omega arith) (omega arith), lowly entries_used (λ e. omega arith) (omega arith)) c.made;
    first = rw word₁ (pair_small f.a f.b);
    second = rw word₂ (pair_small f.c f.d);
    proper = λ e. rw newest proper;
    grouped = no;
    behind = no;
    full = no;
    living = rw word₀ (alive f.kind f.text);
  }

  figure_content_lem : content_at program g (raw r.texts ws') m ≡ atom (meant_figure program r.texts f)
  unfolding content_at if◌then◌otherwise◌
  figure_content_lem = rw (no_group, newest)

  made_after : (a : Meaning.Figure) (p : ℕ) → a ≡ meant_figure program r.texts f
      → AfterShape program ts g r s m (length s.shapes) (raw r.texts ws') (with_shape s (atom a)) (added total (due Run.shapes 1 p))
  unfolding added resource_number
  made_after a p e =
      grown_after h ws' figure_grown (atom a) (added total (due Run.shapes 1 p)) (ap atom e ∙ sym figure_content_lem) (omega arith) (omega arith)
      (omega (arith, h.entries_taken, lowly entries_used (λ e. omega arith) (omega arith))) (omega arith) (omega arith)

-- as a value
module _ (program : List ℕ) (ts : List Token) (g : List ℕ) where
  pub record AfterShapeValue (r : Raw) (s : State) (v : Value) (j : ℕ) (r' : Raw) (s' : State) (total : Amounts) : Type 0 where
    pub shape : AfterShape program ts g r s (get_or r.words shapes_used 0) j r' s' total
    pub is : v ≡ Shape (get_or r.words shapes_used 0)

module _ {program : List ℕ} {ts : List Token} {g : List ℕ} where
  pub shape_value : {r : Raw} {s : State} {v : Value} {j : ℕ} {r' : Raw} {s' : State} {total : Amounts} → AfterShapeValue program ts g r s v j r' s' total
      → AfterValue program ts g r v (Value.shape j) r' s' total
  unfolding Valid meant_value
  shape_value a = record {
    after = a.shape.after;
    valid = rw a.is (omega (arith, a.shape.used));
    means = rw a.is (ap Value.shape a.shape.same);
  }

  pub makes_shape : {granted : Amounts} (gr : Grants g granted) {r : Raw} {s : State} {total : Amounts} (h : Related program ts g r s total) (f : Figure) (a : Meaning.Figure)
      → Proper program (get_or r.words text_used 0) f → a ≡ meant_figure program r.texts f → (p : ℕ)
      → Follows granted total (λ v j r' s' total'. AfterShapeValue program ts g r s v j r' s' total') (new_shape g p f r) (Group.new_shape p (atom a) s)
  unfolding new_shape Group.new_shape Group.spend_each components_in Act.◌>>=◌ Act.go_on Act.load Act.give put_figure Run.◌>>=◌ Run.go_on Run.current Run.become Run.give shortage_of with_shape
  makes_shape gr {r} {s} h f a proper e p =
      spent_then Run.shapes shapes_used (shapes_granted g) 1 76 p r s h.shapes_taken gr.shapes refl (steps_told h) _ _
      (λ fit. given (record { shape = made_after h f proper fit a p e; is = refl }))
