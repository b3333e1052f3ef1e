-- Lines written: what each way through the code does.
-- Assumes nothing.
use Prim.Native.Nat.{ℕ, zero, suc, ◌+◌, ◌-◌, ◌^◌, ◌≤◌, ◌<◌}
use mathlib.Core.Path.{◌≡◌, refl, ap, sym, ◌∙◌}
use mathlib.Core.Bool.{Bool, true, false}
use mathlib.Core.List.{List, [], ◌++◌, append_assoc, append-nil}
use native.Mathlib.Numerals.{add-one}
use native.Mathlib.Omega.{arith}
use lib.IntN.{ℤ}
use lib.ListN.{get_or, length, take-append-drop}
use mir.Syntax.{w32, w64}
use mir.Val.{Fits, SFits}
use mir.ValLaws.{to_z-of_z}
use borrow.Author.Tests.{lt-ltb, le-ltb, eq-eqb, ne_eqb}
use Rattle.meaning.specs.Basics.{if◌then◌otherwise◌, laid_over}
use Rattle.meaning.specs.Picture.{line_of, lines_of, picture_of}
use Rattle.machine.specs.Words.{kind_in, number_in}
use Rattle.machine.specs.Layout.{declared, lines_length, frame, shapes_granted, argument_place, Room}
use Rattle.machine.specs.Variables.{number_of}
use Rattle.machine.specs.Act.{raw}
use Rattle.machine.specs.Shapes.{is_group_at, destroyed_at}
use Rattle.machine.specs.Groups.{component_at, first_at}
use Rattle.machine.specs.Show.{figures_in, shown_from}
use Rattle.writing.specs.Placed.{laid_at, saturated, WroteAt}
use Rattle.writing.proofs.Laying.{saturated_small, length_at, then}
use Rattle.writing.proofs.Decimals.{decimal_short}
use Rattle.picture.specs.Parts.{head, tail}
use Rattle.picture.proofs.Frames.{length_head, length_tail, length_picture, picture_parts}
use Rattle.walks.specs.declared.Walk.{Walk}
use Rattle.walks.specs.Walks.{count_within, Walks, Under}
use Rattle.walks.proofs.TurnLaws.{walk_at, room_same, walks_first}
use Rattle.scene.specs.Scene.{figure_for, figures_for, shown_by, shown_first, scene_in, word_of}
use Rattle.showing.specs.Showing.{Unmoved, lines_for, figure_within, shown_here, level_shown, above_shown, left_shown, Moved, Shown, Pictured}
use Rattle.scene.proofs.Figures.{seen}
use Rattle.showing.proofs.ShowLaws.{unmoved_none, unmoved_then, same_fixed, lines_same, lines_more, figure_level, group_level, shown_by_same}

pub writes_nothing : {at : ℕ} {d : List ℕ} → at < 2 ^ 64 → WroteAt at [] d d at
unfolding laid_at laid_over
writes_nothing {at} {d} h = record {
  laid = sym (take-append-drop at d);
  ends = let q : at + 0 ≡ at = omega arith in rw q (sym (saturated_small at h));
}

-- ---- a figure
module _ (program ts g ws : List ℕ) (d i : ℕ) where
  pub figure_none : {at : ℕ} {out : List ℕ} → at < 2 ^ 64 → shapes_granted g ≤ d → WroteAt at (lines_for program ts ws (figure_within g d i)) out out at
  unfolding figure_within figures_for lines_of if◌then◌otherwise◌
  figure_none l h = rw (le-ltb d (shapes_granted g) h) (writes_nothing l)

  pub figure_line : {at r : ℕ} {before after : List ℕ} → d < shapes_granted g → WroteAt at (line_of (figure_for program (raw ts ws) i)) before after r
      → WroteAt at (lines_for program ts ws (figure_within g d i)) before after r
  unfolding figure_within figures_for lines_of if◌then◌otherwise◌
  figure_line h w = rw (lt-ltb d (shapes_granted g) h, append-nil (line_of (figure_for program (raw ts ws) i))) w

-- ---- a component
module _ (program ts g ws : List ℕ) (d k : ℕ) where
  pub reached_end : (n : ℕ) {at : ℕ} {out : List ℕ} → at < 2 ^ 64 → n ≡ 0 → WroteAt at (lines_for program ts ws (shown_here g ws d k n)) out out at
  unfolding shown_here figures_for lines_of
  reached_end n l z = rw z (writes_nothing l)

  module _ (c : ℕ) (e : c ≡ component_at g ws k) (b : Bool) (f : b ≡ destroyed_at ws c) where
    pub reached_gone : (n : ℕ) {at : ℕ} {out : List ℕ} → at < 2 ^ 64 → (n ≡ 0 → ⊥) → b ≡ true → WroteAt at (lines_for program ts ws (shown_here g ws d k n)) out out at
    unfolding shown_here figures_for lines_of if◌then◌otherwise◌
    reached_gone zero l m t = absurd (m refl)
    reached_gone (suc n) l m t = rw (← e, ← f, t) (writes_nothing l)

    module _ (t : b ≡ false) (a : Bool) (i : a ≡ is_group_at ws c) where
      pub reached_group : (n : ℕ) {at : ℕ} {out : List ℕ} → at < 2 ^ 64 → (n ≡ 0 → ⊥) → a ≡ true → WroteAt at (lines_for program ts ws (shown_here g ws d k n)) out out at
      unfolding shown_here figures_for lines_of if◌then◌otherwise◌
      reached_group zero l m v = absurd (m refl)
      reached_group (suc n) l m v = rw (← e, ← f, t, ← i, v) (writes_nothing l)

      pub reached_figure : (n : ℕ) {at r : ℕ} {before after : List ℕ} → (n ≡ 0 → ⊥) → a ≡ false → WroteAt at (lines_for program ts ws (figure_within g (d + 1) c)) before after r
          → WroteAt at (lines_for program ts ws (shown_here g ws d k n)) before after r
      unfolding shown_here if◌then◌otherwise◌
      reached_figure zero m v w = absurd (m refl)
      reached_figure (suc n) m v w = rw (← e, ← f, t, ← i, v) w

-- ---- the walk's loop
none_left : (g ws : List ℕ) (k : ℕ) → left_shown g ws 0 k 0 ≡ []
unfolding left_shown level_shown above_shown shown_from
none_left g ws k = refl

pub record Showing (program ts g ws₀ : List ℕ) (i start : ℕ) (before ws now : List ℕ) (w : Walk) (at : ℕ) : Type 0 where
  pub shown : List ℕ
  pub whole : shown ++ left_shown g ws w.depth w.slot w.left ≡ level_shown g ws₀ 0 (first_at ws₀ i) (count_within g ws₀ 0 i)
  pub wrote : WroteAt start (lines_for program ts ws₀ shown) before now at
  pub unmoved : Unmoved g ws₀ ws
  pub walks : Walks g ws w
  pub small : length before < 2 ^ 64
  pub kept : length now ≡ length before

module _ (program ts g ws₀ : List ℕ) (i start : ℕ) (before : List ℕ) where
  pub show_first : (k n : ℕ) → start < 2 ^ 64 → length before < 2 ^ 64 → Room g ws₀ → k ≡ first_at ws₀ i → n ≡ count_within g ws₀ 0 i → Showing program ts g ws₀ i start before ws₀ before (walk_at 0 k n) start
  unfolding left_shown above_shown figures_for lines_of
  show_first k n l s r e f = record {
    shown = [];
    whole = rw (e, f) (append-nil (level_shown g ws₀ 0 (first_at ws₀ i) (count_within g ws₀ 0 i)));
    wrote = writes_nothing l;
    unmoved = unmoved_none g ws₀;
    walks = walks_first g ws₀ i k n r e f;
    small = s;
    kept = refl;
  }

  module _ (ws now : List ℕ) (w : Walk) (at : ℕ) (a : Showing program ts g ws₀ i start before ws now w at) where
    pub show_under : 0 < w.depth + w.left → Under g ws w
    show_under h = record { walks = a.walks; more = λ e. omega arith }

    pub show_over : w.depth + w.left ≤ 0 → Shown program ts g ws₀ (level_shown g ws₀ 0 (first_at ws₀ i) (count_within g ws₀ 0 i)) start before ws now at
    show_over h =
        let x : w.depth ≡ 0 = omega arith in
        let y : w.left ≡ 0 = omega arith in
        let q : a.shown ≡ level_shown g ws₀ 0 (first_at ws₀ i) (count_within g ws₀ 0 i) = sym (nothing_left a.shown) ∙ (rw (x, y) at a.whole) in
        record { wrote = rw (← q) a.wrote; unmoved = a.unmoved }
      where
        nothing_left : (shapes : List ℕ) → shapes ++ left_shown g ws 0 w.slot 0 ≡ shapes
        nothing_left shapes = ap (λ (x : List ℕ). shapes ++ x) (none_left g ws w.slot) ∙ append-nil shapes

    module _ (t : Walk) (ws' : List ℕ) (r : Moved g ws w t ws') where
      pub show_next : (at' : ℕ) (after : List ℕ) → WroteAt at (lines_for program ts ws (shown_here g ws w.depth w.slot w.left)) now after at'
          → Showing program ts g ws₀ i start before ws' after t at'
      show_next at' after q = record {
        shown = a.shown ++ shown_here g ws w.depth w.slot w.left;
        whole = append_assoc a.shown (shown_here g ws w.depth w.slot w.left) (left_shown g ws' t.depth t.slot t.left) ∙ ap (λ (x : List ℕ). a.shown ++ x) r.shown ∙ a.whole;
        wrote = rw (lines_more program ts ws₀ a.shown (shown_here g ws w.depth w.slot w.left))
            ((then) a.small a.wrote (rw (lines_same g ws₀ ws a.unmoved program ts (shown_here g ws w.depth w.slot w.left)) at q));
        unmoved = unmoved_then a.unmoved r.unmoved;
        walks = r.walks;
        small = a.small;
        kept = ap length q.laid ∙ length_at at _ now ∙ a.kept;
      }

-- ---- a shape
module _ (program ts g ws : List ℕ) (i : ℕ) (a : Bool) (e : a ≡ is_group_at ws i) where
  pub group_written : {at r : ℕ} {before ws' after : List ℕ} → a ≡ true
      → Shown program ts g ws (level_shown g ws 0 (first_at ws i) (count_within g ws 0 i)) at before ws' after r → Shown program ts g ws (figures_in (shapes_granted g) g ws i) at before ws' after r
  group_written t s = let z : shapes_granted g - 0 ≡ shapes_granted g = omega arith in rw (← z, group_level g ws 0 i (sym e ∙ t)) s

  pub figure_written : {at r : ℕ} {before after : List ℕ} → a ≡ false → WroteAt at (lines_for program ts ws (figure_within g 0 i)) before after r
      → Shown program ts g ws (figures_in (shapes_granted g) g ws i) at before ws after r
  figure_written t w =
      let z : shapes_granted g - 0 ≡ shapes_granted g = omega arith in
      record { wrote = rw (← z, figure_level g ws 0 i (sym e ∙ t)) w; unmoved = unmoved_none g ws }

-- ---- a value
module _ (program ts g ws : List ℕ) (w : ℕ) where
  pub no_shape_lem : {at : ℕ} {out : List ℕ} → at < 2 ^ 64 → (kind_in w ≡ 6 → ⊥) → Shown program ts g ws (shown_by g ws w) at out ws out at
  unfolding shown_by figures_for lines_of if◌then◌otherwise◌
  no_shape_lem l h = record { wrote = rw (ne_eqb (kind_in w) 6 h) (writes_nothing l); unmoved = unmoved_none g ws }

  module _ (h : kind_in w ≡ 6) (i : ℕ) (e : i ≡ number_in w) (b : Bool) (f : b ≡ destroyed_at ws i) where
    pub shape_gone : {at : ℕ} {out : List ℕ} → at < 2 ^ 64 → b ≡ true → Shown program ts g ws (shown_by g ws w) at out ws out at
    unfolding shown_by figures_for lines_of if◌then◌otherwise◌
    shape_gone l t = record { wrote = rw (eq-eqb (kind_in w) 6 h, ← e, ← f, t) (writes_nothing l); unmoved = unmoved_none g ws }

    pub shape_written : {at r : ℕ} {before ws' after : List ℕ} → b ≡ false → Shown program ts g ws (figures_in (shapes_granted g) g ws i) at before ws' after r
        → Shown program ts g ws (shown_by g ws w) at before ws' after r
    unfolding shown_by if◌then◌otherwise◌
    shape_written t s = rw (eq-eqb (kind_in w) 6 h, ← e, ← f, t) s

-- ---- the variables
pub record Writing (program ts g ws₀ : List ℕ) (n start : ℕ) (before ws now : List ℕ) (k at : ℕ) : Type 0 where
  pub upto : k ≤ n
  pub wrote : WroteAt start (lines_for program ts ws₀ (shown_first g ws₀ k)) before now at
  pub unmoved : Unmoved g ws₀ ws
  pub kept : length now ≡ length before

module _ (program ts g ws₀ : List ℕ) (n start : ℕ) (before : List ℕ) where
  pub write_first : start < 2 ^ 64 → Writing program ts g ws₀ n start before ws₀ before 0 start
  unfolding shown_first figures_for lines_of
  write_first l = record { upto = omega arith; wrote = writes_nothing l; unmoved = unmoved_none g ws₀; kept = refl }

  module _ (ws now : List ℕ) (k at : ℕ) (a : Writing program ts g ws₀ n start before ws now k at) where
    pub write_room : Room g ws₀ → Room g ws
    write_room r = room_same r a.unmoved.long

    pub write_more : (w at' : ℕ) (ws' after : List ℕ) → length before < 2 ^ 64 → k < n → w ≡ word_of ws k → Shown program ts g ws (shown_by g ws w) at now ws' after at'
        → Writing program ts g ws₀ n start before ws' after (k + 1) at'
    unfolding shown_first
    write_more w at' ws' after l h e s =
        let q : w ≡ word_of ws₀ k = e ∙ word_same in
        let v = rw (lines_same g ws₀ ws a.unmoved program ts (shown_by g ws w), shown_by_same g ws₀ ws a.unmoved w) at s.wrote in
        record {
          upto = omega arith;
          wrote = rw (add-one, lines_more program ts ws₀ (shown_first g ws₀ k) (shown_by g ws₀ (word_of ws₀ k))) ((then) l a.wrote (rw q at v));
          unmoved = unmoved_then a.unmoved s.unmoved;
          kept = ap length s.wrote.laid ∙ length_at at _ now ∙ a.kept;
        }
      where
        word_same : word_of ws k ≡ word_of ws₀ k
        word_same =
            let f = get_or ws₀ frame 0 in
            let same = same_fixed g ws₀ ws a.unmoved in
            rw (same frame (omega arith), same (argument_place (f + k)) (omega arith), same (argument_place (f + number_of ws₀ f k)) (omega arith))

    pub write_all : n ≡ get_or ws₀ declared 0 → n ≤ k → Shown program ts g ws₀ (shown_first g ws₀ (get_or ws₀ declared 0)) start before ws now at
    write_all e h = let q : k ≡ get_or ws₀ declared 0 = omega (arith, a.upto) in record { wrote = rw (← q) a.wrote; unmoved = a.unmoved }

-- ---- the picture
module _ (w h : ℤ) (fw : SFits w32 w) (fh : SFits w32 h) where
  same_head : head (seen w) (seen h) ≡ head w h
  same_head = rw (to_z-of_z w32 w fw, to_z-of_z w32 h fh)

  pub picture_written : (program ts g ws : List ℕ) {m at r : ℕ} {before first ws' now after : List ℕ} → length before < 2 ^ 64 → WroteAt 0 (head (seen w) (seen h)) before first m
      → Shown program ts g ws (shown_first g ws (get_or ws declared 0)) m first ws' now at → WroteAt at tail now after r → Pictured program ts g ws w h before ws' after r
  picture_written program ts g ws {m} {at} {r} {before} {first} l p s q = record {
    wrote = rw (picture_parts w h (scene_in program g (raw ts ws)))
        ((then) l (rw same_head at p) ((then) (rw (p.laid, length_at 0 (head (seen w) (seen h)) before) l) s.wrote q));
    unmoved = s.unmoved;
  }

  module _ {x y : ℕ} (p : x ≡ length (head (seen w) (seen h))) (q : y ≡ length tail) where
    frame_is : x + y ≡ length (head w h) + 12
    frame_is = let a : x ≡ length (head w h) = p ∙ ap length same_head in omega (arith, length_tail)

    pub frame_fits : Fits w64 (x + y)
    frame_fits = record { fits = omega (arith, frame_is, length_head w h, decimal_short w fw, decimal_short h fh) }

    pub length_is : (ws : List ℕ) (r : ℕ) → r ≡ saturated (x + y + get_or ws lines_length 0) → r ≡ saturated (length (picture_of w h []) + get_or ws lines_length 0)
    unfolding lines_of
    length_is ws r e = let z : x + y ≡ length (picture_of w h []) = omega (arith, frame_is, length_picture w h []) in rw (← z) e
