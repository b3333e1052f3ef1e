-- Lines written by a walk: what is shown, and what is yet to be.
-- Assumes nothing.
use Prim.Native.Nat.{ℕ, zero, suc, ◌+◌, ◌-◌, ◌<◌}
use mathlib.Core.Path.{◌≡◌, refl, ap, sym, ◌∙◌}
use mathlib.Core.Bool.{Bool, true, false}
use mathlib.Core.List.{List, [], ◌∷◌, ◌++◌, append_assoc}
use native.Mathlib.Omega.{arith}
use lib.ListN.{get_or, length, length-set}
use lib.Seq.{get_or-set_same, get_or-set_other}
use lib.Dec.{ltb}
use borrow.Author.Tests.{lt-ltb, le-ltb}
use Rattle.meaning.specs.Basics.{if◌then◌otherwise◌}
use Rattle.meaning.specs.Picture.{lines_of}
use Rattle.machine.specs.Layout.{fixed_words, shapes_granted, shape_place, component_place, waiting_held}
use Rattle.machine.specs.Words.{number_in}
use Rattle.machine.specs.Act.{raw, give}
use Rattle.machine.specs.Shapes.{is_group_at, destroyed_at, figure_at}
use Rattle.machine.specs.Groups.{component_at, first_at, count_at, way_place, way_word}
use Rattle.machine.specs.Show.{shown_from, figures_in}
use Rattle.picture.proofs.Frames.{lines_append}
use Rattle.std.specs.Prelude.{Ok}
use Rattle.walks.specs.declared.Walk.{Walk}
use Rattle.walks.specs.Walks.{slot_in, left_in, count_within, Walks, WalksBy, owed_by, Turned, Under, past, back_at, way_laid, down_in, Descended}
use Rattle.walks.proofs.WalkLaws.{Keeps, Steady, slot_back, left_back}
use Rattle.machine.proofs.Acts.{given}
use Rattle.walks.proofs.TurnLaws.{walk_at, turn_climbs, turn_over, turn_figure, turn_group, less_one_lem}
use Rattle.scene.specs.Scene.{figure_for, figures_for, shown_by}
use Rattle.scene.specs.Measuring.{nothing_left}
use Rattle.showing.specs.Showing.{Unmoved, lines_for, figure_within, shown_here, level_shown, above_shown, left_shown, Moved}

-- ---- all but the way
pub unmoved_none : (g ws : List ℕ) → Unmoved g ws ws
unmoved_none g ws = record { long = refl; same = λ j h. refl }

pub unmoved_then : {g ws ws' ws'' : List ℕ} → Unmoved g ws ws' → Unmoved g ws' ws'' → Unmoved g ws ws''
unmoved_then u v = record { long = v.long ∙ u.long; same = λ j h. v.same j h ∙ u.same j h }

unmoved_laid : (g ws : List ℕ) (d k n : ℕ) → d < shapes_granted g → Unmoved g ws (way_laid ws d k n)
unfolding way_laid
unmoved_laid g ws d k n l = record { long = length-set ws (way_place d) _; same = λ j h. get_or-set_other ws (way_place d) j _ 0 (h d l) }

module _ (g ws ws' : List ℕ) (u : Unmoved g ws ws') where
  same_first : (i : ℕ) → get_or ws' (shape_place i) 0 ≡ get_or ws (shape_place i) 0
  same_first i = u.same (shape_place i) (λ e l q. omega arith)

  same_second : (i : ℕ) → get_or ws' (shape_place i + 1) 0 ≡ get_or ws (shape_place i + 1) 0
  same_second i = u.same (shape_place i + 1) (λ e l q. omega arith)

  same_third : (i : ℕ) → get_or ws' (shape_place i + 2) 0 ≡ get_or ws (shape_place i + 2) 0
  same_third i = u.same (shape_place i + 2) (λ e l q. omega arith)

  same_component : (k : ℕ) → get_or ws' (component_place g k) 0 ≡ get_or ws (component_place g k) 0
  same_component k = u.same (component_place g k) (λ e l q. omega arith)

  pub same_fixed : (j : ℕ) → j < fixed_words → get_or ws' j 0 ≡ get_or ws j 0
  same_fixed j h = u.same j (λ e l q. omega arith)

  shown_same : (inside inside' : ℕ → List ℕ) → ((c : ℕ) → inside' c ≡ inside c) → (n k : ℕ) → shown_from inside' g ws' k n ≡ shown_from inside g ws k n
  unfolding shown_from
  shown_same inside inside' f zero k = refl
  shown_same inside inside' f (suc n) k =
      rw (same_component k, same_first (component_at g ws k), f (component_at g ws k), shown_same inside inside' f n (k + 1))

  pub figures_same : (b i : ℕ) → figures_in b g ws' i ≡ figures_in b g ws i
  unfolding figures_in
  figures_same zero i = refl
  figures_same (suc b) i =
      rw (same_first i, same_second i, shown_same (figures_in b g ws) (figures_in b g ws') (figures_same b) (count_at ws i) (first_at ws i))

  level_same : (d k n : ℕ) → level_shown g ws' d k n ≡ level_shown g ws d k n
  unfolding level_shown
  level_same d k n = shown_same (figures_in (shapes_granted g - suc d) g ws) (figures_in (shapes_granted g - suc d) g ws') (figures_same (shapes_granted g - suc d)) n k

  above_same : (d : ℕ) → ((e : ℕ) → e < d → get_or ws' (way_place e) 0 ≡ get_or ws (way_place e) 0) → above_shown g ws' d ≡ above_shown g ws d
  unfolding above_shown
  above_same zero h = refl
  above_same (suc d) h = rw (h d (omega arith), level_same d (slot_in (get_or ws (way_place d) 0) + 1) (left_in (get_or ws (way_place d) 0)), above_same d (λ e l. h e (omega arith)))

  figure_for_same : (program ts : List ℕ) (i : ℕ) → figure_for program (raw ts ws') i ≡ figure_for program (raw ts ws) i
  unfolding figure_for figure_at
  figure_for_same program ts i = rw (same_first i, same_second i, same_third i)

  figures_for_same : (program ts shapes : List ℕ) → figures_for program (raw ts ws') shapes ≡ figures_for program (raw ts ws) shapes
  unfolding figures_for
  figures_for_same program ts [] = refl
  figures_for_same program ts (i ∷ more) = rw (figure_for_same program ts i, figures_for_same program ts more)

  pub lines_same : (program ts shapes : List ℕ) → lines_for program ts ws' shapes ≡ lines_for program ts ws shapes
  lines_same program ts shapes = ap lines_of (figures_for_same program ts shapes)

  pub shown_by_same : (w : ℕ) → shown_by g ws' w ≡ shown_by g ws w
  unfolding shown_by
  shown_by_same w = rw (same_first (number_in w), figures_same (shapes_granted g) (number_in w))

-- ---- lines of several
figures_append : (program ts ws shapes more : List ℕ) → figures_for program (raw ts ws) (shapes ++ more) ≡ figures_for program (raw ts ws) shapes ++ figures_for program (raw ts ws) more
unfolding figures_for
figures_append program ts ws [] more = refl
figures_append program ts ws (i ∷ shapes) more = rw (figures_append program ts ws shapes more)

pub lines_more : (program ts ws shapes more : List ℕ) → lines_for program ts ws (shapes ++ more) ≡ lines_for program ts ws shapes ++ lines_for program ts ws more
lines_more program ts ws shapes more = ap lines_of (figures_append program ts ws shapes more) ∙ lines_append (figures_for program (raw ts ws) shapes) (figures_for program (raw ts ws) more)

-- ---- a shape at a depth
module _ (g ws : List ℕ) (d c : ℕ) where
  pub figure_level : is_group_at ws c ≡ false → figures_in (shapes_granted g - d) g ws c ≡ figure_within g d c
  unfolding figure_within figures_in if◌then◌otherwise◌
  figure_level f = go (shapes_granted g - d) refl
    where
      go : (b : ℕ) → shapes_granted g - d ≡ b → figures_in b g ws c ≡ figure_within g d c
      go zero q = let h : ltb d (shapes_granted g) ≡ false = le-ltb d (shapes_granted g) (omega arith) in rw h
      go (suc b) q = let h : ltb d (shapes_granted g) ≡ true = lt-ltb d (shapes_granted g) (omega arith) in rw (h, f)

  pub group_level : is_group_at ws c ≡ true → figures_in (shapes_granted g - d) g ws c ≡ level_shown g ws d (first_at ws c) (count_within g ws d c)
  unfolding level_shown count_within figures_in shown_from if◌then◌otherwise◌
  group_level f = go (shapes_granted g - d) refl
    where
      go : (b : ℕ) → shapes_granted g - d ≡ b → figures_in b g ws c ≡ level_shown g ws d (first_at ws c) (count_within g ws d c)
      go zero q = let h : ltb d (shapes_granted g) ≡ false = le-ltb d (shapes_granted g) (omega arith) in rw h
      go (suc b) q =
          let h : ltb d (shapes_granted g) ≡ true = lt-ltb d (shapes_granted g) (omega arith) in
          let e : shapes_granted g - suc d ≡ b = omega arith in
          rw (h, f, e)

-- ---- a turn
laid_here : (ws : List ℕ) (d k n : ℕ) → way_place d < length ws → get_or (way_laid ws d k n) (way_place d) 0 ≡ way_word k n (get_or ws waiting_held 0)
unfolding way_laid
laid_here ws d k n h = get_or-set_same ws (way_place d) _ 0 h

laid_above : (ws : List ℕ) (d k n e : ℕ) → e < d → get_or (way_laid ws d k n) (way_place e) 0 ≡ get_or ws (way_place e) 0
unfolding way_laid
laid_above ws d k n e l = get_or-set_other ws (way_place d) (way_place e) _ 0 (λ q. omega arith)

nothing_steady : (g : List ℕ) → Steady g nothing_left nothing_left
unfolding nothing_left give Keeps
nothing_steady g = record { reached = λ p c e r l. refl; left = λ p d e r l. refl }

module _ (g ws : List ℕ) where
  -- what a turn to a walk shows
  abbrev Shows : ℕ → ℕ → ℕ → Walk → List ℕ → Type 0
  Shows d k n next ws' = shown_here g ws d k n ++ left_shown g ws' next.depth next.slot next.left ≡ left_shown g ws d k n

  -- a turn as one that does nothing
  moved : (w next : Walk) (ws' : List ℕ) → Turned nothing_left nothing_left g 0 ws w (Ok next) ws' → Unmoved g ws ws' → Shows w.depth w.slot w.left next ws' → Moved g ws w next ws'
  unfolding WalksBy owed_by
  moved w next ws' x u s = record { walks = x.walks; less = x.less; unmoved = u; shown = s }

  module _ (k : ℕ) where
    climb_shown : (d n : ℕ) → (d + n ≡ 0 → ⊥) → n ≡ 0 → Shows d k n (back_at ws (d - 1)) ws
    unfolding back_at shown_here left_shown level_shown above_shown shown_from
    climb_shown zero n m z = absurd (m (omega arith))
    climb_shown (suc d) n m z = rw (z, less_one_lem d)

    module _ (d c : ℕ) (e : c ≡ component_at g ws k) (b : Bool) (f : b ≡ destroyed_at ws c) where
      over_shown : (n : ℕ) → (n ≡ 0 → ⊥) → b ≡ true → Shows d k n (walk_at d (k + 1) (n - 1)) ws
      unfolding shown_here left_shown level_shown shown_from if◌then◌otherwise◌
      over_shown zero m t = absurd (m refl)
      over_shown (suc n) m t = rw (less_one_lem n, ← e, ← f, t)

      module _ (t : b ≡ false) (a : Bool) (i : a ≡ is_group_at ws c) where
        figure_shown : (n : ℕ) → (n ≡ 0 → ⊥) → a ≡ false → Shows d k n (walk_at d (k + 1) (n - 1)) ws
        unfolding shown_here left_shown level_shown shown_from if◌then◌otherwise◌
        figure_shown zero m v = absurd (m refl)
        figure_shown (suc n) m v =
            let one : d + 1 ≡ suc d = omega arith in
            rw (less_one_lem n, ← e, ← f, t, ← i, v, one, figure_level g ws (suc d) c (sym i ∙ v)) (sym (append_assoc (figure_within g (suc d) c) _ _))

        level_more : (n : ℕ) → level_shown g ws d k (suc n) ≡ figures_in (shapes_granted g - suc d) g ws c ++ level_shown g ws d (k + 1) n
        unfolding level_shown shown_from if◌then◌otherwise◌
        level_more n = rw (← e, ← f, t)

        group_shown : (n : ℕ) → Walks g ws (walk_at d k (suc n)) → a ≡ true → Shows d k (suc n) (down_in g (way_laid ws d k n) d c) (way_laid ws d k n)
        unfolding shown_here left_shown above_shown down_in if◌then◌otherwise◌
        group_shown n w v =
            let one : d + 1 ≡ suc d = omega arith in
            let deep : d < shapes_granted g = w.within (omega arith) in
            let u = unmoved_laid g ws d k n deep in
            let here = laid_here ws d k n (omega (arith, w.room.words)) in
            let slot : slot_in (get_or (way_laid ws d k n) (way_place d) 0) ≡ k = ap slot_in here ∙ slot_back k n (get_or ws waiting_held 0) (omega (arith, w.small)) in
            let left : left_in (get_or (way_laid ws d k n) (way_place d) 0) ≡ n = ap left_in here ∙ left_back k n (get_or ws waiting_held 0) (omega (arith, w.few)) in
            let kind : is_group_at (way_laid ws d k n) c ≡ true = rw (same_first g ws (way_laid ws d k n) u c) (sym i ∙ v) in
            let inner : level_shown g (way_laid ws d k n) (suc d) (first_at (way_laid ws d k n) c) (count_within g (way_laid ws d k n) (suc d) c) ≡ figures_in (shapes_granted g - suc d) g ws c =
            sym (group_level g (way_laid ws d k n) (suc d) c kind) ∙ figures_same g ws (way_laid ws d k n) u (shapes_granted g - suc d) c in
            rw (← e, ← f, t, ← i, v, one, inner, slot, left, level_same g ws (way_laid ws d k n) u d (k + 1) n, above_same g ws (way_laid ws d k n) u d (laid_above ws d k n))
            (sym (ap (λ (l : List ℕ). l ++ above_shown g ws d) (level_more n) ∙ append_assoc (figures_in (shapes_granted g - suc d) g ws c) (level_shown g ws d (k + 1) n) (above_shown g ws d)))

        group_shown_by : (n : ℕ) → Walks g ws (walk_at d k n) → (n ≡ 0 → ⊥) → a ≡ true → Shows d k n (down_in g (way_laid ws d k (n - 1)) d c) (way_laid ws d k (n - 1))
        group_shown_by zero w m v = absurd (m refl)
        group_shown_by (suc n) w m v = rw (less_one_lem n) (group_shown n w v)

  module _ (w : Walk) (u : Under g ws w) where
    pub moves_back : w.left ≡ 0 → (t : Walk) → t ≡ back_at ws (w.depth - 1) → Moved g ws w t ws
    unfolding nothing_left
    moves_back z t e =
        moved w t ws (turn_climbs nothing_left nothing_left g 0 ws w u z (nothing_steady g) (given tt) refl t e) (unmoved_none g ws) (rw e (climb_shown w.slot w.depth w.left u.more z))

    module _ (m : w.left ≡ 0 → ⊥) (c : ℕ) (e : c ≡ component_at g ws w.slot) (b : Bool) (f : b ≡ destroyed_at ws c) where
      pub moves_over : b ≡ true → (t : Walk) → t ≡ past w → Moved g ws w t ws
      moves_over t r q =
          moved w r ws (turn_over nothing_left nothing_left g 0 ws w u m c e b f t r q) (unmoved_none g ws) (rw q (over_shown w.slot w.depth c e b f w.left m t))

      module _ (t : b ≡ false) (a : Bool) (i : a ≡ is_group_at ws c) where
        pub moves_on : a ≡ false → (r : Walk) → r ≡ past w → Moved g ws w r ws
        unfolding nothing_left
        moves_on v r q =
            moved w r ws (turn_figure nothing_left nothing_left g 0 ws w u m c e b f t (nothing_steady g) (given tt) refl a i v r q) (unmoved_none g ws)
            (rw q (figure_shown w.slot w.depth c e b f t a i w.left m v))

        pub moves_down : a ≡ true → (ws' : List ℕ) (r : Walk) → Descended g ws w.depth w.slot (w.left - 1) c r ws' → Moved g ws w r ws'
        unfolding nothing_left
        moves_down v ws' r x =
            let deep : w.depth < shapes_granted g = u.walks.within (omega (arith, m)) in
            moved w r ws' (turn_group nothing_left nothing_left g 0 ws w u m c e b f t (nothing_steady g) (given tt) refl a i v x)
            (rw x.words (unmoved_laid g ws w.depth w.slot (w.left - 1) deep))
            (rw (x.place, x.words) (group_shown_by w.slot w.depth c e b f t a i w.left u.walks m v))
