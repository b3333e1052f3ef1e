-- The picture: the figures that shapes show, a step for each component reached, and the bytes of their lines counted.
use Prim.Native.Nat.{ℕ, zero, suc, ◌+◌, ◌-◌, ◌*◌, ◌%◌, ◌^◌, ◌≤◌, ◌<◌}
use native.Mathlib.Omega.{arith}
use native.Mathlib.Nat.{le_refl, le_trans}
use mathlib.Core.Path.{◌≡◌, refl, ap, sym, ◌∙◌, subst}
use mathlib.Core.Bool.{Bool, true, false}
use mathlib.Core.List.{List, [], ◌∷◌, ◌++◌}
use lib.ListN.{get_or, set, length, length-append}
use Rattle.meaning.specs.Basics.{if◌then◌otherwise◌}
use Rattle.meaning.specs.Token.{Token}
use Rattle.meaning.specs.Figure as Meaning
use Rattle.meaning.specs.State.{State, by_content, shapes_held}
use Rattle.meaning.specs.Run.{Run}
use Rattle.meaning.specs.Run as Run
use Rattle.meaning.specs.Book.{Amounts, added, shortage_of}
use Rattle.meaning.specs.Group.{each, figures_of}
use Rattle.machine.specs.declared.Value.{Value}
use Rattle.machine.specs.declared.Value.TheVariants.{Integer, Text, Boolean, Nothing, Table, Shape}
use Rattle.machine.specs.Words.{unpacked}
use Rattle.machine.specs.Layout.{steps_used, shapes_used, declared, waiting_held, lines_length, frame, steps_granted, shapes_granted}
use Rattle.machine.specs.Act.{Raw, raw, Act}
use Rattle.machine.specs.Act as Act
use Rattle.machine.specs.Shapes.{is_group_at, destroyed_at, figure_at}
use Rattle.machine.specs.Groups.{way_word, way_place, walk_in}
use Rattle.machine.specs.Show.{measure, show_reached, show, show_in, show_from, show_scene}
use Rattle.machine.specs.Variables.{holding_of}
use Rattle.simulation.specs.Meant.{meant_figure, components_of}
use Rattle.simulation.specs.Follows.{Grants, Related, Follows}
use Rattle.simulation.proofs.Binding.{act_after}
use Rattle.simulation.proofs.Frames.{group_stays}
use Rattle.simulation.proofs.Results.{due, mapped, given, onward, steps_told, spent, spent_then}
use Rattle.simulation.proofs.Counting.{other, here, step_related}
use Rattle.simulation.proofs.Usable.{figure_found, group_found}
use Rattle.simulation.proofs.Walking.{Reached, Gathers, Walks, spare_lines, spare_after, walk_follows}
use Rattle.simulation.proofs.Destroying.{Quiet, quiet_nil, quiet_on, run_unit, left}
use Rattle.simulation.proofs.Clearing.{living, into, over_from, Tells, variables_follow}

-- ---- how long the lines of some figures are
unfoldable pub sizes : (Meaning.Figure → ℕ) → List Meaning.Figure → ℕ
sizes size' [] = 0
sizes size' (x ∷ xs) = size' x + sizes size' xs

sizes_append : (size' : Meaning.Figure → ℕ) (xs ys : List Meaning.Figure) → sizes size' (xs ++ ys) ≡ sizes size' xs + sizes size' ys
unfolding sizes
sizes_append size' [] ys = omega arith
sizes_append size' (x ∷ xs) ys = omega (arith, sizes_append size' xs ys)

-- no line is longer
abbrev pub line_limit : ℕ
line_limit = 65616

-- Texts and variables stay. The lines of what came were counted as words add, where the texts are those that were measured; and none is longer than the limit.
pub record Lines (texts : List ℕ) (size' : Meaning.Figure → ℕ) (r : Raw) (xs : List Meaning.Figure) (r' : Raw) : Type 0 where
  pub quiet : Quiet r xs r'
  pub lines : r.texts ≡ texts → get_or r'.words lines_length 0 % 2 ^ 64 ≡ (get_or r.words lines_length 0 + sizes size' xs) % 2 ^ 64
  pub within : get_or r.words lines_length 0 < 2 ^ 64 → get_or r'.words lines_length 0 < 2 ^ 64
  pub short : sizes size' xs ≤ length xs * line_limit

Any : Raw → Type 0
Any r = Unit {0}

module _ (texts : List ℕ) (size' : Meaning.Figure → ℕ) where
  lines_nil : (r : Raw) → Lines texts size' r [] r
  unfolding sizes
  lines_nil r = record { quiet = quiet_nil r; lines = λ t. omega arith; within = λ l. l; short = omega arith }

  lines_more : {r r₁ r₂ : Raw} {xs ys : List Meaning.Figure} → Lines texts size' r xs r₁ → Lines texts size' r₁ ys r₂ → Lines texts size' r (xs ++ ys) r₂
  lines_more {xs = xs} {ys = ys} a b = record {
    quiet = quiet_on _ a.quiet b.quiet;
    lines = λ t. omega (arith, a.lines t, b.lines (a.quiet.texts ∙ t), sizes_append size' xs ys);
    within = λ l. b.within (a.within l);
    short = omega (arith, a.short, b.short, sizes_append size' xs ys, length-append xs ys);
  }

  gathered : Gathers (Lines texts size') Any
  unfolding Any
  gathered = record { nil = lines_nil; more = lines_more; keep = λ a b. tt }

  tells : Tells (Lines texts size')
  tells = record { nil = lines_nil; more = lines_more; quiet = λ a. a.quiet }

module _ (program : List ℕ) (ts : List Token) (g : List ℕ) {granted : Amounts} (gr : Grants g granted) (texts : List ℕ) (size : Raw → ℕ → ℕ)
    (size' : Meaning.Figure → ℕ) where
  abbrev Here : Raw → State → Amounts → Type 0
  Here r s total = Related program ts g r s total

  abbrev Leads : ℕ → Raw → List Meaning.Figure → Raw → State → Amounts → Type 0
  Leads d r xs r' s total = Reached program ts g (Lines texts size') d r xs r' s total

  -- a line is as long as the figure's, and within the limit
  pub record Sizes : Type 0 where
    pub is : {r : Raw} {s : State} {total : Amounts} → Here r s total → (i : ℕ) → i < get_or r.words shapes_used 0 → is_group_at r.words i ≡ false → r.texts ≡ texts
        → size r i ≡ size' (meant_figure program r.texts (figure_at r.words i))
    pub short : {r : Raw} {s : State} {total : Amounts} → Here r s total → (i : ℕ) → i < get_or r.words shapes_used 0 → is_group_at r.words i ≡ false
        → size' (meant_figure program r.texts (figure_at r.words i)) ≤ line_limit

  module _ (known : Sizes) where
    abbrev visit' : ℕ → ℕ → Run.Action (List Meaning.Figure)
    visit' b c = Run.◌>>◌ (Run.count 0) (figures_of b 0 c)

    -- a figure's line
    measured : {r : Raw} {s : State} {total : Amounts} (h : Here r s total) (d i : ℕ) (l : i < get_or r.words shapes_used 0) (n : is_group_at r.words i ≡ false)
        → Leads d r (meant_figure program r.texts (figure_at r.words i) ∷ []) (raw r.texts (set r.words lines_length ((get_or r.words lines_length 0 + size r i) % 2 ^ 64))) s total
    unfolding sizes
    measured {r} h d i l n = record {
      after = spare_after h lines_length _ spare_lines;
      ways = λ e x y. other h lines_length _ (way_place e) (λ q. omega arith);
      acc = record {
        quiet = record {
          texts = refl;
          low = λ j x y. other h lines_length _ j (λ q. omega arith);
          declared = other h lines_length _ declared (λ q. omega arith);
        };
        lines = λ t. rw (here h lines_length ((get_or r.words lines_length 0 + size r i) % 2 ^ 64) (omega arith)) (omega (arith, known.is h i l n t));
        within = λ q. rw (here h lines_length ((get_or r.words lines_length 0 + size r i) % 2 ^ 64) (omega arith)) (omega arith);
        short = omega (arith, known.short h i l n);
      };
    }

    -- a step, and nothing else
    stepped : {r : Raw} {s : State} {total : Amounts} (h : Here r s total) (d : ℕ) (fit : get_or r.words steps_used 0 + 1 ≤ steps_granted g)
        → Leads d r [] (raw r.texts (set r.words steps_used (get_or r.words steps_used 0 + 1))) s (added total (due Run.steps 1 0))
    unfolding sizes
    stepped {r} h d fit = record {
      after = (step_related h 0 fit).after;
      ways = λ e x y. other h steps_used _ (way_place e) (λ q. omega arith);
      acc = record {
        quiet = record { texts = refl; low = λ j x y. other h steps_used _ j (λ q. omega arith); declared = other h steps_used _ declared (λ q. omega arith) };
        lines = λ t. omega (arith, other h steps_used (get_or r.words steps_used 0 + 1) lines_length (λ q. omega arith));
        within = λ l. omega (arith, other h steps_used (get_or r.words steps_used 0 + 1) lines_length (λ q. omega arith));
        short = omega arith;
      };
    }

    chained : {d : ℕ} {r r₁ r₂ : Raw} {xs ys : List Meaning.Figure} {s₁ s₂ : State} {total₁ total₂ : Amounts} → Leads d r xs r₁ s₁ total₁ → Leads d r₁ ys r₂ s₂ total₂
        → Leads d r (xs ++ ys) r₂ s₂ total₂
    chained a b = record { after = onward a.after b.after; ways = λ e l m. b.ways e l m ∙ a.ways e l m; acc = lines_more texts size' a.acc b.acc }

    at_figure : (b c d : ℕ) {r : Raw} {s : State} {total : Amounts} (h : Here r s total) → c < get_or r.words shapes_used 0 → is_group_at r.words c ≡ false
        → Follows granted total (λ _ xs r' s' total'. Leads d r xs r' s' total') (show_reached size g c r) (visit' (suc b) c s)
    unfolding show_reached measure figures_of by_content if◌then◌otherwise◌ Act.◌>>=◌ Act.go_on Act.held Act.store Run.◌>>=◌ Run.go_on Run.current Run.give shortage_of
    at_figure b c d {r} {s} h l n =
        spent_then Run.steps steps_used (steps_granted g) 1 79 0 r s h.steps_taken gr.steps refl (steps_told h) _ _
        (λ fit.
        let a = stepped h d fit in
        let m = le_trans l a.after.later.shapes in
        let same = group_stays (a.after.later.figures c l) ∙ n in
        rw (same, figure_found a.after.related c m same) (given (chained a (measured a.after.related d c m same))))

    splits : (b c : ℕ) {r : Raw} {s : State} {total : Amounts} (h : Here r s total) (l : c < get_or r.words shapes_used 0) → is_group_at r.words c ≡ true
        → visit' (suc b) c s ≡ Run.◌>>◌ (Run.count 0) (Run.◌>>=◌ (each (visit' b) (components_of g r.words c)) Run.give) s
    unfolding figures_of by_content Run.◌>>=◌ Run.go_on Run.current Run.spend
    splits b c {r} {s} h l e =
        rw (group_found h c l e)
        (ap (λ (m : Run (List Meaning.Figure)). Run.following (Run.taking Run.steps 1 0 ∷ []) m) (sym (run_unit (each (visit' b) (components_of g r.words c) s))))

    enters : (c d : ℕ) {r : Raw} {s : State} {total : Amounts} (h : Here r s total) (l : c < get_or r.words shapes_used 0) → is_group_at r.words c ≡ true
        → Follows granted total (λ _ _ r' s' total'. Leads d r [] r' s' total') (show_reached size g c r) (Run.count 0 s)
    unfolding show_reached if◌then◌otherwise◌ Act.◌>>=◌ Act.go_on Act.held Act.give shortage_of
    enters c d {r} {s} {total} h l e =
        act_after {R = λ _ _ r' s' total'. Leads d r [] r' s' total'} _ (λ a b r' s' total' q. record {
          result = tt;
          slices = r';
          is = rw (group_stays (q.after.later.figures c l) ∙ e);
          holds = q;
        })
        (spent Run.steps steps_used (steps_granted g) 1 79 0 r s h.steps_taken gr.steps refl (steps_told h) (λ fit. stepped h d fit))

    walks : Walks program ts g granted (Lines texts size') Any (gathered texts size') (show_reached size g) (λ d. Act.give tt) visit' (λ c. Run.count 0) Run.give
    unfolding Act.give Run.give Any
    walks = record {
      atoms = λ b c d h w l e. at_figure b c d h l e;
      splits = λ b c h l e. splits b c h l e;
      enters = λ c d h w l e. enters c d h l e;
      leaves = λ d k n {r} {r₂} {s} {s₂} {total} {total₂} {xs} h w l x.
          given (left _ h l x (record {
            quiet = record {
              texts = x.acc.quiet.texts;
              low = λ j a b. x.acc.quiet.low j a b ∙ other h (way_place d) _ j (λ q. omega arith);
              declared = x.acc.quiet.declared ∙ other h (way_place d) _ declared (λ q. omega arith);
            };
            lines = λ t. x.acc.lines t ∙ ap (λ m. (m + sizes size' xs) % 2 ^ 64) (other h (way_place d) _ lines_length (λ q. omega arith));
            within = λ m. x.acc.within (rw (other h (way_place d) (way_word k n (get_or r.words waiting_held 0)) lines_length (λ q. omega arith)) m);
            short = x.acc.short;
          }));
      aside = λ d w k. tt;
    }

    -- a shape that is not destroyed
    abbrev shown : ℕ → Act (Unit {0})
    shown i = Act.◌>>=◌ Act.held (λ ws. if is_group_at ws i then (λ _. walk_in (show_reached size g) (λ d. Act.give tt) (shapes_granted g) g 0 i) otherwise λ _. measure size i)

    shows : {r : Raw} {s : State} {total : Amounts} (h : Here r s total) (i : ℕ) → i < get_or r.words shapes_used 0
        → Follows granted total (λ _ xs r' s' total'. Leads 0 r xs r' s' total') (shown i r) (figures_of (suc i) 0 i s)
    unfolding figures_of by_content measure if◌then◌otherwise◌ Any Act.◌>>=◌ Act.go_on Act.held Act.store Run.◌>>=◌ Run.go_on Run.current Run.give
    shows {r} {s} {total} h i l = go (is_group_at r.words i) refl
      where
        go : (t : Bool) → is_group_at r.words i ≡ t → Follows granted total (λ _ xs r' s' total'. Leads 0 r xs r' s' total') (shown i r) (figures_of (suc i) 0 i s)
        go true e =
            let q : suc (shapes_granted g - 1) ≡ shapes_granted g = omega (arith, h.sound.counted.shapes) in
            rw (e, group_found h i l e)
            (subst (λ b. Follows granted total (λ _ xs r' s' total'. Leads 0 r xs r' s' total') (walk_in (show_reached size g) (λ d. Act.give tt) b g 0 i r) (each (visit' i) (components_of g
            r.words i) s)) q
            (walk_follows program ts g granted (Lines texts size') Any (gathered texts size') (show_reached size g) (λ d. Act.give tt) visit' (λ c. Run.count 0) Run.give walks
            (shapes_granted g - 1) i 0 i (omega (arith, q)) (omega (arith, h.sound.counted.shapes)) (le_refl i) r s total h tt l e))
        go false e = rw (e, figure_found h i l e) (given (measured h 0 i l e))

    -- ---- of all of main's variables
    at_once : (i : ℕ) (r : Raw) → show size g i r ≡ living shown i r
    unfolding show living if◌then◌otherwise◌ Act.◌>>=◌ Act.go_on Act.held
    at_once i r = go (destroyed_at r.words i)
      where
        go : (b : Bool) → (if b then (λ _. Act.give tt) otherwise λ _. if is_group_at r.words i then (λ _. walk_in (show_reached size g) (λ d. Act.give tt)
            (shapes_granted g) g 0 i) otherwise λ _. measure size i) r
            ≡ (if b then (λ _. Act.give tt) otherwise λ _. shown i) r
        go true = refl
        go false = refl

    shown_in : (v : Value) → show_in size g v ≡ into shown v
    unfolding show_in into
    shown_in (Integer z) = refl
    shown_in (Text t) = refl
    shown_in (Boolean b) = refl
    shown_in Nothing = refl
    shown_in (Table t) = refl
    shown_in (Shape i) = λ k r. at_once i r k

    shown_from : (n f k : ℕ) → show_from size g f k n ≡ over_from shown f k n
    unfolding show_from over_from
    shown_from zero f k = refl
    shown_from (suc n) f k =
        ap (λ (a : List ℕ → Act (Unit {0})). Act.◌>>=◌ Act.held a) (λ i ws. Act.◌>>◌ (shown_in (unpacked (holding_of ws f k)) i) (shown_from n f (k + 1) i))

    -- the figures are those of the shapes that main's variables hold, and the lines' length is counted
    shows_scene : {r : Raw} {s : State} {total : Amounts} (h : Here r s total)
        → Follows granted total (λ _ xs r' s' total'. Reached program ts g (Lines texts size') 0 (raw r.texts (set r.words lines_length 0)) xs r' s' total') (show_scene size g r)
        (each (λ i. figures_of (suc i) 0 i) (shapes_held s.variables) s)
    unfolding show_scene Act.◌>>=◌ Act.go_on Act.load Act.store
    shows_scene {r} {s} {total} h =
        let a = spare_after h lines_length 0 spare_lines in
        let ws = set r.words lines_length 0 in
        subst (λ (f : ℕ → ℕ → ℕ → Act (Unit {0})). Follows granted total (λ _ xs r' s' total'. Reached program ts g (Lines texts size') 0 (raw r.texts ws) xs r' s' total')
        (f (get_or ws frame 0) 0 (get_or ws declared 0) (raw r.texts ws)) (each (λ i. figures_of (suc i) 0 i) (shapes_held s.variables) s))
        (sym (λ i f k n. shown_from n f k i))
        (variables_follow program ts g granted (Lines texts size') (tells texts size') shown (λ i. figures_of (suc i) 0 i) (record { does = λ h i l. shows h i l }) a.related)

    -- THE LAW: the slices stand for the state still, and hold the length as words add it
    pub record Measured (xs : List Meaning.Figure) (r : Raw) (s : State) (total : Amounts) : Type 0 where
      pub related : Related program ts g r s total
      pub lines : get_or r.words lines_length 0 ≡ sizes size' xs % 2 ^ 64
      pub short : sizes size' xs ≤ length xs * line_limit

    pub measures : {r : Raw} {s : State} {total : Amounts} (h : Here r s total) → r.texts ≡ texts
        → Follows granted total (λ _ xs r' s' total'. Measured xs r' s' total') (show_scene size g r) (each (λ i. figures_of (suc i) 0 i) (shapes_held s.variables) s)
    measures {r} h t =
        let zeroed : get_or (set r.words lines_length 0) lines_length 0 ≡ 0 = here h lines_length 0 (omega arith) in
        mapped (λ _ xs r' s' total' a. record {
          related = a.after.related;
          lines = omega (arith, zeroed, a.acc.lines t, a.acc.within (omega (arith, zeroed)));
          short = a.acc.short;
        }) (shows_scene h)
