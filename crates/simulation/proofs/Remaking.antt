-- Shapes made anew: a group's components first, which wait, and then a group of them.
use Prim.Native.Nat.{ℕ, zero, suc, ◌+◌, ◌-◌, ◌*◌, ◌/◌, ◌%◌, ◌^◌, ◌≤◌, ◌<◌}
use native.Mathlib.Omega.{arith}
use native.Mathlib.Nat.{le_refl, le_trans, div-one}
use mathlib.Core.Path.{◌≡◌, refl, ap, sym, ◌∙◌, subst}
use mathlib.Core.Logic.{◌≢◌}
use mathlib.Core.Bool.{Bool, true, false}
use mathlib.Core.List.{List, [], ◌∷◌, ◌++◌, append_assoc}
use lib.ListN.{get_or, set}
use lib.Seq.{get_or-set_same, get_or-set_other}
use lib.Dec.{ltb}
use borrow.Author.Tests.{ltb-true, ltb-false}
use Rattle.meaning.specs.Basics.{if◌then◌otherwise◌}
use Rattle.meaning.specs.Token.{Token}
use Rattle.meaning.specs.Figure as Meaning
use Rattle.meaning.specs.State.{State, atom, group, by_content}
use Rattle.meaning.specs.Run.{Event, End, result, error, unfinished, Run, run}
use Rattle.meaning.specs.Run as Run
use Rattle.meaning.specs.Book.{Amounts, shortage_of}
use Rattle.meaning.specs.Group.{each, remade}
use Rattle.meaning.specs.Group as Group
use Rattle.meaning.specs.Value as Value
use Rattle.machine.specs.declared.Value.{Value}
use Rattle.machine.specs.declared.Value.TheVariants.{Shape}
use Rattle.machine.specs.Layout.{steps_used, shapes_used, waiting_held, steps_granted, shapes_granted, shape_place}
use Rattle.machine.specs.Act.{Raw, raw, done, Act}
use Rattle.machine.specs.Act as Act
use Rattle.machine.specs.declared.Figure.{Figure}
use Rattle.machine.specs.Shapes.{is_group_at, figure_at, new_shape}
use Rattle.machine.specs.Groups.{way_word, way_place, waiting_place, walk_in, await, group_waiting, remake_reached, remake_left, remake_group, remake}
use Rattle.simulation.specs.Meant.{meant_value, meant_figure, listed, components_of}
use Rattle.simulation.specs.Sound.{Valid, Proper}
use Rattle.simulation.specs.Follows.{Grants, Related, Follows}
use Rattle.simulation.proofs.Binding.{bind, act_after}
use Rattle.simulation.proofs.Listed.{listed_same, listed_shift}
use Rattle.simulation.proofs.Frames.{group_stays, untouched_components, components_later}
use Rattle.simulation.proofs.Results.{mapped, given, After, AfterValue, onward, steps_told, spent, spent_then}
use Rattle.simulation.proofs.Counting.{other, here, AfterStep, step_related}
use Rattle.simulation.proofs.Usable.{figure_found, group_found}
use Rattle.simulation.proofs.Shapes.{AfterShapeValue, shape_value, makes_shape}
use Rattle.simulation.proofs.Growing.{AfterShape}
use Rattle.simulation.proofs.Grouping.{Source, makes_group}
use Rattle.simulation.proofs.Walking.{spare_way, spare_waiting, spare_after, Reached, Gathers, Walks, walk_follows}

-- ---- what waits, one behind the other
abbrev waiting_at : List ℕ → ℕ → ℕ
waiting_at ws k = get_or ws (waiting_place k) 0

record Awaits (r : Raw) (js : List ℕ) (r' : Raw) : Type 0 where
  many : ℕ
  held : get_or r'.words waiting_held 0 ≡ get_or r.words waiting_held 0 + many
  are : js ≡ listed (waiting_at r'.words) (get_or r.words waiting_held 0) many
  before : (k : ℕ) → k < get_or r.words waiting_held 0 → waiting_at r'.words k ≡ waiting_at r.words k
  older : (k : ℕ) → get_or r.words waiting_held 0 ≤ k → k < get_or r.words waiting_held 0 + many → waiting_at r'.words k < get_or r'.words shapes_used 0
  shapes : get_or r.words shapes_used 0 ≤ get_or r'.words shapes_used 0
  room : get_or r'.words waiting_held 0 + get_or r.words shapes_used 0 ≤ get_or r.words waiting_held 0 + get_or r'.words shapes_used 0

-- fewer wait than there are shapes
Room : Raw → Type 0
Room r = get_or r.words waiting_held 0 < get_or r.words shapes_used 0

listed_append : {A : Type 0} (f : ℕ → A) (k n m : ℕ) → listed f k n ++ listed f (k + n) m ≡ listed f k (n + m)
unfolding listed
listed_append f k zero m = let q : k + 0 ≡ k = omega arith in let z : 0 + m ≡ m = omega arith in rw (q, z)
listed_append f k (suc n) m =
    let q : k + suc n ≡ suc k + n = omega arith in
    let z : suc n + m ≡ suc (n + m) = omega arith in
    rw (q, z) (ap (λ l. f k ∷ l) (listed_append f (suc k) n m))

gathered : Gathers Awaits Room
unfolding Room listed
gathered = record {
  nil = λ r. record {
    many = 0;
    held = omega arith;
    are = refl;
    before = λ k l. refl;
    older = λ k x y. absurd (omega arith);
    shapes = le_refl _;
    room = le_refl _;
  };
  more = λ a b. more a b;
  keep = λ a b. omega (arith, a.room, b);
}
  where
    more : {r r₁ r₂ : Raw} {xs ys : List ℕ} → Awaits r xs r₁ → Awaits r₁ ys r₂ → Awaits r (xs ++ ys) r₂
    more {r} {r₁} {r₂} a b =
        let w = get_or r.words waiting_held 0 in
        record {
          many = a.many + b.many;
          held = omega (arith, a.held, b.held);
          are =
              rw (a.are, b.are, a.held) (ap (λ l. l ++ listed (waiting_at r₂.words) (w + a.many) b.many)
              (listed_same (waiting_at r₁.words) (waiting_at r₂.words) w a.many (λ k x y. sym (b.before k (omega (arith, a.held)))))
              ∙ listed_append (waiting_at r₂.words) w a.many b.many);
          before = λ k l. b.before k (omega (arith, a.held)) ∙ a.before k l;
          older = λ k x y. old k x y (ltb k (get_or r₁.words waiting_held 0)) refl;
          shapes = le_trans a.shapes b.shapes;
          room = omega (arith, a.room, b.room);
        }
      where
        old : (k : ℕ) → get_or r.words waiting_held 0 ≤ k → k < get_or r.words waiting_held 0 + (a.many + b.many) → (t : Bool) → ltb k (get_or r₁.words waiting_held 0) ≡ t
            → waiting_at r₂.words k < get_or r₂.words shapes_used 0
        old k x y true e =
            let l = ltb-true k (get_or r₁.words waiting_held 0) e in
            rw (b.before k l) (le_trans (a.older k x (omega (arith, a.held))) b.shapes)
        old k x y false e = let l = ltb-false k (get_or r₁.words waiting_held 0) e in b.older k l (omega (arith, a.held))

-- ---- runs one after the other
run_after : {A B : Type 0} (us vs : List Event) (e : End A) (k : A → Run.Action B) → Run.go_on (us ++ vs) e k ≡ Run.following us (Run.go_on vs e k)
unfolding Run.go_on
run_after us vs (result a s) k = ap (λ ws. run ws (k a s).end) (append_assoc us vs (k a s).takings)
run_after us vs (error n p) k = refl
run_after us vs unfinished k = refl

pub run_assoc : {A B C : Type 0} (us : List Event) (e : End A) (f : A → Run.Action B) (k : B → Run.Action C)
    → Run.go_on (Run.go_on us e f).takings (Run.go_on us e f).end k ≡ Run.go_on us e (λ a s. Run.go_on (f a s).takings (f a s).end k)
unfolding Run.go_on
run_assoc us (result a s) f k = run_after us (f a s).takings (f a s).end k
run_assoc us (error n p) f k = refl
run_assoc us unfinished f k = refl

module _ (program : List ℕ) (ts : List Token) (g : List ℕ) {granted : Amounts} (gr : Grants g granted) (p : ℕ) where
  abbrev Here : Raw → State → Amounts → Type 0
  Here r s total = Related program ts g r s total

  abbrev Leads : ℕ → Raw → List ℕ → Raw → State → Amounts → Type 0
  Leads d r js r' s total = Reached program ts g Awaits d r js r' s total

  -- ---- one more waits, which was made
  module _ {r : Raw} {s : State} {total : Amounts} (h : Here r s total) (j : ℕ) (made : j < get_or r.words shapes_used 0) (w : get_or r.words waiting_held 0 < get_or r.words shapes_used 0) where
    abbrev k : ℕ
    k = get_or r.words waiting_held 0

    small : k < shapes_granted g
    small = omega (arith, w, h.sound.counted.shapes)

    first : After program ts g r (raw r.texts (set r.words (waiting_place k) j)) s total
    first = spare_after h (waiting_place k) j (spare_way k 4 small (omega arith) (omega arith))

    abbrev waits : Raw
    waits = raw r.texts (set (set r.words (waiting_place k) j) waiting_held (k + 1))

    second : After program ts g (raw r.texts (set r.words (waiting_place k) j)) waits s total
    second = spare_after first.related waiting_held (k + 1) spare_waiting

    as_was : (i : ℕ) → i ≢ waiting_place k → i ≢ waiting_held → get_or waits.words i 0 ≡ get_or r.words i 0
    as_was i a b = other first.related waiting_held (k + 1) i b ∙ other h (waiting_place k) j i a

    now_held : get_or waits.words waiting_held 0 ≡ k + 1
    now_held = here first.related waiting_held (k + 1) (omega arith)

    now_there : waiting_at waits.words k ≡ j
    now_there =
        other first.related waiting_held (k + 1) (waiting_place k) (λ e. omega arith)
        ∙ get_or-set_same r.words (waiting_place k) j 0 (omega (arith, small, h.sound.lent.room.words))

    now_shapes : get_or waits.words shapes_used 0 ≡ get_or r.words shapes_used 0
    now_shapes = as_was shapes_used (λ e. omega arith) (λ e. omega arith)

    awaits_is : await j r ≡ done tt waits
    unfolding await Act.◌>>=◌ Act.go_on Act.load Act.store
    awaits_is =
        let q : k % 2 ^ 16 ≡ k = omega (arith, small, h.sound.lent.room.shapes) in
        rw q

  -- after a shape was made from r₀ on, while as many wait as did then
  await_after : {r₀ r : Raw} {s : State} {total : Amounts} (d : ℕ) (a : After program ts g r₀ r s total) (j : ℕ) (made : j < get_or r.words shapes_used 0)
      (w : get_or r.words waiting_held 0 < get_or r.words shapes_used 0) → get_or r.words waiting_held 0 ≡ get_or r₀.words waiting_held 0
      → get_or r₀.words shapes_used 0 + 1 ≤ get_or r.words shapes_used 0
      → ((i : ℕ) → i < get_or r₀.words waiting_held 0 → waiting_at r.words i ≡ waiting_at r₀.words i)
      → ((e : ℕ) → e < d → e < shapes_granted g → get_or r.words (way_place e) 0 ≡ get_or r₀.words (way_place e) 0)
      → Leads d r₀ (j ∷ []) (waits a.related j made w) s total
  unfolding listed
  await_after {r₀} {r} d a j made w same one before ways =
      let h = a.related in
      record {
        after = onward a (onward (first h j made w) (second h j made w));
        ways = λ e l m. as_was h j made w (way_place e) (λ q. omega arith) (λ q. omega arith) ∙ ways e l m;
        acc = record {
          many = 1;
          held = now_held h j made w ∙ ap (λ n. n + 1) same;
          are = ap (λ i. i ∷ []) (sym (ap (waiting_at (waits h j made w).words) (sym same) ∙ now_there h j made w));
          before = λ i l. as_was h j made w (waiting_place i) (λ q. omega (arith, same)) (λ q. omega arith) ∙ before i l;
          older = λ i x y.
              let q : i ≡ get_or r.words waiting_held 0 = omega (arith, same) in
              rw (q, now_there h j made w, now_shapes h j made w) made;
          shapes = rw (now_shapes h j made w) (omega arith);
          room = omega (arith, now_shapes h j made w, now_held h j made w, same);
        };
      }

  -- a step, and nothing else
  record Counted (r r' : Raw) (s : State) (total : Amounts) : Type 0 where
    step : AfterStep program ts g r r' s total
    others : (j : ℕ) → j ≢ steps_used → get_or r'.words j 0 ≡ get_or r.words j 0

  -- ---- the meaning
  module _ (f : Figure → Figure) (f' : Meaning.Figure → Meaning.Figure)
      (proper : (used : ℕ) (a : Figure) → Proper program used a → Proper program used (f a))
      (meant : (texts : List ℕ) (a : Figure) → a.kind < 4 → meant_figure program texts (f a) ≡ f' (meant_figure program texts a)) where
    abbrev visit' : ℕ → ℕ → Run.Action (List ℕ)
    visit' b c = Run.◌>>=◌ (Run.◌>>◌ (Run.count p) (remade b p f' c)) (λ j. Run.give (j ∷ []))

    abbrev leave' : List ℕ → Run.Action (List ℕ)
    leave' js = Run.◌>>=◌ (Group.new_shape p (group js)) (λ j. Run.give (j ∷ []))

    -- a figure made anew
    figure_anew : {r : Raw} {s : State} {total : Amounts} (h : Here r s total) (c : ℕ) (l : c < get_or r.words shapes_used 0) → is_group_at r.words c ≡ false
        → Follows granted total (λ v j r' s' total'. AfterShapeValue program ts g r s v j r' s' total') (new_shape g p (f (figure_at r.words c)) r)
        (Group.new_shape p (atom (f' (meant_figure program r.texts (figure_at r.words c)))) s)
    figure_anew {r} h c l n =
        let v = h.sound.shapes.proper c l n in
        makes_shape gr h (f (figure_at r.words c)) _ (proper _ _ v) (sym (meant r.texts (figure_at r.words c) v.kind)) p

    at_figure : (b c d : ℕ) {r : Raw} {s : State} {total : Amounts} (h : Here r s total) → Room r → (l : c < get_or r.words shapes_used 0) → is_group_at r.words c ≡ false
        → Follows granted total (λ _ js r' s' total'. Leads d r js r' s' total') (remake_reached g p f c r) (visit' (suc b) c s)
    unfolding remake_reached remade by_content if◌then◌otherwise◌ Room Act.◌>>=◌ Act.go_on Act.held Act.give Run.◌>>=◌ Run.go_on Run.current Run.give shortage_of
    at_figure b c d {r} {s} {total} h w l n =
        subst (λ (m : Run (List ℕ)). Follows granted total (λ _ js r' s' total'. Leads d r js r' s' total') (remake_reached g p f c r) m)
        (sym (run_assoc (Run.count p s).takings (Run.count p s).end (λ _. remade (suc b) p f' c) (λ j. Run.give (j ∷ []))))
        (spent_then Run.steps steps_used (steps_granted g) 1 79 p r s h.steps_taken gr.steps refl (steps_told h) _ _
        (λ fit.
        let a = (step_related h p fit).after in
        let m = le_trans l a.later.shapes in
        let same = group_stays (a.later.figures c l) ∙ n in
        let u : get_or (set r.words steps_used (get_or r.words steps_used 0 + 1)) shapes_used 0 ≡ get_or r.words shapes_used 0 = other h steps_used _ shapes_used (λ e. omega arith) in
        let v : get_or (set r.words steps_used (get_or r.words steps_used 0 + 1)) waiting_held 0 ≡ get_or r.words waiting_held 0 = other h steps_used _ waiting_held (λ e. omega arith) in
        rw (same, figure_found a.related c m same)
        (bind (figure_anew a.related c m same) (λ x j r₁ s₁ total₁ q.
        let o = q.shape in
        let k : get_or r₁.words waiting_held 0 < get_or r₁.words shapes_used 0 = omega (arith, o.waits, o.used, u, v, w) in
        let made : get_or (set r.words steps_used (get_or r.words steps_used 0 + 1)) shapes_used 0 < get_or r₁.words shapes_used 0 = omega (arith, o.used) in
        rw (awaits_is o.after.related _ made k, o.same)
        (given (await_after d (onward a o.after) _ made k (o.waits ∙ v) (omega (arith, o.used, u))
        (λ i x. o.ways i 4 (omega arith) (omega arith) (omega (arith, w, h.sound.counted.shapes)) ∙ other h steps_used _ (waiting_place i) (λ e. omega arith))
        (λ e x y. o.ways e 3 (omega arith) (omega arith) y ∙ other h steps_used _ (way_place e) (λ q. omega arith))))))))

    splits : (b c : ℕ) {r : Raw} {s : State} {total : Amounts} → Here r s total → (l : c < get_or r.words shapes_used 0) → is_group_at r.words c ≡ true
        → visit' (suc b) c s ≡ Run.◌>>◌ (Run.count p) (Run.◌>>=◌ (each (visit' b) (components_of g r.words c)) leave') s
    unfolding remade by_content Run.◌>>=◌ Run.go_on Run.current Run.spend
    splits b c {r} {s} h l e =
        run_assoc (Run.count p s).takings (Run.count p s).end (λ _. remade (suc b) p f' c) (λ j. Run.give (j ∷ []))
        ∙ rw (group_found h c l e)
        (ap (λ (m : Run (List ℕ)). Run.following (Run.taking Run.steps 1 p ∷ []) m)
        (let m = each (visit' b) (components_of g r.words c) s in run_assoc m.takings m.end (λ js. Group.new_shape p (group js)) (λ j. Run.give (j ∷ []))))

    -- a group reached counts its step
    enters : (c d : ℕ) {r : Raw} {s : State} {total : Amounts} (h : Here r s total) → c < get_or r.words shapes_used 0 → is_group_at r.words c ≡ true
        → Follows granted total (λ _ _ r' s' total'. Leads d r [] r' s' total') (remake_reached g p f c r) (Run.count p s)
    unfolding remake_reached if◌then◌otherwise◌ listed Act.◌>>=◌ Act.go_on Act.held Act.give shortage_of
    enters c d {r} {s} {total} h l e =
        act_after {R = λ _ _ r' s' total'. Counted r r' s' total'} _ (λ a b r' s' total' q. record {
          result = tt;
          slices = r';
          is = rw (group_stays (q.step.after.later.figures c l) ∙ e);
          holds = record {
            after = q.step.after;
            ways = λ e x y. q.others (way_place e) (λ z. omega arith);
            acc = record {
              many = 0;
              held = q.others waiting_held (λ z. omega arith) ∙ omega arith;
              are = refl;
              before = λ k x. q.others (waiting_place k) (λ z. omega arith);
              older = λ k x y. absurd (omega arith);
              shapes = omega (arith, q.others shapes_used (λ z. omega arith));
              room = omega (arith, q.others shapes_used (λ z. omega arith), q.others waiting_held (λ z. omega arith));
            };
          };
        })
        (spent Run.steps steps_used (steps_granted g) 1 79 p r s h.steps_taken gr.steps refl (steps_told h)
        (λ fit. record { step = step_related h p fit; others = λ j n. other h steps_used _ j n }))

    -- ---- a group of those that wait from the m-th on, from r₀ on at which m waited
    abbrev grouped : ℕ → ℕ → ℕ → Act ℕ
    grouped m n j = Act.◌>>◌ (Act.store waiting_held m) (Act.give j)

    source : {r₀ r : Raw} {s : State} {total : Amounts} {js : List ℕ} → Here r s total → (a : Awaits r₀ js r) → get_or r.words waiting_held 0 < get_or r.words shapes_used 0
        → Source g r.words (waiting_place (get_or r₀.words waiting_held 0)) 5 1 (λ k. waiting_at r.words (get_or r₀.words waiting_held 0 + k)) a.many
    source {r₀} {r} h a w =
        let m = get_or r₀.words waiting_held 0 in
        record {
          gives = λ k l.
              let q : waiting_place m + 5 * k ≡ waiting_place (m + k) = omega arith in
              let u = a.older (m + k) (omega arith) (omega arith) in
              rw (q, div-one (waiting_at r.words (m + k))) (omega (arith, u, h.sound.counted.shapes, h.sound.lent.room.shapes));
          older = λ k l. a.older (m + k) (omega arith) (omega arith);
          high = λ k l. omega arith;
          new = λ k j l x e. omega arith;
          slots = λ k j l x e. omega (arith, a.held, w, h.sound.counted.shapes);
          below = λ k l. omega (arith, a.held, w, h.sound.counted.shapes);
        }

    record AfterGroup (r₀ r : Raw) (s : State) (i j : ℕ) (r' : Raw) (s' : State) (total : Amounts) : Type 0 where
      after : After program ts g r r' s' total
      here_is : i ≡ get_or r.words shapes_used 0
      same : j ≡ i
      used : get_or r'.words shapes_used 0 ≡ get_or r.words shapes_used 0 + 1
      waits_as : get_or r'.words waiting_held 0 ≡ get_or r₀.words waiting_held 0
      ways_as : (i j : ℕ) → 3 ≤ j → j < 5 → i < shapes_granted g → get_or r'.words (shape_place i + j) 0 ≡ get_or r.words (shape_place i + j) 0

    groups : {r₀ r : Raw} {s : State} {total : Amounts} {js : List ℕ} (h : Here r s total) (a : Awaits r₀ js r) → get_or r.words waiting_held 0 < get_or r.words shapes_used 0
        → Follows granted total (λ i j r' s' total'. AfterGroup r₀ r s i j r' s' total') (group_waiting g p (get_or r₀.words waiting_held 0) r) (Group.new_shape p (group js) s)
    unfolding group_waiting Act.◌>>=◌ Act.go_on Act.load Act.store Act.give
    groups {r₀} {r} {s} {total} {js} h a w =
        let m = get_or r₀.words waiting_held 0 in
        let q : get_or r.words waiting_held 0 - m ≡ a.many = omega (arith, a.held) in
        let list : js ≡ listed (λ k. waiting_at r.words (m + k)) 0 a.many =
        a.are ∙ listed_shift (waiting_at r.words) (λ k. waiting_at r.words (m + k)) m 0 a.many (λ j l. let z : 0 + j ≡ j = omega arith in rw z) in
        rw (q, list)
        (act_after {R = λ i j r' s' total'. AfterShape program ts g r s i j r' s' total'} (λ i. grouped m 0 i) (λ i j r' s' total' x. record {
          result = i;
          slices = raw r'.texts (set r'.words waiting_held m);
          is = refl;
          holds =
              let z = spare_after x.after.related waiting_held m spare_waiting in
              record {
                after = onward x.after z;
                here_is = x.here;
                same = x.same;
                used = other x.after.related waiting_held m shapes_used (λ e. omega arith) ∙ x.used;
                waits_as = here x.after.related waiting_held m (omega arith);
                ways_as = λ i j y u l. other x.after.related waiting_held m (shape_place i + j) (λ e. omega arith) ∙ x.ways i j y u l;
              };
        })
        (makes_group h (waiting_place m) 5 1 (λ k. waiting_at r.words (m + k)) a.many (source h a w) p gr))

    -- ---- a group that is left: what came of it waits from the number of those on that waited when it was reached
    way_count : (k n m : ℕ) → m < 2 ^ 16 → way_word k n m / 2 ^ 48 ≡ m
    way_count k n m l =
        let q : m % 2 ^ 16 ≡ m = omega arith in
        rw q (omega arith)

    leaves : (d k n : ℕ) {r r₂ : Raw} {s s₂ : State} {total total₂ : Amounts} {xs : List ℕ} → Here r s total → Room r → d < shapes_granted g
        → Leads (d + 1) (raw r.texts (set r.words (way_place d) (way_word k n (get_or r.words waiting_held 0)))) xs r₂ s₂ total₂
        → Follows granted total₂ (λ _ js r' s' total'. Leads d r js r' s' total') (remake_left g p d r₂) (leave' xs s₂)
    unfolding remake_left Room Act.◌>>=◌ Act.go_on Act.load Run.◌>>=◌ Run.go_on Run.give
    leaves d k n {r} {r₂} {s} {s₂} {total} {total₂} {xs} h w l x =
        let m = get_or r.words waiting_held 0 in
        let v = way_word k n m in
        let z = spare_after h (way_place d) v (spare_way d 3 l (omega arith) (omega arith)) in
        let r₁ = raw r.texts (set r.words (way_place d) v) in
        let m_is : get_or (set r.words (way_place d) v) waiting_held 0 ≡ m = other h (way_place d) v waiting_held (λ e. omega arith) in
        let u_is : get_or (set r.words (way_place d) v) shapes_used 0 ≡ get_or r.words shapes_used 0 = other h (way_place d) v shapes_used (λ e. omega arith) in
        let way : get_or r₂.words (way_place d) 0 / 2 ^ 48 ≡ get_or (set r.words (way_place d) v) waiting_held 0 =
        rw (x.ways d (omega arith) l, get_or-set_same r.words (way_place d) v 0 (omega (arith, l, h.sound.lent.room.words)), m_is)
        (way_count k n m (omega (arith, w, h.sound.counted.shapes, h.sound.lent.room.shapes))) in
        let room : get_or r₂.words waiting_held 0 < get_or r₂.words shapes_used 0 = omega (arith, x.acc.room, m_is, u_is, w) in
        rw way
        (bind (groups x.after.related x.acc room) (λ i j r₃ s₃ total₃ y.
        let made : i < get_or r₃.words shapes_used 0 = omega (arith, y.here_is, y.used) in
        let less : get_or r₃.words waiting_held 0 < get_or r₃.words shapes_used 0 = omega (arith, y.waits_as, y.used, m_is, x.acc.shapes, u_is, w) in
        rw (awaits_is y.after.related i made less, y.same)
        (given (await_after d (onward (onward z x.after) y.after) i made less (y.waits_as ∙ m_is) (omega (arith, y.used, x.acc.shapes, u_is))
        (λ e b.
        y.ways_as e 4 (omega arith) (omega arith) (omega (arith, w, h.sound.counted.shapes)) ∙ x.acc.before e (rw m_is b) ∙ other h (way_place d) v (waiting_place e) (λ q. omega arith))
        (λ e b c. y.ways_as e 3 (omega arith) (omega arith) c ∙ x.ways e (omega arith) c ∙ other h (way_place d) v (way_place e) (λ q. omega arith))))))

    walks : Walks program ts g granted Awaits Room gathered (remake_reached g p f) (remake_left g p) visit' (λ c. Run.count p) leave'
    unfolding Room
    walks = record {
      atoms = λ b c d h w l e. at_figure b c d h w l e;
      splits = λ b c h l e. splits b c h l e;
      enters = λ c d h w l e. enters c d h l e;
      leaves = λ d k n h w l x. leaves d k n h w l x;
      aside = λ d v {r} w. aside d v r w;
    }
      where
        aside : (d v : ℕ) (r : Raw) → get_or r.words waiting_held 0 < get_or r.words shapes_used 0
            → get_or (set r.words (way_place d) v) waiting_held 0 < get_or (set r.words (way_place d) v) shapes_used 0
        aside d v r w =
            rw (get_or-set_other r.words (way_place d) waiting_held v 0 (λ e. omega arith), get_or-set_other r.words (way_place d) shapes_used v 0 (λ e. omega arith)) w

    -- ---- THE LAW
    module _ {r : Raw} {s : State} {total : Amounts} (h : Here r s total) (i : ℕ) (l : i < get_or r.words shapes_used 0) where
      abbrev Makes : Act.Out Value → Run ℕ → Type 0
      Makes o m = Follows granted total (λ v j r' s' total'. AfterValue program ts g r v (Value.shape j) r' s' total') o m

      begins : After program ts g r (raw r.texts (set r.words waiting_held 0)) s total
      begins = spare_after h waiting_held 0 spare_waiting

      none_wait : get_or (set r.words waiting_held 0) waiting_held 0 ≡ 0
      none_wait = here h waiting_held 0 (omega arith)

      of_group : is_group_at r.words i ≡ true → Makes (remake_group g p f i r) (Run.◌>>=◌ (each (visit' i) (components_of g r.words i)) (λ js. Group.new_shape p (group js)) s)
      unfolding remake_group Valid meant_value Room Act.◌>>=◌ Act.go_on Act.store Act.give Run.◌>>=◌
      of_group e =
          let q : suc (shapes_granted g - 1) ≡ shapes_granted g = omega (arith, h.sound.counted.shapes) in
          let less = le_trans l begins.later.shapes in
          let list : components_of g (set r.words waiting_held 0) i ≡ components_of g r.words i =
          components_later begins.later h.sound.shapes (untouched_components begins.untouched) i l e in
          let room : get_or (set r.words waiting_held 0) waiting_held 0 < get_or (set r.words waiting_held 0) shapes_used 0 = omega (arith, none_wait, less) in
          let w = walk_follows program ts g granted Awaits Room gathered (remake_reached g p f) (remake_left g p) visit' (λ c. Run.count p) leave' walks
          (shapes_granted g - 1) i 0 i (omega (arith, q)) (omega (arith, h.sound.counted.shapes)) (le_refl i) (raw r.texts (set r.words waiting_held 0)) s total
          begins.related room less (group_stays (begins.later.figures i l) ∙ e) in
          bind (subst (λ b. Follows granted total (λ _ js r' s' total'. Leads 0 (raw r.texts (set r.words waiting_held 0)) js r' s' total')
          (walk_in (remake_reached g p f) (remake_left g p) b g 0 i (raw r.texts (set r.words waiting_held 0))) (each (visit' i) (components_of g r.words i) s)) q (rw list at w))
          (λ _ js r₂ s₂ total₂ x.
          let less₂ : get_or r₂.words waiting_held 0 < get_or r₂.words shapes_used 0 = omega (arith, x.acc.room, room) in
          act_after {R = λ i j r' s' total'. AfterGroup (raw r.texts (set r.words waiting_held 0)) r₂ s₂ i j r' s' total'} (λ j. Act.give (Shape j)) (λ k j r' s' total' y. record {
            result = Shape k;
            slices = r';
            is = refl;
            holds = record {
              after = onward begins (onward x.after y.after);
              valid = omega (arith, y.here_is, y.used);
              means = ap Value.shape y.same;
            };
          })
          (subst (λ n. Follows granted total₂ (λ i j r' s' total'. AfterGroup (raw r.texts (set r.words waiting_held 0)) r₂ s₂ i j r' s' total') (group_waiting g p n r₂)
          (Group.new_shape p (group js) s₂))
          none_wait (groups x.after.related x.acc less₂)))

      pub remakes : Makes (remake g p f i r) (remade (suc i) p f' i s)
      unfolding remake remade by_content if◌then◌otherwise◌ Act.◌>>=◌ Act.go_on Act.held Run.◌>>=◌ Run.go_on Run.current
      remakes = go (is_group_at r.words i) refl
        where
          go : (t : Bool) → is_group_at r.words i ≡ t → Makes (remake g p f i r) (remade (suc i) p f' i s)
          go true e = rw (e, group_found h i l e) (of_group e)
          go false e = rw (e, figure_found h i l e) (mapped (λ v j r' s' total' x. shape_value x) (figure_anew h i l e))
