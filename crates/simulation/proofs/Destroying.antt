-- Shapes destroyed: one of them, and all that a group holds.
use Prim.Native.Nat.{ℕ, suc, ◌+◌, ◌-◌, ◌/◌, ◌%◌, ◌≤◌, ◌<◌}
use native.Mathlib.Omega.{arith}
use native.Mathlib.Nat.{le_refl, le_trans}
use mathlib.Core.Path.{◌≡◌, refl, ap, sym, ◌∙◌, subst}
use mathlib.Core.Logic.{◌≢◌}
use mathlib.Core.Bool.{Bool, true, false}
use mathlib.Core.List.{List, [], ◌∷◌, append-nil}
use lib.ListN.{get_or, set}
use Rattle.meaning.specs.Basics.{if◌then◌otherwise◌}
use Rattle.meaning.specs.Token.{Token}
use Rattle.meaning.specs.Figure as Meaning
use Rattle.meaning.specs.State.{State, no_shape, components_in, with_shapes}
use Rattle.meaning.specs.State as State
use Rattle.meaning.specs.Run.{Event, End, result, error, unfinished, Run, run}
use Rattle.meaning.specs.Run as Run
use Rattle.meaning.specs.Book.{Amounts, added, shortage_of}
use Rattle.meaning.specs.Group.{each, destroying}
use Rattle.machine.specs.Layout.{steps_used, shapes_used, declared, steps_granted, shapes_granted, fixed_words, shape_place, first_call}
use Rattle.machine.specs.Act.{Raw, raw, done, Act}
use Rattle.machine.specs.Act as Act
use Rattle.machine.specs.Shapes.{is_group_at, figure_at, destroyed_word, destroy}
use Rattle.machine.specs.Groups.{way_place, walk_in, destroy_all}
use Rattle.simulation.specs.Meant.{listed, components_of, content_at, shape_at, shapes_of}
use Rattle.simulation.specs.Follows.{Grants, Stays, Related, Follows}
use Rattle.simulation.proofs.Listed.{set_listed}
use Rattle.simulation.proofs.Frames.{group_stays, untouched_components, components_later, content_made}
use Rattle.simulation.proofs.Results.{due, mapped, given, After, onward, steps_told, spent_then}
use Rattle.simulation.proofs.Counting.{other, step_related}
use Rattle.simulation.proofs.Touching.{now, content_was, touched_after}
use Rattle.simulation.proofs.Usable.{figure_found, group_found}
use Rattle.simulation.proofs.Walking.{Reached, Gathers, Walks, spare_way, spare_after, walk_follows}

-- the bit of a destroyed shape leaves the others
halved : (w : ℕ) → destroyed_word w / 2 ≡ w / 2
halved w = omega arith

sixteenth : (w : ℕ) → destroyed_word w / 16 ≡ w / 16
sixteenth w = omega arith

bit : (w : ℕ) → destroyed_word w % 2 ≡ 1
bit w = omega arith

module _ {program : List ℕ} {ts : List Token} {g : List ℕ} where
  module _ {r : Raw} {s : State} {total : Amounts} (h : Related program ts g r s total) (i : ℕ) (l : i < get_or r.words shapes_used 0) where
    abbrev w : ℕ
    w = get_or r.words (shape_place i) 0

    abbrev gone : Raw
    gone = raw r.texts (set r.words (shape_place i) (destroyed_word (get_or r.words (shape_place i) 0)))

    as_was : (j : ℕ) → j ≢ shape_place i → get_or gone.words j 0 ≡ get_or r.words j 0
    as_was j n = other h (shape_place i) (destroyed_word w) j n

    now_gone : get_or gone.words (shape_place i) 0 ≡ destroyed_word w
    now_gone = now h i l (shape_place i) (destroyed_word w) (omega arith) (omega arith)

    third : get_or gone.words (shape_place i + 2) 0 ≡ get_or r.words (shape_place i + 2) 0
    third = as_was (shape_place i + 2) (λ e. omega arith)

    own_stays : Stays r.words gone.words i
    unfolding figure_at
    own_stays =
        let b = as_was (shape_place i + 1) (λ e. omega arith) in
        record {
          kind = rw (now_gone, halved w);
          figure = λ n. rw (now_gone, halved w, sixteenth w, b, third);
          slots = b;
          dead = λ e. rw (now_gone, bit w);
        }

    content_kept : (k : ℕ) → k < get_or r.words shapes_used 0 → content_at program g gone k ≡ content_at program g r k
    content_kept = content_was h i l (shape_place i) (destroyed_word w) (omega arith) (omega arith) own_stays

    own_shape : shape_at program g gone (0 + i) ≡ record { content = (get_or (shapes_of program g r) i no_shape).content; destroyed = true }
    unfolding shape_at
    own_shape =
        let z : 0 + i ≡ i = omega arith in
        rw (z, now_gone, bit w, content_kept i l, content_made program g r i l)

    shapes_are : (k : ℕ) → k < get_or r.words shapes_used 0 → k ≢ 0 + i → shape_at program g gone k ≡ shape_at program g r k
    unfolding shape_at
    shapes_are k m n = rw (content_kept k m, as_was (shape_place k) (λ e. n (omega arith)))

    gone_list : shapes_of program g gone ≡ State.destroy (shapes_of program g r) i
    unfolding State.destroy shapes_of
    gone_list =
        ap (listed (shape_at program g gone) 0) (as_was shapes_used (λ e. omega arith))
        ∙ sym (set_listed (shape_at program g r) (shape_at program g gone) 0 (get_or r.words shapes_used 0) i _ l own_shape (λ j a n. shapes_are j (omega arith) n))

    destroys : After program ts g r gone (with_shapes s (State.destroy s.shapes i)) total
    destroys =
        touched_after h i l (shape_place i) (destroyed_word w) (omega arith) (omega arith) own_stays
        (rw third (h.sound.shapes.second i l)) (λ n e. h.sound.shapes.hollow i l n (rw third at e))
        (State.destroy s.shapes i) (ap (λ (l : List State.Shape). State.destroy l i) h.shapes ∙ sym gone_list)

    destroy_is : destroy i r ≡ done tt gone
    unfolding destroy Act.◌>>=◌ Act.go_on Act.load Act.store
    destroy_is = refl

-- ---- what a run gives is given
unit_of : {A : Type 0} (us : List Event) (e : End A) → Run.go_on us e Run.give ≡ run us e
unfolding Run.go_on Run.give
unit_of us (result a s) = ap (λ vs. run vs (result a s)) (append-nil us)
unit_of us (error n p) = refl
unit_of us unfinished = refl

pub run_unit : {A : Type 0} (m : Run A) → Run.go_on m.takings m.end Run.give ≡ m
run_unit m = unit_of m.takings m.end

-- ---- texts, the words of calls that wait, and the stack stay
pub record Quiet {A : Type 0} (r : Raw) (xs : List A) (r' : Raw) : Type 0 where
  pub texts : r'.texts ≡ r.texts
  pub low : (j : ℕ) → first_call ≤ j → j < fixed_words → get_or r'.words j 0 ≡ get_or r.words j 0
  pub declared : get_or r'.words declared 0 ≡ get_or r.words declared 0

pub quiet_nil : {A : Type 0} (r : Raw) → Quiet {A = A} r [] r
quiet_nil r = record { texts = refl; low = λ j a b. refl; declared = refl }

pub quiet_on : {A B C : Type 0} {r r₁ r₂ : Raw} {xs : List A} {ys : List B} (zs : List C) → Quiet r xs r₁ → Quiet r₁ ys r₂ → Quiet r zs r₂
quiet_on zs a b = record { texts = b.texts ∙ a.texts; low = λ j x y. b.low j x y ∙ a.low j x y; declared = b.declared ∙ a.declared }

Any : Raw → Type 0
Any r = Unit {0}

gathered : Gathers {A = Meaning.Figure} Quiet Any
unfolding Any
gathered = record { nil = quiet_nil; more = λ a b. quiet_on _ a b; keep = λ a b. tt }

-- the words of the way at depth d are set, and then a walk leaves more
pub left : {program : List ℕ} {ts : List Token} {g : List ℕ} {A : Type 0} {Acc Acc' : Raw → List A → Raw → Type 0} {d : ℕ} (v : ℕ) {r r₂ : Raw} {s s₂ : State} {total total₂ : Amounts} {xs : List A}
    → Related program ts g r s total → d < shapes_granted g → Reached program ts g Acc (d + 1) (raw r.texts (set r.words (way_place d) v)) xs r₂ s₂ total₂ → Acc' r xs r₂
    → Reached program ts g Acc' d r xs r₂ s₂ total₂
left {d = d} v h l x a = record {
  after = onward (spare_after h (way_place d) v (spare_way d 3 l (omega arith) (omega arith))) x.after;
  ways = λ e m n. x.ways e (omega arith) n ∙ other h (way_place d) v (way_place e) (λ q. omega arith);
  acc = a;
}

-- ---- all in a group
module _ (program : List ℕ) (ts : List Token) (g : List ℕ) {granted : Amounts} (gr : Grants g granted) (p : ℕ) where
  abbrev visit' : ℕ → ℕ → Run.Action (List Meaning.Figure)
  visit' b c = Run.◌>>◌ (Run.count p) (destroying b p c)

  abbrev enter' : ℕ → Run.Action (Unit {0})
  enter' c = Run.◌>>◌ (Run.count p) (Run.◌>>=◌ Run.current (λ s. Run.become (with_shapes s (State.destroy s.shapes c))))

  module _ {r : Raw} {s : State} {total : Amounts} (h : Related program ts g r s total) (c d : ℕ) (l : c < get_or r.words shapes_used 0) where
    -- a step, and the component is destroyed
    reached : (fit : get_or r.words steps_used 0 + 1 ≤ steps_granted g)
        → Reached program ts g {A = Meaning.Figure} Quiet d r [] (gone (step_related h p fit).after.related c (le_trans l (step_related h p fit).after.later.shapes))
        (with_shapes s (State.destroy s.shapes c)) (added total (due Run.steps 1 p))
    reached fit =
        let a = (step_related h p fit).after in
        let m = le_trans l a.later.shapes in
        let same : (j : ℕ) → j ≢ steps_used → j ≢ shape_place c → get_or (gone a.related c m).words j 0 ≡ get_or r.words j 0 =
        λ j x y. as_was a.related c m j y ∙ other h steps_used _ j x in
        record {
          after = onward a (destroys a.related c m);
          ways = λ e x y. same (way_place e) (λ q. omega arith) (λ q. omega arith);
          acc = record { texts = refl; low = λ j x y. same j (λ q. omega arith) (λ q. omega arith); declared = same declared (λ q. omega arith) (λ q. omega arith) };
        }

    enters : Follows granted total (λ _ _ r' s' total'. Reached program ts g {A = Meaning.Figure} Quiet d r [] r' s' total') (Act.◌>>◌ (Act.count g p) (destroy c) r) (enter' c s)
    unfolding Run.◌>>=◌ Run.go_on Run.current Run.become shortage_of
    enters =
        spent_then Run.steps steps_used (steps_granted g) 1 79 p r s h.steps_taken gr.steps refl (steps_told h) (destroy c) _
        (λ fit. let a = (step_related h p fit).after in rw (destroy_is a.related c (le_trans l a.later.shapes)) (given (reached fit)))

    at_figure : (b : ℕ) → is_group_at r.words c ≡ false
        → Follows granted total (λ _ xs r' s' total'. Reached program ts g {A = Meaning.Figure} Quiet d r xs r' s' total') (Act.◌>>◌ (Act.count g p) (destroy c) r) (visit' (suc b) c s)
    unfolding destroying each components_in Run.◌>>=◌ Run.go_on Run.current Run.become Run.give shortage_of
    at_figure b n =
        spent_then Run.steps steps_used (steps_granted g) 1 79 p r s h.steps_taken gr.steps refl (steps_told h) (destroy c) _
        (λ fit. let a = (step_related h p fit).after in rw (destroy_is a.related c (le_trans l a.later.shapes), figure_found h c l n) (given (reached fit)))

    splits : (b : ℕ) → is_group_at r.words c ≡ true
        → visit' (suc b) c s ≡ Run.◌>>◌ (enter' c) (Run.◌>>=◌ (each (visit' b) (components_of g r.words c)) Run.give) s
    unfolding destroying components_in Run.◌>>=◌ Run.go_on Run.current Run.become Run.spend
    splits b e =
        rw (group_found h c l e)
        (ap (λ (m : Run (List Meaning.Figure)). Run.following (Run.taking Run.steps 1 p ∷ []) m)
        (sym (run_unit (each (visit' b) (components_of g r.words c) (with_shapes s (State.destroy s.shapes c))))))

  walks : Walks program ts g granted Quiet Any gathered (λ c. Act.◌>>◌ (Act.count g p) (destroy c)) (λ d. Act.give tt) visit' enter' Run.give
  unfolding Act.give Run.give Any
  walks = record {
    atoms = λ b c d h w l e. at_figure h c d l b e;
    splits = λ b c h l e. splits h c 0 l b e;
    enters = λ c d h w l e. enters h c d l;
    leaves = λ d k n h w l x.
        given (left _ h l x (record {
          texts = x.acc.texts;
          low = λ j a b. x.acc.low j a b ∙ other h (way_place d) _ j (λ q. omega arith);
          declared = x.acc.declared ∙ other h (way_place d) _ declared (λ q. omega arith);
        }));
    aside = λ d w k. tt;
  }

  -- a shape itself, then all in it
  pub destroys_all : {r : Raw} {s : State} {total : Amounts} (h : Related program ts g r s total) (i : ℕ) → i < get_or r.words shapes_used 0
      → Follows granted total (λ _ xs r' s' total'. Reached program ts g {A = Meaning.Figure} Quiet 0 r xs r' s' total') (destroy_all g p i r) (destroying (suc i) p i s)
  unfolding destroy_all destroying each components_in if◌then◌otherwise◌ Any Act.◌>>=◌ Act.go_on Act.held Act.give Run.◌>>=◌ Run.go_on Run.current Run.become Run.give
  destroys_all {r} {s} {total} h i l = rw (destroy_is h i l) (go (is_group_at r.words i) refl)
    where
      a : After program ts g r (gone h i l) (with_shapes s (State.destroy s.shapes i)) total
      a = destroys h i l

      quiet : Reached program ts g {A = Meaning.Figure} Quiet 0 r [] (gone h i l) (with_shapes s (State.destroy s.shapes i)) total
      quiet = record {
        after = a;
        ways = λ e x y. absurd (omega arith);
        acc = record { texts = refl; low = λ j x y. as_was h i l j (λ e. omega arith); declared = as_was h i l declared (λ e. omega arith) };
      }

      go : (t : Bool) → is_group_at r.words i ≡ t
          → Follows granted total (λ _ xs r' s' total'. Reached program ts g {A = Meaning.Figure} Quiet 0 r xs r' s' total')
          ((if is_group_at (gone h i l).words i then (λ _. walk_in (λ c. Act.◌>>◌ (Act.count g p) (destroy c)) (λ d. Act.give tt) (shapes_granted g) g 0 i) otherwise λ _. Act.give tt) (gone h i l))
          (each (visit' i) (components_in (State.content_of s i)) (with_shapes s (State.destroy s.shapes i)))
      go true e =
          let k = a.later.figures i l in
          let q : suc (shapes_granted g - 1) ≡ shapes_granted g = omega (arith, h.sound.counted.shapes) in
          let list : components_of g (gone h i l).words i ≡ components_of g r.words i =
          components_later a.later h.sound.shapes (untouched_components a.untouched) i l e in
          let w = walk_follows program ts g granted Quiet Any gathered (λ c. Act.◌>>◌ (Act.count g p) (destroy c)) (λ d. Act.give tt) visit' enter' Run.give walks
          (shapes_granted g - 1) i 0 i (omega (arith, q)) (omega (arith, h.sound.counted.shapes)) (le_refl i) (gone h i l) (with_shapes s (State.destroy s.shapes i)) total
          a.related tt (le_trans l a.later.shapes) (group_stays k ∙ e) in
          rw (group_stays k, e, group_found h i l e)
          (mapped (λ _ ys r' s' total' y. record {
            after = onward a y.after;
            ways = λ e x y. absurd (omega arith);
            acc = quiet_on ys quiet.acc y.acc;
          })
          (subst (λ b. Follows granted total (λ _ xs r' s' total'. Reached program ts g {A = Meaning.Figure} Quiet 0 (gone h i l) xs r' s' total')
          (walk_in (λ c. Act.◌>>◌ (Act.count g p) (destroy c)) (λ d. Act.give tt) b g 0 i (gone h i l)) (each (visit' i) (components_of g r.words i) (with_shapes s (State.destroy s.shapes i))))
          q (rw list at w)))
      go false e = rw (group_stays (a.later.figures i l), e, figure_found h i l e) (given quiet)
