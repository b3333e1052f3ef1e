-- Main returns: its call is given back, and the scene that is measured is the one that is meant.
use Prim.Native.Nat.{ℕ, suc, ◌+◌, ◌^◌, ◌≤◌, ◌<◌}
use native.Mathlib.Omega.{arith}
use mathlib.Core.Path.{◌≡◌, refl, ap, sym, ◌∙◌, subst}
use mathlib.Core.Bool.{Bool, true, false}
use mathlib.Core.List.{List, [], ◌∷◌}
use lib.ListN.{get_or, length, drop, length-append, length-take}
use lib.Dec.{eqb}
use Rattle.meaning.specs.Basics.{if◌then◌otherwise◌}
use Rattle.meaning.specs.Token.{Token}
use Rattle.meaning.specs.Figure.{Figure}
use Rattle.meaning.specs.Picture.{line_of, lines_of}
use Rattle.meaning.specs.State.{State, shapes_held}
use Rattle.meaning.specs.Run.{Resource, steps, calls, Event, taken, gave_back, End, result, Run}
use Rattle.meaning.specs.Run as Run
use Rattle.meaning.specs.Book.{Amounts, resource_number, added, lowered, fits, Booked, all_fit, lacking, book}
use Rattle.meaning.specs.Group.{each, figures_of}
use Rattle.meaning.proofs.BookLaws.{part, spent}
use Rattle.claims.proofs.Booking.{lacking_no_fit}
use Rattle.picture.proofs.Lines.{line_short}
use Rattle.machine.specs.Layout.{calls_used, loop_unit}
use Rattle.machine.specs.Act.{Raw, raw, Out}
use Rattle.machine.specs.Act as Act
use Rattle.machine.specs.Texts.{origin_in, start_in, size_in, text_of}
use Rattle.machine.specs.Texts as Texts
use Rattle.machine.specs.Shapes.{figure_at}
use Rattle.machine.specs.Show.{show_scene}
use Rattle.scene.specs.Measuring.{line_size, size_with}
use Rattle.simulation.specs.Meant.{meant_figure}
use Rattle.simulation.specs.Follows.{Grants, Related, Together, gives, lacks, fails, Follows}
use Rattle.simulation.proofs.Binding.{Relation}
use Rattle.simulation.proofs.Results.{mapped, steps_told}
use Rattle.simulation.proofs.Beginning.{returns_main}
use Rattle.simulation.proofs.Showing.{sizes, line_limit, Sizes, measures}
use Rattle.prologue.specs.Prologue.{main_ends}
use Rattle.painting.specs.Running.{Painted}
use Rattle.painting.proofs.Scenes.{shown_all, scene_gathers, by_kind_number, figure_meant, scene_shown, held_within}

-- ---- what takings that fit come to, of a resource of which nothing is given back
abbrev amount_in : Resource → Booked → ℕ
amount_in r (all_fit total) = total r
amount_in r (lacking t total) = total r

pub fit_spent : (r : Resource) → eqb (resource_number r) (resource_number calls) ≡ false → (g total total' : Amounts) (us : List Event) → book g total us ≡ all_fit total'
    → total' r ≡ total r + spent r us
unfolding book spent if◌then◌otherwise◌ added part lowered
fit_spent r e g total total' [] b = let q : total r ≡ total' r = ap (amount_in r) b in omega arith
fit_spent r e g total total' (gave_back ∷ us) b = fit_spent r e g (lowered total) total' us b ∙ rw e (omega arith)
fit_spent r e g total total' (taken t ∷ us) b = go (fits g total t) b (λ b. fit_spent r e g (added total t) total' us b)
  where
    go : (c : Bool) → (if c then (λ _. book g (added total t) us) otherwise λ _. lacking t total) ≡ all_fit total'
        → (book g (added total t) us ≡ all_fit total' → total' r ≡ added total t r + spent r us) → total' r ≡ total r + spent r (taken t ∷ us)
    go true b k = k b ∙ omega arith
    go false b k = absurd (lacking_no_fit b)

-- ---- a run whose end is known
module _ {granted total : Amounts} {A B : Type 0} {R : Relation A B} where
  at_end : {o : Out A} {us : List Event} {e : End B} (b : B) (s : State) → Together granted total R o us e → e ≡ result b s
      → Together granted total (λ a b' r s' total'. R a b r s total' × (b' ≡ b) × (book granted total us ≡ all_fit total')) o us e
  at_end b s (gives {a = a} {b = b'} {r = r} {s = s'} total' f h) q =
      let x : b' ≡ b = cc in
      let y : s' ≡ s = cc in
      gives total' f (subst (λ z. R a z r s total') x (subst (λ z. R a b' r z total') y h), x, f)
  at_end b s (lacks t total' f x y w) q = lacks t total' f x y w
  at_end b s (fails total' f w) q = fails total' f w

  ended_with : {o : Out A} {m : Run B} {b : B} {s : State} → m.end ≡ result b s → Follows granted total R o m
      → Follows granted total (λ a b' r s' total'. R a b r s total' × (b' ≡ b) × (book granted total m.takings ≡ all_fit total')) o m
  ended_with {b = b} {s = s} q h = record { is = at_end b s h.is q }

  -- a call given back first
  back_together : {o : Out A} {us : List Event} {e : End B} → Together granted (lowered total) R o us e → Together granted total R o (gave_back ∷ us) e
  unfolding book
  back_together (gives {us = us} total' f h) = gives {us = gave_back ∷ us} total' f h
  back_together (lacks {us = us} t total' f x y w) = lacks {us = gave_back ∷ us} t total' f x y w
  back_together (fails {us = us} total' f w) = fails {us = gave_back ∷ us} total' f w

-- ---- how long lines are
lines_size : (xs : List Figure) → length (lines_of xs) ≡ sizes (λ a. length (line_of a)) xs
unfolding lines_of sizes
lines_size [] = refl
lines_size (a ∷ xs) = length-append (line_of a) (lines_of xs) ∙ ap (λ n. length (line_of a) + n) (lines_size xs)

text_short : (program texts : List ℕ) (h : ℕ) → length (text_of program texts h) ≤ 65535
unfolding text_of Texts.part if◌then◌otherwise◌
text_short program texts h = go (eqb (origin_in h) 0)
  where
    go : (b : Bool) → length (if b then (λ _. Texts.part (start_in h) (size_in h) program) otherwise λ _. Texts.part (start_in h) (size_in h) texts) ≤ 65535
    go true = omega (arith, length-take (size_in h) (drop (start_in h) program))
    go false = omega (arith, length-take (size_in h) (drop (start_in h) texts))

module _ (program : List ℕ) (ts : List Token) (g : List ℕ) {granted : Amounts} (gr : Grants g granted) (texts : List ℕ) where
  known : Sizes program ts g gr texts (size_with program texts) (λ a. length (line_of a))
  unfolding size_with line_size
  known = record {
    is = λ {r} h i l n t. ap (λ a. length (line_of a)) (figure_meant program (raw texts r.words) i ∙ ap (λ x. meant_figure program x (figure_at r.words i)) (sym t));
    short = λ {r} h i l n.
        let p = h.sound.shapes.proper i l n in
        let f = figure_at r.words i in
        let t = text_of program r.texts f.text in
        subst (λ a. length (line_of a) ≤ line_limit) (by_kind_number program r.texts f.kind f refl)
        (omega (
          arith,
          line_short f.kind f.a f.b f.c f.d t (record { sfits = p.a }) (record { sfits = p.b }) (record { sfits = p.c }) (record { sfits = p.d }),
          text_short program r.texts f.text,
        ));
  }

  -- the scene, measured where no call is under way
  painted : {r : Raw} {s : State} {total : Amounts} → Related program ts g r s total → r.texts ≡ texts
      → Follows granted total (Painted program g) (show_scene (size_with program texts) g r) (each (λ i. figures_of (suc i) 0 i) (shapes_held s.variables) s)
  unfolding resource_number
  painted {r} {s} {total} h t =
      let m = scene_gathers s in
      mapped (λ _ xs r' s' total' w.
      let a = w.0 in
      let all : sizes (λ a. length (line_of a)) (shown_all s) < 2 ^ 49 =
      omega (
        arith,
        a.short,
        m.few,
        held_within h,
        fit_spent steps refl granted total total' (each (λ i. figures_of (suc i) 0 i) (shapes_held s.variables) s).takings w.2,
        a.related.steps_taken,
        a.related.sound.counted.steps,
        a.related.sound.lent.room.steps,
      ) in
      record {
        scene = w.1 ∙ scene_shown a.related;
        lines = rw (w.1, lines_size (shown_all s)) (omega (arith, a.lines, all));
        short = rw (w.1, lines_size (shown_all s)) all;
        room = a.related.sound.lent.room;
        told = steps_told a.related;
      })
      (ended_with m.end (measures program ts g gr texts (size_with program texts) (λ a. length (line_of a)) known h t))

  -- THE LAW
  pub main_ends_lem : {r : Raw} {s : State} {total : Amounts} → Related program ts g r s total → get_or r.words calls_used 0 ≡ 1 → get_or r.words loop_unit 0 ≡ 0 → r.texts ≡ texts
      → Follows granted total (Painted program g) (main_ends program texts g r)
      (Run.◌>>◌ Run.give_back (Run.◌>>=◌ Run.current (λ s. each (λ i. figures_of (suc i) 0 i) (shapes_held s.variables))) s)
  unfolding main_ends Act.◌>>=◌ Act.go_on Act.store Run.◌>>=◌ Run.go_on Run.give_back Run.current
  main_ends_lem h one idle t = record { is = back_together (painted (returns_main h one idle) t).is }
