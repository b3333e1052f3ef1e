-- What a search finds behind the figure that was bound: among those that follow it in its group, or else behind the next marked slot.
use Prim.Native.Nat.{ℕ, zero, suc, ◌+◌, ◌-◌, ◌*◌, ◌%◌, ◌^◌, ◌≤◌, ◌<◌}
use native.Mathlib.Omega.{arith}
use mathlib.Core.Path.{◌≡◌, refl, ap, sym}
use mathlib.Core.Bool.{true, false, cond, not, ◌||◌}
use mathlib.Core.List.{List, [], ◌∷◌}
use lib.ListN.{get_or}
use lib.Dec.{eqb}
use borrow.Author.Tests.{eq-eqb, le-leb, lt-leb, ne_eqb}
use Rattle.meaning.specs.Basics.{if◌then◌otherwise◌}
use Rattle.meaning.specs.Token.{Token}
use Rattle.meaning.specs.State.{State}
use Rattle.meaning.specs.Run as Run
use Rattle.meaning.specs.Book.{Amounts}
use Rattle.meaning.specs.Execute.{Flow}
use Rattle.machine.specs.Layout.{calls_used, components_made, loop_unit}
use Rattle.machine.specs.Act.{Raw, Out, done, Act}
use Rattle.machine.specs.Act as Act
use Rattle.machine.specs.Groups.{followers_at}
use Rattle.machine.specs.Loops.{marked_at, marked_from, unmark, look_behind}
use Rattle.simulation.specs.Follows.{Related}
use Rattle.simulation.proofs.Results.{unmoved}
use Rattle.simulation.proofs.Marking.{mark_at, AfterBut, but_after, own_call, own_word}
use Rattle.simulation.proofs.Paths.{is_in, Path, found_none, found_first}
use Rattle.simulation.proofs.Remaining.{Stop, slots, remaining, next_up, Way, Outcome, found, none, Sought}
use Rattle.simulation.proofs.RemainingLaws.{way_below, way_later, remaining_later}
use Rattle.simulation.proofs.Searching.{fresh, Ready, sought_from, ready_later, in_store, in_upper, goes_up, look}

module _ (program : List ℕ) (ts : List Token) (g : List ℕ) (body : ℕ → Run.Action Flow) (around : ℕ → ℕ) (unit end : ℕ) (fits : 2 * unit ≤ 2 ^ 64) (s : State) (total : Amounts) where
  abbrev Here : List Stop → Raw → Type 0
  Here ways r = Ready program ts g body around unit end s total ways r

  abbrev Seeking : Raw → Run.Action Flow → List Stop → Out ℕ → Type 0
  Seeking r left ways o = Sought program ts g body around unit end r s total left ways o

  -- ---- the next marked slot is the next on the way
  unmarked : {r : Raw} {ways : List Stop} → Here ways r → (j : ℕ) → j < next_up end ways → marked_at g r.words j ≡ false
  unmarked {r} {ways} y j l =
      let inside = in_store program ts g body around unit end s total y j l in
      let was : mark_at g r j ≡ around j + cond (is_in j (slots ways)) unit 0 = y.path.each j in
      let was' : mark_at g r j ≡ around j + 0 = rw (fresh g r.words end j ways y.way l) at was in
      rw (own_call y.related y.some j inside, own_word y.related y.some j inside) (lt-leb (get_or r.words loop_unit 0) (mark_at g r j) (omega (arith, was', y.unit_is, y.path.less j)))

  marked : {r : Raw} {at : Stop} {ways : List Stop} → Here (at ∷ ways) r → marked_at g r.words at.slot ≡ true
  unfolding slots is_in
  marked {r} {at} {ways} y =
      let inside = in_upper program ts g body around unit end s total y in
      let was : mark_at g r at.slot ≡ around at.slot + cond (eqb at.slot at.slot || is_in at.slot (slots ways)) unit 0 = y.path.each at.slot in
      let was' : mark_at g r at.slot ≡ around at.slot + unit = rw (eq-eqb at.slot at.slot refl) at was in
      rw (own_call y.related y.some at.slot inside, own_word y.related y.some at.slot inside)
      (le-leb (get_or r.words loop_unit 0) (mark_at g r at.slot) (omega (arith, was', y.unit_is)))

  next_none : {r : Raw} → Here [] r → (k : ℕ) → marked_from g r.words (k + 1) (end - k - 1) ≡ 0
  unfolding next_up
  next_none {r} y k = found_none g r.words (k + 1) (end - k - 1) (λ j a b. unmarked y j (omega arith))

  next_up_lem : {r : Raw} {at : Stop} {ways : List Stop} → Here (at ∷ ways) r → (k : ℕ) → k < at.slot → marked_from g r.words (k + 1) (end - k - 1) ≡ at.slot + 1
  unfolding next_up Way
  next_up_lem {r} {at} {ways} y k l =
      let q = way_below g r.words end ways y.way.1 in
      let q' = y.way.0.below in
      found_first g r.words (k + 1) (end - k - 1) at.slot (omega arith) (omega arith) (λ j a b. unmarked y j b) (marked y)

  -- ---- one turn of the look, with what is done if nothing was found
  module _ (turns : ℕ) (again : (at : Stop) (ways : List Stop) (r : Raw) → Here ways r → Way g r.words end (at ∷ ways) → end ≤ turns + at.slot
      → Seeking r (remaining g r.words body (at ∷ ways)) [] (look_behind turns g end at.slot r)) where
    -- behind slot k
    abbrev resumed : ℕ → ℕ → Act ℕ
    resumed k x = Act.◌>>=◌ Act.held (λ ws'. let up = marked_from g ws' (k + 1) (end - k - 1) in
        if not (eqb x 0) || eqb up 0 then (λ _. Act.give x) otherwise λ _. Act.◌>>◌ (unmark g (up - 1)) (look_behind turns g end (up - 1)))

    -- nothing was found: up to the next slot on the way
    rise_is : {r : Raw} {at : Stop} {ways : List Stop} → Here (at ∷ ways) r → (k : ℕ) → k < at.slot → (r' : Raw) → unmark g at.slot r ≡ done tt r'
        → resumed k 0 r ≡ look_behind turns g end at.slot r'
    unfolding Act.◌>>=◌ Act.go_on Act.held if◌then◌otherwise◌
    rise_is {r} {at} y k l r' e =
        let q : at.slot + 1 - 1 ≡ at.slot = omega arith in
        rw (next_up_lem y k l, ne_eqb (at.slot + 1) 0 (λ e. omega arith), q, e)

    rises : {r : Raw} {at : Stop} {ways : List Stop} → Here (at ∷ ways) r → (k : ℕ) → k < at.slot → end ≤ suc turns + k
        → Seeking r (remaining g r.words body (at ∷ ways)) [] (resumed k 0 r)
    unfolding Way
    rises {r} {at} {ways} y k l t =
        let z = goes_up program ts g body around unit end s total y in
        let a = z.after in
        let y' = ready_later program ts g body around unit end s total y a ways y.way.1 z.path in
        let way' = way_later a.later y.related.sound.shapes a.parts end (at ∷ ways) y.way y.in_end in
        let same = remaining_later a.later y.related.sound.shapes a.parts body end (at ∷ ways) y.way y.in_end in
        let x = again at ways z.slices y' way' (omega arith) in
        rw (rise_is y k l z.slices z.is)
        (sought_from program ts g body around unit end s total a (ap (λ (m : Run.Action Flow). m s) (sym same)) x)

    no_more : (k : ℕ) (ways : List Stop) (r : Raw) → Here ways r → k < next_up end ways → end ≤ suc turns + k → Seeking r (remaining g r.words body ways) [] (resumed k 0 r)
    unfolding Act.◌>>=◌ Act.go_on Act.held Act.give if◌then◌otherwise◌ next_up
    no_more k [] r y l t =
        rw (next_none y k) (record { result = 0; slices = r; is = refl; after = but_after (unmoved y.related); outcome = none (record { path = y.path; rest = refl }) })
    no_more k (at ∷ ways) r y l t = rises y k l t

    back : (k : ℕ) (ways : List Stop) (r r₃ : Raw) (x : ℕ) (left : Run.Action Flow) → Here ways r → AfterBut program ts g r r₃ s total
        → k < next_up end ways → end ≤ suc turns + k → Outcome program ts g body around unit end r₃ s left ways x → Seeking r left [] (resumed k x r₃)
    unfolding Act.◌>>=◌ Act.go_on Act.held Act.give if◌then◌otherwise◌
    back k ways r r₃ _ left y a l t (found at up f) =
        rw (ne_eqb (at.slot + 1) 0 (λ z. omega arith)) (record { result = at.slot + 1; slices = r₃; is = refl; after = a; outcome = found at up f })
    back k ways r r₃ _ left y a l t (none f) =
        sought_from program ts g body around unit end s total a f.rest
        (no_more k ways r₃ (ready_later program ts g body around unit end s total y a ways y.way f.path) l t)

    one_turn : (at : Stop) (ways : List Stop) (r : Raw) → Here ways r → Way g r.words end (at ∷ ways) → end ≤ suc turns + at.slot
        → Seeking r (remaining g r.words body (at ∷ ways)) [] (look_behind (suc turns) g end at.slot r)
    unfolding look_behind Act.◌>>=◌ Act.go_on Act.held Way remaining
    one_turn at ways r y way t =
        let c = y.related.sound.counted in
        let l : at.slot < next_up end ways = omega (arith, way.0.below) in
        let x = look body end fits y.related y.some y.unit_is y.in_end ways y.path way.1 at.depth (at.slot + 1) (followers_at g r.words at.slot) way.0 in
        let q : (at.slot + 1) % 2 ^ 16 ≡ at.slot + 1 =
        omega (arith, in_store program ts g body around unit end s total y at.slot l, c.made, c.entries, y.related.sound.lent.room.entries) in
        rw (q, x.is) (back at.slot ways r x.slices x.result _ y x.after l t x.outcome)

  climb : (turns : ℕ) (at : Stop) (ways : List Stop) (r : Raw) → Here ways r → Way g r.words end (at ∷ ways) → end ≤ turns + at.slot
      → Seeking r (remaining g r.words body (at ∷ ways)) [] (look_behind turns g end at.slot r)
  unfolding Way
  climb zero at ways r y way t = absurd (omega (arith, way.0.below, way_below g r.words end ways way.1))
  climb (suc turns) at ways r y way t = one_turn turns (climb turns) at ways r y way t

module _ {program : List ℕ} {ts : List Token} {g : List ℕ} (body : ℕ → Run.Action Flow) {around : ℕ → ℕ} {unit : ℕ} (end : ℕ) (fits : 2 * unit ≤ 2 ^ 64)
    {r : Raw} {s : State} {total : Amounts} (h : Related program ts g r s total) (some : 0 < get_or r.words calls_used 0) (u : get_or r.words loop_unit 0 ≡ unit)
    (in_end : end ≤ get_or r.words components_made 0) where
  pub behind : (at : Stop) (ways : List Stop) → Path g around unit (slots ways) r → Way g r.words end (at ∷ ways)
      → Sought program ts g body around unit end r s total (remaining g r.words body (at ∷ ways)) [] (look_behind end g end at.slot r)
  unfolding Way
  behind at ways path way =
      climb program ts g body around unit end fits s total end at ways r (record { related = h; some = some; unit_is = u; in_end = in_end; way = way.1; path = path }) way (omega arith)
