-- What a run that follows the painting comes to in the book.
use Prim.Native.Nat.{ℕ, suc, ◌+◌, ◌≤◌, ◌<◌}
use native.Mathlib.Omega.{arith}
use mathlib.Core.Path.{◌≡◌, refl, ap, sym, ◌∙◌}
use mathlib.Core.Bool.{Bool, true, false, cond}
use mathlib.Core.List.{List, [], ◌∷◌, ◌++◌}
use lib.ListN.{length, get_or}
use lib.IntN.{ℤ}
use lib.Dec.{leb, eqb}
use borrow.Author.Tests.{le-leb, lt-leb}
use Rattle.meaning.specs.Basics.{if◌then◌otherwise◌, laid_over}
use Rattle.meaning.specs.State.{State}
use Rattle.meaning.specs.Run.{Resource, steps, shapes, entries, text_bytes, calls, picture, Taking, Event, taken, gave_back, End, result, error, unfinished, Run, run, Action}
use Rattle.meaning.specs.Run as Run
use Rattle.meaning.specs.Figure.{Figure}
use Rattle.meaning.specs.Picture.{picture_of}
use Rattle.meaning.specs.Program.{Outcome, drawn, drawing, empty, performing, specified}
use Rattle.meaning.specs.Book.{Amounts, nothing_yet, added, lowered, fits, all_fit, lacking, book, pictured, number, shortage_of, length_needed, resource_number, answer_to, settled, booked}
use Rattle.meaning.specs.Call.{granted, out_after_end}
use Rattle.meaning.proofs.BookLaws.{part, spent, on_fit, book_append}
use Rattle.claims.proofs.Booking.{lacking_no_fit}
use Rattle.claims.proofs.Ends.{painting_lawful}
use Rattle.machine.specs.Layout.{steps_used, steps_granted}
use Rattle.machine.specs.Act.{raw, done, stop}
use Rattle.simulation.specs.Follows.{Grants, Together, gives, lacks, fails}
use Rattle.scene.specs.Scene.{scene_in}
use Rattle.std.specs.Prelude.{Ok, Err}
use Rattle.machine.specs.declared.Fault.{Fault}
use Rattle.machine.specs.Fault.{number_of, place_of}
use Rattle.machine.specs.Act.{out_of}
use Rattle.painting.specs.Running.{Painted, Ran, painting_run}
use Rattle.lending.specs.Lending.{grants_of}
use Rattle.painting.proofs.Leaving.{fit_spent}

-- ---- takings of which none is a picture
-- the one that lacks is no picture
no_length : (t : Taking) → part picture t ≡ 0 → length_needed t ≡ 0
unfolding part length_needed resource_number
no_length t z = go t.of t.amount z
  where
    go : (r : Resource) (n : ℕ) → cond (eqb (resource_number picture) (resource_number r)) n 0 ≡ 0 → cond (eqb (resource_number r) (resource_number picture)) n 0 ≡ 0
    go steps n z = refl
    go shapes n z = refl
    go entries n z = refl
    go text_bytes n z = refl
    go calls n z = refl
    go picture n z = z

lack_picture : (g total total' : Amounts) (t : Taking) (us : List Event) → book g total us ≡ lacking t total' → spent picture us ≡ 0 → length_needed t ≡ 0
unfolding book spent if◌then◌otherwise◌
lack_picture g total total' t [] b z = absurd (lacking_no_fit (sym b))
lack_picture g total total' t (gave_back ∷ us) b z = lack_picture g (lowered total) total' t us b z
lack_picture g total total' t (taken u ∷ us) b z = go (fits g total u) b (λ b. lack_picture g (added total u) total' t us b (omega arith))
  where
    go : (c : Bool) → (if c then (λ _. book g (added total u) us) otherwise λ _. lacking u total) ≡ lacking t total'
        → (book g (added total u) us ≡ lacking t total' → length_needed t ≡ 0) → length_needed t ≡ 0
    go true b k = k b
    go false b k = let q : u ≡ t = cc in rw (← q) (no_length u (omega arith))

-- ---- what is granted
pub grants_are : (g out : List ℕ) → Grants g (granted (grants_of g) out)
unfolding granted
grants_are g out = record { steps = refl; shapes = refl; entries = refl; text = refl; calls = refl }

module _ (program : List ℕ) (width height : ℤ) (g : List ℕ) (out : List ℕ) (ts ws : List ℕ) where
  abbrev amounts : Amounts
  amounts = granted (grants_of g) out

  abbrev painted : Run (List Figure)
  painted = painting_run program width height g

  -- no picture is taken before it is drawn
  plain : spent picture painted.takings ≡ 0
  plain = (painting_lawful program width height).plain empty

  -- ---- a number
  stopped_go : (n p : ℕ) (k : List Figure → Action Outcome) (us : List Event) (e : End (List Figure)) → spent picture us ≡ 0
      → Together amounts nothing_yet (Painted program g) (stop n p (raw ts ws)) us e
      → booked amounts (Run.go_on us e k) ≡ number n p (get_or ws steps_used 0) 0
  unfolding booked settled answer_to on_fit Run.go_on
  stopped_go n p k us (result b s) z (lacks t total' f x y w) =
      rw (book_append amounts nothing_yet us (k b s).takings, f, lack_picture amounts nothing_yet total' t us f z, x, y, w)
  stopped_go n p k us (error m q) z (lacks t total' f x y w) = rw (f, lack_picture amounts nothing_yet total' t us f z, x, y, w)
  stopped_go n p k us unfinished z (lacks t total' f x y w) = rw (f, lack_picture amounts nothing_yet total' t us f z, x, y, w)
  stopped_go n p k us (error m q) z (fails total' f w) = rw (f, w)

  untouched_go : (n p : ℕ) (k : List Figure → Action Outcome) (us : List Event) (e : End (List Figure))
      → Together amounts nothing_yet (Painted program g) (stop n p (raw ts ws)) us e
      → out_after_end drawing (book amounts nothing_yet (Run.go_on us e k).takings) (Run.go_on us e k).end out ≡ out
  unfolding out_after_end on_fit Run.go_on
  untouched_go n p k us (result b s) (lacks t total' f x y w) = rw (book_append amounts nothing_yet us (k b s).takings, f)
  untouched_go n p k us (error m q) (lacks t total' f x y w) = rw f
  untouched_go n p k us unfinished (lacks t total' f x y w) = rw f
  untouched_go n p k us (error m q) (fails total' f w) = rw f

  module _ (f : Fault) (ran : Ran program g painted (Err f) ts ws) where
    together : Together amounts nothing_yet (Painted program g) (stop (number_of f) (place_of f) (raw ts ws)) painted.takings painted.end
    unfolding out_of
    together = (ran.follows amounts (grants_are g out)).is

    pub drawn_number : booked amounts (specified drawing program width height (suc (steps_granted g))) ≡ number (number_of f) (place_of f) (get_or ws steps_used 0) 0
    unfolding specified performing Run.◌>>=◌
    drawn_number = stopped_go _ _ _ painted.takings painted.end plain together

    pub out_untouched : out_after_end drawing (book amounts nothing_yet (specified drawing program width height (suc (steps_granted g))).takings)
        (specified drawing program width height (suc (steps_granted g))).end out ≡ out
    unfolding specified performing Run.◌>>=◌
    out_untouched = untouched_go _ _ _ painted.takings painted.end together

  -- ---- a picture
  -- how the painting ended
  pub record Ended : Type 0 where
    pub figures : List Figure
    pub state : State
    pub total : Amounts
    pub end : painted.end ≡ result figures state
    pub fit : book amounts nothing_yet painted.takings ≡ all_fit total
    pub none : total picture ≡ 0
    pub holds : Painted program g tt figures (raw ts ws) state total

  ended_go : (us : List Event) (e : End (List Figure)) → spent picture us ≡ 0 → painted.takings ≡ us → painted.end ≡ e
      → Together amounts nothing_yet (Painted program g) (done tt (raw ts ws)) us e → Ended
  unfolding resource_number
  ended_go us (error n m) z q h x = elim x [ ]
  ended_go us unfinished z q h x = elim x [ ]
  ended_go us (result a s) z q h (gives total f w) = record {
    figures = a;
    state = s;
    total = total;
    end = h;
    fit = ap (book amounts nothing_yet) q ∙ f;
    none = omega (arith, fit_spent picture refl amounts nothing_yet total us f, z);
    holds = w;
  }

  module _ (ran : Ran program g painted (Ok tt) ts ws) where
    pub painted_ended : Ended
    unfolding out_of
    painted_ended = ended_go painted.takings painted.end plain refl refl (ran.follows amounts (grants_are g out)).is

    abbrev bytes : List ℕ
    bytes = picture_of width height (scene_in program g (raw ts ws))

    -- ---- drawn
    abbrev last : Taking
    last = record { of = picture; amount = length bytes; place = 0 }

    abbrev whole : Run Outcome
    whole = specified drawing program width height (suc (steps_granted g))

    drawn_run : whole ≡ run (painted.takings ++ (taken last ∷ [])) (result (drawn bytes) painted_ended.state)
    unfolding specified performing Run.◌>>=◌ Run.go_on Run.give Run.spend
    drawn_run = let d = painted_ended in rw (d.end, d.holds.scene)

    drawn_book : (c : Bool) → leb (length bytes) (length out) ≡ c
        → book amounts nothing_yet (painted.takings ++ (taken last ∷ [])) ≡ (if c then (λ _. all_fit (added painted_ended.total last)) otherwise λ _. lacking last painted_ended.total)
    unfolding on_fit book fits granted
    drawn_book c e =
        let d = painted_ended in
        let z : d.total picture + length bytes ≡ length bytes = omega (arith, d.none) in
        book_append amounts nothing_yet painted.takings (taken last ∷ []) ∙ rw (d.fit, z, e)

    steps_kept : added painted_ended.total last steps ≡ get_or ws steps_used 0
    unfolding added resource_number
    steps_kept = omega (arith, painted_ended.holds.told)

    module _ (short : length out < length bytes) where
      pub drawn_short : booked amounts whole ≡ number 80 0 (get_or ws steps_used 0) (length bytes)
      unfolding booked settled shortage_of length_needed resource_number if◌then◌otherwise◌
      drawn_short = rw (drawn_run, drawn_book false (lt-leb _ _ short), painted_ended.holds.told)

      pub out_kept : out_after_end drawing (book amounts nothing_yet whole.takings) whole.end out ≡ out
      unfolding out_after_end if◌then◌otherwise◌
      out_kept = rw (drawn_run, drawn_book false (lt-leb _ _ short))

    module _ (long : length bytes ≤ length out) where
      pub drawn_picture : booked amounts whole ≡ pictured (length bytes) (get_or ws steps_used 0)
      unfolding booked settled answer_to if◌then◌otherwise◌
      drawn_picture = rw (drawn_run, drawn_book true (le-leb _ _ long), steps_kept)

      pub out_laid : out_after_end drawing (book amounts nothing_yet whole.takings) whole.end out ≡ laid_over bytes out
      unfolding out_after_end if◌then◌otherwise◌
      out_laid = rw (drawn_run, drawn_book true (le-leb _ _ long))
