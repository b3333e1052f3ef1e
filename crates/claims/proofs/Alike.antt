-- A call's run and the beginnings: where both have ended they are one, and so are their pictures.
use Prim.Native.Nat.{ℕ, suc, ◌+◌, ◌≤◌}
use mathlib.Core.Path.{◌≡◌, ap, sym, ◌∙◌}
use mathlib.Core.Logic.{◌≢◌}
use mathlib.Core.Bool.{false, true≢false}
use mathlib.Core.List.{List}
use native.Mathlib.Omega.{arith}
use Rattle.meaning.specs.Run.{steps, Event, unfinished, Run}
use Rattle.meaning.specs.Program.{Outcome}
use Rattle.meaning.specs.Book.{Amounts, nothing_yet, all_fit, book, booked}
use Rattle.meaning.specs.Call.{Call, granted_to, run_of}
use Rattle.meaning.proofs.BookLaws.{spent, spent_append}
use Rattle.claims.specs.Claims.{beginning_of, names_shortage, EndAlike, FittingIsRun, AnswersAreBeginnings, PicturesAreBeginnings}
use Rattle.claims.proofs.Booking.{steps_spent, Books, fit, short, books, lacking_no_fit, book_short}
use Rattle.claims.proofs.Turns.{Extends, same, longer}
use Rattle.claims.proofs.Beginnings.{ended_many, ended_stays}
use Rattle.claims.proofs.Settling.{Settles, complete, stopped, booked_short, shortage_named}
use Rattle.claims.proofs.Answers.{answer_admitted, run_ended, run_settles, runs, turns, beginning_run, call_run, enough, run_beginning}
use Rattle.claims.proofs.Pictures.{fitting, call_drawn, drawn_within, front_drawn}

-- a run that has ended is not lengthened
extended_same : {r r' : Run Outcome} → Extends r r' → r.end ≢ unfinished → r ≡ r'
extended_same (same e) h = e
extended_same (longer u more e) h = absurd (h u)

module _ (c : Call) where
  pub beginning_is : (n : ℕ) → (beginning_of c n).end ≢ unfinished → beginning_of c n ≡ runs c (turns c n)
  beginning_is n h = extended_same (beginning_run c n) h

  call_is : (n : ℕ) → (run_of c).end ≢ unfinished → run_of c ≡ runs c (turns c n)
  call_is n h = extended_same (call_run c n) h

pub end_alike : EndAlike
end_alike c n h k = beginning_is c n k ∙ sym (call_is c n h)

-- ---- takings that all fit
fit_steps : (g total : Amounts) (ts : List Event) → book g nothing_yet ts ≡ all_fit total → spent steps ts ≤ g steps
fit_steps g total ts e = by (books g nothing_yet ts (λ x. omega arith))
  where
    by : Books g nothing_yet ts → spent steps ts ≤ g steps
    by (fit b w) = omega (arith, w steps, steps_spent ts)
    by (short before t behind s b f) =
        absurd (lacking_no_fit (sym (book_short g ts before t (record { behind = behind; stand = s; before_fit = b; does_not_fit = f })) ∙ e))

pub fitting_is_run : FittingIsRun
fitting_is_run c n total h e = beginning_is c n h ∙ by (call_run c n)
  where
    fits : spent steps (runs c (turns c n)).takings ≤ granted_to c steps
    fits = fit_steps (granted_to c) total (runs c (turns c n)).takings (ap (λ (r : Run Outcome). book (granted_to c) nothing_yet r.takings) (sym (beginning_is c n h)) ∙ e)

    by : Extends (run_of c) (runs c (turns c n)) → runs c (turns c n) ≡ run_of c
    by (same q) = sym q
    by (longer u more q) =
        let counted = (ended_many (suc (granted_to c steps)) (run_of c) (run_ended c) u).counted in
        let within : spent steps (run_of c).takings ≤ granted_to c steps = omega (arith, fits, ap (spent steps) q, spent_append steps (run_of c).takings more) in
        absurd (omega (arith, counted, within))

-- ---- where nothing is lacking
-- from the length that is enough on
run_is_beginning : (c : Call) → (run_of c).end ≢ unfinished → (k : ℕ) → beginning_of c (enough c + k) ≡ run_of c
run_is_beginning c h k =
    let e = extended_same (run_beginning c) h in
    ended_stays c.operation c.program c.width c.height (enough c) k (rw (← e) h) ∙ sym e

unlacking_ended : (c : Call) → names_shortage (booked (granted_to c) (run_of c)) ≡ false → (run_of c).end ≢ unfinished
unlacking_ended c z = by (run_settles c)
  where
    by : Settles (granted_to c) (run_of c) → (run_of c).end ≢ unfinished
    by (complete k) = k.finished
    by (stopped before t s) =
        absurd (true≢false (sym (ap names_shortage (booked_short (granted_to c) (run_of c) before t s) ∙ shortage_named before t) ∙ z))

pub answers_are_beginnings : AnswersAreBeginnings
answers_are_beginnings c a z =
    let h = unlacking_ended c (ap names_shortage (sym (answer_admitted c a)) ∙ z) in
    (h, (enough c, run_is_beginning c h))

pub pictures_are_beginnings : PicturesAreBeginnings
pictures_are_beginnings c l n o e =
    let f = fitting c l n e in
    let w = call_drawn c o f in (
      w.bytes,
      w.final,
      front_drawn c l f.allowed o f.whole w.ends w.long (drawn_within c l n f w),
      (enough c, λ k. ap (λ (r : Run Outcome). r.end) (run_is_beginning c f.whole.finished k) ∙ w.ends),
    )
