-- What a run comes to under a grant: its own end where everything fits, else the first taking that does not.
use Prim.Native.Nat.{ℕ, suc, ◌≤◌}
use mathlib.Core.Path.{◌≡◌, refl, ap, sym}
use mathlib.Core.Logic.{◌≢◌}
use mathlib.Core.Bool.{Bool, true, false, ◌&&◌, ◌||◌}
use mathlib.Core.List.{List, [], ◌∷◌}
use native.Mathlib.Omega.{arith}
use native.Mathlib.Nat.{le_trans}
use lib.Dec.{leb, eqb}
use borrow.Author.Tests.{lt-leb, leb-true, eqb-true}
use Rattle.meaning.specs.Basics.{stands_in}
use Rattle.meaning.specs.State.{State}
use Rattle.meaning.specs.Run.{Resource, steps, shapes, entries, text_bytes, calls, picture, Taking, Event, End, result, error, unfinished, Run}
use Rattle.meaning.specs.Program.{Outcome, accepted, drawn}
use Rattle.meaning.specs.Book.{Amounts, nothing_yet, Booked, all_fit, lacking, book, pictured, number, undecided, shortage_of, answer_to, settled, booked}
use Rattle.claims.specs.Claims.{among, errors, all_within, names_shortage, total_of, FirstShort, shortage_at}
use Rattle.meaning.proofs.BookLaws.{on_fit, book_append}
use Rattle.claims.proofs.Booking.{steps_spent, Books, fit, short, books, fit_larger, book_short}
use Rattle.claims.proofs.Turns.{Extends, same, longer}
use Rattle.claims.proofs.Ends.{Ending, Ended}
use Rattle.claims.proofs.Beginnings.{ended_many}

-- ---- answers and ends are told apart
pub number_decided : {m p n l : ℕ} → number m p n l ≢ undecided
number_decided e = let z : ◌≡◌ {A = ℕ} 0 1 = cc in omega arith

pictured_decided : {l n : ℕ} → pictured l n ≢ undecided
pictured_decided e = let z : ◌≡◌ {A = ℕ} 0 1 = cc in omega arith

pub number_no_picture : {m p n l l' n' : ℕ} → number m p n l ≢ pictured l' n'
number_no_picture e = let z : ◌≡◌ {A = ℕ} 0 1 = cc in omega arith

pub result_finished : {a : Outcome} {s : State} → result a s ≢ unfinished
result_finished e = let z : ◌≡◌ {A = ℕ} 0 1 = cc in omega arith

answer_decided : (e : End Outcome) (n : ℕ) → e ≢ unfinished → answer_to e n ≢ undecided
unfolding answer_to
answer_decided (result accepted s) n h = pictured_decided
answer_decided (result (drawn b) s) n h = pictured_decided
answer_decided (error m p) n h = number_decided
answer_decided unfinished n h = absurd (h refl)

-- ---- shortages
-- a resource that is lacking has a number from 76 to 81
named : (r : Resource) → (leb 76 (shortage_of r) && leb (shortage_of r) 81) ≡ true
unfolding shortage_of
named steps = refl
named shapes = refl
named entries = refl
named text_bytes = refl
named calls = refl
named picture = refl

pub shortage_named : (before : List Event) (t : Taking) → names_shortage (shortage_at before t) ≡ true
unfolding names_shortage shortage_at
shortage_named before t = named t.of

-- an end is none
error_low : (m : ℕ) (ns : List ℕ) → all_within 75 ns ≡ true → among ns m → m ≤ 75
unfolding all_within stands_in
error_low m [] w h = let z : ◌≡◌ {A = ℕ} 0 1 = cc in absurd (omega arith)
error_low m (x ∷ ns) w h = go (eqb m x) (leb x 75) refl refl h w (λ w h. error_low m ns w h)
  where
    go : (b c : Bool) → eqb m x ≡ b → leb x 75 ≡ c → b || stands_in m ns ≡ true → c && all_within 75 ns ≡ true
        → (all_within 75 ns ≡ true → stands_in m ns ≡ true → m ≤ 75) → m ≤ 75
    go true true e l h w k = rw (eqb-true m x e) (leb-true x 75 l)
    go false true e l h w k = k w h
    go b false e l h w k = let z : ◌≡◌ {A = ℕ} 0 1 = cc in absurd (omega arith)

errors_within : all_within 75 errors ≡ true
unfolding all_within
errors_within = refl

pub end_unnamed : (n c : ℕ) (ts : List Event) (e : End Outcome) → Ending errors c ts e → names_shortage (answer_to e n) ≡ false
unfolding names_shortage answer_to
end_unnamed n c ts (result accepted s) h = refl
end_unnamed n c ts (result (drawn b) s) h = refl
end_unnamed n c ts (error m p) h = rw (lt-leb 76 m (omega (arith, error_low m errors errors_within h)))
end_unnamed n c ts unfinished h = refl

-- the answer where a taking is the first that does not fit
pub booked_short : (g : Amounts) (r : Run Outcome) (before : List Event) (t : Taking) → FirstShort g r.takings before t →
    booked g r ≡ shortage_at before t
unfolding booked settled shortage_at
booked_short g r before t h = rw (book_short g r.takings before t h)

-- ---- the two ways of a run that ends or has counted more steps than are granted
-- the run has ended, and all that it takes fits
pub record Complete (g : Amounts) (r : Run Outcome) : Type 0 where
  pub booking : book g nothing_yet r.takings ≡ all_fit (total_of r.takings)
  pub within : (x : Resource) → total_of r.takings x ≤ g x
  pub finished : r.end ≢ unfinished

pub data Settles (g : Amounts) (r : Run Outcome) : Type 0 where
  complete : Complete g r → Settles g r
  stopped : (before : List Event) (t : Taking) → FirstShort g r.takings before t → Settles g r

pub settles : (g : Amounts) (r : Run Outcome) → Ended errors (suc (g steps)) r → Settles g r
settles g r h = by (books g nothing_yet r.takings (λ x. omega arith))
  where
    by : Books g nothing_yet r.takings → Settles g r
    by (fit b w) = complete (record {
      booking = b;
      within = w;
      finished = λ u. omega (arith, ended_many (suc (g steps)) r h u, w steps, steps_spent r.takings);
    })
    by (short before t behind s b f) = stopped before t (record { behind = behind; stand = s; before_fit = b; does_not_fit = f })

-- and is complete with a larger grant
pub complete_larger : (g g' : Amounts) (r : Run Outcome) → ((x : Resource) → g x ≤ g' x) → Complete g r → Complete g' r
complete_larger g g' r l k = record {
  booking = fit_larger g g' nothing_yet r.takings l k.booking;
  within = λ x. le_trans (k.within x) (l x);
  finished = k.finished;
}

-- the answer of a complete run is its end's
pub booked_complete : (g : Amounts) (r : Run Outcome) → Complete g r → booked g r ≡ answer_to r.end (total_of r.takings steps)
unfolding booked settled
booked_complete g r h = rw h.booking

-- every such run is answered
pub booked_decided : (g : Amounts) (r : Run Outcome) → Ended errors (suc (g steps)) r → booked g r ≢ undecided
unfolding shortage_at
booked_decided g r h = by (settles g r h)
  where
    by : Settles g r → booked g r ≢ undecided
    by (complete k) = rw (booked_complete g r k) (answer_decided r.end (total_of r.takings steps) k.finished)
    by (stopped before t s) = rw (booked_short g r before t s) number_decided

-- ---- what is decided stays so in a longer run
pub booked_extends : (g : Amounts) {r r' : Run Outcome} → Extends r r' → booked g r ≢ undecided → booked g r' ≡ booked g r
unfolding booked settled answer_to on_fit
booked_extends g (same e) h = ap (booked g) (sym e)
booked_extends g {r} {r'} (longer u more e) h = by (book g nothing_yet r.takings) refl
  where
    by : (x : Booked) → book g nothing_yet r.takings ≡ x → booked g r' ≡ booked g r
    by (all_fit total) q = absurd (h (rw (q, u)))
    by (lacking t total) q = rw (e, book_append g nothing_yet r.takings more, q)
