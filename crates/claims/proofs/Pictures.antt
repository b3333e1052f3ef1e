-- Pictures: what drawing writes.
use Prim.Native.Nat.{ℕ, suc, ◌≤◌}
use mathlib.Core.Path.{◌≡◌, refl, ap, sym, ◌∙◌}
use mathlib.Core.Logic.{◌≢◌}
use mathlib.Core.Bool.{Bool, true, false}
use mathlib.Core.List.{List, [], ◌∷◌}
use native.Mathlib.Omega.{arith}
use lib.ListN.{length, take}
use lib.IntN.{ℤ}
use Rattle.meaning.specs.Basics.{if◌then◌otherwise◌, laid_over}
use Rattle.meaning.specs.State.{State}
use Rattle.meaning.specs.Run.{steps, picture, Event, taking, End, result, error, unfinished, Run, Action, go_on, ◌>>=◌, give}
use Rattle.meaning.specs.Run as Run
use Rattle.meaning.specs.Figure.{Figure}
use Rattle.meaning.specs.Picture.{picture_of}
use Rattle.meaning.specs.Program.{Operation, drawing, Outcome, drawn, empty, painting, performing, specified}
use Rattle.meaning.specs.Book.{resource_number, pictured, number, undecided, answer_to, booked}
use Rattle.meaning.specs.Call.{Call, admitted, granted, granted_to, run_of, answer, out_after_end, out_after}
use Rattle.claims.specs.Claims.{total_of, shortage_at, PicturesFillTheFront}
use Rattle.meaning.proofs.BookLaws.{part, spent, spent_append}
use Rattle.meaning.proofs.SliceLaws.{laid_front}
use Rattle.claims.proofs.Booking.{picture_spent}
use Rattle.claims.proofs.Settling.{number_no_picture, booked_short, Complete, booked_complete, Settles, complete, stopped}
use Rattle.claims.proofs.Answers.{answer_admitted, out_admitted, run_settles}

-- ---- a call that is answered by a picture
pub undecided_no_picture : {l n : ℕ} → undecided ≢ pictured l n
undecided_no_picture e = let z : ◌≡◌ {A = ℕ} 0 1 = cc in omega arith

pub picture_admitted : (c : Call) (l n : ℕ) → answer c ≡ pictured l n → admitted c ≡ true
unfolding answer if◌then◌otherwise◌
picture_admitted c l n = by (admitted c)
  where
    by : (b : Bool) → (if b then (λ _. booked (granted_to c) (run_of c)) otherwise λ _. number 71 0 0 0) ≡ pictured l n → b ≡ true
    by true h = refl
    by false h = absurd (number_no_picture h)

-- its run is complete, and the run's end is the answer
pub record Fitting (c : Call) (l n : ℕ) : Type 0 where
  pub allowed : admitted c ≡ true
  pub whole : Complete (granted_to c) (run_of c)
  pub ending : answer_to (run_of c).end (total_of (run_of c).takings steps) ≡ pictured l n

pub fitting : (c : Call) (l n : ℕ) → answer c ≡ pictured l n → Fitting c l n
unfolding shortage_at
fitting c l n h = by (run_settles c)
  where
    a : admitted c ≡ true
    a = picture_admitted c l n h

    e : booked (granted_to c) (run_of c) ≡ pictured l n
    e = sym (answer_admitted c a) ∙ h

    by : Settles (granted_to c) (run_of c) → Fitting c l n
    by (complete k) = record { allowed = a; whole = k; ending = sym (booked_complete (granted_to c) (run_of c) k) ∙ e }
    by (stopped before t s) = absurd (number_no_picture (sym (booked_short (granted_to c) (run_of c) before t s) ∙ e))

-- ---- drawing
-- the run of an operation that comes behind a painting
abbrev pub showing : ℤ → ℤ → List Figure → Action Outcome
showing width height a = Run.spend picture (length (picture_of width height a)) 0 >>= λ _. give (drawn (picture_of width height a))

-- it ends with the picture, which it takes last
pub record Drawn (r : Run Outcome) (l : ℕ) : Type 0 where
  pub bytes : List ℕ
  pub final : State
  pub ends : r.end ≡ result (drawn bytes) final
  pub long : length bytes ≡ l
  pub takes : l ≤ spent picture r.takings

drawn_by : (width height : ℤ) (ts : List Event) (e : End (List Figure)) {l n : ℕ} (m : ℕ) → answer_to (go_on ts e (showing width height)).end m ≡ pictured l n →
    Drawn (go_on ts e (showing width height)) l
unfolding go_on ◌>>=◌ Run.spend give answer_to spent part resource_number
drawn_by width height ts (result a s) {l} m h =
    let b = picture_of width height a in
    let e : length b ≡ l = cc in
    record { bytes = b; final = s; ends = refl; long = e; takes = omega (arith, spent_append picture ts (taking picture (length b) 0 ∷ [])) }
drawn_by width height ts (error m p) n h = absurd (number_no_picture h)
drawn_by width height ts unfinished n h = absurd (undecided_no_picture h)

drawn_run : (o : Operation) (program : List ℕ) (width height : ℤ) (k m l n : ℕ) → o ≡ drawing →
    answer_to (specified o program width height k).end m ≡ pictured l n → Drawn (specified o program width height k) l
unfolding specified performing ◌>>=◌
drawn_run o program width height k m l n e =
    rw e (drawn_by width height (painting program width height k empty).takings (painting program width height k empty).end m)

-- so a call of drawing that is answered by a picture draws it
pub call_drawn : (c : Call) {l n : ℕ} → c.operation ≡ drawing → Fitting c l n → Drawn (run_of c) l
unfolding run_of
call_drawn c {l} {n} e h = drawn_run c.operation c.program c.width c.height (suc c.grants.steps) _ l n e h.ending

-- and writes it
pub out_drawn : (c : Call) {b : List ℕ} {s : State} → admitted c ≡ true → c.operation ≡ drawing →
    Complete (granted_to c) (run_of c) → (run_of c).end ≡ result (drawn b) s → out_after c ≡ laid_over b c.out
unfolding out_after_end
out_drawn c a o k u = out_admitted c a ∙ rw (k.booking, u, o)

-- so that it is the out slice's front
pub front_drawn : (c : Call) (l : ℕ) {b : List ℕ} {s : State} → admitted c ≡ true → c.operation ≡ drawing →
    Complete (granted_to c) (run_of c) → (run_of c).end ≡ result (drawn b) s → length b ≡ l → l ≤ length c.out →
    take l (out_after c) ≡ b
front_drawn c l {b} a o k u e h = ap (take l) (out_drawn c a o k u) ∙ rw (← e) (laid_front b c.out (omega arith))

pub drawn_within : (c : Call) (l n : ℕ) → Fitting c l n → Drawn (run_of c) l → l ≤ length c.out
unfolding granted
drawn_within c l n f d = omega (arith, d.takes, f.whole.within picture, picture_spent (run_of c).takings)

-- THE CLAIM
pub pictures_fill_the_front : PicturesFillTheFront
pictures_fill_the_front c l n o h =
    let f = fitting c l n h in
    let d = call_drawn c o f in
    (d.bytes, d.final, d.ends, d.long, drawn_within c l n f d, out_drawn c f.allowed o f.whole d.ends)
