-- Grants: a larger one changes nothing that named no shortage, and a shortage is answered exactly where a taking does not fit.
use Prim.Native.Nat.{ℕ, suc}
use mathlib.Core.Path.{◌≡◌, ap, sym, ◌∙◌}
use mathlib.Core.Bool.{true, false, true≢false}
use mathlib.Core.List.{List}
use native.Mathlib.Omega.{arith}
use lib.ListN.{take}
use Rattle.meaning.specs.Run.{steps, picture, Taking, Event, Run}
use Rattle.meaning.specs.Program.{drawing, Outcome}
use Rattle.meaning.specs.Book.{pictured, answer_to, booked}
use Rattle.meaning.specs.Call.{Call, admitted, granted, granted_to, run_of, answer, out_after}
use Rattle.claims.specs.Claims.{beginning_of, names_shortage, total_of, FirstShort, shortage_at, Larger, LargerGrant, ShortageExact}
use Rattle.claims.proofs.Booking.{short_append}
use Rattle.claims.proofs.Turns.{Extends, same, longer, specified_extends}
use Rattle.claims.proofs.Beginnings.{extends_behind}
use Rattle.claims.proofs.Settling.{number_decided, shortage_named, end_unnamed, booked_short, Complete, complete_larger, booked_complete, Settles, complete, stopped}
use Rattle.claims.proofs.Answers.{answer_admitted, run_ended, run_settles, enough, run_beginning, beginnings_decide}
use Rattle.claims.proofs.Pictures.{fitting, call_drawn, front_drawn, drawn_within}

-- ---- a larger grant
-- the longer run
larger_extends : (c d : Call) → Larger c d → Extends (run_of c) (run_of d)
unfolding run_of granted
larger_extends c d h =
    rw (h.operation, h.program, h.width, h.height)
    (specified_extends c.operation c.program c.width c.height
    (suc c.grants.steps) (suc d.grants.steps) (omega (arith, h.more steps)))

-- the runs are one, and complete in both calls
record Alike (c d : Call) : Type 0 where
  runs : run_of c ≡ run_of d
  smaller : Complete (granted_to c) (run_of c)
  larger : Complete (granted_to d) (run_of d)

complete_alike : (c d : Call) → Larger c d → Complete (granted_to c) (run_of c) → Extends (run_of c) (run_of d) → Alike c d
complete_alike c d h k (same e) = record {
  runs = e;
  smaller = k;
  larger = rw (← e) (complete_larger (granted_to c) (granted_to d) (run_of c) h.more k);
}
complete_alike c d h k (longer u more q) = absurd (k.finished u)

-- a run that stops at a shortage names it
stopped_named : (c : Call) (before : List Event) (t : Taking) → FirstShort (granted_to c) (run_of c).takings before t →
    names_shortage (booked (granted_to c) (run_of c)) ≡ true
stopped_named c before t s = ap names_shortage (booked_short (granted_to c) (run_of c) before t s) ∙ shortage_named before t

larger_alike : (c d : Call) → Larger c d → names_shortage (booked (granted_to c) (run_of c)) ≡ false → Alike c d
larger_alike c d h z = by (run_settles c)
  where
    by : Settles (granted_to c) (run_of c) → Alike c d
    by (complete k) = complete_alike c d h k (larger_extends c d h)
    by (stopped before t s) = absurd (true≢false (sym (stopped_named c before t s) ∙ z))

alike_booked : (c d : Call) → Alike c d → booked (granted_to d) (run_of d) ≡ booked (granted_to c) (run_of c)
alike_booked c d h =
    booked_complete (granted_to d) (run_of d) h.larger
    ∙ ap (λ (r : Run Outcome). answer_to r.end (total_of r.takings steps)) (sym h.runs)
    ∙ sym (booked_complete (granted_to c) (run_of c) h.smaller)

alike_pictures : (c d : Call) → admitted d ≡ true → Larger c d → Alike c d → (l n : ℕ) → c.operation ≡ drawing →
    answer c ≡ pictured l n → take l (out_after d) ≡ take l (out_after c)
unfolding granted
alike_pictures c d a' h k l n o e =
    let f = fitting c l n e in
    let w = call_drawn c o f in
    let m = drawn_within c l n f w in
    front_drawn d l a' (h.operation ∙ o) k.larger
    (ap (λ (r : Run Outcome). r.end) (sym k.runs) ∙ w.ends) w.long (omega (arith, h.more picture))
    ∙ sym (front_drawn c l f.allowed o f.whole w.ends w.long m)

-- THE CLAIM
pub larger_grant : LargerGrant
larger_grant c d a a' h z =
    let k = larger_alike c d h (ap names_shortage (sym (answer_admitted c a)) ∙ z) in
    (answer_admitted d a' ∙ alike_booked c d k ∙ sym (answer_admitted c a), alike_pictures c d a' h k)

-- ---- shortages
-- a call that names one has a first taking that does not fit
named_short : (c : Call) → names_shortage (booked (granted_to c) (run_of c)) ≡ true →
    (before : List Event) × (t : Taking) × FirstShort (granted_to c) (run_of c).takings before t
named_short c z = by (run_settles c)
  where
    by : Settles (granted_to c) (run_of c) →
        (before : List Event) × (t : Taking) × FirstShort (granted_to c) (run_of c).takings before t
    by (complete k) =
        absurd (true≢false (sym z ∙ ap names_shortage (booked_complete (granted_to c) (run_of c) k) ∙ end_unnamed _ _ _ (run_of c).end (run_ended c)))
    by (stopped before t s) = (before, t, s)

-- and there is a beginning in which it stands
beginning_short : (c : Call) {before : List Event} {t : Taking} → FirstShort (granted_to c) (run_of c).takings before t →
    FirstShort (granted_to c) (beginning_of c (enough c)).takings before t
beginning_short c s = let w = extends_behind (run_beginning c) in rw w.1 (short_append w.0 s)

-- the answer from a beginning
short_answer : (c : Call) → admitted c ≡ true → (n : ℕ) (before : List Event) (t : Taking) →
    FirstShort (granted_to c) (beginning_of c n).takings before t → answer c ≡ shortage_at before t
unfolding shortage_at
short_answer c a n before t s =
    let e = booked_short (granted_to c) (beginning_of c n) before t s in
    sym ((beginnings_decide c a).0 n (rw e number_decided)) ∙ e

-- THE CLAIM
pub shortage_exact : ShortageExact
shortage_exact c a = (named, short_answer c a)
  where
    named : names_shortage (answer c) ≡ true →
        (n : ℕ) × (before : List Event) × (t : Taking) × FirstShort (granted_to c) (beginning_of c n).takings before t
        × (answer c ≡ shortage_at before t)
    named z =
        let w = named_short c (ap names_shortage (sym (answer_admitted c a)) ∙ z) in
        (enough c, w.0, w.1, beginning_short c w.2, answer_admitted c a ∙ booked_short (granted_to c) (run_of c) w.0 w.1 w.2)
