-- Calls: what their answers and their out slices come to.
use Prim.Native.Nat.{ℕ, suc, ◌+◌, ◌≤◌}
use mathlib.Core.Path.{◌≡◌, refl, sym, ◌∙◌}
use mathlib.Core.Logic.{◌≢◌}
use mathlib.Core.Bool.{Bool, true, false}
use mathlib.Core.List.{List}
use native.Mathlib.Omega.{arith}
use lib.ListN.{length}
use Rattle.meaning.specs.Basics.{if◌then◌otherwise◌}
use Rattle.meaning.specs.Run.{steps, End, result, error, unfinished, Run}
use Rattle.meaning.specs.Program.{Operation, checking, drawing, Outcome, accepted, drawn, specified, beginning}
use Rattle.meaning.specs.Book.{nothing_yet, Booked, all_fit, lacking, book, number, undecided, answer_to, settled, booked}
use Rattle.meaning.specs.Call.{Call, admitted, granted, granted_to, run_of, answer, out_after_end, out_after}
use Rattle.claims.specs.Claims.{errors, beginning_of, BeginningsDecide, AlwaysAnswered, NumbersWriteNothing}
use Rattle.claims.proofs.Turns.{Extends, specified_extends}
use Rattle.claims.proofs.Ends.{Ended, specified_ended}
use Rattle.claims.proofs.Beginnings.{cut_extends, extends_cut}
use Rattle.claims.proofs.Settling.{number_decided, number_no_picture, Settles, settles, booked_decided, booked_extends}

-- ---- admitted calls
pub answer_admitted : (c : Call) → admitted c ≡ true → answer c ≡ booked (granted_to c) (run_of c)
unfolding answer if◌then◌otherwise◌
answer_admitted c e = rw e

pub out_admitted : (c : Call) → admitted c ≡ true →
    out_after c ≡ out_after_end c.operation (book (granted_to c) nothing_yet (run_of c).takings) (run_of c).end c.out
unfolding out_after if◌then◌otherwise◌
out_admitted c e = rw e

-- a call's run ends, or has counted more steps than are granted
pub run_ended : (c : Call) → Ended errors (suc (granted_to c steps)) (run_of c)
unfolding run_of granted
run_ended c = specified_ended c.operation c.program c.width c.height (suc c.grants.steps)

pub run_settles : (c : Call) → Settles (granted_to c) (run_of c)
run_settles c = settles (granted_to c) (run_of c) (run_ended c)

-- ---- every call is answered
pub always_answered : AlwaysAnswered
unfolding answer if◌then◌otherwise◌
always_answered c = by (admitted c)
  where
    by : (b : Bool) → (if b then (λ _. booked (granted_to c) (run_of c)) otherwise λ _. number 71 0 0 0) ≢ undecided
    by true = booked_decided (granted_to c) (run_of c) (run_ended c)
    by false = number_decided

-- ---- beginnings decide
module _ (c : Call) where
  abbrev pub runs : ℕ → Run Outcome
  runs n = specified c.operation c.program c.width c.height n

  extending : (n n' : ℕ) → n ≤ n' → Extends (runs n) (runs n')
  extending = specified_extends c.operation c.program c.width c.height

  -- a beginning and the call's run are both lengthened by the run with as many turns as both
  abbrev pub turns : ℕ → ℕ
  turns n = suc (n + c.grants.steps)

  pub beginning_run : (n : ℕ) → Extends (beginning_of c n) (runs (turns n))
  unfolding beginning
  beginning_run n = cut_extends n (extending (suc n) (turns n) (omega arith))

  pub call_run : (n : ℕ) → Extends (run_of c) (runs (turns n))
  unfolding run_of
  call_run n = extending (suc c.grants.steps) (turns n) (omega arith)

  -- and there is a beginning that lengthens the call's run
  abbrev pub enough : ℕ
  enough = length (run_of c).takings + c.grants.steps

  pub run_beginning : Extends (run_of c) (beginning_of c enough)
  unfolding beginning run_of
  run_beginning = extends_cut c.grants.steps (extending (suc c.grants.steps) (suc enough) (omega arith))

  decides : admitted c ≡ true → (n : ℕ) → booked (granted_to c) (beginning_of c n) ≢ undecided →
      booked (granted_to c) (beginning_of c n) ≡ answer c
  decides a n h =
      sym (booked_extends (granted_to c) (beginning_run n) h)
      ∙ booked_extends (granted_to c) (call_run n) (booked_decided (granted_to c) (run_of c) (run_ended c))
      ∙ sym (answer_admitted c a)

pub beginnings_decide : BeginningsDecide
beginnings_decide c a = (
  decides c a,
  (enough c, booked_extends (granted_to c) (run_beginning c) (booked_decided (granted_to c) (run_of c) (run_ended c)) ∙ sym (answer_admitted c a)),
)

-- ---- numbers write nothing
end_writes_nothing : (o : Operation) (x : Booked) (e : End Outcome) (out : List ℕ) {m p n l : ℕ} → settled x e ≡ number m p n l →
    out_after_end o x e out ≡ out
unfolding settled answer_to out_after_end
end_writes_nothing checking x e out h = refl
end_writes_nothing drawing (lacking t total) e out h = refl
end_writes_nothing drawing (all_fit total) (result accepted s) out h = refl
end_writes_nothing drawing (all_fit total) (result (drawn b) s) out h = absurd (number_no_picture (sym h))
end_writes_nothing drawing (all_fit total) (error n p) out h = refl
end_writes_nothing drawing (all_fit total) unfinished out h = refl

pub numbers_write_nothing : NumbersWriteNothing
unfolding answer out_after if◌then◌otherwise◌ booked
numbers_write_nothing c m p n l = by (admitted c)
  where
    by : (b : Bool) → (if b then (λ _. booked (granted_to c) (run_of c)) otherwise λ _. number 71 0 0 0) ≡ number m p n l →
        (if b then (λ _. out_after_end c.operation (book (granted_to c) nothing_yet (run_of c).takings) (run_of c).end c.out)
        otherwise λ _. c.out) ≡ c.out
    by true h = end_writes_nothing c.operation (book (granted_to c) nothing_yet (run_of c).takings) (run_of c).end c.out h
    by false h = refl
