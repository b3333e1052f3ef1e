-- Beginnings of the specified run: each goes on where a shorter one ends.
use Prim.Native.Nat.{ℕ, suc, ◌+◌, ◌≤◌, ◌<◌}
use mathlib.Core.Path.{◌≡◌, refl, ap, sym, ◌∙◌}
use mathlib.Core.Logic.{◌≢◌}
use mathlib.Core.Bool.{Bool, true, false}
use mathlib.Core.List.{List, [], ◌++◌, append_assoc, append-nil}
use native.Mathlib.Omega.{arith}
use lib.ListN.{length, take, drop, take-append-drop}
use lib.Seq.{length-take-le, take_all, take-take, take-append-le, take-append-add}
use lib.IntN.{ℤ}
use lib.Dec.{leb}
use borrow.Author.Tests.{leb-true, leb-false, le-leb}
use Rattle.meaning.specs.Basics.{if◌then◌otherwise◌}
use Rattle.meaning.specs.Run.{Event, unfinished, Run, run}
use Rattle.meaning.specs.Program.{Operation, Outcome, specified, cut, beginning}
use Rattle.claims.specs.Claims.{errors, BeginningsExtend, EndedStays}
use Rattle.claims.proofs.Turns.{Extends, same, longer, specified_extends}
use Rattle.claims.proofs.Ends.{Many, Ended, specified_ended}

-- ---- cuts
module _ {A : Type 0} where
  -- nothing is cut from a run that is short enough
  cut_whole : (n : ℕ) (r : Run A) → length r.takings ≤ n → cut n r ≡ r
  unfolding cut if◌then◌otherwise◌
  cut_whole n r l = rw (le-leb (length r.takings) n l)

  -- a cut is the run, or is unfinished
  cut_cases : (n : ℕ) (r : Run A) (P : Run A → Type 0) → (length r.takings ≤ n → P r) →
      (n < length r.takings → P (run (take n r.takings) unfinished)) → P (cut n r)
  unfolding cut if◌then◌otherwise◌
  cut_cases n r P h k = by (leb (length r.takings) n) refl
    where
      by : (b : Bool) → leb (length r.takings) n ≡ b → P (if b then (λ _. r) otherwise λ _. run (take n r.takings) unfinished)
      by true e = h (leb-true _ _ e)
      by false e = k (leb-false _ _ e)

  -- a cut's takings are the first of the run's
  cut_takings : (n : ℕ) (r : Run A) → (cut n r).takings ≡ take n r.takings
  cut_takings n r = cut_cases n r (λ (q : Run A). q.takings ≡ take n r.takings) (λ l. sym (take_all n r.takings l)) (λ l. refl)

  -- ---- cuts of longer runs
  -- a longer run takes what the shorter takes, and more
  pub extends_behind : {r r' : Run A} → Extends r r' → (more : List Event) × (r'.takings ≡ r.takings ++ more)
  extends_behind {r} (same e) = ([], ap (λ (q : Run A). q.takings) (sym e) ∙ sym (append-nil r.takings))
  extends_behind (longer u more e) = (more, e)

  -- a cut of a run is lengthened by what lengthens the run
  pub cut_extends : (n : ℕ) {r r' : Run A} → Extends r r' → Extends (cut n r) r'
  cut_extends n {r} {r'} h =
      let w = extends_behind h in
      cut_cases n r (λ (q : Run A). Extends q r') (λ l. h) (λ l. longer refl (drop n r.takings ++ w.0)
      (w.1 ∙ ap (λ (ts : List Event). ts ++ w.0) (sym (take-append-drop n r.takings))
      ∙ append_assoc (take n r.takings) (drop n r.takings) w.0))

  -- a cut behind the end of a run lengthens it
  pub extends_cut : (k : ℕ) {r r' : Run A} → Extends r r' → Extends r (cut (length r.takings + k) r')
  extends_cut k {r} {r'} (same e) = same (sym (cut_whole (length r.takings + k) r (omega arith)) ∙ ap (cut (length r.takings + k)) e)
  extends_cut k {r} {r'} (longer u more e) =
      longer u (take k more) (cut_takings (length r.takings + k) r' ∙ ap (take (length r.takings + k)) e ∙ take-append-add r.takings more k)

  -- what is unfinished has counted its steps
  pub ended_many : (n : ℕ) (r : Run A) → Ended errors n r → r.end ≡ unfinished → Many n r.takings
  ended_many n r h u = rw u at h

  -- the first n takings are those of a longer run
  same_front : (n : ℕ) {r r' : Run A} → Ended errors (suc n) r → Extends r r' → take n r'.takings ≡ take n r.takings
  same_front n h (same e) = ap (λ (q : Run A). take n q.takings) (sym e)
  same_front n {r} h (longer u more e) = ap (take n) e ∙ take-append-le n r.takings more (omega (arith, ended_many (suc n) r h u))

-- ---- THE CLAIMS
pub beginnings_extend : BeginningsExtend
unfolding beginning
beginnings_extend o program width height n k =
    let r = specified o program width height (suc n) in
    let r' = specified o program width height (suc (n + k)) in
    ap (take n) (cut_takings (n + k) r') ∙ take-take n (n + k) r'.takings (omega arith)
    ∙ same_front n (specified_ended o program width height (suc n))
    (specified_extends o program width height (suc n) (suc (n + k)) (omega arith))
    ∙ sym (cut_takings n r)

ended_same : {A : Type 0} (n k : ℕ) {r r' : Run A} → Extends r r' → length r.takings ≤ n → r.end ≢ unfinished →
    cut (n + k) r' ≡ r
ended_same n k {r} (same e) l h = ap (cut (n + k)) (sym e) ∙ cut_whole (n + k) r (omega arith)
ended_same n k (longer u more e) l h = absurd (h u)

pub ended_stays : EndedStays
unfolding beginning
ended_stays o program width height n k =
    let r = specified o program width height (suc n) in
    let r' = specified o program width height (suc (n + k)) in
    cut_cases n r (λ (q : Run Outcome). q.end ≢ unfinished → cut (n + k) r' ≡ q)
    (ended_same n k (specified_extends o program width height (suc n) (suc (n + k)) (omega arith)))
    (λ l h. absurd (h refl))

-- a beginning that is unfinished has as many takings and returns as were asked for
pub unfinished_long : (o : Operation) (program : List ℕ) (width height : ℤ) (n : ℕ) →
    (beginning o program width height n).end ≡ unfinished → length (beginning o program width height n).takings ≡ n
unfolding beginning
unfinished_long o program width height n =
    let r = specified o program width height (suc n) in
    cut_cases n r (λ (q : Run Outcome). q.end ≡ unfinished → length q.takings ≡ n)
    (λ l u. absurd (omega (arith, ended_many (suc n) r (specified_ended o program width height (suc n)) u)))
    (λ l u. length-take-le n r.takings (omega arith))
