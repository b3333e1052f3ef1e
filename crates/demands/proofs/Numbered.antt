-- 0, which tells C that there is no number, is the number of no answer.
use Prim.Native.Nat.{ℕ, suc}
use native.Mathlib.Omega.{arith}
use mathlib.Core.Path.{◌≡◌, refl, ap, subst, sym, ◌∙◌}
use mathlib.Core.Logic.{◌≢◌}
use mathlib.Core.Bool.{Bool, true, false}
use Rattle.meaning.specs.Basics.{if◌then◌otherwise◌, stands_in}
use Rattle.meaning.specs.Run.{steps, shapes, entries, text_bytes, calls, picture, Resource, End, result, error, unfinished}
use Rattle.meaning.specs.Program.{accepted, Outcome}
use Rattle.meaning.specs.Program as Program
use Rattle.meaning.specs.Book.{pictured, number, answer_to, shortage_of}
use Rattle.meaning.specs.Call.{Call, admitted, granted_to, run_of, answer}
use Rattle.claims.specs.Claims.{errors, total_of, shortage_at}
use Rattle.claims.proofs.Ends.{Ending}
use Rattle.claims.proofs.Settling.{Complete, Settles, complete, stopped, booked_short, booked_complete}
use Rattle.claims.proofs.Answers.{answer_admitted, run_ended, run_settles}
use Rattle.demands.specs.Demands.{ZeroIsNoNumber}

no : {A : Type 0} → ◌≡◌ {A = ℕ} 0 1 → A
no z = absurd (omega arith)

number_is : {m m' p p' n n' l l' : ℕ} → number m p n l ≡ number m' p' n' l' → m ≡ m'
number_is e = cc

picture_not : {k j m p n l : ℕ} {A : Type 0} → pictured k j ≡ number m p n l → A
picture_not e = let z : ◌≡◌ {A = ℕ} 0 1 = cc in no z

module _ (c : Call) (m p n l : ℕ) (a : admitted c ≡ true) (e : answer c ≡ number m p n l) where
  ended : Complete (granted_to c) (run_of c) → (x : End Outcome) → (run_of c).end ≡ x → answer_to x (total_of (run_of c).takings steps) ≡ number m p n l
  ended k x q = sym (answer_admitted c a ∙ booked_complete (granted_to c) (run_of c) k ∙ ap (λ (y : End Outcome). answer_to y (total_of (run_of c).takings steps)) q) ∙ e

  by_end : Complete (granted_to c) (run_of c) → (x : End Outcome) → (run_of c).end ≡ x → m ≢ 0
  unfolding answer_to stands_in
  by_end k (result accepted s) q z = picture_not (ended k _ q)
  by_end k (result (Program.drawn b) s) q z = picture_not (ended k _ q)
  by_end k (error i j) q z =
      let h = subst (Ending errors (suc (granted_to c steps)) (run_of c).takings) q (run_ended c) in
      let d : i ≡ m = number_is (ended k _ q) in
      let y : ◌≡◌ {A = Bool} (stands_in 0 errors) true = rw (d ∙ z) at h in
      let w : ◌≡◌ {A = ℕ} 0 1 = cc in
      no w
  by_end k unfinished q z = k.finished q

shortage_named : (r : Resource) → shortage_of r ≢ 0
unfolding shortage_of
shortage_named steps z = omega arith
shortage_named shapes z = omega arith
shortage_named entries z = omega arith
shortage_named text_bytes z = omega arith
shortage_named calls z = omega arith
shortage_named picture z = omega arith

pub named : (c : Call) (m p n l : ℕ) → answer c ≡ number m p n l → m ≢ 0
unfolding answer if◌then◌otherwise◌ shortage_at
named c m p n l e = by (admitted c) refl
  where
    settled_by : admitted c ≡ true → Settles (granted_to c) (run_of c) → m ≢ 0
    settled_by a (complete k) z = by_end c m p n l a e k (run_of c).end refl z
    settled_by a (stopped before t s) z =
        let d : shortage_of t.of ≡ m = number_is (sym (answer_admitted c a ∙ booked_short (granted_to c) (run_of c) before t s) ∙ e) in
        shortage_named t.of (d ∙ z)

    by : (b : Bool) → admitted c ≡ b → m ≢ 0
    by true a z = settled_by a (run_settles c) z
    by false a z = let d : 71 ≡ m = number_is (rw a at e) in omega arith

pub zero_is_no_number : ZeroIsNoNumber
zero_is_no_number c p n l e = named c 0 p n l e refl
