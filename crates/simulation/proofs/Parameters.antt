-- Parameters: the arguments assigned to them one after the other.
use Prim.Native.Nat.{ℕ, suc, ◌+◌, ◌≤◌, ◌<◌}
use native.Mathlib.Omega.{arith}
use native.Mathlib.Nat.{add-zero}
use mathlib.Core.Path.{◌≡◌, ◌∙◌, subst}
use mathlib.Core.List.{List, [], ◌∷◌}
use lib.ListN.{get_or, length}
use Rattle.meaning.specs.Token.{Token}
use Rattle.meaning.specs.Value as Value
use Rattle.meaning.specs.State.{State}
use Rattle.meaning.specs.Run as Run
use Rattle.meaning.specs.Book.{Amounts}
use Rattle.meaning.specs.Execute as Execute
use Rattle.meaning.specs.Procedure.{assigning_all}
use Rattle.numbering.specs.Numbers.{number_in}
use Rattle.machine.specs.Words.{packed, unpacked}
use Rattle.machine.specs.Layout.{running, frame}
use Rattle.machine.specs.Act.{Raw}
use Rattle.machine.specs.Act as Act
use Rattle.machine.specs.Stack.{argument_at}
use Rattle.machine.specs.Evaluate.{Setting}
use Rattle.machine.specs.Effects.{assigning}
use Rattle.machine.specs.Procedures.{assign_from}
use Rattle.simulation.specs.Scope.{scope_of}
use Rattle.simulation.specs.Meant.{meant_word, listed}
use Rattle.simulation.specs.Sound.{Valid}
use Rattle.simulation.specs.Follows.{Grants, Related, Follows}
use Rattle.simulation.proofs.Binding.{bind}
use Rattle.simulation.proofs.Results.{mapped, given, Units, unmoved, onward}
use Rattle.simulation.proofs.Flows.{Flows}
use Rattle.simulation.proofs.Assigning.{assigns}
use Rattle.simulation.proofs.Library.{Stacked, stacked_under}

module _ (e : Setting) {ts : List Token} {granted : Amounts} (gr : Grants e.grants granted) (p : ℕ) where
  -- by the word of a value, and by the name's number
  assigns_word : (x : List ℕ) (k : ℕ) {r : Raw} {s : State} {total : Amounts} (h : Related e.program ts e.grants r s total)
      → number_in (scope_of e.program ts (get_or r.words running 0)) x ≡ k → (w : ℕ) → Valid e.program r.words (unpacked w) → packed (unpacked w) ≡ w
      → Follows granted total (Flows e.program ts e.grants r) (assigning e.grants p k w r) (Execute.assigning p x (meant_word e.program r w) s)
  assigns_word x k {r} {s} {total} h n w v q =
      subst (λ (i : ℕ). Follows granted total (Flows e.program ts e.grants r) (assigning e.grants p i w r) (Execute.assigning p x (meant_word e.program r w) s)) n
      (subst (λ (y : ℕ). Follows granted total (Flows e.program ts e.grants r)
      (assigning e.grants p (number_in (scope_of e.program ts (get_or r.words running 0)) x) y r) (Execute.assigning p x (meant_word e.program r w) s)) q
      (assigns e gr x p h (unpacked w) v))

  -- names whose numbers are k and those behind it; the arguments lie below the frame
  pub assigns_all : (xs : List (List ℕ)) (base k : ℕ) {r : Raw} {s : State} {total : Amounts} → Related e.program ts e.grants r s total
      → ((j : ℕ) → j < length xs → number_in (scope_of e.program ts (get_or r.words running 0)) (get_or xs j []) ≡ k + j)
      → (us : List Value.Value) → Stacked e.program r (base + k) (length xs) us → base + k + length xs ≤ get_or r.words frame 0
      → Follows granted total (Units e.program ts e.grants r) (assign_from e.grants base k (length xs) p r) (assigning_all p xs us s)
  unfolding assign_from assigning_all listed Act.◌>>=◌ Act.go_on Act.load Act.give Run.◌>>=◌ Run.give
  assigns_all [] base k h numbers us sk low = given (unmoved h)
  assigns_all (x ∷ xs) base k {r} h numbers us sk low =
      let next : base + (k + 1) ≡ suc (base + k) = omega arith in
      let rest : Stacked e.program r (base + (k + 1)) (length xs) (listed (λ j. meant_word e.program r (argument_at r.words j)) (suc (base + k)) (length xs)) = record {
        within = omega (arith, sk.within);
        valid = λ j y z. sk.valid j (omega arith) (omega arith);
        packs = λ j y z. sk.packs j (omega arith) (omega arith);
        are = rw next;
      } in
      rw sk.are
      (bind (assigns_word x k h (numbers 0 (omega arith) ∙ add-zero k) (argument_at r.words (base + k)) (sk.valid (base + k) (omega arith) (omega arith))
      (sk.packs (base + k) (omega arith) (omega arith))) (λ f f' r₁ s₁ total₁ c.
      let a = c.after in
      mapped (λ _ _ r₂ s₂ total₂ d. onward a d)
      (assigns_all xs base (k + 1) a.related
      (λ j l. let q : k + suc j ≡ k + 1 + j = omega arith in rw a.untouched.running (numbers (suc j) (omega arith) ∙ q)) _
      (stacked_under a (omega arith) rest) (rw a.untouched.frame (omega arith)))))
