-- Variables: looked up by number as by name.
use Prim.Native.Nat.{ℕ, zero, suc, ◌+◌, ◌≤◌, ◌<◌}
use native.Mathlib.Omega.{arith}
use mathlib.Core.Path.{◌≡◌, refl, ap, sym, ◌∙◌}
use mathlib.Core.Logic.{◌≢◌}
use mathlib.Core.Bool.{Bool, true, false}
use mathlib.Core.List.{List, []}
use mathlib.Core.Option.{Option, some}
use lib.ListN.{get_or, length}
use lib.Dec.{eqb}
use borrow.Author.Tests.{eqb-true, eqb-false}
use Rattle.meaning.specs.Basics.{if◌then◌otherwise◌, same_text}
use Rattle.meaning.specs.Token.{Token}
use Rattle.meaning.specs.Value as Value
use Rattle.meaning.specs.State.{State, Variable, value_in}
use Rattle.meaning.specs.Run as Run
use Rattle.meaning.specs.Book.{Amounts}
use Rattle.meaning.specs.Evaluate as Evaluate
use Rattle.reader.proofs.Homes.{same_text_lem, text_same}
use Rattle.numbering.specs.Numbers.{number_in}
use Rattle.machine.specs.Layout.{declared, running, frame}
use Rattle.machine.specs.Act.{Raw}
use Rattle.machine.specs.Act as Act
use Rattle.machine.specs.Variables.{number_of, holding, variable}
use Rattle.simulation.specs.Scope.{scope_of}
use Rattle.simulation.specs.Meant.{meant_word, listed, variable_at, frame_of}
use Rattle.simulation.specs.Sound.{Framed}
use Rattle.simulation.specs.Follows.{Related, Follows}
use Rattle.simulation.proofs.Binding.{bind}
use Rattle.simulation.proofs.Results.{given, failed, Values, unmoved, still, steps_told}
use Rattle.simulation.proofs.Usable.{uses}
use Rattle.numbering.proofs.Laws.{number_within, number_name}
use Rattle.simulation.proofs.Naming.{apart_text, scope_once}

-- ---- looking up
module _ (f : ℕ → Variable) (x : List ℕ) where
  pub none_found : (k n : ℕ) → ((j : ℕ) → k ≤ j → j < k + n → same_text (f j).name x ≡ false) → value_in (listed f k n) x ≡ Option.none
  unfolding listed value_in if◌then◌otherwise◌
  none_found k zero h = refl
  none_found k (suc n) h = rw (h k (omega arith) (omega arith)) (none_found (suc k) n (λ j a b. h j (omega arith) (omega arith)))

  pub one_found : (u : Value.Value) (k n : ℕ) → ((j : ℕ) → k ≤ j → j < k + n → same_text (f j).name x ≡ true → (f j).holds ≡ u)
      → (i : ℕ) → k ≤ i → i < k + n → same_text (f i).name x ≡ true → value_in (listed f k n) x ≡ some u
  unfolding listed value_in if◌then◌otherwise◌
  one_found u k zero h i a b e = absurd (omega arith)
  one_found u k (suc n) h i a b e = go (same_text (f k).name x) refl (λ q. one_found u (suc k) n (λ j y z. h j (omega arith) (omega arith)) i (behind q) (omega arith) e)
    where
      behind : same_text (f k).name x ≡ false → suc k ≤ i
      behind q = let n : k ≢ i = λ z. let w : true ≡ false = sym e ∙ ap (λ j. same_text (f j).name x) (sym z) ∙ q in let y : ◌≡◌ {A = ℕ} 0 1 = cc in omega arith in omega arith

      go : (b : Bool) → same_text (f k).name x ≡ b → (same_text (f k).name x ≡ false → value_in (listed f (suc k) n) x ≡ some u)
          → (if b then (λ _. some (f k).holds) otherwise λ _. value_in (listed f (suc k) n) x) ≡ some u
      go true q r = ap some (h k (omega arith) (omega arith) q)
      go false q r = r q

module _ {program : List ℕ} {ts : List Token} {g : List ℕ} {r : Raw} {s : State} {total : Amounts} (h : Related program ts g r s total) (x : List ℕ) where
  -- the names of the call's variables, and the number of x among them
  abbrev names : List (List ℕ)
  names = scope_of program ts (get_or r.words running 0)

  abbrev number : ℕ
  number = number_in names x

  v : Framed program r.words (get_or r.words frame 0) (get_or r.words declared 0) (length names)
  v = h.sound.variables.framed

  pub number_less : number ≤ length names
  number_less = number_within names x

  -- a declaration is called x exactly if its number is x's
  pub number_named : (k : ℕ) → k < get_or r.words declared 0 → get_or names (number_of r.words (get_or r.words frame 0) k) [] ≡ x
      → number_of r.words (get_or r.words frame 0) k ≡ number
  number_named k l e = sym ((scope_once program ts (get_or r.words running 0)).is _ (v.small k l)) ∙ ap (number_in names) e

  pub name_numbered : (k : ℕ) → k < get_or r.words declared 0 → number_of r.words (get_or r.words frame 0) k ≡ number
      → get_or names (number_of r.words (get_or r.words frame 0) k) [] ≡ x
  name_numbered k l e = rw e (number_name names x (rw e at (v.small k l)))

  pub undeclared : holding r.words number ≡ 0 → value_in s.variables x ≡ Option.none
  unfolding frame_of variable_at
  undeclared z = rw h.variables
      (none_found (variable_at program names r (get_or r.words frame 0)) x 0 (get_or r.words declared 0) (λ j a b.
      apart_text _ _ (λ e.
      let q = number_named j (omega arith) e in
      v.there j (omega arith) (rw q z))))

  pub is_declared_lem : holding r.words number ≢ 0 → value_in s.variables x ≡ some (meant_word program r (holding r.words number))
  unfolding frame_of variable_at
  is_declared_lem n =
      let q = v.found number number_less n in
      rw h.variables
      (one_found (variable_at program names r (get_or r.words frame 0)) x (meant_word program r (holding r.words number)) 0 (get_or r.words declared 0)
      (λ j a b e. rw (number_named j (omega arith) (same_text_lem _ _ e)))
      q.0 (omega arith) (omega (arith, q.1)) (rw (name_numbered q.0 q.1 q.2) (text_same x)))

  -- ---- a variable's value
  pub reads_variable : {granted : Amounts} (p : ℕ) → Follows granted total (Values program ts g r) (variable p number r) (Evaluate.variable p x s)
  unfolding variable Evaluate.variable Evaluate.looked_up Act.◌>>=◌ Act.go_on Act.held Act.refuse Act.fail Act.give Run.◌>>=◌ Run.go_on Run.current Run.fail Run.give
  reads_variable p = go (eqb (holding r.words number) 0) refl
    where
      go : {granted : Amounts} (b : Bool) → eqb (holding r.words number) 0 ≡ b
          → Follows granted total (Values program ts g r) (variable p number r) (Evaluate.variable p x s)
      go true e = rw (e, undeclared (eqb-true _ _ e)) (failed 50 p r (steps_told h))
      go false e =
          rw (e, is_declared_lem (eqb-false _ _ e))
          (bind (uses h _ _ (v.holds number number_less) refl p) (λ _ _ r' s' total' a.
          given (still (record { after = unmoved h; valid = v.holds number number_less; means = refl }) a)))
