-- Assignments: a shape is copied, anything else is put as it is.
use Prim.Native.Nat.{ℕ, ◌+◌, ◌*◌, ◌/◌, ◌%◌, ◌^◌, ◌<◌}
use native.Mathlib.Omega.{arith}
use mathlib.Core.Path.{◌≡◌, refl, ap, sym, ◌∙◌, subst}
use mathlib.Core.Logic.{◌≢◌}
use mathlib.Core.Bool.{Bool, true, false}
use mathlib.Core.List.{List}
use mathlib.Core.Option.{Option, some}
use lib.ListN.{get_or, set}
use lib.Dec.{eqb}
use lib.IntN.{pos, negsuc}
use borrow.Author.Tests.{eqb-true, eqb-false, ne_eqb}
use Rattle.meaning.specs.Basics.{if◌then◌otherwise◌}
use Rattle.meaning.specs.Token.{Token}
use Rattle.meaning.specs.Integer.{bits}
use Rattle.meaning.specs.Value as Value
use Rattle.meaning.specs.State.{State, content_of, value_in, is_some, assigned, with_variables}
use Rattle.meaning.specs.Run as Run
use Rattle.meaning.specs.Book.{Amounts}
use Rattle.meaning.specs.Group as Group
use Rattle.meaning.specs.Execute as Execute
use Rattle.numbering.specs.Numbers.{number_in}
use Rattle.machine.specs.declared.Value.{Value}
use Rattle.machine.specs.declared.Value.TheVariants.{Integer, Text, Boolean, Nothing, Table, Shape}
use Rattle.machine.specs.Words.{kind_in, kind_shape, packed}
use Rattle.machine.specs.Words as Words
use Rattle.machine.specs.Layout.{shapes_used, running, frame, argument_place}
use Rattle.machine.specs.Act.{Raw, raw}
use Rattle.machine.specs.Act as Act
use Rattle.machine.specs.Shapes.{is_group_at, figure_at}
use Rattle.machine.specs.Groups.{copy_shape}
use Rattle.machine.specs.Stack.{argument_at}
use Rattle.machine.specs.Variables.{with_word, holding, set_variable}
use Rattle.machine.specs.Evaluate.{Setting}
use Rattle.machine.specs.declared.Flow.TheVariants.{Onward}
use Rattle.machine.specs.Effects.{copied, assigning}
use Rattle.simulation.specs.Scope.{scope_of}
use Rattle.simulation.specs.Meant.{meant_value, meant_word}
use Rattle.simulation.specs.Sound.{Valid, Sound}
use Rattle.simulation.specs.Follows.{Grants, Related, Follows}
use Rattle.simulation.proofs.Binding.{bind, give_after, act_after}
use Rattle.simulation.proofs.Results.{mapped, given, failed, at_exactly, After, AfterValue, unmoved, onward, steps_told}
use Rattle.simulation.proofs.Usable.{figure_found, group_found, uses_at}
use Rattle.simulation.proofs.Shapes.{shape_value, makes_shape}
use Rattle.simulation.proofs.Growing.{AfterShape}
use Rattle.simulation.proofs.Grouping.{copies_group}
use Rattle.simulation.proofs.Variables.{undeclared, is_declared_lem}
use Rattle.simulation.proofs.Keys.{kind_packed, back_again, shape_small}
use Rattle.simulation.proofs.Chaining.{regroup}
use Rattle.simulation.proofs.Flows.{both_onward, Flows}
use Rattle.simulation.proofs.Declaring.{put_after}

-- a value, or a copy of it if it is a shape
unfoldable copy_of : List ℕ → ℕ → Value → Act.Act Value
copy_of g p (Integer z) = Act.give (Integer z)
copy_of g p (Text t) = Act.give (Text t)
copy_of g p (Boolean b) = Act.give (Boolean b)
copy_of g p Nothing = Act.give Nothing
copy_of g p (Table t) = Act.give (Table t)
copy_of g p (Shape i) = copy_shape g p i

-- the variables stay
record AfterCopy (program : List ℕ) (ts : List Token) (g : List ℕ) (r : Raw) (s : State) (v : Value) (u : Value.Value) (r' : Raw) (s' : State) (total : Amounts) : Type 0 where
  value : AfterValue program ts g r v u r' s' total
  variables : s'.variables ≡ s.variables

module _ (e : Setting) {ts : List Token} {granted : Amounts} (gr : Grants e.grants granted) {r : Raw} {s : State} {total : Amounts}
    (h : Related e.program ts e.grants r s total) (p : ℕ) where
  -- a figure anew, or a group with the same components
  copies_shape : (i : ℕ) → i < get_or r.words shapes_used 0
      → Follows granted total (λ w u r' s' total'. AfterCopy e.program ts e.grants r s w (Value.shape u) r' s' total') (copy_shape e.grants p i r) (Group.new_shape p (content_of s i) s)
  unfolding copy_shape if◌then◌otherwise◌ Valid meant_value Act.◌>>=◌ Act.go_on Act.held Act.give
  copies_shape i l = go (is_group_at r.words i) refl
    where
      go : (t : Bool) → is_group_at r.words i ≡ t
          → Follows granted total (λ w u r' s' total'. AfterCopy e.program ts e.grants r s w (Value.shape u) r' s' total') (copy_shape e.grants p i r) (Group.new_shape p (content_of s i) s)
      go true q =
          rw (q, group_found h i l q)
          (act_after {R = λ k j r' s' total'. AfterShape e.program ts e.grants r s k j r' s' total'} _ (λ k j r' s' total' a. record {
            result = Shape k;
            slices = r';
            is = refl;
            holds = record {
              value = record { after = a.after; valid = omega (arith, a.here, a.used); means = ap Value.shape a.same };
              variables = a.variables;
            };
          }) (copies_group h i l q p gr))
      go false q =
          rw (q, figure_found h i l q)
          (mapped (λ v j r' s' total' a. record { value = shape_value a; variables = a.shape.variables })
          (makes_shape gr h (figure_at r.words i) _ (h.sound.shapes.proper i l q) refl p))

  copies : (v : Value) → Valid e.program r.words v
      → Follows granted total (λ w u r' s' total'. AfterCopy e.program ts e.grants r s w u r' s' total') (copy_of e.grants p v r) (Execute.copied p (meant_value e.program r.texts v) s)
  unfolding copy_of Execute.copied meant_value Valid Act.give Run.give Run.◌>>=◌ Run.go_on Run.current
  copies (Integer z) l = given (record { value = record { after = unmoved h; valid = l; means = refl }; variables = refl })
  copies (Text t) l = given (record { value = record { after = unmoved h; valid = l; means = refl }; variables = refl })
  copies (Boolean b) l = given (record { value = record { after = unmoved h; valid = tt; means = refl }; variables = refl })
  copies Nothing l = given (record { value = record { after = unmoved h; valid = tt; means = refl }; variables = refl })
  copies (Table t) l = given (record { value = record { after = unmoved h; valid = l; means = refl }; variables = refl })
  copies (Shape i) l = give_after Value.shape (λ v j r' s' total' a. a) (copies_shape i l)

  -- the same by the value's word
  module _ {B : Type 0} (k : ℕ → Act.Act B) where
    not_copied : (w : ℕ) → (kind_in w ≡ kind_shape → ⊥) → Act.go_on (copied e.grants p w r) k ≡ k w r
    unfolding copied if◌then◌otherwise◌ Act.go_on Act.give
    not_copied w n = rw (ne_eqb _ _ n)

    shape_copied : (w i : ℕ) → kind_in w ≡ kind_shape → Words.number_in w ≡ i
        → Act.go_on (copied e.grants p w r) k ≡ Act.go_on (copy_shape e.grants p i r) (λ v. k (packed v))
    unfolding copied if◌then◌otherwise◌ Act.◌>>=◌ Act.go_on Act.give
    shape_copied w i a b = rw (a, b) (regroup (copy_shape e.grants p i r) (λ v. Act.give (packed v)) k)

    copied_then : (v : Value) → Valid e.program r.words v → Act.go_on (copied e.grants p (packed v) r) k ≡ Act.go_on (copy_of e.grants p v r) (λ u. k (packed u))
    unfolding copy_of packed Valid Act.give Act.go_on
    copied_then (Integer z) l = not_copied (packed (Integer z)) (λ q. absurd (omega arith))
    copied_then (Text t) l = not_copied (packed (Text t)) (λ q. absurd (omega arith))
    copied_then (Boolean true) l = not_copied 11 (λ q. absurd (omega arith))
    copied_then (Boolean false) l = not_copied 3 (λ q. absurd (omega arith))
    copied_then Nothing l = not_copied 4 (λ q. absurd (omega arith))
    copied_then (Table t) l = not_copied (packed (Table t)) (λ q. absurd (omega arith))
    copied_then (Shape i) l =
        let a : (6 + 8 * i) / 8 ≡ i = omega arith in
        let b : i % 2 ^ 32 ≡ i = omega (arith, shape_small h.sound i l) in
        let k : (6 + 8 * i) % 8 ≡ kind_shape = omega arith in
        shape_copied (packed (Shape i)) i k (rw (a, b))

-- a value's word fits 48 bits
pub packed_narrow : {program : List ℕ} {ts : List Token} {g : List ℕ} {r : Raw} (sound : Sound program ts g r) (v : Value) → Valid program r.words v → packed v < 2 ^ 48
unfolding packed Valid bits
packed_narrow sound (Integer (pos n)) l = omega arith
packed_narrow sound (Integer (negsuc n)) l = omega arith
packed_narrow sound (Text t) l = omega arith
packed_narrow sound (Boolean true) l = omega arith
packed_narrow sound (Boolean false) l = omega arith
packed_narrow sound Nothing l = omega arith
packed_narrow sound (Table t) l = omega (arith, sound.counted.tables, sound.counted.steps, sound.lent.room.steps)
packed_narrow sound (Shape i) l = omega (arith, shape_small sound i l)

-- no value is packed as 0
packed_some : {program : List ℕ} {ts : List Token} {g : List ℕ} {r : Raw} {s : State} {total : Amounts} (h : Related program ts g r s total) (v : Value) → packed v ≢ 0
packed_some h v q = let k = kind_packed h.sound v in omega (arith, rw q at k)

-- what setting a variable does to the words
abbrev pub set_at : Raw → ℕ → ℕ → Raw
set_at r n w = raw r.texts (set r.words (argument_place (get_or r.words frame 0 + n)) (with_word (argument_at r.words (get_or r.words frame 0 + n)) w))

-- a name's number in the call under way
abbrev number_at : Setting → List Token → List ℕ → Raw → ℕ
number_at e ts x r = number_in (scope_of e.program ts (get_or r.words running 0)) x

module _ (e : Setting) {ts : List Token} {granted : Amounts} (gr : Grants e.grants granted) (x : List ℕ) where
  -- a value put into a declared variable
  puts : {r₀ r : Raw} {s : State} {total : Amounts} (w : Value.Value) {v : Value} {u : Value.Value} → AfterValue e.program ts e.grants r₀ v u r s total
      → value_in s.variables x ≡ some w
      → After e.program ts e.grants r₀ (set_at r (number_at e ts x r) (packed v)) (with_variables s (assigned s.variables x u)) total
  puts {r = r} {s = s} {total = total} w {v} {u} a d =
      let h = a.after.related in
      let back = back_again h.sound v a.valid in
      let there : holding r.words (number_at e ts x r) ≢ 0 = λ z. let n : some w ≡ Option.none = sym d ∙ undeclared h x z in let y : ◌≡◌ {A = ℕ} 0 1 = cc in omega arith in
      let m : meant_word e.program r (packed v) ≡ u = rw back (sym a.means) in
      onward a.after (subst (λ (y : Value.Value). After e.program ts e.grants r (set_at r (number_at e ts x r) (packed v))
      (with_variables s (assigned s.variables x y)) total) m
      (put_after h x (packed v) there (packed_some h v) (rw back a.valid) (packed_narrow h.sound v a.valid)))

  -- a copy put there
  sets : (p : ℕ) {r : Raw} {s : State} {total : Amounts} (h : Related e.program ts e.grants r s total) (v : Value) → Valid e.program r.words v
      → (w : Value.Value) → value_in s.variables x ≡ some w
      → Follows granted total (Flows e.program ts e.grants r) (Act.◌>>=◌ (copied e.grants p (packed v)) (λ c. Act.◌>>◌ (set_variable (number_at e ts x r) c) (Act.give Onward)) r)
      (Run.◌>>=◌ (Execute.copied p (meant_value e.program r.texts v)) (λ u. Run.◌>>=◌ Run.current (λ s'.
      Run.◌>>◌ (Run.become (with_variables s' (assigned s'.variables x u))) (Run.give Execute.onward))) s)
  unfolding set_variable Act.◌>>=◌ Act.go_on Act.load Act.store Act.give Run.◌>>=◌ Run.go_on Run.current Run.become Run.give
  sets p {r} h v l w d =
      rw (copied_then e gr h p _ v l)
      (bind (copies e gr h p v l) (λ c u r' s' total' a.
      rw (← a.value.after.untouched.running) (given (record { after = puts w a.value (rw a.variables d); flow = both_onward }))))

  pub assigns : (p : ℕ) {r : Raw} {s : State} {total : Amounts} (h : Related e.program ts e.grants r s total) (v : Value) → Valid e.program r.words v
      → Follows granted total (Flows e.program ts e.grants r)
      (assigning e.grants p (number_in (scope_of e.program ts (get_or r.words running 0)) x) (packed v) r) (Execute.assigning p x (meant_value e.program r.texts v) s)
  unfolding assigning Execute.assigning is_some Act.◌>>=◌ Act.go_on Act.held Act.refuse Act.fail Act.give Run.◌>>=◌ Run.go_on Run.current Run.refuse Run.fail Run.give
  assigns p {r} {s} {total} h v l = go (eqb (holding r.words (number_at e ts x r)) 0) refl
    where
      go : (b : Bool) → eqb (holding r.words (number_at e ts x r)) 0 ≡ b
          → Follows granted total (Flows e.program ts e.grants r) (assigning e.grants p (number_at e ts x r) (packed v) r) (Execute.assigning p x (meant_value e.program r.texts v) s)
      go true q = rw (q, undeclared h x (eqb-true _ _ q)) (failed 50 p r (steps_told h))
      go false q =
          let d = is_declared_lem h x (eqb-false _ _ q) in
          rw (q, d, back_again h.sound v l)
          (bind (uses_at h v _ l refl p) (λ _ _ r₁ s₁ total₁ b.
          at_exactly (Act.◌>>=◌ (copied e.grants p (packed v)) (λ c. Act.◌>>◌ (set_variable (number_at e ts x r) c) (Act.give Onward)))
          (Run.◌>>=◌ (Execute.copied p (meant_value e.program r.texts v)) (λ u. Run.◌>>=◌ Run.current (λ s'.
          Run.◌>>◌ (Run.become (with_variables s' (assigned s'.variables x u))) (Run.give Execute.onward)))) b
          (sets p h v l _ d)))
