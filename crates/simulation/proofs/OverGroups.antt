-- Loops over groups: their own components one after the other, and a loop as a whole.
use Prim.Native.Nat.{ℕ, zero, suc, ◌+◌, ◌-◌, ◌*◌, ◌^◌, ◌≤◌, ◌<◌}
use native.Mathlib.Omega.{arith}
use native.Mathlib.Nat.{le_trans, le_of_lt, pow-le-pow_right}
use native.Mathlib.Numerals.{add-one}
use mathlib.Core.Path.{◌≡◌, refl, ap, sym, ◌∙◌}
use mathlib.Core.Logic.{◌≢◌}
use mathlib.Core.Bool.{Bool, true, false}
use mathlib.Core.List.{List, []}
use lib.ListN.{get_or, set}
use Rattle.meaning.specs.Basics.{if◌then◌otherwise◌}
use Rattle.meaning.specs.Token.{Token}
use Rattle.meaning.specs.State.{State, is_destroyed}
use Rattle.meaning.specs.Run as Run
use Rattle.meaning.specs.Book.{Amounts}
use Rattle.meaning.specs.Execute.{onward, binding, turns, iterating}
use Rattle.meaning.specs.Execute as Execute
use Rattle.numbering.specs.Numbers.{number_in}
use Rattle.machine.specs.declared.Flow.{Flow}
use Rattle.machine.specs.declared.Flow.TheVariants.{Onward}
use Rattle.machine.specs.Layout.{shapes_used, calls_used, running, loop_unit, frame, argument_place}
use Rattle.machine.specs.Act.{Raw, raw, Act}
use Rattle.machine.specs.Act as Act
use Rattle.machine.specs.Shapes.{is_group_at, destroyed_at}
use Rattle.machine.specs.Groups.{component_at, first_at, count_at}
use Rattle.machine.specs.Variables.{word_in, holding}
use Rattle.machine.specs.Loops.{unmark_from, following, own_turn, own_from, inner_unit, loop_over}
use Rattle.simulation.specs.Meant.{listed, components_of}
use Rattle.simulation.specs.Scope.{scope_of}
use Rattle.simulation.specs.Follows.{Grants, Related, Later, Follows}
use Rattle.simulation.proofs.Binding.{bind, act_after}
use Rattle.simulation.proofs.Listed.{listed_same}
use Rattle.simulation.proofs.Frames.{valid_later, meant_later, group_stays, untouched_components, component_later, first_later, count_later}
use Rattle.simulation.proofs.Results.{given, unmoved}
use Rattle.simulation.proofs.Usable.{destroyed_found}
use Rattle.simulation.proofs.Counting.{counts}
use Rattle.simulation.proofs.Flows.{SameFlow, both_onward, both_returned, AfterFlow, Flows, flow_from}
use Rattle.simulation.proofs.Marking.{mark_at, but_after}
use Rattle.simulation.proofs.Paths.{is_in, Path, inner_fits, inner_more}
use Rattle.simulation.proofs.Innermost.{switched, as_was, unit_now, switch_later, switch_parts, switch_related, mark_was, back_fits, switched_back}
use Rattle.simulation.proofs.Iterating.{Repeats, Ready, ready_on, path_on, own_turn_lem}

-- nothing is marked between own components
module _ {program : List ℕ} {ts : List Token} {g : List ℕ} {granted : Amounts} {r₀ : Raw} where
  passes : {r : Raw} {f : Flow} {f' : Execute.Flow} {s : State} {total : Amounts} (k : Act Flow) (k' : Run.Action Execute.Flow) → SameFlow program r f f'
      → AfterFlow program ts g r₀ f f' r s total → Follows granted total (Flows program ts g r₀) (k r) (k' s)
      → Follows granted total (Flows program ts g r₀) (following g 0 f k r) (Execute.continue f' k' s)
  unfolding following unmark_from Execute.continue Act.◌>>=◌ Act.go_on Act.give Run.give
  passes k k' both_onward a h = h
  passes k k' (both_returned x y) a h = given a

-- ---- own components
module _ {program : List ℕ} {ts : List Token} {g : List ℕ} {granted : Amounts} (gr : Grants g granted) (x : List ℕ) (whose : ℕ)
    (body : Act Flow) (body' : Run.Action Execute.Flow) (P : Raw → Type 0) (repeats : Repeats program ts g granted body body' P)
    (around : ℕ → ℕ) (unit : ℕ) (fits : 2 * unit ≤ 2 ^ 64) (p : ℕ) where
  abbrev visit : ℕ → Run.Action Execute.Flow
  visit i = Run.◌>>◌ (Run.count p) (iterating (suc i) (λ j. Run.◌>>◌ (binding x j) body') i)

  abbrev Prepared : Raw → Type 0
  Prepared r = Ready x whose body body' P repeats around unit fits p r

  -- of group i, n from slot k on
  own_from_lem : (i n k : ℕ) {r : Raw} {s : State} {total : Amounts} → Related program ts g r s total → Prepared r → Path g around unit [] r → i < get_or r.words shapes_used 0
      → is_group_at r.words i ≡ true → first_at r.words i ≤ k → k + n ≡ first_at r.words i + count_at r.words i
      → Follows granted total (Flows program ts g r) (own_from body g p (number_in (scope_of program ts whose) x) k n r) (turns visit (listed (component_at g r.words) k n) s)
  unfolding own_from turns listed if◌then◌otherwise◌ Act.◌>>=◌ Act.go_on Act.held Act.give Run.◌>>=◌ Run.go_on Run.current Run.give
  own_from_lem i zero k h q clean l e a b = given (record { after = unmoved h; flow = both_onward })
  own_from_lem i (suc n) k {r} {s} {total} h q clean l e a b =
      let c = component_at g r.words k in
      let group = h.sound.shapes.groups i l e in
      let older : c < i = group.older k a (omega arith) in
      bind (one (destroyed_at r.words c) (is_destroyed s c) (sym (destroyed_found h c (le_trans older (le_of_lt l))))) (λ f f' r₁ s₁ total₁ w.
      let z = w.after in
      let same = untouched_components z.untouched in
      let first = first_later z.later h.sound.shapes same i l in
      let list : listed (component_at g r₁.words) (k + 1) n ≡ listed (component_at g r.words) (suc k) n =
      ap (λ j. listed (component_at g r₁.words) j n) (add-one k)
      ∙ listed_same _ _ (suc k) n (λ j y y'. component_later z.later h.sound.shapes same j (omega (arith, group.within))) in
      passes _ _ w.flow w (flow_from z (rw list at (own_from_lem i n (k + 1) z.related (ready_on x whose body body' P repeats around unit fits p (but_after z) q)
      (path_on x whose body body' P repeats around unit fits p z q clean) (le_trans l z.later.shapes) (group_stays (z.later.figures i l) ∙ e)
      (omega (arith, first)) (omega (arith, first, count_later z.later h.sound.shapes same i l))))))
    where
      one : (t t' : Bool) → t ≡ t'
          → Follows granted total (Flows program ts g r)
          ((if t then (λ _. Act.give Onward) otherwise λ _. Act.◌>>◌ (Act.count g p) (own_turn body g p (number_in (scope_of program ts whose) x) k (component_at g r.words k))) r)
          ((if t' then (λ _. Run.give onward) otherwise λ _. visit (component_at g r.words k)) s)
      one true true m = given (record { after = unmoved h; flow = both_onward })
      one true false m = let z : ◌≡◌ {A = ℕ} 0 1 = cc in absurd (omega arith)
      one false true m = let z : ◌≡◌ {A = ℕ} 0 1 = cc in absurd (omega arith)
      one false false m =
          let c = component_at g r.words k in
          let group = h.sound.shapes.groups i l e in
          let older : c < i = group.older k a (omega arith) in
          bind (counts gr h p) (λ _ _ r₁ s₁ total₁ w.
          let z = w.after in
          let first = first_later z.later h.sound.shapes (untouched_components z.untouched) i l in
          flow_from z (own_turn_lem x whose body body' P repeats around unit fits p z.related
          (ready_on x whose body body' P repeats around unit fits p (but_after z) q) (path_on x whose body body' P repeats around unit fits p z q clean)
          c (le_trans older (le_trans (le_of_lt l) z.later.shapes)) k (omega (arith, group.within, z.untouched.made))
          (λ y. omega (arith, z.related.sound.shapes.order c i older (le_trans l z.later.shapes) y (group_stays (z.later.figures i l) ∙ e), first))))

-- ---- a loop as a whole: its unit is more than all that loops around it add, and no word of a slot has changed when it has ended
flow_later : {program : List ℕ} {r r' : Raw} {f : Flow} {f' : Execute.Flow} → Later program r r' → SameFlow program r f f' → SameFlow program r' f f'
flow_later l both_onward = both_onward
flow_later l (both_returned {v = v} x y) = both_returned (valid_later l v x) (y ∙ sym (meant_later l v x))

module _ {program : List ℕ} {ts : List Token} {g : List ℕ} {r : Raw} {s : State} {total : Amounts} (h : Related program ts g r s total) (some : 0 < get_or r.words calls_used 0)
    (n : ℕ) (any : 0 < n) (most : n ≤ 64) (room : 2 * get_or r.words loop_unit 0 ≤ 2 ^ (64 - n)) where
  abbrev pub within : ℕ
  within = inner_unit (get_or r.words loop_unit 0)

  marks_less : (k : ℕ) → mark_at g r k < within
  marks_less k = inner_more n (get_or r.words loop_unit 0) (mark_at g r k) any most room (h.sound.marks.own k some)

  marks_fit : (k : ℕ) → 0 < get_or r.words calls_used 0 → mark_at g r k ≤ 2 * within - 1
  marks_fit k a = let m = marks_less k in omega arith

  unit_fits : 2 * within ≤ 2 ^ 64
  unit_fits =
      let z : 0 < 2 = omega arith in
      let m : 64 - (n - 1) ≤ 64 = omega arith in
      le_trans (inner_fits n (get_or r.words loop_unit 0) any most room) (pow-le-pow_right z m)

  clean_within : Path g (mark_at g r) within [] (switched h within marks_fit)
  unfolding is_in
  clean_within = record { each = λ k. mark_was h within marks_fit k ∙ omega arith; less = marks_less }

  module _ {granted : Amounts} (gr : Grants g granted) (x : List ℕ) (whose : ℕ) (body : Act Flow) (body' : Run.Action Execute.Flow)
      (P : Raw → Type 0) (repeats : Repeats program ts g granted body body' P) (p : ℕ) where
    pub loops_over : (i : ℕ) → i < get_or r.words shapes_used 0 → is_group_at r.words i ≡ true → get_or r.words running 0 ≡ whose → holding r.words (number_in (scope_of program ts whose) x) ≢ 0
        → P (raw r.texts (set r.words loop_unit within))
        → Follows granted total (Flows program ts g r) (loop_over body g p (number_in (scope_of program ts whose) x) i r)
        (turns (λ i. Run.◌>>◌ (Run.count p) (iterating (suc i) (λ j. Run.◌>>◌ (binding x j) body') i)) (components_of g r.words i) s)
    unfolding loop_over components_of Act.◌>>=◌ Act.go_on Act.held Act.store Act.give
    loops_over i l e procedure there ready =
        let h₁ = switch_related h within marks_fit in
        let later = switch_later h within marks_fit in
        let was = as_was h within marks_fit in
        let same = switch_parts h within marks_fit in
        let shapes = h.sound.shapes in
        let first = first_later later shapes same i l in
        let count = count_later later shapes same i l in
        let list : listed (component_at g (switched h within marks_fit).words) (first_at r.words i) (count_at r.words i)
        ≡ listed (component_at g r.words) (first_at r.words i) (count_at r.words i) =
        listed_same _ _ (first_at r.words i) (count_at r.words i) (λ k a b. component_later later shapes same k (le_trans b (shapes.groups i l e).within)) in
        act_after (λ f. Act.◌>>◌ (Act.store loop_unit (get_or r.words loop_unit 0)) (Act.give f)) (λ f f' r₂ s₂ total₂ w. record {
          result = f;
          slices = raw r₂.texts (set r₂.words loop_unit (get_or r.words loop_unit 0));
          is = refl;
          holds = record {
            after = switched_back h within marks_fit w.after;
            flow = flow_later (switch_later w.after.related (get_or r.words loop_unit 0) (back_fits h within marks_fit w.after)) w.flow;
          };
        })
        (rw list at (own_from_lem gr x whose body body' P repeats (mark_at g r) within unit_fits p i (count_at r.words i) (first_at r.words i) h₁
        (record {
          procedure = was running (λ z. omega arith) ∙ procedure;
          there =
              let same : holding (switched h within marks_fit).words (number_in (scope_of program ts whose) x) ≡ holding r.words (number_in (scope_of program ts whose) x) =
              rw (was frame (λ z. omega arith)) (ap word_in (was (argument_place (get_or r.words frame 0 + number_in (scope_of program ts whose) x)) (λ z. omega arith))) in
              rw same there;
          some = rw (was calls_used (λ z. omega arith)) some;
          unit_is = unit_now h within marks_fit;
          more = ready;
        })
        clean_within (le_trans l later.shapes) (group_stays (later.figures i l) ∙ e) (omega (arith, first)) (omega (arith, first, count))))
