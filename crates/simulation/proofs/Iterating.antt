-- Loops over groups: the figures in an own component one after the other, from the one that a search finds on.
use Prim.Native.Nat.{ℕ, zero, suc, ◌+◌, ◌-◌, ◌*◌, ◌^◌, ◌≤◌, ◌<◌}
use native.Mathlib.Omega.{arith}
use native.Mathlib.Nat.{le_trans}
use mathlib.Core.Path.{◌≡◌, refl, sym, ◌∙◌}
use mathlib.Core.Logic.{◌≢◌}
use mathlib.Core.Bool.{Bool, true, false, cond}
use mathlib.Core.List.{List, [], ◌∷◌}
use lib.ListN.{get_or}
use lib.Dec.{ltb}
use borrow.Author.Tests.{ne_eqb, ltb-true, ltb-false}
use Rattle.meaning.specs.Basics.{if◌then◌otherwise◌}
use Rattle.meaning.specs.Token.{Token}
use Rattle.meaning.specs.Value as Value
use Rattle.meaning.specs.State.{State, by_content}
use Rattle.meaning.specs.Run as Run
use Rattle.meaning.specs.Book.{Amounts}
use Rattle.meaning.specs.Execute.{returned, binding, iterating}
use Rattle.meaning.specs.Execute as Execute
use Rattle.numbering.specs.Numbers.{number_in}
use Rattle.machine.specs.declared.Value.{Value}
use Rattle.machine.specs.declared.Flow.{Flow}
use Rattle.machine.specs.declared.Flow.TheVariants.{Returned}
use Rattle.machine.specs.Layout.{shapes_used, calls_used, components_made, running, loop_unit, steps_granted}
use Rattle.machine.specs.Act.{Raw, Act}
use Rattle.machine.specs.Act as Act
use Rattle.machine.specs.Shapes.{is_group_at}
use Rattle.machine.specs.Groups.{component_at, first_at, count_at}
use Rattle.machine.specs.Variables.{holding}
use Rattle.machine.specs.Loops.{turn, unmark_from, look_behind, following, turns_from, own_turn}
use Rattle.simulation.specs.Meant.{meant_value}
use Rattle.simulation.specs.Scope.{scope_of}
use Rattle.simulation.specs.Sound.{Valid}
use Rattle.simulation.specs.Follows.{Related, Follows}
use Rattle.simulation.proofs.Binding.{bind}
use Rattle.simulation.proofs.Frames.{valid_later, meant_later, untouched_components}
use Rattle.simulation.proofs.Results.{given, After}
use Rattle.simulation.proofs.Usable.{figure_found}
use Rattle.numbering.proofs.Laws.{number_within}
use Rattle.simulation.proofs.Under.{steps_left}
use Rattle.simulation.proofs.Flows.{SameFlow, both_onward, both_returned, Flows, Turns, ended}
use Rattle.simulation.proofs.Marking.{mark_at, AfterBut, but_after, but_trans, after_but}
use Rattle.simulation.proofs.Paths.{is_in, Path}
use Rattle.simulation.proofs.Unmarking.{clears}
use Rattle.simulation.proofs.Remaining.{Stop, slots, remaining, Way, Outcome, found, none}
use Rattle.simulation.proofs.RemainingLaws.{way_below, way_later, remaining_later}
use Rattle.simulation.proofs.Searching.{look_in_lem}
use Rattle.simulation.proofs.Climbing.{behind}
use Rattle.simulation.proofs.Turning.{turn_follows}

-- no slot of a way is behind the end
none_behind : (g ws : List ℕ) (end j : ℕ) (ways : List Stop) → Way g ws end ways → end ≤ j → is_in j (slots ways) ≡ false
unfolding Way slots is_in
none_behind g ws end j [] w l = refl
none_behind g ws end j (at ∷ ways) w l =
    let a = way_below g ws end ways w.1 in
    let b = w.0.below in
    let n : at.slot ≢ j = λ e. omega arith in
    rw (ne_eqb at.slot j n) (none_behind g ws end j ways w.1 l)

-- ---- the body of a loop follows what it means where P holds, which stays
pub record Repeats (program : List ℕ) (ts : List Token) (g : List ℕ) (granted : Amounts) (body : Act Flow) (body' : Run.Action Execute.Flow) (P : Raw → Type 0) : Type 0 where
  pub keeps : {r r' : Raw} {s : State} {total : Amounts} → AfterBut program ts g r r' s total → P r → P r'
  pub does : {r : Raw} {s : State} {total : Amounts} → Related program ts g r s total → P r → Follows granted total (Turns program ts g r) (body r) (body' s)

-- ---- such a loop; the words of the slots that it marked have its unit on top of what loops around it added
module _ {program : List ℕ} {ts : List Token} {g : List ℕ} {granted : Amounts} (x : List ℕ) (whose : ℕ) (body : Act Flow) (body' : Run.Action Execute.Flow)
    (P : Raw → Type 0) (repeats : Repeats program ts g granted body body' P) (around : ℕ → ℕ) (unit : ℕ) (fits : 2 * unit ≤ 2 ^ 64) (p : ℕ) where
  abbrev bound : ℕ → Run.Action Execute.Flow
  bound i = Run.◌>>◌ (binding x i) body'

  pub record Ready (r : Raw) : Type 0 where
    pub procedure : get_or r.words running 0 ≡ whose
    pub there : holding r.words (number_in (scope_of program ts whose) x) ≢ 0
    pub some : 0 < get_or r.words calls_used 0
    pub unit_is : get_or r.words loop_unit 0 ≡ unit
    pub more : P r

  pub ready_on : {r r' : Raw} {s : State} {total : Amounts} → AfterBut program ts g r r' s total → Ready r → Ready r'
  ready_on {r} a q = record {
    procedure = a.procedure ∙ q.procedure;
    there = a.bound _ (rw q.procedure (number_within (scope_of program ts whose) x)) q.there;
    some = rw a.calls q.some;
    unit_is = a.unit ∙ q.unit_is;
    more = repeats.keeps a q.more;
  }

  -- marks stay
  pub path_on : {r r' : Raw} {s : State} {total : Amounts} {ks : List ℕ} → After program ts g r r' s total → Ready r → Path g around unit ks r → Path g around unit ks r'
  path_on {r} a q t = record {
    each = λ k. rw (a.untouched.calls, a.untouched.marks (get_or r.words calls_used 0 - 1) k (omega (arith, q.some))) (t.each k);
    less = t.less;
  }

  -- ---- a turn
  turns_once : {r : Raw} {s : State} {total : Amounts} → Related program ts g r s total → Ready r → (i : ℕ) → i < get_or r.words shapes_used 0
      → Follows granted total (Turns program ts g r) (turn body (number_in (scope_of program ts whose) x) i r) (bound i s)
  turns_once h q i l =
      rw (← q.procedure) (turn_follows x body body' h i l (rw q.procedure q.there) (λ r' s' total' a. repeats.does a.related (repeats.keeps (but_after a) q.more)))

  -- the procedure returns: from r₀ on, where no slot was marked, none is
  leaves : {r₀ r : Raw} {s : State} {total : Amounts} (end : ℕ) (ways : List Stop) (v : Value) (u : Value.Value) → Path g around unit [] r₀ → AfterBut program ts g r₀ r s total → Ready r
      → end ≤ get_or r.words components_made 0 → Path g around unit (slots ways) r → ((j : ℕ) → end ≤ j → is_in j (slots ways) ≡ false)
      → Valid program r.words v → u ≡ meant_value program r.texts v
      → Follows granted total (Flows program ts g r₀) (Act.◌>>◌ (unmark_from g 0 end) (Act.give (Returned v)) r) (Run.give (returned u) s)
  unfolding is_in Act.◌>>=◌ Act.go_on Act.give Run.give
  leaves {r₀} {r} {s} {total} end ways v u clean a q l path off y z =
      let c = clears program ts g s total around unit path.less (λ j. is_in j (slots ways)) end 0 r a.related q.some q.unit_is (omega arith) (λ j d e. path.each j) in
      rw c.is (given (record {
        after = after_but (but_trans a c.after) (λ k. at_slot c.slices k (ltb k end) refl (λ d. c.clear k (omega arith) (omega arith)) (λ d. c.behind k (omega arith)) ∙ sym (clean.each k));
        flow = both_returned (valid_later c.after.later v y) (z ∙ sym (meant_later c.after.later v y));
      }))
    where
      at_slot : (r' : Raw) (k : ℕ) (t : Bool) → ltb k end ≡ t → (k < end → mark_at g r' k ≡ around k) → (end ≤ k → mark_at g r' k ≡ mark_at g r k)
          → mark_at g r' k ≡ around k + 0
      at_slot r' k true e f b = let i = f (ltb-true k end e) in omega arith
      at_slot r' k false e f b =
          let d : end ≤ k = ltb-false k end e in
          let i : mark_at g r k ≡ around k + cond (is_in k (slots ways)) unit 0 = path.each k in
          let j : mark_at g r k ≡ around k + 0 = rw (off k d) at i in
          b d ∙ j

  -- what is behind it, from the search on
  after_turn : (turns end : ℕ) (r₀ : Raw) {r : Raw} {s : State} {total : Amounts} {f : Flow} {f' : Execute.Flow} (at : Stop) (ways : List Stop) → SameFlow program r f f'
      → Path g around unit [] r₀ → AfterBut program ts g r₀ r s total → Ready r → end ≤ get_or r.words components_made 0 → Path g around unit (slots ways) r → Way g r.words end (at ∷ ways)
      → ((r' : Raw) (k : ℕ) → AfterBut program ts g r r' s total → Outcome program ts g bound around unit end r' s (remaining g r.words bound (at ∷ ways)) [] k
      → Follows granted total (Flows program ts g r₀) (turns_from turns body g p (number_in (scope_of program ts whose) x) end k r') (remaining g r.words bound (at ∷ ways) s))
      → Follows granted total (Flows program ts g r₀) (following g end f (Act.◌>>=◌ (look_behind end g end at.slot) (turns_from turns body g p (number_in (scope_of program ts whose) x) end)) r)
      (Execute.continue f' (remaining g r.words bound (at ∷ ways)) s)
  unfolding following Execute.continue Act.◌>>=◌ Act.go_on Way
  after_turn turns end r₀ at ways both_onward clean a q l path way again =
      let b = behind bound end fits a.related q.some q.unit_is l at ways path way in
      rw b.is (again b.slices b.result b.after b.outcome)
  after_turn turns end r₀ at ways (both_returned {v = v} {u = u} y z) clean a q l path way again =
      leaves end ways v u clean a q l path (λ j d. none_behind g _ end j ways way.1 d) y z

  from : (turns end : ℕ) (r₀ r : Raw) (s : State) (total : Amounts) (left : Run.Action Execute.Flow) (k : ℕ) → Path g around unit [] r₀ → AfterBut program ts g r₀ r s total → Ready r
      → end ≤ get_or r.words components_made 0 → steps_left g r < turns → Outcome program ts g bound around unit end r s left [] k
      → Follows granted total (Flows program ts g r₀) (turns_from turns body g p (number_in (scope_of program ts whose) x) end k r) (left s)
  unfolding turns_from if◌then◌otherwise◌ remaining slots Act.◌>>=◌ Act.go_on Act.held Act.give Run.◌>>=◌ Run.give
  from zero end r₀ r s total left k clean a q l e w = absurd (omega arith)
  from (suc turns) end r₀ r s total left k clean a q l e (none w) =
      rw w.rest (given (record { after = after_but a (λ j. w.path.each j ∙ sym (clean.each j)); flow = both_onward }))
  from (suc turns) end r₀ r s total left k clean a q l e (found at up w) =
      let back : at.slot + 1 - 1 ≡ at.slot = omega arith in
      let some : at.slot + 1 ≢ 0 = λ z. omega arith in
      rw (ne_eqb (at.slot + 1) 0 some, back, w.first)
      (bind (turns_once a.related q (component_at g r.words at.slot) w.younger) (λ f f' r₁ s₁ total₁ b.
      let d = b.ends.after in
      let same = untouched_components d.untouched in
      let shapes = a.related.sound.shapes in
      let q₁ = ready_on (but_after d) q in
      let a₁ = but_trans a (but_after d) in
      let l₁ = le_trans l d.untouched.made in
      rw (← remaining_later d.later shapes same bound end (at ∷ up) w.way l)
      (after_turn turns end r₀ at up b.ends.flow clean a₁ q₁ l₁ (path_on d q w.path) (way_later d.later shapes same end (at ∷ up) w.way l)
      (λ r₂ j c out. from turns end r₀ r₂ s₁ total₁ (remaining g r₁.words bound (at ∷ up)) j clean (but_trans a₁ c) (ready_on c q₁) (le_trans l₁ c.parts.made)
      (omega (arith, b.steps, c.later.steps, c.related.sound.counted.steps)) out))))

  -- ---- an own component in slot k
  module _ {r : Raw} {s : State} {total : Amounts} (h : Related program ts g r s total) (q : Ready r) (clean : Path g around unit [] r) (c : ℕ) (l : c < get_or r.words shapes_used 0) where
    own_figure : (k : ℕ) → is_group_at r.words c ≡ false → Follows granted total (Flows program ts g r) (own_turn body g p (number_in (scope_of program ts whose) x) k c r) (iterating (suc c) bound c s)
    unfolding own_turn iterating by_content if◌then◌otherwise◌ Act.◌>>=◌ Act.go_on Act.held Run.◌>>=◌ Run.go_on Run.current
    own_figure k e = rw (e, figure_found h c l e) (ended (turns_once h q c l))

    own_group : (k : ℕ) → k ≤ get_or r.words components_made 0 → first_at r.words c + count_at r.words c ≤ k → is_group_at r.words c ≡ true
        → Follows granted total (Flows program ts g r) (own_turn body g p (number_in (scope_of program ts whose) x) k c r) (iterating (suc c) bound c s)
    unfolding own_turn if◌then◌otherwise◌ Act.◌>>=◌ Act.go_on Act.held
    own_group k m before e =
        let b = look_in_lem bound k fits h q.some q.unit_is m c l e before clean in
        rw (e, b.is) (from (steps_granted g + 1) k r b.slices s total (iterating (suc c) bound c) b.result clean b.after (ready_on b.after q) (le_trans m b.after.parts.made)
        (omega arith) b.outcome)

    pub own_turn_lem : (k : ℕ) → k ≤ get_or r.words components_made 0 → (is_group_at r.words c ≡ true → first_at r.words c + count_at r.words c ≤ k)
        → Follows granted total (Flows program ts g r) (own_turn body g p (number_in (scope_of program ts whose) x) k c r) (iterating (suc c) bound c s)
    own_turn_lem k m before = go (is_group_at r.words c) refl
      where
        go : (t : Bool) → is_group_at r.words c ≡ t → Follows granted total (Flows program ts g r) (own_turn body g p (number_in (scope_of program ts whose) x) k c r) (iterating (suc c) bound c s)
        go true e = own_group k m (before e) e
        go false e = own_figure k e
