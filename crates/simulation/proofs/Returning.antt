-- A call returns: the caller's variables are as they were, and what was made and stored stays.
use Prim.Native.Nat.{ℕ, suc, ◌+◌, ◌-◌, ◌≤◌, ◌<◌}
use native.Mathlib.Omega.{arith}
use native.Mathlib.Nat.{le_trans, add-zero}
use mathlib.Core.Path.{◌≡◌, refl, ap, sym, ◌∙◌}
use mathlib.Core.Logic.{◌≢◌}
use mathlib.Core.Bool.{Bool, true, false}
use mathlib.Core.List.{List}
use lib.ListN.{get_or, set, length, length-set}
use lib.Seq.{get_or-set_same, get_or-set_other}
use lib.Dec.{eqb}
use borrow.Author.Tests.{eqb-true, eqb-false}
use Rattle.meaning.specs.Token.{Token}
use Rattle.meaning.specs.Value as Value
use Rattle.meaning.specs.State.{State, resumed}
use Rattle.meaning.specs.Run as Run
use Rattle.meaning.specs.Book.{Amounts, lowered, resource_number}
use Rattle.meaning.specs.Execute as Execute
use Rattle.meaning.specs.Procedure.{returned_by}
use Rattle.machine.specs.declared.Flow.{Flow}
use Rattle.machine.specs.Layout.{
  steps_used,
  tables_made,
  declared,
  arguments_held,
  calls_used,
  running,
  entries_made,
  components_made,
  loop_unit,
  frame,
  calls_granted,
  call_place,
  argument_place,
  fixed_words,
}
use Rattle.machine.specs.Act.{Raw, raw, done}
use Rattle.machine.specs.Act as Act
use Rattle.machine.specs.Stack.{argument_at, drop_to}
use Rattle.machine.specs.Variables.{word_in, holding}
use Rattle.machine.specs.Procedures.{recall, resume, result_of}
use Rattle.simulation.specs.Meant.{meant_value, frame_at, declared_at, running_at, unit_at}
use Rattle.simulation.specs.Sound.{Valid, size_of, Variables, mark_in, Marks}
use Rattle.simulation.specs.Follows.{Related, Later, Follows}
use Rattle.simulation.proofs.Frames.{mark_same, later_trans, valid_later, SameVariables, variables_kept, variables_same, SameWaiting, waits_same}
use Rattle.simulation.proofs.Results.{gave_back_lem, Untouched, After, Values}
use Rattle.simulation.proofs.Flows.{SameFlow, both_onward, both_returned}
use Rattle.simulation.proofs.Moving.{moved_later, moved_related}
use Rattle.simulation.proofs.Stacking.{AfterArguments}
use Rattle.simulation.proofs.Opening.{Recalls, recalls}
use Rattle.simulation.proofs.Calling.{Begun}

-- from before the arguments (r₁) and with them (r) to where the call began (r₂) and where it returns (r')
module _ {program : List ℕ} {ts : List Token} {g : List ℕ} {r₁ r r₂ r' : Raw} {s₁ s s' : State} {total₁ total total' : Amounts} {us : List Value.Value}
    (h₁ : Related program ts g r₁ s₁ total₁) (args : AfterArguments program ts g r₁ us r s total) {number p : ℕ} {xs : List (List ℕ)}
    (b : Begun program ts g r s total number p xs r₂) (some : 0 < get_or r.words calls_used 0) (a : After program ts g r₂ r' s' total') where
  abbrev top : ℕ
  top = get_or r.words arguments_held 0

  abbrev c : ℕ
  c = get_or r.words calls_used 0

  abbrev base : ℕ
  base = get_or r₁.words arguments_held 0

  h : Related program ts g r s total
  h = args.related

  v : Variables program ts r.words
  v = h.sound.variables

  room : fixed_words ≤ length r'.words
  room = omega (arith, a.related.sound.lent.room.words)

  -- ---- the words at the return
  abbrev fewer : List ℕ
  fewer = set r'.words calls_used (get_or r'.words calls_used 0 - 1)

  fewer_long : length fewer ≡ length r'.words
  fewer_long = length-set r'.words calls_used (get_or r'.words calls_used 0 - 1)

  fewer_other : (i : ℕ) → i ≢ calls_used → get_or fewer i 0 ≡ get_or r'.words i 0
  fewer_other i d = get_or-set_other r'.words calls_used i (get_or r'.words calls_used 0 - 1) 0 d

  caller_is : get_or r'.words calls_used 0 - 1 ≡ c
  caller_is = omega (arith, a.untouched.calls, b.calls)

  pub recalled : Recalls r'.texts fewer (get_or r'.words calls_used 0 - 1) (recall (get_or r'.words calls_used 0 - 1) (raw r'.texts fewer))
  recalled = recalls r'.texts fewer (rw fewer_long room) (get_or r'.words calls_used 0 - 1)

  abbrev ended : List ℕ
  ended = set recalled.words arguments_held base

  abbrev pub returned : Raw
  returned = raw r'.texts (set recalled.words arguments_held (get_or r₁.words arguments_held 0))

  ended_long : length ended ≡ length r'.words
  ended_long = length-set recalled.words arguments_held base ∙ recalled.long ∙ fewer_long

  ended_held : get_or ended arguments_held 0 ≡ base
  ended_held = get_or-set_same recalled.words arguments_held base 0 (rw (recalled.long, fewer_long) (omega (arith, room)))

  -- ---- what belongs to the caller
  four_kept : (j : ℕ) → j < 4 → get_or fewer (call_place c + j) 0 ≡ get_or r₂.words (call_place c + j) 0
  four_kept j l = fewer_other (call_place c + j) (λ e. omega arith) ∙ a.untouched.kept c j some (omega (arith, b.calls)) l

  ended_place : get_or ended frame 0 ≡ get_or r.words frame 0
  ended_place =
      get_or-set_other recalled.words arguments_held frame base 0 (λ e. omega arith) ∙ recalled.place ∙ ap (frame_at fewer) caller_is
      ∙ rw (← add-zero (call_place c)) (four_kept 0 (omega arith)) ∙ b.own_place

  ended_count : get_or ended declared 0 ≡ get_or r.words declared 0
  ended_count =
      get_or-set_other recalled.words arguments_held declared base 0 (λ e. omega arith) ∙ recalled.count ∙ ap (declared_at fewer) caller_is
      ∙ four_kept 1 (omega arith) ∙ b.own_count

  ended_running : get_or ended running 0 ≡ get_or r.words running 0
  ended_running =
      get_or-set_other recalled.words arguments_held running base 0 (λ e. omega arith) ∙ recalled.procedure ∙ ap (running_at fewer) caller_is
      ∙ four_kept 2 (omega arith) ∙ b.own_procedure

  ended_unit : get_or ended loop_unit 0 ≡ get_or r.words loop_unit 0
  ended_unit =
      get_or-set_other recalled.words arguments_held loop_unit base 0 (λ e. omega arith) ∙ recalled.unit ∙ ap (unit_at fewer) caller_is
      ∙ four_kept 3 (omega arith) ∙ b.own_unit

  -- ---- what stays
  other : (i : ℕ) → i ≢ frame → i ≢ declared → i ≢ running → i ≢ loop_unit → i ≢ arguments_held → i ≢ calls_used → get_or ended i 0 ≡ get_or r'.words i 0
  other i x y z u w d = get_or-set_other recalled.words arguments_held i base 0 w ∙ recalled.others i x y z u ∙ fewer_other i d

  ended_calls : get_or ended calls_used 0 ≡ c
  ended_calls =
      get_or-set_other recalled.words arguments_held calls_used base 0 (λ e. omega arith)
      ∙ recalled.others calls_used (λ e. omega arith) (λ e. omega arith) (λ e. omega arith) (λ e. omega arith)
      ∙ get_or-set_same r'.words calls_used (get_or r'.words calls_used 0 - 1) 0 (omega (arith, room)) ∙ caller_is

  ended_low : (i : ℕ) → i < declared → get_or ended i 0 ≡ get_or r'.words i 0
  ended_low i l = other i (λ e. omega arith) (λ e. omega arith) (λ e. omega arith) (λ e. omega arith) (λ e. omega arith) (λ e. omega arith)

  ended_parts : (i : ℕ) → entries_made ≤ i → i < loop_unit → get_or ended i 0 ≡ get_or r'.words i 0
  ended_parts i l m = other i (λ e. omega arith) (λ e. omega arith) (λ e. omega arith) (λ e. omega arith) (λ e. omega arith) (λ e. omega arith)

  -- the words behind the counters
  ended_behind : (i : ℕ) → call_place 0 ≤ i → get_or ended i 0 ≡ get_or r'.words i 0
  ended_behind i l = other i (λ e. omega arith) (λ e. omega arith) (λ e. omega arith) (λ e. omega arith) (λ e. omega arith) (λ e. omega arith)

  ended_high : (i : ℕ) → fixed_words ≤ i → get_or ended i 0 ≡ get_or r'.words i 0
  ended_high i l = ended_behind i (omega arith)

  -- the stack below the callee's frame
  ended_stack : (k : ℕ) → k < top → argument_at ended k ≡ argument_at r.words k
  ended_stack k l = ended_behind (argument_place k) (omega arith) ∙ a.untouched.below k (omega (arith, b.place)) ∙ b.stack k l

  ended_kept : (d j : ℕ) → 0 < d → d < c → j < 4 → get_or ended (call_place d + j) 0 ≡ get_or r.words (call_place d + j) 0
  ended_kept d j z l m = ended_behind (call_place d + j) (omega arith) ∙ a.untouched.kept d j z (omega (arith, b.calls)) m ∙ b.kept d j z l m

  pub return_later : Later program r' returned
  return_later = moved_later a.related ended ended_low ended_parts ended_high

  call_later : Later program r returned
  call_later = later_trans b.later (later_trans a.later return_later)

  -- ---- variables as they were
  ended_word : (k : ℕ) → k ≤ size_of program ts (get_or r.words running 0) → argument_at ended (get_or r.words frame 0 + k) ≡ argument_at r.words (get_or r.words frame 0 + k)
  ended_word k l = ended_stack (get_or r.words frame 0 + k) (omega (arith, v.within))

  low_frame : get_or r.words frame 0 + suc (size_of program ts (get_or r.words running 0)) ≤ base
  low_frame = rw (args.untouched.frame, args.untouched.running) h₁.sound.variables.within

  variables_as : SameVariables program ts r returned
  variables_as = record { count = ended_count; procedure = ended_running; place = ended_place; words = ended_word; within = rw ended_held low_frame }

  waiting_as : SameWaiting program ts r returned
  waiting_as = waits_same call_later (record { kept = ended_kept; below = λ k l. ended_stack k (omega (arith, v.within)) }) h.sound.waiting ended_calls (omega (arith, ended_place))

  ended_mark : (d k : ℕ) → mark_in g ended d k ≡ mark_in g r'.words d k
  ended_mark d k = mark_same g r'.words d k ended (ended_parts components_made (omega arith) (omega arith)) (ended_high _ (omega arith))

  base_low : base ≤ top
  base_low = omega (arith, args.held)

  -- ---- calls as they were
  untouched_all : Untouched program ts g r₁ returned
  untouched_all = record {
    calls = ended_calls ∙ args.untouched.calls;
    kept = λ d j z l m. ended_kept d j z (omega (arith, args.untouched.calls)) m ∙ args.untouched.kept d j z l m;
    below = λ k l. ended_stack k (omega (arith, h₁.sound.variables.within, base_low)) ∙ args.untouched.below k l;
    above = λ k l m. ended_stack k (omega (arith, base_low)) ∙ args.untouched.above k l m;
    made = omega (arith, args.untouched.made, b.parts.made, a.untouched.made, ended_parts components_made (omega arith) (omega arith));
    components = λ k l.
        let m = le_trans l args.untouched.made in
        ended_high _ (omega arith) ∙ a.untouched.components k (le_trans m b.parts.made) ∙ b.parts.words k m ∙ args.untouched.components k l;
    unit = ended_unit ∙ args.untouched.unit;
    marks = λ d k x.
        let q = args.untouched.calls in
        ended_mark d k ∙ a.untouched.marks d k (omega (arith, b.calls, q)) ∙ b.marks d k (omega (arith, q)) ∙ args.untouched.marks d k x;
    bound = λ i l n.
        let same : holding ended i ≡ holding r.words i = rw ended_place (ap word_in (ended_word i (rw args.untouched.running l))) in
        rw same (args.untouched.bound i l n);
    running = ended_running ∙ args.untouched.running;
    frame = ended_place ∙ args.untouched.frame;
  }

  -- the callee's marks are gone, and the caller's as they were
  ended_marks : Marks g ended
  ended_marks = record {
    idle = λ d k x y. ended_mark d k ∙ gone d k (rw ended_calls at x) y (eqb d c) refl;
    own = λ k x.
        let o = rw ended_calls at x in
        let d : c - 1 < c = omega arith in
        rw (
          ended_calls,
          ended_unit,
          ended_mark (c - 1) k,
          a.untouched.marks (c - 1) k (omega (arith, b.calls)),
          b.marks (c - 1) k d,
        ) (h.sound.marks.own k o);
  }
    where
      gone : (d k : ℕ) → c ≤ d → d < calls_granted g → (t : Bool) → eqb d c ≡ t → mark_in g r'.words d k ≡ 0
      gone d k x y true e =
          let q : get_or r₂.words calls_used 0 - 1 ≡ c = omega (arith, b.calls) in
          let m = b.related.sound.marks.own k (omega (arith, b.calls)) in
          let n = rw (q, b.unit) at m in
          rw (eqb-true d c e) (a.untouched.marks c k (omega (arith, b.calls)) ∙ omega (arith, n))
      gone d k x y false e =
          let n : d ≢ c = eqb-false d c e in
          a.related.sound.marks.idle d k (omega (arith, a.untouched.calls, b.calls)) y

  pub returns : After program ts g r₁ returned (resumed s s') (lowered total')
  unfolding lowered resource_number
  returns = record {
    related = moved_related a.related ended ended_low ended_parts ended_high ended_long (rw ended_held h₁.sound.counted.arguments) (rw ended_calls h.sound.counted.calls)
        (variables_kept call_later variables_as v) (h.variables ∙ sym (variables_same call_later variables_as v))
        waiting_as.waiting ended_marks (h.suspended ∙ sym waiting_as.suspended)
        (omega arith) (omega arith) (omega arith) (omega arith) (omega (arith, a.related.calls_taken, a.untouched.calls, b.calls, ended_calls));
    later = later_trans args.later call_later;
    spare = omega (arith, args.spare, a.spare, b.low steps_used (omega arith), b.low tables_made (omega arith), ended_low steps_used (omega arith), ended_low tables_made (omega arith));
    held = ended_held;
    untouched = untouched_all;
  }

  -- ---- the act
  pub resumes : resume (get_or r₁.words arguments_held 0) r' ≡ done tt returned
  unfolding resume drop_to Act.◌>>=◌ Act.go_on Act.load Act.store
  resumes = rw recalled.is

  -- with the value that it returned, which is not copied
  pub returned_with : {granted : Amounts} {f : Flow} {f' : Execute.Flow} → SameFlow program r' f f'
      → Follows granted total' (Values program ts g r₁) (result_of f returned) (Run.◌>>◌ Run.give_back (Run.give (returned_by f')) (resumed s s'))
  unfolding result_of returned_by Act.give Run.◌>>=◌ Run.go_on Run.give_back Run.give Valid meant_value
  returned_with both_onward = gave_back_lem (record { after = returns; valid = tt; means = refl })
  returned_with (both_returned {v = x} y z) = gave_back_lem (record { after = returns; valid = valid_later return_later x y; means = z })
