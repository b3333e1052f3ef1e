-- A call begins: what belongs to the caller is kept, one call more is under way, and its frame is opened.
use Prim.Native.Nat.{ℕ, suc, ◌+◌, ◌-◌, ◌≤◌, ◌<◌}
use native.Mathlib.Omega.{arith}
use native.Mathlib.Nat.{le_refl}
use mathlib.Core.Path.{◌≡◌, refl, ap, ap₂, sym, ◌∙◌}
use mathlib.Core.Logic.{◌≢◌}
use mathlib.Core.Bool.{Bool, true, false}
use mathlib.Core.List.{List, [], ◌∷◌, ◌++◌}
use lib.ListN.{get_or, set, length, length-set}
use lib.Seq.{get_or-set_same, get_or-set_other}
use lib.Dec.{eqb}
use borrow.Author.Tests.{eqb-true, eqb-false}
use Rattle.meaning.specs.Token.{Token}
use Rattle.meaning.specs.State.{State, Variable, fresh, entered}
use Rattle.meaning.specs.Run as Run
use Rattle.meaning.specs.Book.{Amounts, added, resource_number}
use Rattle.machine.specs.Layout.{
  declared,
  arguments_held,
  calls_used,
  running,
  entries_made,
  components_made,
  loop_unit,
  frame,
  calls_granted,
  call_place,
  argument_place,
  stack_words,
  fixed_words,
  first_argument,
}
use Rattle.machine.specs.Act.{Raw, raw}
use Rattle.machine.specs.Stack.{argument_at}
use Rattle.machine.specs.Procedures.{keep, first_word, open_frame}
use Rattle.simulation.specs.Scope.{scope_of}
use Rattle.simulation.specs.Meant.{variables_of, frame_at, declared_at, running_at, unit_at, waiting_of, suspended_of}
use Rattle.simulation.specs.Sound.{Framed, size_of, Variables, Waiting, mark_in, Marks}
use Rattle.simulation.specs.Follows.{Related, Later}
use Rattle.simulation.proofs.Listed.{listed_more}
use Rattle.simulation.proofs.Frames.{SameComponents, mark_same, framed_kept, frame_same, SameStack, waiting_framed, waiting_end, waiting_below, frames_same}
use Rattle.simulation.proofs.Results.{due}
use Rattle.simulation.proofs.Moving.{moved_later, moved_components, moved_related}
use Rattle.simulation.proofs.Opening.{Keeps, keeps, Opens, opens, opened_framed, opened_variables}

-- ---- what holds when a call has begun, its parameters declared
module _ (program : List ℕ) (ts : List Token) (g : List ℕ) where
  pub record Begun (r : Raw) (s : State) (total : Amounts) (number p : ℕ) (xs : List (List ℕ)) (r' : Raw) : Type 0 where
    pub related : Related program ts g r' (entered s (fresh xs)) (added total (due Run.calls 1 p))
    pub later : Later program r r'
    pub kept : (d j : ℕ) → 0 < d → d < get_or r.words calls_used 0 → j < 4 → get_or r'.words (call_place d + j) 0 ≡ get_or r.words (call_place d + j) 0
    pub stack : (k : ℕ) → k < get_or r.words arguments_held 0 → argument_at r'.words k ≡ argument_at r.words k
    pub low : (i : ℕ) → i < declared → get_or r'.words i 0 ≡ get_or r.words i 0
    pub held : get_or r'.words arguments_held 0 ≡ get_or r.words arguments_held 0 + suc (size_of program ts number)
    pub calls : get_or r'.words calls_used 0 ≡ get_or r.words calls_used 0 + 1
    pub procedure : get_or r'.words running 0 ≡ number
    pub place : get_or r'.words frame 0 ≡ get_or r.words arguments_held 0
    pub unit : get_or r'.words loop_unit 0 ≡ 0
    pub parts : SameComponents g r r'
    pub marks : (d k : ℕ) → d < get_or r.words calls_used 0 → mark_in g r'.words d k ≡ mark_in g r.words d k
    -- the four words of the caller
    pub own_place : frame_at r'.words (get_or r.words calls_used 0) ≡ get_or r.words frame 0
    pub own_count : declared_at r'.words (get_or r.words calls_used 0) ≡ get_or r.words declared 0
    pub own_procedure : running_at r'.words (get_or r.words calls_used 0) ≡ get_or r.words running 0
    pub own_unit : unit_at r'.words (get_or r.words calls_used 0) ≡ get_or r.words loop_unit 0

module _ {program : List ℕ} {ts : List Token} {g : List ℕ} {r : Raw} {s : State} {total : Amounts} (h : Related program ts g r s total) where
  abbrev top : ℕ
  top = get_or r.words arguments_held 0

  abbrev c : ℕ
  c = get_or r.words calls_used 0

  room : fixed_words ≤ length r.words
  room = omega (arith, h.sound.lent.room.words)

  -- ---- what belongs to the caller is kept
  pub kept : Keeps r.texts r.words (get_or r.words calls_used 0) (keep (raw r.texts r.words))
  kept = keeps r.texts r.words room

  pub kept_low : (i : ℕ) → i < call_place c → get_or kept.words i 0 ≡ get_or r.words i 0
  kept_low i l = kept.before i l

  -- ---- one call more
  abbrev pub counted : List ℕ
  counted = set kept.words calls_used (get_or kept.words calls_used 0 + 1)

  counted_long : length counted ≡ length r.words
  counted_long = length-set kept.words calls_used (get_or kept.words calls_used 0 + 1) ∙ kept.long

  counted_other : (i : ℕ) → i ≢ calls_used → get_or counted i 0 ≡ get_or kept.words i 0
  counted_other i d = get_or-set_other kept.words calls_used i (get_or kept.words calls_used 0 + 1) 0 d

  counted_calls : get_or counted calls_used 0 ≡ c + 1
  counted_calls =
      get_or-set_same kept.words calls_used (get_or kept.words calls_used 0 + 1) 0 (rw kept.long (omega (arith, room)))
      ∙ ap (λ n. n + 1) (kept.before calls_used (omega arith))

  -- ---- the frame, for a procedure with parameters xs
  module _ (number p : ℕ) (xs : List (List ℕ)) (some : 0 < get_or r.words calls_used 0) (less : get_or r.words calls_used 0 + 1 ≤ calls_granted g)
      (fit : get_or r.words arguments_held 0 + suc (size_of program ts number) ≤ stack_words) (few : length xs ≤ size_of program ts number) (brief : size_of program ts number < 8192)
      (same : (k : ℕ) → k < length xs → get_or (scope_of program ts number) k [] ≡ get_or xs k []) where
    abbrev size : ℕ
    size = size_of program ts number

    pub opened : Opens r.texts counted (get_or r.words arguments_held 0) (length xs) (suc (size_of program ts number))
        (open_frame (get_or r.words arguments_held 0) (length xs) (suc (size_of program ts number)) p (raw r.texts counted))
    opened = opens r.texts counted top (length xs) (suc size) p (rw counted_long room) fit

    abbrev w₂ : List ℕ
    w₂ = set opened.words running number

    abbrev now : List ℕ
    now = set (set opened.words running number) loop_unit 0

    abbrev pub within : Raw
    within = raw r.texts (set (set opened.words running number) loop_unit 0)

    long₂ : length w₂ ≡ length r.words
    long₂ = length-set opened.words running number ∙ opened.long ∙ counted_long

    now_long : length now ≡ length r.words
    now_long = length-set w₂ loop_unit 0 ∙ long₂

    now_other : (i : ℕ) → i ≢ running → i ≢ loop_unit → get_or now i 0 ≡ get_or opened.words i 0
    now_other i a b = get_or-set_other w₂ loop_unit i 0 0 b ∙ get_or-set_other opened.words running i number 0 a

    now_place : get_or now frame 0 ≡ top
    now_place = now_other frame (λ e. omega arith) (λ e. omega arith) ∙ opened.place

    now_count : get_or now declared 0 ≡ length xs
    now_count = now_other declared (λ e. omega arith) (λ e. omega arith) ∙ opened.count

    now_held : get_or now arguments_held 0 ≡ top + suc size
    now_held = now_other arguments_held (λ e. omega arith) (λ e. omega arith) ∙ opened.held

    now_running : get_or now running 0 ≡ number
    now_running =
        get_or-set_other w₂ loop_unit running 0 0 (λ e. omega arith)
        ∙ get_or-set_same opened.words running number 0 (rw (opened.long, counted_long) (omega (arith, room)))

    now_unit : get_or now loop_unit 0 ≡ 0
    now_unit = get_or-set_same w₂ loop_unit 0 0 (rw long₂ (omega (arith, room)))

    now_calls : get_or now calls_used 0 ≡ c + 1
    now_calls =
        now_other calls_used (λ e. omega arith) (λ e. omega arith) ∙ opened.low calls_used (λ e. omega arith) (λ e. omega arith) (λ e. omega arith) (omega arith)
        ∙ counted_calls

    -- ---- what stays
    few_calls : c < 64
    few_calls = omega (arith, less, h.sound.lent.room.calls)

    -- counters and words of calls
    now_front : (i : ℕ) → i ≢ running → i ≢ loop_unit → i ≢ frame → i ≢ declared → i ≢ arguments_held → i ≢ calls_used → i < first_argument → get_or now i 0 ≡ get_or kept.words i 0
    now_front i a b d e f k l = now_other i a b ∙ opened.low i d e f l ∙ counted_other i k

    now_low : (i : ℕ) → i < declared → get_or now i 0 ≡ get_or r.words i 0
    now_low i l =
        now_front i (λ e. omega arith) (λ e. omega arith) (λ e. omega arith) (λ e. omega arith) (λ e. omega arith) (λ e. omega arith) (omega arith)
        ∙ kept.before i (omega arith)

    now_parts : (i : ℕ) → entries_made ≤ i → i < loop_unit → get_or now i 0 ≡ get_or r.words i 0
    now_parts i l m =
        now_front i (λ e. omega arith) (λ e. omega arith) (λ e. omega arith) (λ e. omega arith) (λ e. omega arith) (λ e. omega arith) (omega arith)
        ∙ kept.before i (omega arith)

    now_word : (d j : ℕ) → j < 4 → get_or now (call_place d + j) 0 ≡ get_or kept.words (call_place d + j) 0
    now_word d j l =
        now_front (call_place d + j) (λ e. omega arith) (λ e. omega arith) (λ e. omega arith) (λ e. omega arith) (λ e. omega arith) (λ e. omega arith) (omega arith)

    now_first : (d : ℕ) → frame_at now d ≡ frame_at kept.words d
    now_first d =
        now_front (call_place d) (λ e. omega arith) (λ e. omega arith) (λ e. omega arith) (λ e. omega arith) (λ e. omega arith) (λ e. omega arith) (omega arith)

    now_kept : (d j : ℕ) → 0 < d → d < c → j < 4 → get_or now (call_place d + j) 0 ≡ get_or r.words (call_place d + j) 0
    now_kept d j z l m = now_word d j m ∙ kept.before (call_place d + j) (omega (arith, few_calls))

    now_stack : (k : ℕ) → k < top → argument_at now k ≡ argument_at r.words k
    now_stack k l =
        now_other (argument_place k) (λ e. omega arith) (λ e. omega arith) ∙ opened.stack k l ∙ counted_other (argument_place k) (λ e. omega arith)
        ∙ kept.behind (argument_place k) (omega (arith, few_calls))

    now_high : (i : ℕ) → fixed_words ≤ i → get_or now i 0 ≡ get_or r.words i 0
    now_high i l =
        now_other i (λ e. omega arith) (λ e. omega arith) ∙ opened.high i l ∙ counted_other i (λ e. omega arith) ∙ kept.behind i (omega (arith, few_calls))

    now_later : Later program r within
    now_later = moved_later h now now_low now_parts now_high

    -- ---- the caller waits
    v : Variables program ts r.words
    v = h.sound.variables

    own_place : frame_at now c ≡ get_or r.words frame 0
    own_place = now_first c ∙ kept.place

    own_count : declared_at now c ≡ get_or r.words declared 0
    own_count = now_word c 1 (omega arith) ∙ kept.count

    own_procedure : running_at now c ≡ get_or r.words running 0
    own_procedure = now_word c 2 (omega arith) ∙ kept.procedure

    own_unit : unit_at now c ≡ get_or r.words loop_unit 0
    own_unit = now_word c 3 (omega arith) ∙ kept.unit

    own_words : (k : ℕ) → k ≤ size_of program ts (get_or r.words running 0) → argument_at now (get_or r.words frame 0 + k) ≡ argument_at r.words (get_or r.words frame 0 + k)
    own_words k l = now_stack (get_or r.words frame 0 + k) (omega (arith, v.within))

    own_framed : Framed program now (frame_at now c) (declared_at now c) (size_of program ts (running_at now c))
    own_framed = rw (own_place, own_count, own_procedure) (framed_kept now_later own_words v.framed)

    own_end : frame_at now c + suc (size_of program ts (running_at now c)) ≤ top
    own_end = rw (own_place, own_procedure) v.within

    stack_same : SameStack r within
    stack_same = record { kept = now_kept; below = λ k l. now_stack k (omega (arith, v.within)) }

    now_waiting : Waiting program ts now
    now_waiting = record {
      framed = λ d z l. framed_at d z l (eqb d c) refl;
      below = λ d e z l m. below_at d e z l m (eqb e c) refl;
      under = λ d z l. rw now_place (under_at d z l (eqb d c) refl);
    }
      where
        framed_at : (d : ℕ) → 0 < d → d < get_or now calls_used 0 → (b : Bool) → eqb d c ≡ b → Framed program now (frame_at now d) (declared_at now d) (size_of program ts (running_at now d))
        framed_at d z l true e = rw (eqb-true d c e) own_framed
        framed_at d z l false e = let n : d ≢ c = eqb-false d c e in waiting_framed now_later stack_same h.sound.waiting d z (omega (arith, now_calls))

        below_at : (d e : ℕ) → 0 < d → d < e → e < get_or now calls_used 0 → (b : Bool) → eqb e c ≡ b → frame_at now d + suc (size_of program ts (running_at now d)) ≤ frame_at now e
        below_at d e z l m true q =
            let i : e ≡ c = eqb-true e c q in
            let n : d < c = omega arith in
            rw (i, own_place, waiting_end now_later stack_same h.sound.waiting d z n) (h.sound.waiting.under d z n)
        below_at d e z l m false q =
            let n : e ≢ c = eqb-false e c q in
            waiting_below now_later stack_same h.sound.waiting d e z l (omega (arith, now_calls))

        under_at : (d : ℕ) → 0 < d → d < get_or now calls_used 0 → (b : Bool) → eqb d c ≡ b → frame_at now d + suc (size_of program ts (running_at now d)) ≤ top
        under_at d z l true e = rw (eqb-true d c e) own_end
        under_at d z l false e =
            let n : d ≢ c = eqb-false d c e in
            let b : d < c = omega (arith, now_calls) in
            rw (waiting_end now_later stack_same h.sound.waiting d z b) (omega (arith, h.sound.waiting.under d z b, v.within))

    own_variables : waiting_of program ts within c ≡ s.variables
    unfolding waiting_of
    own_variables = rw (own_place, own_count, own_procedure) (frame_same now_later own_words v.framed (scope_of program ts (get_or r.words running 0))) ∙ sym h.variables

    now_suspended : s.suspended ++ (s.variables ∷ []) ≡ suspended_of program ts within
    unfolding suspended_of
    now_suspended =
        let n : c + 1 - 1 ≡ suc (c - 1) = omega arith in
        let l : 1 + (c - 1) ≡ c = omega arith in
        sym (rw (now_calls, n) (listed_more (waiting_of program ts within) 1 (c - 1)
        ∙ ap₂ (λ (fs : List (List Variable)) (vs : List Variable). fs ++ (vs ∷ [])) (frames_same now_later stack_same h.sound.waiting ∙ sym h.suspended)
        (ap (waiting_of program ts within) l ∙ own_variables)))

    -- ---- its own variables
    now_frame : (j : ℕ) → j ≤ size → argument_at now (top + j) ≡ first_word (length xs) j
    now_frame j l = now_other (argument_place (top + j)) (λ e. omega arith) (λ e. omega arith) ∙ opened.word j (omega arith)

    now_variables : Variables program ts now
    now_variables = record {
      framed = rw (now_place, now_count, now_running) (opened_framed program now top (length xs) size few brief now_frame);
      within = rw (now_place, now_held, now_running) (le_refl _);
    }

    now_fresh : fresh xs ≡ variables_of program ts within
    now_fresh =
        rw (now_place, now_count, now_running) (opened_variables program now top (length xs) size few brief now_frame r.texts (scope_of program ts number) xs refl same)

    -- ---- no loop is under way
    now_mark : (d k : ℕ) → mark_in g now d k ≡ mark_in g r.words d k
    now_mark d k = mark_same g r.words d k now (now_parts components_made (omega arith) (omega arith)) (now_high _ (omega arith))

    now_marks : Marks g now
    now_marks = let m = h.sound.marks in record {
      idle = λ d k x y. now_mark d k ∙ m.idle d k (omega (arith, now_calls)) y;
      own = λ k x.
          let q : get_or now calls_used 0 - 1 ≡ c = omega (arith, now_calls) in
          let z = now_mark c k ∙ m.idle c k (le_refl _) (omega arith) in
          rw (q, z) (omega arith);
    }

    pub begun : Begun program ts g r s total number p xs within
    unfolding added resource_number
    begun = record {
      related = moved_related h now now_low now_parts now_high now_long (rw now_held fit) (rw now_calls less) now_variables now_fresh now_waiting now_marks now_suspended
          (omega arith) (omega arith) (omega arith) (omega arith) (omega (arith, h.calls_taken, now_calls));
      later = now_later;
      kept = now_kept;
      stack = now_stack;
      low = now_low;
      held = now_held;
      calls = now_calls;
      procedure = now_running;
      place = now_place;
      unit = now_unit;
      parts = moved_components h now now_low now_parts now_high;
      marks = λ d k x. now_mark d k;
      own_place = own_place;
      own_count = own_count;
      own_procedure = own_procedure;
      own_unit = own_unit;
    }
