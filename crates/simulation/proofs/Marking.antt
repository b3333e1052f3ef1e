-- Marks of the loops of the call under way: what stays when one of them changes.
use Prim.Native.Nat.{ℕ, suc, ◌+◌, ◌-◌, ◌*◌, ◌%◌, ◌^◌, ◌≤◌, ◌<◌}
use native.Mathlib.Omega.{arith}
use native.Mathlib.Nat.{le_trans}
use mathlib.Core.Path.{◌≡◌, refl, sym, ◌∙◌}
use mathlib.Core.Logic.{◌≢◌}
use mathlib.Core.Bool.{Bool, true, false}
use mathlib.Core.List.{List}
use lib.ListN.{get_or, set}
use lib.Seq.{get_or-set_same}
use lib.Dec.{eqb}
use borrow.Author.Tests.{eqb-true, eqb-false}
use Rattle.meaning.specs.Token.{Token}
use Rattle.meaning.specs.State.{State}
use Rattle.meaning.specs.Book.{Amounts}
use Rattle.machine.specs.Layout.{
  steps_used,
  shapes_used,
  entries_used,
  text_used,
  tables_made,
  declared,
  arguments_held,
  calls_used,
  running,
  entries_made,
  components_made,
  loop_unit,
  entries_granted,
  calls_granted,
  frame,
  call_place,
  argument_place,
  component_place,
  path_place,
}
use Rattle.machine.specs.Act.{Raw, raw, done}
use Rattle.machine.specs.Act as Act
use Rattle.machine.specs.Stack.{argument_at}
use Rattle.machine.proofs.Slots.{slot_apart, call_apart, slot_room}
use Rattle.machine.specs.Loops.{mark, unmark}
use Rattle.machine.specs.Variables.{holding}
use Rattle.simulation.specs.Sound.{size_of, mark_in, Marks}
use Rattle.simulation.specs.Follows.{Related, Later}
use Rattle.simulation.proofs.Frames.{mark_here, mark_same, stays_words, later_trans, SameComponents, SameStack, SameVariables, same_words, SameWaiting, waits_same, SameShapes}
use Rattle.simulation.proofs.Holding.{SameEntries}
use Rattle.simulation.proofs.Results.{After, kept_marks}
use Rattle.simulation.proofs.Counting.{lent_set, other}

-- those of a slot
abbrev pub mark_at : List ℕ → Raw → ℕ → ℕ
mark_at g r k = mark_in g r.words (get_or r.words calls_used 0 - 1) k

-- ---- all that an act leaves untouched, but for these
pub record AfterBut (program : List ℕ) (ts : List Token) (g : List ℕ) (r r' : Raw) (s : State) (total : Amounts) : Type 0 where
  pub related : Related program ts g r' s total
  pub later : Later program r r'
  pub spare : get_or r'.words tables_made 0 + get_or r.words steps_used 0 ≤ get_or r.words tables_made 0 + get_or r'.words steps_used 0
  pub held : get_or r'.words arguments_held 0 ≡ get_or r.words arguments_held 0
  pub calls : get_or r'.words calls_used 0 ≡ get_or r.words calls_used 0
  pub procedure : get_or r'.words running 0 ≡ get_or r.words running 0
  pub place : get_or r'.words frame 0 ≡ get_or r.words frame 0
  pub kept : (d j : ℕ) → 0 < d → d < get_or r.words calls_used 0 → j < 4 → get_or r'.words (call_place d + j) 0 ≡ get_or r.words (call_place d + j) 0
  pub below : (k : ℕ) → k < get_or r.words frame 0 → argument_at r'.words k ≡ argument_at r.words k
  pub above : (k : ℕ) → get_or r.words frame 0 + suc (size_of program ts (get_or r.words running 0)) ≤ k → k < get_or r.words arguments_held 0
      → argument_at r'.words k ≡ argument_at r.words k
  pub parts : SameComponents g r r'
  pub unit : get_or r'.words loop_unit 0 ≡ get_or r.words loop_unit 0
  pub waits : (d k : ℕ) → d + 1 < get_or r.words calls_used 0 → mark_in g r'.words d k ≡ mark_in g r.words d k
  pub bound : (i : ℕ) → i ≤ size_of program ts (get_or r.words running 0) → holding r.words i ≢ 0 → holding r'.words i ≢ 0

module _ {program : List ℕ} {ts : List Token} {g : List ℕ} where
  pub but_after : {r r' : Raw} {s : State} {total : Amounts} → After program ts g r r' s total → AfterBut program ts g r r' s total
  but_after a = let u = a.untouched in record {
    related = a.related;
    later = a.later;
    spare = a.spare;
    held = a.held;
    calls = u.calls;
    procedure = u.running;
    place = u.frame;
    kept = u.kept;
    below = u.below;
    above = u.above;
    parts = record { made = u.made; words = u.components };
    unit = u.unit;
    waits = λ d k x. u.marks d k (omega arith);
    bound = u.bound;
  }

  pub but_trans : {r r' r'' : Raw} {s s' : State} {total total' : Amounts} → AfterBut program ts g r r' s total → AfterBut program ts g r' r'' s' total' → AfterBut program ts g r r'' s' total'
  but_trans a b = record {
    related = b.related;
    later = later_trans a.later b.later;
    spare = omega (arith, a.spare, b.spare);
    held = b.held ∙ a.held;
    calls = b.calls ∙ a.calls;
    procedure = b.procedure ∙ a.procedure;
    place = b.place ∙ a.place;
    kept = λ d j z l m. b.kept d j z (rw a.calls l) m ∙ a.kept d j z l m;
    below = λ k l. b.below k (rw a.place l) ∙ a.below k l;
    above = λ k l m. b.above k (rw (a.place, a.procedure) l) (rw a.held m) ∙ a.above k l m;
    parts = record { made = le_trans a.parts.made b.parts.made; words = λ k l. b.parts.words k (le_trans l a.parts.made) ∙ a.parts.words k l };
    unit = b.unit ∙ a.unit;
    waits = λ d k x. b.waits d k (rw a.calls x) ∙ a.waits d k x;
    bound = λ i l n. b.bound i (rw a.procedure l) (a.bound i l n);
  }

  -- where all marks are as they were, all is untouched
  pub after_but : {r r' : Raw} {s : State} {total : Amounts} → AfterBut program ts g r r' s total → ((k : ℕ) → mark_at g r' k ≡ mark_at g r k)
      → After program ts g r r' s total
  after_but {r} {r'} a same = record {
    related = a.related;
    later = a.later;
    spare = a.spare;
    held = a.held;
    untouched = record {
      calls = a.calls;
      kept = a.kept;
      below = a.below;
      above = a.above;
      made = a.parts.made;
      components = a.parts.words;
      unit = a.unit;
      marks = λ d k x. go d k x (eqb (d + 1) (get_or r.words calls_used 0)) refl;
      bound = a.bound;
      running = a.procedure;
      frame = a.place;
    };
  }
    where
      go : (d k : ℕ) → d < get_or r.words calls_used 0 → (b : Bool) → eqb (d + 1) (get_or r.words calls_used 0) ≡ b → mark_in g r'.words d k ≡ mark_in g r.words d k
      go d k x true e =
          let q : get_or r.words calls_used 0 - 1 ≡ d = omega (arith, eqb-true (d + 1) (get_or r.words calls_used 0) e) in
          let z = same k in
          rw (a.calls, q) at z
      go d k x false e = let n : d + 1 ≢ get_or r.words calls_used 0 = eqb-false (d + 1) (get_or r.words calls_used 0) e in a.waits d k (omega arith)

-- ---- one word of a slot
module _ {program : List ℕ} {ts : List Token} {g : List ℕ} {r : Raw} {s : State} {total : Amounts} (h : Related program ts g r s total) (some : 0 < get_or r.words calls_used 0)
    (k : ℕ) (inside : k < get_or r.words components_made 0) (x : ℕ) (few : x ≤ 2 * get_or r.words loop_unit 0 - 1) where
  abbrev own : ℕ
  own = get_or r.words calls_used 0 - 1

  abbrev pub remarked : Raw
  remarked = raw r.texts (set r.words (path_place g (get_or r.words calls_used 0 - 1) k) x)

  as_was : (j : ℕ) → j ≢ path_place g own k → get_or remarked.words j 0 ≡ get_or r.words j 0
  as_was j n = other h (path_place g own k) x j n

  low : (j : ℕ) → j < component_place g (entries_granted g) → get_or remarked.words j 0 ≡ get_or r.words j 0
  low j l = as_was j (λ e. omega arith)

  calls_as : get_or remarked.words calls_used 0 ≡ get_or r.words calls_used 0
  calls_as = low calls_used (omega arith)

  made_as : get_or remarked.words components_made 0 ≡ get_or r.words components_made 0
  made_as = low components_made (omega arith)

  own_granted : own < calls_granted g
  own_granted = omega (arith, h.sound.counted.calls)

  pub own_now : mark_at g remarked k ≡ x
  own_now =
      let c = h.sound.counted in
      rw calls_as
      (mark_here g remarked.words own k (rw made_as inside) ∙ get_or-set_same r.words (path_place g own k) x 0
      (omega (arith, own_granted, slot_room g r.words k h.sound.lent.room (omega (arith, c.made, c.entries)))))

  pub own_others : (j : ℕ) → j ≢ k → mark_at g remarked j ≡ mark_at g r j
  own_others j n = rw calls_as (mark_same g r.words own j remarked.words made_as (as_was (path_place g own j) (slot_apart g own own j k own_granted own_granted n)))

  call_others : (d j : ℕ) → d < calls_granted g → d ≢ own → mark_in g remarked.words d j ≡ mark_in g r.words d j
  call_others d j l n = mark_same g r.words d j remarked.words made_as (as_was (path_place g d j) (call_apart g d own j k l own_granted n))

  mark_later : Later program r remarked
  mark_later = record {
    steps = omega (arith, low steps_used (omega arith));
    shapes = omega (arith, low shapes_used (omega arith));
    text = omega (arith, low text_used (omega arith));
    tables = omega (arith, low tables_made (omega arith));
    texts = λ t v. refl;
    figures = λ i l. stays_words r.words remarked.words i (λ j m. low _ (omega (arith, h.sound.counted.shapes)));
  }

  mark_parts : SameComponents g r remarked
  mark_parts = record {
    made = omega (arith, made_as);
    words = λ j l. low _ (omega (arith, h.sound.counted.made, h.sound.counted.entries));
  }

  mark_variables : SameVariables program ts r remarked
  mark_variables =
      same_words (low declared (omega arith)) (low running (omega arith)) (low frame (omega arith)) (omega (arith, low arguments_held (omega arith)))
      (λ j l. low _ (omega arith)) h.sound.variables

  mark_stack : SameStack r remarked
  mark_stack = record { kept = λ d j z l m. low _ (omega arith); below = λ j l. low _ (omega arith) }

  mark_waiting : SameWaiting program ts r remarked
  mark_waiting = waits_same mark_later mark_stack h.sound.waiting calls_as (omega (arith, low frame (omega arith)))

  mark_shapes : SameShapes mark_later
  mark_shapes = record { count = low shapes_used (omega arith); words = λ i j a b. low _ (omega (arith, h.sound.counted.shapes)) }

  mark_entries : SameEntries mark_later h.sound.shapes
  mark_entries = record {
    count = low entries_made (omega arith);
    firsts = λ j a. low _ (omega (arith, h.sound.counted.made, h.sound.counted.entries));
    keys = λ j a. low _ (omega (arith, h.sound.counted.made, h.sound.counted.entries));
    values = λ j a. low _ (omega (arith, h.sound.counted.made, h.sound.counted.entries));
    heads = λ j a. low _ (omega arith);
  }

  mark_marks : Marks g remarked.words
  mark_marks = let m = h.sound.marks in record {
    idle = λ d j a b.
        let u = rw calls_as at a in
        call_others d j b (λ e. omega arith) ∙ m.idle d j u b;
    own = λ j a. own_at j (eqb j k) refl;
  }
    where
      own_at : (j : ℕ) → (b : Bool) → eqb j k ≡ b → mark_at g remarked j ≤ 2 * get_or remarked.words loop_unit 0 - 1
      own_at j true e = rw (eqb-true j k e, own_now, low loop_unit (omega arith)) few
      own_at j false e = rw (own_others j (eqb-false j k e), low loop_unit (omega arith)) (h.sound.marks.own j some)

  pub marks : AfterBut program ts g r remarked s total
  marks = let c = h.sound.counted in record {
    related = kept_marks h mark_later (lent_set _ _ h.sound.lent)
        (record {
          steps = rw (low steps_used (omega arith)) c.steps;
          shapes = rw (low shapes_used (omega arith)) c.shapes;
          entries = rw (low entries_used (omega arith)) c.entries;
          made = rw (low entries_made (omega arith), made_as, low entries_used (omega arith)) c.made;
          text = rw (low text_used (omega arith)) c.text;
          tables = rw (low tables_made (omega arith), low steps_used (omega arith)) c.tables;
          arguments = rw (low arguments_held (omega arith)) c.arguments;
          calls = rw calls_as c.calls;
        })
        mark_parts mark_marks mark_variables mark_waiting mark_shapes mark_entries
        refl refl refl (h.tables ∙ sym (low tables_made (omega arith))) refl
        (h.steps_taken ∙ sym (low steps_used (omega arith))) (h.shapes_taken ∙ sym (low shapes_used (omega arith)))
        (h.entries_taken ∙ sym (low entries_used (omega arith))) (h.text_taken ∙ sym (low text_used (omega arith))) (h.calls_taken ∙ sym calls_as);
    later = mark_later;
    spare = omega (arith, low steps_used (omega arith), low tables_made (omega arith));
    held = low arguments_held (omega arith);
    calls = calls_as;
    procedure = low running (omega arith);
    place = low frame (omega arith);
    kept = mark_stack.kept;
    below = mark_stack.below;
    above = λ j l m. low _ (omega arith);
    parts = mark_parts;
    unit = low loop_unit (omega arith);
    waits = λ d j a. call_others d j (omega (arith, c.calls)) (λ e. omega arith);
    bound = λ i l n. rw (low frame (omega arith), low (argument_place (get_or r.words frame 0 + i)) (omega arith)) n;
  }

-- ---- the acts
module _ {program : List ℕ} {ts : List Token} {g : List ℕ} {r : Raw} {s : State} {total : Amounts} (h : Related program ts g r s total) (some : 0 < get_or r.words calls_used 0)
    (k : ℕ) (inside : k < get_or r.words components_made 0) where
  pub own_call : (get_or r.words calls_used 0 - 1) % 64 ≡ get_or r.words calls_used 0 - 1
  own_call = omega (arith, h.sound.counted.calls, h.sound.lent.room.calls)

  pub own_word : get_or r.words (path_place g (get_or r.words calls_used 0 - 1) k) 0 ≡ mark_at g r k
  own_word = sym (mark_here g r.words (get_or r.words calls_used 0 - 1) k inside)

  -- a slot that is not marked
  module _ (free : mark_at g r k < get_or r.words loop_unit 0) (fits : 2 * get_or r.words loop_unit 0 ≤ 2 ^ 64) where
    pub few_more : mark_at g r k + get_or r.words loop_unit 0 ≤ 2 * get_or r.words loop_unit 0 - 1
    few_more = omega arith

    pub mark_is : mark g k r ≡ done tt (remarked h some k inside (mark_at g r k + get_or r.words loop_unit 0) few_more)
    unfolding mark Act.◌>>=◌ Act.go_on Act.held Act.store
    mark_is =
        let q : (mark_at g r k + get_or r.words loop_unit 0) % 2 ^ 64 ≡ mark_at g r k + get_or r.words loop_unit 0 = omega arith in
        rw (own_call, own_word, q)

  -- one that is
  pub few_less : mark_at g r k - get_or r.words loop_unit 0 ≤ 2 * get_or r.words loop_unit 0 - 1
  few_less = omega (arith, h.sound.marks.own k some)

  pub unmark_is : unmark g k r ≡ done tt (remarked h some k inside (mark_at g r k - get_or r.words loop_unit 0) few_less)
  unfolding unmark Act.◌>>=◌ Act.go_on Act.held Act.store
  unmark_is = rw (own_call, own_word)
