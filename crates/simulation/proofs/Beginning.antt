-- Where nothing was done yet: words of 0 before the stack and where entries stand. Main is the first call, its frame the first on the stack.
use Prim.Native.Nat.{ℕ, zero, suc, ◌+◌, ◌-◌, ◌*◌, ◌≤◌, ◌<◌}
use native.Mathlib.Omega.{arith}
use native.Mathlib.Nat.{le_refl}
use mathlib.Core.Path.{◌≡◌, refl, ap, sym, ◌∙◌}
use mathlib.Core.Logic.{◌≢◌}
use mathlib.Core.List.{List, []}
use lib.ListN.{get_or, set, length, length-set}
use lib.Seq.{get_or-set_same, get_or-set_other}
use Rattle.meaning.specs.Basics.{if◌then◌otherwise◌}
use Rattle.meaning.specs.Token.{Token}
use Rattle.meaning.specs.State.{State, fresh, with_variables}
use Rattle.meaning.specs.Run as Run
use Rattle.meaning.specs.Book.{Amounts, nothing_yet, added, lowered, resource_number, shortage_of}
use Rattle.meaning.specs.Program.{empty}
use Rattle.machine.specs.Layout.{steps_used, shapes_used, entries_used, text_used, tables_made, declared, arguments_held, calls_used, running, entries_made, components_made, loop_unit, frame}
use Rattle.machine.specs.Layout.{calls_granted, path_place, entry_place, component_place, argument_place, fixed_words, first_call, Lent}
use Rattle.machine.specs.Act.{Raw, raw}
use Rattle.machine.specs.Act as Act
use Rattle.machine.specs.Tables.{head_place}
use Rattle.machine.specs.Procedures.{first_word, open_frame}
use Rattle.simulation.specs.Scope.{scope_of}
use Rattle.simulation.specs.Meant.{listed, variables_of, suspended_of, shapes_of, entries_of}
use Rattle.simulation.specs.Index.{last}
use Rattle.simulation.specs.Sound.{size_of, Variables, Waiting, mark_in, Marks}
use Rattle.simulation.specs.Follows.{Grants, Related, Later, Follows}
use Rattle.simulation.proofs.Binding.{Relation}
use Rattle.simulation.proofs.Frames.{mark_none, mark_same, SameVariables, same_words, variables_kept, variables_same}
use Rattle.simulation.proofs.Results.{due, spent_then}
use Rattle.simulation.proofs.Moving.{moved_later, moved_related}
use Rattle.simulation.proofs.Opening.{Opens, opens, opened_framed, opened_variables}

-- main is under way, with parameters that hold none
pub record Called (program : List ℕ) (ts : List Token) (g : List ℕ) (xs : List (List ℕ)) (r : Raw) (total : Amounts) : Type 0 where
  pub related : Related program ts g r (with_variables empty (fresh xs)) total
  pub calls : get_or r.words calls_used 0 ≡ 1
  pub procedure : get_or r.words running 0 ≡ 0
  pub place : get_or r.words frame 0 ≡ 0
  pub held : get_or r.words arguments_held 0 ≡ suc (size_of program ts 0)
  pub unit : get_or r.words loop_unit 0 ≡ 0

-- by its parameters, which are the first of its variables
module _ (program : List ℕ) (ts : List Token) (g texts words : List ℕ) (lent : Lent g texts words)
    (front : (i : ℕ) → i < argument_place 0 → get_or words i 0 ≡ 0) (entries : (i : ℕ) → entry_place g 0 ≤ i → i < component_place g 0 → get_or words i 0 ≡ 0)
    (xs : List (List ℕ)) (brief : size_of program ts 0 < 8192) (few : length xs ≤ size_of program ts 0)
    (same : (k : ℕ) → k < length xs → get_or (scope_of program ts 0) k [] ≡ get_or xs k []) (p : ℕ) where
  abbrev size : ℕ
  size = size_of program ts 0

  room : fixed_words ≤ length words
  room = omega (arith, lent.room.words)

  -- ---- the words once it is counted, and with its frame
  abbrev one : List ℕ
  one = set words calls_used (get_or words calls_used 0 + 1)

  one_long : length one ≡ length words
  one_long = length-set words calls_used (get_or words calls_used 0 + 1)

  opened : Opens texts one 0 (length xs) (suc (size_of program ts 0)) (open_frame 0 (length xs) (suc (size_of program ts 0)) p (raw texts one))
  opened = opens texts one 0 (length xs) (suc size) p (rw one_long room) (omega (arith, brief))

  abbrev now : List ℕ
  now = opened.words

  abbrev begun : Raw
  begun = raw texts opened.words

  counter : (c : ℕ) → c ≢ frame → c ≢ declared → c ≢ arguments_held → c ≢ calls_used → c < first_call → get_or now c 0 ≡ 0
  counter c a b d e l = opened.low c a b d (omega arith) ∙ get_or-set_other words calls_used c (get_or words calls_used 0 + 1) 0 e ∙ front c (omega arith)

  -- those of what is made and stored
  empties : (c : ℕ) → c < declared → get_or now c 0 ≡ 0
  empties c l = counter c (λ e. omega arith) (λ e. omega arith) (λ e. omega arith) (λ e. omega arith) (omega arith)

  parts : (c : ℕ) → running ≤ c → c < frame → get_or now c 0 ≡ 0
  parts c l m = counter c (λ e. omega arith) (λ e. omega arith) (λ e. omega arith) (λ e. omega arith) (omega arith)

  no_calls : get_or words calls_used 0 ≡ 0
  no_calls = front calls_used (omega arith)

  first_call_lem : get_or now calls_used 0 ≡ 1
  first_call_lem =
      opened.low calls_used (λ e. omega arith) (λ e. omega arith) (λ e. omega arith) (omega arith)
      ∙ get_or-set_same words calls_used (get_or words calls_used 0 + 1) 0 (omega (arith, room)) ∙ ap (λ n. n + 1) no_calls

  high : (i : ℕ) → fixed_words ≤ i → get_or now i 0 ≡ get_or words i 0
  high i l = opened.high i l ∙ get_or-set_other words calls_used i (get_or words calls_used 0 + 1) 0 (λ e. omega arith)

  under_way : get_or now running 0 ≡ 0
  under_way = parts running (omega arith) (omega arith)

  no_components : get_or now components_made 0 ≡ 0
  no_components = parts components_made (omega arith) (omega arith)

  no_entries : get_or now entries_made 0 ≡ 0
  no_entries = parts entries_made (omega arith) (omega arith)

  no_shapes : get_or now shapes_used 0 ≡ 0
  no_shapes = empties shapes_used (omega arith)

  shape : {A : Type 0} (k : ℕ) → k < get_or now shapes_used 0 → A
  shape k l = absurd (omega (arith, no_shapes))

  entry : {A : Type 0} (k : ℕ) → k < get_or now entries_made 0 → A
  entry k l = absurd (omega (arith, no_entries))

  waits : {A : Type 0} (d : ℕ) → 0 < d → d < get_or now calls_used 0 → A
  waits d z l = absurd (omega (arith, first_call_lem))

  -- ---- its variables
  word : (j : ℕ) → j ≤ size → get_or now (argument_place (0 + j)) 0 ≡ first_word (length xs) j
  word j l = opened.word j (omega arith)

  own_variables : Variables program ts now
  own_variables = record {
    framed = rw (opened.place, opened.count, under_way) (opened_framed program now 0 (length xs) size few brief word);
    within = rw (opened.place, opened.held, under_way) (le_refl (0 + suc size));
  }

  variables_are : fresh xs ≡ variables_of program ts begun
  variables_are = rw (opened.place, opened.count, under_way) (opened_variables program now 0 (length xs) size few brief word texts (scope_of program ts 0) xs refl same)

  begins : 1 ≤ calls_granted g → Related program ts g begun (with_variables empty (fresh xs)) (added nothing_yet (due Run.calls 1 p))
  unfolding suspended_of shapes_of entries_of listed last if◌then◌otherwise◌ added resource_number
  begins some = record {
    sound = record {
      lent = record {
        room = record {
          steps = lent.room.steps;
          shapes = lent.room.shapes;
          entries = lent.room.entries;
          text = lent.room.text;
          calls = lent.room.calls;
          words = rw (opened.long, one_long) lent.room.words;
        };
        texts = lent.texts;
      };
      counted = record {
        steps = rw (empties steps_used (omega arith)) (omega arith);
        shapes = rw no_shapes (omega arith);
        entries = rw (empties entries_used (omega arith)) (omega arith);
        made = rw (no_entries, no_components, empties entries_used (omega arith)) (omega arith);
        text = rw (empties text_used (omega arith)) (omega arith);
        tables = rw (empties tables_made (omega arith)) (omega arith);
        arguments = rw opened.held (omega (arith, brief));
        calls = rw first_call_lem (omega arith);
      };
      variables = own_variables;
      waiting = record { framed = λ d z l. waits d z l; below = λ d e z a l. waits e (omega arith) l; under = λ d z l. waits d z l };
      shapes = record {
        proper = λ i l. shape i l;
        first = λ i l. shape i l;
        second = λ i l. shape i l;
        groups = λ i l. shape i l;
        order = λ i j x l. shape j l;
        hollow = λ i l. shape i l;
      };
      marks = record {
        idle = λ d k x y. mark_none g now d k (omega (arith, no_components));
        own = λ k x. rw (mark_none g now (get_or now calls_used 0 - 1) k (omega (arith, no_components))) (omega arith);
      };
      entries = record {
        packs = λ k l. entry k l;
        keys = λ k l. entry k l;
        atoms = λ k l. entry k l;
        holds = λ k l. entry k l;
        apart = λ j k a b x y. entry j a;
        index = record {
          few = rw no_entries (omega arith);
          begins = λ b l. rw (high (head_place g b) (omega arith), entries (head_place g b) (omega arith) (omega arith), no_entries);
          links = λ k l. entry k l;
        };
      };
    };
    variables = variables_are;
    suspended = rw first_call_lem;
    shapes = rw no_shapes;
    tables = sym (empties tables_made (omega arith));
    entries = rw no_entries;
    steps_taken = omega (arith, empties steps_used (omega arith));
    shapes_taken = omega (arith, no_shapes);
    entries_taken = omega (arith, empties entries_used (omega arith));
    text_taken = omega (arith, empties text_used (omega arith));
    calls_taken = omega (arith, first_call_lem);
  }

  -- THE LAW: what follows the payment and the frame
  pub opens_main : {granted : Amounts} → Grants g granted → {A B : Type 0} {P : Relation A B} (k : Act.Act A) (k' : Run.Action B)
      → ((r : Raw) (total : Amounts) → Called program ts g xs r total → Follows granted total P (k r) (k' empty))
      → Follows granted nothing_yet P (Act.◌>>◌ (Act.spend calls_used (calls_granted g) 1 81 p) (Act.◌>>◌ (open_frame 0 (length xs) (suc (size_of program ts 0)) p) k) (raw texts words))
      (Run.◌>>◌ (Run.spend Run.calls 1 p) k' empty)
  unfolding shortage_of Act.◌>>=◌ Act.go_on
  opens_main gr k k' f =
      spent_then Run.calls calls_used (calls_granted g) 1 81 p (raw texts words) empty (sym no_calls) gr.calls refl (front steps_used (omega arith))
      (Act.◌>>◌ (open_frame 0 (length xs) (suc size) p) k) k' (λ fit. rw opened.is (f begun (added nothing_yet (due Run.calls 1 p)) (record {
        related = begins (omega (arith, no_calls));
        calls = first_call_lem;
        procedure = under_way;
        place = opened.place;
        held = omega (arith, opened.held);
        unit = parts loop_unit (omega arith) (omega arith);
      })))

-- ---- and is given back
module _ {program : List ℕ} {ts : List Token} {g : List ℕ} {r : Raw} {s : State} {total : Amounts} (h : Related program ts g r s total)
    (one : get_or r.words calls_used 0 ≡ 1) (idle : get_or r.words loop_unit 0 ≡ 0) where
  abbrev left : List ℕ
  left = set r.words calls_used 0

  as_was : (i : ℕ) → i ≢ calls_used → get_or left i 0 ≡ get_or r.words i 0
  as_was i d = get_or-set_other r.words calls_used i 0 0 d

  none_called : get_or left calls_used 0 ≡ 0
  none_called = get_or-set_same r.words calls_used 0 0 (omega (arith, h.sound.lent.room.words))

  left_later : Later program r (raw r.texts left)
  left_later = moved_later h left (λ j l. as_was j (λ e. omega arith)) (λ j x y. as_was j (λ e. omega arith)) (λ j l. as_was j (λ e. omega arith))

  left_variables : SameVariables program ts r (raw r.texts left)
  left_variables = same_words (as_was declared (λ e. omega arith)) (as_was running (λ e. omega arith)) (as_was frame (λ e. omega arith))
      (omega (arith, as_was arguments_held (λ e. omega arith))) (λ k l. as_was (argument_place k) (λ e. omega arith)) h.sound.variables

  none_waits : suspended_of program ts r ≡ []
  unfolding suspended_of listed
  none_waits = rw one

  none_left : suspended_of program ts (raw r.texts left) ≡ []
  unfolding suspended_of listed
  none_left = rw none_called

  none_waiting : Waiting program ts left
  none_waiting = record {
    framed = λ d z l. absurd (omega (arith, none_called));
    below = λ d e z a l. absurd (omega (arith, none_called));
    under = λ d z l. absurd (omega (arith, none_called));
  }

  left_marks : Marks g left
  left_marks = record {
    idle = λ d k x y. mark_same g r.words d k left (as_was components_made (λ e. omega arith)) (as_was (path_place g d k) (λ e. omega arith)) ∙ gone d k y;
    own = λ k x. absurd (omega (arith, none_called));
  }
    where
      gone : (d k : ℕ) → d < calls_granted g → mark_in g r.words d k ≡ 0
      gone zero k y =
          let q : get_or r.words calls_used 0 - 1 ≡ 0 = omega (arith, one) in
          let m : mark_in g r.words 0 k ≤ 2 * get_or r.words loop_unit 0 - 1 = rw q at (h.sound.marks.own k (omega (arith, one))) in
          omega (arith, idle)
      gone (suc d) k y = h.sound.marks.idle (suc d) k (omega (arith, one)) y

  pub returns_main : Related program ts g (raw r.texts (set r.words calls_used 0)) s (lowered total)
  unfolding lowered resource_number
  returns_main =
      moved_related h left (λ j l. as_was j (λ e. omega arith)) (λ j x y. as_was j (λ e. omega arith)) (λ j l. as_was j (λ e. omega arith)) (length-set r.words calls_used 0)
      (rw (as_was arguments_held (λ e. omega arith)) h.sound.counted.arguments) (omega (arith, none_called))
      (variables_kept left_later left_variables h.sound.variables) (h.variables ∙ sym (variables_same left_later left_variables h.sound.variables))
      none_waiting left_marks (h.suspended ∙ none_waits ∙ sym none_left)
      (omega arith) (omega arith) (omega arith) (omega arith) (omega (arith, h.calls_taken, one, none_called))
