-- Nothing but entries has changed.
use Prim.Native.Nat.{ℕ, ◌+◌, ◌*◌, ◌≤◌, ◌<◌}
use native.Mathlib.Omega.{arith}
use mathlib.Core.Path.{◌≡◌, refl, sym, ◌∙◌}
use mathlib.Core.Logic.{◌≢◌}
use mathlib.Core.List.{List}
use lib.ListN.{get_or, length}
use Rattle.meaning.specs.Token.{Token}
use Rattle.meaning.specs.State.{State, Entry, with_entries}
use Rattle.meaning.specs.Run as Run
use Rattle.meaning.specs.Book.{Amounts}
use Rattle.machine.specs.Words.{unpacked}
use Rattle.machine.specs.Layout.{
  steps_used,
  shapes_used,
  entries_used,
  text_used,
  tables_made,
  declared,
  arguments_held,
  calls_used,
  running,
  entries_made,
  components_made,
  loop_unit,
  shapes_granted,
  entries_granted,
  fixed_words,
  component_place,
  frame,
  first_argument,
}
use Rattle.machine.specs.Act.{Raw, raw}
use Rattle.simulation.specs.Meant.{meant_key, entries_of}
use Rattle.simulation.specs.Sound.{Valid, Entries}
use Rattle.simulation.specs.Follows.{Related, Later}
use Rattle.simulation.proofs.Frames.{
  stays_words,
  SameComponents,
  SameRest,
  rest_components,
  rest_marks,
  untouched_words,
  SameVariables,
  same_words,
  variables_kept,
  variables_same,
  SameWaiting,
  same_waiting,
  SameShapes,
  shapes_kept,
  shapes_same,
}
use Rattle.simulation.proofs.Holding.{key_later}
use Rattle.simulation.proofs.Results.{Untouched, After}

module _ {program : List ℕ} {ts : List Token} {g : List ℕ} {r : Raw} {s : State} {total : Amounts} (h : Related program ts g r s total) (ws' : List ℕ)
    (low : (j : ℕ) → j ≢ entries_used → j ≢ entries_made → j < fixed_words + 5 * shapes_granted g → get_or ws' j 0 ≡ get_or r.words j 0)
    (high : (j : ℕ) → component_place g 0 ≤ j → get_or ws' j 0 ≡ get_or r.words j 0) where
  counter : (j : ℕ) → j ≢ entries_used → j ≢ entries_made → j < first_argument → get_or ws' j 0 ≡ get_or r.words j 0
  counter j n m l = low j n m (omega arith)

  pub stored_later : Later program r (raw r.texts ws')
  stored_later = record {
    steps = omega (arith, counter steps_used (λ e. omega arith) (λ e. omega arith) (omega arith));
    shapes = omega (arith, counter shapes_used (λ e. omega arith) (λ e. omega arith) (omega arith));
    text = omega (arith, counter text_used (λ e. omega arith) (λ e. omega arith) (omega arith));
    tables = omega (arith, counter tables_made (λ e. omega arith) (λ e. omega arith) (omega arith));
    texts = λ t v. refl;
    figures = λ i l. stays_words r.words ws' i (λ j k. low _ (λ e. omega arith) (λ e. omega arith) (omega (arith, h.sound.counted.shapes)));
  }

  stored_variables : SameVariables program ts r (raw r.texts ws')
  stored_variables =
      same_words (counter declared (λ e. omega arith) (λ e. omega arith) (omega arith)) (counter running (λ e. omega arith) (λ e. omega arith) (omega arith))
      (counter frame (λ e. omega arith) (λ e. omega arith) (omega arith)) (omega (arith, counter arguments_held (λ e. omega arith) (λ e. omega arith) (omega arith)))
      (λ k l. low _ (λ e. omega arith) (λ e. omega arith) (omega arith)) h.sound.variables

  stored_rest : SameRest g r (raw r.texts ws')
  stored_rest = record {
    parts = counter components_made (λ e. omega arith) (λ e. omega arith) (omega arith);
    unit = counter loop_unit (λ e. omega arith) (λ e. omega arith) (omega arith);
    calls = counter calls_used (λ e. omega arith) (λ e. omega arith) (omega arith);
    high = high;
  }

  pub stored_components : SameComponents g r (raw r.texts ws')
  stored_components = rest_components stored_rest

  stored_untouched : Untouched program ts g r (raw r.texts ws')
  stored_untouched =
      untouched_words stored_rest (counter running (λ e. omega arith) (λ e. omega arith) (omega arith)) (counter frame (λ e. omega arith) (λ e. omega arith) (omega arith))
      (λ i a b. low i (λ e. omega arith) (λ e. omega arith) (omega arith)) (λ k l. low _ (λ e. omega arith) (λ e. omega arith) (omega arith)) h.sound.variables

  stored_waiting : SameWaiting program ts r (raw r.texts ws')
  stored_waiting = same_waiting stored_later stored_untouched h.sound.waiting

  stored_shapes : SameShapes stored_later
  stored_shapes = record {
    count = counter shapes_used (λ e. omega arith) (λ e. omega arith) (omega arith);
    words = λ i j a b. low _ (λ e. omega arith) (λ e. omega arith) (omega (arith, h.sound.counted.shapes));
  }

  pub stored : (es : List Entry) (total' : Amounts) → length ws' ≡ length r.words → get_or ws' entries_used 0 ≤ entries_granted g
      → get_or ws' entries_made 0 + get_or ws' components_made 0 ≡ get_or ws' entries_used 0 → Entries program g (raw r.texts ws')
      → es ≡ entries_of program g (raw r.texts ws')
      → total' Run.steps ≡ total Run.steps → total' Run.shapes ≡ total Run.shapes → total' Run.entries ≡ get_or ws' entries_used 0 → total' Run.text_bytes ≡ total Run.text_bytes
      → total' Run.calls ≡ total Run.calls
      → After program ts g r (raw r.texts ws') (with_entries s es) total'
  stored es total' long fit made en e a b c d f = let n = h.sound.counted in let l = h.sound.lent in record {
    related = record {
      sound = record {
        lent = record {
          room = record { steps = l.room.steps; shapes = l.room.shapes; entries = l.room.entries; text = l.room.text; calls = l.room.calls; words = rw long l.room.words };
          texts = l.texts;
        };
        counted = record {
          steps = rw (counter steps_used (λ e. omega arith) (λ e. omega arith) (omega arith)) n.steps;
          shapes = rw (counter shapes_used (λ e. omega arith) (λ e. omega arith) (omega arith)) n.shapes;
          entries = fit;
          made = made;
          text = rw (counter text_used (λ e. omega arith) (λ e. omega arith) (omega arith)) n.text;
          tables = rw (counter tables_made (λ e. omega arith) (λ e. omega arith) (omega arith), counter steps_used (λ e. omega arith) (λ e. omega arith) (omega arith)) n.tables;
          arguments = rw (counter arguments_held (λ e. omega arith) (λ e. omega arith) (omega arith)) n.arguments;
          calls = rw (counter calls_used (λ e. omega arith) (λ e. omega arith) (omega arith)) n.calls;
        };
        variables = variables_kept stored_later stored_variables h.sound.variables;
        waiting = stored_waiting.waiting;
        shapes = shapes_kept stored_later stored_components stored_shapes h.sound.shapes;
        marks = rest_marks stored_rest h.sound.marks;
        entries = en;
      };
      variables = h.variables ∙ sym (variables_same stored_later stored_variables h.sound.variables);
      suspended = h.suspended ∙ sym stored_waiting.suspended;
      shapes = h.shapes ∙ sym (shapes_same stored_later stored_components stored_shapes h.sound.shapes);
      tables = h.tables ∙ sym (counter tables_made (λ e. omega arith) (λ e. omega arith) (omega arith));
      entries = e;
      steps_taken = a ∙ h.steps_taken ∙ sym (counter steps_used (λ e. omega arith) (λ e. omega arith) (omega arith));
      shapes_taken = b ∙ h.shapes_taken ∙ sym (counter shapes_used (λ e. omega arith) (λ e. omega arith) (omega arith));
      entries_taken = c;
      text_taken = d ∙ h.text_taken ∙ sym (counter text_used (λ e. omega arith) (λ e. omega arith) (omega arith));
      calls_taken = f ∙ h.calls_taken ∙ sym (counter calls_used (λ e. omega arith) (λ e. omega arith) (omega arith));
    };
    later = stored_later;
    spare = omega (arith, counter steps_used (λ e. omega arith) (λ e. omega arith) (omega arith), counter tables_made (λ e. omega arith) (λ e. omega arith) (omega arith));
    held = counter arguments_held (λ e. omega arith) (λ e. omega arith) (omega arith);
    untouched = stored_untouched;
  }

  -- what an entry is called and holds, by its words
  pub key_stays : (w : ℕ) → Valid program r.words (unpacked w) → meant_key program g (raw r.texts ws') w ≡ meant_key program g r w
  key_stays w l = key_later stored_later h.sound.shapes stored_components (unpacked w) l
