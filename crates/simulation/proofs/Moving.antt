-- Nothing but variables, calls under way and the stack has changed.
use Prim.Native.Nat.{ℕ, ◌≤◌, ◌<◌}
use native.Mathlib.Omega.{arith}
use mathlib.Core.Path.{◌≡◌, refl, sym, ◌∙◌}
use mathlib.Core.List.{List}
use lib.ListN.{get_or, length}
use Rattle.meaning.specs.Token.{Token}
use Rattle.meaning.specs.State.{State, Variable}
use Rattle.meaning.specs.Run as Run
use Rattle.meaning.specs.Book.{Amounts}
use Rattle.machine.specs.Layout.{
  steps_used,
  shapes_used,
  entries_used,
  text_used,
  tables_made,
  declared,
  arguments_held,
  calls_used,
  entries_made,
  components_made,
  loop_unit,
  calls_granted,
  stack_words,
  fixed_words,
}
use Rattle.machine.specs.Act.{Raw, raw}
use Rattle.simulation.specs.Meant.{variables_of, suspended_of}
use Rattle.simulation.specs.Sound.{Variables, Waiting, Marks}
use Rattle.simulation.specs.Follows.{Related, Later}
use Rattle.simulation.proofs.Frames.{stays_words, SameComponents, SameShapes, shapes_kept, shapes_same}
use Rattle.simulation.proofs.Holding.{SameEntries, entries_kept, entries_same}

module _ {program : List ℕ} {ts : List Token} {g : List ℕ} {r : Raw} {s : State} {total : Amounts} (h : Related program ts g r s total) (ws' : List ℕ)
    (low : (j : ℕ) → j < declared → get_or ws' j 0 ≡ get_or r.words j 0)
    (parts : (j : ℕ) → entries_made ≤ j → j < loop_unit → get_or ws' j 0 ≡ get_or r.words j 0) (high : (j : ℕ) → fixed_words ≤ j → get_or ws' j 0 ≡ get_or r.words j 0) where
  pub moved_later : Later program r (raw r.texts ws')
  moved_later = record {
    steps = omega (arith, low steps_used (omega arith));
    shapes = omega (arith, low shapes_used (omega arith));
    text = omega (arith, low text_used (omega arith));
    tables = omega (arith, low tables_made (omega arith));
    texts = λ t v. refl;
    figures = λ i l. stays_words r.words ws' i (λ j k. high _ (omega arith));
  }

  pub moved_components : SameComponents g r (raw r.texts ws')
  moved_components = record { made = omega (arith, parts components_made (omega arith) (omega arith)); words = λ k l. high _ (omega arith) }

  moved_shapes : SameShapes moved_later
  moved_shapes = record { count = low shapes_used (omega arith); words = λ i j a b. high _ (omega arith) }

  moved_entries : SameEntries moved_later h.sound.shapes
  moved_entries = record {
    count = parts entries_made (omega arith) (omega arith);
    firsts = λ k a. high _ (omega arith);
    keys = λ k a. high _ (omega arith);
    values = λ k a. high _ (omega arith);
    heads = λ b a. high _ (omega arith);
  }

  pub moved_related : {vs : List Variable} {sus : List (List Variable)} {total' : Amounts} → length ws' ≡ length r.words
      → get_or ws' arguments_held 0 ≤ stack_words → get_or ws' calls_used 0 ≤ calls_granted g
      → Variables program ts ws' → vs ≡ variables_of program ts (raw r.texts ws') → Waiting program ts ws' → Marks g ws' → sus ≡ suspended_of program ts (raw r.texts ws')
      → total' Run.steps ≡ total Run.steps → total' Run.shapes ≡ total Run.shapes → total' Run.entries ≡ total Run.entries → total' Run.text_bytes ≡ total Run.text_bytes
      → total' Run.calls ≡ get_or ws' calls_used 0
      → Related program ts g (raw r.texts ws') (record { variables = vs; suspended = sus; shapes = s.shapes; tables = s.tables; entries = s.entries }) total'
  moved_related long held calls v e w m f a b c d k = let n = h.sound.counted in let l = h.sound.lent in record {
    sound = record {
      lent = record {
        room = record { steps = l.room.steps; shapes = l.room.shapes; entries = l.room.entries; text = l.room.text; calls = l.room.calls; words = rw long l.room.words };
        texts = l.texts;
      };
      counted = record {
        steps = rw (low steps_used (omega arith)) n.steps;
        shapes = rw (low shapes_used (omega arith)) n.shapes;
        entries = rw (low entries_used (omega arith)) n.entries;
        made = rw (parts entries_made (omega arith) (omega arith), parts components_made (omega arith) (omega arith), low entries_used (omega arith)) n.made;
        text = rw (low text_used (omega arith)) n.text;
        tables = rw (low tables_made (omega arith), low steps_used (omega arith)) n.tables;
        arguments = held;
        calls = calls;
      };
      variables = v;
      waiting = w;
      shapes = shapes_kept moved_later moved_components moved_shapes h.sound.shapes;
      marks = m;
      entries = entries_kept moved_later h.sound.shapes moved_components moved_entries h.sound.entries;
    };
    variables = e;
    suspended = f;
    shapes = h.shapes ∙ sym (shapes_same moved_later moved_components moved_shapes h.sound.shapes);
    tables = h.tables ∙ sym (low tables_made (omega arith));
    entries = h.entries ∙ sym (entries_same moved_later h.sound.shapes moved_components moved_entries h.sound.entries);
    steps_taken = a ∙ h.steps_taken ∙ sym (low steps_used (omega arith));
    shapes_taken = b ∙ h.shapes_taken ∙ sym (low shapes_used (omega arith));
    entries_taken = c ∙ h.entries_taken ∙ sym (low entries_used (omega arith));
    text_taken = d ∙ h.text_taken ∙ sym (low text_used (omega arith));
    calls_taken = k;
  }
