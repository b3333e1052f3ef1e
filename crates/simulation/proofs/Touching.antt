-- One word of a shape changes, and the shape stays what it is.
use Prim.Native.Nat.{ℕ, suc, ◌+◌, ◌^◌, ◌≤◌, ◌<◌}
use native.Mathlib.Omega.{arith}
use mathlib.Core.Path.{◌≡◌, refl, sym, ◌∙◌}
use mathlib.Core.Logic.{◌≢◌}
use mathlib.Core.Bool.{Bool, true, false}
use mathlib.Core.List.{List, []}
use lib.ListN.{get_or, set}
use lib.Seq.{get_or-set_same}
use lib.Dec.{eqb}
use borrow.Author.Tests.{eqb-true, eqb-false}
use Rattle.meaning.specs.Token.{Token}
use Rattle.meaning.specs.State.{State, with_shapes}
use Rattle.meaning.specs.State as State
use Rattle.meaning.specs.Book.{Amounts}
use Rattle.machine.specs.Layout.{steps_used, shapes_used, entries_used, text_used, tables_made, declared, arguments_held, calls_used, running, entries_made, components_made, loop_unit, frame}
use Rattle.machine.specs.Layout.{fixed_words, shape_place}
use Rattle.machine.specs.Act.{Raw, raw}
use Rattle.machine.specs.Shapes.{is_group_at}
use Rattle.machine.specs.Show.{figures_in}
use Rattle.machine.specs.Loops.{hollow_at}
use Rattle.simulation.specs.Meant.{content_at, shapes_of}
use Rattle.simulation.specs.Sound.{Shapes}
use Rattle.simulation.specs.Follows.{Stays, Related, Later}
use Rattle.simulation.proofs.Frames.{
  group_stays,
  stays_words,
  SameComponents,
  SameRest,
  rest_components,
  rest_marks,
  untouched_words,
  proper_kept,
  first_later,
  count_later,
  grouped_later,
  content_stays,
  figures_none,
  SameVariables,
  same_words,
  variables_kept,
  variables_same,
  SameWaiting,
  same_waiting,
}
use Rattle.simulation.proofs.Holding.{SameEntries, entries_kept, entries_same}
use Rattle.simulation.proofs.Results.{Untouched, After}
use Rattle.simulation.proofs.Counting.{lent_set, other}

-- the word at p, one of the five of shape i, becomes x
module _ {program : List ℕ} {ts : List Token} {g : List ℕ} {r : Raw} {s : State} {total : Amounts} (h : Related program ts g r s total) (i : ℕ) (l : i < get_or r.words shapes_used 0)
    (p x : ℕ) (from : shape_place i ≤ p) (to : p < shape_place i + 5) where
  abbrev touched : Raw
  touched = raw r.texts (set r.words p x)

  as_was : (j : ℕ) → j ≢ p → get_or touched.words j 0 ≡ get_or r.words j 0
  as_was j n = other h p x j n

  low_was : (j : ℕ) → j < fixed_words → get_or touched.words j 0 ≡ get_or r.words j 0
  low_was j n = as_was j (λ e. omega arith)

  pub now : get_or touched.words p 0 ≡ x
  now = get_or-set_same r.words p x 0 (omega (arith, h.sound.counted.shapes, h.sound.lent.room.words))

  module _ (own : Stays r.words (set r.words p x) i) where
    stays : (k : ℕ) → Stays r.words touched.words k
    stays k = go (eqb k i) refl
      where
        go : (b : Bool) → eqb k i ≡ b → Stays r.words touched.words k
        go true e = rw (eqb-true k i e) own
        go false e = let n : k ≢ i = eqb-false k i e in stays_words r.words touched.words k (λ j m. as_was _ (λ q. n (omega arith)))

    later : Later program r touched
    later = record {
      steps = omega (arith, low_was steps_used (omega arith));
      shapes = omega (arith, low_was shapes_used (omega arith));
      text = omega (arith, low_was text_used (omega arith));
      tables = omega (arith, low_was tables_made (omega arith));
      texts = λ t v. refl;
      figures = λ k m. stays k;
    }

    variables : SameVariables program ts r touched
    variables =
        same_words (low_was declared (omega arith)) (low_was running (omega arith)) (low_was frame (omega arith)) (omega (arith, low_was arguments_held (omega arith)))
        (λ k l. low_was _ (omega arith)) h.sound.variables

    rest : SameRest g r touched
    rest = record {
      parts = low_was components_made (omega arith);
      unit = low_was loop_unit (omega arith);
      calls = low_was calls_used (omega arith);
      high = λ j a. as_was j (λ e. omega (arith, h.sound.counted.shapes));
    }

    parts : SameComponents g r touched
    parts = rest_components rest

    untouched : Untouched program ts g r touched
    untouched =
        untouched_words rest (low_was running (omega arith)) (low_was frame (omega arith)) (λ j a b. low_was j (omega arith)) (λ k l. low_was _ (omega arith)) h.sound.variables

    waiting : SameWaiting program ts r touched
    waiting = same_waiting later untouched h.sound.waiting

    entries : SameEntries later h.sound.shapes
    entries = record {
      count = low_was entries_made (omega arith);
      firsts = λ k a. as_was _ (λ e. omega (arith, h.sound.counted.shapes));
      keys = λ k a. as_was _ (λ e. omega (arith, h.sound.counted.shapes));
      values = λ k a. as_was _ (λ e. omega (arith, h.sound.counted.shapes));
      heads = λ b a. as_was _ (λ e. omega (arith, h.sound.counted.shapes));
    }

    pub content_was : (k : ℕ) → k < get_or r.words shapes_used 0 → content_at program g touched k ≡ content_at program g r k
    content_was k m = content_stays later h.sound.shapes parts k m

    -- its third word is still a word, and marks it as hollow only if it is
    module _ (small : get_or (set r.words p x) (shape_place i + 2) 0 < 2 ^ 64)
        (none : is_group_at r.words i ≡ true → hollow_at (set r.words p x) i ≡ true → figures_in (suc i) g r.words i ≡ []) where
      second_at : (k : ℕ) → k < get_or r.words shapes_used 0 → (b : Bool) → eqb k i ≡ b → get_or touched.words (shape_place k + 2) 0 < 2 ^ 64
      second_at k m true e = rw (eqb-true k i e) small
      second_at k m false e = let n : k ≢ i = eqb-false k i e in rw (as_was (shape_place k + 2) (λ q. n (omega arith))) (h.sound.shapes.second k m)

      none_at : (k : ℕ) → k < get_or r.words shapes_used 0 → is_group_at r.words k ≡ true → hollow_at touched.words k ≡ true → (b : Bool) → eqb k i ≡ b
          → figures_in (suc k) g r.words k ≡ []
      none_at k m n e true q = let z = eqb-true k i q in rw z (none (rw z at n) (rw z at e))
      none_at k m n e false q = let d : k ≢ i = eqb-false k i q in h.sound.shapes.hollow k m n (rw (as_was (shape_place k + 2) (λ q. d (omega arith))) at e)

      shapes : Shapes program g touched.words
      shapes =
          let old = h.sound.shapes in
          let u = low_was shapes_used (omega arith) in
          record {
            proper = λ k m n. proper_kept later old k (rw u at m) (sym (group_stays (stays k)) ∙ n);
            first = λ k m. rw (stays k).slots (old.first k (rw u at m));
            second = λ k m. second_at k (rw u at m) (eqb k i) refl;
            groups = λ k m n. grouped_later later old parts k (rw u at m) (old.groups k (rw u at m) (sym (group_stays (stays k)) ∙ n));
            order = λ j k a m n o.
                let b = rw u at m in
                let d : j < get_or r.words shapes_used 0 = omega arith in
                rw (first_later later old parts j d, count_later later old parts j d, first_later later old parts k b)
                (old.order j k a b (sym (group_stays (stays j)) ∙ n) (sym (group_stays (stays k)) ∙ o));
            hollow = λ k m n e. let b = rw u at m in figures_none later old parts (suc k) k b (none_at k b (sym (group_stays (stays k)) ∙ n) e (eqb k i) refl);
          }

      pub touched_after : (ss : List State.Shape) → ss ≡ shapes_of program g touched → After program ts g r touched (with_shapes s ss) total
      touched_after ss e = let c = h.sound.counted in record {
        related = record {
          sound = record {
            lent = lent_set _ _ h.sound.lent;
            counted = record {
              steps = rw (low_was steps_used (omega arith)) c.steps;
              shapes = rw (low_was shapes_used (omega arith)) c.shapes;
              entries = rw (low_was entries_used (omega arith)) c.entries;
              made = rw (low_was entries_made (omega arith), low_was components_made (omega arith), low_was entries_used (omega arith)) c.made;
              text = rw (low_was text_used (omega arith)) c.text;
              tables = rw (low_was tables_made (omega arith), low_was steps_used (omega arith)) c.tables;
              arguments = rw (low_was arguments_held (omega arith)) c.arguments;
              calls = rw (low_was calls_used (omega arith)) c.calls;
            };
            variables = variables_kept later variables h.sound.variables;
            waiting = waiting.waiting;
            shapes = shapes;
            marks = rest_marks rest h.sound.marks;
            entries = entries_kept later h.sound.shapes parts entries h.sound.entries;
          };
          variables = h.variables ∙ sym (variables_same later variables h.sound.variables);
          suspended = h.suspended ∙ sym waiting.suspended;
          shapes = e;
          tables = h.tables ∙ sym (low_was tables_made (omega arith));
          entries = h.entries ∙ sym (entries_same later h.sound.shapes parts entries h.sound.entries);
          steps_taken = h.steps_taken ∙ sym (low_was steps_used (omega arith));
          shapes_taken = h.shapes_taken ∙ sym (low_was shapes_used (omega arith));
          entries_taken = h.entries_taken ∙ sym (low_was entries_used (omega arith));
          text_taken = h.text_taken ∙ sym (low_was text_used (omega arith));
          calls_taken = h.calls_taken ∙ sym (low_was calls_used (omega arith));
        };
        later = later;
        spare = omega (arith, low_was steps_used (omega arith), low_was tables_made (omega arith));
        held = low_was arguments_held (omega arith);
        untouched = untouched;
      }
