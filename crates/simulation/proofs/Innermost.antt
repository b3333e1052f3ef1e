-- The unit of the innermost loop changes, and is as before when the loop has ended: nothing else does.
use Prim.Native.Nat.{ℕ, ◌+◌, ◌-◌, ◌*◌, ◌≤◌, ◌<◌}
use native.Mathlib.Omega.{arith}
use mathlib.Core.Path.{◌≡◌, refl, sym, ◌∙◌}
use mathlib.Core.Logic.{◌≢◌}
use mathlib.Core.List.{List}
use lib.ListN.{get_or, set}
use Rattle.meaning.specs.Token.{Token}
use Rattle.meaning.specs.State.{State}
use Rattle.meaning.specs.Book.{Amounts}
use Rattle.machine.specs.Layout.{
  steps_used,
  shapes_used,
  entries_used,
  text_used,
  tables_made,
  declared,
  arguments_held,
  calls_used,
  running,
  entries_made,
  components_made,
  loop_unit,
  frame,
  argument_place,
}
use Rattle.machine.specs.Act.{Raw, raw}
use Rattle.simulation.specs.Sound.{Counted, mark_in, Marks}
use Rattle.simulation.specs.Follows.{Related, Later}
use Rattle.simulation.proofs.Frames.{mark_same, stays_words, later_trans, SameComponents, same_words, waits_same}
use Rattle.simulation.proofs.Results.{After, kept_marks}
use Rattle.simulation.proofs.Counting.{lent_set, here, other}
use Rattle.simulation.proofs.Marking.{mark_at}

-- ---- another unit, with which the marks fit
module _ {program : List ℕ} {ts : List Token} {g : List ℕ} {r : Raw} {s : State} {total : Amounts} (h : Related program ts g r s total) (x : ℕ)
    (fits : (k : ℕ) → 0 < get_or r.words calls_used 0 → mark_at g r k ≤ 2 * x - 1) where
  abbrev pub switched : Raw
  switched = raw r.texts (set r.words loop_unit x)

  pub as_was : (j : ℕ) → j ≢ loop_unit → get_or switched.words j 0 ≡ get_or r.words j 0
  as_was j n = other h loop_unit x j n

  pub unit_now : get_or switched.words loop_unit 0 ≡ x
  unit_now = here h loop_unit x (omega arith)

  counter : (j : ℕ) → j < loop_unit → get_or switched.words j 0 ≡ get_or r.words j 0
  counter j l = as_was j (λ e. omega arith)

  beyond : (j : ℕ) → loop_unit < j → get_or switched.words j 0 ≡ get_or r.words j 0
  beyond j l = as_was j (λ e. omega arith)

  pub switch_later : Later program r switched
  switch_later = record {
    steps = omega (arith, counter steps_used (omega arith));
    shapes = omega (arith, counter shapes_used (omega arith));
    text = omega (arith, counter text_used (omega arith));
    tables = omega (arith, counter tables_made (omega arith));
    texts = λ t v. refl;
    figures = λ i l. stays_words r.words switched.words i (λ j m. beyond _ (omega arith));
  }

  pub switch_parts : SameComponents g r switched
  switch_parts = record { made = omega (arith, counter components_made (omega arith)); words = λ j l. beyond _ (omega arith) }

  switch_counted : Counted g switched.words
  switch_counted = let c = h.sound.counted in record {
    steps = rw (counter steps_used (omega arith)) c.steps;
    shapes = rw (counter shapes_used (omega arith)) c.shapes;
    entries = rw (counter entries_used (omega arith)) c.entries;
    made = rw (counter entries_made (omega arith), counter components_made (omega arith), counter entries_used (omega arith)) c.made;
    text = rw (counter text_used (omega arith)) c.text;
    tables = rw (counter tables_made (omega arith), counter steps_used (omega arith)) c.tables;
    arguments = rw (counter arguments_held (omega arith)) c.arguments;
    calls = rw (counter calls_used (omega arith)) c.calls;
  }

  same_mark : (d k : ℕ) → mark_in g switched.words d k ≡ mark_in g r.words d k
  same_mark d k = mark_same g r.words d k switched.words (counter components_made (omega arith)) (beyond _ (omega arith))

  switch_marks : Marks g switched.words
  switch_marks = let n = counter calls_used (omega arith) in record {
    idle = λ d k a b. same_mark d k ∙ h.sound.marks.idle d k (rw n at a) b;
    own = λ k a. rw (n, unit_now, same_mark (get_or r.words calls_used 0 - 1) k) (fits k (rw n at a));
  }

  pub switch_related : Related program ts g switched s total
  switch_related =
      kept_marks h switch_later (lent_set loop_unit x h.sound.lent) switch_counted switch_parts switch_marks
      (same_words (counter declared (omega arith)) (counter running (omega arith)) (beyond frame (omega arith)) (omega (arith, counter arguments_held (omega arith)))
      (λ k l. beyond (argument_place k) (omega arith)) h.sound.variables)
      (waits_same switch_later (record { kept = λ d j z l m. beyond _ (omega arith); below = λ k l. beyond (argument_place k) (omega arith) })
      h.sound.waiting (counter calls_used (omega arith)) (omega (arith, beyond frame (omega arith))))
      (record { count = counter shapes_used (omega arith); words = λ i j a b. beyond _ (omega arith) })
      (record {
        count = counter entries_made (omega arith);
        firsts = λ k a. beyond _ (omega arith);
        keys = λ k a. beyond _ (omega arith);
        values = λ k a. beyond _ (omega arith);
        heads = λ b a. beyond _ (omega arith);
      })
      refl refl refl (h.tables ∙ sym (counter tables_made (omega arith))) refl
      (h.steps_taken ∙ sym (counter steps_used (omega arith))) (h.shapes_taken ∙ sym (counter shapes_used (omega arith)))
      (h.entries_taken ∙ sym (counter entries_used (omega arith))) (h.text_taken ∙ sym (counter text_used (omega arith))) (h.calls_taken ∙ sym (counter calls_used (omega arith)))

  pub mark_was : (k : ℕ) → mark_at g switched k ≡ mark_at g r k
  mark_was k = rw (counter calls_used (omega arith)) (same_mark (get_or r.words calls_used 0 - 1) k)

-- ---- what a loop left, with the unit that was before it
module _ {program : List ℕ} {ts : List Token} {g : List ℕ} {r : Raw} {s : State} {total : Amounts} (h : Related program ts g r s total) (x : ℕ)
    (fits : (k : ℕ) → 0 < get_or r.words calls_used 0 → mark_at g r k ≤ 2 * x - 1)
    {r' : Raw} {s' : State} {total' : Amounts} (a : After program ts g (raw r.texts (set r.words loop_unit x)) r' s' total') where
  calls_same : get_or r'.words calls_used 0 ≡ get_or r.words calls_used 0
  calls_same = a.untouched.calls ∙ as_was h x fits calls_used (λ e. omega arith)

  marks_same : (d k : ℕ) → d < get_or r.words calls_used 0 → mark_in g r'.words d k ≡ mark_in g r.words d k
  marks_same d k l = a.untouched.marks d k (rw (as_was h x fits calls_used (λ e. omega arith)) l) ∙ same_mark h x fits d k

  pub back_fits : (k : ℕ) → 0 < get_or r'.words calls_used 0 → mark_at g r' k ≤ 2 * get_or r.words loop_unit 0 - 1
  back_fits k l =
      let n = rw calls_same at l in
      rw (calls_same, marks_same (get_or r.words calls_used 0 - 1) k (omega arith)) (h.sound.marks.own k n)

  pub switched_back : After program ts g r (raw r'.texts (set r'.words loop_unit (get_or r.words loop_unit 0))) s' total'
  switched_back =
      let u = get_or r.words loop_unit 0 in
      let in-was = as_was h x fits in
      let out-was = as_was a.related u back_fits in record {
        related = switch_related a.related u back_fits;
        later = later_trans (switch_later h x fits) (later_trans a.later (switch_later a.related u back_fits));
        spare = omega (
          arith,
          a.spare,
          in-was steps_used (λ e. omega arith),
          in-was tables_made (λ e. omega arith),
          out-was steps_used (λ e. omega arith),
          out-was tables_made (λ e. omega arith),
        );
        held = out-was arguments_held (λ e. omega arith) ∙ a.held ∙ in-was arguments_held (λ e. omega arith);
        untouched = record {
          calls = out-was calls_used (λ e. omega arith) ∙ calls_same;
          kept = λ d j z l m. out-was _ (λ e. omega arith)
              ∙ a.untouched.kept d j z (rw (in-was calls_used (λ e. omega arith)) l) m ∙ in-was _ (λ e. omega arith);
          below = λ k l. out-was (argument_place k) (λ e. omega arith)
              ∙ a.untouched.below k (rw (in-was frame (λ e. omega arith)) l) ∙ in-was (argument_place k) (λ e. omega arith);
          above = λ k l m. out-was (argument_place k) (λ e. omega arith)
              ∙ a.untouched.above k (rw (in-was frame (λ e. omega arith), in-was running (λ e. omega arith)) l) (rw (in-was arguments_held (λ e. omega arith)) m)
              ∙ in-was (argument_place k) (λ e. omega arith);
          made = omega (arith, a.untouched.made, in-was components_made (λ e. omega arith), out-was components_made (λ e. omega arith));
          components = λ k l. out-was _ (λ e. omega arith) ∙ a.untouched.components k (rw (in-was components_made (λ e. omega arith)) l) ∙ in-was _ (λ e. omega arith);
          unit = unit_now a.related u back_fits;
          marks = λ d k l. same_mark a.related u back_fits d k ∙ marks_same d k l;
          bound = λ i l n.
              let f = get_or r.words frame 0 in
              let f' = get_or r'.words frame 0 in
              rw (out-was frame (λ e. omega arith), out-was (argument_place (f' + i)) (λ e. omega arith))
              (a.untouched.bound i (rw (in-was running (λ e. omega arith)) l) (rw (in-was frame (λ e. omega arith), in-was (argument_place (f + i)) (λ e. omega arith)) n));
          running = out-was running (λ e. omega arith) ∙ a.untouched.running ∙ in-was running (λ e. omega arith);
          frame = out-was frame (λ e. omega arith) ∙ a.untouched.frame ∙ in-was frame (λ e. omega arith);
        };
      }
