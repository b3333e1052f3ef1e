-- Texts: what a handle stands for, and two texts joined.
use Prim.Native.Nat.{ℕ, ◌+◌, ◌*◌, ◌/◌, ◌≤◌, ◌<◌}
use native.Mathlib.Omega.{arith}
use mathlib.Core.Path.{◌≡◌, refl, ap, ap₂, sym, ◌∙◌}
use mathlib.Core.Logic.{◌≢◌}
use mathlib.Core.Bool.{Bool, true, false, cond}
use mathlib.Core.List.{List, ◌++◌}
use lib.ListN.{get_or, set, length, take, length-append}
use lib.Dec.{eqb}
use Rattle.meaning.specs.Basics.{if◌then◌otherwise◌}
use Rattle.meaning.specs.Token.{Token}
use Rattle.meaning.specs.Value as Value
use Rattle.meaning.specs.State.{State}
use Rattle.meaning.specs.Run as Run
use Rattle.meaning.specs.Book.{Amounts, added, resource_number, shortage_of}
use Rattle.meaning.specs.Operator as Operator
use Rattle.machine.specs.declared.Value.TheVariants.{Text}
use Rattle.machine.specs.Act.{Raw, raw}
use Rattle.machine.specs.Act as Act
use Rattle.machine.specs.Texts.{handle, origin_in, start_in, size_in, part, text_of, laid_at, joined, put_joined, join_texts}
use Rattle.machine.specs.Layout.{steps_used, shapes_used, entries_used, text_used, tables_made, declared, arguments_held, calls_used, running, entries_made, components_made, loop_unit, frame}
use Rattle.machine.specs.Layout.{text_granted}
use Rattle.texts.proofs.Layer.{length_laid, kept_laid, part_laid, part_take, length_part}
use Rattle.simulation.specs.Meant.{meant_value}
use Rattle.simulation.specs.Sound.{Held, Valid}
use Rattle.simulation.specs.Follows.{Grants, Related, Later, Follows}
use Rattle.simulation.proofs.Frames.{stays_words, SameRest, untouched_words, same_words, same_waiting}
use Rattle.simulation.proofs.Results.{due, given, Untouched, AfterValue, Values, steps_told, kept_related, spent_then}
use Rattle.simulation.proofs.Counting.{lent_set, other, here}

-- ---- a handle that is held
module _ {program : List ℕ} {used h : ℕ} (v : Held program used h) where
  -- as long as it says, where the used part of the store is there
  pub text_long : (texts : List ℕ) → used ≤ length texts → length (text_of program texts h) ≡ size_in h
  unfolding text_of if◌then◌otherwise◌
  text_long texts l = go (eqb (origin_in h) 0) v.inside
    where
      go : (b : Bool) → start_in h + size_in h ≤ cond b (length program) used
          → length (if b then (λ _. part (start_in h) (size_in h) program) otherwise λ _. part (start_in h) (size_in h) texts) ≡ size_in h
      go true e = length_part program (start_in h) (size_in h) (omega arith)
      go false e = length_part texts (start_in h) (size_in h) (omega arith)

  -- the used part of the store is enough
  pub text_used_lem : (texts : List ℕ) → text_of program (take used texts) h ≡ text_of program texts h
  unfolding text_of if◌then◌otherwise◌
  text_used_lem texts = go (eqb (origin_in h) 0) v.inside
    where
      go : (b : Bool) → start_in h + size_in h ≤ cond b (length program) used
          → (if b then (λ _. part (start_in h) (size_in h) program) otherwise λ _. part (start_in h) (size_in h) (take used texts))
          ≡ (if b then (λ _. part (start_in h) (size_in h) program) otherwise λ _. part (start_in h) (size_in h) texts)
      go true e = refl
      go false e = part_take used (start_in h) (size_in h) texts e

  -- so what changes behind it does not matter
  pub text_kept : (texts texts' : List ℕ) → take used texts' ≡ take used texts → text_of program texts' h ≡ text_of program texts h
  text_kept texts texts' e = sym (text_used_lem texts') ∙ ap (λ (d : List ℕ). text_of program d h) e ∙ text_used_lem texts

-- ---- a new handle
module _ (used n : ℕ) (l : used + n < 65536) where
  origin_new : origin_in (handle 1 used n) ≡ 1
  origin_new = omega arith

  start_new : start_in (handle 1 used n) ≡ used
  start_new = let q : handle 1 used n / 2 ≡ used + 65536 * n = omega arith in rw q (omega arith)

  size_new : size_in (handle 1 used n) ≡ n
  size_new = let q : handle 1 used n / 131072 ≡ n = omega arith in rw q (omega arith)

  held_new : (program : List ℕ) → Held program (used + n) (handle 1 used n)
  held_new program = record { small = omega arith; inside = rw (origin_new, start_new, size_new) (omega arith) }

  text_new : (program texts : List ℕ) → text_of program texts (handle 1 used n) ≡ part used n texts
  unfolding text_of if◌then◌otherwise◌
  text_new program texts = rw (origin_new, start_new, size_new)

-- ---- two texts joined
module _ {program : List ℕ} {ts : List Token} {g : List ℕ} where
  module _ {r : Raw} {s : State} {total : Amounts} (h : Related program ts g r s total) (a b : ℕ)
      (va : Held program (get_or r.words text_used 0) a) (vb : Held program (get_or r.words text_used 0) b)
      (fit : get_or r.words text_used 0 + (size_in a + size_in b) ≤ text_granted g) where
    abbrev used : ℕ
    used = get_or r.words text_used 0

    abbrev size : ℕ
    size = size_in a + size_in b

    abbrev both : List ℕ
    both = text_of program r.texts a ++ text_of program r.texts b

    abbrev grown : Raw
    grown = raw (laid_at r.texts (get_or r.words text_used 0) (joined program r.texts (get_or r.words text_used 0) a b))
        (set r.words text_used (get_or r.words text_used 0 + (size_in a + size_in b)))

    room : used + size ≤ length r.texts
    room = omega (arith, fit, h.sound.lent.texts)

    short : used + size < 65536
    short = omega (arith, fit, h.sound.lent.room.text)

    both_long : length both ≡ size
    both_long = length-append (text_of program r.texts a) (text_of program r.texts b)
        ∙ ap₂ ◌+◌ (text_long va r.texts (omega (arith, room))) (text_long vb r.texts (omega (arith, room)))

    joined_is : joined program r.texts used a b ≡ both
    joined_is = ap₂ ◌++◌ (text_used_lem va r.texts) (text_used_lem vb r.texts)

    texts_are : grown.texts ≡ laid_at r.texts used both
    texts_are = ap (laid_at r.texts used) joined_is

    as_was : (j : ℕ) → j ≢ text_used → get_or grown.words j 0 ≡ get_or r.words j 0
    as_was j n = other h text_used (used + size) j n

    used_now : get_or grown.words text_used 0 ≡ used + size
    used_now = here h text_used (used + size) (omega arith)

    grown_later : Later program r grown
    grown_later = record {
      steps = omega (arith, as_was steps_used (λ e. omega arith));
      shapes = omega (arith, as_was shapes_used (λ e. omega arith));
      text = omega (arith, used_now);
      tables = omega (arith, as_was tables_made (λ e. omega arith));
      texts = λ t v. text_kept v r.texts grown.texts (kept_laid r.texts used (joined program r.texts used a b) (omega (arith, room)));
      figures = λ i l. stays_words r.words grown.words i (λ j k. as_was _ (λ e. omega arith));
    }

    grown_rest : SameRest g r grown
    grown_rest = record {
      parts = as_was components_made (λ e. omega arith);
      unit = as_was loop_unit (λ e. omega arith);
      calls = as_was calls_used (λ e. omega arith);
      high = λ j l. as_was j (λ e. omega arith);
    }

    grown_untouched : Untouched program ts g r grown
    grown_untouched =
        untouched_words grown_rest (as_was running (λ e. omega arith)) (as_was frame (λ e. omega arith)) (λ j x y. as_was j (λ e. omega arith)) (λ k l. as_was _ (λ e. omega arith))
        h.sound.variables

    new_text : text_of program grown.texts (handle 1 used size) ≡ both
    new_text =
        text_new used size short program grown.texts ∙ ap (part used size) texts_are ∙ ap (λ n. part used n (laid_at r.texts used both)) (sym both_long)
        ∙ part_laid r.texts used both (rw both_long room)

    grown_related : (p : ℕ) → Related program ts g grown s (added total (due Run.text_bytes size p))
    unfolding added resource_number
    grown_related p = let c = h.sound.counted in
        kept_related h grown_later
        (record {
          room = (lent_set 3 (used + size) h.sound.lent).room;
          texts = rw (length_laid r.texts used (joined program r.texts used a b)) h.sound.lent.texts;
        })
        (record {
          steps = rw (as_was steps_used (λ e. omega arith)) c.steps;
          shapes = rw (as_was shapes_used (λ e. omega arith)) c.shapes;
          entries = rw (as_was entries_used (λ e. omega arith)) c.entries;
          made = rw (as_was entries_made (λ e. omega arith), as_was components_made (λ e. omega arith), as_was entries_used (λ e. omega arith)) c.made;
          text = rw used_now fit;
          tables = rw (as_was tables_made (λ e. omega arith), as_was steps_used (λ e. omega arith)) c.tables;
          arguments = rw (as_was arguments_held (λ e. omega arith)) c.arguments;
          calls = rw (as_was calls_used (λ e. omega arith)) c.calls;
        })
        grown_rest
        (same_words (as_was declared (λ e. omega arith)) (as_was running (λ e. omega arith)) (as_was frame (λ e. omega arith))
        (omega (arith, as_was arguments_held (λ e. omega arith))) (λ k l. as_was _ (λ e. omega arith)) h.sound.variables)
        (same_waiting grown_later grown_untouched h.sound.waiting)
        (record { count = as_was shapes_used (λ e. omega arith); words = λ i j x y. as_was _ (λ e. omega arith) })
        (record {
          count = as_was entries_made (λ e. omega arith);
          firsts = λ k x. as_was _ (λ e. omega arith);
          keys = λ k x. as_was _ (λ e. omega arith);
          values = λ k x. as_was _ (λ e. omega arith);
          heads = λ b x. as_was _ (λ e. omega arith);
        })
        refl refl refl (h.tables ∙ sym (as_was tables_made (λ e. omega arith))) refl
        (omega (arith, h.steps_taken, as_was steps_used (λ e. omega arith))) (omega (arith, h.shapes_taken, as_was shapes_used (λ e. omega arith)))
        (omega (arith, h.entries_taken, as_was entries_used (λ e. omega arith))) (omega (arith, h.text_taken, used_now))
        (omega (arith, h.calls_taken, as_was calls_used (λ e. omega arith)))

    grown_after : (p : ℕ) → AfterValue program ts g r (Text (handle 1 used size)) (Value.string both) grown s (added total (due Run.text_bytes size p))
    unfolding Valid meant_value
    grown_after p = record {
      after = record {
        related = grown_related p;
        later = grown_later;
        spare = omega (arith, as_was steps_used (λ e. omega arith), as_was tables_made (λ e. omega arith));
        held = as_was arguments_held (λ e. omega arith);
        untouched = grown_untouched;
      };
      valid = rw used_now (held_new used size short program);
      means = ap Value.string (sym new_text);
    }

  module _ {granted : Amounts} (gr : Grants g granted) {r : Raw} {s : State} {total : Amounts} (h : Related program ts g r s total) (a b : ℕ)
      (va : Held program (get_or r.words text_used 0) a) (vb : Held program (get_or r.words text_used 0) b) where
    long : length (text_of program r.texts a ++ text_of program r.texts b) ≡ size_in a + size_in b
    long =
        let w : get_or r.words text_used 0 ≤ length r.texts = omega (arith, h.sound.counted.text, h.sound.lent.texts) in
        length-append (text_of program r.texts a) (text_of program r.texts b) ∙ ap₂ ◌+◌ (text_long va r.texts w) (text_long vb r.texts w)

    pub joins : (p : ℕ) → Follows granted total (Values program ts g r) (join_texts program g p a b r)
        (Operator.new_string p (text_of program r.texts a ++ text_of program r.texts b) s)
    unfolding join_texts Operator.new_string Act.◌>>=◌ Act.go_on Act.load Act.give put_joined Run.◌>>=◌ Run.go_on Run.give shortage_of
    joins p = rw long
        (spent_then Run.text_bytes text_used (text_granted g) (size_in a + size_in b) 78 p r s h.text_taken gr.text refl (steps_told h) _ _
        (λ fit. given (grown_after h a b va vb fit p)))
