-- Steps, tables and the arguments held: acts that change nothing else.
use Prim.Native.Nat.{ℕ, suc, ◌+◌, ◌%◌, ◌^◌, ◌≤◌, ◌<◌}
use native.Mathlib.Omega.{arith}
use native.Mathlib.Nat.{le_refl}
use mathlib.Core.Path.{◌≡◌, refl, ap, sym, ◌∙◌}
use mathlib.Core.Logic.{◌≢◌}
use mathlib.Core.List.{List, []}
use lib.ListN.{get_or, set, length-set}
use lib.Seq.{get_or-set_same, get_or-set_other}
use lib.IntN.{ℤ}
use Rattle.meaning.specs.Token.{Token}
use Rattle.meaning.specs.Integer.{is_negative}
use Rattle.meaning.specs.Value as Value
use Rattle.meaning.specs.State.{State, with_new_table}
use Rattle.meaning.specs.Run.{run, result}
use Rattle.meaning.specs.Run as Run
use Rattle.meaning.specs.Book.{Amounts, added, resource_number, shortage_of}
use Rattle.meaning.specs.Evaluate as Evaluate
use Rattle.machine.specs.declared.Value.TheVariants.{Table}
use Rattle.machine.specs.Layout.{
  steps_used,
  shapes_used,
  entries_used,
  text_used,
  tables_made,
  declared,
  arguments_held,
  calls_used,
  running,
  entries_made,
  components_made,
  loop_unit,
  steps_granted,
  fixed_words,
  argument_place,
  Lent,
  frame,
  first_argument,
  first_call,
}
use Rattle.machine.specs.Act.{Raw, raw}
use Rattle.machine.specs.Act as Act
use Rattle.simulation.specs.Meant.{meant_value}
use Rattle.simulation.specs.Sound.{Valid, Counted}
use Rattle.simulation.specs.Follows.{Grants, Related, Later, Follows}
use Rattle.simulation.proofs.Binding.{bind}
use Rattle.simulation.proofs.Frames.{stays_words, later_trans, SameRest, untouched_trans, untouched_words, SameVariables, same_words, SameWaiting, same_waiting, SameShapes}
use Rattle.simulation.proofs.Holding.{SameEntries}
use Rattle.simulation.proofs.Results.{due, given, Untouched, After, AfterValue, Values, unmoved, onward, steps_told, refused, kept_related, spent}

-- ---- lengths
pub lent_set : {g ts ws : List ℕ} (i x : ℕ) → Lent g ts ws → Lent g ts (set ws i x)
lent_set {g} {ts} {ws} i x l = record {
  room = record { steps = l.room.steps; shapes = l.room.shapes; entries = l.room.entries; text = l.room.text; calls = l.room.calls; words = rw (length-set ws i x) l.room.words };
  texts = l.texts;
}

-- ---- one word set, which is no variable, shape, entry or component
module _ {program : List ℕ} {ts : List Token} {g : List ℕ} {r : Raw} {s : State} {total : Amounts} (h : Related program ts g r s total) (i x : ℕ) where
  abbrev pub words' : List ℕ
  words' = set r.words i x

  pub other : (j : ℕ) → j ≢ i → get_or words' j 0 ≡ get_or r.words j 0
  other j n = get_or-set_other r.words i j x 0 n

  pub here : i < fixed_words → get_or words' i 0 ≡ x
  here l = get_or-set_same r.words i x 0 (omega (arith, h.sound.lent.room.words))

  -- it lies before the shapes, and is none of the counters of components, loops and calls; nor is it a word of a call that waits
  pub record Aside : Type 0 where
    pub low : i < fixed_words
    pub parts : i ≢ components_made
    pub unit : i ≢ loop_unit
    pub calls : i ≢ calls_used
    pub running : i ≢ running
    pub frame : i ≢ frame
    pub waiting : (j : ℕ) → first_call ≤ j → j < first_argument → j ≢ i

  module _ (a : Aside) where
    pub set_rest : SameRest g r (raw r.texts words')
    set_rest = record {
      parts = other components_made (λ q. a.parts (sym q));
      unit = other loop_unit (λ q. a.unit (sym q));
      calls = other calls_used (λ q. a.calls (sym q));
      high = λ j l. other j (λ q. omega (arith, a.low));
    }

    pub set_untouched : ((k : ℕ) → k < get_or r.words arguments_held 0 → argument_place k ≢ i) → Untouched program ts g r (raw r.texts words')
    set_untouched f =
        untouched_words set_rest (other running (λ q. a.running (sym q))) (other frame (λ q. a.frame (sym q))) (λ j x y. other j (a.waiting j x y))
        (λ k l. other (argument_place k) (f k l)) h.sound.variables

    pub same_variables : i ≢ declared → get_or r.words arguments_held 0 ≤ get_or words' arguments_held 0
        → ((k : ℕ) → k < get_or r.words arguments_held 0 → argument_place k ≢ i) → SameVariables program ts r (raw r.texts words')
    same_variables n high f =
        same_words (other declared (λ q. n (sym q))) (other running (λ q. a.running (sym q))) (other frame (λ q. a.frame (sym q))) high
        (λ k l. other (argument_place k) (f k l)) h.sound.variables

    module _ (l : Later program r (raw r.texts words')) where
      pub same_shapes : i ≢ shapes_used → SameShapes l
      same_shapes n = record { count = other shapes_used (λ q. n (sym q)); words = λ k j x y. other _ (λ q. omega (arith, a.low)) }

      pub same_entries : i ≢ entries_made → SameEntries l h.sound.shapes
      same_entries n = record {
        count = other entries_made (λ q. n (sym q));
        firsts = λ k x. other _ (λ q. omega (arith, a.low));
        keys = λ k x. other _ (λ q. omega (arith, a.low));
        values = λ k x. other _ (λ q. omega (arith, a.low));
        heads = λ b x. other _ (λ q. omega (arith, a.low));
      }

      pub set_related : {s' : State} {total' : Amounts} → SameVariables program ts r (raw r.texts words') → i ≢ shapes_used → i ≢ entries_made
          → Counted g words' → SameWaiting program ts r (raw r.texts words')
          → s'.variables ≡ s.variables → s'.suspended ≡ s.suspended → s'.shapes ≡ s.shapes → s'.tables ≡ get_or words' tables_made 0 → s'.entries ≡ s.entries
          → total' Run.steps ≡ get_or words' steps_used 0 → total' Run.shapes ≡ get_or words' shapes_used 0 → total' Run.entries ≡ get_or words' entries_used 0 → total' Run.text_bytes ≡ get_or words' text_used 0
          → total' Run.calls ≡ get_or words' calls_used 0 → Related program ts g (raw r.texts words') s' total'
      set_related c d f co sw =
          kept_related h l (lent_set i x h.sound.lent) co set_rest c sw (same_shapes d) (same_entries f)

-- a counter below the calls' is aside
pub aside : {program : List ℕ} {ts : List Token} {g : List ℕ} {r : Raw} {s : State} {total : Amounts} (h : Related program ts g r s total) (i x : ℕ) → i < calls_used → Aside h i x
aside h i x l = record {
  low = omega arith;
  parts = λ e. omega arith;
  unit = λ e. omega arith;
  calls = λ e. omega arith;
  running = λ e. omega arith;
  frame = λ e. omega arith;
  waiting = λ j a b e. omega arith;
}

-- ---- steps and tables
-- a counter of these rises, and no more tables are made than steps counted
module _ {program : List ℕ} {ts : List Token} {g : List ℕ} {r₀ r : Raw} {s : State} {total : Amounts} (a : After program ts g r₀ r s total)
    (i x : ℕ) (low : i < calls_used) (apart : (j : ℕ) → j ≢ steps_used → j ≢ tables_made → j ≢ i)
    (steps : get_or r.words steps_used 0 ≤ get_or (set r.words i x) steps_used 0) (tables : get_or r.words tables_made 0 ≤ get_or (set r.words i x) tables_made 0)
    (fit : get_or (set r.words i x) steps_used 0 ≤ steps_granted g) (few : get_or (set r.words i x) tables_made 0 ≤ get_or (set r.words i x) steps_used 0) where
  abbrev risen : Raw
  risen = raw r.texts (set r.words i x)

  was : (j : ℕ) → 0 < j → j ≢ tables_made → get_or risen.words j 0 ≡ get_or r.words j 0
  was j m n = other a.related i x j (apart j (λ e. omega arith) n)

  shapes_were : get_or risen.words shapes_used 0 ≡ get_or r.words shapes_used 0
  shapes_were = was shapes_used (omega arith) (λ e. omega arith)

  entries_were : get_or risen.words entries_used 0 ≡ get_or r.words entries_used 0
  entries_were = was entries_used (omega arith) (λ e. omega arith)

  text_was : get_or risen.words text_used 0 ≡ get_or r.words text_used 0
  text_was = was text_used (omega arith) (λ e. omega arith)

  arguments_were : get_or risen.words arguments_held 0 ≡ get_or r.words arguments_held 0
  arguments_were = was arguments_held (omega arith) (λ e. omega arith)

  calls_were : get_or risen.words calls_used 0 ≡ get_or r.words calls_used 0
  calls_were = was calls_used (omega arith) (λ e. omega arith)

  untouched : Untouched program ts g r risen
  untouched = set_untouched a.related i x (aside a.related i x low) (λ k l e. omega arith)

  later : Later program r risen
  later = record {
    steps = steps;
    shapes = omega (arith, shapes_were);
    text = omega (arith, text_was);
    tables = tables;
    texts = λ t v. refl;
    figures = λ k l. stays_words r.words risen.words k (λ j m. was _ (omega arith) (λ e. omega arith));
  }

  counted : Counted g risen.words
  counted = let c = a.related.sound.counted in record {
    steps = fit;
    shapes = rw shapes_were c.shapes;
    entries = rw entries_were c.entries;
    made = rw (was entries_made (omega arith) (λ e. omega arith), was components_made (omega arith) (λ e. omega arith), entries_were) c.made;
    text = rw text_was c.text;
    tables = few;
    arguments = rw arguments_were c.arguments;
    calls = rw calls_were c.calls;
  }

  rises : {total' : Amounts} (t : ℕ) → get_or risen.words tables_made 0 + get_or r₀.words steps_used 0 ≤ get_or r₀.words tables_made 0 + get_or risen.words steps_used 0
      → t ≡ get_or risen.words tables_made 0 → total' Run.steps ≡ get_or risen.words steps_used 0
      → total' Run.shapes ≡ total Run.shapes → total' Run.entries ≡ total Run.entries → total' Run.text_bytes ≡ total Run.text_bytes → total' Run.calls ≡ total Run.calls
      → After program ts g r₀ risen (record { variables = s.variables; suspended = s.suspended; shapes = s.shapes; tables = t; entries = s.entries }) total'
  rises t spare e u v w y z = let h = a.related in record {
    related = set_related h i x (aside h i x low) later
        (same_variables h i x (aside h i x low) (λ q. apart declared (λ e. omega arith) (λ e. omega arith) (sym q)) (omega (arith, arguments_were)) (λ k l e. omega arith))
        (λ q. apart shapes_used (λ e. omega arith) (λ e. omega arith) (sym q))
        (λ q. apart entries_made (λ e. omega arith) (λ e. omega arith) (sym q)) counted
        (same_waiting later untouched h.sound.waiting) refl refl refl e refl
        u (v ∙ h.shapes_taken ∙ sym shapes_were) (w ∙ h.entries_taken ∙ sym entries_were) (y ∙ h.text_taken ∙ sym text_was) (z ∙ h.calls_taken ∙ sym calls_were);
    later = later_trans a.later later;
    spare = spare;
    held = arguments_were ∙ a.held;
    untouched = untouched_trans (rw a.held (le_refl _)) a.untouched untouched;
  }

-- ---- a step
-- what follows a step: fewer tables were made than steps counted
module _ (program : List ℕ) (ts : List Token) (g : List ℕ) where
  pub record AfterStep (r r' : Raw) (s : State) (total : Amounts) : Type 0 where
    pub after : After program ts g r r' s total
    pub few : get_or r'.words tables_made 0 < get_or r'.words steps_used 0
    pub spare : get_or r'.words tables_made 0 + get_or r.words steps_used 0 < get_or r.words tables_made 0 + get_or r'.words steps_used 0

module _ {program : List ℕ} {ts : List Token} {g : List ℕ} where
  module _ {r : Raw} {s : State} {total : Amounts} (h : Related program ts g r s total) (p : ℕ) (fit : get_or r.words steps_used 0 + 1 ≤ steps_granted g) where
    abbrev next : Raw
    next = raw r.texts (set r.words steps_used (get_or r.words steps_used 0 + 1))

    next_steps : get_or next.words steps_used 0 ≡ get_or r.words steps_used 0 + 1
    next_steps = here h steps_used _ (omega arith)

    next_tables : get_or next.words tables_made 0 ≡ get_or r.words tables_made 0
    next_tables = other h steps_used _ tables_made (λ e. omega arith)

    pub step_related : AfterStep program ts g r next s (added total (due Run.steps 1 p))
    unfolding added resource_number
    step_related = record {
      after = rises (unmoved h) steps_used _ (omega arith) (λ j m n. m) (omega (arith, next_steps)) (omega (arith, next_tables)) (omega (arith, next_steps, fit))
          (omega (arith, next_steps, next_tables, h.sound.counted.tables)) s.tables (omega (arith, next_steps, next_tables)) (h.tables ∙ sym next_tables)
          (omega (arith, h.steps_taken, next_steps)) (omega arith) (omega arith) (omega arith) (omega arith);
      few = omega (arith, next_steps, next_tables, h.sound.counted.tables);
      spare = omega (arith, next_steps, next_tables);
    }

  module _ {granted : Amounts} (gr : Grants g granted) {r : Raw} {s : State} {total : Amounts} (h : Related program ts g r s total) (p : ℕ) where
    pub counts : Follows granted total (λ _ _ r' s' total'. AfterStep program ts g r r' s' total') (Act.count g p r) (Run.count p s)
    unfolding shortage_of
    counts = spent Run.steps steps_used (steps_granted g) 1 79 p r s h.steps_taken gr.steps refl (steps_told h) (step_related h p)

  pub stepped_on : {r₀ r r' : Raw} {s s' : State} {total total' : Amounts} → AfterStep program ts g r₀ r s total → After program ts g r r' s' total'
      → AfterStep program ts g r₀ r' s' total'
  stepped_on a b = record {
    after = onward a.after b;
    few = omega (arith, a.few, b.spare);
    spare = omega (arith, a.spare, b.spare);
  }

  -- ---- a table
  module _ {r₀ r : Raw} {s : State} {total : Amounts} (a : AfterStep program ts g r₀ r s total) where
    h : Related program ts g r s total
    h = a.after.related

    small : get_or r.words tables_made 0 % 2 ^ 32 ≡ get_or r.words tables_made 0
    small = omega (arith, h.sound.counted.tables, h.sound.counted.steps, h.sound.lent.room.steps)

    abbrev tabled : Raw
    tabled = raw r.texts (set r.words tables_made (get_or r.words tables_made 0 + 1))

    tabled_tables : get_or tabled.words tables_made 0 ≡ get_or r.words tables_made 0 + 1
    tabled_tables = here h tables_made _ (omega arith)

    tabled_steps : get_or tabled.words steps_used 0 ≡ get_or r.words steps_used 0
    tabled_steps = other h tables_made _ steps_used (λ e. omega arith)

    table_after : AfterValue program ts g r₀ (Table (get_or r.words tables_made 0)) (Value.table s.tables) tabled (with_new_table s) total
    unfolding Valid meant_value
    table_after = record {
      after = rises a.after tables_made _ (omega arith) (λ j m n. n) (omega (arith, tabled_steps)) (omega (arith, tabled_tables)) (rw tabled_steps h.sound.counted.steps)
          (omega (arith, tabled_tables, tabled_steps, a.few)) (suc s.tables) (omega (arith, tabled_tables, tabled_steps, a.spare)) (ap suc h.tables ∙ omega (arith, tabled_tables))
          (h.steps_taken ∙ sym tabled_steps) refl refl refl refl;
      valid = omega (arith, tabled_tables);
      means = ap Value.table h.tables;
    }

    makes : {granted : Amounts}
        → Follows granted total (Values program ts g r₀) (Act.new_table r) (run [] (result (Value.table s.tables) (with_new_table s)))
    unfolding Act.new_table Act.◌>>=◌ Act.go_on Act.load Act.store Act.give
    makes = rw small (given table_after)

  pub makes_table : {granted : Amounts} {r₀ r : Raw} {s : State} {total : Amounts} → AfterStep program ts g r₀ r s total → (p : ℕ) (z : ℤ)
      → Follows granted total (Values program ts g r₀) (Act.◌>>◌ (Act.refuse (is_negative z) 40 p) Act.new_table r) (Evaluate.new_table p z s)
  unfolding Evaluate.new_table Act.◌>>=◌ Run.◌>>=◌ Run.go_on Run.current Run.become Run.give
  makes_table a p z = bind (refused a.after.related (is_negative z) (is_negative z) refl 40 p) (λ _ _ r' s' total' b. makes (stepped_on a b))
