-- The stack of arguments: pushing and dropping change nothing else.
use Prim.Native.Nat.{ℕ, ◌+◌, ◌≤◌, ◌<◌}
use native.Mathlib.Omega.{arith}
use native.Mathlib.Nat.{le_refl}
use mathlib.Core.Path.{◌≡◌, refl, sym, ◌∙◌}
use mathlib.Core.Logic.{◌≢◌}
use mathlib.Core.List.{List}
use lib.ListN.{get_or, set}
use borrow.Author.Tests.{lt-leb}
use Rattle.meaning.specs.Token.{Token}
use Rattle.meaning.specs.State.{State}
use Rattle.meaning.specs.Book.{Amounts}
use Rattle.machine.specs.Layout.{steps_used, shapes_used, entries_used, text_used, tables_made, declared, arguments_held, calls_used, running, entries_made, components_made, frame}
use Rattle.machine.specs.Layout.{stack_words, argument_place, first_argument}
use Rattle.machine.specs.Act.{Raw, raw, done}
use Rattle.machine.specs.Act as Act
use Rattle.machine.specs.Stack.{argument_at, push}
use Rattle.simulation.specs.Sound.{Counted, Variables}
use Rattle.simulation.specs.Follows.{Related, Later}
use Rattle.simulation.proofs.Frames.{stays_words, later_trans, untouched_trans, SameVariables, SameWaiting, same_waiting}
use Rattle.simulation.proofs.Results.{Untouched, After}
use Rattle.simulation.proofs.Counting.{other, here, Aside, aside, set_untouched, same_variables, set_related}

module _ {program : List ℕ} {ts : List Token} {g : List ℕ} where
  -- ---- one word of the stack, or its height
  module _ {r : Raw} {s : State} {total : Amounts} (h : Related program ts g r s total) (i x : ℕ) (high : arguments_held ≤ i)
      (beside : Aside h i x) (made : i ≢ entries_made) (few : get_or (set r.words i x) arguments_held 0 ≤ stack_words) where
    abbrev next : Raw
    next = raw r.texts (set r.words i x)

    counter : (j : ℕ) → j < arguments_held → get_or next.words j 0 ≡ get_or r.words j 0
    counter j l = other h i x j (λ e. omega arith)

    calls_same : get_or next.words calls_used 0 ≡ get_or r.words calls_used 0
    calls_same = other h i x calls_used (λ e. beside.calls (sym e))

    stack_later : Later program r next
    stack_later = record {
      steps = omega (arith, counter steps_used (omega arith));
      shapes = omega (arith, counter shapes_used (omega arith));
      text = omega (arith, counter text_used (omega arith));
      tables = omega (arith, counter tables_made (omega arith));
      texts = λ t v. refl;
      figures = λ k l. stays_words r.words next.words k (λ j m. other h i x _ (λ e. omega (arith, beside.low)));
    }

    stack_counted : Counted g next.words
    stack_counted = let c = h.sound.counted in record {
      steps = rw (counter steps_used (omega arith)) c.steps;
      shapes = rw (counter shapes_used (omega arith)) c.shapes;
      entries = rw (counter entries_used (omega arith)) c.entries;
      made = rw (other h i x entries_made (λ e. made (sym e)), other h i x components_made (λ e. beside.parts (sym e)), counter entries_used (omega arith)) c.made;
      text = rw (counter text_used (omega arith)) c.text;
      tables = rw (counter tables_made (omega arith), counter steps_used (omega arith)) c.tables;
      arguments = few;
      calls = rw calls_same c.calls;
    }

    stack_related : SameVariables program ts r next → SameWaiting program ts r next → Related program ts g next s total
    stack_related sv sw =
        set_related h i x beside stack_later sv (λ e. omega arith) made stack_counted sw
        refl refl refl (h.tables ∙ sym (counter tables_made (omega arith))) refl
        (h.steps_taken ∙ sym (counter steps_used (omega arith))) (h.shapes_taken ∙ sym (counter shapes_used (omega arith)))
        (h.entries_taken ∙ sym (counter entries_used (omega arith))) (h.text_taken ∙ sym (counter text_used (omega arith))) (h.calls_taken ∙ sym calls_same)

-- one more argument, which is word w
module _ (program : List ℕ) (ts : List Token) (g : List ℕ) where
  pub record Pushed (r : Raw) (w : ℕ) (r' : Raw) (s : State) (total : Amounts) : Type 0 where
    pub related : Related program ts g r' s total
    pub later : Later program r r'
    pub steps : get_or r'.words steps_used 0 ≡ get_or r.words steps_used 0
    pub tables : get_or r'.words tables_made 0 ≡ get_or r.words tables_made 0
    pub held : get_or r'.words arguments_held 0 ≡ get_or r.words arguments_held 0 + 1
    pub newest : argument_at r'.words (get_or r.words arguments_held 0) ≡ w
    pub untouched : Untouched program ts g r r'

module _ {program : List ℕ} {ts : List Token} {g : List ℕ} where
  module _ {r : Raw} {s : State} {total : Amounts} (h : Related program ts g r s total) (room : get_or r.words arguments_held 0 < stack_words) (w : ℕ) where
    abbrev first : Raw
    first = raw r.texts (set r.words (argument_place (get_or r.words arguments_held 0)) w)

    first_other : (j : ℕ) → j < first_argument → get_or first.words j 0 ≡ get_or r.words j 0
    first_other j l = other h (argument_place (get_or r.words arguments_held 0)) w j (λ e. omega arith)

    on_stack : Aside h (argument_place (get_or r.words arguments_held 0)) w
    on_stack = record {
      low = omega arith;
      parts = λ e. omega arith;
      unit = λ e. omega arith;
      calls = λ e. omega arith;
      running = λ e. omega arith;
      frame = λ e. omega arith;
      waiting = λ j a b e. omega arith;
    }

    first_few : get_or first.words arguments_held 0 ≤ stack_words
    first_few = rw (first_other arguments_held (omega arith)) h.sound.counted.arguments

    first_later : Later program r first
    first_later = stack_later h (argument_place (get_or r.words arguments_held 0)) w (omega arith) on_stack (λ e. omega arith) first_few

    first_untouched : Untouched program ts g r first
    first_untouched = set_untouched h (argument_place (get_or r.words arguments_held 0)) w on_stack (λ k l e. omega arith)

    h₁ : Related program ts g first s total
    h₁ = stack_related h (argument_place (get_or r.words arguments_held 0)) w (omega arith) on_stack (λ e. omega arith) first_few
        (same_variables h (argument_place (get_or r.words arguments_held 0)) w on_stack (λ e. omega arith) (rw (first_other arguments_held (omega arith)) (le_refl _)) (λ k l e. omega arith))
        (same_waiting first_later first_untouched h.sound.waiting)

    abbrev pub pushed_on : Raw
    pushed_on = raw r.texts (set (set r.words (argument_place (get_or r.words arguments_held 0)) w) arguments_held (get_or r.words arguments_held 0 + 1))

    height : get_or pushed_on.words arguments_held 0 ≡ get_or r.words arguments_held 0 + 1
    height = here h₁ arguments_held _ (omega arith)

    push_later : Later program first pushed_on
    push_later = stack_later h₁ arguments_held _ (omega arith) (aside h₁ arguments_held _ (omega arith)) (λ e. omega arith) (omega (arith, height))

    push_untouched : Untouched program ts g first pushed_on
    push_untouched = set_untouched h₁ arguments_held _ (aside h₁ arguments_held _ (omega arith)) (λ k l e. omega arith)

    pub pushed : Pushed program ts g r w pushed_on s total
    pushed = record {
      related = stack_related h₁ arguments_held _ (omega arith) (aside h₁ arguments_held _ (omega arith)) (λ e. omega arith) (omega (arith, height))
          (same_variables h₁ arguments_held _ (aside h₁ arguments_held _ (omega arith)) (λ e. omega arith) (omega (arith, height, first_other arguments_held (omega arith))) (λ k l e. omega arith))
          (same_waiting push_later push_untouched h₁.sound.waiting);
      later = later_trans first_later push_later;
      steps = other h₁ arguments_held _ steps_used (λ e. omega arith) ∙ first_other steps_used (omega arith);
      tables = other h₁ arguments_held _ tables_made (λ e. omega arith) ∙ first_other tables_made (omega arith);
      held = height;
      newest = other h₁ arguments_held _ _ (λ e. omega arith) ∙ here h (argument_place (get_or r.words arguments_held 0)) w (omega arith);
      untouched = untouched_trans (rw (first_other arguments_held (omega arith)) (le_refl _)) first_untouched push_untouched;
    }

    pub pushes : (p : ℕ) → push w p r ≡ done tt pushed_on
    unfolding push Act.◌>>=◌ Act.go_on Act.load Act.store Act.refuse Act.give
    pushes p = rw (lt-leb stack_words (get_or r.words arguments_held 0) room)

  -- back to as many as there were at r₀
  module _ {r₀ r : Raw} {s : State} {total : Amounts} (h : Related program ts g r s total) (l : Later program r₀ r)
      (spare : get_or r.words tables_made 0 + get_or r₀.words steps_used 0 ≤ get_or r₀.words tables_made 0 + get_or r.words steps_used 0)
      (low : get_or r₀.words arguments_held 0 ≤ get_or r.words arguments_held 0) (u : Untouched program ts g r₀ r) (v : Variables program ts r₀.words) where
    abbrev pub dropped : Raw
    dropped = raw r.texts (set r.words arguments_held (get_or r₀.words arguments_held 0))

    back : get_or dropped.words arguments_held 0 ≡ get_or r₀.words arguments_held 0
    back = here h arguments_held _ (omega arith)

    few : get_or dropped.words arguments_held 0 ≤ stack_words
    few = omega (arith, back, low, h.sound.counted.arguments)

    pub drop_later : Later program r dropped
    drop_later = stack_later h arguments_held _ (omega arith) (aside h arguments_held _ (omega arith)) (λ e. omega arith) few

    all_later : Later program r₀ dropped
    all_later = later_trans l drop_later

    last_untouched : Untouched program ts g r dropped
    last_untouched = set_untouched h arguments_held _ (aside h arguments_held _ (omega arith)) (λ k l e. omega arith)

    -- the frame stays within what is held
    still_framed : SameVariables program ts r dropped
    still_framed = record {
      count = other h arguments_held _ declared (λ e. omega arith);
      procedure = other h arguments_held _ running (λ e. omega arith);
      place = other h arguments_held _ frame (λ e. omega arith);
      words = λ k m. other h arguments_held _ _ (λ e. omega arith);
      within = rw (back, u.frame, u.running) v.within;
    }

    pub drops : After program ts g r₀ dropped s total
    drops = record {
      related = stack_related h arguments_held _ (omega arith) (aside h arguments_held _ (omega arith)) (λ e. omega arith) few still_framed
          (same_waiting drop_later last_untouched h.sound.waiting);
      later = all_later;
      spare = rw (other h arguments_held (get_or r₀.words arguments_held 0) tables_made (λ e. omega arith), other h arguments_held (get_or r₀.words arguments_held 0) steps_used (λ e. omega arith)) spare;
      held = back;
      untouched = untouched_trans low u last_untouched;
    }
