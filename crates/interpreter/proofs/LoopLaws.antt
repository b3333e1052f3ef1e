-- How a loop over a group goes on, by what was asked so far.
use Prim.Native.Nat.{ℕ, suc, ◌+◌, ◌-◌, ◌≤◌, ◌<◌}
use mathlib.Core.Path.{◌≡◌, refl, ◌∙◌}
use mathlib.Core.Bool.{Bool, true, false}
use mathlib.Core.List.{List}
use native.Mathlib.Omega.{arith}
use lib.ListN.{set, length}
use borrow.Author.Tests.{ne_eqb}
use Rattle.std.specs.Prelude.{Result, Ok, Err}
use Rattle.meaning.specs.Basics.{if◌then◌otherwise◌}
use Rattle.machine.specs.declared.Value.{Value}
use Rattle.machine.specs.declared.Value.TheVariants.{Integer, Text, Boolean, Nothing, Table, Shape}
use Rattle.machine.specs.declared.Fault.{Fault}
use Rattle.machine.specs.declared.Fault.TheVariants.{Misuse, NoStepLeft}
use Rattle.machine.specs.declared.Flow.{Flow}
use Rattle.machine.specs.declared.Flow.TheVariants.{Onward, Returned}
use Rattle.machine.specs.Words.{packed}
use Rattle.machine.specs.Layout.{loop_unit, steps_granted}
use Rattle.machine.specs.Act.{raw, Act, go_on, ◌>>=◌, give, fail, refuse, store, held, count, out_of, DoesIn, Gives}
use Rattle.machine.specs.Shapes.{is_group_at, destroyed_at}
use Rattle.machine.specs.Groups.{component_at, first_at, count_at}
use Rattle.machine.specs.Variables.{is_dead, usable, declare_once, set_variable}
use Rattle.machine.specs.Operate.{with_shape, with_group}
use Rattle.machine.specs.Loops.{look_in, look_behind, unmark_from, turn, following, turns_from, own_turn, own_from, loop_over}
use Rattle.machine.proofs.Acts.{goes_in, fails_in, in_both, sure, given, failed}
use Rattle.effects.specs.Looped.{opening, Enters}
use Rattle.interpreter.specs.Asked.{Runs}
use Rattle.interpreter.specs.Members.{member_at, inside_at}
use Rattle.interpreter.proofs.Going.{after_in, as_in}
use Rattle.interpreter.proofs.StatementLaws.{still_runs}

-- ---- a turn
pub bound_to : (body : Act Flow) (slot i : ℕ) {k : ℕ} {r : Result Flow Fault} {ts ws ws₁ ts₂ ws₂ : List ℕ} → k ≡ packed (Shape i) → Gives ws (set_variable slot k) tt ws₁ → DoesIn ts ws₁ body r ts₂ ws₂
    → DoesIn ts ws (turn body slot i) r ts₂ ws₂
bound_to body slot i {ts = ts} e s h = goes_in _ (in_both (sure (rw e at s)) ts) h

-- ---- an own component
module _ (body : Act Flow) (g : List ℕ) (p slot k : ℕ) {ts ws : List ℕ} {c : ℕ} (e : c ≡ component_at g ws k) {b : Bool} (d : b ≡ destroyed_at ws c) where
  pub member_passed : b ≡ true → DoesIn ts ws (member_at body g p slot k) (Ok Onward) ts ws
  unfolding member_at ◌>>=◌ go_on held if◌then◌otherwise◌ give out_of
  member_passed t = record { equal = rw (← e, ← d, t) }

  pub member_by : b ≡ false → {r : Result Flow Fault} {ts₁ ws₁ : List ℕ} → DoesIn ts ws (count g p >>= λ _. own_turn body g p slot k c) r ts₁ ws₁ → DoesIn ts ws (member_at body g p slot k) r ts₁ ws₁
  unfolding member_at ◌>>=◌ go_on held if◌then◌otherwise◌
  member_by t h = record { equal = h.equal ∙ rw (← e, ← d, t) }

module _ (body : Act Flow) (g : List ℕ) (p slot k c : ℕ) {r : Result Flow Fault} {ts ws ts₁ ws₁ : List ℕ} {b : Bool} (d : b ≡ is_group_at ws c) where
  pub member_figure : b ≡ false → DoesIn ts ws (turn body slot c) r ts₁ ws₁ → DoesIn ts ws (own_turn body g p slot k c) r ts₁ ws₁
  unfolding own_turn ◌>>=◌ go_on held if◌then◌otherwise◌
  member_figure t h = record { equal = h.equal ∙ rw (← d, t) }

  pub member_group : b ≡ true → DoesIn ts ws (inside_at body g p slot k c) r ts₁ ws₁ → DoesIn ts ws (own_turn body g p slot k c) r ts₁ ws₁
  unfolding own_turn inside_at ◌>>=◌ go_on held if◌then◌otherwise◌
  member_group t h = record { equal = h.equal ∙ rw (← d, t) }

-- ---- the figures in one
pub record Turning (body : Act Flow) (g : List ℕ) (fuel b : ℕ) (ts₀ ws₀ : List ℕ) (p slot end first turns : ℕ) (ts ws : List ℕ) (found i : ℕ) : Type 0 where
  pub runs : Runs g ts ws fuel b
  pub texts : length ts ≡ length ts₀
  pub words : length ws ≡ length ws₀
  pub rest : turns_from turns body g p slot end first (raw ts₀ ws₀) ≡ turns_from (turns - i) body g p slot end found (raw ts ws)

module _ {body : Act Flow} {g : List ℕ} {fuel b : ℕ} {ts₀ ws₀ : List ℕ} {p slot end first turns : ℕ} where
  module _ {ts ws : List ℕ} {found i : ℕ} (l : Turning body g fuel b ts₀ ws₀ p slot end first turns ts ws found i) where
    pub turns_short : turns ≤ i → DoesIn ts₀ ws₀ (turns_from turns body g p slot end first) (Err (NoStepLeft p)) ts ws
    unfolding turns_from
    turns_short z =
        let d : turns - i ≡ 0 = omega arith in
        let q : turns_from turns body g p slot end first (raw ts₀ ws₀) ≡ fail {A = Flow} 79 p (raw ts ws) = l.rest ∙ rw d refl in
        as_in q (in_both (failed (NoStepLeft p)) ts)

    module _ (m : i < turns) where
      one_by : turns - i ≡ suc (turns - (i + 1))
      one_by = omega arith

      pub turns_done : found ≡ 0 → DoesIn ts₀ ws₀ (turns_from turns body g p slot end first) (Ok Onward) ts ws
      unfolding turns_from if◌then◌otherwise◌
      turns_done z =
          let q : turns_from turns body g p slot end first (raw ts₀ ws₀) ≡ give Onward (raw ts ws) = l.rest ∙ rw one_by (rw z refl) in
          as_in q (in_both (given Onward) ts)

      module _ (n : found ≡ 0 → ⊥) {c : ℕ} (e : c ≡ component_at g ws (found - 1)) where
        one_turn : turns_from turns body g p slot end first (raw ts₀ ws₀) ≡ (turn body slot c >>= λ f. following g end f (look_behind end g end (found - 1) >>= turns_from (turns - (i + 1)) body g p slot end)) (raw ts ws)
        unfolding turns_from if◌then◌otherwise◌ ◌>>=◌ go_on held
        one_turn = l.rest ∙ rw one_by (rw (ne_eqb found 0 n, ← e))

        pub turn_fails : {ts₁ ws₁ : List ℕ} {f : Fault} → DoesIn ts ws (turn body slot c) (Err f) ts₁ ws₁ → DoesIn ts₀ ws₀ (turns_from turns body g p slot end first) (Err f) ts₁ ws₁
        turn_fails h = as_in one_turn (fails_in _ h)

        pub turn_returns : {ts₁ ws₁ : List ℕ} {v : Value} {ws₂ : List ℕ} → DoesIn ts ws (turn body slot c) (Ok (Returned v)) ts₁ ws₁ → Gives ws₁ (unmark_from g 0 end) tt ws₂ → DoesIn ts₀ ws₀ (turns_from turns body g p slot end first) (Ok (Returned v)) ts₁ ws₂
        unfolding following
        turn_returns {ts₁ = ts₁} {v = v} h u = as_in one_turn (goes_in _ h (goes_in _ (in_both (sure u) ts₁) (in_both (given (Returned v)) ts₁)))

        pub turn_again : {ts₁ ws₁ ws₂ : List ℕ} {next : ℕ} → DoesIn ts ws (turn body slot c) (Ok Onward) ts₁ ws₁ → Gives ws₁ (look_behind end g end (found - 1)) next ws₂ → length ts₁ ≡ length ts → length ws₂ ≡ length ws
            → Turning body g fuel b ts₀ ws₀ p slot end first turns ts₁ ws₂ next (i + 1)
        unfolding following
        turn_again {ts₁ = ts₁} {ws₂ = ws₂} h u lt lw = record {
          runs = still_runs g ts ws ts₁ ws₂ lt lw fuel b l.runs;
          texts = lt ∙ l.texts;
          words = lw ∙ l.words;
          rest = one_turn ∙ after_in _ h ∙ after_in _ (in_both (sure u) ts₁);
        }

pub looked_in : (body : Act Flow) (g : List ℕ) (p slot end c : ℕ) {first : ℕ} {r : Result Flow Fault} {ts ws ws₁ ts₂ ws₂ : List ℕ} → Gives ws (look_in g c) first ws₁
    → DoesIn ts ws₁ (turns_from (steps_granted g + 1) body g p slot end first) r ts₂ ws₂ → DoesIn ts ws (inside_at body g p slot end c) r ts₂ ws₂
unfolding inside_at
looked_in body g p slot end c {ts = ts} h q = goes_in _ (in_both (sure h) ts) q

-- ---- all own components
-- behind the last of them, or a return, the loop around it adds what it added
abbrev pub left : ℕ → Flow → Act Flow
left unit f = store loop_unit unit >>= λ _. give f

pub record Owning (body : Act Flow) (g : List ℕ) (fuel b : ℕ) (ts₀ ws₀ : List ℕ) (p slot first end : ℕ) (ts ws : List ℕ) (k : ℕ) : Type 0 where
  pub runs : Runs g ts ws fuel b
  pub texts : length ts ≡ length ts₀
  pub words : length ws ≡ length ws₀
  pub rest : own_from body g p slot first (end - first) (raw ts₀ ws₀) ≡ own_from body g p slot k (end - k) (raw ts ws)

module _ {body : Act Flow} {g : List ℕ} {fuel b : ℕ} {ts₀ ws₀ : List ℕ} {p slot first end : ℕ} where
  module _ {ts ws : List ℕ} {k : ℕ} (l : Owning body g fuel b ts₀ ws₀ p slot first end ts ws k) where
    put_back : (unit : ℕ) {f : Flow} {ts₁ ws₁ ws₂ : List ℕ} → DoesIn ts₀ ws₀ (own_from body g p slot first (end - first)) (Ok f) ts₁ ws₁ → ws₂ ≡ set ws₁ loop_unit unit → DoesIn ts₀ ws₀ (own_from body g p slot first (end - first) >>= left unit) (Ok f) ts₁ ws₂
    unfolding store
    put_back unit {f = f} {ts₁ = ts₁} h e = goes_in (left unit) h (goes_in _ (in_both (sure record { equal = λ ts. rw e }) ts₁) (in_both (given f) ts₁))

    pub owning_ends : (unit : ℕ) {ws₁ : List ℕ} → end ≤ k → ws₁ ≡ set ws loop_unit unit → DoesIn ts₀ ws₀ (own_from body g p slot first (end - first) >>= left unit) (Ok Onward) ts ws₁
    unfolding own_from
    owning_ends unit z e =
        let d : end - k ≡ 0 = omega arith in
        let q : own_from body g p slot first (end - first) (raw ts₀ ws₀) ≡ give Onward (raw ts ws) = l.rest ∙ rw d refl in
        put_back unit (as_in q (in_both (given Onward) ts)) e

    module _ (m : k < end) where
      one_member : own_from body g p slot first (end - first) (raw ts₀ ws₀) ≡ (member_at body g p slot k >>= λ f. following g 0 f (own_from body g p slot (k + 1) (end - (k + 1)))) (raw ts ws)
      unfolding own_from member_at ◌>>=◌ go_on held
      one_member =
          let d : end - k ≡ suc (end - (k + 1)) = omega arith in
          l.rest ∙ rw d refl

      pub owning_fails : (unit : ℕ) {ts₁ ws₁ : List ℕ} {f : Fault} → DoesIn ts ws (member_at body g p slot k) (Err f) ts₁ ws₁ → DoesIn ts₀ ws₀ (own_from body g p slot first (end - first) >>= left unit) (Err f) ts₁ ws₁
      owning_fails unit h = fails_in (left unit) (as_in one_member (fails_in _ h))

      pub owning_returns : (unit : ℕ) {ts₁ ws₁ : List ℕ} {v : Value} {ws₂ : List ℕ} → DoesIn ts ws (member_at body g p slot k) (Ok (Returned v)) ts₁ ws₁ → ws₂ ≡ set ws₁ loop_unit unit → DoesIn ts₀ ws₀ (own_from body g p slot first (end - first) >>= left unit) (Ok (Returned v)) ts₁ ws₂
      unfolding following unmark_from
      owning_returns unit {ts₁ = ts₁} {v = v} h e = put_back unit (as_in one_member (goes_in _ h (goes_in _ (in_both (given tt) ts₁) (in_both (given (Returned v)) ts₁)))) e

      pub owning_again : {ts₁ ws₁ : List ℕ} → DoesIn ts ws (member_at body g p slot k) (Ok Onward) ts₁ ws₁ → length ts₁ ≡ length ts → length ws₁ ≡ length ws → Owning body g fuel b ts₀ ws₀ p slot first end ts₁ ws₁ (k + 1)
      unfolding following
      owning_again {ts₁ = ts₁} {ws₁ = ws₁} h lt lw = record {
        runs = still_runs g ts ws ts₁ ws₁ lt lw fuel b l.runs;
        texts = lt ∙ l.texts;
        words = lw ∙ l.words;
        rest = one_member ∙ after_in _ h;
      }

pub entered_loop : (body : Act Flow) (g : List ℕ) (p slot i : ℕ) {first many unit : ℕ} {r : Result Flow Fault} {ts ws ws₁ ts₂ ws₂ : List ℕ} → first ≡ first_at ws i → many ≡ count_at ws i → Enters ws unit ws₁
    → DoesIn ts ws₁ (own_from body g p slot first (first + many - first) >>= left unit) r ts₂ ws₂ → DoesIn ts ws (loop_over body g p slot i) r ts₂ ws₂
unfolding loop_over ◌>>=◌ go_on held store
entered_loop body g p slot i {first = first} {many = many} e f h q =
    let d : first + many - first ≡ many = omega arith in
    record { equal = (rw d at q).equal ∙ rw (h.words, e, f, h.outer) }

-- ---- the loop
module _ (p : ℕ) {ts ws : List ℕ} where
  pub not_shape : (v : Value) (k : ℕ → Act Flow) → ((n : ℕ) → v ≡ Shape n → ⊥) → DoesIn ts ws (usable p v >>= λ _. with_group p v k) (Err (Misuse p)) ts ws
  unfolding usable is_dead refuse give with_group with_shape fail ◌>>=◌ go_on out_of
  not_shape (Shape i) k o = absurd (o i refl)
  not_shape (Integer z) k o = record { equal = refl }
  not_shape (Text h) k o = record { equal = refl }
  not_shape (Boolean b) k o = record { equal = refl }
  not_shape Nothing k o = record { equal = refl }
  not_shape (Table t) k o = record { equal = refl }

  -- what is asked of the group, and then the loop
  pub opened_by : (slot i : ℕ) (over : ℕ → Act Flow) {r : Result Flow Fault} {ts₁ ws₁ : List ℕ} → DoesIn ts ws (opening slot i p >>= λ _. over i) r ts₁ ws₁
      → DoesIn ts ws (usable p (Shape i) >>= λ _. with_group p (Shape i) λ j. declare_once slot >>= λ _. over j) r ts₁ ws₁
  unfolding opening usable is_dead with_group with_shape if◌then◌otherwise◌ ◌>>=◌ go_on refuse give fail held
  opened_by slot i over h = record { equal = h.equal ∙ go (destroyed_at ws i) (is_group_at ws i) refl refl }
    where
      go : (b c : Bool) → destroyed_at ws i ≡ b → is_group_at ws i ≡ c
          → (opening slot i p >>= λ _. over i) (raw ts ws) ≡ (usable p (Shape i) >>= λ _. with_group p (Shape i) λ j. declare_once slot >>= λ _. over j) (raw ts ws)
      go true c d f = rw d refl
      go false true d f = rw (d, f) refl
      go false false d f = rw (d, f) refl
