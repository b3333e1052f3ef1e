-- How statements go on, by what was asked so far.
use Prim.Native.Nat.{ℕ, suc, ◌+◌, ◌-◌, ◌≤◌, ◌<◌}
use mathlib.Core.Path.{◌≡◌, refl, sym, ◌∙◌}
use mathlib.Core.List.{List}
use native.Mathlib.Omega.{arith}
use lib.ListN.{get_or, length, take, drop}
use borrow.Author.Rules.{part_to_end}
use borrow.Author.Tests.{lt-ltb, le-ltb, ne_eqb}
use Rattle.std.specs.Prelude.{Bool, true, Result, Ok, Err}
use Rattle.meaning.specs.Basics.{if◌then◌otherwise◌}
use Rattle.machine.specs.Opcodes.{tag_in, size_in, place_in, extra_in, tag_declare, tag_update, tag_when, tag_while, tag_foreach, tag_return, tag_block}
use Rattle.machine.specs.declared.Value.{Value}
use Rattle.machine.specs.declared.Value.TheVariants.{Integer, Text, Boolean, Nothing, Table, Shape}
use Rattle.machine.specs.declared.Fault.{Fault}
use Rattle.machine.specs.declared.Fault.TheVariants.{Misuse, NoStepLeft}
use Rattle.machine.specs.declared.Flow.{Flow}
use Rattle.machine.specs.declared.Flow.TheVariants.{Onward, Returned}
use Rattle.machine.specs.Words.{kind_in, kind_shape, packed, unpacked}
use Rattle.machine.specs.Layout.{fixed_words, steps_granted}
use Rattle.machine.specs.Act.{raw, Act, ◌>>=◌, give, fail, count, passed, out_of, Does, DoesIn}
use Rattle.machine.specs.Tables.{store_entry}
use Rattle.machine.specs.Operate.{with_table}
use Rattle.machine.specs.Evaluate.{Evaluator, Setting, setting}
use Rattle.machine.specs.Effects.{declaring, finishing, saying}
use Rattle.machine.specs.Execute.{Executor, simple_at, update_value, update_in, update_at, test_of, continue, when_at, turning, looping, repeat_at, foreach_at, statements_from, counted_at, statement_by}
use Rattle.machine.specs.Procedures.{result_of}
use Rattle.machine.specs.Interpret.{expression_at, statement_at, body_at}
use Rattle.stores.proofs.Turns.{from_none}
use Rattle.std.specs.Result.{IsErrAnd}
use Rattle.machine.proofs.Acts.{passed_on, goes_in, fails_in, in_both, sure, given, failed}
use Rattle.interpreter.proofs.Going.{after_in, as_in, regrouped}
use Rattle.interpreter.proofs.ExpressionLaws as laws
use Rattle.interpreter.proofs.Fast.{Fast, plain, evaluates, unchanged}
use Rattle.effects.proofs.Laws.{is_return}
use Rattle.interpreter.specs.Asked.{Lent, Runs, Leaves}
use Rattle.interpreter.specs.Cycle.{repeat_in, statements_in, procedure_in, returned}

-- ---- what is lent stays as long
module _ (g ts ws ts₁ ws₁ : List ℕ) (i : length ts₁ ≡ length ts) (j : length ws₁ ≡ length ws) where
  pub still_lent : (fuel : ℕ) → Lent g ts ws fuel → Lent g ts₁ ws₁ fuel
  still_lent fuel s = record { lent = laws.still_lent g ts ws ts₁ ws₁ s.lent i j; deep = s.deep }

  pub still_runs : (fuel x : ℕ) → Runs g ts ws fuel x → Runs g ts₁ ws₁ fuel x
  still_runs fuel x s = record { lent = still_lent fuel s.lent; room = s.room }

-- one level deeper
pub deeper_lent : (g ts ws : List ℕ) (fuel : ℕ) → Lent g ts ws fuel → Lent g ts ws (fuel - 1)
deeper_lent g ts ws fuel l = record { lent = l.lent; deep = omega (arith, l.deep) }

-- ---- the code lent anew, as the part of it from 0 on
abbrev lent_anew : List ℕ → List ℕ
lent_anew s = take (length s - 0) (drop 0 s)

pub worked_anew : (fuel : ℕ) (code g ws : List ℕ) (y k : ℕ) (ws₁ : List ℕ) → Fast fuel (lent_anew code) g ws y k ws₁ → Fast fuel code g ws y k ws₁
worked_anew fuel code g ws y k ws₁ h = rw (part_to_end code 0) at h

pub evaluated_anew : (program code g : List ℕ) (fuel y p : ℕ) {r : Result Value Fault} {ts ws ts₁ ws₁ : List ℕ}
    → DoesIn ts ws (expression_at fuel (setting program (lent_anew code) g) y p) r ts₁ ws₁ → DoesIn ts ws (expression_at fuel (setting program code g) y p) r ts₁ ws₁
evaluated_anew program code g fuel y p h = rw (part_to_end code 0) at h

-- ---- worked out at once
pub no_shape_lem : (code g ts ws : List ℕ) (fuel y k : ℕ) (ws₁ : List ℕ) → Fast fuel code g ws y k ws₁ → Lent g ts ws fuel → (k ≡ 0 → ⊥) → kind_in k ≡ kind_shape → ⊥
no_shape_lem code g ts ws fuel y k ws₁ h l n = (plain fuel code g ws y k ws₁ h (omega (arith, l.lent.room.words)) n).no_shape_lem

module _ (e : Setting) (p : ℕ) {ts ws : List ℕ} (fuel y : ℕ) {k : ℕ} {ws₁ : List ℕ} (h : Fast fuel e.code e.grants ws y k ws₁) where
  module _ (l : Lent e.grants ts ws fuel) (n : k ≡ 0 → ⊥) {ws₂ : List ℕ} where
    at_once : {B : Type 0} {r : Result B Fault} (f : ℕ → Act B) → Does ws₁ (f k) r ws₂ → DoesIn ts ws (expression_at fuel e y p >>= λ v. f (packed v)) r ts ws₂
    at_once f d =
        let long : fixed_words ≤ length ws = omega (arith, l.lent.room.words) in
        goes_in _ (evaluates fuel e.code e.grants ws y k ws₁ h long n e.program ts p) (rw (plain fuel e.code e.grants ws y k ws₁ h long n).back (in_both d ts))

    pub simple_fast : (w x : ℕ) {r : Result Flow Fault} → y ≡ x + size_in w - 1 → Does ws₁ (finishing e.grants w k p) r ws₂ → DoesIn ts ws (simple_at (expression_at fuel e) e w x p) r ts ws₂
    unfolding simple_at
    simple_fast w x d q = rw (← d) (at_once (λ m. finishing e.grants w m p) q)

    pub test_fast : {r : Result Bool Fault} → Does ws₁ (saying k p) r ws₂ → DoesIn ts ws (test_of (expression_at fuel e) e y p) r ts ws₂
    unfolding test_of
    test_fast q = at_once (λ m. saying m p) q

  -- where that does not apply, the words are as they were
  pub evaluated : k ≡ 0 → {r : Result Value Fault} {ts₁ ws₂ : List ℕ} → DoesIn ts ws₁ (expression_at fuel e y p) r ts₁ ws₂ → DoesIn ts ws (expression_at fuel e y p) r ts₁ ws₂
  evaluated z d = rw (unchanged e.grants ws k ws₁ h z) at d

-- ---- statements that hold no others
module _ (eval : Evaluator) (e : Setting) (p : ℕ) {r : Result Flow Fault} {ts ws ts₁ ws₁ : List ℕ} where
  pub simple_by : (w x : ℕ) {y : ℕ} → y ≡ x + size_in w - 1 → DoesIn ts ws (eval y p >>= λ v. finishing e.grants w (packed v) p) r ts₁ ws₁ → DoesIn ts ws (simple_at eval e w x p) r ts₁ ws₁
  unfolding simple_at
  simple_by w x d h = rw d at h

  pub update_by : (y : ℕ) {wy b wb a : ℕ} → wy ≡ get_or e.code y 0 → b ≡ y - size_in wy → wb ≡ get_or e.code b 0 → a ≡ b - size_in wb
      → DoesIn ts ws (eval a p >>= λ v. with_table p v λ t. update_in eval e t y p) r ts₁ ws₁ → DoesIn ts ws (update_at eval e y p) r ts₁ ws₁
  unfolding update_at
  update_by y {b = b} {a = a} d₁ d₂ d₃ d₄ h =
      let k : b ≡ y - size_in (get_or e.code y 0) = d₂ ∙ rw d₁ in
      let t : a ≡ b - size_in (get_or e.code b 0) = d₄ ∙ rw d₃ in
      rw (← k, ← t) h

  pub key_by : (t y : ℕ) {wy b : ℕ} → wy ≡ get_or e.code y 0 → b ≡ y - size_in wy → DoesIn ts ws (eval b p >>= λ k. update_value eval e t (packed k) y p) r ts₁ ws₁
      → DoesIn ts ws (with_table p (Table t) λ n. update_in eval e n y p) r ts₁ ws₁
  unfolding with_table update_in
  key_by t y {b = b} d₁ d₂ h =
      let k : b ≡ y - size_in (get_or e.code y 0) = d₂ ∙ rw d₁ in
      rw (← k) h

  pub value_by : (t y : ℕ) {key : ℕ} (u : Value) → key ≡ packed u → DoesIn ts ws (eval y p >>= λ v. store_entry e.program e.grants t key (packed v) p >>= λ _. give Onward) r ts₁ ws₁
      → DoesIn ts ws (update_value eval e t (packed u) y p) r ts₁ ws₁
  unfolding update_value
  value_by t y u m h = rw m at h

pub not_table : {A : Type 0} (p : ℕ) {ts ws : List ℕ} (v : Value) (k : ℕ → Act A) → ((n : ℕ) → v ≡ Table n → ⊥) → DoesIn ts ws (with_table p v k) (Err (Misuse p)) ts ws
unfolding with_table fail out_of
not_table p (Table t) k o = absurd (o t refl)
not_table p (Integer z) k o = record { equal = refl }
not_table p (Text h) k o = record { equal = refl }
not_table p (Boolean b) k o = record { equal = refl }
not_table p Nothing k o = record { equal = refl }
not_table p (Shape i) k o = record { equal = refl }

-- ---- by the statement's word
module _ (eval : Evaluator) (inner : Executor) (e : Setting) (w x p : ℕ) {tag : ℕ} {ts ws ws₁ : List ℕ} {r : Result Flow Fault} (i : tag ≡ tag_in w) where
  pub is_loop : {k : ℕ} {ts₁ : List ℕ} → tag ≡ tag_while → k ≡ extra_in w → DoesIn ts ws (repeat_at eval inner e (x + k) p) r ts₁ ws₁ → DoesIn ts ws (statement_by eval inner e w x p) r ts₁ ws₁
  unfolding statement_by if◌then◌otherwise◌
  is_loop t d h = record { equal = h.equal ∙ rw (← i, t, d) }

  pub counted : {ts₁ : List ℕ} → (tag ≡ tag_while → ⊥) → DoesIn ts ws (count e.grants p >>= λ _. counted_at eval inner e w x p) r ts₁ ws₁ → DoesIn ts ws (statement_by eval inner e w x p) r ts₁ ws₁
  unfolding statement_by if◌then◌otherwise◌
  counted m h = record { equal = h.equal ∙ rw (← i, ne_eqb _ _ m) }

  pub is_declaration : {k : ℕ} → tag ≡ tag_declare → k ≡ extra_in w → Does ws (declaring k p) r ws₁ → DoesIn ts ws (counted_at eval inner e w x p) r ts ws₁
  unfolding counted_at if◌then◌otherwise◌
  is_declaration q d h = record { equal = h.equal ts ∙ rw (← i, q, d) }

  pub is_update : {y : ℕ} {ts₁ : List ℕ} → tag ≡ tag_update → y ≡ x + size_in w - 1 → DoesIn ts ws (update_at eval e y p) r ts₁ ws₁ → DoesIn ts ws (counted_at eval inner e w x p) r ts₁ ws₁
  unfolding counted_at if◌then◌otherwise◌
  is_update q d h = record { equal = h.equal ∙ rw (← i, q, d) }

  pub is_when : {k : ℕ} {ts₁ : List ℕ} → tag ≡ tag_when → k ≡ extra_in w → DoesIn ts ws (when_at eval inner e (x + k) p) r ts₁ ws₁ → DoesIn ts ws (counted_at eval inner e w x p) r ts₁ ws₁
  unfolding counted_at if◌then◌otherwise◌
  is_when q d h = record { equal = h.equal ∙ rw (← i, q, d) }

  pub is_foreach : {k slot : ℕ} {ts₁ : List ℕ} → tag ≡ tag_foreach → k ≡ extra_in w → slot ≡ get_or e.code (x + 1) 0 → DoesIn ts ws (foreach_at eval inner e slot (x + k) p) r ts₁ ws₁
      → DoesIn ts ws (counted_at eval inner e w x p) r ts₁ ws₁
  unfolding counted_at if◌then◌otherwise◌
  is_foreach q d s h = record { equal = h.equal ∙ rw (← i, q, d, s) }

  pub is_block : {k : ℕ} {ts₁ : List ℕ} → tag ≡ tag_block → k ≡ size_in w → DoesIn ts ws (statements_from (k + 1) inner e (x + 1) (x + k)) r ts₁ ws₁ → DoesIn ts ws (counted_at eval inner e w x p) r ts₁ ws₁
  unfolding counted_at if◌then◌otherwise◌
  is_block q d h = record { equal = h.equal ∙ rw (← i, q, d) }

  pub is_simple : {ts₁ : List ℕ} → (tag ≡ tag_declare → ⊥) → (tag ≡ tag_update → ⊥) → (tag ≡ tag_when → ⊥) → (tag ≡ tag_foreach → ⊥) → (tag ≡ tag_block → ⊥)
      → DoesIn ts ws (simple_at eval e w x p) r ts₁ ws₁ → DoesIn ts ws (counted_at eval inner e w x p) r ts₁ ws₁
  unfolding counted_at if◌then◌otherwise◌
  is_simple a b c d f h = record { equal = h.equal ∙ rw (← i, ne_eqb _ _ a, ne_eqb _ _ b, ne_eqb _ _ c, ne_eqb _ _ d, ne_eqb _ _ f) }

-- ---- at a fuel
module _ (e : Setting) (x : ℕ) {ts ws : List ℕ} (fuel : ℕ) where
  pub statement_too_deep : fuel ≡ 0 → DoesIn ts ws (statement_at fuel e x) (Err (Misuse 0)) ts ws
  unfolding statement_at fail out_of
  statement_too_deep z = record { equal = rw z }

  pub statement_begun : (fuel ≡ 0 → ⊥) → {w p : ℕ} → w ≡ get_or e.code x 0 → p ≡ place_in w → {r : Result Flow Fault} {ts₁ ws₁ : List ℕ}
      → DoesIn ts ws (statement_by (expression_at (fuel - 1) e) (statement_at (fuel - 1) e) e w x p) r ts₁ ws₁
      → DoesIn ts ws (statement_at fuel e x) r ts₁ ws₁
  unfolding statement_at
  statement_begun n f j h =
      let deeper : fuel ≡ suc (fuel - 1) = omega (arith, n) in
      record { equal = h.equal ∙ sym (rw deeper (rw (← deeper, ← f, ← j))) }

-- a return
module _ (e : Setting) {x : ℕ} {ts ws : List ℕ} {fuel w : ℕ} (s : Leaves e.code e.grants ts ws fuel w x) where
  no_other : (t : ℕ) → (t ≡ tag_return → ⊥) → tag_in w ≡ t → ⊥
  no_other t o e = o (sym e ∙ s.tagged)

  pub leave_by : (fuel ≡ 0 → ⊥) → {p : ℕ} → p ≡ place_in w → {r : Result Flow Fault} {ts₁ ws₁ : List ℕ}
      → DoesIn ts ws (count e.grants p >>= λ _. simple_at (expression_at (fuel - 1) e) e w x p) r ts₁ ws₁
      → DoesIn ts ws (statement_at fuel e x) r ts₁ ws₁
  unfolding counted_at if◌then◌otherwise◌
  leave_by n {p = p} j h = statement_begun e x fuel n s.word j (counted _ _ e w x p refl (no_other tag_while (λ e. omega (arith, e))) (rw (
    ne_eqb _ _ (no_other tag_declare (λ e. omega (arith, e))),
    ne_eqb _ _ (no_other tag_update (λ e. omega (arith, e))),
    ne_eqb _ _ (no_other tag_when (λ e. omega (arith, e))),
    ne_eqb _ _ (no_other tag_foreach (λ e. omega (arith, e))),
    ne_eqb _ _ (no_other tag_block (λ e. omega (arith, e))),
  ) h))

  pub leave_fails : {f : Fault} (a : Result Value Fault) {ts₁ ws₁ : List ℕ} → DoesIn ts ws (statement_at fuel e x) (Err f) ts₁ ws₁ → IsErrAnd a (λ y. y ≡ f)
      → DoesIn ts ws (statement_at fuel e x) (returned a) ts₁ ws₁
  unfolding returned
  leave_fails a h i = rw (passed_on a i) h

pub leave_gives : {code g ts ws : List ℕ} {fuel w x : ℕ} → Leaves code g ts ws fuel w x → (k p : ℕ) {ws₁ : List ℕ} {v : Value} → v ≡ unpacked k → Does ws₁ (finishing g w k p) (Ok (Returned v)) ws₁
leave_gives {g = g} {w = w} s k p {ws₁} {v} d = sure (is_return ws₁ g w k p (tag_in w) refl v s.tagged d)

-- what ends without a value goes on
pub goes_onward : (f : Flow) → ((v : Value) → f ≡ Returned v → ⊥) → f ≡ Onward
goes_onward Onward o = refl
goes_onward (Returned v) o = absurd (o v refl)

-- ---- a loop
-- what is left of it after i turns comes to the whole
pub record Looping (e : Setting) (fuel : ℕ) (ts₀ ws₀ : List ℕ) (y p : ℕ) (ts ws : List ℕ) (turns i : ℕ) : Type 0 where
  pub runs : Runs e.grants ts ws fuel (y + 1)
  pub texts : length ts ≡ length ts₀
  pub words : length ws ≡ length ws₀
  pub rest : repeat_in fuel e y p (raw ts₀ ws₀)
      ≡ looping (turns - i) (expression_at fuel e) e y p (statement_at fuel e (y + 1)) (raw ts ws)

module _ {e : Setting} {fuel : ℕ} {ts₀ ws₀ : List ℕ} {y p : ℕ} where
  pub loop_first : Runs e.grants ts₀ ws₀ fuel (y + 1) → Looping e fuel ts₀ ws₀ y p ts₀ ws₀ (steps_granted e.grants + 1) 0
  unfolding repeat_at
  loop_first s = record { runs = s; texts = refl; words = refl; rest = rw (from_none (steps_granted e.grants + 1)) refl }

  module _ {ts ws : List ℕ} {turns i : ℕ} (l : Looping e fuel ts₀ ws₀ y p ts ws turns i) where
    pub loop_short : turns ≤ i → DoesIn ts₀ ws₀ (repeat_in fuel e y p) (Err (NoStepLeft p)) ts ws
    unfolding looping
    loop_short z =
        let d : turns - i ≡ 0 = omega arith in
        let q : repeat_in fuel e y p (raw ts₀ ws₀) ≡ fail {A = Flow} 79 p (raw ts ws) = l.rest ∙ rw d refl in
        as_in q (in_both (failed (NoStepLeft p)) ts)

    module _ (m : i < turns) where
      pub turn_is : repeat_in fuel e y p (raw ts₀ ws₀) ≡ (count e.grants p >>= λ _. test_of (expression_at fuel e) e y p
          >>= λ b. if b then (λ _. statement_at fuel e (y + 1) >>= λ f. continue f (looping (turns - (i + 1)) (expression_at fuel e) e y p (statement_at fuel e (y + 1)))) otherwise λ _. give Onward) (raw ts ws)
      unfolding looping turning
      turn_is =
          let d : turns - i ≡ suc (turns - (i + 1)) = omega arith in
          l.rest ∙ rw d (regrouped (count e.grants p) (λ _. test_of (expression_at fuel e) e y p) _ (raw ts ws))

      pub loop_again : {u : Unit {0}} {ws₁ : List ℕ} → Does ws (count e.grants p) (Ok u) ws₁ → {b : Bool} {ts₂ ws₂ : List ℕ} → DoesIn ts ws₁ (test_of (expression_at fuel e) e y p) (Ok b) ts₂ ws₂ → b ≡ true
          → {ts₃ ws₃ : List ℕ} → DoesIn ts₂ ws₂ (statement_at fuel e (y + 1)) (Ok Onward) ts₃ ws₃ → length ts₃ ≡ length ts → length ws₃ ≡ length ws
          → Looping e fuel ts₀ ws₀ y p ts₃ ws₃ turns (i + 1)
      unfolding if◌then◌otherwise◌ continue
      loop_again h t b {ts₃} {ws₃} q j k = record {
        runs = still_runs e.grants ts ws ts₃ ws₃ j k fuel (y + 1) l.runs;
        texts = j ∙ l.texts;
        words = k ∙ l.words;
        rest = turn_is ∙ after_in _ (in_both h ts) ∙ after_in _ t ∙ rw b (after_in _ q);
      }

-- ---- one statement after the other
pub record Following (e : Setting) (fuel : ℕ) (ts₀ ws₀ : List ℕ) (a end rounds : ℕ) (ts ws : List ℕ) (at i : ℕ) : Type 0 where
  pub runs : Runs e.grants ts ws fuel end
  pub texts : length ts ≡ length ts₀
  pub words : length ws ≡ length ws₀
  pub rest : statements_in fuel e rounds a end (raw ts₀ ws₀)
      ≡ statements_from (rounds - i) (statement_at fuel e) e at end (raw ts ws)

module _ {e : Setting} {fuel : ℕ} {ts₀ ws₀ : List ℕ} {a end rounds : ℕ} where
  module _ {ts ws : List ℕ} {at i : ℕ} (l : Following e fuel ts₀ ws₀ a end rounds ts ws at i) where
    pub all_short : rounds ≤ i → DoesIn ts₀ ws₀ (statements_in fuel e rounds a end) (Ok Onward) ts ws
    unfolding statements_from
    all_short z =
        let d : rounds - i ≡ 0 = omega arith in
        let q : statements_in fuel e rounds a end (raw ts₀ ws₀) ≡ give Onward (raw ts ws) = l.rest ∙ rw d refl in
        as_in q (in_both (given Onward) ts)

    module _ (m : i < rounds) where
      one_by : rounds - i ≡ suc (rounds - (i + 1))
      one_by = omega arith

      pub all_done : end ≤ at → DoesIn ts₀ ws₀ (statements_in fuel e rounds a end) (Ok Onward) ts ws
      unfolding statements_from if◌then◌otherwise◌
      all_done b =
          let q : statements_in fuel e rounds a end (raw ts₀ ws₀) ≡ give Onward (raw ts ws) = l.rest ∙ rw one_by (rw (le-ltb at end b) refl) in
          as_in q (in_both (given Onward) ts)

      module _ (b : at < end) where
        one_more : statements_in fuel e rounds a end (raw ts₀ ws₀) ≡ (statement_at fuel e at >>= λ f. continue f (statements_from (rounds - (i + 1)) (statement_at fuel e) e (at + size_in (get_or e.code at 0)) end)) (raw ts ws)
        unfolding statements_from if◌then◌otherwise◌
        one_more = l.rest ∙ rw one_by (rw (lt-ltb at end b) refl)

        module _ {ts₁ ws₁ : List ℕ} where
          pub all_fails : {f : Fault} → DoesIn ts ws (statement_at fuel e at) (Err f) ts₁ ws₁ → DoesIn ts₀ ws₀ (statements_in fuel e rounds a end) (Err f) ts₁ ws₁
          all_fails h = as_in one_more (fails_in _ h)

          pub all_returns : {v : Value} → DoesIn ts ws (statement_at fuel e at) (Ok (Returned v)) ts₁ ws₁ → DoesIn ts₀ ws₀ (statements_in fuel e rounds a end) (Ok (Returned v)) ts₁ ws₁
          unfolding continue
          all_returns {v = v} h = as_in one_more (goes_in _ h (in_both (given (Returned v)) ts₁))

          pub all_again : {w n : ℕ} → length ts₁ ≡ length ts → length ws₁ ≡ length ws → DoesIn ts ws (statement_at fuel e at) (Ok Onward) ts₁ ws₁ → w ≡ get_or e.code at 0 → n ≡ size_in w
              → Following e fuel ts₀ ws₀ a end rounds ts₁ ws₁ (at + n) (i + 1)
          unfolding continue
          all_again j k h c d = record {
            runs = still_runs e.grants ts ws ts₁ ws₁ j k fuel end l.runs;
            texts = j ∙ l.texts;
            words = k ∙ l.words;
            rest = one_more ∙ after_in _ h ∙ rw (d, c) refl;
          }

          -- a return among a procedure's statements
          pub all_left : {r : Result Value Fault} → DoesIn ts ws (statement_at fuel e at) (returned r) ts₁ ws₁ → DoesIn ts₀ ws₀ (procedure_in fuel e rounds a end) r ts₁ ws₁
          unfolding returned result_of
          all_left {r = Ok v} h = goes_in result_of (all_returns h) (in_both (given v) ts₁)
          all_left {r = Err f} h = fails_in result_of (all_fails h)

-- ---- a body
pub in_body : (e : Setting) (fuel a n : ℕ) {r : Result Flow Fault} {ts ws ts₁ ws₁ : List ℕ}
    → DoesIn ts ws (statements_in fuel e (n + 1) a (a + n)) r ts₁ ws₁
    → DoesIn ts ws (body_at fuel e a n) r ts₁ ws₁
unfolding body_at
in_body e fuel a n h = h
