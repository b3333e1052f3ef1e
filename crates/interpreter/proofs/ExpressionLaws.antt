-- How expressions go on, by what was asked so far.
use Prim.Native.Nat.{ℕ, zero, suc, ◌+◌, ◌-◌, ◌≤◌, ◌<◌}
use mathlib.Core.Path.{◌≡◌, refl, sym, ◌∙◌}
use mathlib.Core.Bool.{Bool, true, false}
use mathlib.Core.List.{List}
use native.Mathlib.Omega.{arith}
use lib.ListN.{get_or, length}
use lib.Dec.{ltb}
use borrow.Author.Tests.{lt-ltb, le-ltb, ltb-true, ne_eqb}
use Rattle.std.specs.Prelude.{Result, Ok, Err}
use Rattle.meaning.specs.Basics.{if◌then◌otherwise◌}
use Rattle.machine.specs.Opcodes.{tag_in, size_in, number_in, library_in, callee_in, argument_root, tag_table, tag_call}
use Rattle.machine.specs.declared.Value.{Value}
use Rattle.machine.specs.declared.Fault.{Fault}
use Rattle.machine.specs.declared.Fault.TheVariants.{Misuse}
use Rattle.machine.specs.Words.{packed}
use Rattle.machine.specs.Layout.{arguments_held, Lent}
use Rattle.machine.specs.Act.{raw, done, go_on, ◌>>=◌, give, fail, refuse, load, count, out_of, Does, DoesIn}
use Rattle.machine.specs.Primaries.{leaf, sized, lacks_table, applied, called}
use Rattle.machine.specs.Evaluate.{Evaluator, Invoke, Setting, argument_of, argument_after, arguments_from, invoked, call_at, second_of, first_of, operands_at, expression_by}
use Rattle.machine.specs.Interpret.{expression_at, invoke_at, body_at}
use Rattle.machine.proofs.Acts.{fails_in}
use Rattle.interpreter.specs.Cycle.{call_in}
use Rattle.interpreter.proofs.Going.{after_in, as_in}

-- what is lent stays as long
pub still_lent : (g ts ws ts₁ ws₁ : List ℕ) → Lent g ts ws → length ts₁ ≡ length ts → length ws₁ ≡ length ws → Lent g ts₁ ws₁
still_lent g ts ws ts₁ ws₁ h a b =
    let r = h.room in
    record { room = record { steps = r.steps; shapes = r.shapes; entries = r.entries; text = r.text; calls = r.calls; words = rw b r.words }; texts = rw a h.texts }

-- ---- operands
module _ (inner : Evaluator) (e : Setting) (w x p : ℕ) {ts ws : List ℕ} where
  module _ {r : Result Value Fault} {ts' ws' : List ℕ} where
    pub operands_by : {z : ℕ} → z ≡ x - 1 - number_in w → DoesIn ts ws (inner z p >>= λ v. first_of inner e w (packed v) x p) r ts' ws' → DoesIn ts ws (operands_at inner e w x p) r ts' ws'
    unfolding operands_at
    operands_by d h = rw d at h

    module _ {tag k : ℕ} (u : Value) (i : tag ≡ tag_in w) (m : k ≡ packed u) where
      pub second_by : (tag ≡ tag_table → ⊥) → {b : Bool} → b ≡ lacks_table tag k → b ≡ false → {y : ℕ} → y ≡ x - 1
          → DoesIn ts ws (inner y p >>= λ v. applied e.program e.grants tag p k (packed v)) r ts' ws' → DoesIn ts ws (first_of inner e w (packed u) x p) r ts' ws'
      unfolding first_of second_of if◌then◌otherwise◌ ◌>>=◌ go_on refuse give
      second_by t o c d h = record { equal = h.equal ∙ rw (← m, ← i, ne_eqb _ _ t, ← o, c, d) }

  pub table_made : {tag k : ℕ} (u : Value) → tag ≡ tag_in w → k ≡ packed u → tag ≡ tag_table → {r : Result Value Fault} {ws' : List ℕ} → Does ws (sized p k) r ws'
      → DoesIn ts ws (first_of inner e w (packed u) x p) r ts ws'
  unfolding first_of if◌then◌otherwise◌
  table_made u i m t h = record { equal = h.equal ts ∙ rw (m, ← i, t) }

  pub no_table : {tag k : ℕ} (u : Value) → tag ≡ tag_in w → k ≡ packed u → (tag ≡ tag_table → ⊥) → {b : Bool} → b ≡ lacks_table tag k → b ≡ true
      → DoesIn ts ws (first_of inner e w (packed u) x p) (Err (Misuse p)) ts ws
  unfolding first_of if◌then◌otherwise◌ ◌>>=◌ go_on refuse fail out_of
  no_table u i m t o q = record { equal = rw (← m, ← i, ne_eqb _ _ t, ← o, q) }

-- ---- by the root's word
module _ (inner : Evaluator) (invoke : Invoke) (e : Setting) (w x p : ℕ) {tag : ℕ} {ts ws ws' : List ℕ} {r : Result Value Fault} (i : tag ≡ tag_in w) where
  pub is_leaf : tag < tag_table → Does ws (leaf p w) r ws' → DoesIn ts ws (expression_by inner invoke e w x p) r ts ws'
  unfolding expression_by if◌then◌otherwise◌
  is_leaf l h = record { equal = h.equal ts ∙ rw (← i, lt-ltb tag tag_table l) }

  pub is_call : {ts' : List ℕ} → tag ≡ tag_call → DoesIn ts ws (call_at inner invoke e w x p) r ts' ws' → DoesIn ts ws (expression_by inner invoke e w x p) r ts' ws'
  unfolding expression_by if◌then◌otherwise◌
  is_call k h = record { equal = h.equal ∙ rw (← i, k) }

  pub has_operands : {ts' : List ℕ} → tag_table ≤ tag → (tag ≡ tag_call → ⊥) → DoesIn ts ws (operands_at inner e w x p) r ts' ws' → DoesIn ts ws (expression_by inner invoke e w x p) r ts' ws'
  unfolding expression_by if◌then◌otherwise◌
  has_operands l k h = record { equal = h.equal ∙ rw (← i, le-ltb tag tag_table l, ne_eqb _ _ k) }

-- ---- at a fuel
module _ (e : Setting) (x p : ℕ) {ts ws : List ℕ} (fuel : ℕ) where
  pub too_deep : fuel ≡ 0 → DoesIn ts ws (expression_at fuel e x p) (Err (Misuse p)) ts ws
  unfolding expression_at fail out_of
  too_deep z = record { equal = rw z }

  pub begun : (fuel ≡ 0 → ⊥) → {w : ℕ} → w ≡ get_or e.code x 0 → {r : Result Value Fault} {ts' ws' : List ℕ}
      → DoesIn ts ws (count e.grants p >>= λ _. expression_by (expression_at (fuel - 1) e) (invoke_at (fuel - 1) e) e w x p) r ts' ws' → DoesIn ts ws (expression_at fuel e x p) r ts' ws'
  unfolding expression_at body_at
  begun n f h =
      let deeper : fuel ≡ suc (fuel - 1) = omega (arith, n) in
      record { equal = h.equal ∙ sym (rw deeper (rw (← f, ← deeper))) }

-- ---- calls
-- what is left to push from a root on comes to what was to be pushed at first
pub record Pushing (e : Setting) (fuel : ℕ) (ts₀ ws₀ : List ℕ) (w x p base : ℕ) (ts ws : List ℕ) (y : ℕ) : Type 0 where
  pub lent : Lent e.grants ts ws
  pub texts : length ts ≡ length ts₀
  pub words : length ws ≡ length ws₀
  pub rounds : ℕ
  pub enough : x < y + rounds
  pub within : y ≤ x
  pub rest : call_in fuel e w x p (raw ts₀ ws₀) ≡ (arguments_from rounds (expression_at fuel e) e y x p >>= λ _. invoked (invoke_at fuel e) e w p base) (raw ts ws)

root_within : (w a x : ℕ) → argument_root w a x ≤ x
unfolding argument_root if◌then◌otherwise◌
root_within w a x = go (ltb (a + size_in w) x) refl
  where
    go : (b : Bool) → ltb (a + size_in w) x ≡ b → (if b then (λ _. a + size_in w) otherwise λ _. x) ≤ x
    go true q =
        let l : a + size_in w < x = ltb-true _ _ q in
        omega arith
    go false q = omega arith

root_behind : (w a x : ℕ) → a ≤ x → a ≤ argument_root w a x
unfolding argument_root if◌then◌otherwise◌
root_behind w a x m = go (ltb (a + size_in w) x) refl
  where
    go : (b : Bool) → ltb (a + size_in w) x ≡ b → a ≤ (if b then (λ _. a + size_in w) otherwise λ _. x)
    go true q = omega arith
    go false q = m

pub root_falls : (k x y z : ℕ) → y < x → z ≡ argument_root k (y + 1) x → x - z < x - y
root_falls k x y z l e = let b : y + 1 ≤ z = rw e (root_behind k (y + 1) x (omega arith)) in omega arith

module _ {e : Setting} {fuel : ℕ} {ts₀ ws₀ : List ℕ} {w x p base : ℕ} where
  pub push_first : (a k y : ℕ) → Lent e.grants ts₀ ws₀ → base ≡ get_or ws₀ arguments_held 0 → a ≡ x - (size_in w - 1) → k ≡ get_or e.code a 0 → y ≡ argument_root k a x
      → Pushing e fuel ts₀ ws₀ w x p base ts₀ ws₀ y
  unfolding call_at ◌>>=◌ go_on load
  push_first a k y l i b c d =
      record { lent = l; texts = refl; words = refl; rounds = suc x; enough = omega arith; within = rw d (root_within k a x); rest = rw (← i, ← b, ← c, ← d) refl }

  module _ {ts ws : List ℕ} {y : ℕ} (h : Pushing e fuel ts₀ ws₀ w x p base ts ws y) where
    ends : (rounds : ℕ) → x ≤ y → arguments_from rounds (expression_at fuel e) e y x p (raw ts ws) ≡ done tt (raw ts ws)
    unfolding arguments_from give if◌then◌otherwise◌
    ends zero l = refl
    ends (suc rounds) l = rw (le-ltb y x l)

    module _ (l : x ≤ y) {n : ℕ} (d : n ≡ library_in w) where
      ended : call_in fuel e w x p (raw ts₀ ws₀) ≡ invoked (invoke_at fuel e) e w p base (raw ts ws)
      unfolding ◌>>=◌ go_on
      ended = h.rest ∙ rw (ends h.rounds l)

      pub library_called : {r : Result Value Fault} {ws₁ : List ℕ} → (n ≡ 11 → ⊥) → Does ws (called e.grants n p base) r ws₁ → DoesIn ts₀ ws₀ (call_in fuel e w x p) r ts ws₁
      unfolding invoked if◌then◌otherwise◌
      library_called o q = record { equal = q.equal ts ∙ sym (ended ∙ rw (← d, ne_eqb _ _ o)) }

      pub procedure_called : {callee : ℕ} {r : Result Value Fault} {ts₁ ws₁ : List ℕ} → n ≡ 11 → callee ≡ callee_in w → DoesIn ts ws (invoke_at fuel e callee p base) r ts₁ ws₁ → DoesIn ts₀ ws₀ (call_in fuel e w x p) r ts₁ ws₁
      unfolding invoked if◌then◌otherwise◌
      procedure_called k i q = record { equal = q.equal ∙ sym (ended ∙ rw (← d, k, i)) }

    module _ (l : y < x) where
      again : arguments_from h.rounds (expression_at fuel e) e y x p (raw ts ws)
          ≡ (argument_of (expression_at fuel e) y p >>= λ _. arguments_from (h.rounds - 1) (expression_at fuel e) e (argument_after e (y + 1) x) x p) (raw ts ws)
      unfolding arguments_from if◌then◌otherwise◌
      again = go h.rounds h.enough
        where
          go : (rounds : ℕ) → x < y + rounds → arguments_from rounds (expression_at fuel e) e y x p (raw ts ws)
              ≡ (argument_of (expression_at fuel e) y p >>= λ _. arguments_from (rounds - 1) (expression_at fuel e) e (argument_after e (y + 1) x) x p) (raw ts ws)
          go zero b = absurd (omega arith)
          go (suc rounds) b =
              let k : suc rounds - 1 ≡ rounds = omega arith in
              rw (lt-ltb y x l, k) refl

      pub push_fails : {ts₁ ws₁ : List ℕ} {f : Fault} → DoesIn ts ws (argument_of (expression_at fuel e) y p) (Err f) ts₁ ws₁ → DoesIn ts₀ ws₀ (call_in fuel e w x p) (Err f) ts₁ ws₁
      push_fails c = as_in h.rest (fails_in _ (as_in again (fails_in _ c)))

      pub push_next : {ts₁ ws₁ : List ℕ} (u : Unit {0}) (k z : ℕ) → length ts₁ ≡ length ts → length ws₁ ≡ length ws → DoesIn ts ws (argument_of (expression_at fuel e) y p) (Ok u) ts₁ ws₁
          → k ≡ get_or e.code (y + 1) 0 → z ≡ argument_root k (y + 1) x → Pushing e fuel ts₀ ws₀ w x p base ts₁ ws₁ z
      unfolding ◌>>=◌
      push_next {ts₁ = ts₁} {ws₁ = ws₁} u k z i j c m n =
          record {
            lent = still_lent e.grants ts ws ts₁ ws₁ h.lent i j;
            texts = i ∙ h.texts;
            words = j ∙ h.words;
            rounds = h.rounds - 1;
            enough = let b : y + 1 ≤ z = rw n (root_behind k (y + 1) x (omega arith)) in omega (arith, h.enough);
            within = rw n (root_within k (y + 1) x);
            rest = h.rest ∙ rw (again, after_in (λ _. arguments_from (h.rounds - 1) (expression_at fuel e) e (argument_after e (y + 1) x) x p) c, n, m) refl;
          }
