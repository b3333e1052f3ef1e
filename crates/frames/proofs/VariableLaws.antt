-- Variables: what each way through the code does.
use Prim.Native.Nat.{ℕ, ◌+◌, ◌-◌, ◌/◌, ◌%◌}
use mathlib.Core.Path.{◌≡◌, refl, ap, sym, ◌∙◌}
use mathlib.Core.Bool.{Bool, true, false, not}
use mathlib.Core.List.{List}
use native.Mathlib.Omega.{arith}
use lib.ListN.{get_or, set}
use lib.Dec.{eqb}
use borrow.Author.Tests.{ne_eqb}
use Rattle.machine.specs.declared.Value.{Value}
use Rattle.std.specs.Prelude.{Result, Ok, Err}
use Rattle.machine.specs.declared.Fault.{Fault}
use Rattle.machine.specs.declared.Fault.TheVariants.{Destroyed, Undeclared, DeclaredTwice}
use Rattle.machine.specs.Words.{kind_in, kind_nothing, kind_shape, number_in, packed, unpacked}
use Rattle.values.proofs.Laws.{unpacked_shape, by_kind}
use Rattle.machine.specs.Layout.{declared, frame, argument_place}
use Rattle.machine.specs.Act.{raw, Out, done, stop, go_on, give, fail, refuse, load, store, held, out_of, Does, Gives, ◌>>=◌}
use Rattle.machine.specs.Shapes.{destroyed_at}
use Rattle.machine.specs.Variables.{is_dead, usable, word_in, order_in, with_word, with_order, holding_at, number_of, holding_of, holding, is_declared, variable, set_variable, set_order, declare, declare_once}
use Rattle.machine.specs.Stack.{argument_at}
use Rattle.stores.proofs.Acts.{words_in, not_stopped}
use Rattle.meaning.specs.Basics.{if◌then◌otherwise◌}

module _ (ws : List ℕ) (w : ℕ) where
  pub not_dead : (kind_in w ≡ kind_shape → ⊥) → false ≡ is_dead ws (unpacked w)
  unfolding is_dead
  not_dead h = by_kind w (λ v. false ≡ is_dead ws v) (λ _. refl) (λ _. refl) (λ _. refl) refl (λ _. refl) (λ e. absurd (h e))

  pub dead_shape : (b : Bool) (i : ℕ) → kind_in w ≡ kind_shape → i ≡ number_in w → b ≡ destroyed_at ws i → b ≡ is_dead ws (unpacked w)
  unfolding is_dead
  dead_shape b i h e d = d ∙ rw (e, unpacked_shape w h)

pub with_word_lem : (w v : ℕ) → v % 281474976710656 + (w - w % 281474976710656) ≡ with_word w v
unfolding with_word
with_word_lem w v = omega arith

module _ (ws : List ℕ) (at i : ℕ) (e : at ≡ argument_place i) where
  pub holds_at : get_or ws at 0 % 281474976710656 ≡ word_in (argument_at ws i)
  holds_at = rw e

  pub number_at : get_or ws at 0 / 281474976710656 ≡ order_in (argument_at ws i)
  number_at = rw e

pub holds_of : (ws : List ℕ) (f k n w : ℕ) → n ≡ number_of ws f k → w ≡ holding_at ws f n → w ≡ holding_of ws f k
holds_of ws f k n w e h = rw (← e) h

pub is_declared_lem : (ws : List ℕ) (n w : ℕ) → w ≡ holding ws n → not (eqb w 0) ≡ is_declared ws n
is_declared_lem ws n w h = rw h

module _ (ws : List ℕ) (p n w : ℕ) (h : w ≡ holding ws n) where
  pub unknown : w ≡ 0 → Does ws (variable p n) (Err (Undeclared p)) ws
  unfolding variable ◌>>=◌ go_on held refuse fail out_of
  unknown e = record { equal = λ ts. rw (← h, e) }

-- behind a variable that is declared
pub found : {ws : List ℕ} (p n : ℕ) {w : ℕ} {r : Result Value Fault} → w ≡ holding ws n → (w ≡ 0 → ⊥) → Does ws (usable p (unpacked w) >>= λ _. give (unpacked w)) r ws → Does ws (variable p n) r ws
unfolding variable ◌>>=◌ go_on held refuse give
found p n e h d = record { equal = λ ts. rw (← e, ne_eqb _ _ h) (d.equal ts) }

module _ (ws : List ℕ) (at : ℕ) where
  pub sets_variable : (n v w : ℕ) → at ≡ argument_place (get_or ws frame 0 + n) → w ≡ with_word (get_or ws at 0) v → Gives ws (set_variable n v) tt (set ws at w)
  unfolding set_variable ◌>>=◌ go_on load store
  sets_variable n v w e f = record { equal = λ ts. rw (f, ← e) }

  pub sets_order : (k n w : ℕ) → at ≡ argument_place (get_or ws frame 0 + k) → w ≡ with_order (get_or ws at 0) n → Gives ws (set_order k n) tt (set ws at w)
  unfolding set_order ◌>>=◌ go_on load store
  sets_order k n w e f = record { equal = λ ts. rw (f, ← e) }

module _ (ws : List ℕ) (n : ℕ) where
  pub declared_before : (p : ℕ) (b : Bool) → b ≡ is_declared ws n → b ≡ true → Does ws (declare n p) (Err (DeclaredTwice p)) ws
  unfolding declare ◌>>=◌ go_on held refuse fail out_of
  declared_before p b e t = record { equal = λ ts. rw (← e, t) }

  pub declares : (p : ℕ) (b : Bool) (ws₁ ws₂ : List ℕ) (k : ℕ) → b ≡ is_declared ws n → b ≡ false → Gives ws (set_variable n kind_nothing) tt ws₁ → k ≡ get_or ws₁ declared 0
      → Gives ws₁ (set_order k n) tt ws₂ → Does ws (declare n p) (Ok tt) (set ws₂ declared (k % 8192 + 1))
  unfolding declare ◌>>=◌ go_on held load store refuse give out_of packed
  declares p b ws₁ ws₂ k e t g d h = record { equal = λ ts. rw (← e, t, ← g.equal ts, ← d, ← h.equal ts) }

  declared_done : (ts ws' : List ℕ) (m q : ℕ) → is_declared ws n ≡ false → ◌≡◌ {A = Out (Unit {0})} (stop m q (raw ts ws')) (declare n 0 (raw ts ws)) → ⊥
  unfolding declare set_variable set_order ◌>>=◌ go_on held load store refuse give packed
  declared_done ts ws' m p e q = not_stopped (sym (rw e at q))

  pub declares_once : (r : Result (Unit {0}) Fault) (ws' : List ℕ) → Does ws (declare n 0) r ws' → Gives ws (declare_once n) tt ws'
  unfolding declare_once ◌>>=◌ go_on held give out_of if◌then◌otherwise◌ words_in
  declares_once r ws' h = record { equal = λ ts. go ts r (is_declared ws n) refl (h.equal ts) }
    where
      go : (ts : List ℕ) (r : Result (Unit {0}) Fault) (z : Bool) → is_declared ws n ≡ z → out_of r ts ws' ≡ declare n 0 (raw ts ws)
          → ◌≡◌ {A = Out (Unit {0})} (done tt (raw ts ws')) (declare_once n (raw ts ws))
      go ts (Ok tt) true e q = absurd (not_stopped (q ∙ sym ((declared_before 0 true (sym e) refl).equal ts)))
      go ts (Ok tt) false e q = q ∙ rw e
      go ts (Err f) true e q =
          let w : ws' ≡ ws = ap words_in (q ∙ sym ((declared_before 0 true (sym e) refl).equal ts)) in
          rw (w, e)
      go ts (Err f) false e q = absurd (declared_done ts ws' _ _ e q)
