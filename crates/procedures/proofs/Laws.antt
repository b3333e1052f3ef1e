-- A turn of assigning parameters, and the ways before a call begins.
use Prim.Native.Nat.{ℕ, suc, ◌+◌, ◌-◌, ◌≤◌, ◌<◌}
use mathlib.Core.Path.{◌≡◌, refl, sym, ◌∙◌}
use mathlib.Core.List.{List}
use native.Mathlib.Omega.{arith}
use lib.ListN.{get_or, length}
use borrow.Author.Tests.{eq-eqb, ne_eqb}
use Rattle.std.specs.Prelude.{Result, Ok, Err}
use Rattle.machine.specs.declared.Fault.{Fault}
use Rattle.machine.specs.declared.Fault.TheVariants.{Misuse, DeclaredTwice}
use Rattle.machine.specs.declared.Flow.{Flow}
use Rattle.machine.specs.Opcodes.{table_place, parameters_in, frame_in}
use Rattle.machine.specs.Layout.{calls_used, running, loop_unit, calls_granted, argument_place, Room}
use Rattle.machine.specs.Act.{Act, go_on, give, fail, refuse, load, store, spend, out_of, Does, ◌>>=◌}
use Rattle.machine.specs.Effects.{assigning}
use Rattle.machine.specs.Procedures.{keep, open_frame, assign_from, begin}
use Rattle.machine.proofs.Acts.{sure}
use Rattle.stores.proofs.Turns.{Turns, turns_next, turns_last, from_none}

pub still_room : (g ws ws₁ : List ℕ) → Room g ws → length ws₁ ≡ length ws → Room g ws₁
still_room g ws ws₁ r l = record { steps = r.steps; shapes = r.shapes; entries = r.entries; text = r.text; calls = r.calls; words = rw l r.words }

-- ---- parameters
abbrev pub assigning_from : List ℕ → ℕ → ℕ → ℕ → ℕ → Act (Unit {0})
assigning_from g base p k m = assign_from g base k m p

module _ (g : List ℕ) (base n p : ℕ) (ws₀ ws : List ℕ) (k : ℕ) (t : Turns (assigning_from g base p) 0 n ws₀ ws k) where
  pub all_assigned : n ≤ k → Does ws₀ (assign_from g base 0 n p) (Ok tt) ws
  unfolding assign_from give
  all_assigned h = sure (rw (from_none n) at (turns_last (assigning_from g base p) 0 n ws₀ ws k t h (λ ts. refl)))

  module _ (h : k < n) (at : ℕ) (v : at ≡ argument_place (base + k)) (ws₁ : List ℕ) where
    pub assign_next : (f : Flow) → Does ws (assigning g p k (get_or ws at 0)) (Ok f) ws₁ → length ws₁ ≡ length ws → Turns (assigning_from g base p) 0 n ws₀ ws₁ (k + 1)
    unfolding assign_from ◌>>=◌ go_on load out_of
    assign_next f d l = turns_next (assigning_from g base p) 0 n ws₀ ws k t ws₁ h (λ m ts. rw (← v, ← d.equal ts)) l

    pub assign_stops : (e : Fault) → Does ws (assigning g p k (get_or ws at 0)) (Err e) ws₁ → Does ws₀ (assign_from g base 0 n p) (Err e) ws₁
    unfolding assign_from ◌>>=◌ go_on load out_of
    assign_stops e d =
        let c : n - k ≡ suc (n - (k + 1)) = omega arith in
        record { equal = λ ts. sym (rw ((rw (from_none n) at (t.rest ts)), c, ← v, ← d.equal ts)) }

-- ---- a call begins
module _ (g code : List ℕ) (callee top p base : ℕ) (ws : List ℕ) (at d : ℕ) (i : at ≡ table_place callee) (j : d ≡ get_or code at 0) where
  word_is : get_or code (table_place callee) 0 ≡ d
  word_is = rw (← i, ← j)

  pub no_procedure : d ≡ 0 → Does ws (begin g code callee top p base) (Err (Misuse p)) ws
  unfolding begin ◌>>=◌ go_on refuse fail out_of
  no_procedure z = record { equal = λ ts. rw (word_is, z) }

  module _ (z : d ≡ 0 → ⊥) (m : ℕ) (e : m ≡ parameters_in d) (k : ℕ) (f : k ≡ top - base) where
    pub other_number : (k ≡ m → ⊥) → Does ws (begin g code callee top p base) (Err (Misuse p)) ws
    unfolding begin ◌>>=◌ go_on refuse fail give out_of
    other_number o = record { equal = λ ts. rw (word_is, ne_eqb _ _ z, ← e, ← f, ne_eqb _ _ o) }

    module _ (o : k ≡ m) (n : ℕ) (s : n ≡ frame_in d) where
      pub name_twice : n ≡ 0 → Does ws (begin g code callee top p base) (Err (DeclaredTwice p)) ws
      unfolding begin ◌>>=◌ go_on refuse fail give out_of
      name_twice y = record { equal = λ ts. rw (word_is, ne_eqb _ _ z, ← e, ← f, eq-eqb k m o, ← s, y) }

      pub begun : (n ≡ 0 → ⊥) → (r : Result (Unit {0}) Fault) (ws' : List ℕ) → Does ws (keep >>= λ _. spend calls_used (calls_granted g) 1 81 p >>= λ _. open_frame top m n p >>= λ _. store running (callee + 1)
          >>= λ _. store loop_unit 0 >>= λ _. assign_from g base 0 m p) r ws' → Does ws (begin g code callee top p base) r ws'
      unfolding begin ◌>>=◌ go_on refuse give
      begun y r ws' h = record { equal = λ ts. h.equal ts ∙ sym (rw (word_is, ne_eqb _ _ z, ← e, ← f, eq-eqb k m o, ← s, ne_eqb _ _ y)) }
