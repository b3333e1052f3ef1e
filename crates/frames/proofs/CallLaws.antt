-- Calls: what each way through the code does.
use Prim.Native.Nat.{ℕ, ◌+◌, ◌-◌, ◌*◌, ◌%◌, ◌≤◌, ◌<◌}
use mathlib.Core.Path.{◌≡◌, refl}
use Rattle.std.specs.Prelude.{Ok, Err}
use Rattle.machine.specs.declared.Fault.TheVariants.{Misuse}
use mathlib.Core.List.{List}
use native.Mathlib.Omega.{arith}
use lib.ListN.{get_or, set, length, length-set}
use borrow.Author.Tests.{lt-ltb, le-ltb}
use Rattle.machine.specs.Words.{kind_nothing, packed}
use Rattle.machine.specs.Layout.{declared, arguments_held, calls_used, running, loop_unit, frame, stack_words, fixed_words, call_place, argument_place, first_argument}
use Rattle.machine.specs.Act.{go_on, give, fail, refuse, load, store, out_of, Does, Gives, ◌>>=◌}
use Rattle.machine.specs.Stack.{drop_to}
use Rattle.machine.specs.Procedures.{keep, recall, first_word, frame_from, open_frame, resume}
use Rattle.meaning.specs.Basics.{if◌then◌otherwise◌}
use Rattle.stores.proofs.Turns.{Turns, turns_next, turns_last, from_none}

-- ---- the caller waits, and goes on
module _ (ws : List ℕ) (at : ℕ) where
  abbrev pub kept₁ : List ℕ
  kept₁ = set ws (at + 0) (get_or ws frame 0)

  abbrev pub kept₂ : List ℕ
  kept₂ = set kept₁ (at + 1) (get_or kept₁ declared 0)

  abbrev pub kept₃ : List ℕ
  kept₃ = set kept₂ (at + 2) (get_or kept₂ running 0)

  pub keeps : at ≡ call_place (get_or ws calls_used 0) → Gives ws keep tt (set kept₃ (at + 3) (get_or kept₃ loop_unit 0))
  unfolding keep ◌>>=◌ go_on load store
  keeps e = let z : at + 0 ≡ at = omega arith in record { equal = λ ts. rw (z, ← e) }

  abbrev pub recalled₁ : List ℕ
  recalled₁ = set ws frame (get_or ws (at + 0) 0)

  abbrev pub recalled₂ : List ℕ
  recalled₂ = set recalled₁ declared (get_or recalled₁ (at + 1) 0)

  abbrev pub recalled₃ : List ℕ
  recalled₃ = set recalled₂ running (get_or recalled₂ (at + 2) 0)

  pub recalls : (c : ℕ) → at ≡ call_place c → Gives ws (recall c) tt (set recalled₃ loop_unit (get_or recalled₃ (at + 3) 0))
  unfolding recall ◌>>=◌ go_on load store
  recalls c e = let z : at + 0 ≡ at = omega arith in record { equal = λ ts. rw (z, ← e) }

module _ (ws ws₁ : List ℕ) (c : ℕ) (l : length ws₁ ≡ length (set ws calls_used c)) where
  pub calls_long : fixed_words ≤ length ws → fixed_words ≤ length ws₁
  calls_long h = omega (arith, length-set ws calls_used c)

pub resumed : (ws ws₁ ws₂ : List ℕ) (base c : ℕ) → c ≡ get_or ws calls_used 0 - 1 → Gives (set ws calls_used c) (recall c) tt ws₁ → Gives ws₁ (drop_to base) tt ws₂
    → Gives ws (resume base) tt ws₂
unfolding resume ◌>>=◌ go_on load store
resumed ws ws₁ ws₂ base c e a b = record { equal = λ ts. rw (← e, ← a.equal ts) (b.equal ts) }

-- ---- frames
module _ (m k : ℕ) where
  pub parameter_word : k < m → kind_nothing + 281474976710656 * (k % 65536) ≡ first_word m k
  unfolding first_word if◌then◌otherwise◌ packed
  parameter_word h = rw (lt-ltb k m h)

  pub blank_word : m ≤ k → 0 ≡ first_word m k
  unfolding first_word if◌then◌otherwise◌
  blank_word h = rw (le-ltb k m h)

module _ (ws₀ : List ℕ) (top m n : ℕ) (ws : List ℕ) (k : ℕ) (g : Turns (frame_from top m) 0 n ws₀ ws k) where
  pub frame_more : (w : ℕ) → k < n → top + n ≤ stack_words → w ≡ first_word m k → Turns (frame_from top m) 0 n ws₀ (set ws (first_argument + top + k) w) (k + 1)
  unfolding frame_from ◌>>=◌ go_on store
  frame_more w h l e =
      let i : first_argument + top + k ≡ argument_place (top + k) = omega arith in
      turns_next (frame_from top m) 0 n ws₀ ws k g _ h (λ j ts. rw (← i, ← e)) (length-set ws (first_argument + top + k) w)

  pub all_framed : n ≤ k → Gives ws₀ (frame_from top m 0 n) tt ws
  unfolding frame_from give
  all_framed h = rw (from_none n) at (turns_last (frame_from top m) 0 n ws₀ ws k g h (λ ts. refl))

module _ (ws : List ℕ) (top m n p : ℕ) where
  pub top_beyond : stack_words < top → Does ws (open_frame top m n p) (Err (Misuse p)) ws
  unfolding open_frame ◌>>=◌ go_on refuse fail out_of
  top_beyond h = record { equal = λ ts. rw (lt-ltb stack_words (top + n) (omega arith)) }

  pub stack_full : top ≤ stack_words → stack_words - top < n → Does ws (open_frame top m n p) (Err (Misuse p)) ws
  unfolding open_frame ◌>>=◌ go_on refuse fail out_of
  stack_full l h = record { equal = λ ts. rw (lt-ltb stack_words (top + n) (omega arith)) }

  pub opened : (ws₁ : List ℕ) → top ≤ stack_words → n ≤ stack_words - top → Gives ws (frame_from top m 0 n) tt ws₁
      → Does ws (open_frame top m n p) (Ok tt) (set (set (set ws₁ frame top) declared m) arguments_held (top + n))
  unfolding open_frame ◌>>=◌ go_on refuse give store out_of
  opened ws₁ l h g = record { equal = λ ts. rw (le-ltb stack_words (top + n) (omega arith), ← g.equal ts) }
