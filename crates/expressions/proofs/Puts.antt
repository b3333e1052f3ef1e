-- The word behind what was read: what the small functions answer.
-- Assumes nothing.
use Prim.Native.Nat.{ℕ, ◌+◌, ◌-◌, ◌%◌, ◌<◌, ◌≤◌}
use mathlib.Core.Path.{◌≡◌, ◌∙◌, sym}
use mathlib.Core.Bool.{Bool, true, false, not}
use mathlib.Core.List.{List}
use borrow.Author.Tests.{eq-eqb, ne_eqb}
use native.Mathlib.Omega.{arith}
use lib.ListN.{length, set}
use Rattle.std.specs.Prelude.{Ok, Err}
use Rattle.meaning.specs.Basics.{if◌then◌otherwise◌}
use Rattle.meaning.specs.Grammar.{no_level}
use Rattle.machine.specs.Opcodes.{word}
use Rattle.expressions.specs.declared.Read.{Read}
use Rattle.expressions.specs.declared.Target.{Target}
use Rattle.expressions.specs.declared.Target.TheVariants.{Neither}
use Rattle.expressions.specs.Words.{kind_at, payload_at, signed_at, leaf, primary, seen, written}
use Rattle.expressions.specs.Steps.{closed, finished, combined}
use Rattle.expressions.proofs.Answers.{take_put, says, refused}
use Rattle.expressions.proofs.Primaries.{primary_digits, primary_large, primary_minus, primary_lower, primary_negative}

module _ (s₀ s : List ℕ) (b : Read) (tag n w : ℕ) (p : s ≡ set s₀ b.word w) (l : b.word < length s₀) where
  pub joins_at : (m : ℕ) (target : Target) → w ≡ word tag (b.word - n + 1) (b.word - m)
      → seen (Ok (record { token = b.token; word = b.word + 1; target = target })) s ≡ combined tag n m target (seen (Ok b) s₀)
  unfolding seen combined
  joins_at m target q = rw (p, q, take_put s₀ b.word _ l)

  pub finishes_at : (x : ℕ) → w ≡ word tag (b.word - n + 1) x
      → seen (Ok (record { token = b.token; word = b.word + 1; target = Neither })) s ≡ finished tag n x (seen (Ok b) s₀)
  unfolding seen finished
  finishes_at x q = rw (p, q, take_put s₀ b.word _ l)

pub leaf_put : (s₀ s : List ℕ) (j n tag x : ℕ) (target : Target) (w : ℕ) → w ≡ word tag 1 x → s ≡ set s₀ n w → n < length s₀
    → seen (Ok (record { token = j; word = n + 1; target = target })) s ≡ written (leaf tag x target j) n s₀
unfolding seen written
leaf_put s₀ s j n tag x target w q p l = rw (p, q, take_put s₀ n _ l)

-- ---- the token that closes
module _ (ws : List ℕ) (kind : ℕ) (e : Read) (found : ℕ) (f : found ≡ kind_at ws e.token) where
  pub close_at : found ≡ kind → Ok (record { token = e.token + 1; word = e.word; target = Neither }) ≡ closed kind ws e
  unfolding closed if◌then◌otherwise◌
  close_at q = rw (← f, eq-eqb _ _ q)

  pub close_other : (found ≡ kind → ⊥) → Err (record { number = 10; token = e.token }) ≡ closed kind ws e
  unfolding closed if◌then◌otherwise◌
  close_other q = rw (← f, ne_eqb _ _ q)

-- ---- constants
module _ (ws : List ℕ) (i n : ℕ) (s₀ : List ℕ) (k : kind_at ws i ≡ 2) (x : ℕ) (p : x ≡ payload_at ws i) where
  pub digits_large : 2147483647 < x → seen (Err (record { number = 10; token = i })) s₀ ≡ written (primary no_level ws i) n s₀
  digits_large l = refused (says n s₀) _ s₀ (primary_large no_level ws i k (omega arith))

  pub digits_leaf : (r : Read) (s : List ℕ) → x ≤ 2147483647 → seen (Ok r) s ≡ written (leaf 1 x Neither (i + 1)) n s₀ → seen (Ok r) s ≡ written (primary no_level ws i) n s₀
  digits_leaf r s l h = rw (primary_digits no_level ws i k (omega arith), ← p) h

not_true : (b : Bool) → not b ≡ true → b ≡ false
not_true true e = sym e
not_true false e = cc

not_false : (b : Bool) → not b ≡ false → b ≡ true
not_false true e = cc
not_false false e = sym e

module _ (ws : List ℕ) (i n : ℕ) (s₀ : List ℕ) (k : kind_at ws i ≡ 45) (signed : Bool) (h : signed ≡ signed_at ws i) where
  pub minus_alone : not signed ≡ true → seen (Err (record { number = 10; token = i })) s₀ ≡ written (primary no_level ws i) n s₀
  minus_alone q = refused (says n s₀) _ s₀ (primary_minus no_level ws i k (sym h ∙ not_true signed q))

  module _ (q : not signed ≡ false) (x : ℕ) (v : x ≡ payload_at ws (i + 1)) where
    pub minus_large : 2147483648 < x → seen (Err (record { number = 10; token = i + 1 })) s₀ ≡ written (primary no_level ws i) n s₀
    minus_large l = refused (says n s₀) _ s₀ (primary_lower no_level ws i k (sym h ∙ not_false signed q) (omega arith))

    pub minus_leaf : (r : Read) (s : List ℕ) → x ≤ 2147483648 → seen (Ok r) s ≡ written (leaf 1 ((4294967296 - x) % 4294967296) Neither (i + 1 + 1)) n s₀
        → seen (Ok r) s ≡ written (primary no_level ws i) n s₀
    minus_leaf r s l y =
        let u : i + 2 ≡ i + 1 + 1 = omega arith in
        rw (primary_negative no_level ws i k (sym h ∙ not_false signed q) (omega arith), u, ← v) y
