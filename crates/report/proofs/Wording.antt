-- The sentence of a number.
-- Assumes nothing.
use Prim.Native.Nat.{ℕ, ◌≤◌}
use mathlib.Core.Bool.{Bool, true, false, cond}
use mathlib.Core.List.{List}
use mathlib.Core.Path.{◌≡◌}
use native.Mathlib.Omega.{arith}
use borrow.Author.Tests.{ne_eqb}
use lib.Dec.{eqb}
use lib.ListN.{length}
use Rattle.meaning.specs.Basics.{bytes}
use Rattle.writing.specs.Placed.{WroteAt}
use Rattle.report.specs.Sentences.{sentence_of}

module _ (t : Bool) {at r : ℕ} {d after : List ℕ} where
  pub said_end : t ≡ true → WroteAt at (bytes "The program ends here, and the grammar asks for more.\n") d after r → WroteAt at (sentence_of 10 t) d after r
  unfolding sentence_of
  said_end e w = rw e w

  pub said_here : t ≡ false → WroteAt at (bytes "The program is not written as the grammar asks from here on.\n") d after r
      → WroteAt at (sentence_of 10 t) d after r
  unfolding sentence_of
  said_here e w = rw e w

module _ (n : ℕ) (t : Bool) {at r : ℕ} {d after : List ℕ} where
  pub said_malformed : n ≡ 10 → WroteAt at (sentence_of 10 t) d after r → WroteAt at (sentence_of n t) d after r
  said_malformed e w = rw e w

  pub said_doubled : n ≡ 60 → WroteAt at (bytes "This procedure has the name of an earlier one or of the library.\n") d after r
      → WroteAt at (sentence_of n t) d after r
  unfolding sentence_of
  said_doubled e w = rw e w

  pub said_long : n ≡ 73 → WroteAt at (bytes "The program has more than 32,768 bytes.\n") d after r → WroteAt at (sentence_of n t) d after r
  unfolding sentence_of
  said_long e w = rw e w

  pub said_many : n ≡ 74 → WroteAt at (bytes "The program has more than 8,192 tokens. This is the first one too many.\n") d after r
      → WroteAt at (sentence_of n t) d after r
  unfolding sentence_of
  said_many e w = rw e w

  pub said_deep : n ≡ 75 → WroteAt at (bytes "This opens a 65th level, and a program has at most 64.\n") d after r → WroteAt at (sentence_of n t) d after r
  unfolding sentence_of
  said_deep e w = rw e w

  pub said_other : (n ≡ 10 → ⊥) → (n ≡ 60 → ⊥) → (n ≡ 73 → ⊥) → (n ≡ 74 → ⊥) → (n ≡ 75 → ⊥)
      → WroteAt at (bytes "The program is not well formed.\n") d after r → WroteAt at (sentence_of n t) d after r
  unfolding sentence_of
  said_other n₀ n₁ n₂ n₃ n₄ w = rw (ne_eqb n 10 n₀, ne_eqb n 60 n₁, ne_eqb n 73 n₂, ne_eqb n 74 n₃, ne_eqb n 75 n₄) w

pub length_sentence : (n : ℕ) (t : Bool) → length (sentence_of n t) ≤ 80
unfolding sentence_of
length_sentence n t = by (eqb n 10) (eqb n 60) (eqb n 73) (eqb n 74) (eqb n 75) t
  where
    by : (a b c e f t : Bool) → length
        (cond a
        (cond t
        (bytes "The program ends here, and the grammar asks for more.\n")
        (bytes "The program is not written as the grammar asks from here on.\n"))
        (cond b (bytes "This procedure has the name of an earlier one or of the library.\n")
        (cond c (bytes "The program has more than 32,768 bytes.\n")
        (cond e (bytes "The program has more than 8,192 tokens. This is the first one too many.\n")
        (cond f (bytes "This opens a 65th level, and a program has at most 64.\n")
        (bytes "The program is not well formed.\n")))))) ≤ 80
    by true b c e f true = omega arith
    by true b c e f false = omega arith
    by false true c e f t = omega arith
    by false false true e f t = omega arith
    by false false false true f t = omega arith
    by false false false false true t = omega arith
    by false false false false false t = omega arith
