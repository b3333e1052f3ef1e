-- What a primary is, by the kind of its first token.
-- Assumes nothing.
use Prim.Native.Nat.{ℕ, ◌+◌, ◌<◌, ◌≤◌}
use mathlib.Core.Path.{◌≡◌}
use mathlib.Core.Bool.{false, true, ◌&&◌}
use mathlib.Core.List.{List}
use borrow.Author.Tests.{eqb-true, ne_eqb, le-leb, lt-leb}
use lib.Dec.{eqb}
use Rattle.meaning.specs.Basics.{if◌then◌otherwise◌}
use Rattle.meaning.specs.Token.{digits, close_paren, close_bracket}
use Rattle.meaning.specs.Grammar.{good, wrong, after, Inside, no_level, opening}
use Rattle.expressions.specs.declared.Target.TheVariants.{Neither, Name}
use Rattle.expressions.specs.Words.{kind_at, is, payload_at, place_at, signed_at, home_at, callee_at, part_at, piece, leaf, minus_bits, ReadPiece, expect, arguments, call_code, table_code, primary}
use Rattle.expressions.proofs.Tokens.{both_left}

module _ (inside : Inside ReadPiece) (ws : List ℕ) (i : ℕ) where
  pub primary_digits : kind_at ws i ≡ 2 → payload_at ws i ≤ 2147483647 → primary inside ws i ≡ leaf 1 (payload_at ws i) Neither (i + 1)
  unfolding primary if◌then◌otherwise◌
  primary_digits e l = rw (e, le-leb _ _ l)

  pub primary_large : kind_at ws i ≡ 2 → 2147483647 < payload_at ws i → primary inside ws i ≡ wrong 10 i
  unfolding primary if◌then◌otherwise◌
  primary_large e l = rw (e, lt-leb _ _ l)

  pub primary_minus : kind_at ws i ≡ 45 → signed_at ws i ≡ false → primary inside ws i ≡ wrong 10 i
  unfolding primary if◌then◌otherwise◌
  primary_minus e h = rw e (rw (rw e at h))

  module _ (e : kind_at ws i ≡ 45) (h : signed_at ws i ≡ true) where
    signed : is digits ws (i + 1) && eqb (place_at ws (i + 1)) (place_at ws i + 1) ≡ true
    signed = rw e at h

    pub primary_lower : 2147483648 < payload_at ws (i + 1) → primary inside ws i ≡ wrong 10 (i + 1)
    unfolding primary if◌then◌otherwise◌
    primary_lower l = rw (e, signed, eqb-true (kind_at ws (i + 1)) 2 (both_left _ _ signed), lt-leb _ _ l)

    pub primary_negative : payload_at ws (i + 1) ≤ 2147483648 → primary inside ws i ≡ leaf 1 (minus_bits (payload_at ws (i + 1))) Neither (i + 2)
    unfolding primary if◌then◌otherwise◌
    primary_negative l = rw (e, signed, eqb-true (kind_at ws (i + 1)) 2 (both_left _ _ signed), le-leb _ _ l)

  pub primary_string : kind_at ws i ≡ 3 → primary inside ws i ≡ leaf 2 (part_at ws i) Neither (i + 1)
  unfolding primary if◌then◌otherwise◌
  primary_string e = rw e

  pub primary_none : kind_at ws i ≡ 9 → primary inside ws i ≡ leaf 3 0 Neither (i + 1)
  unfolding primary if◌then◌otherwise◌
  primary_none e = rw e

  pub primary_true : kind_at ws i ≡ 10 → primary inside ws i ≡ leaf 4 1 Neither (i + 1)
  unfolding primary if◌then◌otherwise◌
  primary_true e = rw e

  pub primary_false : kind_at ws i ≡ 11 → primary inside ws i ≡ leaf 4 0 Neither (i + 1)
  unfolding primary if◌then◌otherwise◌
  primary_false e = rw e

  pub primary_name : kind_at ws i ≡ 1 → (kind_at ws (i + 1) ≡ 40 → ⊥) → primary inside ws i ≡ leaf 5 (home_at ws i) Name (i + 1)
  unfolding primary if◌then◌otherwise◌
  primary_name e h = rw (e, ne_eqb _ _ h)

  pub primary_call : kind_at ws i ≡ 1 → kind_at ws (i + 1) ≡ 40 → primary inside ws i
      ≡ opening inside (i + 1) λ inner. after (arguments inner ws (i + 2)) λ es j. good (piece (call_code (callee_at ws i) es) Neither) j
  unfolding primary if◌then◌otherwise◌
  primary_call e h = rw (e, h)

  pub primary_paren : kind_at ws i ≡ 40 → primary inside ws i ≡ opening inside i λ inner. after (inner (i + 1)) λ e j. expect close_paren ws j (piece e.code Neither)
  unfolding primary if◌then◌otherwise◌
  primary_paren e = rw e

  pub primary_table : kind_at ws i ≡ 91 → primary inside ws i ≡ opening inside i λ inner. after (inner (i + 1)) λ e j. expect close_bracket ws j (piece (table_code e.code) Neither)
  unfolding primary if◌then◌otherwise◌
  primary_table e = rw e

  pub primary_other : (k : ℕ) → k ≡ kind_at ws i → (k ≡ 2 → ⊥) → (k ≡ 45 → ⊥) → (k ≡ 3 → ⊥) → (k ≡ 9 → ⊥) → (k ≡ 10 → ⊥) → (k ≡ 11 → ⊥) → (k ≡ 1 → ⊥) → (k ≡ 40 → ⊥) → (k ≡ 91 → ⊥)
      → primary inside ws i ≡ wrong 10 i
  unfolding primary if◌then◌otherwise◌
  primary_other k e h2 h45 h3 h9 h10 h11 h1 h40 h91 =
      rw (← e, ne_eqb _ _ h2, ne_eqb _ _ h45, ne_eqb _ _ h3, ne_eqb _ _ h9)
      (rw (ne_eqb _ _ h10, ne_eqb _ _ h11, ne_eqb _ _ h1, ne_eqb _ _ h40, ne_eqb _ _ h91))

  -- a constant opens no level
  pub primary_constant : (k : ℕ) → k ≡ kind_at ws i → k ≡ 2 → primary inside ws i ≡ primary no_level ws i
  unfolding primary if◌then◌otherwise◌
  primary_constant k e h = rw (← e, h)

  pub primary_signed : (k : ℕ) → k ≡ kind_at ws i → k ≡ 45 → primary inside ws i ≡ primary no_level ws i
  unfolding primary if◌then◌otherwise◌
  primary_signed k e h = rw (← e, h)
