-- Digits: how many there are, and the number that they write.
-- Assumes nothing.
use Prim.Native.Nat.{ℕ, ◌+◌, ◌-◌, ◌*◌, ◌^◌, ◌≤◌, ◌<◌}
use mathlib.Core.Bool.{false}
use mathlib.Core.List.{List}
use mathlib.Core.Path.{◌≡◌}
use native.Mathlib.Nat.{pow-suc}
use native.Mathlib.Numerals.{add-one}
use native.Mathlib.Omega.{arith}
use lib.ListN.{length, get_or, drop, drop_of_length-le}
use lib.Seq.{drop-cons}
use Rattle.meaning.specs.Basics.{span}
use Rattle.meaning.specs.Byte.{is_digit}
use Rattle.meaning.specs.Grammar.{numeral, numeral_from}
use Rattle.numerals.proofs.Spans.{Spanning, span_stop, span_over}

-- ---- how many
module _ (s : List ℕ) (i : ℕ) (g : Spanning is_digit s 0 i) where
  pub count_stop : i < length s → is_digit (get_or s i 0) ≡ false → i ≡ span is_digit s
  count_stop h e = omega (arith, span_stop is_digit s 0 i g h e)

  pub count_over : length s ≤ i → i ≡ span is_digit s
  count_over h = omega (arith, span_over is_digit s 0 i g h)

-- ---- their value: v is that of the first i, and small, whatever the bytes are
pub record Valued (x : List ℕ) (v i : ℕ) : Type 0 where
  pub few : i ≤ length x
  pub rest : numeral_from v (drop i x) ≡ numeral x
  pub small : v + 23 ≤ 23 * 10 ^ i

module _ (x : List ℕ) (v i : ℕ) (g : Valued x v i) where
  pub value_more : (d : ℕ) → get_or x i 0 < 256 → i < length x → d ≡ get_or x i 0 - 48 → Valued x (10 * v + d) (i + 1)
  unfolding numeral_from
  value_more d b l e = record {
    few = omega arith;
    rest = rw (e, add-one i) (rw (drop-cons x i 0 l) at g.rest);
    small = rw (add-one i) (omega (arith, g.small, pow-suc 10 i));
  }

  pub value_all : length x ≤ i → v ≡ numeral x
  unfolding numeral_from
  value_all h = rw (drop_of_length-le x {i = i} h) at g.rest
