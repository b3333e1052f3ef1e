-- `writing::decimal::pair_length` meets its contract: each has at most 20 bytes.
-- Assumes nothing.
use Prim.Native.Nat.{◌+◌, ◌≤◌}
use native.Mathlib.Omega.{arith}
use Rattle.writing.proofs.Writers.{length_pair, pair_short}
use Rattle.writing.proofs.decimal.pair_length.Goals as goal

pub overflow_add-result : goal.overflow_add-result
overflow_add-result c = let h : c.decimal_length.result + c.decimal_length-2.result ≤ 40 = search pair_short in omega arith

pub returns : goal.returns
returns c = record {
  value = search length_pair;
  upper_bound = search pair_short;
}
