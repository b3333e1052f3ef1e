-- `writing::decimal::decimal_length` meets its contract: with or without a minus.
-- Assumes nothing.
use Prim.Native.Nat.{◌≤◌}
use native.Mathlib.Omega.{arith}
use Rattle.writing.proofs.Decimals.{digits_limit}
use Rattle.writing.proofs.Writers.{length_negative, length_positive}
use Rattle.writing.proofs.decimal.decimal_length.Goals as goal

pub overflow_add-result : goal.overflow_add-result
overflow_add-result c = let h : c.digit_count-count.result ≤ 20 = search digits_limit in omega arith

pub returns-then-is_negative : goal.returns-then-is_negative
returns-then-is_negative c = search length_negative

pub returns-else-is_negative : goal.returns-else-is_negative
returns-else-is_negative c = search length_positive
