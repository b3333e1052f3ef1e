-- `writing::decimal::write_digits_at` meets its contract: the invariant says which digits are laid and which are left.
-- Assumes nothing.
use native.Mathlib.Omega.{arith}
use Rattle.writing.proofs.Decimals.{length_last, last_more, first_last}
use Rattle.writing.proofs.Laying.{begin_backward, lay_backward, end_backward}
use Rattle.writing.proofs.decimal.write_digits_at.Goals as goal

pub loop-i-init : goal.loop-i-init
loop-i-init c =
    let first = first_last _ c.min-fits.result _ c.digit_count-count.ensures (omega arith) in
    begin_backward _ _ _ _ _ (rw c.without_last-rest.ensures first) (length_last _ _)

pub loop-i-preserved : goal.loop-i-preserved
loop-i-preserved c = lay_backward _ c.loop-i.invariant (omega arith) (rw c.last_digit.ensures (last_more _ _ (omega arith)))

pub returns : goal.returns
returns c =
    let count = c.digit_count-count.ensures in
    end_backward {n = c.min-fits.result} c.loop-i.invariant (omega arith) (rw (← count) (omega arith)) (rw (← count) c.saturating_add.ensures)
