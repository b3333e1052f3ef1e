-- `writing::decimal::write_decimal_at` meets its contract: with or without a minus.
-- Assumes nothing.
use Rattle.writing.proofs.Writers.{wrote_negative, wrote_positive}
use Rattle.writing.proofs.decimal.write_decimal_at.Goals as goal

pub returns-then-is_negative : goal.returns-then-is_negative
returns-then-is_negative c = search wrote_negative

pub returns : goal.returns
returns c = search wrote_positive
