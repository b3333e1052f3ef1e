-- `numerals::number::write_number_at` meets its contract: one after the other, and 64 bits have at most 20 digits.
-- Assumes nothing.
use mathlib.Core.Path.{refl}
use native.Mathlib.Omega.{arith}
use Rattle.writing.proofs.Decimals.{digits_limit}
use Rattle.writing.proofs.Laying.{then as joined}
use Rattle.numerals.proofs.number.write_number_at.Goals as goal

pub returns : goal.returns
returns c = record {
  wrote = joined (omega arith) c.write_bytes_at-next.ensures c.write_digits_at.ensures;
  short = digits_limit refl c.ranges.n.fits;
}
