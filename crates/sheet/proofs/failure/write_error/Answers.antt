-- `sheet::failure::write_error` meets its contract: by its two numbers.
-- Assumes nothing.
use native.Mathlib.Omega.{arith}
use Rattle.sheet.proofs.Errors.{error_written}
use Rattle.sheet.proofs.failure.write_error.Goals as goal

pub returns : goal.returns
returns c = error_written _ _ (omega arith)
    c.write_number_at-a.ensures
    c.write_number_at-b.ensures c.write_bytes_at.ensures
