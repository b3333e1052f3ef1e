-- `writing::decimal::write_pair_at` meets its contract: one after the other.
-- Assumes nothing.
use Rattle.writing.proofs.Writers.{wrote_pair}
use Rattle.writing.proofs.decimal.write_pair_at.Goals as goal

pub returns : goal.returns
returns c = search wrote_pair
