-- `writing::place::write_bytes` meets its contract: a slice's bytes can be counted.
-- Assumes nothing.
use Rattle.writing.proofs.Laying.{from_front}
use Rattle.writing.proofs.place.write_bytes.Goals as goal

pub returns : goal.returns
returns c = search from_front
