-- `excerpts::write_if_at` meets its contract: the bytes, or nothing.
-- Assumes nothing.
use Rattle.excerpts.proofs.Marking.{wrote_wanted, wrote_unwanted}
use Rattle.excerpts.proofs.write_if_at.Goals as goal

pub returns-then-wanted : goal.returns-then-wanted
returns-then-wanted c = wrote_wanted _ _ c.if-wanted.true c.write_bytes_at.ensures

pub returns : goal.returns
returns c = wrote_unwanted _ _ c.if-wanted.false c.ranges.at.fits
