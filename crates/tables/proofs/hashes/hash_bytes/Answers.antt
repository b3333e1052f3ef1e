use Rattle.tables.proofs.HashLaws.{hash_first, hash_more, hash_all}
use Rattle.tables.proofs.hashes.hash_bytes.Goals as goal

pub loop-x-init : goal.loop-x-init
loop-x-init c = search hash_first

pub loop-x-preserved : goal.loop-x-preserved
loop-x-preserved c = search hash_more

pub returns : goal.returns
returns c = search hash_all
