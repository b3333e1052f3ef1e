-- `names::index::hash` meets its contract: what is left to hash is the bytes from i on.
use Rattle.names.proofs.Hashing.{hash_begin, hash_more, hash_all}
use Rattle.names.proofs.index.hash.Goals as goal

pub loop-b-init : goal.loop-b-init
loop-b-init c = search hash_begin

pub loop-b-preserved : goal.loop-b-preserved
loop-b-preserved c = search hash_more

pub returns : goal.returns
returns c = search hash_all
