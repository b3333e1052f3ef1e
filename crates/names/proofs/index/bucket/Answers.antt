-- `names::index::bucket` meets its contract.
use Rattle.names.proofs.Hashing.{bucket_is}
use Rattle.names.proofs.index.bucket.Goals as goal

pub returns : goal.returns
returns c = search bucket_is
