use Rattle.tables.proofs.HashLaws.{hash_text, hash_shape, hash_other}
use Rattle.tables.proofs.hashes.hash_key.Goals as goal

pub returns-then-kind-eq-TEXT : goal.returns-then-kind-eq-TEXT
returns-then-kind-eq-TEXT c = search hash_text

pub returns-then-kind-eq-SHAPE : goal.returns-then-kind-eq-SHAPE
returns-then-kind-eq-SHAPE c = search hash_shape

pub returns : goal.returns
returns c = search hash_other
