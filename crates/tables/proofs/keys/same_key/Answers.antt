use Rattle.tables.proofs.KeyLaws.{other_kinds_lem, text_keys, shape_keys, other_keys}
use Rattle.tables.proofs.keys.same_key.Goals as goal

pub returns-then-kind-b : goal.returns-then-kind-b
returns-then-kind-b c = search other_kinds_lem

pub returns-then-kind-eq-TEXT : goal.returns-then-kind-eq-TEXT
returns-then-kind-eq-TEXT c = search text_keys

pub returns-then-kind-eq-SHAPE : goal.returns-then-kind-eq-SHAPE
returns-then-kind-eq-SHAPE c = search shape_keys

pub returns : goal.returns
returns c = search other_keys
