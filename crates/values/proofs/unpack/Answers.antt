use Rattle.values.proofs.Laws.{as_integer, as_text, as_truth, as_table, as_shape, as_nothing}
use Rattle.values.proofs.unpack.Goals as goal

pub returns-then-kind-eq-INTEGER : goal.returns-then-kind-eq-INTEGER
returns-then-kind-eq-INTEGER c = search as_integer

pub returns-then-kind-eq-TEXT : goal.returns-then-kind-eq-TEXT
returns-then-kind-eq-TEXT c = search as_text

pub returns-then-kind-eq-TRUTH : goal.returns-then-kind-eq-TRUTH
returns-then-kind-eq-TRUTH c = search as_truth

pub returns-then-kind-eq-TABLE : goal.returns-then-kind-eq-TABLE
returns-then-kind-eq-TABLE c = search as_table

pub returns-then-kind-eq-SHAPE : goal.returns-then-kind-eq-SHAPE
returns-then-kind-eq-SHAPE c = search as_shape

pub returns : goal.returns
returns c = search as_nothing
