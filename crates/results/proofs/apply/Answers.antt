use Rattle.results.proofs.Laws.{is_read, is_operator}
use Rattle.results.proofs.apply.Goals as goal

pub returns-then-tag-eq-ENTRY : goal.returns-then-tag-eq-ENTRY
returns-then-tag-eq-ENTRY c = is_read _ _ _ _ _ _ _ _ _ _ _ _ c.if-tag-eq-ENTRY.true c.number_of.ensures c.read_entry.ensures

pub returns : goal.returns
returns c = is_operator _ _ _ _ _ _ _ _ _ _ _ c.if-tag-eq-ENTRY.false c.operate.ensures
