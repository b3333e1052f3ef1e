use Rattle.values.proofs.Laws.{table_is}
use Rattle.values.proofs.table_word.Goals as goal

pub returns : goal.returns
returns c = table_is _
