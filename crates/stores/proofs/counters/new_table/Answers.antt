use Rattle.stores.proofs.Laws.{makes_table}
use Rattle.stores.proofs.counters.new_table.Goals as goal

pub returns : goal.returns
returns c = makes_table _
