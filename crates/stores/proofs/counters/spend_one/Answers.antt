use Rattle.stores.proofs.Laws.{none_left, pays_one}
use Rattle.stores.proofs.counters.spend_one.Goals as goal

pub returns-then-granted-used : goal.returns-then-granted-used
returns-then-granted-used c = search none_left

pub returns : goal.returns
returns c = search pays_one
