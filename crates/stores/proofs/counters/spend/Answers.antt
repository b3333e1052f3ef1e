use Rattle.stores.proofs.Laws.{used_beyond, amount_beyond, pays}
use Rattle.stores.proofs.counters.spend.Goals as goal

pub returns-then-granted-used : goal.returns-then-granted-used
returns-then-granted-used c = search used_beyond

pub returns-then-granted-used-2 : goal.returns-then-granted-used-2
returns-then-granted-used-2 c = search amount_beyond

pub returns : goal.returns
returns c = search pays
