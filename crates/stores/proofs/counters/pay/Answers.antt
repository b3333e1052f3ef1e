use Rattle.stores.proofs.Acts.{pays_so, fails_so}
use Rattle.stores.proofs.counters.pay.Goals as goal

pub returns-then-spend : goal.returns-then-spend
returns-then-spend c = pays_so _ _ c.if-spend.ensures

pub returns : goal.returns
returns c = fails_so _ c.if-spend.ensures
