use Rattle.stores.proofs.Acts.{pays_so, fails_so}
use Rattle.stores.proofs.counters.pay_one.Goals as goal

pub returns-then-spend_one : goal.returns-then-spend_one
returns-then-spend_one c = pays_so _ _ c.if-spend_one.ensures

pub returns : goal.returns
returns c = fails_so _ c.if-spend_one.ensures
