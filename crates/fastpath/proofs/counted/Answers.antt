use Rattle.fastpath.proofs.Laws.{no_value, too_many, all_counted}
use Rattle.fastpath.proofs.counted.Goals as goal

pub returns-then-v-eq0 : goal.returns-then-v-eq0
returns-then-v-eq0 c = search no_value

pub returns-then-not-spend : goal.returns-then-not-spend
returns-then-not-spend c = search too_many

pub returns : goal.returns
returns c = search all_counted
