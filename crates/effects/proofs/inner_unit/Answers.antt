use Rattle.effects.proofs.Laws.{outermost, inside_another}
use Rattle.effects.proofs.inner_unit.Goals as goal

pub returns-then-u-eq0 : goal.returns-then-u-eq0
returns-then-u-eq0 c = search outermost

pub returns : goal.returns
returns c = search inside_another
