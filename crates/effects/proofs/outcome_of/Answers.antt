use Rattle.effects.proofs.Laws.{no_truth, says}
use Rattle.effects.proofs.outcome_of.Goals as goal

pub returns-then-kind_of-ne-TRUTH : goal.returns-then-kind_of-ne-TRUTH
returns-then-kind_of-ne-TRUTH c = λ ws. no_truth _ _ _ c.kind_of.ensures _ c.if-kind_of-ne-TRUTH.true

pub returns : goal.returns
returns c = λ ws. says _ _ _ c.kind_of.ensures _ _ c.if-kind_of-ne-TRUTH.false c.truth_of.ensures
