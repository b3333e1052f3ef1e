use Rattle.pairs.proofs.PairLaws.{alike_apart, alike_same, within_asks, alike_within}
use Rattle.pairs.proofs.alike.Goals as goal

pub returns-in-Apart : goal.returns-in-Apart
returns-in-Apart c = alike_apart _ _ _ _ _ _ _ c.in-Apart.ensures

pub returns-in-Same : goal.returns-in-Same
returns-in-Same c = alike_same _ _ _ _ _ _ _ c.in-Same.ensures

pub within-requires : goal.within-requires
within-requires c = within_asks _ _ c.args.p _ _ _ _ c.in-Groups.ensures c.requires

pub returns-in-Groups : goal.returns-in-Groups
returns-in-Groups c = alike_within _ _ _ _ _ _ _ c.in-Groups.ensures _ _ c.within.ensures
