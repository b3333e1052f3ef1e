use Rattle.pairs.proofs.PairLaws.{follow_apart, follow_same, follow_down}
use Rattle.pairs.proofs.follow.Goals as goal

pub returns-in-Apart : goal.returns-in-Apart
returns-in-Apart c = follow_apart _ _ _ _ _ _ _ _ _ c.requires _ _ c.component_at-i.ensures c.component_at-j.ensures c.in-Apart.ensures

pub returns-in-Same : goal.returns-in-Same
returns-in-Same c = follow_same _ _ _ _ _ _ _ _ _ c.requires _ _ c.component_at-i.ensures c.component_at-j.ensures c.in-Same.ensures

pub returns-in-Groups : goal.returns-in-Groups
returns-in-Groups c = follow_down _ _ _ _ _ _ _ _ _ c.requires _ _ c.component_at-i.ensures c.component_at-j.ensures _ _ _ _ c.in-Groups.ensures
    c.first_at.ensures c.count_at.ensures c.first_at-in-Groups.ensures c.count_at-in-Groups.ensures
