use Rattle.pairs.proofs.PairLaws.{meet_beyond, meet_groups, meet_group_left, meet_group_right, meet_same, meet_other}
use Rattle.pairs.proofs.meet.Goals as goal

pub returns-then-grants-d : goal.returns-then-grants-d
returns-then-grants-d c = search meet_beyond

pub returns-then-is_group-2 : goal.returns-then-is_group-2
returns-then-is_group-2 c = search meet_groups

pub returns-then-is_group : goal.returns-then-is_group
returns-then-is_group c = search meet_group_left

pub returns-then-is_group-3 : goal.returns-then-is_group-3
returns-then-is_group-3 c = search meet_group_right

pub returns-then-same_shape : goal.returns-then-same_shape
returns-then-same_shape c = search meet_same

pub returns : goal.returns
returns c = search meet_other
