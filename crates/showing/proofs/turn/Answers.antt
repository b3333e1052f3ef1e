use Rattle.walks.proofs.TurnLaws.{way_bound, past_bound, descends}
use Rattle.showing.proofs.ShowLaws.{moves_back, moves_over, moves_on, moves_down}
use Rattle.showing.proofs.turn.Goals as goal

pub back_at-requires : goal.back_at-requires
back_at-requires c = search way_bound

pub returns-then-w-eq0 : goal.returns-then-w-eq0
returns-then-w-eq0 c = search moves_back

pub past-requires : goal.past-requires
past-requires c = past_bound _ _ _ c.requires c.if-w-eq0.false

pub returns-then-is_destroyed : goal.returns-then-is_destroyed
returns-then-is_destroyed c = search moves_over

pub past-requires-then-not-is_group : goal.past-requires-then-not-is_group
past-requires-then-not-is_group c = past_bound _ _ _ c.requires c.if-w-eq0.false

pub returns-then-not-is_group : goal.returns-then-not-is_group
returns-then-not-is_group c = search moves_on

pub descend-requires : goal.descend-requires
descend-requires c = search descends

pub returns : goal.returns
returns c = search moves_down
