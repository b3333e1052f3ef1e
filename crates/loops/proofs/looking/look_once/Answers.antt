use Rattle.walks.proofs.TurnLaws.{way_bound, past_bound, descends}
use Rattle.loops.proofs.LookLaws.{look_up, look_on, look_found, look_in_group}
use Rattle.loops.proofs.looking.look_once.Goals as goal

pub back_at-up-requires : goal.back_at-up-requires
back_at-up-requires c = search way_bound

pub returns-then-w-eq0 : goal.returns-then-w-eq0
returns-then-w-eq0 c = search look_up

pub past-requires : goal.past-requires
past-requires c = past_bound _ _ _ c.requires c.if-w-eq0.false

pub returns-then-is_passed : goal.returns-then-is_passed
returns-then-is_passed c = search look_on

pub returns-then-not-is_group : goal.returns-then-not-is_group
returns-then-not-is_group c = search look_found

pub enter-requires : goal.enter-requires
enter-requires c = descends _ _ _ _ c.requires c.if-w-eq0.false c.mark.auto.words

pub returns : goal.returns
returns c = look_in_group _ _ _ c.requires c.if-w-eq0.false _ c.component_at-c.ensures _ c.is_passed.ensures c.if-is_passed.false _
    c.is_group.ensures _ c.mark.ensures c.mark.auto.words c.if-not-is_group.false c.enter.ensures
