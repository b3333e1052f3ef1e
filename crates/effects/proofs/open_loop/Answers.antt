use Rattle.effects.proofs.Laws.{loop_dead, loop_figure, loop_opens}
use Rattle.effects.proofs.open_loop.Goals as goal

pub returns-then-is_destroyed : goal.returns-then-is_destroyed
returns-then-is_destroyed c = search loop_dead

pub returns-then-not-is_group : goal.returns-then-not-is_group
returns-then-not-is_group c = search loop_figure

pub returns : goal.returns
returns c = search loop_opens
