use Rattle.showing.proofs.WriteLaws.{reached_end, reached_gone, reached_group, reached_figure}
use Rattle.showing.proofs.write_reached.Goals as goal

pub returns-then-w-eq0 : goal.returns-then-w-eq0
returns-then-w-eq0 c = search reached_end

pub returns-then-is_destroyed : goal.returns-then-is_destroyed
returns-then-is_destroyed c = search reached_gone

pub returns-then-is_group : goal.returns-then-is_group
returns-then-is_group c = search reached_group

pub returns : goal.returns
returns c = search reached_figure
