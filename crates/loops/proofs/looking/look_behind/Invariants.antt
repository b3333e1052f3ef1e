use Rattle.std.proofs.Common.{◌-◌}
use Rattle.loops.proofs.MarkLaws.{Climbs}
use Rattle.loops.proofs.looking.look_behind.Given as goal

abbrev pub invariant-loop-turn : goal.invariant-loop-turn
invariant-loop-turn l = Climbs l.grants l.end l.k l.initial.words l.words l.at (l.end - l.turn)
