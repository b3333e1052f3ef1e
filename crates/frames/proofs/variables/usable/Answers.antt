use mathlib.Core.Path.{refl}
use Rattle.machine.specs.Act.{refuse, fail, give, out_of}
use Rattle.machine.specs.Variables.{usable}
use Rattle.frames.proofs.variables.usable.Goals as goal

pub returns-then-is_dead : goal.returns-then-is_dead
unfolding usable refuse fail out_of
returns-then-is_dead c = record { equal = λ ts. rw (← c.is_dead.ensures, c.if-is_dead.true) refl }

pub returns : goal.returns
unfolding usable refuse give out_of
returns c = record { equal = λ ts. rw (← c.is_dead.ensures, c.if-is_dead.false) refl }
