use mathlib.Core.Path.{refl, ◌∙◌}
use Rattle.machine.proofs.Acts.{last}
use Rattle.effects.proofs.Laws.{unknown, shape_dead, copy_put, no_copy}
use Rattle.effects.proofs.put_copy.Goals as goal

pub returns-then-not-is_declared : goal.returns-then-not-is_declared
returns-then-not-is_declared c = search unknown

pub returns-then-is_dead : goal.returns-then-is_dead
returns-then-is_dead c = search shape_dead

pub returns-in_err-v : goal.returns-in_err-v
returns-in_err-v c = last (no_copy _ _ _ _ _ _ c.is_declared.ensures c.if-not-is_declared.false _ c.is_dead.ensures c.if-is_dead.false c.requires.k_value _ c.number_of.ensures _ _ c.in_err-v.ensures _ refl) c.from_residual.ensures.1

pub returns : goal.returns
returns c = copy_put _ _ _ _ _ _ c.is_declared.ensures c.if-not-is_declared.false _ c.is_dead.ensures c.if-is_dead.false c.requires.k_value _ c.number_of.ensures _ _ c.in_ok-v.ensures _ _ _ refl c.pack.ensures c.set_variable.ensures
