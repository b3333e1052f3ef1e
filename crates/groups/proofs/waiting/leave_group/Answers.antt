use native.Mathlib.Omega.{arith}
use Rattle.machine.specs.Groups.{remake_left}
use Rattle.machine.proofs.Acts.{goes, stops, loading, sure}
use Rattle.groups.proofs.waiting.leave_group.Goals as goal

pub returns-in_err-j : goal.returns-in_err-j
unfolding remake_left
returns-in_err-j c = loading _ _ (stops _ (rw c.waiting_at-m.ensures at c.in_err-j.ensures) c.from_residual.ensures.1)

pub await_shape-requires : goal.await_shape-requires
await_shape-requires c = omega (arith, c.requires.words, c.gather.auto.words)

pub returns : goal.returns
unfolding remake_left
returns c = loading _ _ (goes _ (rw c.waiting_at-m.ensures at c.in_ok-j.ensures) (sure c.await_shape.ensures))
