use Prim.Native.Nat.{◌+◌, ◌*◌}
use Rattle.fastpath.proofs.+evaluating.Given as goal

abbrev pub decreases-expression : goal.decreases-expression
decreases-expression l = 2 * l.depth

abbrev pub decreases-operation : goal.decreases-operation
decreases-operation l = 2 * l.depth + 1
