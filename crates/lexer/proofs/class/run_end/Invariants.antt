use mathlib.Core.Path.{◌≡◌}
use Prim.Native.Nat.{◌≤◌, max}
use lib.ListN.{length}
use Rattle.lexer.proofs.Runs.{end_of}
use Rattle.lexer.proofs.class.run_end.Given as goal

abbrev pub invariant-loop-i : goal.invariant-loop-i
invariant-loop-i l = (l.i ≤ max l.from (length l.program)) × (end_of l.least l.program l.from ≡ end_of l.least l.program l.i)
