-- The two ways to find an argument's root.
use Prim.Native.Nat.{ℕ, ◌+◌, ◌-◌, ◌≤◌, ◌<◌}
use mathlib.Core.Path.{◌≡◌}
use native.Mathlib.Omega.{arith}
use borrow.Author.Tests.{lt-ltb, le-ltb}
use Rattle.meaning.specs.Basics.{if◌then◌otherwise◌}
use Rattle.machine.specs.Opcodes.{size_in, argument_root}

module _ (w a x n : ℕ) (l : a ≤ x) (e : n ≡ size_in w) where
  pub no_argument : x - a ≤ n → x ≡ argument_root w a x
  unfolding argument_root if◌then◌otherwise◌
  no_argument m = rw (← e, le-ltb (a + n) x (omega arith))

  pub one_argument : n < x - a → a + n ≡ argument_root w a x
  unfolding argument_root if◌then◌otherwise◌
  one_argument m = rw (← e, lt-ltb (a + n) x (omega arith))
