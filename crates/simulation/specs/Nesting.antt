-- How many foreach stand inside one another: at most n.
use Rattle.std.specs.Prelude.{ℕ, ◌-◌, ◌<◌}
use Rattle.meaning.specs.Tree.{Statement, declare, assign, update, when, while, foreach, return, block, act, Statements, only, first}

unfoldable mutual
  pub Nests : ℕ → Statement → Type 0
  Nests n (declare p x) = Unit {0}
  Nests n (assign p x e) = Unit {0}
  Nests n (update p a b e) = Unit {0}
  Nests n (when p e s) = Nests n s
  Nests n (while p e s) = Nests n s
  Nests n (foreach p x e s) = (0 < n) × Nests (n - 1) s
  Nests n (return p e) = Unit {0}
  Nests n (block p ss) = NestsAll n ss
  Nests n (act p e) = Unit {0}

  pub NestsAll : ℕ → Statements → Type 0
  NestsAll n (only s) = Nests n s
  NestsAll n (first s ss) = Nests n s × NestsAll n ss
