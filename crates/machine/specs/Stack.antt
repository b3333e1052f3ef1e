-- A stack of words: the arguments and the variables of calls under way.
use Rattle.std.specs.Prelude.{ℕ, ◌+◌, List, get_or, leb}
use Rattle.machine.specs.Layout.{arguments_held, stack_words, argument_place}
use Rattle.machine.specs.Act.{Act, refuse, load, store, ◌>>=◌, ◌>>◌}

abbrev pub argument_at : List ℕ → ℕ → ℕ
argument_at ws k = get_or ws (argument_place k) 0

-- One more argument: 20 if the stack is full. No program that was read comes to that (simulation, Body.body-follows).
unfoldable pub push : ℕ → ℕ → Act (Unit {0})
push w p = do
  k ← load arguments_held
  refuse (leb stack_words k) 20 p
  store (argument_place k) w
  store arguments_held (k + 1)

-- back to so many
unfoldable pub drop_to : ℕ → Act (Unit {0})
drop_to base = store arguments_held base
