-- New shapes that wait: what each way through the code does.
use Prim.Native.Nat.{ℕ, ◌+◌, ◌%◌, ◌^◌, ◌<◌}
use mathlib.Core.Path.{◌≡◌}
use mathlib.Core.List.{List}
use native.Mathlib.Omega.{arith}
use lib.ListN.{get_or, set}
use Rattle.machine.specs.Layout.{waiting_held, shape_place, Room}
use Rattle.machine.specs.Act.{Gives, go_on, ◌>>=◌, load, store}
use Rattle.machine.specs.Groups.{await}
use Rattle.groups.specs.Making.{Sources}

pub waits : (ws : List ℕ) (j k at : ℕ) (ws₁ : List ℕ) → k ≡ get_or ws waiting_held 0 % 65536 → at ≡ shape_place k → ws₁ ≡ set ws (at + 4) j → Gives ws (await j) tt (set ws₁ waiting_held (k + 1))
unfolding await ◌>>=◌ go_on load store
waits ws j k at ws₁ e f h = record { equal = λ ts. rw (h, f, e) }

pub waiting_sources : (g ws : List ℕ) (m at : ℕ) → Room g ws → m < 2 ^ 32 → at ≡ shape_place m → Sources g ws 5 1 (at + 4)
waiting_sources g ws m at r h e = record { units = record { room = r; some = omega arith }; near = omega arith; small = omega (arith, e, h) }
