-- Destroying keeps the way.
use Prim.Native.Nat.{ℕ}
use mathlib.Core.Path.{refl}
use mathlib.Core.List.{List}
use native.Mathlib.Omega.{arith}
use lib.Seq.{get_or-set_other}
use Rattle.machine.specs.Layout.{steps_used, steps_granted, shape_place}
use Rattle.machine.specs.Act.{Raw, go_on, ◌>>=◌, give, load, store, count}
use Rattle.machine.specs.Shapes.{destroy}
use Rattle.machine.specs.Groups.{way_place}
use Rattle.destroying.specs.Destroying.{destroy_reached, destroy_left}
use Rattle.walks.proofs.WalkLaws.{Keeps, keeps_then, keeps_spend, Steady}

pub keeps_destroy : (e : ℕ) (r : Raw) (c : ℕ) → Keeps e r (destroy c r)
unfolding Keeps destroy ◌>>=◌ go_on load store
keeps_destroy e r c = get_or-set_other r.words (shape_place c) (way_place e) _ 0 (λ q. omega arith)

pub destroying_steady : (g : List ℕ) → Steady g (destroy_reached g) destroy_left
unfolding destroy_reached destroy_left give Keeps
destroying_steady g = record {
  reached = λ p c e r l. keeps_then e r (count g p) (λ _. destroy c) (keeps_spend e r steps_used (steps_granted g) 1 79 p (omega arith)) (λ a r'. keeps_destroy e r' c);
  left = λ p d e r l. refl;
}
