-- Destroyed shapes are refused alike.
use Prim.Native.Nat.{ℕ, ◌<◌}
use mathlib.Core.Path.{◌≡◌, refl, ap, sym, ◌∙◌}
use mathlib.Core.List.{List}
use lib.ListN.{get_or}
use mathlib.Core.Bool.{true, false}
use Rattle.meaning.specs.Basics.{if◌then◌otherwise◌}
use Rattle.meaning.specs.Token.{Token}
use Rattle.meaning.specs.Value as Value
use Rattle.meaning.specs.State.{State, atom, group, no_shape, content_of, is_destroyed}
use Rattle.meaning.specs.State as State
use Rattle.meaning.specs.Run as Run
use Rattle.meaning.specs.Book.{Amounts}
use Rattle.meaning.specs.Operator as Operator
use Rattle.machine.specs.declared.Value.{Value}
use Rattle.machine.specs.declared.Value.TheVariants.{Integer, Text, Boolean, Nothing, Table, Shape}
use Rattle.machine.specs.Act.{Raw}
use Rattle.machine.specs.Shapes.{is_group_at, figure_at, destroyed_at}
use Rattle.machine.specs.Variables.{is_dead, usable}
use Rattle.machine.specs.Layout.{shapes_used}
use Rattle.simulation.specs.Meant.{meant_value, meant_figure, components_of, content_at, shape_at}
use Rattle.simulation.specs.Sound.{Valid}
use Rattle.simulation.specs.Follows.{Related, Follows}
use Rattle.simulation.proofs.Frames.{shape_made}
use Rattle.simulation.proofs.Results.{Exactly, refused_at, Units, steps_told, refused}

module _ {program : List ℕ} {ts : List Token} {g : List ℕ} {r : Raw} {s : State} {total : Amounts} (h : Related program ts g r s total) where
  pub shape_found : (i : ℕ) → i < get_or r.words shapes_used 0 → get_or s.shapes i no_shape ≡ shape_at program g r i
  shape_found i l = rw h.shapes (shape_made program g r i l)

  pub content_found : (i : ℕ) → i < get_or r.words shapes_used 0 → content_of s i ≡ content_at program g r i
  unfolding shape_at
  content_found i l = ap (λ (a : State.Shape). a.content) (shape_found i l)

  pub figure_found : (i : ℕ) → i < get_or r.words shapes_used 0 → is_group_at r.words i ≡ false → content_of s i ≡ atom (meant_figure program r.texts (figure_at r.words i))
  unfolding content_at if◌then◌otherwise◌
  figure_found i l n = content_found i l ∙ rw n

  pub group_found : (i : ℕ) → i < get_or r.words shapes_used 0 → is_group_at r.words i ≡ true → content_of s i ≡ group (components_of g r.words i)
  unfolding content_at if◌then◌otherwise◌
  group_found i l n = content_found i l ∙ rw n

  pub destroyed_found : (i : ℕ) → i < get_or r.words shapes_used 0 → is_destroyed s i ≡ destroyed_at r.words i
  unfolding shape_at
  destroyed_found i l = ap (λ (a : State.Shape). a.destroyed) (shape_found i l)

  dead_same : (v : Value) → Valid program r.words v → is_dead r.words v ≡ Operator.is_dead s (meant_value program r.texts v)
  unfolding is_dead Operator.is_dead Valid meant_value
  dead_same (Integer z) w = refl
  dead_same (Text t) w = refl
  dead_same (Boolean b) w = refl
  dead_same Nothing w = refl
  dead_same (Table t) w = refl
  dead_same (Shape i) w = sym (destroyed_found i w)

  pub uses : {granted : Amounts} (v : Value) (u : Value.Value) → Valid program r.words v → u ≡ meant_value program r.texts v → (p : ℕ)
      → Follows granted total (Units program ts g r) (usable p v r) (Operator.usable p u s)
  unfolding usable Operator.usable Run.◌>>=◌ Run.go_on Run.current
  uses v u w e p = refused h (is_dead r.words v) (Operator.is_dead s u) (dead_same v w ∙ rw e) 30 p

  -- nothing changes
  pub uses_at : {granted : Amounts} (v : Value) (u : Value.Value) → Valid program r.words v → u ≡ meant_value program r.texts v → (p : ℕ)
      → Follows granted total (λ _ _ r' s' total'. Exactly r s total r' s' total') (usable p v r) (Operator.usable p u s)
  unfolding usable Operator.usable Run.◌>>=◌ Run.go_on Run.current
  uses_at v u w e p = refused_at (steps_told h) (is_dead r.words v) (Operator.is_dead s u) (dead_same v w ∙ rw e) 30 p
