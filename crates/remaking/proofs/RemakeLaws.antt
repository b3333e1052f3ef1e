-- Making shapes anew keeps the way of a walk.
use Prim.Native.Nat.{ℕ, zero, suc, ◌+◌, ◌-◌, ◌/◌, ◌%◌, ◌^◌, ◌<◌}
use mathlib.Core.Path.{◌≡◌, refl, ◌∙◌}
use mathlib.Core.List.{List}
use native.Mathlib.Omega.{arith}
use lib.ListN.{get_or, set}
use lib.Seq.{get_or-set_other}
use Rattle.machine.specs.declared.Figure.{Figure}
use Rattle.machine.specs.declared.Value.TheVariants.{Shape}
use Rattle.machine.specs.Layout.{steps_used, shapes_used, entries_used, components_made, waiting_held, steps_granted, shapes_granted, entries_granted, calls_granted, shape_place, component_place, path_place}
use Rattle.machine.specs.Act.{Raw, go_on, ◌>>=◌, ◌>>◌, give, load, store, held, spend, count}
use Rattle.machine.specs.Shapes.{is_group_at, figure_at, put_figure, new_shape}
use Rattle.machine.specs.Groups.{slot_word, unmarked, fill_from, put_group, new_group, way_place, waiting_place, await, group_waiting, remake_reached, remake_left}
use Rattle.machine.proofs.Slots.{zeroed_other}
use Rattle.walks.specs.Walks.{Doing}
use Rattle.walks.proofs.WalkLaws.{Keeps, keeps_then, keeps_either, keeps_store, Steady}
use Rattle.walks.proofs.WalkLaws.{keeps_spend}

three_sets : (ws : List ℕ) (i x y z e : ℕ) → get_or (set (set (set ws (shape_place i) x) (shape_place i + 1) y) (shape_place i + 2) z) (way_place e) 0 ≡ get_or ws (way_place e) 0
three_sets ws i x y z e =
    get_or-set_other (set (set ws (shape_place i) x) (shape_place i + 1) y) (shape_place i + 2) (way_place e) z 0 (λ q. omega arith)
    ∙ get_or-set_other (set ws (shape_place i) x) (shape_place i + 1) (way_place e) y 0 (λ q. omega arith)
    ∙ get_or-set_other ws (shape_place i) (way_place e) x 0 (λ q. omega arith)

module _ (g : List ℕ) (p e : ℕ) where
  pub keeps_figure : (r : Raw) (f : Figure) → Keeps e r (new_shape g p f r)
  unfolding new_shape put_figure load give Keeps
  keeps_figure r f =
      keeps_then e r (load shapes_used) _ refl λ i r₁.
      keeps_then e r₁ (spend shapes_used (shapes_granted g) 1 76 p) _ (keeps_spend e r₁ shapes_used (shapes_granted g) 1 76 p (omega arith)) λ a r₂.
      keeps_then e r₂ (put_figure (shape_place i) f) (λ _. give (Shape i)) (three_sets r₂.words i _ _ _ e) λ b r₃. refl

  pub keeps_await : (j : ℕ) (r : Raw) → Keeps e r (await j r)
  unfolding await load Keeps
  keeps_await j r =
      keeps_then e r (load waiting_held) _ refl λ k r₁.
      keeps_then e r₁ (store (waiting_place (k % 2 ^ 16)) j) _ (keeps_store e r₁ (waiting_place (k % 2 ^ 16)) j (λ q. omega arith)) λ a r₂.
      keeps_store e r₂ waiting_held (k % 2 ^ 16 + 1) (λ q. omega arith)

  module _ (l : e < shapes_granted g) where
    keeps_unmarked : (k : ℕ) (r : Raw) → Keeps e r (unmarked g k r)
    unfolding unmarked Keeps
    keeps_unmarked k r = zeroed_other r.words (path_place g 0 k) (calls_granted g) (way_place e) (λ i m q. omega arith)

    keeps_fill : (stride unit n place : ℕ) (r : Raw) → Keeps e r (fill_from g p stride unit place n r)
    unfolding fill_from load give Keeps
    keeps_fill stride unit zero place r = refl
    keeps_fill stride unit (suc n) place r =
        keeps_then e r (load components_made) _ refl λ k r₁.
        keeps_then e r₁ (spend entries_used (entries_granted g) 1 77 p) _ (keeps_spend e r₁ entries_used (entries_granted g) 1 77 p (omega arith)) λ a r₂.
        keeps_then e r₂ (load place) _ refl λ w r₃.
        keeps_then e r₃ (store (component_place g (k % entries_granted g)) (slot_word (w / unit) n)) _
        (keeps_store e r₃ (component_place g (k % entries_granted g)) (slot_word (w / unit) n) (λ q. omega arith)) λ b r₄.
        keeps_then e r₄ (unmarked g (k % entries_granted g)) _ (keeps_unmarked (k % entries_granted g) r₄) λ d r₅.
        keeps_then e r₅ (store components_made (k % entries_granted g + 1)) _ (keeps_store e r₅ components_made (k % entries_granted g + 1) (λ q. omega arith)) λ c r₆.
        keeps_fill stride unit n (place + stride) r₆

    keeps_group : (stride unit place n : ℕ) (r : Raw) → Keeps e r (new_group g p stride unit place n r)
    unfolding new_group put_group load give Keeps
    keeps_group stride unit place n r =
        keeps_then e r (load shapes_used) _ refl λ i r₁.
        keeps_then e r₁ (spend shapes_used (shapes_granted g) 1 76 p) _ (keeps_spend e r₁ shapes_used (shapes_granted g) 1 76 p (omega arith)) λ a r₂.
        keeps_then e r₂ (load components_made) _ refl λ first r₃.
        keeps_then e r₃ (put_group (shape_place i) first n) _ (three_sets r₃.words i _ _ _ e) λ b r₄.
        keeps_then e r₄ (fill_from g p stride unit place n) _ (keeps_fill stride unit n place r₄) λ c r₅. refl

    keeps_gather : (m : ℕ) (r : Raw) → Keeps e r (group_waiting g p m r)
    unfolding group_waiting load give Keeps
    keeps_gather m r =
        keeps_then e r (load waiting_held) _ refl λ top r₁.
        keeps_then e r₁ (new_group g p 5 1 (waiting_place m) (top - m)) _ (keeps_group 5 1 (waiting_place m) (top - m) r₁) λ j r₂.
        keeps_then e r₂ (store waiting_held m) _ (keeps_store e r₂ waiting_held m (λ q. omega arith)) λ a r₃. refl

    keeps_left : (d : ℕ) (r : Raw) → Keeps e r (remake_left g p d r)
    unfolding remake_left load Keeps
    keeps_left d r =
        keeps_then e r (load (way_place d)) _ refl λ w r₁.
        keeps_then e r₁ (group_waiting g p (w / 2 ^ 48)) _ (keeps_gather (w / 2 ^ 48) r₁) λ j r₂. keeps_await j r₂

  keeps_reached : (f : Figure → Figure) (c : ℕ) (r : Raw) → Keeps e r (remake_reached g p f c r)
  unfolding remake_reached held ◌>>=◌ go_on give Keeps
  keeps_reached f c r =
      keeps_then e r (count g p) _ (keeps_spend e r steps_used (steps_granted g) 1 79 p (omega arith)) λ a r₁.
      keeps_either e r₁ (is_group_at r₁.words c) (λ _. give tt) (λ _. new_shape g p (f (figure_at r₁.words c)) >> await (get_or r₁.words shapes_used 0)) refl
      (keeps_then e r₁ (new_shape g p (f (figure_at r₁.words c))) _ (keeps_figure r₁ (f (figure_at r₁.words c))) λ v r₂. keeps_await (get_or r₁.words shapes_used 0) r₂)

-- what is done where a component is reached, by a change of figures
unfoldable pub remaking : List ℕ → (Figure → Figure) → Doing
remaking g f p c = remake_reached g p f c

pub remaking_steady : (g : List ℕ) (f : Figure → Figure) → Steady g (remaking g f) (remake_left g)
unfolding remaking
remaking_steady g f = record {
  reached = λ p c e r l. keeps_reached g p e f c r;
  left = λ p d e r l. keeps_left g p e l d r;
}
