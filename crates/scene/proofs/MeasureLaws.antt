-- Lines measured: the way is kept, a line, and what a value shows.
-- Assumes nothing.
use Rattle.std.proofs.Common.{◌≡◌, ℕ, ◌+◌, ◌%◌, ◌^◌, List, length, get_or, set, Result, Ok, refl, ◌∙◌, arith, length-set}
use Rattle.meaning.specs.Basics.{if◌then◌otherwise◌}
use Rattle.meaning.specs.Picture.{line_of}
use Rattle.machine.specs.Words.{kind_in, kind_shape, number_in, unpacked}
use Rattle.machine.specs.Layout.{lines_length, steps_used, steps_granted, Room}
use Rattle.machine.specs.declared.Fault.{Fault}
use Rattle.machine.specs.Act.{Raw, raw, Out, done, go_on, ◌>>=◌, give, store, held, count, out_of, Does, Gives}
use Rattle.machine.specs.Shapes.{is_group_at}
use Rattle.machine.specs.Show.{measure, show, show_in}
use Rattle.values.proofs.Laws.{unpacked_shape, by_kind}
use Rattle.walks.proofs.WalkLaws.{Keeps, keeps_then, keeps_either, keeps_store, keeps_spend, Steady}
use Rattle.walks.proofs.TurnLaws.{room_same}
use Rattle.scene.specs.Scene.{figure_for}
use Rattle.scene.specs.Measuring.{line_size, size_with, measure_reached, nothing_left}

-- ---- a line
pub measured : (program ts ws : List ℕ) (i size sum : ℕ) (ws' : List ℕ) → size ≡ length (line_of (figure_for program (raw ts ws) i))
    → sum ≡ (get_or ws lines_length 0 + size) % 2 ^ 64 → ws' ≡ set ws lines_length sum → Gives ws (measure (size_with program ts) i) tt ws'
unfolding measure size_with line_size store
measured program ts ws i size sum ws' e f s = record { equal = λ us. rw (s, f, e) }

-- ---- the way is kept
keeps_measure : (size : Raw → ℕ → ℕ) (e : ℕ) (r : Raw) (c : ℕ) → Keeps e r (measure size c r)
unfolding measure
keeps_measure size e r c = keeps_store e r lines_length _ (λ q. omega arith)

pub measuring_steady : (program ts g : List ℕ) → Steady g (measure_reached program ts g) nothing_left
unfolding measure_reached nothing_left give held Keeps ◌>>=◌ go_on
measuring_steady program ts g = record {
  reached = λ p c e r l.
      keeps_then e r (count g p) (λ _. held >>= λ ws. if is_group_at ws c then (λ _. give tt) otherwise λ _. measure (size_with program ts) c)
      (keeps_spend e r steps_used (steps_granted g) 1 79 p (omega arith))
      (λ a r'. keeps_either e r' (is_group_at r'.words c) (λ _. give tt) (λ _. measure (size_with program ts) c) refl (keeps_measure (size_with program ts) e r' c));
  left = λ p d e r l. refl;
}

-- ---- a value
module _ (program ts g ws : List ℕ) (w : ℕ) where
  pub shows_nothing : (kind_in w ≡ kind_shape → ⊥) → Does ws (show_in (size_with program ts) g (unpacked w)) (Ok tt) ws
  unfolding show_in give out_of
  shows_nothing h = record {
    equal = λ us. by_kind w (λ v. ◌≡◌ {A = Out (Unit {0})} (done tt (raw us ws)) (show_in (size_with program ts) g v (raw us ws))) (λ _. refl) (λ _. refl) (λ _. refl) refl (λ _. refl)
        (λ e. absurd (h e));
  }

  pub shows_shape : (i : ℕ) (s : Result (Unit {0}) Fault) (ws' : List ℕ) → kind_in w ≡ kind_shape → i ≡ number_in w → Does ws (show (size_with program ts) g i) s ws'
      → Does ws (show_in (size_with program ts) g (unpacked w)) s ws'
  unfolding show_in
  shows_shape i s ws' h e d = record { equal = λ us. d.equal us ∙ rw (e, unpacked_shape w h) }

pub room_cleared : (ws : List ℕ) {g : List ℕ} → Room g ws → Room g (set ws lines_length 0)
room_cleared ws r = room_same r (length-set ws lines_length 0)
