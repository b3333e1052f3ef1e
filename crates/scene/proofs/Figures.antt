-- The line of a shape, from its words.
-- Assumes nothing.
use Rattle.std.proofs.Common.{◌≡◌, refl, ℕ, ◌<◌, List, length, arith}
use Rattle.meaning.specs.Picture.{line_of}
use Rattle.machine.specs.Act.{raw}
use Rattle.machine.specs.declared.Figure.{Figure}
use Rattle.machine.specs.Shapes.{figure_at}
use Rattle.machine.specs.Texts.{text_of}
use Rattle.picture.specs.declared.line.Shape.{Shape}
use Rattle.picture.specs.Parts.{figure_of}
use Rattle.writing.specs.Placed.{WroteAt}
pub use Rattle.writing.proofs.Signs.{seen}
use Rattle.scene.specs.Scene.{figure_for}

kind_small : (ws : List ℕ) (i : ℕ) → (figure_at ws i).kind < 256
unfolding figure_at
kind_small ws i = omega arith

pub kind_fits : (ws : List ℕ) (i : ℕ) (f : Figure) → f ≡ figure_at ws i → f.kind < 256
kind_fits ws i f e = rw e (kind_small ws i)

module _ (program ts ws : List ℕ) (i : ℕ) (f : Figure) (p : Shape) (s : List ℕ) (e : f ≡ figure_at ws i) (t : s ≡ text_of program ts f.text)
    (g : p ≡ record { kind = f.kind; a = f.a; b = f.b; c = f.c; d = f.d }) where
  is_figure_lem : figure_of p s ≡ figure_for program (raw ts ws) i
  unfolding figure_for
  is_figure_lem = rw (g, t, e) refl

  pub line_counted : {r : ℕ} → r ≡ length (line_of (figure_of p s)) → r ≡ length (line_of (figure_for program (raw ts ws) i))
  line_counted h = rw is_figure_lem at h

  pub line_written : {at r : ℕ} {before after : List ℕ} → WroteAt at (line_of (figure_of p s)) before after r
      → WroteAt at (line_of (figure_for program (raw ts ws) i)) before after r
  line_written h = rw is_figure_lem at h
