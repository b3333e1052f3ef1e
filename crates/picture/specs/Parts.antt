-- A picture by the parts in which it is written.
use Rattle.std.specs.Prelude.{ℕ, zero, suc, ◌≡◌, List, ◌++◌, ℤ}
use Rattle.meaning.specs.Basics.{bytes}
use Rattle.meaning.specs.Figure.{Figure, line, ellipse, box, text}
use Rattle.meaning.specs.Picture.{decimal, side_start, absolute, lines_of}
use Rattle.writing.specs.Digits.{pair}
use Rattle.picture.specs.declared.line.Shape.{Shape}
use Rattle.picture.specs.declared.line.Shown.{Shown}

-- the figure of a kind by its number: 0 a line, 1 an ellipse, 2 a box, else a text, which has two of the numbers
unfoldable pub figure_from : ℕ → ℤ → ℤ → ℤ → ℤ → List ℕ → Figure
figure_from zero a b c d s = line a b c d
figure_from (suc zero) a b c d s = ellipse a b c d
figure_from (suc (suc zero)) a b c d s = box a b c d
figure_from (suc (suc (suc k))) a b c d s = text a b s

-- the same by its numbers together
abbrev pub figure_of : Shape → List ℕ → Figure
figure_of f s = figure_from f.kind f.a f.b f.c f.d s

-- the numbers that a line of a kind shows: where it begins, given the size beside it, and its size
unfoldable pub shown_start : ℕ → ℤ → ℤ → ℤ
shown_start zero x size = x
shown_start (suc zero) x size = x
shown_start (suc (suc zero)) x size = side_start x size
shown_start (suc (suc (suc k))) x size = x

unfoldable pub shown_size : ℕ → ℤ → ℤ
shown_size zero size = size
shown_size (suc k) size = absolute size

-- n are the numbers that the line of a figure shows
pub record Shows (f : Shape) (n : Shown) : Type 0 where
  pub at_a : n.a ≡ shown_start f.kind f.a f.c
  pub at_b : n.b ≡ shown_start f.kind f.b f.d
  pub at_c : n.c ≡ shown_size f.kind f.c
  pub at_d : n.d ≡ shown_size f.kind f.d

-- the lines before the shapes
unfoldable pub head : ℤ → ℤ → List ℕ
head width height =
    bytes "<?xml version=\"1.0\"?>\n" ++
    bytes "<svg viewBox=\"0 0 " ++ decimal width ++ bytes " " ++ decimal height ++
    bytes "\" xmlns=\"http://www.w3.org/2000/svg\" version=\"1.1\">\n" ++
    bytes "<g stroke=\"black\" fill=\"black\">\n"

-- the lines behind them
unfoldable pub tail : List ℕ
tail = bytes "</g>\n" ++ bytes "</svg>\n"

-- a picture's front: the head and the lines of the figures so far
unfoldable pub front : ℤ → ℤ → List Figure → List ℕ
front width height figures = head width height ++ lines_of figures

-- an element with four numbers, each behind its byte string
unfoldable pub element : List ℕ → ℤ → List ℕ → ℤ → List ℕ → ℤ → List ℕ → ℤ → List ℕ
element l a m b n c o d = pair l a ++ pair m b ++ pair n c ++ pair o d ++ bytes "\"/>\n"
