-- Figures: what a shape looks like. A shape is a figure that can be destroyed (State).
use Rattle.std.specs.Prelude.{ℕ, Bool, ◌&&◌, List, [], ◌∷◌, ℤ, ◌+ℤ◌, eqb}
use Rattle.meaning.specs.Basics.{same_text}
use Rattle.meaning.specs.Integer.{sum, difference, product, quotient, half, same_integers}

pub data Figure : Type 0 where
  -- from x₁ y₁ to x₂ y₂
  line : ℤ → ℤ → ℤ → ℤ → Figure
  -- centre x y, horizontal and vertical radius
  ellipse : ℤ → ℤ → ℤ → ℤ → Figure
  -- top left corner x y, width, height
  box : ℤ → ℤ → ℤ → ℤ → Figure
  -- starting point x y
  text : ℤ → ℤ → List ℕ → Figure

-- each x coordinate by f, each y coordinate by g; widths, heights and radii stay
unfoldable pub moved : (ℤ → ℤ) → (ℤ → ℤ) → Figure → Figure
moved f g (line x₁ y₁ x₂ y₂) = line (f x₁) (g y₁) (f x₂) (g y₂)
moved f g (ellipse x y a b) = ellipse (f x) (g y) a b
moved f g (box x y w h) = box (f x) (g y) w h
moved f g (text x y s) = text (f x) (g y) s

abbrev pub kept : ℤ → ℤ
kept z = z

unfoldable pub plus_y : Figure → ℤ → Figure
plus_y a n = moved kept (λ y. sum y n) a

unfoldable pub minus_y : Figure → ℤ → Figure
minus_y a n = moved kept (λ y. difference y n) a

unfoldable pub plus_x : Figure → ℤ → Figure
plus_x a n = moved (λ x. sum x n) kept a

unfoldable pub minus_x : Figure → ℤ → Figure
minus_x a n = moved (λ x. difference x n) kept a

-- each number by f: coordinates, widths, heights and radii; a text has its point alone
unfoldable pub scaled : (ℤ → ℤ) → Figure → Figure
scaled f (line x₁ y₁ x₂ y₂) = line (f x₁) (f y₁) (f x₂) (f y₂)
scaled f (ellipse x y a b) = ellipse (f x) (f y) (f a) (f b)
scaled f (box x y w h) = box (f x) (f y) (f w) (f h)
scaled f (text x y s) = text (f x) (f y) s

unfoldable pub scaled_up : Figure → ℤ → Figure
scaled_up a n = scaled (λ z. product z n) a

unfoldable pub scaled_down : Figure → ℤ → Figure
scaled_down a n = scaled (λ z. quotient z n) a

-- the centre: of a line half the exact sum of its ends, of a box its corner and half its size, else the figure's own point
unfoldable pub centre_x : Figure → ℤ
centre_x (line x₁ y₁ x₂ y₂) = half (x₁ +ℤ x₂)
centre_x (ellipse x y a b) = x
centre_x (box x y w h) = sum x (half w)
centre_x (text x y s) = x

unfoldable pub centre_y : Figure → ℤ
centre_y (line x₁ y₁ x₂ y₂) = half (y₁ +ℤ y₂)
centre_y (ellipse x y a b) = y
centre_y (box x y w h) = sum y (half h)
centre_y (text x y s) = y

-- the line from one centre to another, and a text at a centre
unfoldable pub connecting : Figure → Figure → Figure
connecting a b = line (centre_x a) (centre_y a) (centre_x b) (centre_y b)

unfoldable pub text_on : Figure → List ℕ → Figure
text_on a s = text (centre_x a) (centre_y a) s

-- which of the four it is, its numbers and its text
unfoldable pub figure_kind : Figure → ℕ
figure_kind (line x₁ y₁ x₂ y₂) = 0
figure_kind (ellipse x y a b) = 1
figure_kind (box x y w h) = 2
figure_kind (text x y s) = 3

unfoldable pub numbers_of : Figure → List ℤ
numbers_of (line x₁ y₁ x₂ y₂) = x₁ ∷ y₁ ∷ x₂ ∷ y₂ ∷ []
numbers_of (ellipse x y a b) = x ∷ y ∷ a ∷ b ∷ []
numbers_of (box x y w h) = x ∷ y ∷ w ∷ h ∷ []
numbers_of (text x y s) = x ∷ y ∷ []

unfoldable pub text_of : Figure → List ℕ
text_of (line x₁ y₁ x₂ y₂) = []
text_of (ellipse x y a b) = []
text_of (box x y w h) = []
text_of (text x y s) = s

-- whether two figures are of one kind and have the same numbers and text
unfoldable pub same_figure : Figure → Figure → Bool
same_figure a b = eqb (figure_kind a) (figure_kind b) && same_integers (numbers_of a) (numbers_of b) && same_text (text_of a) (text_of b)
