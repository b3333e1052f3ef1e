-- Laws of figures.
use Prim.Native.Nat.{ℕ, ◌^◌, ◌<◌}
use mathlib.Core.Path.{◌≡◌, refl}
use mathlib.Core.List.{List, [], ◌∷◌, map}
use lib.IntN.{ℤ, pos, negsuc}
use lib.Signed.{mag}
use Rattle.meaning.specs.Integer.{bits, wrap, sum, difference, product, quotient, half}
use Rattle.meaning.specs.Figure.{Figure, line, ellipse, box, text, moved, kept, plus_x, minus_x, plus_y, minus_y, scaled, scaled_up, scaled_down, centre_x, centre_y, figure_kind, numbers_of, text_of}
use Rattle.meaning.proofs.IntegerLaws.{sum_range, sum_difference, difference_sum, product_one, quotient_one, half_sum_range}

-- ---- what stays
pub moved_kind : (f g : ℤ → ℤ) (a : Figure) → figure_kind (moved f g a) ≡ figure_kind a
unfolding moved figure_kind
moved_kind f g (line x₁ y₁ x₂ y₂) = refl
moved_kind f g (ellipse x y a b) = refl
moved_kind f g (box x y w h) = refl
moved_kind f g (text x y s) = refl

pub moved_text : (f g : ℤ → ℤ) (a : Figure) → text_of (moved f g a) ≡ text_of a
unfolding moved text_of
moved_text f g (line x₁ y₁ x₂ y₂) = refl
moved_text f g (ellipse x y a b) = refl
moved_text f g (box x y w h) = refl
moved_text f g (text x y s) = refl

pub scaled_kind : (f : ℤ → ℤ) (a : Figure) → figure_kind (scaled f a) ≡ figure_kind a
unfolding scaled figure_kind
scaled_kind f (line x₁ y₁ x₂ y₂) = refl
scaled_kind f (ellipse x y a b) = refl
scaled_kind f (box x y w h) = refl
scaled_kind f (text x y s) = refl

pub scaled_text : (f : ℤ → ℤ) (a : Figure) → text_of (scaled f a) ≡ text_of a
unfolding scaled text_of
scaled_text f (line x₁ y₁ x₂ y₂) = refl
scaled_text f (ellipse x y a b) = refl
scaled_text f (box x y w h) = refl
scaled_text f (text x y s) = refl

-- ---- scaling acts on every number of a figure
pub scaled_numbers : (f : ℤ → ℤ) (a : Figure) → numbers_of (scaled f a) ≡ map f (numbers_of a)
unfolding scaled numbers_of
scaled_numbers f (line x₁ y₁ x₂ y₂) = refl
scaled_numbers f (ellipse x y a b) = refl
scaled_numbers f (box x y w h) = refl
scaled_numbers f (text x y s) = refl

-- doubling, by kinds
abbrev twice : ℤ → ℤ
twice z = product z (pos 2)

pub doubled_line : (x₁ y₁ x₂ y₂ : ℤ) → scaled_up (line x₁ y₁ x₂ y₂) (pos 2) ≡ line (twice x₁) (twice y₁) (twice x₂) (twice y₂)
unfolding scaled_up scaled
doubled_line x₁ y₁ x₂ y₂ = refl

pub doubled_ellipse : (x y a b : ℤ) → scaled_up (ellipse x y a b) (pos 2) ≡ ellipse (twice x) (twice y) (twice a) (twice b)
unfolding scaled_up scaled
doubled_ellipse x y a b = refl

pub doubled_box : (x y w h : ℤ) → scaled_up (box x y w h) (pos 2) ≡ box (twice x) (twice y) (twice w) (twice h)
unfolding scaled_up scaled
doubled_box x y w h = refl

pub doubled_text : (x y : ℤ) (s : List ℕ) → scaled_up (text x y s) (pos 2) ≡ text (twice x) (twice y) s
unfolding scaled_up scaled
doubled_text x y s = refl

-- halving rounds toward zero, sizes too: of the box 1 2 −3 7
pub halved_box : scaled_down (box (pos 1) (pos 2) (negsuc 2) (pos 7)) (pos 2) ≡ box (pos 0) (pos 1) (negsuc 0) (pos 3)
unfolding scaled_down scaled quotient wrap bits
halved_box = refl

-- ---- there and back
-- every number is in range
abbrev pub AllInRange : List ℤ → Type 0
AllInRange [] = Unit {0}
AllInRange (z ∷ zs) = (mag z < 2 ^ 31) × AllInRange zs

abbrev pub InRange : Figure → Type 0
unfolding numbers_of
InRange a = AllInRange (numbers_of a)

-- moving by f and g, and then by what undoes each on integers in range
module _ (f f' g g' : ℤ → ℤ) (back-x : (z : ℤ) → mag z < 2 ^ 31 → f' (f z) ≡ z) (back-y : (z : ℤ) → mag z < 2 ^ 31 → g' (g z) ≡ z) where
  moved_back : (a : Figure) → InRange a → moved f' g' (moved f g a) ≡ a
  unfolding moved numbers_of
  moved_back (line x₁ y₁ x₂ y₂) h = rw (back-x x₁ h.0, back-y y₁ h.1.0, back-x x₂ h.1.1.0, back-y y₂ h.1.1.1.0)
  moved_back (ellipse x y a b) h = rw (back-x x h.0, back-y y h.1.0)
  moved_back (box x y w h) r = rw (back-x x r.0, back-y y r.1.0)
  moved_back (text x y s) h = rw (back-x x h.0, back-y y h.1.0)

kept_back : (z : ℤ) → mag z < 2 ^ 31 → kept (kept z) ≡ z
kept_back z h = refl

-- by x
pub plus_x_minus_x : (a : Figure) (n : ℤ) → InRange a → minus_x (plus_x a n) n ≡ a
unfolding plus_x minus_x
plus_x_minus_x a n h = moved_back (λ z. sum z n) (λ z. difference z n) kept kept (λ z. sum_difference z n) kept_back a h

pub minus_x_plus_x : (a : Figure) (n : ℤ) → InRange a → plus_x (minus_x a n) n ≡ a
unfolding plus_x minus_x
minus_x_plus_x a n h = moved_back (λ z. difference z n) (λ z. sum z n) kept kept (λ z. difference_sum z n) kept_back a h

-- by y
pub plus_y_minus_y : (a : Figure) (n : ℤ) → InRange a → minus_y (plus_y a n) n ≡ a
unfolding plus_y minus_y
plus_y_minus_y a n h = moved_back kept kept (λ z. sum z n) (λ z. difference z n) kept_back (λ z. sum_difference z n) a h

pub minus_y_plus_y : (a : Figure) (n : ℤ) → InRange a → plus_y (minus_y a n) n ≡ a
unfolding plus_y minus_y
minus_y_plus_y a n h = moved_back kept kept (λ z. difference z n) (λ z. sum z n) kept_back (λ z. difference_sum z n) a h

-- *1 and /1 give the same figure
module _ (f : ℤ → ℤ) (same : (z : ℤ) → mag z < 2 ^ 31 → f z ≡ z) where
  scaled_same : (a : Figure) → InRange a → scaled f a ≡ a
  unfolding scaled numbers_of
  scaled_same (line x₁ y₁ x₂ y₂) h = rw (same x₁ h.0, same y₁ h.1.0, same x₂ h.1.1.0, same y₂ h.1.1.1.0)
  scaled_same (ellipse x y a b) h = rw (same x h.0, same y h.1.0, same a h.1.1.0, same b h.1.1.1.0)
  scaled_same (box x y w h) r = rw (same x r.0, same y r.1.0, same w r.1.1.0, same h r.1.1.1.0)
  scaled_same (text x y s) h = rw (same x h.0, same y h.1.0)

pub scaled_up_one : (a : Figure) → InRange a → scaled_up a (pos 1) ≡ a
unfolding scaled_up
scaled_up_one a h = scaled_same (λ z. product z (pos 1)) product_one a h

pub scaled_down_one : (a : Figure) → InRange a → scaled_down a (pos 1) ≡ a
unfolding scaled_down
scaled_down_one a h = scaled_same (λ z. quotient z (pos 1)) quotient_one a h

-- ---- centres are in range
pub centre_x_range : (a : Figure) → InRange a → mag (centre_x a) < 2 ^ 31
unfolding numbers_of centre_x
centre_x_range (line x₁ y₁ x₂ y₂) h = half_sum_range x₁ x₂ h.0 h.1.1.0
centre_x_range (ellipse x y a b) h = h.0
centre_x_range (box x y w h) r = sum_range x (half w)
centre_x_range (text x y s) h = h.0

pub centre_y_range : (a : Figure) → InRange a → mag (centre_y a) < 2 ^ 31
unfolding numbers_of centre_y
centre_y_range (line x₁ y₁ x₂ y₂) h = half_sum_range y₁ y₂ h.1.0 h.1.1.1.0
centre_y_range (ellipse x y a b) h = h.1.0
centre_y_range (box x y w h) r = sum_range y (half h)
centre_y_range (text x y s) h = h.1.0
