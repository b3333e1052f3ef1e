-- The laws of lines: figures by their kinds, lines by their parts, and their lengths.
-- Assumes nothing.
use mathlib.Core.List.{List, ◌++◌, append_assoc}
use mathlib.Core.Path.{◌≡◌, ◌∙◌, refl, ap}
use Prim.Native.Nat.{ℕ, zero, suc, ◌+◌, ◌≤◌, ◌^◌}
use native.Mathlib.Omega.{arith}
use lib.IntN.{ℤ, pos, nat_abs}
use lib.ListN.{length, get_or, length-append}
use mir.Syntax.{w32, w64}
use mir.Val.{SFits}
use Rattle.meaning.specs.Basics.{bytes}
use Rattle.meaning.specs.Figure.{Figure, line, ellipse, box, text, figure_kind, numbers_of, text_of}
use Rattle.meaning.specs.Picture.{decimal, attribute, plain_line, turned, line_of}
use Rattle.writing.specs.Digits.{pair}
use Rattle.writing.proofs.Decimals.{decimal_some, decimal_near, decimal_limit}
use Rattle.picture.specs.Parts.{figure_from, shown_start, shown_size, element}
use Rattle.picture.proofs.Turning.{start_near, size_near}

-- ---- figures by their kind's number
module _ {k : ℕ} (a b c d : ℤ) (s : List ℕ) where
  pub figure_line : k ≡ 0 → figure_from k a b c d s ≡ line a b c d
  unfolding figure_from
  figure_line e = rw e

  pub figure_ellipse : k ≡ 1 → figure_from k a b c d s ≡ ellipse a b c d
  unfolding figure_from
  figure_ellipse e = rw e

  pub figure_box : k ≡ 2 → figure_from k a b c d s ≡ box a b c d
  unfolding figure_from
  figure_box e = rw e

pub figure_text : (k : ℕ) (a b c d : ℤ) (s : List ℕ) → (k ≡ 0 → ⊥) → (k ≡ 1 → ⊥) → (k ≡ 2 → ⊥) → figure_from k a b c d s ≡ text a b s
unfolding figure_from
figure_text zero a b c d s n₀ n₁ n₂ = absurd (n₀ refl)
figure_text (suc zero) a b c d s n₀ n₁ n₂ = absurd (n₁ refl)
figure_text (suc (suc zero)) a b c d s n₀ n₁ n₂ = absurd (n₂ refl)
figure_text (suc (suc (suc k))) a b c d s n₀ n₁ n₂ = refl

-- a figure is that of its own kind, numbers and text
pub figure_parts : (a : Figure)
    → figure_from (figure_kind a) (get_or (numbers_of a) 0 (pos 0)) (get_or (numbers_of a) 1 (pos 0)) (get_or (numbers_of a) 2 (pos 0))
    (get_or (numbers_of a) 3 (pos 0)) (text_of a) ≡ a
unfolding figure_from figure_kind numbers_of text_of
figure_parts (line x₁ y₁ x₂ y₂) = refl
figure_parts (ellipse x y a b) = refl
figure_parts (box x y w h) = refl
figure_parts (text x y s) = refl

-- ---- lines by their parts
element_of : (p q r t u : List ℕ) (a b c d : ℤ) → p ++ attribute q a ++ attribute r b ++ attribute t c ++ attribute u d ++ bytes "/>\n"
    ≡ element (p ++ q ++ bytes "=\"") a (bytes "\"" ++ r ++ bytes "=\"") b
    (bytes "\"" ++ t ++ bytes "=\"") c (bytes "\"" ++ u ++ bytes "=\"") d
unfolding attribute element
element_of p q r t u a b c d = simp append_assoc

module _ (a b c d : ℤ) where
  pub line_element : plain_line (line a b c d)
      ≡ element (bytes "<line x1=\"") a (bytes "\" y1=\"") b (bytes "\" x2=\"") c (bytes "\" y2=\"") d
  unfolding plain_line
  line_element = element_of (bytes "<line") (bytes " x1") (bytes " y1") (bytes " x2") (bytes " y2") a b c d

  pub ellipse_element : plain_line (ellipse a b c d)
      ≡ element (bytes "<ellipse cx=\"") a (bytes "\" cy=\"") b (bytes "\" rx=\"") c (bytes "\" ry=\"") d
  unfolding plain_line
  ellipse_element = element_of (bytes "<ellipse") (bytes " cx") (bytes " cy") (bytes " rx") (bytes " ry") a b c d

  pub box_element : plain_line (box a b c d)
      ≡ element (bytes "<rect x=\"") a (bytes "\" y=\"") b (bytes "\" width=\"") c (bytes "\" height=\"") d
  unfolding plain_line
  box_element = element_of (bytes "<rect") (bytes " x") (bytes " y") (bytes " width") (bytes " height") a b c d

element_around : (p q r t u s : List ℕ) (x y : ℤ) → p ++ attribute q x ++ attribute r y ++ t ++ s ++ u
    ≡ pair (p ++ q ++ bytes "=\"") x ++ pair (bytes "\"" ++ r ++ bytes "=\"") y ++ (bytes "\"" ++ t) ++ s ++ u
unfolding attribute
element_around p q r t u s x y = simp append_assoc

pub text_element : (x y : ℤ) (s : List ℕ) → plain_line (text x y s)
    ≡ pair (bytes "<text x=\"") x ++ pair (bytes "\" y=\"") y ++ bytes "\">" ++ s ++ bytes "</text>\n"
unfolding plain_line
text_element x y s = element_around (bytes "<text") (bytes " x") (bytes " y") (bytes ">") (bytes "</text>\n") s x y

-- ---- their lengths
-- how long four numbers are together
unfoldable pub numbers : ℤ → ℤ → ℤ → ℤ → ℕ
numbers a b c d = (length (decimal a) + length (decimal b)) + (length (decimal c) + length (decimal d))

length_element : (l : List ℕ) (a : ℤ) (m : List ℕ) (b : ℤ) (n : List ℕ) (c : ℤ) (o : List ℕ) (d : ℤ)
    → length (element l a m b n c o d) ≡ length l + length m + length n + length o + 4 + numbers a b c d
unfolding element numbers
length_element l a m b n c o d = simp length-append (omega arith)

pub length_text : (x y : ℤ) (s : List ℕ) → length (plain_line (text x y s)) ≡ 24 + length (decimal x) + length (decimal y) + length s
length_text x y s = ap (λ (b : List ℕ). length b) (text_element x y s) ∙ simp length-append (omega arith)

module _ (a b c d : ℤ) where
  pub length_line : length (plain_line (line a b c d)) ≡ 32 + numbers a b c d
  length_line = ap (λ (b : List ℕ). length b) (line_element a b c d) ∙ length_element _ a _ b _ c _ d

  pub length_ellipse : length (plain_line (ellipse a b c d)) ≡ 35 + numbers a b c d
  length_ellipse = ap (λ (b : List ℕ). length b) (ellipse_element a b c d) ∙ length_element _ a _ b _ c _ d

  pub length_box : length (plain_line (box a b c d)) ≡ 37 + numbers a b c d
  length_box = ap (λ (b : List ℕ). length b) (box_element a b c d) ∙ length_element _ a _ b _ c _ d

-- ---- the numbers that a line shows
-- those of the turned figure
pub turned_from : (k : ℕ) (a b c d : ℤ) (s : List ℕ)
    → turned (figure_from k a b c d s) ≡ figure_from k (shown_start k a c) (shown_start k b d) (shown_size k c) (shown_size k d) s
unfolding turned figure_from shown_start shown_size
turned_from zero a b c d s = refl
turned_from (suc zero) a b c d s = refl
turned_from (suc (suc zero)) a b c d s = refl
turned_from (suc (suc (suc k))) a b c d s = refl

pub line_from : (k : ℕ) (a b c d : ℤ) (s : List ℕ)
    → line_of (figure_from k a b c d s) ≡ plain_line (figure_from k (shown_start k a c) (shown_start k b d) (shown_size k c) (shown_size k d) s)
unfolding line_of
line_from k a b c d s = ap plain_line (turned_from k a b c d s)

-- ---- bounds
numbers_some : (a b c d : ℤ) → 4 ≤ numbers a b c d
unfolding numbers
numbers_some a b c d = omega (arith, decimal_some a, decimal_some b, decimal_some c, decimal_some d)

pub numbers_limit : (a b c d : ℤ) → SFits w64 a → SFits w64 b → SFits w64 c → SFits w64 d → numbers a b c d ≤ 80
unfolding numbers
numbers_limit a b c d fa fb fc fd = omega (arith, decimal_limit a fa, decimal_limit b fb, decimal_limit c fc, decimal_limit d fd)

numbers_near : (a b c d : ℤ) → nat_abs a ≤ 2 ^ 32 → nat_abs b ≤ 2 ^ 32 → nat_abs c ≤ 2 ^ 32 → nat_abs d ≤ 2 ^ 32 → numbers a b c d ≤ 44
unfolding numbers
numbers_near a b c d na nb nc nd = omega (arith, decimal_near a na, decimal_near b nb, decimal_near c nc, decimal_near d nd)

plain_short : (k : ℕ) (a b c d : ℤ) (s : List ℕ) → nat_abs a ≤ 2 ^ 32 → nat_abs b ≤ 2 ^ 32 → nat_abs c ≤ 2 ^ 32 → nat_abs d ≤ 2 ^ 32
    → length (plain_line (figure_from k a b c d s)) ≤ 81 + length s
unfolding figure_from
plain_short zero a b c d s na nb nc nd = omega (arith, length_line a b c d, numbers_near a b c d na nb nc nd)
plain_short (suc zero) a b c d s na nb nc nd = omega (arith, length_ellipse a b c d, numbers_near a b c d na nb nc nd)
plain_short (suc (suc zero)) a b c d s na nb nc nd = omega (arith, length_box a b c d, numbers_near a b c d na nb nc nd)
plain_short (suc (suc (suc k))) a b c d s na nb nc nd = omega (arith, length_text a b s, decimal_near a na, decimal_near b nb)

-- no line of numbers in range is longer, and none at all is shorter
pub line_short : (k : ℕ) (a b c d : ℤ) (s : List ℕ) → SFits w32 a → SFits w32 b → SFits w32 c → SFits w32 d
    → length (line_of (figure_from k a b c d s)) ≤ 81 + length s
line_short k a b c d s fa fb fc fd =
    rw (line_from k a b c d s)
    (plain_short k (shown_start k a c) (shown_start k b d) (shown_size k c) (shown_size k d) s
    (start_near k a c fa fc) (start_near k b d fb fd) (size_near k c fc) (size_near k d fd))

plain_long : (a : Figure) → 26 ≤ length (plain_line a)
plain_long (line a b c d) = omega (arith, length_line a b c d, numbers_some a b c d)
plain_long (ellipse a b c d) = omega (arith, length_ellipse a b c d, numbers_some a b c d)
plain_long (box a b c d) = omega (arith, length_box a b c d, numbers_some a b c d)
plain_long (text x y s) = omega (arith, length_text x y s, decimal_some x, decimal_some y)

pub line_long : (a : Figure) → 26 ≤ length (line_of a)
unfolding line_of
line_long a = plain_long (turned a)
