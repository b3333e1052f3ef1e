-- Laws of a picture's lines.
use Prim.Native.Nat.{ℕ, suc}
use mathlib.Core.Path.{◌≡◌, refl, ap, sym, ◌∙◌}
use mathlib.Core.Bool.{true, false}
use mathlib.Core.List.{List, [], ◌∷◌, ◌++◌, append_assoc}
use native.Mathlib.Omega.{arith}
use lib.IntN.{ℤ, pos, negsuc, nat_abs, ◌+ℤ◌, -ℤ-+ℤ_cancel}
use Rattle.meaning.specs.Basics.{bytes}
use Rattle.meaning.specs.Grammar.{numeral}
use Rattle.meaning.specs.Integer.{is_negative}
use Rattle.meaning.specs.Figure.{Figure, line, ellipse, box, text, figure_kind, text_of}
use Rattle.meaning.specs.Picture.{digits_of, decimal, attribute, plain_line, side_start, absolute, turned, line_of, lines_of}
use Rattle.meaning.proofs.DecimalLaws.{numeral_digits_of}

-- a decimal, read again, is the number; behind its minus if it is negative
pub decimal_back : (n : ℕ) → numeral (decimal (pos n)) ≡ n
unfolding decimal
decimal_back n = numeral_digits_of n

pub decimal_minus : (n : ℕ) → (ds : List ℕ) × (decimal (negsuc n) ≡ bytes "-" ++ ds) × (numeral ds ≡ suc n)
unfolding decimal
decimal_minus n = (digits_of (suc n), refl, numeral_digits_of (suc n))

-- the lines of some figures and then more
pub lines_of_append : (figures more : List Figure) → lines_of (figures ++ more) ≡ lines_of figures ++ lines_of more
unfolding lines_of
lines_of_append [] more = refl
lines_of_append (a ∷ figures) more =
    ap (λ (l : List ℕ). line_of a ++ l) (lines_of_append figures more) ∙ sym (append_assoc (line_of a) (lines_of figures) (lines_of more))

-- ---- negative sizes are turned
-- widths, heights and radii are written in digits alone
pub box_line : (x y w h : ℤ) → line_of (box x y w h)
    ≡ bytes "<rect" ++ attribute (bytes " x") (side_start x w) ++ attribute (bytes " y") (side_start y h)
    ++ (bytes " width" ++ bytes "=\"" ++ digits_of (nat_abs w) ++ bytes "\"")
    ++ (bytes " height" ++ bytes "=\"" ++ digits_of (nat_abs h) ++ bytes "\"") ++ bytes "/>\n"
unfolding line_of plain_line turned absolute attribute decimal
box_line x y w h = refl

pub ellipse_line : (x y a b : ℤ) → line_of (ellipse x y a b)
    ≡ bytes "<ellipse" ++ attribute (bytes " cx") x ++ attribute (bytes " cy") y
    ++ (bytes " rx" ++ bytes "=\"" ++ digits_of (nat_abs a) ++ bytes "\"")
    ++ (bytes " ry" ++ bytes "=\"" ++ digits_of (nat_abs b) ++ bytes "\"") ++ bytes "/>\n"
unfolding line_of plain_line turned absolute attribute decimal
ellipse_line x y a b = refl

-- a size that is not negative stays, and its place too
pub absolute_same : (z : ℤ) → is_negative z ≡ false → absolute z ≡ z
unfolding absolute is_negative
absolute_same (pos n) h = refl
absolute_same (negsuc n) h = let y : true ≡ false = h in let z : ◌≡◌ {A = ℕ} 0 1 = cc in absurd (omega arith)

pub start_same : (x w : ℤ) → is_negative w ≡ false → side_start x w ≡ x
unfolding side_start is_negative
start_same x (pos n) h = refl
start_same x (negsuc n) h = let y : true ≡ false = h in let z : ◌≡◌ {A = ℕ} 0 1 = cc in absurd (omega arith)

-- a side drawn backwards has the same two ends
pub ends_same : (x w : ℤ) → is_negative w ≡ true → (side_start x w ≡ x +ℤ w) × (side_start x w +ℤ absolute w ≡ x)
unfolding side_start absolute is_negative
ends_same x (pos n) h = let y : false ≡ true = h in let z : ◌≡◌ {A = ℕ} 0 1 = cc in absurd (omega arith)
ends_same x (negsuc n) h = (refl, -ℤ-+ℤ_cancel x (pos (suc n)))

-- a turned figure has its kind and text
pub turned_kind : (a : Figure) → figure_kind (turned a) ≡ figure_kind a
unfolding turned figure_kind
turned_kind (line x₁ y₁ x₂ y₂) = refl
turned_kind (ellipse x y a b) = refl
turned_kind (box x y w h) = refl
turned_kind (text x y s) = refl

pub turned_text : (a : Figure) → text_of (turned a) ≡ text_of a
unfolding turned text_of
turned_text (line x₁ y₁ x₂ y₂) = refl
turned_text (ellipse x y a b) = refl
turned_text (box x y w h) = refl
turned_text (text x y s) = refl
