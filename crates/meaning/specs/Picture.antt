-- The bytes of a picture.
use Rattle.std.specs.Prelude.{ℕ, zero, suc, ◌+◌, ◌/◌, ◌%◌, List, [], ◌∷◌, ◌++◌, ℤ, pos, negsuc, nat_abs, ◌+ℤ◌, ltb}
use Rattle.meaning.specs.Basics.{bytes, if◌then◌otherwise◌}
use Rattle.meaning.specs.Figure.{Figure, line, ellipse, box, text}

-- ---- numbers
-- the decimal digits of n, at most as many as rounds; more rounds than n change nothing (`rounds-enough` of DecimalLaws), so nothing is left out
unfoldable pub digits_within : ℕ → ℕ → List ℕ
digits_within zero n = []
digits_within (suc rounds) n =
    if ltb n 10 then (λ _. (n + 48) ∷ [])
    otherwise λ _. digits_within rounds (n / 10) ++ ((n % 10 + 48) ∷ [])

-- no number has more digits than its value and one
unfoldable pub digits_of : ℕ → List ℕ
digits_of n = digits_within (suc n) n

-- decimal, with a minus if negative and no leading zero
unfoldable pub decimal : ℤ → List ℕ
decimal (pos n) = digits_of n
decimal (negsuc n) = bytes "-" ++ digits_of (suc n)

-- ---- lines
-- NAME="number"
unfoldable pub attribute : List ℕ → ℤ → List ℕ
attribute name z = name ++ bytes "=\"" ++ decimal z ++ bytes "\""

-- a figure's own numbers
unfoldable pub plain_line : Figure → List ℕ
plain_line (line x₁ y₁ x₂ y₂) =
    bytes "<line" ++ attribute (bytes " x1") x₁ ++ attribute (bytes " y1") y₁ ++ attribute (bytes " x2") x₂ ++ attribute (bytes " y2") y₂ ++
    bytes "/>\n"
plain_line (ellipse x y a b) =
    bytes "<ellipse" ++ attribute (bytes " cx") x ++ attribute (bytes " cy") y ++ attribute (bytes " rx") a ++ attribute (bytes " ry") b ++
    bytes "/>\n"
plain_line (box x y w h) =
    bytes "<rect" ++ attribute (bytes " x") x ++ attribute (bytes " y") y ++ attribute (bytes " width") w ++ attribute (bytes " height") h ++
    bytes "/>\n"
plain_line (text x y s) =
    bytes "<text" ++ attribute (bytes " x") x ++ attribute (bytes " y") y ++ bytes ">" ++ s ++ bytes "</text>\n"

-- SVG has no negative sizes: a negative width begins at x plus the width, in whole numbers without wrapping, and its sign is turned; so do heights, and radii lose their sign
unfoldable pub side_start : ℤ → ℤ → ℤ
side_start x (pos w) = x
side_start x (negsuc w) = x +ℤ negsuc w

unfoldable pub absolute : ℤ → ℤ
absolute z = pos (nat_abs z)

unfoldable pub turned : Figure → Figure
turned (line x₁ y₁ x₂ y₂) = line x₁ y₁ x₂ y₂
turned (ellipse x y a b) = ellipse x y (absolute a) (absolute b)
turned (box x y w h) = box (side_start x w) (side_start y h) (absolute w) (absolute h)
turned (text x y s) = text x y s

unfoldable pub line_of : Figure → List ℕ
line_of a = plain_line (turned a)

unfoldable pub lines_of : List Figure → List ℕ
lines_of [] = []
lines_of (a ∷ more) = line_of a ++ lines_of more

-- ---- the picture
unfoldable pub picture_of : ℤ → ℤ → List Figure → List ℕ
picture_of width height figures =
    bytes "<?xml version=\"1.0\"?>\n" ++
    bytes "<svg viewBox=\"0 0 " ++ decimal width ++ bytes " " ++ decimal height ++
    bytes "\" xmlns=\"http://www.w3.org/2000/svg\" version=\"1.1\">\n" ++
    bytes "<g stroke=\"black\" fill=\"black\">\n" ++
    lines_of figures ++
    bytes "</g>\n" ++
    bytes "</svg>\n"
