-- Examples of decimals and of the lines of a picture.
use Prim.Native.Nat.{ℕ}
use mathlib.Core.Path.{◌≡◌, refl}
use mathlib.Core.Bool.{false}
use mathlib.Core.List.{List, [], ◌∷◌}
use lib.IntN.{ℤ, pos}
use Rattle.meaning.specs.Basics.{bytes}
use Rattle.meaning.specs.Figure.{Figure, line, ellipse, box, text, same_figure}
use Rattle.meaning.specs.Picture.{decimal, line_of, picture_of}
use Rattle.meaning.proofs.Computing.{everything}
use Rattle.meaning.proofs.Rows.{Row, ◌gives◌, Hold, minus}

abbrev pub decimals : List (Row ℤ (List ℕ))
decimals =
    pos 0 gives bytes "0"
    ∷ pos 7 gives bytes "7"
    ∷ pos 9 gives bytes "9"
    ∷ pos 10 gives bytes "10"
    ∷ pos 19 gives bytes "19"
    ∷ pos 100 gives bytes "100"
    ∷ pos 1030 gives bytes "1030"
    ∷ pos 2147483647 gives bytes "2147483647"
    ∷ minus 1 gives bytes "-1"
    ∷ minus 9 gives bytes "-9"
    ∷ minus 10 gives bytes "-10"
    ∷ minus 2147483648 gives bytes "-2147483648"
    ∷ pos 2147483648 gives bytes "2147483648"
    ∷ minus 4294967296 gives bytes "-4294967296"
    ∷ []

pub decimals_hold : Hold decimal decimals
unfolding everything
decimals_hold = refl

abbrev pub lines : List (Row Figure (List ℕ))
lines =
    line (pos 1) (minus 2) (pos 30) (pos 4) gives bytes "<line x1=\"1\" y1=\"-2\" x2=\"30\" y2=\"4\"/>\n"
    ∷ ellipse (minus 1) (pos 2) (pos 30) (pos 4) gives bytes "<ellipse cx=\"-1\" cy=\"2\" rx=\"30\" ry=\"4\"/>\n"
    ∷ box (pos 1) (pos 2) (pos 30) (pos 4) gives bytes "<rect x=\"1\" y=\"2\" width=\"30\" height=\"4\"/>\n"
    ∷ text (pos 1) (pos 20) (bytes "day") gives bytes "<text x=\"1\" y=\"20\">day</text>\n"
    ∷ []

pub lines_hold : Hold line_of lines
unfolding everything
lines_hold = refl

-- boxes drawn backwards, and negative radii
abbrev pub turned_lines : List (Row Figure (List ℕ))
turned_lines =
    box (pos 1) (pos 2) (minus 3) (pos 4) gives bytes "<rect x=\"-2\" y=\"2\" width=\"3\" height=\"4\"/>\n"
    ∷ box (pos 1) (pos 2) (pos 3) (minus 4) gives bytes "<rect x=\"1\" y=\"-2\" width=\"3\" height=\"4\"/>\n"
    ∷ box (pos 10) (pos 2) (minus 3) (minus 2) gives bytes "<rect x=\"7\" y=\"0\" width=\"3\" height=\"2\"/>\n"
    ∷ box (minus 1) (pos 2) (pos 0) (minus 1) gives bytes "<rect x=\"-1\" y=\"1\" width=\"0\" height=\"1\"/>\n"
    ∷ box (minus 2147483648) (pos 0) (minus 2147483648) (pos 0) gives
    bytes "<rect x=\"-4294967296\" y=\"0\" width=\"2147483648\" height=\"0\"/>\n"
    ∷ box (pos 2147483647) (minus 1) (minus 1) (minus 2147483648) gives
    bytes "<rect x=\"2147483646\" y=\"-2147483649\" width=\"1\" height=\"2147483648\"/>\n"
    ∷ ellipse (minus 1) (pos 2) (minus 30) (pos 4) gives bytes "<ellipse cx=\"-1\" cy=\"2\" rx=\"30\" ry=\"4\"/>\n"
    ∷ ellipse (minus 1) (pos 2) (pos 3) (minus 2147483648) gives bytes "<ellipse cx=\"-1\" cy=\"2\" rx=\"3\" ry=\"2147483648\"/>\n"
    ∷ line (minus 1) (minus 2) (minus 3) (minus 4) gives bytes "<line x1=\"-1\" y1=\"-2\" x2=\"-3\" y2=\"-4\"/>\n"
    ∷ []

pub turned_lines_hold : Hold line_of turned_lines
unfolding everything
turned_lines_hold = refl

-- the shape itself keeps its numbers: it is not the box that its line shows
pub not_the_same : same_figure (box (pos 1) (pos 2) (minus 3) (pos 4)) (box (minus 2) (pos 2) (pos 3) (pos 4)) ≡ false
unfolding everything
not_the_same = refl

pub whole-picture :
    picture_of (pos 20) (pos 300) (box (pos 1) (pos 2) (pos 3) (pos 4) ∷ text (pos 5) (pos 6) (bytes "a") ∷ [])
    ≡ bytes "<?xml version=\"1.0\"?>\n<svg viewBox=\"0 0 20 300\" xmlns=\"http://www.w3.org/2000/svg\" version=\"1.1\">\n<g stroke=\"black\" fill=\"black\">\n<rect x=\"1\" y=\"2\" width=\"3\" height=\"4\"/>\n<text x=\"5\" y=\"6\">a</text>\n</g>\n</svg>\n"
unfolding everything
whole-picture = refl
