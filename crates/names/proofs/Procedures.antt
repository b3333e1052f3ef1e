-- The library's procedures by their names.
-- Assumes nothing.
use Prim.Native.Nat.{ℕ}
use mathlib.Core.Path.{◌≡◌, refl}
use mathlib.Core.Bool.{Bool, true, false, cond}
use mathlib.Core.List.{List}
use mathlib.Core.Option.{Option}
use Rattle.meaning.specs.Basics.{bytes, if◌then◌otherwise◌, same_text}
use Rattle.meaning.specs.Library.{Library, library_of}
use Rattle.names.specs.Prepared.{number_of, library_number}

number_if : (b : Bool) (f g : Unit {0} → Option Library) → number_of (if b then f otherwise g) ≡ cond b (number_of (f tt)) (number_of (g tt))
unfolding if◌then◌otherwise◌
number_if true f g = refl
number_if false f g = refl

pub number_is : (w : List ℕ) (r : ℕ) → r ≡
    cond (same_text w (bytes "drawLine")) 0
    (cond (same_text w (bytes "drawEllipse")) 1
    (cond (same_text w (bytes "drawBox")) 2
    (cond (same_text w (bytes "drawText")) 3
    (cond (same_text w (bytes "drawLineConnectingShapes")) 4
    (cond (same_text w (bytes "drawTextOnShape")) 5
    (cond (same_text w (bytes "getShapeXCoordinate")) 6
    (cond (same_text w (bytes "getShapeYCoordinate")) 7
    (cond (same_text w (bytes "destroyShape")) 8
    (cond (same_text w (bytes "clearScene")) 9
    (cond (same_text w (bytes "drawGroup")) 10
    11)))))))))) → r ≡ library_number w
unfolding library_number library_of number_of
number_is w r e = simp number_if e
