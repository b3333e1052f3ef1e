-- What is printed for some inputs, as the definition has it.
-- Assumes nothing.
use mathlib.Core.Bool.{true}
use mathlib.Core.List.{List, [], ◌∷◌, ◌++◌, map}
use mathlib.Core.Path.{◌≡◌, refl}
use Prim.Native.Nat.{ℕ}
use lib.IntN.{ℤ}
use Rattle.meaning.specs.Basics.{bytes}
use Rattle.meaning.specs.Call.{in_range, needed, long_enough, admitted}
use Rattle.meaning.proofs.Computing.{everything}
use Rattle.sheet.specs.Errors.{error_line}
use Rattle.sheet.specs.Lines.{field_with, field_of, after_height, with_height, after_width, with_width, sheet_of}
use Rattle.sheet.specs.Shown.{shown_text}
use Rattle.imgdraw.specs.Printed.{call_of, drawn_text, printed_on, printed_of, printed}

-- enough is lent, so 71 is never printed
pub lent_enough : (program : List ℕ) (w h : ℤ) (out : List ℕ) → admitted (call_of program w h out) ≡ true
unfolding admitted in_range needed long_enough
lent_enough program w h out = refl

pub refused :
    map printed (bytes "" ∷ bytes "20 20\r\ndef main(w,h){1;}" ∷ bytes "0 20\ndef main(w,h){1;}" ∷ bytes "20 20\n" ∷ bytes "20 20\ndef main(w,h){a=1;}" ∷ [])
    ≡ (bytes "error 72 at 0\n" ∷ bytes "error 72 at 0\n" ∷ bytes "error 72 at 0\n" ∷ bytes "error 10 at 0\n" ∷ bytes "error 50 at 14\n" ∷ [])
unfolding everything printed printed_of printed_on drawn_text shown_text error_line sheet_of with_width field_of field_with after_width with_height after_height
refused = refl

-- document 01's
pub drawn :
    printed (bytes "20 20\ndef main(w,h){var a;var b;a=drawBox(2,9,3,h-9);b=drawText(2,h,\"day\");}")
    ≡ (bytes "<?xml version=\"1.0\"?>\n" ++ bytes "<svg viewBox=\"0 0 20 20\" xmlns=\"http://www.w3.org/2000/svg\" version=\"1.1\">\n"
    ++ bytes "<g stroke=\"black\" fill=\"black\">\n" ++ bytes "<rect x=\"2\" y=\"9\" width=\"3\" height=\"11\"/>\n" ++ bytes "<text x=\"2\" y=\"20\">day</text>\n"
    ++ bytes "</g>\n" ++ bytes "</svg>\n")
unfolding everything printed printed_of printed_on drawn_text shown_text error_line sheet_of with_width field_of field_with after_width with_height after_height
drawn = refl
