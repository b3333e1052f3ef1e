-- Readings: places where a document can be read in two ways, and which way these definitions take. One table, and one claim about all of it.
use Prim.Native.Nat.{ℕ}
use Prim.Native.String.{String}
use mathlib.Core.Path.{◌≡◌, refl}
use mathlib.Core.List.{List, [], ◌∷◌, ◌++◌}
use lib.ListN.{replicate}
use lib.IntN.{pos, negsuc}
use Rattle.meaning.specs.Basics.{bytes}
use Rattle.meaning.specs.Value.{integer}
use Rattle.meaning.specs.Program.{Operation, checking, drawing}
use Rattle.meaning.specs.Book.{Answer, pictured, number}
use Rattle.meaning.specs.Call.{Call, Grants, answer}
use Rattle.meaning.proofs.Computing.{everything}
use Rattle.meaning.proofs.Examples.{Example, pictures, evaluates, Holds, value_of, grants, asked}

-- ---- what a row says
pub data Row : Type 0 where
  -- the operation, with these grants, on a sheet of 20 by 20 and with an out slice of 300 bytes, answers so to the program
  answers : Operation → Grants → List ℕ → Answer → Row
  -- the program, drawn on such a sheet into an out slice of so many bytes, gets this answer
  drawn_into : ℕ → String → Answer → Row
  -- what an example says
  same : Example → Row

abbrev pub called : Operation → Grants → List ℕ → Call
called o g program = record {
  operation = o;
  program = program;
  width = pos 20;
  height = pos 20;
  grants = g;
  lent = 65536 ∷ 65536 ∷ 1000000 ∷ 65536 ∷ [];
  out = replicate 300 0;
}

abbrev pub RowHolds : Row → Type 0
RowHolds (answers o g program a) = answer (called o g program) ≡ a
RowHolds (drawn_into room program a) = answer (asked drawing program 1000000 room) ≡ a
RowHolds (same e) = Holds e

abbrev pub AllRowsHold : List Row → Type 0
AllRowsHold [] = Unit {0}
AllRowsHold (r ∷ rs) = RowHolds r × AllRowsHold rs

-- ---- short forms
-- so many steps, shapes, entries and text bytes, and 64 calls
abbrev pub only : ℕ → ℕ → ℕ → ℕ → Grants
only n s e t = record { steps = n; shapes = s; entries = e; text_bytes = t; calls = 64 }

-- the grants of `imgdraw`
abbrev pub plenty : Grants
plenty = grants 1000000

-- main with this body, whose first byte has place 14
abbrev pub main : String → List ℕ
main body = bytes "def main(w,h){" ++ bytes body ++ bytes "}"

-- the body drawn, with plenty and with these grants
abbrev pub gets : String → Answer → Row
gets body a = answers drawing plenty (main body) a

abbrev pub gets_with : Grants → String → Answer → Row
gets_with g body a = answers drawing g (main body) a

-- n parentheses around a 1
abbrev pub nested : ℕ → List ℕ
nested n = bytes "def main(w,h){" ++ replicate n 40 ++ bytes "1" ++ replicate n 41 ++ bytes ";}"

-- ---- the table
abbrev pub readings : List Row
readings =
    -- what is asked first
    gets "var a;a=drawBox(1,2,3,4);destroyShape(a,destroyShape(a));" (number 30 39 12 0)
    ∷ gets "var a;a=drawBox(1,2,3,4);drawLine(a,destroyShape(a),1,2);" (number 30 39 14 0)
    ∷ gets "var a;a=drawBox(1,2,3,4);foo(a,destroyShape(a));" (number 20 39 12 0)
    ∷ gets "var a;a=drawBox(1,2,3,4);a+destroyShape(a);" (number 30 39 12 0)
    ∷ gets "var a;a=drawBox(1,2,3,4);a==destroyShape(a);" (number 30 39 12 0)
    ∷ gets "var a;a=drawBox(1,2,3,4);[0].a=destroyShape(a);" (pictured 141 13)
    ∷ gets "none/0;" (number 20 14 4 0)
    ∷ gets_with (only 100 0 0 0) "\"a\"++1;" (number 20 14 4 0)
    ∷ gets "true+(1/0);" (number 70 14 6 0)
    ∷ gets "1.(1/0);" (number 20 14 3 0)
    ∷ gets "foo(x);" (number 50 14 3 0)
    ∷ gets_with (only 100 1 0 0) "a=drawLine(1,2,3,4);" (number 50 14 6 0)
    ∷ gets_with (only 100 0 0 0) "[0].1=1/0;" (number 70 14 7 0)
    ∷ answers drawing (only 0 0 0 0) (bytes "def main(a,a,a){1;}") (number 20 0 0 0)
    ∷ answers checking plenty (bytes "def main(a,a){1;}") (pictured 0 0)
    -- how a program is read
    ∷ gets ") 1;!" (number 10 18 0 0)
    ∷ answers checking plenty (bytes "def main(w,h){1;" ++ (13 ∷ bytes "}")) (number 10 16 0 0)
    ∷ gets "\"\";" (number 10 14 0 0)
    ∷ gets ") 99999999999;" (number 10 14 0 0)
    ∷ gets "- 1;" (number 10 14 0 0)
    ∷ gets "1--1;" (pictured 141 4)
    ∷ gets "-2147483649;" (number 10 15 0 0)
    ∷ gets "(w)=1;" (number 10 17 0 0)
    ∷ gets "1+2+3;" (number 10 17 0 0)
    ∷ answers checking plenty (nested 64) (pictured 0 0)
    ∷ answers checking plenty (nested 65) (number 75 78 0 0)
    -- what is counted and taken, and where
    ∷ gets "{1;}" (pictured 141 3)
    ∷ gets "while(false)1;" (pictured 141 2)
    ∷ gets "while(true)return 1;" (pictured 141 4)
    ∷ gets "if(true)var w;" (number 60 22 3 0)
    ∷ gets "if(false)x=1;" (pictured 141 2)
    ∷ gets_with (only 15 4 0 0) "var a;var b;a=drawBox(2,9,3,h-9);b=drawText(2,h,\"day\");" (pictured 213 15)
    ∷ gets_with (only 15 3 0 0) "var a;var b;a=drawBox(2,9,3,h-9);b=drawText(2,h,\"day\");" (number 76 47 15 0)
    ∷ gets_with (only 100 2 1 0) "var a;a=drawBox(1,2,3,4);var t;t=[0];t.1=a;" (pictured 182 15)
    ∷ gets_with (only 100 0 1 0) "var t;t=[0];t.1=1;t.1=2;" (pictured 141 12)
    ∷ gets_with (only 100 0 1 0) "var t;t=[0];t.1=1;t.2=2;" (number 77 32 12 0)
    ∷ gets_with (only 100 0 0 2) "\"a\"++\"b\";" (pictured 141 4)
    ∷ gets_with (only 100 0 0 1) "\"a\"++\"b\";" (number 78 14 4 0)
    ∷ drawn_into 140 "def main(w,h){var a;}" (number 80 0 1 141)
    ∷ drawn_into 0 "def main(w,h){var a;}" (number 80 0 1 141)
    ∷ drawn_into 0 "def main(w,h){a;}" (number 50 14 2 0)
    -- values, shapes and the picture
    ∷ gets "w=drawLine(1,2,3,4);clearScene();w;" (number 30 47 10 0)
    ∷ gets "var t;t=[0];t.1=drawLine(1,2,3,4);clearScene();t.1;" (pictured 141 18)
    ∷ gets "var t;t=[0];t.1=1;t.2;" (number 20 32 12 0)
    ∷ gets "var a;a=drawBox(1,2,3,4);var t;t=[0];t.a=1;destroyShape(a);a=drawBox(1,2,3,4);t.a;" (pictured 182 28)
    ∷ gets "var t;t=[0];t==t;" (number 20 26 8 0)
    ∷ gets "w=1000;" (pictured 141 2)
    ∷ same (evaluates "getShapeXCoordinate(drawBox(-5,0,3,0))" (integer (negsuc 3)))
    ∷ same (pictures "def main(w,h){var a;var b;a=drawBox(2,9,3,h-9);b=drawText(2,h,\"day\");}"
    "<?xml version=\"1.0\"?>\n<svg viewBox=\"0 0 20 20\" xmlns=\"http://www.w3.org/2000/svg\" version=\"1.1\">\n<g stroke=\"black\" fill=\"black\">\n<rect x=\"2\" y=\"9\" width=\"3\" height=\"11\"/>\n<text x=\"2\" y=\"20\">day</text>\n</g>\n</svg>\n")
    ∷ []

-- THE CLAIM
pub readings_hold : AllRowsHold readings
unfolding everything value_of
readings_hold = (refl, (refl, (refl, (refl, (refl, (refl, (refl, (refl, (refl, (refl, (refl, (refl, (refl, (refl, (refl, (refl, (refl, (refl, (refl, (refl, (refl, (refl, (refl, (refl, (refl, (refl, (refl, (refl, (refl, (refl, (refl, (refl, (refl, (refl, (refl, (refl, (refl, (refl, (refl, (refl, (refl, (refl, (refl, (refl, (refl, (refl, (refl, (refl, (refl, tt)))))))))))))))))))))))))))))))))))))))))))))))))
