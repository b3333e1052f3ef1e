-- The starred examples of document 01: one table, and one claim about all of it.
use Prim.Native.Nat.{ℕ}
use Prim.Native.String.{String}
use mathlib.Core.Path.{◌≡◌, refl}
use mathlib.Core.List.{List, [], ◌∷◌}
use mathlib.Core.Option.{Option, none, some}
use lib.ListN.{length, replicate}
use lib.IntN.{pos, negsuc}
use Rattle.meaning.specs.Basics.{bytes}
use Rattle.meaning.specs.Token.{Lexed, lexed, stray, tokens_of}
use Rattle.meaning.specs.Tree.{Expression}
use Rattle.meaning.specs.Grammar.{Got, good, wrong, expression}
use Rattle.meaning.specs.Value.{Value, integer}
use Rattle.meaning.specs.Run.{End, result, error, unfinished}
use Rattle.meaning.specs.Evaluate.{evaluate}
use Rattle.meaning.specs.Procedure.{calling}
use Rattle.meaning.specs.Program.{Operation, drawing, empty}
use Rattle.meaning.specs.Book.{Answer, pictured, number}
use Rattle.meaning.specs.Call.{Call, Grants, answer, out_after}
use Rattle.meaning.proofs.Computing.{everything}

-- ---- what an example says
pub data Example : Type 0 where
  -- the program, drawn with so many steps on a sheet of 20 by 20 into an out slice of 300 bytes, gets this answer
  drawn_with : String → ℕ → Answer → Example
  -- the program, drawn on such a sheet, leaves this picture in an out slice of its length
  pictures : String → String → Example
  -- the expression has this value
  evaluates : String → Value → Example

-- the grants of `imgdraw`, with so many steps
abbrev pub grants : ℕ → Grants
grants n = record { steps = n; shapes = 1024; entries = 1024; text_bytes = 16384; calls = 64 }

abbrev pub asked : Operation → String → ℕ → ℕ → Call
asked o program n room = record {
  operation = o;
  program = bytes program;
  width = pos 20;
  height = pos 20;
  grants = grants n;
  lent = 65536 ∷ 65536 ∷ 1000000 ∷ 65536 ∷ [];
  out = replicate room 0;
}

value_at : End Value → Option Value
value_at (result v s) = some v
value_at (error n p) = none
value_at unfinished = none

value_read : Got Expression → Option Value
value_read (good e j) = value_at (evaluate (calling 1 []) e 0 empty).end
value_read (wrong n j) = none

value_lexed : Lexed → Option Value
value_lexed (lexed ts) = value_read (expression 64 ts 0)
value_lexed (stray p) = none

unfoldable pub value_of : String → Option Value
unfolding value_at value_read value_lexed
value_of text = value_lexed (tokens_of (bytes text))

abbrev pub Holds : Example → Type 0
Holds (drawn_with program n a) = answer (asked drawing program n 300) ≡ a
Holds (pictures program svg) = out_after (asked drawing program 1000000 (length (bytes svg))) ≡ bytes svg
Holds (evaluates text v) = value_of text ≡ some v

abbrev pub AllHold : List Example → Type 0
AllHold [] = Unit {0}
AllHold (e ∷ es) = Holds e × AllHold es

-- ---- the table
abbrev pub minus : ℕ → Value
minus n = integer (negsuc n)

abbrev pub starred : List Example
starred =
    drawn_with "" 1000000 (number 10 0 0 0)
    ∷ drawn_with "def main(w,h){}" 1000000 (number 10 14 0 0)
    ∷ drawn_with "def main(w,h){var a;}" 1000000 (pictured 141 1)
    ∷ pictures "def main(w,h){var a;}" "<?xml version=\"1.0\"?>\n<svg viewBox=\"0 0 20 20\" xmlns=\"http://www.w3.org/2000/svg\" version=\"1.1\">\n<g stroke=\"black\" fill=\"black\">\n</g>\n</svg>\n"
    ∷ drawn_with "def main(w,h){var a;}" 0 (number 79 14 0 0)
    ∷ drawn_with "def main(w,h){var w;}" 1000000 (number 60 14 1 0)
    ∷ drawn_with "def main(w,h){a=1;}" 1000000 (number 50 14 2 0)
    ∷ evaluates "-7/2" (integer (negsuc 2))
    ∷ evaluates "-7%2" (integer (negsuc 0))
    ∷ evaluates "-7>>1" (integer (negsuc 3))
    ∷ evaluates "7<<33" (integer (pos 14))
    ∷ evaluates "2147483647+1" (integer (negsuc 2147483647))
    ∷ evaluates "getShapeXCoordinate(drawLine(-3,0,0,0))" (integer (negsuc 0))
    ∷ evaluates "getShapeXCoordinate(drawBox(1,1,-3,3))" (integer (pos 0))
    ∷ evaluates "getShapeYCoordinate(drawBox(1,1,-3,3))" (integer (pos 2))
    ∷ drawn_with "def main(w,h){var a;var b;a=drawBox(2,9,3,h-9);b=drawText(2,h,\"day\");}" 14 (number 79 47 14 0)
    ∷ []

-- THE CLAIM
pub starred_hold : AllHold starred
unfolding everything value_of
starred_hold = (refl, (refl, (refl, (refl, (refl, (refl, (refl, (refl, (refl, (refl, (refl, (refl, (refl, (refl, (refl, (refl, tt))))))))))))))))
