-- Examples of the text of a program: each clause has one whose text differs if the clause does.
use Prim.Native.Nat.{ℕ}
use Prim.Native.String.{String}
use mathlib.Core.Path.{◌≡◌, refl}
use mathlib.Core.Bool.{true, false}
use mathlib.Core.List.{List, [], ◌∷◌, ◌++◌}
use lib.ListN.{replicate}
use lib.IntN.{pos}
use Rattle.meaning.specs.Basics.{bytes}
use Rattle.meaning.specs.Tree.{subtract, number, string, nothing, truth, name, table, operation, call, no_argument, argument, declare}
use Rattle.meaning.specs.Tree.{assign, update, when, while, foreach, return, block, act, only, first, Procedure}
use Rattle.meaning.specs.Grammar.{Reading, well_formed, malformed, reading}
use Rattle.meaning.specs.Program.{checking}
use Rattle.meaning.specs.Book.{pictured, number}
use Rattle.meaning.specs.Call.{Call}
use Rattle.meaning.proofs.Computing.{everything}
use Rattle.meaning.proofs.Rows.{Row, ◌gives◌, Hold}
use Rattle.canonical.specs.Bare
use Rattle.canonical.specs.Bare.{bare_program}
use Rattle.canonical.specs.Text
use Rattle.canonical.specs.Call.{text, text_read, fits, answer_with, text_answer, out_with, text_out}

-- all definitions of the text at once
unfoldable pub every_text : Unit {0}
unfolding Text.comma_separated Text.operator_text Text.is_operation Text.is_entry Text.enclosed_if Text.expression_text Text.argument_texts Text.apart Text.between
    Text.statement_text Text.statements_text Text.procedure_text Text.procedures_text Text.program_text text_read fits answer_with text_answer out_with text_out
every_text = tt

-- and of what is left of a tree
unfoldable pub every_bare : Unit {0}
unfolding Bare.bare Bare.bare_arguments Bare.bare_statement Bare.bare_statements Bare.bare_procedure bare_program
every_bare = tt

-- ---- statements
-- the text of a program whose main has this body
abbrev of_body : String → List ℕ
of_body s = text (bytes "def main(w,h){" ++ bytes s ++ bytes "}")

abbrev lines : String → List ℕ
lines s = bytes "def main(w,h){\n" ++ bytes s ++ bytes "\n}\n"

abbrev pub bodies : List (Row String (List ℕ))
bodies =
    "w ;" gives lines "w;"
    ∷ "var  x ;" gives lines "var x;"
    ∷ "w = h ;" gives lines "w=h;"
    ∷ "w . h = ( w ) ;" gives lines "w.h=w;"
    ∷ "if ( w ) h;" gives lines "if(w)\nh;"
    ∷ "while(w){h;}" gives lines "while(w)\n{\nh;\n}"
    ∷ "if(w)if(h)w;h;" gives lines "if(w)\nif(h)\nw;\nh;"
    ∷ "{w;h;}" gives lines "{\nw;\nh;\n}"
    ∷ "{{w;}}" gives lines "{\n{\nw;\n}\n}"
    ∷ "return(w);" gives lines "return w;"
    ∷ "return 1;" gives lines "return 1;"
    ∷ "return \"a\";" gives lines "return\"a\";"
    ∷ "return -1;" gives lines "return-1;"
    ∷ "return -0;" gives lines "return 0;"
    ∷ "return (w+1).h;" gives lines "return(w+1).h;"
    ∷ "return [w];" gives lines "return[w];"
    ∷ "return none;" gives lines "return none;"
    ∷ "foreach  w  in  h  do  w;" gives lines "foreach w in h do\nw;"
    ∷ "foreach w in(007)do w;" gives lines "foreach w in 7 do\nw;"
    ∷ "foreach w in \"a\" do w;" gives lines "foreach w in\"a\"do\nw;"
    ∷ "foreach w in f( ) do w;" gives lines "foreach w in f()do\nw;"
    ∷ "foreach w in -1 do w;" gives lines "foreach w in-1 do\nw;"
    ∷ "foreach w in [w] do w;" gives lines "foreach w in[w]do\nw;"
    ∷ "foreach w in (w+1).(h) do w;" gives lines "foreach w in(w+1).h do\nw;"
    ∷ "foreach w in h.(w+1) do w;" gives lines "foreach w in h.(w+1)do\nw;"
    ∷ "foreach w in(w+1)-(h*2)do w;" gives lines "foreach w in(w+1)-(h*2)do\nw;"
    ∷ "foreach w in w.h+true do w;" gives lines "foreach w in w.h+true do\nw;"
    ∷ "foreach w in h do foreach h in w do h;" gives lines "foreach w in h do\nforeach h in w do\nh;"
    ∷ "foreach w in h do{w;h;}w;" gives lines "foreach w in h do\n{\nw;\nh;\n}\nw;"
    ∷ "if(w)foreach w in h do if(h)w;" gives lines "if(w)\nforeach w in h do\nif(h)\nw;"
    ∷ []

pub bodies_hold : Hold of_body bodies
unfolding everything every_text
bodies_hold = refl

-- ---- expressions
-- the text of a program whose main is this expression
abbrev of_expression : String → List ℕ
of_expression e = text (bytes "def main(w,h){" ++ bytes e ++ bytes ";}")

abbrev line : String → List ℕ
line e = bytes "def main(w,h){\n" ++ bytes e ++ bytes ";\n}\n"

abbrev pub expressions : List (Row String (List ℕ))
expressions =
    "007" gives line "7"
    ∷ "000" gives line "0"
    ∷ "-00" gives line "0"
    ∷ "-010" gives line "-10"
    ∷ "2147483647" gives line "2147483647"
    ∷ "-2147483648" gives line "-2147483648"
    ∷ "\"none\"" gives line "\"none\""
    ∷ "none" gives line "none"
    ∷ "true" gives line "true"
    ∷ "false" gives line "false"
    ∷ "((w))" gives line "w"
    ∷ "[ (w) ]" gives line "[w]"
    ∷ "w . h" gives line "w.h"
    ∷ "(w).(1)" gives line "w.1"
    ∷ "(w.h).w" gives line "(w.h).w"
    ∷ "w.((h.w))" gives line "w.(h.w)"
    ∷ "(w+h).(h-w)" gives line "(w+h).(h-w)"
    ∷ "(w.h)+(h.w)" gives line "w.h+h.w"
    ∷ "(w+h)-w" gives line "(w+h)-w"
    ∷ "w-((h+w))" gives line "w-(h+w)"
    ∷ "w - (-1)" gives line "w--1"
    ∷ "w - -0" gives line "w-0"
    ∷ "(w+h)" gives line "w+h"
    ∷ "((w.h))" gives line "w.h"
    ∷ "w ++ h" gives line "w++h"
    ∷ "w + h" gives line "w+h"
    ∷ "w - h" gives line "w-h"
    ∷ "w * h" gives line "w*h"
    ∷ "w / h" gives line "w/h"
    ∷ "w % h" gives line "w%h"
    ∷ "w >> h" gives line "w>>h"
    ∷ "w << h" gives line "w<<h"
    ∷ "w == h" gives line "w==h"
    ∷ "w != h" gives line "w!=h"
    ∷ "w > h" gives line "w>h"
    ∷ "w < h" gives line "w<h"
    ∷ "f ( )" gives line "f()"
    ∷ "f( (w) )" gives line "f(w)"
    ∷ "f( (w+h) , [w] , 3 )" gives line "f(w+h,[w],3)"
    ∷ []

pub expressions_hold : Hold of_expression expressions
unfolding everything every_text
expressions_hold = refl

-- ---- programs
abbrev of_program : String → List ℕ
of_program p = text (bytes p)

abbrev pub programs : List (Row String (List ℕ))
programs =
    "def f(){1;}def  main ( w , h ) { f ( ) ; }" gives bytes "def f(){\n1;\n}\ndef main(w,h){\nf();\n}\n"
    ∷ "def main(w,h){1;} def f(x){x;}" gives bytes "def main(w,h){\n1;\n}\ndef f(x){\nx;\n}\n"
    ∷ "def f(){1;}" gives []
    ∷ []

pub programs_hold : Hold of_program programs
unfolding everything every_text
programs_hold = refl

-- ---- calls
-- the text `def main(w,h){`, `w;`, `}` has 20 bytes
abbrev calling : List ℕ → ℕ → Call
calling program n = record {
  operation = checking;
  program = program;
  width = pos 0;
  height = pos 0;
  grants = record { steps = 0; shapes = 0; entries = 0; text_bytes = 0; calls = 1 };
  lent = 8193 ∷ 16384 ∷ [];
  out = replicate n 7;
}

-- the number, or a text's length; and what an out slice of so many bytes holds
pub answered : text_answer (calling (bytes "def main(w,h){(w);}") 20) ≡ pictured 20 0
unfolding everything every_text
answered = refl

pub written : text_out (calling (bytes "def main(w,h){(w);}") 21) ≡ bytes "def main(w,h){\nw;\n}\n" ++ (7 ∷ [])
unfolding everything every_text
written = refl

pub too_long : text_answer (calling (bytes "def main(w,h){(w);}") 19) ≡ number 82 0 0 20
unfolding everything every_text
too_long = refl

pub unwritten : text_out (calling (bytes "def main(w,h){(w);}") 19) ≡ replicate 19 7
unfolding everything every_text
unwritten = refl

pub refused : text_answer (calling (bytes "def f(){1;}def f(){1;}def main(w,h){1;}") 0) ≡ number 60 11 0 0
unfolding everything every_text
refused = refl

-- a text may have 32,768 bytes
pub longest : fits (replicate 32768 7) (replicate 40000 7) ≡ true
unfolding everything every_text
longest = refl

pub too_long_for_any : fits (replicate 32769 7) (replicate 40000 7) ≡ false
unfolding everything every_text
too_long_for_any = refl

-- ---- trees
-- what is left of a program's tree
unfoldable pub bare_read : Reading → List Procedure
unfolding bare_program
bare_read (well_formed m) = (bare_program m).procedures
bare_read (malformed n p) = []

unfoldable pub bare_of : String → List Procedure
unfolding bare_read
bare_of p = bare_read (reading (bytes p))

-- parentheses, places and spelling are no part of it
pub same_trees : bare_of "def f(x){x;}def main(w,h){var a;a=((w))+007;(w).(h)=[-0];if((w)){f((w));}while(h)return(w.h);foreach a in((w))do(a);}"
    ≡ bare_of "def f(x) { x ; }  def main(w,h) { var a; a = w+7; w.h = [0]; if(w) { f(w); } while(h) return w.h; foreach a in w do a; }"
unfolding everything every_bare bare_of
same_trees = refl

-- all else is
pub tree : bare_of "def main(w,h){var a;a=(w-1);w.\"k\"=none;if(true)while(h){w;}foreach x in(w)do h;return[f(w,2)];}"
    ≡ record {
      place = 0;
      name = bytes "main";
      parameters = bytes "w" ∷ bytes "h" ∷ [];
      body =
          first (declare 0 (bytes "a"))
          (first (assign 0 (bytes "a") (operation subtract (name (bytes "w")) (number (pos 1))))
          (first (update 0 (name (bytes "w")) (string (bytes "k")) nothing)
          (first (when 0 (truth true) (while 0 (name (bytes "h")) (block 0 (only (act 0 (name (bytes "w")))))))
          (first (foreach 0 (bytes "x") (name (bytes "w")) (act 0 (name (bytes "h"))))
          (only (return 0 (table (call (bytes "f") (argument (name (bytes "w")) (argument (number (pos 2)) no_argument))))))))));
    } ∷ []
unfolding everything every_bare bare_of
tree = refl
