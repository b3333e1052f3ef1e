-- Examples of programs and calls: what is asked in which order, each bound on both of its sides, shortages, and the slices.
use Prim.Native.Nat.{ℕ}
use Prim.Native.String.{String}
use mathlib.Core.Path.{refl}
use mathlib.Core.List.{List, [], ◌∷◌, ◌++◌}
use lib.ListN.{replicate}
use lib.IntN.{ℤ, pos}
use Rattle.meaning.specs.Basics.{bytes}
use Rattle.meaning.specs.Program.{Operation, checking, drawing}
use Rattle.meaning.specs.Book.{Answer, pictured, number}
use Rattle.meaning.specs.Call.{Call, Grants, answer, work_after, out_after}
use Rattle.meaning.proofs.Computing.{everything}
use Rattle.meaning.proofs.Rows.{Row, ◌gives◌, Hold, minus}
use Rattle.meaning.proofs.Readings.{only, main}
use Rattle.meaning.proofs.ProcedureExamples.{granting}

-- ---- calls
abbrev long : List ℕ
long = 9999999 ∷ 9999999 ∷ 9999999 ∷ 9999999 ∷ []

abbrev pub calling : Operation → List ℕ → ℤ → ℤ → Grants → List ℕ → List ℕ → Call
calling o program width height g lent out =
    record { operation = o; program = program; width = width; height = height; grants = g; lent = lent; out = out }

abbrev some : Grants
some = only 99 2 3 5

-- a sheet so wide and high
abbrev sheet : Operation → List ℕ → ℤ → ℤ → Call
sheet o program width height = calling o program width height some long (replicate 300 1)

-- these grants and lent lengths
abbrev lending : Operation → Grants → List ℕ → Call
lending o g lent = calling o (main "1;") (pos 20) (pos 20) g lent (replicate 300 1)

-- the body drawn with these grants
abbrev within : Grants → String → Call
within g body = calling drawing (main body) (pos 20) (pos 20) g long (replicate 300 1)

-- ---- what is asked first
abbrev pub first_questions : List (Row Call Answer)
first_questions =
    sheet drawing (main "1;") (pos 1) (pos 1) gives pictured 139 2
    ∷ sheet drawing (main "1;") (pos 0) (pos 1) gives number 72 0 0 0
    ∷ sheet drawing (main "1;") (pos 1) (pos 0) gives number 72 0 0 0
    ∷ sheet drawing (main "1;") (minus 1) (pos 1) gives number 72 0 0 0
    ∷ sheet drawing (main "1;") (pos 1) (minus 1) gives number 72 0 0 0
    ∷ sheet checking (main "1;") (pos 0) (minus 1) gives pictured 0 0
    ∷ sheet drawing (replicate 32769 32) (pos 0) (pos 1) gives number 72 0 0 0
    ∷ sheet drawing (bytes "(") (pos 1) (pos 1) gives number 10 0 0 0
    ∷ sheet drawing (bytes "def main(){x;}") (pos 1) (pos 1) gives number 20 0 0 0
    ∷ sheet drawing (bytes "def main(a){x;}") (pos 1) (pos 1) gives number 20 0 0 0
    ∷ sheet drawing (bytes "def main(a,b,c){x;}") (pos 1) (pos 1) gives number 20 0 0 0
    ∷ sheet drawing (bytes " def main(a,a){x;}") (pos 1) (pos 1) gives number 60 0 0 0
    ∷ sheet checking (bytes "def main(a,a){x;}") (pos 1) (pos 1) gives pictured 0 0
    ∷ sheet checking (bytes "def main(){x;}") (pos 1) (pos 1) gives pictured 0 0
    ∷ sheet drawing (bytes "def f(){x;}def f(){x;}def main(){x;}") (pos 0) (pos 1) gives number 72 0 0 0
    ∷ sheet drawing (bytes "def f(){x;}def f(){x;}def main(){x;}") (pos 1) (pos 1) gives number 60 11 0 0
    ∷ sheet checking (bytes "def f(){x;}def f(){x;}def main(){x;}") (pos 0) (pos 1) gives number 60 11 0 0
    ∷ sheet drawing (main "w/0;") (pos 1) (pos 1) gives number 70 14 4 0
    ∷ sheet drawing (main "1/(w-3);") (pos 3) (pos 1) gives number 70 14 6 0
    ∷ sheet drawing (main "1/(h-3);") (pos 1) (pos 3) gives number 70 14 6 0
    ∷ calling drawing (main "1;") (pos 0) (pos 1) some [] [] gives number 71 0 0 0
    ∷ calling checking (replicate 32769 32) (pos 1) (pos 1) some (8192 ∷ []) [] gives number 71 0 0 0
    ∷ []

pub first_questions_hold : Hold answer first_questions
unfolding everything
first_questions_hold = refl

-- ---- counts in their ranges, and slices as long as they must be
abbrev pub admission : List (Row Call Answer)
admission =
    lending drawing (only 4294967295 65535 65535 65535) long gives pictured 141 2
    ∷ lending drawing (only 4294967296 65535 65535 65535) long gives number 71 0 0 0
    ∷ lending drawing (only 4294967295 65536 65535 65535) long gives number 71 0 0 0
    ∷ lending drawing (only 4294967295 65535 65536 65535) long gives number 71 0 0 0
    ∷ lending drawing (only 4294967295 65535 65535 65536) long gives number 71 0 0 0
    ∷ lending checking (only 4294967296 0 0 0) long gives number 71 0 0 0
    ∷ lending drawing (granting 1 0) long gives pictured 141 2
    ∷ lending drawing (granting 64 0) long gives pictured 141 2
    ∷ lending drawing (granting 0 0) long gives number 71 0 0 0
    ∷ lending drawing (granting 65 0) long gives number 71 0 0 0
    ∷ lending checking (granting 0 0) long gives number 71 0 0 0
    ∷ lending checking (granting 65 0) long gives number 71 0 0 0
    ∷ lending drawing some (8193 ∷ 16384 ∷ 262633 ∷ 5 ∷ []) gives pictured 141 2
    ∷ lending drawing some (8192 ∷ 16384 ∷ 262633 ∷ 5 ∷ []) gives number 71 0 0 0
    ∷ lending drawing some (8193 ∷ 16383 ∷ 262633 ∷ 5 ∷ []) gives number 71 0 0 0
    ∷ lending drawing some (8193 ∷ 16384 ∷ 262632 ∷ 5 ∷ []) gives number 71 0 0 0
    ∷ lending drawing some (8193 ∷ 16384 ∷ 262633 ∷ 4 ∷ []) gives number 71 0 0 0
    ∷ lending drawing some (8193 ∷ 16384 ∷ 262633 ∷ []) gives number 71 0 0 0
    ∷ lending drawing (only 99 0 0 0) (8193 ∷ 16384 ∷ 262416 ∷ 0 ∷ []) gives pictured 141 2
    ∷ lending drawing (only 99 0 0 0) (8193 ∷ 16384 ∷ 262415 ∷ 0 ∷ []) gives number 71 0 0 0
    ∷ lending checking some (8193 ∷ 16384 ∷ []) gives pictured 0 0
    ∷ lending checking some (8192 ∷ 16384 ∷ []) gives number 71 0 0 0
    ∷ lending checking some (8193 ∷ 16383 ∷ []) gives number 71 0 0 0
    ∷ lending checking some (8193 ∷ []) gives number 71 0 0 0
    ∷ []

pub admission_holds : Hold answer admission
unfolding everything
admission_holds = refl

-- ---- numbers of programs that run, each with its place and the steps by then
abbrev pub numbers : List (Row String Answer)
numbers =
    "x;" gives number 50 14 2 0
    ∷ "x=1;" gives number 50 14 2 0
    ∷ "1; x=1;" gives number 50 17 4 0
    ∷ "var a;var a;" gives number 60 20 2 0
    ∷ "w.x=1;" gives number 20 14 2 0
    ∷ "w=[0];w.x=1/0;" gives number 50 20 6 0
    ∷ "w=[0];w.1=x;" gives number 50 20 7 0
    ∷ "w=[0];w.2;" gives number 20 20 7 0
    ∷ "[-1];" gives number 40 14 3 0
    ∷ "if(1)1;" gives number 20 14 2 0
    ∷ "if(true)x;" gives number 50 22 4 0
    ∷ "while(none)1;" gives number 20 14 2 0
    ∷ "while(true)x;" gives number 50 25 4 0
    ∷ "{x;}" gives number 50 15 3 0
    ∷ "return x;" gives number 50 14 2 0
    ∷ "w=drawBox(1,2,3,4);destroyShape(w);h=w;" gives number 30 49 11 0
    ∷ "x=1/0;" gives number 70 14 4 0
    ∷ []

pub numbers_hold : Hold (λ body. answer (within some body)) numbers
unfolding everything
numbers_hold = refl

-- ---- shortages: the last of a grant is used, and then the first taking that does not fit has the number
abbrev pub shortages : List (Row Call Answer)
shortages =
    within (only 8 0 0 0) "while(true)1;" gives number 79 14 8 0
    ∷ within (only 10 0 0 0) "while(true)1;" gives number 79 25 10 0
    ∷ within (only 0 9 9 9) "1;" gives number 79 14 0 0
    ∷ within (only 0 9 9 9) "while(false)1;" gives number 79 14 0 0
    ∷ within (only 2 9 9 9) "while(false)1;" gives pictured 141 2
    ∷ within (only 2 0 0 0) "1;" gives pictured 141 2
    ∷ calling drawing (bytes "def f(){f();}def main(w,h){f();}") (pos 20) (pos 20) (only 5 0 0 0) long [] gives number 79 8 5 0
    ∷ calling drawing (bytes "def f(){f();}def main(w,h){f();}") (pos 20) (pos 20) (granting 3 0) long [] gives number 81 8 6 0
    ∷ within (only 99 0 9 9) "drawBox(1,2,3,4);" gives number 76 14 6 0
    ∷ within (only 99 1 0 0) "drawBox(1,2,3,4);" gives pictured 141 6
    ∷ within (only 99 1 9 9) "w=drawBox(1,2,3,4);" gives number 76 14 6 0
    ∷ within (only 99 9 0 9) "w=[0];w.1=2;" gives number 77 20 7 0
    ∷ within (only 99 9 1 9) "w=[0];w.1=2;h=[0];h.1=2;" gives number 77 32 14 0
    ∷ within (only 99 0 1 0) "w=[0];w.1=2;" gives pictured 141 7
    ∷ within (only 99 9 9 2) "1;\"ab\"++\"c\";" gives number 78 16 6 0
    ∷ within (only 99 0 0 3) "1;\"ab\"++\"c\";" gives pictured 141 6
    ∷ within (only 99 0 0 5) "\"ab\"++\"c\";\"ab\"++\"c\";" gives number 78 24 8 0
    ∷ within (only 99 0 0 6) "\"ab\"++\"c\";\"ab\"++\"c\";" gives pictured 141 8
    ∷ calling drawing (main "1;") (pos 20) (pos 20) some long (replicate 140 1) gives number 80 0 2 141
    ∷ calling drawing (main "1;") (pos 20) (pos 20) some long (replicate 141 1) gives pictured 141 2
    ∷ calling drawing (main "1;") (pos 20) (pos 20) some long [] gives number 80 0 2 141
    ∷ calling drawing (main "w=drawBox(1,2,3,4);") (pos 20) (pos 20) some long [] gives number 80 0 6 182
    ∷ calling drawing (main "w=drawBox(1,2,3,4);") (pos 20) (pos 20) (only 99 1 3 5) long [] gives number 76 14 6 0
    ∷ calling drawing (main "w/0;") (pos 20) (pos 20) some long [] gives number 70 14 4 0
    ∷ []

pub shortages_hold : Hold answer shortages
unfolding everything
shortages_hold = refl

-- ---- the slices
-- a picture of nothing, on a sheet whose width and height are written so
abbrev blank_on : String → List ℕ
blank_on size =
    bytes "<?xml version=\"1.0\"?>\n<svg viewBox=\"0 0 " ++ bytes size ++
    bytes "\" xmlns=\"http://www.w3.org/2000/svg\" version=\"1.1\">\n<g stroke=\"black\" fill=\"black\">\n</g>\n</svg>\n"

abbrev blank : List ℕ
blank = blank_on "20 20"

abbrev drawn_into : Operation → String → ℕ → Call
drawn_into o body room = calling o (main body) (pos 20) (pos 20) some long (replicate room 7)

abbrev pub outs : List (Row Call (List ℕ))
outs =
    drawn_into drawing "1;" 141 gives blank
    ∷ drawn_into drawing "1;" 144 gives (blank ++ (7 ∷ 7 ∷ 7 ∷ []))
    ∷ calling drawing (main "1;") (pos 3) (pos 400) some long (replicate 141 7) gives blank_on "3 400"
    ∷ drawn_into drawing "1;" 140 gives replicate 140 7
    ∷ drawn_into drawing "x;" 4 gives replicate 4 7
    ∷ drawn_into drawing "while(true)1;" 4 gives replicate 4 7
    ∷ drawn_into drawing "(" 4 gives replicate 4 7
    ∷ drawn_into checking "1;" 144 gives replicate 144 7
    ∷ calling drawing (main "1;") (pos 20) (pos 20) some [] (replicate 144 7) gives replicate 144 7
    ∷ []

pub outs_hold : Hold out_after outs
unfolding everything
outs_hold = refl

-- a work slice of three elements
abbrev pub works : List (Row Call (List ℕ))
works =
    drawn_into drawing "1;" 141 gives (0 ∷ 0 ∷ 0 ∷ [])
    ∷ drawn_into drawing "x;" 141 gives (0 ∷ 0 ∷ 0 ∷ [])
    ∷ drawn_into drawing "(" 0 gives (0 ∷ 0 ∷ 0 ∷ [])
    ∷ drawn_into checking "1;" 0 gives (0 ∷ 0 ∷ 0 ∷ [])
    ∷ calling drawing (main "1;") (pos 20) (pos 20) some [] [] gives (4 ∷ 5 ∷ 6 ∷ [])
    ∷ []

pub works_hold : Hold (λ c. work_after c (4 ∷ 5 ∷ 6 ∷ [])) works
unfolding everything
works_hold = refl
