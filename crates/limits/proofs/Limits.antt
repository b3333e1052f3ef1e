-- 32,768 bytes, 8,192 tokens and 64 levels, and one more of each.
use Prim.Native.Nat.{ℕ, zero, suc}
use Prim.Native.String.{String}
use mathlib.Core.Path.{refl}
use mathlib.Core.List.{List, [], ◌∷◌, ◌++◌}
use lib.ListN.{replicate}
use Rattle.meaning.specs.Basics.{bytes}
use Rattle.meaning.specs.Grammar.{Reading, malformed, reading}
use Rattle.meaning.specs.Program.{Operation, checking, drawing}
use Rattle.meaning.specs.Book.{Answer, number}
use Rattle.meaning.specs.Call.{Call, answer}
use Rattle.meaning.proofs.Computing.{everything}
use Rattle.meaning.proofs.Rows.{Row, ◌gives◌, Hold}
use Rattle.meaning.proofs.Readings.{called, plenty}

-- ---- what is read
-- n times the same
unfoldable pub again : ℕ → List ℕ → List ℕ
again zero l = []
again (suc n) l = l ++ again n l

-- loops over groups, each the body of the one before, around the rest of main's body
unfoldable pub loops : ℕ → String → List ℕ
unfolding again
loops n rest = bytes "def main(w,h){" ++ again n (bytes "foreach x in w do ") ++ bytes rest

abbrev pub programs : List (Row (List ℕ) Reading)
programs =
    loops 65 "1;}" gives malformed 75 1184
    ∷ loops 65 "}" gives malformed 10 1184
    ∷ loops 64 "1}" gives malformed 10 1167
    ∷ replicate 8192 41 gives malformed 10 0
    ∷ (replicate 8193 41 ++ bytes "#") gives malformed 10 8193
    ∷ []

pub programs_hold : Hold reading programs
unfolding everything again loops
programs_hold = refl

-- ---- what is answered
abbrev answered : Operation → List ℕ → Call
answered o program = called o plenty program

abbrev pub calls : List (Row Call Answer)
calls =
    answered checking (replicate 8193 41) gives number 74 8192 0 0
    ∷ answered checking (replicate 32768 32) gives number 10 32768 0 0
    ∷ answered checking (replicate 32769 32) gives number 73 0 0 0
    ∷ answered drawing (replicate 32769 32) gives number 73 0 0 0
    ∷ []

pub calls_hold : Hold answer calls
unfolding everything
calls_hold = refl
