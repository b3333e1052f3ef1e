-- A call of checking answers by whether its program is too long, by its reading, and by the names of its procedures.
use Prim.Native.Nat.{ℕ, ◌≤◌}
use native.Mathlib.Omega.{arith}
use mathlib.Core.Path.{◌≡◌, refl, ap, ap₂, sym, ◌∙◌}
use mathlib.Core.Bool.{Bool, true, false, ◌||◌}
use mathlib.Core.List.{List, [], ◌∷◌, map}
use mathlib.Core.Option.{Option, none, some}
use lib.ListN.{length}
use lib.Dec.{ltb}
use borrow.Author.Tests.{le-ltb}
use Rattle.meaning.specs.Basics.{if◌then◌otherwise◌}
use Rattle.meaning.specs.Tree.{Procedure, Program}
use Rattle.meaning.specs.Grammar.{Reading, well_formed, malformed, reading}
use Rattle.meaning.specs.Library.{library_of}
use Rattle.meaning.specs.Procedure.{is_among, in_library, doubled}
use Rattle.meaning.specs.Run.{Run, go_on, ◌>>=◌, ◌>>◌, give, fail, refuse}
use Rattle.meaning.specs.Program.{Outcome, accepted, checking, empty, sized, named_apart, understood, performing, specified}
use Rattle.meaning.specs.Book.{Amounts, Answer, pictured, number, book, settled, answer_to, booked}
use Rattle.meaning.specs.Call.{Call, admitted, granted_to, run_of, answer}
use Rattle.canonical.specs.Bare.{bare_procedure, bare_program}
use Rattle.canonical.specs.Text.{program_text}
use Rattle.canonical.specs.Call.{text_read, text}
use Rattle.roundtrip.specs.Claims.{asking}
use Rattle.roundtrip.proofs.Again.{known, again_read}

-- the run of checking, from whether the program is too long and what was read
unfoldable pub checked : Bool → Reading → Run Outcome
checked long r = (refuse long 73 0 >> (understood r >> give accepted)) empty

-- the answer, from whether the call is admitted, its grants, and the same
unfoldable pub answered : Bool → Amounts → Bool → Reading → Answer
answered allowed g long r = if allowed then (λ _. booked g (checked long r)) otherwise λ _. number 71 0 0 0

-- that is the answer of a call of checking
pub answer_is : (c : Call) → c.operation ≡ checking → answer c ≡ answered (admitted c) (granted_to c) (ltb 32768 (length c.program)) (reading c.program)
unfolding answer run_of specified performing sized answered checked ◌>>=◌ go_on
answer_is c e = rw e

-- ---- an answer that is no number
-- a program with a name twice has a number for its answer
passed_named : (g : Amounts) (m : Program) (o : Option ℕ) (l s : ℕ) → booked g ((named_apart o m >> give accepted) empty) ≡ pictured l s → o ≡ none
unfolding named_apart fail give ◌>>=◌ go_on booked book settled answer_to
passed_named g m none l s e = refl
passed_named g m (some p) l s e = let z : ◌≡◌ {A = ℕ} 0 1 = cc in absurd (omega arith)

pub record Passed (long : Bool) (r : Reading) : Type 0 where
  pub short : long ≡ false
  pub tree : Program
  pub reads : r ≡ well_formed tree
  pub apart : doubled [] tree.procedures ≡ none

-- and so has one that is too long or is not read
passed : (allowed : Bool) (g : Amounts) (long : Bool) (r : Reading) (l s : ℕ) → answered allowed g long r ≡ pictured l s → Passed long r
unfolding answered checked refuse understood fail give ◌>>=◌ go_on if◌then◌otherwise◌ booked book settled answer_to
passed false g long r l s e = let z : ◌≡◌ {A = ℕ} 0 1 = cc in absurd (omega arith)
passed true g true r l s e = let z : ◌≡◌ {A = ℕ} 0 1 = cc in absurd (omega arith)
passed true g false (malformed n p) l s e = let z : ◌≡◌ {A = ℕ} 0 1 = cc in absurd (omega arith)
passed true g false (well_formed m) l s e = record { short = refl; tree = m; reads = refl; apart = passed_named g m (doubled [] m.procedures) l s e }

-- programs whose names are apart have one answer
same_answer : (allowed : Bool) (g : Amounts) (m n : Program) → doubled [] m.procedures ≡ none → doubled [] n.procedures ≡ none →
    answered allowed g false (well_formed m) ≡ answered allowed g false (well_formed n)
unfolding answered checked refuse understood named_apart give ◌>>=◌ go_on if◌then◌otherwise◌ booked book settled answer_to
same_answer true g m n a b = rw (a, b)
same_answer false g m n a b = refl

-- ---- names
to_bare : (names : List (List ℕ)) (fs : List Procedure) → doubled names fs ≡ none → doubled names (map bare_procedure fs) ≡ none
unfolding doubled bare_procedure if◌then◌otherwise◌
to_bare names [] e = refl
to_bare names (f ∷ fs) e = by (is_among f.name names || in_library (library_of f.name)) (to_bare (f.name ∷ names) fs) e
  where
    by : (b : Bool) → (doubled (f.name ∷ names) fs ≡ none → doubled (f.name ∷ names) (map bare_procedure fs) ≡ none) →
        (if b then (λ _. some f.place) otherwise λ _. doubled (f.name ∷ names) fs) ≡ none →
        (if b then (λ _. some 0) otherwise λ _. doubled (f.name ∷ names) (map bare_procedure fs)) ≡ none
    by true h e = let z : ◌≡◌ {A = ℕ} 0 1 = cc in absurd (omega arith)
    by false h e = h e

-- and the other way round
from_bare : (names : List (List ℕ)) (fs : List Procedure) → doubled names (map bare_procedure fs) ≡ none → doubled names fs ≡ none
unfolding doubled bare_procedure if◌then◌otherwise◌
from_bare names [] e = refl
from_bare names (f ∷ fs) e = by (is_among f.name names || in_library (library_of f.name)) (from_bare (f.name ∷ names) fs) e
  where
    by : (b : Bool) → (doubled (f.name ∷ names) (map bare_procedure fs) ≡ none → doubled (f.name ∷ names) fs ≡ none) →
        (if b then (λ _. some 0) otherwise λ _. doubled (f.name ∷ names) (map bare_procedure fs)) ≡ none →
        (if b then (λ _. some f.place) otherwise λ _. doubled (f.name ∷ names) fs) ≡ none
    by true h e = let z : ◌≡◌ {A = ℕ} 0 1 = cc in absurd (omega arith)
    by false h e = h e

-- procedures that are the same but for parentheses and places are apart together
same_apart : (m n : Program) → bare_program n ≡ bare_program m → doubled [] m.procedures ≡ none → doubled [] n.procedures ≡ none
unfolding bare_program
same_apart m n e h =
    let same : map bare_procedure n.procedures ≡ map bare_procedure m.procedures = ap (λ (x : Program). x.procedures) e in
    from_bare [] n.procedures (ap (doubled []) same ∙ to_bare [] m.procedures h)

-- ---- a text passes checking
asked : (c : Call) (t : List ℕ) (n : Program) → c.operation ≡ checking → length t ≤ 32768 → reading t ≡ well_formed n →
    answer (asking t c) ≡ answered (admitted c) (granted_to c) false (well_formed n)
unfolding admitted
asked c t n e l r = answer_is (asking t c) e ∙ rw (le-ltb 32768 (length t) l, r)

-- A TEXT PASSES CHECKING
pub passes : (c : Call) → c.operation ≡ checking → (l s : ℕ) → answer c ≡ pictured l s → length (text c.program) ≤ 32768 →
    answer (asking (text c.program) c) ≡ answer c
unfolding text_read
passes c e l s a short =
    let p = passed (admitted c) (granted_to c) (ltb 32768 (length c.program)) (reading c.program) l s (sym (answer_is c e) ∙ a) in
    let r = again_read c.program p.tree (known c.program p.tree p.reads) in
    let t : text c.program ≡ program_text p.tree = ap text_read p.reads in
    let one : answer (asking (text c.program) c) ≡ answered (admitted c) (granted_to c) false (well_formed r.0) =
    asked c (text c.program) r.0 e short (ap reading t ∙ r.1) in
    let two : answer c ≡ answered (admitted c) (granted_to c) false (well_formed p.tree) = answer_is c e ∙ ap₂ (answered (admitted c) (granted_to c)) p.short p.reads in
    one ∙ same_answer (admitted c) (granted_to c) r.0 p.tree (same_apart p.tree r.0 r.2 p.apart) p.apart ∙ sym two
