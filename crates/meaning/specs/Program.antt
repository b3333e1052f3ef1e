-- The specified run of an operation, from the program, the width and the height alone.
use Rattle.std.specs.Prelude.{ℕ, suc, not, ◌&&◌, List, [], ◌∷◌, length, ℤ, pos, leb, ltb}
use Rattle.std.proofs.Math.Option.{Option, none, some}
use Rattle.std.proofs.Math.ListN as ListN
use Rattle.std.specs.Int.Signed.{lt_z}
use Rattle.meaning.specs.Basics.{if◌then◌otherwise◌, same_text}
use Rattle.meaning.specs.Tree as Tree
use Rattle.meaning.specs.Grammar.{Reading, well_formed, malformed, reading}
use Rattle.meaning.specs.Figure.{Figure}
use Rattle.meaning.specs.Value.{integer}
use Rattle.meaning.specs.State.{State, shapes_held}
use Rattle.meaning.specs.Run.{Run, run, unfinished, Action, calls, picture, ◌>>=◌, ◌>>◌, give, fail, spend, give_back, refuse, current, become}
use Rattle.meaning.specs.Group.{each, figures_of}
use Rattle.meaning.specs.Execute.{execute_all}
use Rattle.meaning.specs.Procedure.{doubled, calling}
use Rattle.meaning.specs.Picture.{picture_of}

pub data Operation : Type 0 where
  checking drawing : Operation

-- what an operation is to hand back: that the program is well formed, or the picture's bytes
pub data Outcome : Type 0 where
  accepted : Outcome
  drawn : List ℕ → Outcome

-- nothing is declared, made or stored
abbrev pub empty : State
empty = record { variables = []; suspended = []; shapes = []; tables = 0; entries = [] }

-- main's two parameters hold the width and the height; main is a call too
unfoldable pub entering : List (List ℕ) → ℤ → ℤ → Action (Unit {0})
entering [] width height = fail 20 0
entering (x ∷ []) width height = fail 20 0
entering (x ∷ y ∷ []) width height = do
  refuse (same_text x y) 60 0
  spend calls 1 0
  become (record {
    variables = record { name = x; holds = integer width } ∷ record { name = y; holds = integer height } ∷ [];
    suspended = [];
    shapes = [];
    tables = 0;
    entries = [];
  })
entering (x ∷ y ∷ z ∷ more) width height = fail 20 0

-- a sheet is at least 1 wide and 1 high
unfoldable pub sheet : ℤ → ℤ → Action (Unit {0})
sheet width height = refuse (not (lt_z (pos 0) width && lt_z (pos 0) height)) 72 0

-- a program has at most 32,768 bytes
unfoldable pub sized : List ℕ → Action (Unit {0})
sized program = refuse (ltb 32768 (length program)) 73 0

-- a `def` whose name an earlier one or the library has is 60
unfoldable pub named_apart : Option ℕ → Tree.Program → Action Tree.Program
named_apart none m = give m
named_apart (some p) m = fail 60 p

-- a program that was read, or the number of what fails
unfoldable pub understood : Reading → Action Tree.Program
understood (well_formed m) = named_apart (doubled [] m.procedures) m
understood (malformed n p) = fail n p

-- The figures that a program shows whose loops turn at most n times each, and whose calls are at most n deep: those of the shapes that main's
-- variables hold, in their order.
unfoldable pub painting : List ℕ → ℤ → ℤ → ℕ → Action (List Figure)
painting program width height n = do
  sheet width height
  sized program
  m ← understood (reading program)
  entering m.main.parameters width height
  execute_all (calling n m.procedures) m.main.body n
  give_back
  s ← current
  each (λ i. figures_of (suc i) 0 i) (shapes_held s.variables)

-- both operations, each with its questions in document 01's order
unfoldable pub performing : Operation → List ℕ → ℤ → ℤ → ℕ → Action Outcome
performing checking program width height n = do
  sized program
  understood (reading program)
  give accepted
performing drawing program width height n = do
  figures ← painting program width height n
  spend picture (length (picture_of width height figures)) 0
  give (drawn (picture_of width height figures))

-- THE SPECIFIED RUN, as far as it goes when no loop turns more than n times and no more than n calls are inside one another
unfoldable pub specified : Operation → List ℕ → ℤ → ℤ → ℕ → Run Outcome
specified o program width height n = performing o program width height n empty

-- ---- its beginnings, one for each number of takings
-- the first n takings and returns of a run, and its end where there are no more; what is cut off has n of them (claim `BeginningsFill`) and answers no call (`AlwaysAnswered`)
unfoldable pub cut : {A : Type 0} → ℕ → Run A → Run A
cut n r = if leb (length r.takings) n then (λ _. r) otherwise λ _. run (ListN.take n r.takings) unfinished

-- each turn of a loop and each call counts a step, so n + 1 are enough for n takings
unfoldable pub beginning : Operation → List ℕ → ℤ → ℤ → ℕ → Run Outcome
beginning o program width height n = cut n (specified o program width height (suc n))
