-- Procedures of the program (section 3.2 of the IMG specification). p is the place of the statement that calls.
use Rattle.std.specs.Prelude.{ℕ, zero, suc, Bool, true, false, not, ◌||◌, List, [], ◌∷◌, length, eqb}
use Rattle.std.proofs.Math.Option.{Option, some, none}
use Rattle.meaning.specs.Basics.{bytes, if◌then◌otherwise◌, same_text}
use Rattle.meaning.specs.Tree.{Statements, Procedure}
use Rattle.meaning.specs.Grammar.{procedure_named}
use Rattle.meaning.specs.Value.{Value}
use Rattle.meaning.specs.State.{fresh, entered, resumed}
use Rattle.meaning.specs.Run.{calls, Action, run, unfinished, ◌>>=◌, ◌>>◌, give, fail, spend, give_back, refuse, current, become}
use Rattle.meaning.specs.Library.{Library, library_of, call_library}
use Rattle.meaning.specs.Evaluate.{Invoke}
use Rattle.meaning.specs.Execute.{Flow, onward, returned, assigning, execute_all}

-- ---- names
-- a text among others, and whether one stands there twice
unfoldable pub is_among : List ℕ → List (List ℕ) → Bool
is_among x [] = false
is_among x (y ∷ ys) = same_text y x || is_among x ys

unfoldable pub any_twice : List (List ℕ) → Bool
any_twice [] = false
any_twice (x ∷ xs) = is_among x xs || any_twice xs

unfoldable pub in_library : Option Library → Bool
in_library none = false
in_library (some f) = true

-- the place of the first `def` whose name is among those defined before, or in the library
unfoldable pub doubled : List (List ℕ) → List Procedure → Option ℕ
doubled names [] = none
doubled names (f ∷ fs) =
    if is_among f.name names || in_library (library_of f.name) then (λ _. some f.place) otherwise λ _. doubled (f.name ∷ names) fs

-- ---- a call
-- parameters are assigned like variables, one by one
unfoldable pub assigning_all : ℕ → List (List ℕ) → List Value → Action (Unit {0})
assigning_all p [] vs = give tt
assigning_all p (x ∷ xs) [] = give tt
assigning_all p (x ∷ xs) (v ∷ vs) = assigning p x v >> assigning_all p xs vs

-- a returned value is not copied; without return it is none
unfoldable pub returned_by : Flow → Value
returned_by onward = Value.none
returned_by (returned v) = v

-- A procedure called with these arguments: their number, the names of the parameters, a call, and then the parameters. Its body has variables of its
-- own, and its return gives the call back.
unfoldable pub invoking : (Statements → Action Flow) → Procedure → ℕ → List Value → Action Value
invoking body f p vs = do
  refuse (not (eqb (length vs) (length f.parameters))) 20 p
  refuse (any_twice f.parameters) 60 p
  spend calls 1 p
  s ← current
  become (entered s (fresh f.parameters))
  assigning_all p f.parameters vs
  flow ← body f.body
  s' ← current
  become (resumed s s')
  give_back
  give (returned_by flow)

-- a procedure of the program, or else one of the library
unfoldable pub found : (Statements → Action Flow) → Option Procedure → List ℕ → ℕ → List Value → Action Value
found body (some f) x p vs = invoking body f p vs
found body none x p vs = call_library (library_of x) p vs

-- How a call is performed, n deep; a call to main is 20. Each call counted a step before, so where none is left the run has taken as many: no call is
-- answered from there (claims `AlwaysAnswered`, `BeginningsFill`).
unfoldable pub calling : ℕ → List Procedure → Invoke
calling zero fs x p vs = λ s. run [] unfinished
calling (suc n) fs x p vs =
    if same_text x (bytes "main") then (λ _. fail 20 p)
    otherwise λ _. found (λ ss. execute_all (calling n fs) ss n) (procedure_named x fs) x p vs
