-- Examples of the program's own procedures: what a call asks, in which order and where, what it takes and gives back, and whose variables are whose.
use Prim.Native.Nat.{ℕ}
use Prim.Native.String.{String}
use mathlib.Core.Path.{◌≡◌, refl}
use mathlib.Core.Bool.{true, false}
use mathlib.Core.List.{List, [], ◌∷◌, ◌++◌, map}
use mathlib.Core.Option.{Option, some}
use lib.ListN.{replicate}
use lib.IntN.{pos}
use Rattle.meaning.specs.Basics.{bytes}
use Rattle.meaning.specs.Figure.{Figure}
use Rattle.meaning.specs.Tree.{number, act, only, Procedure}
use Rattle.meaning.specs.Grammar.{procedure_named}
use Rattle.meaning.specs.Value.{Value, integer, boolean, none, table, shape}
use Rattle.meaning.specs.State.{State, Variable, fresh, entered, resumed}
use Rattle.meaning.specs.Run.{Resource, steps, shapes, entries, text_bytes, calls, picture, Event, taking, gave_back, End, result, error, unfinished, Run, run, Action}
use Rattle.meaning.specs.Library.{library_of}
use Rattle.meaning.specs.Execute.{onward, returned, assigning}
use Rattle.meaning.specs.Procedure.{is_among, any_twice, in_library, doubled, assigning_all, returned_by, calling}
use Rattle.meaning.specs.Program.{checking, drawing, empty, painting}
use Rattle.meaning.specs.Book.{Booked, all_fit, lacking, nothing_yet, lowered, book, Answer, pictured}
use Rattle.meaning.specs.Book as Book
use Rattle.meaning.specs.Call.{Grants, answer}
use Rattle.meaning.proofs.Computing.{everything}
use Rattle.meaning.proofs.Rows.{Row, ◌gives◌, Hold, holding, standing}
use Rattle.meaning.proofs.Readings.{called}

-- so many calls and shapes
abbrev pub granting : ℕ → ℕ → Grants
granting c s = record { steps = 1000; shapes = s; entries = 9; text_bytes = 9; calls = c }

abbrev ample : Grants
ample = granting 64 9

-- ---- programs drawn with these grants on a sheet of 20 by 20
abbrev pub answers : List (Row (Grants × String) Answer)
answers =
    -- 60 has the place of the `def`, after reading
    (ample, "def f(){1;}def f(){1;}def main(w,h){1;}") gives Book.number 60 11 0 0
    ∷ (ample, "def main(w,h){1;}def main(w,h){1;}") gives Book.number 60 17 0 0
    ∷ (ample, "def f(){1;}def f(){1;}") gives Book.number 10 22 0 0
    ∷ (ample, "def f(){1;}def f(){1;}def main(w,h){}") gives Book.number 10 36 0 0
    ∷ (ample, "def main(w,h){1;}1;") gives Book.number 10 17 0 0
    -- main's own 20 and 60 have place 0 wherever it stands, and come behind
    ∷ (ample, "def f(){1;}def main(w){1;}") gives Book.number 20 0 0 0
    ∷ (ample, "def f(){1;}def main(w,w){1;}") gives Book.number 60 0 0 0
    ∷ (ample, "def f(){1;}def f(){1;}def main(w){1;}") gives Book.number 60 11 0 0
    -- a library name, or one that only resembles it or another's
    ∷ (ample, "def drawLine(){1;}def main(w,h){1;}") gives Book.number 60 0 0 0
    ∷ (ample, "def main(w,h){1;} def clearScene(){1;}") gives Book.number 60 18 0 0
    ∷ (ample, "def f(){1;}def f(){1;}def drawBox(){1;}def main(w,h){1;}") gives Book.number 60 11 0 0
    ∷ (ample, "def drawLines(){1;}def drawLin(){1;}def mains(){1;}def mai(){1;}def main(w,h){drawLines();mains();}") gives pictured 141 8
    ∷ (ample, "def sin(x){return x;}def main(w,h){w=sin(1);}") gives pictured 141 5
    ∷ (ample, "def eval(){1;}def cos(){1;}def main(w,h){eval();cos();}") gives pictured 141 8
    ∷ (ample, "def main(w,h){1;}def drawGroup(){1;}") gives Book.number 60 17 0 0
    -- the order of the questions: arguments, main, the Book.number of arguments, the parameter names, a call, each parameter
    ∷ (granting 64 2, "def f(x,y,z){1;}def main(w,h){var a;a=drawLine(1,2,3,4);f(drawLine(1,2,3,4),a,destroyShape(a));}") gives Book.number 76 56 14 0
    ∷ (granting 64 3, "def f(x,y,z){1;}def main(w,h){var a;a=drawLine(1,2,3,4);f(drawLine(1,2,3,4),a,destroyShape(a));}") gives Book.number 76 56 17 0
    ∷ (granting 64 4, "def f(x,y,z){1;}def main(w,h){var a;a=drawLine(1,2,3,4);f(drawLine(1,2,3,4),a,destroyShape(a));}") gives Book.number 30 56 17 0
    ∷ (ample, "def f(x){1;}def main(w,h){var a;a=drawLine(1,2,3,4);f(a,destroyShape(a));}") gives Book.number 20 52 12 0
    ∷ (granting 1 2, "def f(x,y){1;}def main(w,h){var a;a=drawLine(1,2,3,4);f(a,destroyShape(a));}") gives Book.number 81 54 12 0
    ∷ (granting 2 2, "def f(x,y){1;}def main(w,h){var a;a=drawLine(1,2,3,4);f(a,destroyShape(a));}") gives Book.number 30 54 12 0
    ∷ (granting 1 1, "def f(x){1;}def main(w,h){f(drawLine(1,2,3,4));}") gives Book.number 81 26 7 0
    ∷ (granting 2 1, "def f(x){1;}def main(w,h){f(drawLine(1,2,3,4));}") gives Book.number 76 26 7 0
    ∷ (granting 2 2, "def f(x){1;}def main(w,h){f(drawLine(1,2,3,4));}") gives pictured 141 9
    ∷ (granting 1 9, "def f(a,a){1;}def main(w,h){f(1,2);}") gives Book.number 60 28 4 0
    ∷ (granting 1 9, "def f(a,b,a){1;}def main(w,h){f(1,2,3);}") gives Book.number 60 30 5 0
    ∷ (granting 1 9, "def f(a,a){1;}def main(w,h){f(1);}") gives Book.number 20 28 3 0
    ∷ (granting 1 9, "def f(a,a){1;}def main(w,h){1;}") gives pictured 141 2
    ∷ (granting 1 9, "def f(x){1;}def main(w,h){f();}") gives Book.number 20 26 2 0
    ∷ (granting 1 9, "def f(x){1;}def main(w,h){f(1,2);}") gives Book.number 20 26 4 0
    ∷ (granting 1 9, "def f(){1;}def main(w,h){f();}") gives Book.number 81 25 2 0
    ∷ (granting 2 9, "def f(){1;}def main(w,h){f();}") gives pictured 141 4
    ∷ (granting 1 9, "def main(w,h){main(1,2);}") gives Book.number 20 14 4 0
    ∷ (ample, "def main(w,h){main(1,2);}") gives Book.number 20 14 4 0
    ∷ (ample, "def main(w,h){main(x);}") gives Book.number 50 14 3 0
    ∷ (ample, "def f(){1;}def main(w,h){g();}") gives Book.number 20 25 2 0
    ∷ (granting 1 1, "def main(w,h){drawLine(1,2,3,4);}") gives pictured 141 6
    -- a call is under way from then to its return
    ∷ (granting 2 9, "def g(x){return x;}def main(w,h){g(g(1));}") gives pictured 141 8
    ∷ (granting 1 9, "def g(x){return x;}def main(w,h){g(g(1));}") gives Book.number 81 33 4 0
    ∷ (granting 2 9, "def f(){1;}def main(w,h){f()==f();}") gives pictured 141 8
    ∷ (granting 2 9, "def f(){1;}def main(w,h){while(w>18){f();w=w-1;}}") gives pictured 141 30
    ∷ (granting 3 9, "def f(n){if(n>0)f(n-1);}def main(w,h){f(2);}") gives Book.number 81 16 21 0
    ∷ (granting 4 9, "def f(n){if(n>0)f(n-1);}def main(w,h){f(2);}") gives pictured 141 25
    ∷ (ample, "def f(){f();}def main(w,h){f();}") gives Book.number 81 8 128 0
    -- parameters are copied and a returned value is not
    ∷ (granting 64 3, "def f(){var s;s=drawLine(1,2,3,4);return s;}def main(w,h){var a;a=f();}") gives pictured 177 12
    ∷ (granting 64 2, "def f(){var s;s=drawLine(1,2,3,4);return s;}def main(w,h){var a;a=f();}") gives Book.number 76 64 12 0
    ∷ (ample, "def f(x){destroyShape(x);}def main(w,h){w=drawLine(1,2,3,4);f(w);}") gives pictured 177 12
    ∷ (ample, "def f(t){return t.1;}def main(w,h){w=[0];w.1=drawLine(1,2,3,4);destroyShape(f(w));w.1;}") gives Book.number 30 82 23 0
    -- a shape handed back and destroyed then is 30 for an operator and a parameter
    ∷ (ample, "def f(t){return t.1;}def g(t){destroyShape(t.1);}def main(w,h){w=[0];w.1=drawLine(1,2,3,4);f(w)==g(w);}") gives Book.number 30 91 26 0
    ∷ (ample, "def f(t){return t.1;}def g(x,y){1;}def main(w,h){w=[0];w.1=drawLine(1,2,3,4);g(f(w),destroyShape(w.1));}") gives Book.number 30 77 23 0
    -- variables belong to the call
    ∷ (ample, "def f(){w;}def main(w,h){f();}") gives Book.number 50 8 4 0
    ∷ (ample, "def f(){w=1;}def main(w,h){f();}") gives Book.number 50 8 4 0
    ∷ (ample, "def f(x){var x;}def main(w,h){f(1);}") gives Book.number 60 9 4 0
    ∷ (ample, "def f(x){1;}def main(w,h){f(1);x;}") gives Book.number 50 31 7 0
    ∷ (ample, "def f(x){var y;y=x;}def main(w,h){f(1);y;}") gives Book.number 50 39 8 0
    ∷ (ample, "def f(w){var h;}def main(w,h){f(1);}") gives pictured 141 4
    ∷ (ample, "def f(){var a;}def main(w,h){f();f();}") gives pictured 141 6
    ∷ (ample, "def f(){return 1;x;}def main(w,h){f();x;}") gives Book.number 50 38 6 0
    -- only main's are drawn, and clearScene reaches those of all calls under way
    ∷ (ample, "def f(){var b;b=drawLine(1,2,3,4);}def main(w,h){f();}") gives pictured 141 9
    ∷ (ample, "def f(w){w=drawLine(1,2,3,4);}def main(w,h){f(1);}") gives pictured 141 9
    ∷ (ample, "def f(){clearScene();}def main(w,h){w=drawLine(1,2,3,4);f();}") gives pictured 141 10
    ∷ (ample, "def f(){clearScene();}def main(w,h){w=drawLine(1,2,3,4);f();w;}") gives Book.number 30 60 12 0
    ∷ (ample, "def g(){clearScene();}def f(){var b;b=drawLine(1,2,3,4);g();b;}def main(w,h){f();}") gives Book.number 30 60 15 0
    ∷ (ample, "def f(){var b;b=drawLine(1,2,3,4);clearScene();b;}def main(w,h){f();}") gives Book.number 30 47 13 0
    ∷ (ample, "def f(){var b;b=drawLine(1,2,3,4);}def main(w,h){f();clearScene();w=drawLine(1,2,3,4);}") gives pictured 177 17
    ∷ []

pub answers_hold : Hold (λ (q : Grants × String). answer (called drawing q.0 (bytes q.1))) answers
unfolding everything
answers_hold = refl

-- checking asks 60 for a `def` too, and nothing of a call
pub checked_hold : Hold (λ program. answer (called checking ample (bytes program))) (
    "def f(){1;}def f(){1;}def main(w,h){1;}" gives Book.number 60 11 0 0
    ∷ "def drawBox(){1;}def main(w){1;}" gives Book.number 60 0 0 0
    ∷ "def f(){1;}def f(){1;}" gives Book.number 10 22 0 0
    ∷ "def f(a,a){main();}def main(w,w){f();g();}" gives pictured 0 0
    ∷ []
    )
unfolding everything
checked_hold = refl

-- ---- what is taken and given back
abbrev painted : String → Run (List Figure)
painted program = painting (bytes program) (pos 20) (pos 30) 50 empty

abbrev st : ℕ → ℕ → List Event
st n p = replicate n (taking steps 1 p)

abbrev a1 : Resource → ℕ → List Event
a1 r p = taking r 1 p ∷ []

abbrev back : List Event
back = gave_back ∷ []

abbrev pub events : List (Row String (List Event))
events =
    "def f(x){return x;}def main(w,h){f(1);}" gives (a1 calls 0 ++ st 3 33 ++ a1 calls 33 ++ st 2 9 ++ back ++ back)
    ∷ "def f(x){1;}def main(w,h){f(drawLine(1,2,3,4));}" gives
    (a1 calls 0 ++ st 7 26 ++ a1 shapes 26 ++ a1 calls 26 ++ a1 shapes 26 ++ st 2 9 ++ back ++ back)
    ∷ "def f(x){return x;}def main(w,h){f(f(1));}" gives
    (a1 calls 0 ++ st 4 33 ++ a1 calls 33 ++ st 2 9 ++ back ++ a1 calls 33 ++ st 2 9 ++ back ++ back)
    ∷ "def g(){1;}def f(){g();2;}def main(w,h){f();}" gives
    (a1 calls 0 ++ st 2 40 ++ a1 calls 40 ++ st 2 19 ++ a1 calls 19 ++ st 2 8 ++ back ++ st 2 23 ++ back ++ back)
    ∷ "def f(){x;}def main(w,h){f();}" gives (a1 calls 0 ++ st 2 25 ++ a1 calls 25 ++ st 2 8)
    ∷ "def f(x){1;}def main(w,h){f();}" gives (a1 calls 0 ++ st 2 26)
    ∷ "def f(a,a){1;}def main(w,h){f(1,2);}" gives (a1 calls 0 ++ st 4 28)
    ∷ "def main(w,h){main(1,2);}" gives (a1 calls 0 ++ st 4 14)
    ∷ []

pub events_hold : Hold (λ program. (painted program).takings) events
unfolding everything
events_hold = refl

-- ---- what main's variables hold then, w and h first
values_at : End (List Figure) → List Value
values_at (result a s) = map (λ v. v.holds) s.variables
values_at (error n p) = []
values_at unfinished = []

unfoldable pub values_after : String → List Value
unfolding values_at
values_after program = values_at (painted program).end

abbrev whole : ℕ → Value
whole n = integer (pos n)

abbrev pub values : List (Row String (List Value))
values =
    "def f(){return 5;}def main(w,h){w=f();}" gives (whole 5 ∷ whole 30 ∷ [])
    ∷ "def f(){5;}def main(w,h){w=f();}" gives (none ∷ whole 30 ∷ [])
    ∷ "def f(){while(true){return 5;}}def main(w,h){w=f();h=6;}" gives (whole 5 ∷ whole 6 ∷ [])
    ∷ "def f(a,b){return a-b;}def main(w,h){w=f(9,2);}" gives (whole 7 ∷ whole 30 ∷ [])
    ∷ "def f(w){w=1;return h;}def main(w,h){w=2;}" gives (whole 2 ∷ whole 30 ∷ [])
    ∷ "def f(h,w){h=1;var a;a=2;}def main(w,h){f(3,4);}" gives (whole 20 ∷ whole 30 ∷ [])
    ∷ "def f(t){t.1=5;}def main(w,h){w=[0];f(w);h=w.1;}" gives (table 0 ∷ whole 5 ∷ [])
    ∷ "def f(){return [0];}def main(w,h){w=f();h=f();}" gives (table 0 ∷ table 1 ∷ [])
    ∷ "def f(n){if(n==0)return 1;return n*f(n-1);}def main(w,h){w=f(5);}" gives (whole 120 ∷ whole 30 ∷ [])
    ∷ "def a(n){if(n==0)return true;return b(n-1);}def main(w,h){w=a(4);h=a(3);}def b(n){if(n==0)return false;return a(n-1);}" gives
    (boolean true ∷ boolean false ∷ [])
    ∷ []

pub values_hold : Hold values_after values
unfolding everything values_after
values_hold = refl

-- ---- calls so deep
abbrev one : ℕ → String → Procedure
one p f = record { place = p; name = bytes f; parameters = bytes "a" ∷ []; body = only (act 9 (number (pos 1))) }

-- where none is left nothing is taken; with one left a procedure is performed that calls none
pub depth :
    (calling 0 [] (bytes "f") 5 [] standing ≡ run [] unfinished)
    × (calling 1 (one 0 "f" ∷ []) (bytes "f") 5 (none ∷ []) standing ≡ run (a1 calls 5 ++ st 2 9 ++ back) (result none standing))
    × (calling 1 (one 0 "main" ∷ []) (bytes "main") 5 (none ∷ []) standing ≡ run [] (error 20 5))
    × (calling 1 (one 0 "f" ∷ []) (bytes "clearScen") 5 [] standing ≡ run [] (error 20 5))
unfolding everything
depth = (refl, refl, refl, refl)

-- ---- names
pub names_hold : Hold (λ b. b) (
    is_among (bytes "f") (bytes "e" ∷ bytes "f" ∷ []) gives true
    ∷ is_among (bytes "f") (bytes "ff" ∷ bytes "" ∷ []) gives false
    ∷ any_twice [] gives false
    ∷ any_twice (bytes "a" ∷ bytes "b" ∷ bytes "ab" ∷ []) gives false
    ∷ any_twice (bytes "a" ∷ bytes "b" ∷ bytes "a" ∷ []) gives true
    ∷ any_twice (bytes "a" ∷ bytes "b" ∷ bytes "b" ∷ []) gives true
    ∷ in_library (library_of (bytes "drawText")) gives true
    ∷ in_library (library_of (bytes "sin")) gives false
    ∷ in_library (library_of (bytes "eval")) gives false
    ∷ in_library (library_of (bytes "drawGroup")) gives true
    ∷ in_library (library_of (bytes "drawGroups")) gives false
    ∷ []
    )
unfolding everything
names_hold = refl

pub doubled_hold : Hold (doubled []) (
    [] gives Option.none
    ∷ (one 3 "f" ∷ one 5 "g" ∷ []) gives Option.none
    ∷ (one 3 "f" ∷ one 5 "g" ∷ one 7 "f" ∷ one 9 "g" ∷ []) gives some 7
    ∷ (one 3 "f" ∷ one 5 "xCoordinate" ∷ one 7 "drawEllipse" ∷ one 9 "f" ∷ []) gives some 7
    ∷ []
    )
unfolding everything
doubled_hold = refl

-- the first of a name
pub named_hold : Hold (λ f. procedure_named f (one 3 "f" ∷ one 5 "g" ∷ one 7 "g" ∷ [])) (
    bytes "f" gives some (one 3 "f")
    ∷ bytes "g" gives some (one 5 "g")
    ∷ bytes "ff" gives Option.none
    ∷ []
    )
unfolding everything
named_hold = refl

pub returns_hold : Hold returned_by (onward gives none ∷ returned (shape 2) gives shape 2 ∷ [])
unfolding everything
returns_hold = refl

-- ---- assigning: 50, then 30, then the copy
end_number : {A : Type 0} → End A → ℕ
end_number (result a s) = 0
end_number (error n p) = n
end_number unfinished = 1

unfoldable pub end_of : {A : Type 0} → Action A → ℕ × List Event
unfolding end_number
end_of m = let r = m standing in (end_number r.end, r.takings)

pub assigning_holds : Hold (λ (q : String × Value). end_of (assigning 5 (bytes q.0) q.1)) (
    ("i", shape 4) gives (30, [])
    ∷ ("y", shape 4) gives (50, [])
    ∷ ("i", shape 0) gives (0, a1 shapes 5)
    ∷ ("i", none) gives (0, [])
    ∷ []
    )
unfolding everything end_of
assigning_holds = refl

-- one by one, in order
pub assigning_all_holds : Hold (λ (q : List (List ℕ) × List Value). end_of (assigning_all 5 q.0 q.1)) (
    ([], none ∷ []) gives (0, [])
    ∷ (bytes "y" ∷ [], []) gives (0, [])
    ∷ (bytes "i" ∷ bytes "s" ∷ [], shape 0 ∷ shape 1 ∷ []) gives (0, a1 shapes 5 ++ a1 shapes 5)
    ∷ (bytes "i" ∷ bytes "s" ∷ [], shape 0 ∷ shape 4 ∷ []) gives (30, a1 shapes 5)
    ∷ (bytes "i" ∷ bytes "s" ∷ [], shape 4 ∷ shape 0 ∷ []) gives (30, [])
    ∷ []
    )
unfolding everything end_of
assigning_all_holds = refl

-- ---- states
abbrev a : List Variable
a = holding "a" (shape 0) ∷ []

abbrev b : List Variable
b = holding "b" none ∷ holding "c" (shape 2) ∷ []

abbrev later : State
later = record { variables = b; suspended = b ∷ a ∷ []; shapes = []; tables = 7; entries = [] }

pub waiting :
    (fresh (bytes "a" ∷ bytes "b" ∷ []) ≡ holding "a" none ∷ holding "b" none ∷ [])
    × (entered later a ≡ record { variables = a; suspended = b ∷ a ∷ b ∷ []; shapes = []; tables = 7; entries = [] })
    × (resumed standing later ≡ record { variables = standing.variables; suspended = []; shapes = []; tables = 7; entries = [] })
    × (resumed later standing
    ≡ record { variables = b; suspended = b ∷ a ∷ []; shapes = standing.shapes; tables = 2; entries = standing.entries })
unfolding everything
waiting = (refl, refl, refl, refl)

-- ---- the book
abbrev all : List Resource
all = steps ∷ shapes ∷ entries ∷ text_bytes ∷ calls ∷ picture ∷ []

amounts_of : Booked → List ℕ
amounts_of (all_fit total) = map total all
amounts_of (lacking t total) = t.place ∷ []

-- with two of each granted: the totals, or the place of what does not fit
unfoldable pub booked_with : List Event → List ℕ
unfolding amounts_of
booked_with es = amounts_of (book (λ _. 2) nothing_yet es)

pub lowered_holds : map (lowered (λ _. 2)) all ≡ 2 ∷ 2 ∷ 2 ∷ 2 ∷ 1 ∷ 2 ∷ []
unfolding everything
lowered_holds = refl

pub booked_hold : Hold booked_with (
    (a1 calls 0 ++ a1 calls 1) gives (0 ∷ 0 ∷ 0 ∷ 0 ∷ 2 ∷ 0 ∷ [])
    ∷ (a1 calls 0 ++ a1 calls 1 ++ a1 calls 2) gives (2 ∷ [])
    ∷ (a1 calls 0 ++ a1 calls 1 ++ back ++ a1 calls 2 ++ back ++ back) gives (0 ∷ 0 ∷ 0 ∷ 0 ∷ 0 ∷ 0 ∷ [])
    ∷ (a1 calls 0 ++ a1 calls 1 ++ back ++ a1 calls 2 ++ a1 calls 3) gives (3 ∷ [])
    ∷ (a1 shapes 0 ++ a1 shapes 1 ++ a1 calls 2 ++ back ++ a1 shapes 3) gives (3 ∷ [])
    ∷ []
    )
unfolding everything booked_with
booked_hold = refl
