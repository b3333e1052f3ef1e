-- Examples of runs: what each statement and expression takes, in order and with its place; what variables hold then; what is shown.
use Prim.Native.Nat.{ℕ}
use Prim.Native.String.{String}
use mathlib.Core.Path.{◌≡◌, refl}
use mathlib.Core.Bool.{true}
use mathlib.Core.List.{List, [], ◌∷◌, ◌++◌, map}
use lib.ListN.{drop, replicate}
use lib.IntN.{pos}
use Rattle.meaning.specs.Basics.{bytes}
use Rattle.meaning.specs.Figure.{Figure, line, box}
use Rattle.meaning.specs.Value.{Value, integer, string, boolean, none, table}
use Rattle.meaning.specs.State.{State, Entry, key_with}
use Rattle.meaning.specs.Run.{Resource, steps, shapes, entries, text_bytes, calls, picture, Event, taking, taken, gave_back, End, result, error, unfinished, Run, run}
use Rattle.meaning.specs.Tree.{nothing, truth, name, while, return, act}
use Rattle.meaning.specs.Procedure.{calling}
use Rattle.meaning.specs.Execute.{onward, returned, execute}
use Rattle.meaning.specs.Program.{checking, drawing, Outcome, empty, painting, specified, beginning}
use Rattle.meaning.proofs.Computing.{everything}
use Rattle.meaning.proofs.Rows.{Row, ◌gives◌, Hold, standing, statement_kinds}
use Rattle.meaning.proofs.Readings.{main}

-- main with this body, painted on a sheet of 20 by 30; the body's first byte has place 14, and no loop turns more than 50 times
abbrev painted : String → Run (List Figure)
painted body = painting (main body) (pos 20) (pos 30) 50 empty

-- ---- takings
abbrev st : ℕ → ℕ → List Event
st n p = replicate n (taking steps 1 p)

abbrev a1 : Resource → ℕ → List Event
a1 r p = taking r 1 p ∷ []

-- between main's call and its return
abbrev pub takings : List (Row String (List Event))
takings =
    "1;" gives st 2 14
    ∷ "\"ab\";" gives st 2 14
    ∷ "none;" gives st 2 14
    ∷ "true;" gives st 2 14
    ∷ "w;" gives st 2 14
    ∷ "((1));" gives st 2 14
    ∷ "[0];" gives st 3 14
    ∷ "1+2;" gives st 4 14
    ∷ "w=\"ab\";" gives st 2 14
    ∷ "\"ab\"++\"c\";" gives (st 4 14 ++ (taking text_bytes 3 14 ∷ []))
    ∷ "clearScene();" gives st 2 14
    ∷ "drawText(1,2,\"ab\");" gives (st 5 14 ++ a1 shapes 14)
    ∷ "drawBox(1,2,3,4);" gives (st 6 14 ++ a1 shapes 14)
    ∷ "w=drawBox(1,2,3,4);" gives (st 6 14 ++ a1 shapes 14 ++ a1 shapes 14)
    ∷ "drawBox(1,2,3,4)+1;" gives (st 7 14 ++ a1 shapes 14 ++ st 1 14 ++ a1 shapes 14)
    ∷ "1+getShapeXCoordinate(drawBox(1,2,3,4));" gives (st 9 14 ++ a1 shapes 14)
    ∷ "drawLineConnectingShapes(drawBox(1,2,3,4),drawBox(1,2,3,4));" gives (st 7 14 ++ a1 shapes 14 ++ st 5 14 ++ a1 shapes 14 ++ a1 shapes 14)
    ∷ "drawTextOnShape(drawBox(1,2,3,4),\"a\");" gives (st 7 14 ++ a1 shapes 14 ++ st 1 14 ++ a1 shapes 14)
    ∷ "drawBox(1,2,3,4)==drawBox(1,2,3,4);" gives (st 7 14 ++ a1 shapes 14 ++ st 5 14 ++ a1 shapes 14)
    ∷ "w=drawBox(1,2,3,4);destroyShape(w);" gives (st 6 14 ++ a1 shapes 14 ++ a1 shapes 14 ++ st 3 33)
    ∷ "var a;a=1;" gives (st 1 14 ++ st 2 20)
    ∷ "var t;t=[0];t.1=2;t.1;" gives (st 1 14 ++ st 3 20 ++ st 4 26 ++ a1 entries 26 ++ st 4 32)
    ∷ "var t;t=[0];t.1=2;t.1=3;" gives (st 1 14 ++ st 3 20 ++ st 4 26 ++ a1 entries 26 ++ st 4 32)
    ∷ "w=[0];w.1=drawBox(1,2,3,4);h=w.1;" gives (st 3 14 ++ st 8 20 ++ a1 shapes 20 ++ a1 entries 20 ++ st 4 41 ++ a1 shapes 41)
    ∷ "[getShapeXCoordinate(drawBox(1,2,3,4))];" gives (st 8 14 ++ a1 shapes 14)
    ∷ "w=[0];w.drawBox(1,2,3,4);" gives (st 3 14 ++ st 8 20 ++ a1 shapes 20)
    ∷ "return drawBox(1,2,3,4);" gives (st 6 14 ++ a1 shapes 14)
    ∷ "if(drawBox(1,2,3,4)==w)1;" gives (st 7 14 ++ a1 shapes 14 ++ st 1 14)
    ∷ "while(drawBox(1,2,3,4)==w)1;" gives (st 7 14 ++ a1 shapes 14 ++ st 1 14)
    ∷ "if(true)1;" gives (st 2 14 ++ st 2 22)
    ∷ "if(false)1;2;" gives (st 2 14 ++ st 2 25)
    ∷ "{1;2;}" gives (st 1 14 ++ st 2 15 ++ st 2 17)
    ∷ "while(w>18)w=w-1;" gives (st 4 14 ++ st 4 25 ++ st 4 14 ++ st 4 25 ++ st 4 14)
    ∷ "while(false)1;" gives st 2 14
    ∷ "return 1;2;" gives st 2 14
    ∷ "{return 1;}2;" gives (st 1 14 ++ st 2 15)
    ∷ "if(true)return 1;2;" gives (st 2 14 ++ st 2 22)
    ∷ "while(true)return 1;2;" gives (st 2 14 ++ st 2 25)
    ∷ []

-- main is called and returns
abbrev in_main : List Event → List Event
in_main es = taking calls 1 0 ∷ (es ++ (gave_back ∷ []))

-- without main's call, and without its return, if it came to that
unfoldable pub without_return : List Event → List Event
without_return [] = []
without_return (taken t ∷ es) = taken t ∷ without_return es
without_return (gave_back ∷ es) = without_return es

pub takings_hold : Hold (λ body. without_return (drop 1 (painted body).takings)) takings
unfolding everything without_return
takings_hold = refl

-- drawing takes the picture last, and checking takes nothing
pub drawing_takes : Hold (λ o. (specified o (main "1;") (pos 20) (pos 30) 50).takings) (
    drawing gives (in_main (st 2 14) ++ (taking picture 141 0 ∷ []))
    ∷ checking gives []
    ∷ []
    )
unfolding everything
drawing_takes = refl

-- ---- beginnings
-- how many takings there are, and 0 if the run has ended with a picture, 1 if with a number, 2 if not
end_number : End Outcome → ℕ
end_number (result a s) = 0
end_number (error n p) = 1
end_number unfinished = 2

unfoldable pub beginning_of : String → ℕ → List Event × ℕ
unfolding end_number
beginning_of body n = let r = beginning drawing (main body) (pos 20) (pos 30) n in (r.takings, end_number r.end)

pub beginnings_hold : Hold (λ (q : String × ℕ). beginning_of q.0 q.1) (
    ("1;2;", 0) gives ([], 2)
    ∷ ("1;2;", 1) gives (a1 calls 0, 2)
    ∷ ("1;2;", 3) gives (a1 calls 0 ++ st 2 14, 2)
    ∷ ("1;2;", 4) gives (a1 calls 0 ++ st 2 14 ++ st 1 16, 2)
    ∷ ("1;2;", 5) gives (a1 calls 0 ++ st 2 14 ++ st 2 16, 2)
    ∷ ("1;2;", 6) gives (in_main (st 2 14 ++ st 2 16), 2)
    ∷ ("1;2;", 7) gives (in_main (st 2 14 ++ st 2 16) ++ (taking picture 141 0 ∷ []), 0)
    ∷ ("1;2;", 9) gives (in_main (st 2 14 ++ st 2 16) ++ (taking picture 141 0 ∷ []), 0)
    ∷ ("1;x;", 5) gives (a1 calls 0 ++ st 2 14 ++ st 2 16, 1)
    ∷ ("while(true)1;", 6) gives (a1 calls 0 ++ st 2 14 ++ st 2 25 ++ st 1 14, 2)
    ∷ []
    )
unfolding everything beginning_of
beginnings_hold = refl

-- ---- what variables hold, w and h first
state_at : End (List Figure) → State
state_at (result a s) = s
state_at (error n p) = empty
state_at unfinished = empty

unfoldable pub values_after : String → List Value
unfolding state_at
values_after body = map (λ v. v.holds) (state_at (painted body).end).variables

abbrev whole : ℕ → Value
whole n = integer (pos n)

abbrev pub values : List (Row String (List Value))
values =
    "1;" gives (whole 20 ∷ whole 30 ∷ [])
    ∷ "var a;var b;" gives (whole 20 ∷ whole 30 ∷ none ∷ none ∷ [])
    ∷ "var a;var b;b=5;" gives (whole 20 ∷ whole 30 ∷ none ∷ whole 5 ∷ [])
    ∷ "h=1;" gives (whole 20 ∷ whole 1 ∷ [])
    ∷ "w=\"ab\"++\"c\";h=true;" gives (string (bytes "abc") ∷ boolean true ∷ [])
    ∷ "w=[0];h=[0];" gives (table 0 ∷ table 1 ∷ [])
    ∷ "var t;t=[0];t.1=5;t.2=6;w=t.1;h=t.2;" gives (whole 5 ∷ whole 6 ∷ table 0 ∷ [])
    ∷ "var t;t=[0];t.1=5;t.1=6;w=t.1;" gives (whole 6 ∷ whole 30 ∷ table 0 ∷ [])
    ∷ "var t;t=[0];t.1=5;t.2=6;t.1=7;w=t.1;h=t.2;" gives (whole 7 ∷ whole 6 ∷ table 0 ∷ [])
    ∷ "var t;var u;t=[0];u=[0];t.1=5;u.1=6;w=t.1;h=u.1;" gives (whole 5 ∷ whole 6 ∷ table 0 ∷ table 1 ∷ [])
    ∷ "var t;var u;t=[0];u=t;u.1=7;w=t.1;" gives (whole 7 ∷ whole 30 ∷ table 0 ∷ table 0 ∷ [])
    ∷ "var t;t=[0];t.w=5;w=t.20;" gives (whole 5 ∷ whole 30 ∷ table 0 ∷ [])
    ∷ "var t;t=[0];t.drawBox(1,2,3,4)=5;w=t.drawBox(1,2,3,4);" gives (whole 5 ∷ whole 30 ∷ table 0 ∷ [])
    ∷ "while(w>18)w=w-1;" gives (whole 18 ∷ whole 30 ∷ [])
    ∷ "while(w>18){w=w-1;h=h+1;}" gives (whole 18 ∷ whole 32 ∷ [])
    ∷ "while(w<18)w=w-1;" gives (whole 20 ∷ whole 30 ∷ [])
    ∷ "while(true){w=w-1;if(w<5)return w;}" gives (whole 4 ∷ whole 30 ∷ [])
    ∷ "if(w<h)w=1;" gives (whole 1 ∷ whole 30 ∷ [])
    ∷ "if(w>h)w=1;" gives (whole 20 ∷ whole 30 ∷ [])
    ∷ "{w=1;h=w;}" gives (whole 1 ∷ whole 1 ∷ [])
    ∷ "return 1;w=1;" gives (whole 20 ∷ whole 30 ∷ [])
    ∷ "{var a;}a=w;" gives (whole 20 ∷ whole 30 ∷ whole 20 ∷ [])
    ∷ "w=none;" gives (none ∷ whole 30 ∷ [])
    ∷ "w=[0];drawBox(1,2,3,4);h=[0];" gives (table 0 ∷ table 1 ∷ [])
    ∷ "w=[0];w.1=5;h=[0];" gives (table 0 ∷ table 1 ∷ [])
    ∷ "var t;t=[0];t.1=5;drawBox(1,2,3,4);w=t.1;" gives (whole 5 ∷ whole 30 ∷ table 0 ∷ [])
    ∷ "var t;t=[0];t.1=5;[0];w=t.1;" gives (whole 5 ∷ whole 30 ∷ table 0 ∷ [])
    ∷ []

pub values_hold : Hold values_after values
unfolding everything values_after
values_hold = refl

-- entries stand in the order in which their keys were new
unfoldable pub entries_after : String → List Entry
unfolding state_at
entries_after body = (state_at (painted body).end).entries

abbrev stored : ℕ → ℕ → ℕ → Entry
stored t n m = record { owner = t; key = key_with 0 (pos n ∷ []) []; holds = whole m }

pub entries_hold : Hold entries_after (
    "w=[0];w.1=5;w.2=6;" gives (stored 0 1 5 ∷ stored 0 2 6 ∷ [])
    ∷ "w=[0];h=[0];h.1=5;w.1=6;h.1=7;" gives (stored 1 1 7 ∷ stored 0 1 6 ∷ [])
    ∷ []
    )
unfolding everything entries_after
entries_hold = refl

-- ---- what is shown
figures_at : End (List Figure) → List Figure
figures_at (result a s) = a
figures_at (error n p) = []
figures_at unfinished = []

unfoldable pub scene_after : String → List Figure
unfolding figures_at
scene_after body = figures_at (painted body).end

abbrev a_box : Figure
a_box = box (pos 1) (pos 2) (pos 3) (pos 4)

abbrev a_line : Figure
a_line = line (pos 5) (pos 6) (pos 7) (pos 8)

abbrev pub scenes : List (Row String (List Figure))
scenes =
    "w=drawBox(1,2,3,4);" gives (a_box ∷ [])
    ∷ "drawBox(1,2,3,4);" gives []
    ∷ "h=drawBox(1,2,3,4);w=drawLine(5,6,7,8);" gives (a_line ∷ a_box ∷ [])
    ∷ "w=drawBox(1,2,3,4);h=w;" gives (a_box ∷ a_box ∷ [])
    ∷ "w=drawBox(1,2,3,4);h=w;destroyShape(w);" gives (a_box ∷ [])
    ∷ "w=drawBox(1,2,3,4);h=w;destroyShape(h);" gives (a_box ∷ [])
    ∷ "w=drawBox(1,2,3,4);destroyShape(w);" gives []
    ∷ "w=drawBox(1,2,3,4);h=drawLine(5,6,7,8);destroyShape(w);" gives (a_line ∷ [])
    ∷ "w=drawBox(1,2,3,4);h=w;clearScene();" gives []
    ∷ "w=drawBox(1,2,3,4);clearScene();h=drawLine(5,6,7,8);" gives (a_line ∷ [])
    ∷ "w=drawBox(1,2,3,4);w=drawLine(5,6,7,8);" gives (a_line ∷ [])
    ∷ "w=drawBox(1,2,3,4);w=w+1;" gives (box (pos 1) (pos 3) (pos 3) (pos 4) ∷ [])
    ∷ "w=drawBox(1,2,3,4);w+1;" gives (a_box ∷ [])
    ∷ "var t;t=[0];t.1=drawBox(1,2,3,4);" gives []
    ∷ "var t;t=[0];t.1=drawBox(1,2,3,4);clearScene();w=t.1;" gives (a_box ∷ [])
    ∷ "var t;t=[0];w=drawBox(1,2,3,4);t.1=w;destroyShape(t.1);" gives []
    ∷ "w=drawBox(1,2,3,4);h=[0];h.1=2;" gives (a_box ∷ [])
    ∷ []

pub scenes_hold : Hold scene_after scenes
unfolding everything scene_after
scenes_hold = refl

-- ---- kinds
-- with each of the six kinds in the place of #: + where the statement ends with a result, a dot where it is 20
abbrev pub kind_rows : List (Row String (List ℕ))
kind_rows =
    "if(#)1;" gives bytes "..+..."
    ∷ "while(#)return 1;" gives bytes "..+..."
    ∷ "#.1=2;" gives bytes "....+."
    ∷ "t.#=1;" gives bytes "++++++"
    ∷ "t.1=#;" gives bytes "++++++"
    ∷ "i=#;" gives bytes "++++++"
    ∷ "return #;" gives bytes "++++++"
    ∷ "#;" gives bytes "++++++"
    ∷ []

pub kind_rows_hold : Hold statement_kinds kind_rows
unfolding everything statement_kinds
kind_rows_hold = refl

-- ---- how a statement ends
pub flows :
    ((execute (calling 9 []) (return 5 (name (bytes "i"))) 9 standing).end ≡ result (returned (whole 7)) standing)
    × ((execute (calling 9 []) (act 5 (name (bytes "i"))) 9 standing).end ≡ result onward standing)
    × (execute (calling 9 []) (while 5 (truth true) (act 6 nothing)) 0 standing ≡ run [] unfinished)
unfolding everything
flows = (refl, refl, refl)

pub nothing_yet : (empty.variables ≡ []) × (empty.suspended ≡ []) × (empty.shapes ≡ []) × (empty.tables ≡ 0) × (empty.entries ≡ [])
nothing_yet = (refl, refl, refl, refl, refl)
