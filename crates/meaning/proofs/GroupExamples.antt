-- Examples of groups: what is made, destroyed, reached and counted, in which order and where; equality; foreach; what is shown.
use Prim.Native.Nat.{ℕ}
use Prim.Native.String.{String}
use mathlib.Core.Path.{◌≡◌, refl}
use mathlib.Core.Bool.{false}
use mathlib.Core.List.{List, [], ◌∷◌, ◌++◌}
use lib.ListN.{drop, replicate}
use lib.IntN.{pos}
use Rattle.meaning.specs.Basics.{bytes}
use Rattle.meaning.specs.Figure.{Figure, line, box}
use Rattle.meaning.specs.Tree.{nothing, call, no_argument, foreach, act}
use Rattle.meaning.specs.Value.{none, shape}
use Rattle.meaning.specs.State.{State, with_variables}
use Rattle.meaning.specs.Run.{steps, shapes, entries, Event, taking, gave_back, End, result, error, unfinished, Run, run, give}
use Rattle.meaning.specs.Group.{destroying, remade, figures_of, alike}
use Rattle.meaning.specs.Execute.{onward, declaring_once, iterating, execute}
use Rattle.meaning.specs.Program.{drawing, empty, painting}
use Rattle.meaning.specs.Book.{Answer, pictured}
use Rattle.meaning.specs.Book as Book
use Rattle.meaning.specs.Call.{Grants, answer}
use Rattle.meaning.proofs.Computing.{everything}
use Rattle.meaning.proofs.Rows.{Row, ◌gives◌, Hold, holding, standing}
use Rattle.meaning.proofs.Readings.{main, called}

-- ---- answers
-- so many steps, shapes and entries
abbrev granting : ℕ → ℕ → ℕ → Grants
granting n m k = record { steps = n; shapes = m; entries = k; text_bytes = 9; calls = 9 }

abbrev ample : Grants
ample = granting 9999 99 99

-- the body of main drawn with these grants
abbrev pub answers : List (Row (Grants × String) Answer)
answers =
    -- a group takes its shape and then its entries; a copy as much
    (granting 99 2 4, "w=drawGroup(drawLine(1,2,3,4));") gives Book.number 76 14 7 0
    ∷ (granting 99 1 4, "drawGroup(drawLine(1,2,3,4));") gives Book.number 76 14 7 0
    ∷ (granting 99 1 0, "drawGroup(drawLine(1,2,3,4));") gives Book.number 76 14 7 0
    ∷ (granting 99 3 2, "w=drawGroup(drawLine(1,2,3,4));") gives pictured 177 8
    ∷ (granting 99 3 1, "w=drawGroup(drawLine(1,2,3,4));") gives Book.number 77 14 7 0
    ∷ (granting 99 3 0, "w=drawGroup(drawLine(1,2,3,4));") gives Book.number 77 14 7 0
    ∷ (granting 99 2 0, "w=drawGroup();") gives pictured 141 2
    ∷ (granting 99 1 0, "w=drawGroup();") gives Book.number 76 14 2 0
    ∷ (ample, "drawGroup(1);") gives Book.number 20 14 3 0
    ∷ (ample, "w=drawGroup();drawGroup(w,1,destroyShape(w));") gives Book.number 30 28 8 0
    -- no centre, no key, no figure
    ∷ (ample, "w=drawGroup();getShapeXCoordinate(w);") gives Book.number 20 28 5 0
    ∷ (ample, "w=drawGroup();getShapeYCoordinate(w);") gives Book.number 20 28 5 0
    ∷ (ample, "w=drawGroup();drawLineConnectingShapes(w,w);") gives Book.number 20 28 6 0
    ∷ (ample, "w=drawLine(1,2,3,4);drawLineConnectingShapes(w,drawGroup());") gives Book.number 20 34 10 0
    ∷ (ample, "w=drawGroup();drawTextOnShape(w,\"a\");") gives Book.number 20 28 6 0
    ∷ (ample, "h=[0];h.drawGroup();") gives Book.number 20 20 7 0
    ∷ (granting 99 9 0, "h=[0];h.drawGroup()=1;") gives Book.number 20 20 7 0
    ∷ (ample, "h=[0];h.drawGroup()=1/0;") gives Book.number 70 20 9 0
    ∷ (ample, "drawGroup()/0;") gives Book.number 70 14 4 0
    ∷ (ample, "drawGroup()+none;") gives Book.number 20 14 4 0
    ∷ (ample, "drawGroup()%2;") gives Book.number 20 14 4 0
    -- 70 and 20 are asked before a component is reached; where one is, its step comes first
    ∷ (ample, "drawGroup(drawLine(1,2,3,4))/0;") gives Book.number 70 14 9 0
    ∷ (ample, "drawGroup(drawLine(1,2,3,4))+none;") gives Book.number 20 14 9 0
    ∷ (granting 9 2 9, "drawGroup(drawLine(1,2,3,4))+1;") gives Book.number 79 14 9 0
    ∷ (granting 10 2 9, "drawGroup(drawLine(1,2,3,4))+1;") gives Book.number 76 14 10 0
    ∷ (granting 8 9 9, "destroyShape(drawGroup(drawLine(1,2,3,4)));") gives Book.number 79 14 8 0
    -- the picture's steps
    ∷ (granting 10 99 99, "w=drawGroup(drawLine(1,2,3,4),drawGroup());") gives pictured 177 10
    ∷ (granting 9 99 99, "w=drawGroup(drawLine(1,2,3,4),drawGroup());") gives Book.number 79 0 9 0
    ∷ (granting 8 99 99, "w=drawGroup(drawLine(1,2,3,4),drawGroup());") gives Book.number 79 0 8 0
    -- foreach: its variable, and what is asked of its group
    ∷ (ample, "foreach x in drawGroup(drawLine(1,2,3,4),drawGroup(drawLine(1,2,3,4),drawLine(1,2,3,4)))do 1;") gives pictured 177 26
    ∷ (ample, "foreach x in drawGroup()do 1;x;") gives pictured 141 4
    ∷ (ample, "foreach x in x do 1;") gives Book.number 50 14 2 0
    ∷ (ample, "foreach x in 1 do 1;x;") gives Book.number 20 14 2 0
    ∷ (ample, "foreach x in drawLine(1,2,3,4)do 1;") gives Book.number 20 14 6 0
    ∷ (ample, "foreach w in drawGroup(drawLine(1,2,3,4))do return 1;x;") gives pictured 177 10
    ∷ (ample, "w=drawGroup(drawLine(1,2,3,4),drawBox(1,2,3,4));foreach x in w do destroyShape(w);") gives pictured 141 20
    ∷ (ample, "foreach w in drawGroup(drawGroup(drawLine(1,2,3,4)),drawLine(1,2,3,4))do return 1;x;") gives pictured 177 16
    ∷ (ample, "foreach w in drawGroup()do 1;w+1;") gives pictured 141 6
    ∷ (ample, "foreach x in drawGroup()do 1;var x;") gives Book.number 60 43 3 0
    ∷ (ample, "w=drawGroup();destroyShape(w);foreach x in w do 1;") gives Book.number 30 44 7 0
    -- every place of a group doubled three times from an empty one: foreach counts the two of its own, destroying one on each level, the picture all
    ∷ (ample, "w=drawGroup();w=drawGroup(w,w);w=drawGroup(w,w);w=drawGroup(w,w);foreach x in w do 1;destroyShape(w);") gives pictured 141 24
    ∷ (ample, "w=drawGroup();w=drawGroup(w,w);w=drawGroup(w,w);w=drawGroup(w,w);") gives pictured 141 28
    ∷ []

pub answers_hold : Hold (λ (q : Grants × String). answer (called drawing q.0 (main q.1))) answers
unfolding everything
answers_hold = refl

-- ---- several procedures
abbrev pub programs : List (Row (Grants × String) Answer)
programs =
    -- clearScene begins with main: the line that x shares is reached first through main's group, or through that of the call between
    (ample, "def f(x,g){foreach x in g do clearScene();}def main(w,h){w=drawGroup(drawLine(1,2,3,4));f(1,w);}") gives pictured 141 17
    ∷ (ample, "def k(){clearScene();}def f(x,g){foreach x in g do k();}def main(w,h){w=drawGroup(drawLine(1,2,3,4));f(1,w);}") gives pictured 141 19
    -- a parameter is copied, a returned group is not
    ∷ (granting 99 3 1, "def f(x){1;}def main(w,h){f(drawGroup(drawLine(1,2,3,4)));}") gives Book.number 77 26 8 0
    ∷ (granting 99 3 2, "def f(x){1;}def main(w,h){f(drawGroup(drawLine(1,2,3,4)));}") gives pictured 141 10
    ∷ (granting 99 2 0, "def f(){return drawGroup();}def main(w,h){w=f();}") gives pictured 141 4
    -- foreach returns from the call under way, and its variable belongs to that
    ∷ (ample, "def f(g){foreach x in g do return x;}def main(w,h){w=f(drawGroup(drawLine(1,2,3,4),drawBox(1,2,3,4)));}") gives pictured 177 18
    ∷ (ample, "def f(g){foreach w in g do 1;}def main(w,h){f(drawGroup(drawLine(1,2,3,4)));w+1;}") gives pictured 141 17
    ∷ []

pub programs_hold : Hold (λ (q : Grants × String). answer (called drawing q.0 (bytes q.1))) programs
unfolding everything
programs_hold = refl

-- ---- what is taken, in order
abbrev painted : String → Run (List Figure)
painted body = painting (main body) (pos 20) (pos 30) 50 empty

abbrev st : ℕ → ℕ → List Event
st n p = replicate n (taking steps 1 p)

abbrev sh : ℕ → List Event
sh p = taking shapes 1 p ∷ []

abbrev en : ℕ → ℕ → List Event
en n p = replicate n (taking entries 1 p)

abbrev back : List Event
back = gave_back ∷ []

-- from main's call on: its return, and the picture's steps behind that
abbrev pub takings : List (Row String (List Event))
takings =
    -- new components first, each behind its step, those of a nested group before it; what is destroyed is passed over
    "drawGroup(drawGroup(drawLine(1,2,3,4)),drawLine(1,2,3,4));" gives (st 8 14 ++ sh 14 ++ sh 14 ++ en 1 14 ++ st 5 14 ++ sh 14 ++ sh 14 ++ en 2 14 ++ back)
    ∷ "drawGroup(drawGroup(drawLine(1,2,3,4)),drawLine(1,2,3,4))+1;" gives
    (st 9 14 ++ sh 14 ++ sh 14 ++ en 1 14 ++ st 5 14 ++ sh 14 ++ sh 14 ++ en 2 14 ++ st 1 14 ++
    st 2 14 ++ sh 14 ++ sh 14 ++ en 1 14 ++ st 1 14 ++ sh 14 ++ sh 14 ++ en 2 14 ++ back)
    ∷ "h=drawLine(1,2,3,4);w=drawGroup(h,drawGroup());destroyShape(h);w*2;" gives
    (st 6 14 ++ sh 14 ++ sh 14 ++ st 4 34 ++ sh 34 ++ sh 34 ++ en 2 34 ++ sh 34 ++ en 2 34 ++ st 3 61 ++
    st 4 77 ++ st 1 77 ++ sh 77 ++ sh 77 ++ en 1 77 ++ back ++ st 1 0)
    -- a copy takes as much, also for a component that is destroyed
    ∷ "w=drawGroup();w=drawGroup(w,w);w;" gives (st 2 14 ++ sh 14 ++ sh 14 ++ st 4 28 ++ sh 28 ++ en 2 28 ++ sh 28 ++ en 2 28 ++ st 2 45 ++ back ++ st 2 0)
    ∷ "h=drawLine(1,2,3,4);w=drawGroup(h);destroyShape(h);w=w;" gives
    (st 6 14 ++ sh 14 ++ sh 14 ++ st 3 34 ++ sh 34 ++ en 1 34 ++ sh 34 ++ en 1 34 ++ st 3 49 ++ st 2 65 ++ sh 65 ++ en 1 65 ++ back)
    -- the steps of destroying, clearScene, a comparison and foreach have the place of their statement
    ∷ "w=drawGroup(drawLine(1,2,3,4));destroyShape(w);" gives (st 7 14 ++ sh 14 ++ sh 14 ++ en 1 14 ++ sh 14 ++ en 1 14 ++ st 3 45 ++ st 1 45 ++ back)
    ∷ "w=drawGroup(drawLine(1,2,3,4));clearScene();" gives (st 7 14 ++ sh 14 ++ sh 14 ++ en 1 14 ++ sh 14 ++ en 1 14 ++ st 2 45 ++ st 1 45 ++ back)
    ∷ "w=drawGroup(drawLine(1,2,3,4));w==w;" gives (st 7 14 ++ sh 14 ++ sh 14 ++ en 1 14 ++ sh 14 ++ en 1 14 ++ st 4 45 ++ st 1 45 ++ back ++ st 1 0)
    ∷ "foreach x in drawGroup(drawGroup(drawLine(1,2,3,4),drawLine(1,2,3,4)))do 1;" gives
    (st 8 14 ++ sh 14 ++ st 5 14 ++ sh 14 ++ sh 14 ++ en 2 14 ++ sh 14 ++ en 1 14 ++ st 1 14 ++ st 2 87 ++ st 2 87 ++ back)
    ∷ []

pub takings_hold : Hold (λ body. drop 1 (painted body).takings) takings
unfolding everything
takings_hold = refl

-- ---- what is shown
unfoldable pub figures_in : End (List Figure) → List Figure
figures_in (result fs s) = fs
figures_in (error n p) = []
figures_in unfinished = []

abbrev a_line : ℕ → ℕ → ℕ → ℕ → Figure
a_line a b c d = line (pos a) (pos b) (pos c) (pos d)

abbrev a_box : ℕ → ℕ → ℕ → ℕ → Figure
a_box a b c d = box (pos a) (pos b) (pos c) (pos d)

abbrev pub shown : List (Row String (List Figure))
shown =
    -- a group's figures where it is held, each as often as it is there
    "h=drawLine(1,2,3,4);w=drawGroup(drawBox(1,2,3,4),h,drawGroup(h));" gives (a_box 1 2 3 4 ∷ a_line 1 2 3 4 ∷ a_line 1 2 3 4 ∷ a_line 1 2 3 4 ∷ [])
    ∷ "h=drawLine(1,2,3,4);w=drawGroup(h,drawBox(1,2,3,4));destroyShape(h);" gives (a_box 1 2 3 4 ∷ [])
    -- each operator on every figure in it, of which it makes new ones
    ∷ "w=drawGroup(drawGroup(drawLine(1,2,3,4)),drawBox(5,6,7,8))*2;" gives (a_line 2 4 6 8 ∷ a_box 10 12 14 16 ∷ [])
    ∷ "w=drawGroup(drawLine(2,4,6,8))/2;" gives (a_line 1 2 3 4 ∷ [])
    ∷ "w=drawGroup(drawLine(1,2,3,4))+1;" gives (a_line 1 3 3 5 ∷ [])
    ∷ "w=drawGroup(drawLine(1,2,3,4))-1;" gives (a_line 1 1 3 3 ∷ [])
    ∷ "w=drawGroup(drawLine(1,2,3,4))>>1;" gives (a_line 2 2 4 4 ∷ [])
    ∷ "w=drawGroup(drawLine(1,2,3,4))<<1;" gives (a_line 0 2 2 4 ∷ [])
    ∷ "h=drawGroup(drawLine(1,2,3,4));w=h+1;destroyShape(h);" gives (a_line 1 3 3 5 ∷ [])
    ∷ "h=drawLine(1,2,3,4);w=drawGroup(h,drawBox(1,2,3,4));destroyShape(h);w=w>>1;" gives (a_box 2 2 3 4 ∷ [])
    -- a copy shares its components, and so does the variable of foreach, which stands where it was declared
    ∷ "h=drawGroup(drawLine(1,2,3,4));w=h;foreach x in h do destroyShape(x);" gives []
    ∷ "w=drawGroup(drawLine(1,2,3,4));foreach h in w do 1;destroyShape(h);" gives []
    ∷ "foreach x in drawGroup(drawBox(1,2,3,4))do 1;h=drawLine(1,2,3,4);" gives (a_line 1 2 3 4 ∷ a_box 1 2 3 4 ∷ [])
    ∷ "foreach w in drawGroup(drawLine(1,2,3,4),drawGroup(drawBox(1,2,3,4)))do 1;" gives (a_box 1 2 3 4 ∷ [])
    ∷ []

pub shown_hold : Hold (λ body. figures_in (painted body).end) shown
unfolding everything figures_in
shown_hold = refl

-- ---- destroying, equality and foreach: the answers with their steps
-- h is a line, and w a group of it and of a group that has it twice: 12 steps, and 4 for the picture, which has 285 bytes, 141 without w and h
abbrev given : String
given = "h=drawLine(1,2,3,4);w=drawGroup(h,drawGroup(h,h));"

abbrev pub reached : List (Row String Answer)
reached =
    "1;" gives pictured 285 18
    -- a component that is there twice is destroyed once, and clearScene passes over what is destroyed by then
    ∷ "destroyShape(h);" gives pictured 141 16
    ∷ "destroyShape(w);" gives pictured 141 17
    ∷ "w=0;" gives pictured 177 14
    ∷ "clearScene();" gives pictured 141 16
    ∷ "h=w;clearScene();" gives pictured 141 18
    ∷ "w=w;destroyShape(w);" gives pictured 141 19
    ∷ "h=w;destroyShape(w);h;" gives pictured 141 21
    -- equality: where it holds w becomes 0
    ∷ "if(w==w)w=0;" gives pictured 177 22
    ∷ "if(w!=w)w=0;" gives pictured 285 24
    ∷ "if(w==drawGroup())w=0;" gives pictured 285 20
    ∷ "if(w==drawGroup(h))w=0;" gives pictured 285 22
    ∷ "if(drawGroup(h)==w)w=0;" gives pictured 285 22
    ∷ "if(w==h)w=0;" gives pictured 285 20
    ∷ "if(h==w)w=0;" gives pictured 285 20
    ∷ "if(w!=h)w=0;" gives pictured 177 18
    ∷ "if(w==none)w=0;" gives pictured 285 20
    ∷ "if(w==1)w=0;" gives Book.number 20 64 16 0
    ∷ "if(drawGroup(h,h)==drawGroup(h))w=0;" gives pictured 285 24
    ∷ "if(drawGroup(drawGroup(h,h),h)==drawGroup(drawGroup(h),h))w=0;" gives pictured 285 29
    ∷ "if(drawGroup(h,drawLine(1,2,3,5),h)==drawGroup(h,h,h))w=0;" gives pictured 285 32
    ∷ "if(drawGroup(h,w)==drawGroup(w,h))w=0;" gives pictured 285 25
    ∷ "destroyShape(h);if(w==drawGroup(drawGroup()))w=0;" gives pictured 141 23
    -- foreach goes through what is in a group, and passes over what is destroyed when it comes to it
    ∷ "foreach h in w do 1;" gives pictured 285 26
    ∷ "foreach x in w do 1;" gives Book.number 80 0 26 321
    ∷ "foreach x in w do destroyShape(x);" gives pictured 141 20
    ∷ "foreach x in w do destroyShape(w);" gives pictured 141 20
    ∷ "var v;v=drawLine(1,2,3,4);foreach h in drawGroup(drawGroup(h,v),v)do destroyShape(v);" gives pictured 285 33
    ∷ "foreach h in w do h=h+1;" gives pictured 285 32
    ∷ "foreach x in w do w=0;" gives pictured 213 22
    ∷ "foreach x in w do foreach y in w do 1;w=0;x=0;y=0;" gives pictured 177 52
    ∷ []

pub reached_hold : Hold (λ body. answer (called drawing ample (bytes "def main(w,h){" ++ bytes given ++ bytes body ++ bytes "}"))) reached
unfolding everything
reached_hold = refl

-- ---- what no program shows
-- a declared name is not declared again, and foreach asks whether the shape that its expression gave is destroyed before it asks for a group
pub foreach-asks :
    (declaring_once (bytes "i") standing ≡ run [] (result tt standing))
    × (declaring_once (bytes "z") standing ≡ run [] (result tt (with_variables standing (standing.variables ++ (holding "z" none ∷ [])))))
    × ((execute (λ f p vs. give (shape 4)) (foreach 5 (bytes "z") (call (bytes "f") no_argument) (act 6 nothing)) 9 standing).end ≡ error 30 5)
    × ((execute (λ f p vs. give (shape 1)) (foreach 5 (bytes "z") (call (bytes "f") no_argument) (act 6 nothing)) 9 standing).end ≡ error 20 5)
unfolding everything
foreach-asks = (refl, refl, refl, refl)

-- ---- where no depth is left, which never happens (claim `DepthsSuffice`)
pub no_depth : (p i j : ℕ) (s : State) →
    (destroying 0 p i s ≡ run [] (result [] s)) × (remade 0 p (λ a. a) i s ≡ run [] (result i s)) × (figures_of 0 p i s ≡ run [] (result [] s))
    × (alike 0 p i j s ≡ run [] (result false s)) × (iterating 0 (λ i. give onward) i s ≡ run [] (result onward s))
unfolding destroying remade figures_of alike iterating give
no_depth p i j s = (refl, refl, refl, refl, refl)
