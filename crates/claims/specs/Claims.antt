-- What is claimed of the definitions. proofs/ proves each of these types.
use Rattle.std.specs.Prelude.{ℕ, suc, ◌+◌, ◌≤◌, ◌<◌, ◌≡◌, ◌≢◌, Bool, true, false, not, ◌&&◌, cond, List, [], ◌∷◌, ◌++◌, length, take, ℤ, pos, leb, eqb}
use Rattle.std.proofs.Math.Option.{some}
use Rattle.std.specs.Int.Signed.{lt_z}
use Rattle.meaning.specs.Basics.{same_text, laid_over, stands_in}
use Rattle.meaning.specs.Integer.{is_negative}
use Rattle.meaning.specs.Figure.{Figure, line, ellipse, box, text}
use Rattle.meaning.specs.Picture.{plain_line, turned, line_of}
use Rattle.meaning.specs.Tree.{Expression, Statement, Procedure, Program}
use Rattle.meaning.specs.Grammar.{well_formed, malformed, reading}
use Rattle.meaning.specs.Value.{Value}
use Rattle.meaning.specs.State.{Entry, State, content_of, components_in, shape_in, shapes_held, shapes_held_by}
use Rattle.meaning.specs.Run.{Resource, steps, calls, picture, Taking, Event, taken, gave_back, taking, Run, run, result, error, unfinished, Action}
use Rattle.meaning.specs.Group.{destroying, remade, figures_of, alike}
use Rattle.meaning.specs.Evaluate.{evaluate}
use Rattle.meaning.specs.Execute.{Flow, iterating, execute}
use Rattle.meaning.specs.Procedure.{doubled, calling}
use Rattle.meaning.specs.Program.{Operation, checking, drawing, Outcome, drawn, empty, painting, specified, beginning}
use Rattle.meaning.specs.Book.{Amounts, nothing_yet, resource_number, added, lowered, fits, all_fit, book, Answer, pictured, number, undecided, shortage_of, length_needed, booked}
use Rattle.meaning.specs.Call.{Call, Grants, in_range, needed, admitted, granted_to, run_of, answer, out_after}

-- ---- beginnings
-- a longer beginning goes on where a shorter one ends
abbrev pub BeginningsExtend : Type 0
BeginningsExtend =
    (o : Operation) (program : List ℕ) (width height : ℤ) (n k : ℕ) →
    take n (beginning o program width height (n + k)).takings ≡ (beginning o program width height n).takings

-- a beginning of n takings and returns has n, where the run has not ended
abbrev pub BeginningsFill : Type 0
BeginningsFill =
    (o : Operation) (program : List ℕ) (width height : ℤ) (n : ℕ) →
    (beginning o program width height n).end ≡ unfinished → length (beginning o program width height n).takings ≡ n

-- a run that has ended stays as it is
abbrev pub EndedStays : Type 0
EndedStays =
    (o : Operation) (program : List ℕ) (width height : ℤ) (n k : ℕ) →
    (beginning o program width height n).end ≢ unfinished →
    beginning o program width height (n + k) ≡ beginning o program width height n

abbrev pub beginning_of : Call → ℕ → Run Outcome
beginning_of c n = beginning c.operation c.program c.width c.height n

-- a beginning that decides the book gives the answer, and there is one
abbrev pub BeginningsDecide : Type 0
BeginningsDecide =
    (c : Call) → admitted c ≡ true →
    ((n : ℕ) → booked (granted_to c) (beginning_of c n) ≢ undecided → booked (granted_to c) (beginning_of c n) ≡ answer c)
    × ((n : ℕ) × (booked (granted_to c) (beginning_of c n) ≡ answer c))

-- ---- the numbers of document 01
-- what reading can end in, what a program that runs can, and both with 72 and 73. 71 and the shortages, 76 to 81, stand apart.
abbrev pub reading_errors : List ℕ
reading_errors = 10 ∷ 74 ∷ 75 ∷ []

abbrev pub language_errors : List ℕ
language_errors = 20 ∷ 30 ∷ 40 ∷ 50 ∷ 60 ∷ 70 ∷ []

abbrev pub errors : List ℕ
errors = 10 ∷ 20 ∷ 30 ∷ 40 ∷ 50 ∷ 60 ∷ 70 ∷ 72 ∷ 73 ∷ 74 ∷ 75 ∷ []

abbrev pub among : List ℕ → ℕ → Type 0
among ns m = stands_in m ns ≡ true

abbrev pub ReadingErrors : Type 0
ReadingErrors = (program : List ℕ) (m p : ℕ) → reading program ≡ malformed m p → among reading_errors m

abbrev pub LanguageErrors : Type 0
LanguageErrors =
    (o : Operation) (program : List ℕ) (width height : ℤ) (tree : Program) (n m p : ℕ) →
    reading program ≡ well_formed tree → length program ≤ 32768 → lt_z (pos 0) width && lt_z (pos 0) height ≡ true →
    (specified o program width height n).end ≡ error m p → among language_errors m

-- ---- work slices
-- no work slice need be longer than 67,108,864 elements, whatever counts are granted
unfoldable pub all_within : ℕ → List ℕ → Bool
all_within n [] = true
all_within n (x ∷ xs) = leb x n && all_within n xs

abbrev pub NeededIsBounded : Type 0
NeededIsBounded = (o : Operation) (g : Grants) → in_range g ≡ true → all_within 67108864 (needed o g) ≡ true

-- ---- answers
-- every call is answered
abbrev pub AlwaysAnswered : Type 0
AlwaysAnswered = (c : Call) → answer c ≢ undecided

-- after a number the out slice holds what it held
abbrev pub NumbersWriteNothing : Type 0
NumbersWriteNothing = (c : Call) (m p n l : ℕ) → answer c ≡ number m p n l → out_after c ≡ c.out

-- the picture that the specified run ends in fills the front of the out slice, and nothing else in it changes
abbrev pub PicturesFillTheFront : Type 0
PicturesFillTheFront =
    (c : Call) (l n : ℕ) → c.operation ≡ drawing → answer c ≡ pictured l n →
    (b : List ℕ) × (s : State) × ((run_of c).end ≡ result (drawn b) s) × (length b ≡ l) × (l ≤ length c.out) × (out_after c ≡ laid_over b c.out)

-- ---- what takes nothing
-- checking, whatever the program
abbrev pub CheckingTakesNothing : Type 0
CheckingTakesNothing = (program : List ℕ) (width height : ℤ) (n : ℕ) → (specified checking program width height n).takings ≡ []

-- main can be entered: two parameters of different names
unfoldable pub two_names : List (List ℕ) → Bool
two_names [] = false
two_names (x ∷ []) = false
two_names (x ∷ y ∷ []) = not (same_text x y)
two_names (x ∷ y ∷ z ∷ more) = false

-- a program that is refused unrun: 72, 73, the numbers of reading, 60 for a `def`, and main's 20 and 60
pub data Unrun (program : List ℕ) (width height : ℤ) : Type 0 where
  no_sheet : lt_z (pos 0) width && lt_z (pos 0) height ≡ false → Unrun program width height
  too_long : 32768 < length program → Unrun program width height
  unread : (m p : ℕ) → reading program ≡ malformed m p → Unrun program width height
  named_twice : (tree : Program) (p : ℕ) → reading program ≡ well_formed tree → doubled [] tree.procedures ≡ some p → Unrun program width height
  unentered : (tree : Program) → reading program ≡ well_formed tree → two_names tree.main.parameters ≡ false → Unrun program width height

abbrev pub UnrunTakesNothing : Type 0
UnrunTakesNothing =
    (o : Operation) (program : List ℕ) (width height : ℤ) (n : ℕ) →
    Unrun program width height → (specified o program width height n).takings ≡ []

-- and is refused: drawing ends with a number at once
abbrev pub UnrunIsRefused : Type 0
UnrunIsRefused =
    (o : Operation) (program : List ℕ) (width height : ℤ) (n : ℕ) → o ≢ checking → Unrun program width height →
    (m : ℕ) × (p : ℕ) × (specified o program width height n ≡ run [] (error m p))

-- every other program is run, and takes main's call and a step first
abbrev pub OthersTakeAStep : Type 0
OthersTakeAStep =
    (o : Operation) (program : List ℕ) (width height : ℤ) (n : ℕ) → o ≢ checking →
    (Unrun program width height → ⊥) →
    (p : ℕ) × (more : List Event) × ((specified o program width height (suc n)).takings ≡ taking calls 1 0 ∷ taking steps 1 p ∷ more)

-- ---- demand 3, the larger-grant rule
-- d calls the same operation on the same program, width and height, with no granted count and no out slice smaller
pub record Larger (c d : Call) : Type 0 where
  pub operation : d.operation ≡ c.operation
  pub program : d.program ≡ c.program
  pub width : d.width ≡ c.width
  pub height : d.height ≡ c.height
  pub more : (r : Resource) → granted_to c r ≤ granted_to d r

-- an answer that names something lacking: 76 to 81
unfoldable pub names_shortage : Answer → Bool
names_shortage (pictured l n) = false
names_shortage (number m p n l) = leb 76 m && leb m 81
names_shortage undecided = false

-- a larger grant changes no result that named nothing lacking, nor a byte of the picture
abbrev pub LargerGrant : Type 0
LargerGrant =
    (c d : Call) → admitted c ≡ true → admitted d ≡ true → Larger c d → names_shortage (answer c) ≡ false →
    (answer d ≡ answer c)
    × ((l n : ℕ) → c.operation ≡ drawing → answer c ≡ pictured l n → take l (out_after d) ≡ take l (out_after c))

-- the totals that some takings and returns come to, from totals on
unfoldable pub total_from : Amounts → List Event → Amounts
total_from total [] = total
total_from total (taken t ∷ es) = total_from (added total t) es
total_from total (gave_back ∷ es) = total_from (lowered total) es

abbrev pub total_of : List Event → Amounts
total_of ts = total_from nothing_yet ts

-- t is the first of some takings that does not fit what is left of the grant; `before` are those in front of it, which all fit
pub record FirstShort (granted : Amounts) (ts before : List Event) (t : Taking) : Type 0 where
  pub behind : List Event
  pub stand : ts ≡ before ++ (taken t ∷ behind)
  pub before_fit : book granted nothing_yet before ≡ all_fit (total_of before)
  pub does_not_fit : fits granted (total_of before) t ≡ false

-- the answer that names it: its number, its place, the steps counted by then, and of a picture the length
unfoldable pub shortage_at : List Event → Taking → Answer
shortage_at before t = number (shortage_of t.of) t.place (total_of before steps) (length_needed t)

-- a shortage is answered exactly where a taking of the specified run is the first that does not fit
abbrev pub ShortageExact : Type 0
ShortageExact =
    (c : Call) → admitted c ≡ true →
    (names_shortage (answer c) ≡ true →
    (n : ℕ) × (before : List Event) × (t : Taking) × FirstShort (granted_to c) (beginning_of c n).takings before t × (answer c ≡ shortage_at before t))
    × ((n : ℕ) (before : List Event) (t : Taking) → FirstShort (granted_to c) (beginning_of c n).takings before t → answer c ≡ shortage_at before t)

-- ---- calls under way
-- how many calls begin among some takings and returns, and how many return
unfoldable pub begun : List Event → ℕ
begun [] = 0
begun (taken t ∷ es) = cond (eqb (resource_number calls) (resource_number t.of)) 1 0 + begun es
begun (gave_back ∷ es) = begun es

unfoldable pub over : List Event → ℕ
over [] = 0
over (taken t ∷ es) = over es
over (gave_back ∷ es) = suc (over es)

-- At each point of the specified run the total of calls is how many have begun and not returned. So 81, which is answered where it would pass the grant
-- (`ShortageExact`), says that one call more than was granted would be under way.
abbrev pub CallsUnderWay : Type 0
CallsUnderWay =
    (o : Operation) (program : List ℕ) (width height : ℤ) (n : ℕ) (before behind : List Event) →
    (specified o program width height n).takings ≡ before ++ behind → total_of before calls + over before ≡ begun before

-- a call that has returned leaves the total as it was, whatever it called in turn
abbrev pub ReturnsGiveBack : Type 0
ReturnsGiveBack =
    (n : ℕ) (procedures : List Procedure) (f : List ℕ) (p : ℕ) (vs : List Value) (s s' : State) (v : Value) (total : Amounts) →
    (calling n procedures f p vs s).end ≡ result v s' → total_from total (calling n procedures f p vs s).takings calls ≡ total calls

-- and so does a picture: none is under way then
abbrev pub NoneUnderWay : Type 0
NoneUnderWay =
    (program : List ℕ) (width height : ℤ) (n : ℕ) (b : List ℕ) (s : State) →
    (specified drawing program width height n).end ≡ result (drawn b) s → total_of (specified drawing program width height n).takings calls ≡ 0

-- ---- the out slice's length
-- the specified run, by a beginning of n takings, comes to the picture b, and at each point all that it has taken but the picture fits what was granted
pub record ComesTo (c : Call) (n : ℕ) (b : List ℕ) : Type 0 where
  pub final : State
  pub ends : (beginning_of c n).end ≡ result (drawn b) final
  pub fit : (before behind : List Event) → (beginning_of c n).takings ≡ before ++ behind → (r : Resource) → r ≢ picture → total_of before r ≤ granted_to c r

-- with an out slice of length 0 every program that comes to a picture gets 80 at place 0 with that picture's length and steps
abbrev pub LengthIsTold : Type 0
LengthIsTold =
    (c : Call) → c.operation ≡ drawing → admitted c ≡ true → c.out ≡ [] → (n : ℕ) (b : List ℕ) → ComesTo c n b →
    answer c ≡ number 80 0 (total_of (beginning_of c n).takings steps) (length b)

-- the same of two calls: d is c with another out slice, and both are past the first question
pub record SameButOut (c d : Call) : Type 0 where
  pub operation : d.operation ≡ c.operation
  pub program : d.program ≡ c.program
  pub width : d.width ≡ c.width
  pub height : d.height ≡ c.height
  pub grants : d.grants ≡ c.grants
  pub first : admitted c ≡ true
  pub second : admitted d ≡ true

-- what one draws, the other tells where its out slice has length 0, or is shorter than the picture
abbrev pub DrawnIsTold : Type 0
DrawnIsTold =
    (c d : Call) → c.operation ≡ drawing → SameButOut c d → (l n : ℕ) → answer c ≡ pictured l n →
    (d.out ≡ [] → answer d ≡ number 80 0 n l) × (length d.out < l → answer d ≡ number 80 0 n l)

-- what one tells by 80, the other draws where its out slice is so long
abbrev pub ToldIsDrawn : Type 0
ToldIsDrawn =
    (c d : Call) → c.operation ≡ drawing → SameButOut c d → (p n l : ℕ) → answer c ≡ number 80 p n l →
    (p ≡ 0) × (l ≤ length d.out → answer d ≡ pictured l n)

-- and every other number is the same in both
abbrev pub NumbersStay : Type 0
NumbersStay =
    (c d : Call) → c.operation ≡ drawing → SameButOut c d → (m p n l : ℕ) → m ≢ 80 → answer c ≡ number m p n l → answer d ≡ number m p n l

-- ---- the run of an answer and the beginnings
-- A call's run that has ended is every beginning that has ended: the same takings, and the same result with the same bytes, or the same number.
abbrev pub EndAlike : Type 0
EndAlike = (c : Call) (n : ℕ) → (run_of c).end ≢ unfinished → (beginning_of c n).end ≢ unfinished → beginning_of c n ≡ run_of c

-- a beginning that has ended and whose takings all fit the grants is the call's run
abbrev pub FittingIsRun : Type 0
FittingIsRun =
    (c : Call) (n : ℕ) (total : Amounts) → (beginning_of c n).end ≢ unfinished →
    book (granted_to c) nothing_yet (beginning_of c n).takings ≡ all_fit total → beginning_of c n ≡ run_of c

-- where nothing is lacking the call's run has ended, and from some length on every beginning is that run
abbrev pub AnswersAreBeginnings : Type 0
AnswersAreBeginnings =
    (c : Call) → admitted c ≡ true → names_shortage (answer c) ≡ false →
    ((run_of c).end ≢ unfinished) × ((n : ℕ) × ((k : ℕ) → beginning_of c (n + k) ≡ run_of c))

-- so the picture in the out slice is, byte for byte, the one that every long enough beginning ends with
abbrev pub PicturesAreBeginnings : Type 0
PicturesAreBeginnings =
    (c : Call) (l n : ℕ) → c.operation ≡ drawing → answer c ≡ pictured l n →
    (b : List ℕ) × (s : State) × (take l (out_after c) ≡ b) × ((m : ℕ) × ((k : ℕ) → (beginning_of c (m + k)).end ≡ result (drawn b) s))

-- ---- lines
-- widths, heights and radii
unfoldable pub sizes_of : Figure → List ℤ
sizes_of (line x₁ y₁ x₂ y₂) = []
sizes_of (ellipse x y a b) = a ∷ b ∷ []
sizes_of (box x y w h) = w ∷ h ∷ []
sizes_of (text x y s) = []

abbrev pub NoneNegative : List ℤ → Type 0
NoneNegative [] = Unit {0}
NoneNegative (z ∷ zs) = (is_negative z ≡ false) × NoneNegative zs

-- no line of any picture has a negative width, height or radius: it shows the numbers of the turned figure, which has none
abbrev pub SizesNotNegative : Type 0
SizesNotNegative = (a : Figure) → (line_of a ≡ plain_line (turned a)) × NoneNegative (sizes_of (turned a))

-- and a figure that has none is shown with its own numbers
abbrev pub OthersStay : Type 0
OthersStay = (a : Figure) → NoneNegative (sizes_of a) → line_of a ≡ plain_line a

-- ---- groups
-- all below n
pub data Below : ℕ → List ℕ → Type 0 where
  done : {n : ℕ} → Below n []
  next : {n i : ℕ} {is : List ℕ} → i < n → Below n is → Below n (i ∷ is)

-- the shapes that entries hold
unfoldable pub shapes_stored : List Entry → List ℕ
shapes_stored [] = []
shapes_stored (e ∷ es) = shape_in e.holds ++ shapes_stored es

-- each component of a group is an older shape, and every shape that a variable or an entry holds is there
pub record Older (s : State) : Type 0 where
  pub components : (i : ℕ) → Below i (components_in (content_of s i))
  pub held : Below (length s.shapes) (shapes_held s.variables)
  pub waiting : Below (length s.shapes) (shapes_held_by s.suspended)
  pub stored : Below (length s.shapes) (shapes_stored s.entries)

-- Components are always older: it is so at first, and every statement, every expression and every program leaves it so.
abbrev pub ComponentsAreOlder : Type 0
ComponentsAreOlder =
    Older empty
    × ((t : Statement) (procedures : List Procedure) (m n : ℕ) (s s' : State) (f : Flow) →
    Older s → (execute (calling m procedures) t n s).end ≡ result f s' → Older s')
    × ((e : Expression) (procedures : List Procedure) (m p : ℕ) (s s' : State) (v : Value) →
    Older s → (evaluate (calling m procedures) e p s).end ≡ result v s' → Older s' × Below (length s'.shapes) (shape_in v))
    × ((program : List ℕ) (width height : ℤ) (n : ℕ) (figures : List Figure) (s : State) →
    (painting program width height n empty).end ≡ result figures s → Older s)

-- whatever it does to a state with older components leaves one
abbrev pub KeepsOlder : {A : Type 0} → Action A → Type 0
KeepsOlder {A} m = (s s' : State) (a : A) → Older s → (m s).end ≡ result a s' → Older s'

-- So the depth that a walk through a group is given, one more than the shape's number, never runs out: a greater one changes nothing.
abbrev pub DepthsSuffice : Type 0
DepthsSuffice =
    (s : State) → Older s → (b p i : ℕ) → i < b →
    (destroying b p i s ≡ destroying (suc i) p i s)
    × ((f : Figure → Figure) → remade b p f i s ≡ remade (suc i) p f i s)
    × (figures_of b p i s ≡ figures_of (suc i) p i s)
    × ((j : ℕ) → alike b p i j s ≡ alike (suc i) p i j s)
    × ((body : ℕ → Action Flow) → ((j : ℕ) → KeepsOlder (body j)) → iterating b body i s ≡ iterating (suc i) body i s)
