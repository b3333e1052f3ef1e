-- THE THREE DEMANDS of document 00, said of what checking and drawing promise. proofs/Proved proves each; the crate `promises` calls each operation and
-- shows that its promise is the one spoken of here.
use Rattle.std.specs.Prelude.{ℕ, ◌≤◌, ◌<◌, ◌≡◌, ◌≢◌, true, false, ◌&&◌, List, [], ◌∷◌, map, length, take, get_or, ℤ, pos, eqb}
use Rattle.std.specs.Int.Signed.{lt_z}
use Rattle.meaning.specs.Basics.{if◌then◌otherwise◌, laid_over}
use Rattle.meaning.specs.Tree as Tree
use Rattle.meaning.specs.Grammar.{well_formed, malformed, reading}
use Rattle.meaning.specs.State.{State}
use Rattle.meaning.specs.Run.{steps, Taking, Event, result, error}
use Rattle.meaning.specs.Program.{checking, drawing}
use Rattle.meaning.specs.Program as Program
use Rattle.meaning.specs.Book.{Answer, pictured, number}
use Rattle.meaning.specs.Call.{Call, admitted, granted_to, run_of, answer, work_after, out_after}
use Rattle.claims.specs.Claims.{among, reading_errors, language_errors, beginning_of, Larger, names_shortage, total_of, FirstShort, shortage_at}
use Rattle.claims.specs.Claims.{ComesTo, SameButOut}
use Rattle.answers.specs.declared.Answer as Declared
use Rattle.answers.specs.Answers.{meant}
use Rattle.checking.specs.Checking.{Checked}
use Rattle.checking.specs.Checking as Checking
use Rattle.lending.specs.Lending.{called, Performed}

-- ---- a call that has returned
-- All that its operation's promise says of it is used: `Returned c a work work' out'` where call c was answered a, its work slices held `work` before and
-- `work'` then, and its out slice held out' then. Checking has no out slice.
pub data Returned : Call → Answer → List (List ℕ) → List (List ℕ) → List ℕ → Type 0 where
  checked : {program g tokens code tokens' code' : List ℕ} (r : Declared.Answer) → Checked program g tokens code r tokens' code'
      → Returned (Checking.called program g tokens code) (meant r) (tokens ∷ code ∷ []) (tokens' ∷ code' ∷ []) []
  drawn : {program tokens code words texts out tokens' code' words' texts' out' : List ℕ} {width height : ℤ} (g : List ℕ) (r : Declared.Answer)
      → Performed (called drawing program width height g tokens code words texts out) (meant r) tokens code words texts tokens' code' words' texts'
      → out' ≡ out_after (called drawing program width height g tokens code words texts out)
      → Returned (called drawing program width height g tokens code words texts out) (meant r) (tokens ∷ code ∷ words ∷ texts ∷ []) (tokens' ∷ code' ∷ words' ∷ texts' ∷ []) out'

-- a call of checking, by its name here
abbrev pub called_checking : List ℕ → List ℕ → List ℕ → List ℕ → Call
called_checking = Checking.called

-- the answer that C is told: by the number returned, 0 being none, and the four words of the answer
unfoldable pub told_by : ℕ → List ℕ → Answer
told_by n ws = if eqb n 0 then (λ _. pictured (get_or ws 3 0) (get_or ws 2 0)) otherwise λ _. number (get_or ws 0 0) (get_or ws 1 0) (get_or ws 2 0) (get_or ws 3 0)

-- 0, which tells C that there is a picture or that the program is well formed, is no answer's number
abbrev pub ZeroIsNoNumber : Type 0
ZeroIsNoNumber = (c : Call) (p n l : ℕ) → answer c ≢ number 0 p n l

-- ---- DEMAND 1
-- Drawn, every program that keeps the grammar and the fixed limits of document 01, with a width and a height of at least 1 and past that
-- document's first question,
pub record Proper (c : Call) : Type 0 where
  pub first : admitted c ≡ true
  pub sheet : lt_z (pos 0) c.width && lt_z (pos 0) c.height ≡ true
  pub limit : length c.program ≤ 32768
  pub tree : Tree.Program
  pub grammar : reading c.program ≡ well_formed tree

-- is run until it ends in a picture, in one of the language's errors or in a named shortage of what was granted. A picture drawn is whole: all of it lies in
-- the out slice.
pub data Ends (c : Call) (a : Answer) (out' : List ℕ) : Type 0 where
  in_picture : (b : List ℕ) (s : State) → (run_of c).end ≡ result (Program.drawn b) s → a ≡ pictured (length b) (total_of (run_of c).takings steps)
      → (c.operation ≡ drawing → (length b ≤ length c.out) × (out' ≡ laid_over b c.out)) → Ends c a out'
  in_error : (m p : ℕ) → among language_errors m → (run_of c).end ≡ error m p → a ≡ number m p (total_of (run_of c).takings steps) 0 → out' ≡ c.out
      → Ends c a out'
  in_shortage : (before : List Event) (t : Taking) → FirstShort (granted_to c) (run_of c).takings before t → a ≡ shortage_at before t → out' ≡ c.out
      → Ends c a out'

-- All other input to drawing, an empty file among it,
pub data Other (c : Call) : ℕ → ℕ → Type 0 where
  not_lent : admitted c ≡ false → Other c 71 0
  no_sheet : admitted c ≡ true → lt_z (pos 0) c.width && lt_z (pos 0) c.height ≡ false → Other c 72 0
  too_long : admitted c ≡ true → lt_z (pos 0) c.width && lt_z (pos 0) c.height ≡ true → 32768 < length c.program → Other c 73 0
  unreadable : admitted c ≡ true → lt_z (pos 0) c.width && lt_z (pos 0) c.height ≡ true → length c.program ≤ 32768
      → (m p : ℕ) → reading c.program ≡ malformed m p → Other c m p

-- (which is all other input)
pub data Either (c : Call) : Type 0 where
  proper : Proper c → Either c
  other : (m p : ℕ) → Other c m p → Either c

-- gets its number from document 01's table, the out slice keeps each byte it had, and the caller need not have looked at anything first.
pub record Numbered (c : Call) (a : Answer) (out' : List ℕ) (m p : ℕ) : Type 0 where
  pub answered : a ≡ number m p 0 0
  pub known : among (71 ∷ 72 ∷ 73 ∷ reading_errors) m
  pub kept : out' ≡ c.out

pub record Demand1 : Type 0 where
  pub either : (c : Call) → Either c
  pub runs : (c : Call) (a : Answer) (work work' : List (List ℕ)) (out' : List ℕ) → Returned c a work work' out' → c.operation ≢ checking → Proper c → Ends c a out'
  pub refuses : (c : Call) (a : Answer) (work work' : List (List ℕ)) (out' : List ℕ) → Returned c a work work' out' → c.operation ≢ checking
      → (m p : ℕ) → Other c m p → Numbered c a out' m p

-- ---- DEMAND 2
-- The picture, or the number, the place and the count of steps, is what the IMG specification says, read with document 01's decisions, down to each byte
-- of the SVG.
abbrev pub Demand2 : Type 0
Demand2 = (c : Call) (a : Answer) (work work' : List (List ℕ)) (out' : List ℕ) → Returned c a work work' out' → (a ≡ answer c) × (out' ≡ out_after c)

-- ---- beside demand 2, request 8 of document 02: an out slice of length 0 serves those who want only the length
pub record LengthAlone : Type 0 where
  -- with an out slice of length 0 every program that comes to a picture gets 80 at place 0 with that picture's length and steps
  pub told : (c : Call) (a : Answer) (work work' : List (List ℕ)) (out' : List ℕ) → Returned c a work work' out'
      → c.operation ≡ drawing → admitted c ≡ true → c.out ≡ []
      → (n : ℕ) (b : List ℕ) → ComesTo c n b → a ≡ number 80 0 (total_of (beginning_of c n).takings steps) (length b)
  -- Take any two calls of drawing past the first question that differ in nothing but their slices. What the first draws, the second tells if its out slice
  -- has length 0;
  pub same : (c d : Call) (a b : Answer) (v v' w w' : List (List ℕ)) (out' out'' : List ℕ) → Returned c a v v' out' → Returned d b w w' out''
      → c.operation ≡ drawing → SameButOut c d → d.out ≡ [] → (l n : ℕ) → a ≡ pictured l n → b ≡ number 80 0 n l
  -- what the first tells by 80, the second draws if its out slice is so long;
  pub enough : (c d : Call) (a b : Answer) (v v' w w' : List (List ℕ)) (out' out'' : List ℕ) → Returned c a v v' out' → Returned d b w w' out''
      → c.operation ≡ drawing → SameButOut c d → (p n l : ℕ) → a ≡ number 80 p n l → (p ≡ 0) × (l ≤ length d.out → b ≡ pictured l n)
  -- and every other number of the first is the second's, at the same place after the same steps.
  pub others : (c d : Call) (a b : Answer) (v v' w w' : List (List ℕ)) (out' out'' : List ℕ) → Returned c a v v' out' → Returned d b w w' out''
      → c.operation ≡ drawing → SameButOut c d → (m p n l : ℕ) → m ≢ 80 → a ≡ number m p n l → b ≡ number m p n l

-- ---- DEMAND 3
pub record Demand3 : Type 0 where
  -- More memory or more steps never changes a result, unless it named something lacking: take any two calls of one operation that get past document 01's
  -- first question, whatever their slices held before, the second with no granted count and no out slice smaller.
  pub larger : (c d : Call) (a b : Answer) (v v' w w' : List (List ℕ)) (out' out'' : List ℕ) → Returned c a v v' out' → Returned d b w w' out''
      → admitted c ≡ true → admitted d ≡ true → Larger c d → names_shortage a ≡ false
      → (b ≡ a) × ((l n : ℕ) → c.operation ≡ drawing → a ≡ pictured l n → take l out'' ≡ take l out')
  -- In every call past that first question a shortage is reported exactly when the specified run needs more than is left of what was granted, and at the
  -- first such moment: with the number for what is lacking, that moment's place and the steps counted by then.
  pub exactly : (c : Call) (a : Answer) (work work' : List (List ℕ)) (out' : List ℕ) → Returned c a work work' out' → admitted c ≡ true
      → (names_shortage a ≡ true
      → (n : ℕ) × (before : List Event) × (t : Taking) × FirstShort (granted_to c) (beginning_of c n).takings before t × (a ≡ shortage_at before t))
      × ((n : ℕ) (before : List Event) (t : Taking) → FirstShort (granted_to c) (beginning_of c n).takings before t → a ≡ shortage_at before t)

-- ---- beside the demands, document 01: when any operation returns, all work slices hold zeros; only after 71 are they unchanged
abbrev pub WorkSlices : Type 0
WorkSlices = (c : Call) (a : Answer) (work work' : List (List ℕ)) (out' : List ℕ) → Returned c a work work' out' → work' ≡ map (work_after c) work

-- ---- none of this is empty: every call of each operation can have returned so, with the answer that is meant
pub record Possible (c : Call) : Type 0 where
  pub handed : Answer
  pub work : List (List ℕ)
  pub work' : List (List ℕ)
  pub out : List ℕ
  pub returned : Returned c handed work work' out
  pub is : handed ≡ answer c

pub record NotEmpty : Type 0 where
  pub checking : (program g tokens code : List ℕ) → Possible (Checking.called program g tokens code)
  pub drawing : (program : List ℕ) (width height : ℤ) (g tokens code words texts out : List ℕ) → Possible (called Program.drawing program width height g tokens code words texts out)
