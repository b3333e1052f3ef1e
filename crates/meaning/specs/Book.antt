-- The book: it adds up what a run takes, up to what was granted.
use Rattle.std.specs.Prelude.{ℕ, ◌+◌, ◌-◌, Bool, cond, List, [], ◌∷◌, length, leb, eqb}
use Rattle.meaning.specs.Basics.{if◌then◌otherwise◌}
use Rattle.meaning.specs.Run.{Resource, steps, shapes, entries, text_bytes, calls, picture, Taking, Event, taken, gave_back, End, result, error, unfinished, Run}
use Rattle.meaning.specs.Program.{Outcome, accepted, drawn}

-- an amount of each resource
abbrev pub Amounts : Type 0
Amounts = Resource → ℕ

abbrev pub nothing_yet : Amounts
nothing_yet r = 0

unfoldable pub resource_number : Resource → ℕ
resource_number steps = 0
resource_number shapes = 1
resource_number entries = 2
resource_number text_bytes = 3
resource_number picture = 4
resource_number calls = 5

-- a total with a taking added
unfoldable pub added : Amounts → Taking → Amounts
added total t r = total r + cond (eqb (resource_number r) (resource_number t.of)) t.amount 0

-- a total with a call given back
unfoldable pub lowered : Amounts → Amounts
lowered total r = total r - cond (eqb (resource_number r) (resource_number calls)) 1 0

-- whether a taking's total stays within what was granted
unfoldable pub fits : Amounts → Amounts → Taking → Bool
fits granted total t = leb (total t.of + t.amount) (granted t.of)

-- all takings fit, and come to these totals; or the first that does not fit, and the totals before it
pub data Booked : Type 0 where
  all_fit : Amounts → Booked
  lacking : Taking → Amounts → Booked

unfoldable pub book : Amounts → Amounts → List Event → Booked
book granted total [] = all_fit total
book granted total (taken t ∷ es) =
    if fits granted total t then (λ _. book granted (added total t) es) otherwise λ _. lacking t total
book granted total (gave_back ∷ es) = book granted (lowered total) es

-- ---- answers
-- A picture with its length and steps, which says "well formed" with both 0; or a number with its place, the steps counted,
-- and, after 80, the length that the picture needs, else 0. Only a beginning that is too short leaves an
-- answer undecided: no call does (claim `AlwaysAnswered`).
pub data Answer : Type 0 where
  pictured : ℕ → ℕ → Answer
  number : ℕ → ℕ → ℕ → ℕ → Answer
  undecided : Answer

unfoldable pub shortage_of : Resource → ℕ
shortage_of steps = 79
shortage_of shapes = 76
shortage_of entries = 77
shortage_of text_bytes = 78
shortage_of picture = 80
shortage_of calls = 81

unfoldable pub length_needed : Taking → ℕ
length_needed t = cond (eqb (resource_number t.of) (resource_number picture)) t.amount 0

unfoldable pub answer_to : End Outcome → ℕ → Answer
answer_to (result accepted s) n = pictured 0 n
answer_to (result (drawn b) s) n = pictured (length b) n
answer_to (error m p) n = number m p n 0
answer_to unfinished n = undecided

unfoldable pub settled : Booked → End Outcome → Answer
settled (all_fit total) e = answer_to e (total steps)
settled (lacking t total) e = number (shortage_of t.of) t.place (total steps) (length_needed t)

-- what a run comes to with these grants
unfoldable pub booked : Amounts → Run Outcome → Answer
booked granted r = settled (book granted nothing_yet r.takings) r.end
