-- A call of an operation: what it answers, and what each slice holds when it returns.
use Rattle.std.specs.Prelude.{ℕ, suc, ◌+◌, ◌*◌, Bool, true, false, ◌&&◌, List, [], ◌∷◌, length, replicate, ℤ, leb}
use Rattle.meaning.specs.Basics.{if◌then◌otherwise◌, laid_over}
use Rattle.meaning.specs.Run.{steps, shapes, entries, text_bytes, calls, picture, End, result, error, unfinished, Run}
use Rattle.meaning.specs.Program.{Operation, checking, drawing, Outcome, accepted, drawn, specified}
use Rattle.meaning.specs.Book.{Amounts, Booked, all_fit, lacking, nothing_yet, book, Answer, number, booked}

pub record Grants : Type 0 where
  pub steps : ℕ
  pub shapes : ℕ
  pub entries : ℕ
  pub text_bytes : ℕ
  pub calls : ℕ

-- the operation and its arguments: of the work slices only their lengths matter to the answer
pub record Call : Type 0 where
  pub operation : Operation
  pub program : List ℕ
  pub width : ℤ
  pub height : ℤ
  pub grants : Grants
  pub lent : List ℕ
  pub out : List ℕ

-- ---- the first question
unfoldable pub in_range : Grants → Bool
in_range g = leb g.steps 4294967295 && leb g.shapes 65535 && leb g.entries 65535 && leb g.text_bytes 65535
    && leb 1 g.calls && leb g.calls 64

-- How long each work slice must be: token words, code, the words of a run (variables, calls under way, shapes, entries), and text bytes. Checking
-- is lent the first two alone.
abbrev pub reading_slices : List ℕ → List ℕ
reading_slices ls = 8193 ∷ 16384 ∷ ls

abbrev pub running_slices : Grants → List ℕ
running_slices g = (262416 + 5 * g.shapes + (5 + g.calls) * g.entries) ∷ g.text_bytes ∷ []

unfoldable pub needed : Operation → Grants → List ℕ
needed checking g = reading_slices []
needed drawing g = reading_slices (running_slices g)

-- each of the first lengths is there, and at least as long
unfoldable pub long_enough : List ℕ → List ℕ → Bool
long_enough [] ls = true
long_enough (n ∷ ns) [] = false
long_enough (n ∷ ns) (l ∷ ls) = leb n l && long_enough ns ls

unfoldable pub admitted : Call → Bool
admitted c = in_range c.grants && long_enough (needed c.operation c.grants) c.lent

-- ---- the answer
unfoldable pub granted : Grants → List ℕ → Amounts
granted g out steps = g.steps
granted g out shapes = g.shapes
granted g out entries = g.entries
granted g out text_bytes = g.text_bytes
granted g out calls = g.calls
granted g out picture = length out

abbrev pub granted_to : Call → Amounts
granted_to c = granted c.grants c.out

-- each turn of a loop and each call counts a step, so one more than there are steps is enough
unfoldable pub run_of : Call → Run Outcome
run_of c = specified c.operation c.program c.width c.height (suc c.grants.steps)

unfoldable pub answer : Call → Answer
answer c = if admitted c then (λ _. booked (granted_to c) (run_of c)) otherwise λ _. number 71 0 0 0

-- ---- the slices
-- a work slice holds zeros; only after 71 it is unchanged
unfoldable pub work_after : Call → List ℕ → List ℕ
work_after c work = if admitted c then (λ _. replicate (length work) 0) otherwise λ _. work

-- The out slice after a run that ended so: only a picture drawn is written, into its front. A call's run that fits has ended (claim `AlwaysAnswered`), and
-- drawing ends with a picture or a number (`PicturesFillTheFront`), so the clauses for `unfinished` and `accepted` are never met there.
unfoldable pub out_after_end : Operation → Booked → End Outcome → List ℕ → List ℕ
out_after_end checking b e out = out
out_after_end drawing (lacking t total) e out = out
out_after_end drawing (all_fit total) (result accepted s) out = out
out_after_end drawing (all_fit total) (result (drawn b) s) out = laid_over b out
out_after_end drawing (all_fit total) (error n p) out = out
out_after_end drawing (all_fit total) unfinished out = out

unfoldable pub out_after : Call → List ℕ
out_after c =
    if admitted c then (λ _. out_after_end c.operation (book (granted_to c) nothing_yet (run_of c).takings) (run_of c).end c.out)
    otherwise λ _. c.out
