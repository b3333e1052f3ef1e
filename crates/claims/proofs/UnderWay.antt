-- Calls under way: at each point the book has as many as have begun and not returned, and each is given back.
use Prim.Native.Nat.{ℕ, ◌+◌}
use mathlib.Core.Path.{◌≡◌, refl, ◌∙◌}
use mathlib.Core.List.{List, [], ◌∷◌, ◌++◌}
use native.Mathlib.Omega.{arith}
use lib.IntN.{ℤ}
use Rattle.meaning.specs.Run.{calls, Taking, Event, End, result, error, unfinished, ◌>>=◌, go_on, give, spend}
use Rattle.meaning.specs.Procedure.{calling}
use Rattle.meaning.specs.Program.{Operation, checking, drawing, empty, painting, performing, specified}
use Rattle.meaning.specs.Book.{Amounts, nothing_yet, resource_number, added, lowered}
use Rattle.claims.specs.Claims.{total_from, begun, over, CallsUnderWay, ReturnsGiveBack, NoneUnderWay}
use Rattle.claims.proofs.Unrun.{checking_takes_nothing}
use Rattle.claims.proofs.Ends.{Leads, still, begins, returns, other, Stands, stands_go, painting_lawful, calling_lawful}

-- ---- totals
abbrev a_call : ℕ → Taking
a_call p = record { of = calls; amount = 1; place = p }

-- where takings and returns lead from d calls to d', a total of d comes to d'
leads_total : {d d' : ℕ} {es : List Event} (total : Amounts) → Leads d es d' → total calls ≡ d → total_from total es calls ≡ d'
unfolding total_from added lowered resource_number
leads_total total still e = e
leads_total total (begins h) e = leads_total _ h (omega arith)
leads_total total (returns h) e = leads_total _ h (omega arith)
leads_total total (other {t = t} q h) e = leads_total (added total t) h (rw q (omega arith))

-- and all the while it is how many have begun and not returned
leads_count : {d d' : ℕ} {es : List Event} (total : Amounts) → Leads d es d' → total calls ≡ d → total_from total es calls + over es ≡ d + begun es
unfolding total_from added lowered resource_number begun over
leads_count total still e = omega arith
leads_count total (begins {p = p} h) e = omega (arith, leads_count (added total (a_call p)) h (omega arith))
leads_count total (returns h) e = omega (arith, leads_count (lowered total) h (omega arith))
leads_count total (other {t = t} q h) e = rw q (leads_count (added total t) h (rw q (omega arith)) ∙ omega arith)

-- what leads somewhere leads somewhere at each point
leads_front : (before behind : List Event) {d d' : ℕ} → Leads d (before ++ behind) d' → (k : ℕ) × Leads d before k
leads_front [] behind h = (_, still)
leads_front (e ∷ before) behind (begins h) = let w = leads_front before behind h in (w.0, begins w.1)
leads_front (e ∷ before) behind (returns h) = let w = leads_front before behind h in (w.0, returns w.1)
leads_front (e ∷ before) behind (other q h) = let w = leads_front before behind h in (w.0, other q w.1)

-- ---- runs
stands_leads : {A : Type 0} (d d' : ℕ) (ts : List Event) (e : End A) → Stands d d' ts e → (k : ℕ) × Leads d ts k
stands_leads d d' ts (result a s) h = (d', h)
stands_leads d d' ts (error m p) h = h
stands_leads d d' ts unfinished h = h

-- drawing takes the picture with no call under way
drawing_stands : (program : List ℕ) (width height : ℤ) (n : ℕ) →
    Stands 0 0 (specified drawing program width height n).takings (specified drawing program width height n).end
unfolding specified performing ◌>>=◌ go_on spend give resource_number
drawing_stands program width height n =
    let r = painting program width height n empty in
    stands_go 0 0 0 r.takings r.end _ ((painting_lawful program width height).level empty 0) (λ a s. other refl still)

specified_leads : (o : Operation) (program : List ℕ) (width height : ℤ) (n : ℕ) → (k : ℕ) × Leads 0 (specified o program width height n).takings k
specified_leads checking program width height n = (0, rw (checking_takes_nothing program width height n) still)
specified_leads drawing program width height n = stands_leads 0 0 _ (specified drawing program width height n).end (drawing_stands program width height n)

-- THE CLAIMS
pub calls_under_way : CallsUnderWay
calls_under_way o program width height n before behind e =
    let w = leads_front before behind (rw e at (specified_leads o program width height n).1) in
    leads_count nothing_yet w.1 refl ∙ omega arith

pub returns_give_back : ReturnsGiveBack
returns_give_back n fs f p vs s s' v total e =
    let r = calling n fs f p vs s in
    leads_total total (rw e at ((calling_lawful n fs f p vs).level s (total calls))) refl

pub none_under_way : NoneUnderWay
none_under_way program width height n b s e = leads_total nothing_yet (rw e at (drawing_stands program width height n)) refl
