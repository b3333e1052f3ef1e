-- The book's laws: takings all fit exactly where the totals they come to fit at each point, and else there is a first that does not.
use Prim.Native.Nat.{ℕ, ◌+◌, ◌≤◌}
use mathlib.Core.Path.{◌≡◌, refl, ap, sym, ◌∙◌}
use mathlib.Core.Logic.{◌≢◌}
use mathlib.Core.Bool.{Bool, true, false, cond}
use mathlib.Core.List.{List, [], ◌∷◌, ◌++◌, append_assoc}
use native.Mathlib.Omega.{arith}
use lib.Dec.{eqb}
use borrow.Author.Tests.{leb-true, le-leb, eqb-true}
use Rattle.meaning.specs.Run.{Resource, steps, calls, picture, Taking, Event, taken, gave_back}
use Rattle.meaning.specs.Book.{Amounts, nothing_yet, resource_number, added, lowered, fits, all_fit, lacking, book}
use Rattle.meaning.proofs.BookLaws.{part, spent, part_own, same_resource, on_fit, book_append, book_cons, book_stop}
use Rattle.claims.specs.Claims.{total_from, total_of, FirstShort}

-- ---- totals
-- a total is what was there and what is spent, where nothing is given back
pub total_spent : (total : Amounts) (es : List Event) (r : Resource) → eqb (resource_number r) (resource_number calls) ≡ false →
    total_from total es r ≡ total r + spent r es
unfolding total_from spent added lowered part
total_spent total [] r e = omega arith
total_spent total (taken t ∷ es) r e = total_spent (added total t) es r e ∙ omega arith
total_spent total (gave_back ∷ es) r e = total_spent (lowered total) es r e ∙ rw e (omega arith)

pub steps_spent : (es : List Event) → total_of es steps ≡ spent steps es
unfolding resource_number
steps_spent es = omega (arith, total_spent nothing_yet es steps refl)

pub picture_spent : (es : List Event) → total_of es picture ≡ spent picture es
unfolding resource_number
picture_spent es = omega (arith, total_spent nothing_yet es picture refl)

-- what a taking adds to a resource fits if it does at the taking's own
module _ (g total : Amounts) (t : Taking) where
  added_by : (b : Bool) (r : Resource) → eqb (resource_number r) (resource_number t.of) ≡ b → total r ≤ g r →
      total t.of + t.amount ≤ g t.of → total r + cond b t.amount 0 ≤ g r
  added_by true r e h w = rw (same_resource r t.of (eqb-true _ _ e)) w
  added_by false r e h w = omega arith

  added_within : ((r : Resource) → total r ≤ g r) → fits g total t ≡ true → (r : Resource) → added total t r ≤ g r
  unfolding added fits
  added_within h e r = added_by _ r refl (h r) (leb-true _ _ e)

lowered_within : (g total : Amounts) → ((r : Resource) → total r ≤ g r) → (r : Resource) → lowered total r ≤ g r
unfolding lowered
lowered_within g total h r = omega (arith, h r)

-- ---- the two ways of a book
abbrev Fit : Amounts → Amounts → List Event → Type 0
Fit g total es = book g total es ≡ all_fit (total_from total es)

pub lacking_no_fit : {t : Taking} {total total' : Amounts} → lacking t total ≢ all_fit total'
lacking_no_fit e = let z : ◌≡◌ {A = ℕ} 0 1 = cc in omega arith

-- all takings fit, and so do their totals; or one is the first that does not
pub data Books (g total : Amounts) (es : List Event) : Type 0 where
  fit : Fit g total es → ((r : Resource) → total_from total es r ≤ g r) → Books g total es
  short : (before : List Event) (t : Taking) (behind : List Event) → es ≡ before ++ (taken t ∷ behind) →
      Fit g total before → fits g (total_from total before) t ≡ false → Books g total es

books_cons : (g total : Amounts) (t : Taking) (es : List Event) → fits g total t ≡ true → Books g (added total t) es →
    Books g total (taken t ∷ es)
unfolding total_from
books_cons g total t es e (fit b w) = fit (book_cons g total t es e ∙ b) w
books_cons g total t es e (short before u behind s b f) =
    short (taken t ∷ before) u behind (ap (λ (l : List Event). taken t ∷ l) s) (book_cons g total t before e ∙ b) f

books_back : (g total : Amounts) (es : List Event) → Books g (lowered total) es → Books g total (gave_back ∷ es)
unfolding total_from book
books_back g total es (fit b w) = fit b w
books_back g total es (short before u behind s b f) = short (gave_back ∷ before) u behind (ap (λ (l : List Event). gave_back ∷ l) s) b f

pub books : (g total : Amounts) (es : List Event) → ((r : Resource) → total r ≤ g r) → Books g total es
unfolding total_from book
books g total [] h = fit refl h
books g total (taken t ∷ es) h = by (fits g total t) refl (λ e. books g (added total t) es (added_within g total t h e))
  where
    by : (b : Bool) → fits g total t ≡ b → (fits g total t ≡ true → Books g (added total t) es) → Books g total (taken t ∷ es)
    by true e k = books_cons g total t es e (k e)
    by false e k = short [] t es refl refl e
books g total (gave_back ∷ es) h = books_back g total es (books g (lowered total) es (lowered_within g total h))

-- takings fit if their totals do at each point
fits_within : (g total : Amounts) (t : Taking) → added total t t.of ≤ g t.of → fits g total t ≡ true
unfolding fits added part
fits_within g total t h = le-leb (total t.of + t.amount) (g t.of) (omega (arith, part_own t))

pub all_fit_lem : (g total : Amounts) (es : List Event) →
    ((before behind : List Event) → es ≡ before ++ behind → (r : Resource) → total_from total before r ≤ g r) → Fit g total es
unfolding total_from book
all_fit_lem g total [] h = refl
all_fit_lem g total (taken t ∷ es) h =
    book_cons g total t es (fits_within g total t (h (taken t ∷ []) es refl t.of))
    ∙ all_fit_lem g (added total t) es (λ before behind e. h (taken t ∷ before) behind (ap (λ (l : List Event). taken t ∷ l) e))
all_fit_lem g total (gave_back ∷ es) h =
    all_fit_lem g (lowered total) es (λ before behind e. h (gave_back ∷ before) behind (ap (λ (l : List Event). gave_back ∷ l) e))

-- and what fits one grant fits a larger one
fits_larger : (g g' total : Amounts) (t : Taking) → ((r : Resource) → g r ≤ g' r) → fits g total t ≡ true → fits g' total t ≡ true
unfolding fits
fits_larger g g' total t h e = le-leb (total t.of + t.amount) (g' t.of) (omega (arith, leb-true (total t.of + t.amount) (g t.of) e, h t.of))

pub fit_larger : (g g' total : Amounts) (es : List Event) → ((r : Resource) → g r ≤ g' r) → Fit g total es → Fit g' total es
unfolding total_from book
fit_larger g g' total [] h e = refl
fit_larger g g' total (taken t ∷ es) h e = by (fits g total t) refl (fit_larger g g' (added total t) es h)
  where
    by : (b : Bool) → fits g total t ≡ b → (Fit g (added total t) es → Fit g' (added total t) es) → book g' total (taken t ∷ es) ≡ all_fit (total_from (added total t) es)
    by true q k = book_cons g' total t es (fits_larger g g' total t h q) ∙ k (sym (book_cons g total t es q) ∙ e)
    by false q k = absurd (lacking_no_fit (sym (book_stop g total t es q) ∙ e))
fit_larger g g' total (gave_back ∷ es) h e = fit_larger g g' (lowered total) es h e

-- ---- the first that does not fit
-- the book stops there
pub book_short : (g : Amounts) (es before : List Event) (t : Taking) → FirstShort g es before t →
    book g nothing_yet es ≡ lacking t (total_of before)
unfolding on_fit
book_short g es before t h =
    ap (book g nothing_yet) h.stand ∙ book_append g nothing_yet before (taken t ∷ h.behind)
    ∙ rw h.before_fit (book_stop g (total_of before) t h.behind h.does_not_fit)

-- and takings behind change nothing
pub short_append : {g : Amounts} {es before : List Event} {t : Taking} (fs : List Event) → FirstShort g es before t →
    FirstShort g (es ++ fs) before t
short_append {g} {es} {before} {t} fs h = record {
  behind = h.behind ++ fs;
  stand = ap (λ (l : List Event). l ++ fs) h.stand ∙ append_assoc before (taken t ∷ h.behind) fs;
  before_fit = h.before_fit;
  does_not_fit = h.does_not_fit;
}
