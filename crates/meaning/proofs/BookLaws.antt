-- Laws of the book: what takings take of each resource, and the book of one list and then another.
use Prim.Native.Nat.{ℕ, zero, suc, ◌+◌}
use mathlib.Core.Path.{◌≡◌, refl, ap, sym, ◌∙◌}
use mathlib.Core.Bool.{Bool, true, false, cond}
use mathlib.Core.List.{List, [], ◌∷◌, ◌++◌}
use native.Mathlib.Omega.{arith}
use lib.Dec.{eqb}
use borrow.Author.Tests.{eq-eqb}
use Rattle.meaning.specs.Basics.{if◌then◌otherwise◌}
use Rattle.meaning.specs.Run.{Resource, steps, shapes, entries, text_bytes, calls, picture, Taking, Event, taken, gave_back}
use Rattle.meaning.specs.Book.{Amounts, resource_number, added, lowered, fits, Booked, all_fit, lacking, book}

-- ---- amounts
-- how much of a resource a taking takes, and how much some events take, what is given back left out
unfoldable pub part : Resource → Taking → ℕ
part r t = cond (eqb (resource_number r) (resource_number t.of)) t.amount 0

unfoldable pub spent : Resource → List Event → ℕ
spent r [] = 0
spent r (taken t ∷ es) = part r t + spent r es
spent r (gave_back ∷ es) = spent r es

pub spent_append : (r : Resource) (es fs : List Event) → spent r (es ++ fs) ≡ spent r es + spent r fs
unfolding spent
spent_append r [] fs = omega arith
spent_append r (taken t ∷ es) fs = rw (spent_append r es fs) (omega arith)
spent_append r (gave_back ∷ es) fs = spent_append r es fs

-- a taking takes its amount of its resource
pub part_own : (t : Taking) → part t.of t ≡ t.amount
unfolding part
part_own t = rw (eq-eqb (resource_number t.of) (resource_number t.of) refl)

resource_at : ℕ → Resource
resource_at zero = steps
resource_at (suc zero) = shapes
resource_at (suc (suc zero)) = entries
resource_at (suc (suc (suc zero))) = text_bytes
resource_at (suc (suc (suc (suc zero)))) = picture
resource_at (suc (suc (suc (suc (suc n))))) = calls

at_number : (r : Resource) → resource_at (resource_number r) ≡ r
unfolding resource_at resource_number
at_number steps = refl
at_number shapes = refl
at_number entries = refl
at_number text_bytes = refl
at_number picture = refl
at_number calls = refl

-- resources with one number are one
pub same_resource : (r q : Resource) → resource_number r ≡ resource_number q → r ≡ q
same_resource r q e = sym (at_number r) ∙ ap resource_at e ∙ at_number q

-- ---- the book of one list and then another
unfoldable pub on_fit : Booked → (Amounts → Booked) → Booked
on_fit (all_fit total) k = k total
on_fit (lacking t total) k = lacking t total

if_fit : (b : Bool) (x y : Unit {0} → Booked) (k : Amounts → Booked) →
    on_fit (if b then x otherwise y) k ≡ if b then (λ _. on_fit (x tt) k) otherwise λ _. on_fit (y tt) k
unfolding if◌then◌otherwise◌
if_fit true x y k = refl
if_fit false x y k = refl

pub book_append : (g total : Amounts) (es fs : List Event) →
    book g total (es ++ fs) ≡ on_fit (book g total es) (λ total'. book g total' fs)
unfolding book on_fit
book_append g total [] fs = refl
book_append g total (taken t ∷ es) fs = rw (book_append g (added total t) es fs) (sym (if_fit (fits g total t) _ _ _))
book_append g total (gave_back ∷ es) fs = book_append g (lowered total) es fs

-- one taking: it fits and the book goes on, or it stops
pub book_cons : (g total : Amounts) (t : Taking) (es : List Event) → fits g total t ≡ true →
    book g total (taken t ∷ es) ≡ book g (added total t) es
unfolding book if◌then◌otherwise◌
book_cons g total t es e = rw e

pub book_stop : (g total : Amounts) (t : Taking) (es : List Event) → fits g total t ≡ false → book g total (taken t ∷ es) ≡ lacking t total
unfolding book if◌then◌otherwise◌
book_stop g total t es e = rw e
