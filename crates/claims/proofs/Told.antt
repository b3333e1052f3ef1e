-- What the out slice's length decides: whether a picture is drawn, or told by 80, and nothing else.
use Prim.Native.Nat.{ℕ, suc, ◌+◌, ◌≤◌, ◌<◌}
use mathlib.Core.Path.{◌≡◌, refl, ap, sym, ◌∙◌}
use mathlib.Core.Logic.{◌≢◌}
use mathlib.Core.Bool.{Bool, true, false, cond, true≢false}
use mathlib.Core.List.{List, [], ◌∷◌, ◌++◌, append-nil}
use native.Mathlib.Omega.{arith}
use lib.ListN.{length}
use lib.IntN.{ℤ}
use lib.Dec.{leb, eqb}
use borrow.Author.Tests.{lt-leb, le-leb, leb-true, leb-false}
use Rattle.meaning.specs.State.{State}
use Rattle.meaning.specs.Run.{Resource, steps, shapes, entries, text_bytes, calls, picture, Taking, Event, taken, gave_back, taking, End, result, error, unfinished, Run, run, go_on, ◌>>=◌, give}
use Rattle.meaning.specs.Run as Run
use Rattle.meaning.specs.Figure.{Figure}
use Rattle.meaning.specs.Picture.{picture_of}
use Rattle.meaning.specs.Program.{Operation, drawing, Outcome, drawn, empty, painting, performing, specified}
use Rattle.meaning.specs.Book.{Amounts, nothing_yet, resource_number, added, lowered, fits, all_fit, book}
use Rattle.meaning.specs.Book.{Answer, pictured, number, undecided, shortage_of, length_needed, answer_to, settled, booked}
use Rattle.meaning.specs.Call.{Call, Grants, admitted, granted, run_of, answer}
use Rattle.claims.specs.Claims.{errors, beginning_of, names_shortage, total_of, FirstShort, shortage_at}
use Rattle.claims.specs.Claims.{ComesTo, LengthIsTold, SameButOut, DrawnIsTold, ToldIsDrawn, NumbersStay}
use Rattle.meaning.proofs.BookLaws.{part, spent, spent_append, on_fit, book_append, book_cons}
use Rattle.claims.proofs.Booking.{steps_spent, picture_spent, all_fit_lem, Books, fit, short, books, short_append}
use Rattle.claims.proofs.Ends.{Ending, painting_lawful}
use Rattle.claims.proofs.Settling.{number_no_picture, result_finished, end_unnamed, booked_short, Complete, booked_complete}
use Rattle.claims.proofs.Answers.{answer_admitted, turns, beginnings_decide}
use Rattle.claims.proofs.Unrun.{behind}
use Rattle.claims.proofs.Pictures.{undecided_no_picture, showing}
use Rattle.claims.proofs.Alike.{beginning_is}

-- no picture is empty
picture_some : (width height : ℤ) (a : List Figure) → 0 < length (picture_of width height a)
unfolding picture_of
picture_some width height a = omega arith

-- ---- takings of which none is a picture
module _ (g : Grants) (out out' : List ℕ) where
  -- fit whatever the out slice
  fits_alike : (total : Amounts) (t : Taking) → total picture ≡ 0 → part picture t ≡ 0 → fits (granted g out) total t ≡ fits (granted g out') total t
  unfolding fits part granted resource_number
  fits_alike total t z = by t.of t.amount
    where
      by : (r : Resource) (n : ℕ) → cond (eqb (resource_number picture) (resource_number r)) n 0 ≡ 0 →
          leb (total r + n) (granted g out r) ≡ leb (total r + n) (granted g out' r)
      by steps n h = refl
      by shapes n h = refl
      by entries n h = refl
      by text_bytes n h = refl
      by calls n h = refl
      by picture n h = le-leb (total picture + n) (length out) (omega arith) ∙ sym (le-leb (total picture + n) (length out') (omega arith))

  book_alike : (total : Amounts) (ts : List Event) → total picture ≡ 0 → spent picture ts ≡ 0 → book (granted g out) total ts ≡ book (granted g out') total ts
  unfolding book spent added lowered part resource_number
  book_alike total [] z h = refl
  book_alike total (taken t ∷ ts) z h = rw (fits_alike total t z (omega arith), book_alike (added total t) ts (omega arith) (omega arith))
  book_alike total (gave_back ∷ ts) z h = book_alike (lowered total) ts (omega arith) h

-- and the one that lacks is not 80's
lacks_other : (g : Amounts) (before : List Event) (t : Taking) → spent picture before ≡ 0 → part picture t ≡ 0 → fits g (total_of before) t ≡ false →
    shortage_of t.of ≢ 80
unfolding fits part resource_number shortage_of
lacks_other g before t z = by t.of t.amount
  where
    by : (r : Resource) (n : ℕ) → cond (eqb (resource_number picture) (resource_number r)) n 0 ≡ 0 → leb (total_of before r + n) (g r) ≡ false → shortage_of r ≢ 80
    by steps n h f e = omega arith
    by shapes n h f e = omega arith
    by entries n h f e = omega arith
    by text_bytes n h f e = omega arith
    by calls n h f e = omega arith
    by picture n h f e = omega (arith, leb-false (total_of before picture + n) (g picture) f, picture_spent before)

-- ---- a picture taken last
module _ (g : Grants) (b : List ℕ) (s : State) (ts : List Event) (none : spent picture ts ≡ 0) (fitting : book (granted g []) nothing_yet ts ≡ all_fit (total_of ts))
    (out : List ℕ) where
  abbrev whole : Taking
  whole = record { of = picture; amount = length b; place = 0 }

  abbrev shown : Run Outcome
  shown = run (ts ++ (taken whole ∷ [])) (result (drawn b) s)

  -- the out slice bounds only the picture
  fit_there : book (granted g out) nothing_yet ts ≡ all_fit (total_of ts)
  fit_there = book_alike g out [] nothing_yet ts refl none ∙ fitting

  whole_fits : length b ≤ length out → fits (granted g out) (total_of ts) whole ≡ true
  unfolding fits granted
  whole_fits l = le-leb (total_of ts picture + length b) (length out) (omega (arith, picture_spent ts))

  shown_booked : length b ≤ length out → book (granted g out) nothing_yet (ts ++ (taken whole ∷ [])) ≡ all_fit (added (total_of ts) whole)
  unfolding on_fit book
  shown_booked l =
      book_append (granted g out) nothing_yet ts (taken whole ∷ [])
      ∙ rw fit_there (book_cons (granted g out) (total_of ts) whole [] (whole_fits l))

  shown_fit : length b ≤ length out → booked (granted g out) shown ≡ pictured (length b) (spent steps ts)
  unfolding booked settled answer_to added resource_number
  shown_fit l = rw (shown_booked l) (ap (pictured (length b)) (omega (arith, steps_spent ts)))

  shown_short : length out < length b → booked (granted g out) shown ≡ number 80 0 (spent steps ts) (length b)
  unfolding shortage_at shortage_of length_needed resource_number fits granted
  shown_short l =
      booked_short (granted g out) shown ts whole (record {
        behind = [];
        stand = refl;
        before_fit = fit_there;
        does_not_fit = lt-leb (total_of ts picture + length b) (length out) (omega (arith, picture_spent ts));
      })
      ∙ ap (λ (k : ℕ). number 80 0 k (length b)) (steps_spent ts)

-- ---- the two ways of a drawing's run
-- a picture of l bytes after n steps, where it fits and where not
by_room : Bool → ℕ → ℕ → Answer
by_room true l n = pictured l n
by_room false l n = number 80 0 n l

-- it comes to a picture, or with every out slice to one answer that is none of these two
data ByOut (g : Grants) (r : Run Outcome) : Type 0 where
  shows : (l n : ℕ) → 0 < l → ((out : List ℕ) → booked (granted g out) r ≡ by_room (leb l (length out)) l n) → ByOut g r
  stops : (a : Answer) → ((out : List ℕ) → booked (granted g out) r ≡ a) → ((l n : ℕ) → a ≢ pictured l n) → ((p n l : ℕ) → a ≢ number 80 p n l) → ByOut g r

undecided_no_number : {m p n l : ℕ} → undecided ≢ number m p n l
undecided_no_number e = let z : ◌≡◌ {A = ℕ} 0 1 = cc in omega arith

number_is : {m m' p p' n n' l l' : ℕ} → number m p n l ≡ number m' p' n' l' → m ≡ m'
number_is e = cc

module _ (g : Grants) (width height : ℤ) (k : ℕ) (ts : List Event) (none : spent picture ts ≡ 0) where
  alike : (out : List ℕ) → book (granted g out) nothing_yet ts ≡ book (granted g []) nothing_yet ts
  alike out = book_alike g out [] nothing_yet ts refl none

  -- a shortage within the painting
  module _ (before : List Event) (t : Taking) (h : FirstShort (granted g []) ts before t) where
    parts : spent picture before + part picture t ≡ 0
    unfolding spent
    parts = omega (arith, none, ap (spent picture) h.stand, spent_append picture before (taken t ∷ h.behind))

    short_in : (out : List ℕ) (e : End (List Figure)) → FirstShort (granted g out) (go_on ts e (showing width height)).takings before t
    short_in out e =
        let w = behind ts e (showing width height) in
        rw w.1 (short_append w.0 (record {
          behind = h.behind;
          stand = h.stand;
          before_fit = book_alike g out [] nothing_yet before refl (omega (arith, parts)) ∙ h.before_fit;
          does_not_fit = fits_alike g out [] (total_of before) t (omega (arith, parts, picture_spent before)) (omega (arith, parts)) ∙ h.does_not_fit;
        }))

    stops_short : (e : End (List Figure)) → ByOut g (go_on ts e (showing width height))
    unfolding shortage_at
    stops_short e = stops (shortage_at before t) (λ out. booked_short (granted g out) _ before t (short_in out e)) (λ l n. number_no_picture)
        (λ p n l q. lacks_other (granted g []) before t (omega (arith, parts)) (omega (arith, parts)) h.does_not_fit (number_is q))

  -- the end of one that fits
  shows_room : (a : List Figure) (s : State) → book (granted g []) nothing_yet ts ≡ all_fit (total_of ts) → (out : List ℕ) → (c : Bool) →
      leb (length (picture_of width height a)) (length out) ≡ c →
      booked (granted g out) (go_on ts (result a s) (showing width height)) ≡ by_room c (length (picture_of width height a)) (spent steps ts)
  unfolding go_on ◌>>=◌ Run.spend give by_room
  shows_room a s w out true e = shown_fit g (picture_of width height a) s ts none w out (leb-true _ _ e)
  shows_room a s w out false e = shown_short g (picture_of width height a) s ts none w out (leb-false _ _ e)

  by_end : (e : End (List Figure)) → Ending errors k ts e → book (granted g []) nothing_yet ts ≡ all_fit (total_of ts) →
      ByOut g (go_on ts e (showing width height))
  unfolding go_on booked settled answer_to names_shortage
  by_end (result a s) h b =
      shows (length (picture_of width height a)) (spent steps ts) (picture_some width height a) (λ out. shows_room a s b out _ refl)
  by_end (error m p) h b =
      stops (number m p (total_of ts steps) 0) (λ out. rw (alike out, b)) (λ l n. number_no_picture)
      (λ q n l e. true≢false (sym (ap names_shortage e) ∙ end_unnamed (total_of ts steps) k ts (error m p) h))
  by_end unfinished h b = stops undecided (λ out. rw (alike out, b)) (λ l n. undecided_no_picture) (λ p n l. undecided_no_number)

  by_books : (e : End (List Figure)) → Ending errors k ts e → Books (granted g []) nothing_yet ts → ByOut g (go_on ts e (showing width height))
  by_books e h (fit b w) = by_end e h b
  by_books e h (short before t after s b f) = stops_short before t (record { behind = after; stand = s; before_fit = b; does_not_fit = f }) e

-- ---- calls
abbrev drawing_run : Call → Run Outcome
drawing_run c = specified drawing c.program c.width c.height (suc c.grants.steps)

by_out : (c : Call) → ByOut c.grants (drawing_run c)
unfolding specified performing ◌>>=◌
by_out c =
    let h = painting_lawful c.program c.width c.height in
    let r = painting c.program c.width c.height (suc c.grants.steps) empty in
    by_books c.grants c.width c.height _ r.takings (h.plain empty) r.end (h.ended empty) (books (granted c.grants []) nothing_yet r.takings (λ x. omega arith))

module _ (c d : Call) (o : c.operation ≡ drawing) (s : SameButOut c d) where
  first_is : answer c ≡ booked (granted c.grants c.out) (drawing_run c)
  unfolding run_of
  first_is = answer_admitted c s.first ∙ rw o

  second_is : answer d ≡ booked (granted c.grants d.out) (drawing_run c)
  unfolding run_of
  second_is = answer_admitted d s.second ∙ cc

room_pictured : (b : Bool) (l n : ℕ) {l' n' : ℕ} → by_room b l n ≡ pictured l' n' → (l ≡ l') × (n ≡ n')
unfolding by_room
room_pictured true l n e = (cc, cc)
room_pictured false l n e = absurd (number_no_picture e)

room_told : (b : Bool) (l n : ℕ) {p l' n' : ℕ} → by_room b l n ≡ number 80 p n' l' → (p ≡ 0) × (l ≡ l') × (n ≡ n')
unfolding by_room
room_told true l n e = absurd (number_no_picture (sym e))
room_told false l n e = (cc, cc, cc)

room_other : (b : Bool) (l n : ℕ) {m p l' n' : ℕ} → by_room b l n ≡ number m p n' l' → m ≢ 80 → ⊥
unfolding by_room
room_other true l n e h = number_no_picture (sym e)
room_other false l n e h = h (sym (number_is e))

-- THE CLAIMS
pub drawn_is_told : DrawnIsTold
unfolding by_room
drawn_is_told c d o s l n h = by (by_out c)
  where
    by : ByOut c.grants (drawing_run c) → (d.out ≡ [] → answer d ≡ number 80 0 n l) × (length d.out < l → answer d ≡ number 80 0 n l)
    by (shows l' n' some f) =
        let q = room_pictured (leb l' (length c.out)) l' n' (sym (f c.out) ∙ sym (first_is c d o s) ∙ h) in
        let told : length d.out < l' → answer d ≡ number 80 0 n l = λ w. second_is c d o s ∙ f d.out ∙ rw (lt-leb l' (length d.out) w, q.0, q.1) in
        (λ e. told (rw e some), λ w. told (rw q.0 w))
    by (stops a f x y) = absurd (x l n (sym (f c.out) ∙ sym (first_is c d o s) ∙ h))

pub told_is_drawn : ToldIsDrawn
unfolding by_room
told_is_drawn c d o s p n l h = by (by_out c)
  where
    by : ByOut c.grants (drawing_run c) → (p ≡ 0) × (l ≤ length d.out → answer d ≡ pictured l n)
    by (shows l' n' some f) =
        let q = room_told (leb l' (length c.out)) l' n' (sym (f c.out) ∙ sym (first_is c d o s) ∙ h) in
        (q.0, λ w. second_is c d o s ∙ f d.out ∙ rw (q.1, q.2, le-leb l (length d.out) w))
    by (stops a f x y) = absurd (y p n l (sym (f c.out) ∙ sym (first_is c d o s) ∙ h))

pub numbers_stay : NumbersStay
numbers_stay c d o s m p n l other h = by (by_out c)
  where
    by : ByOut c.grants (drawing_run c) → answer d ≡ number m p n l
    by (shows l' n' some f) = absurd (room_other (leb l' (length c.out)) l' n' (sym (f c.out) ∙ sym (first_is c d o s) ∙ h) other)
    by (stops a f x y) = second_is c d o s ∙ f d.out ∙ sym (f c.out) ∙ sym (first_is c d o s) ∙ h

-- ---- from a beginning
-- a run of drawing that comes to a picture takes its length
error_no_result : {A : Type 0} {m p : ℕ} {a : A} {s : State} → error m p ≢ result a s
error_no_result e = let z : ◌≡◌ {A = ℕ} 0 1 = cc in omega arith

unfinished_no_result : {A : Type 0} {a : A} {s : State} → unfinished ≢ result a s
unfinished_no_result e = let z : ◌≡◌ {A = ℕ} 0 1 = cc in omega arith

takes_by : (width height : ℤ) (ts : List Event) (e : End (List Figure)) {b : List ℕ} {s : State} → spent picture ts ≡ 0 →
    (go_on ts e (showing width height)).end ≡ result (drawn b) s → spent picture (go_on ts e (showing width height)).takings ≡ length b
unfolding go_on ◌>>=◌ Run.spend give spent part resource_number
takes_by width height ts (result a s') {b} h q =
    let z : picture_of width height a ≡ b = cc in
    omega (arith, ap length z, spent_append picture ts (taking picture (length (picture_of width height a)) 0 ∷ []))
takes_by width height ts (error m p) h q = absurd (error_no_result q)
takes_by width height ts unfinished h q = absurd (unfinished_no_result q)

takes_picture : (o : Operation) (program : List ℕ) (width height : ℤ) (k : ℕ) {b : List ℕ} {s : State} → o ≡ drawing →
    (specified o program width height k).end ≡ result (drawn b) s → spent picture (specified o program width height k).takings ≡ length b
unfolding specified performing ◌>>=◌
takes_picture o program width height k e =
    let r = painting program width height k empty in
    rw e (takes_by width height r.takings r.end ((painting_lawful program width height).plain empty))

-- the same call with room for b
abbrev roomy : Call → List ℕ → Call
roomy c b = record { operation = c.operation; program = c.program; width = c.width; height = c.height; grants = c.grants; lent = c.lent; out = b }

apart : (r : Resource) → resource_number r ≢ 4 → r ≢ picture
unfolding resource_number
apart r h e = h (ap resource_number e)

pictured_decided : {l n : ℕ} → pictured l n ≢ undecided
pictured_decided e = undecided_no_picture (sym e)

module _ (c : Call) (o : c.operation ≡ drawing) (a : admitted c ≡ true) (n : ℕ) (b : List ℕ) (h : ComesTo c n b) where
  ended : (beginning_of c n).end ≢ unfinished
  ended u = result_finished (sym h.ends ∙ u)

  takes : spent picture (beginning_of c n).takings ≡ length b
  takes =
      let e = beginning_is c n ended in
      rw e (takes_picture c.operation c.program c.width c.height (turns c n) o (ap (λ (r : Run Outcome). r.end) (sym e) ∙ h.ends))

  within : (before behind : List Event) → (beginning_of c n).takings ≡ before ++ behind → (x : Resource) → total_of before x ≤ granted c.grants b x
  unfolding granted resource_number
  within before behind e steps = h.fit before behind e steps (apart steps (λ z. omega arith))
  within before behind e shapes = h.fit before behind e shapes (apart shapes (λ z. omega arith))
  within before behind e entries = h.fit before behind e entries (apart entries (λ z. omega arith))
  within before behind e text_bytes = h.fit before behind e text_bytes (apart text_bytes (λ z. omega arith))
  within before behind e calls = h.fit before behind e calls (apart calls (λ z. omega arith))
  within before behind e picture = omega (arith, takes, picture_spent before, ap (spent picture) e, spent_append picture before behind)

  all_there : Complete (granted c.grants b) (beginning_of c n)
  all_there = record {
    booking = all_fit_lem (granted c.grants b) nothing_yet (beginning_of c n).takings within;
    within = within (beginning_of c n).takings [] (sym (append-nil (beginning_of c n).takings));
    finished = ended;
  }

  drawn_there : answer (roomy c b) ≡ pictured (length b) (total_of (beginning_of c n).takings steps)
  unfolding answer_to admitted
  drawn_there =
      let e : booked (granted c.grants b) (beginning_of c n) ≡ pictured (length b) (total_of (beginning_of c n).takings steps) =
      booked_complete (granted c.grants b) (beginning_of c n) all_there
      ∙ ap (λ (x : End Outcome). answer_to x (total_of (beginning_of c n).takings steps)) h.ends in
      sym ((beginnings_decide (roomy c b) a).0 n (rw e pictured_decided)) ∙ e

-- THE CLAIM
pub length_is_told : LengthIsTold
unfolding admitted
length_is_told c o a e n b h =
    (drawn_is_told (roomy c b) c o (record { operation = refl; program = refl; width = refl; height = refl; grants = refl; first = a; second = a })
    (length b) (total_of (beginning_of c n).takings steps) (drawn_there c o a n b h)).0 e
