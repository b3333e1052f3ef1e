-- Each demand, proved from what the operations promise and what is claimed of the definitions.
use Prim.Native.Nat.{ℕ, suc, ◌≤◌, ◌<◌}
use native.Mathlib.Omega.{arith}
use mathlib.Core.Path.{◌≡◌, refl, ap, sym, ◌∙◌}
use mathlib.Core.Logic.{◌≢◌}
use mathlib.Core.Bool.{Bool, true, false, ◌&&◌, ◌||◌}
use mathlib.Core.List.{List, [], ◌∷◌}
use lib.ListN.{length, take}
use lib.IntN.{ℤ, pos}
use lib.Signed.{lt_z}
use lib.Dec.{ltb, eqb}
use borrow.Author.Tests.{ltb-true, ltb-false, lt-ltb, le-ltb}
use Rattle.meaning.specs.Basics.{if◌then◌otherwise◌, laid_over, stands_in}
use Rattle.meaning.specs.Grammar.{Reading, well_formed, malformed, reading}
use Rattle.meaning.specs.State.{State}
use Rattle.meaning.specs.Run.{steps, picture, Taking, Event, End, result, error, unfinished, Run, run, go_on, ◌>>=◌, give, fail, refuse}
use Rattle.meaning.specs.Run as Run
use Rattle.meaning.specs.Figure.{Figure}
use Rattle.meaning.specs.Picture.{picture_of}
use Rattle.meaning.specs.Program.{Operation, checking, drawing, accepted, empty, sheet, sized, understood, painting, performing, specified}
use Rattle.meaning.specs.Program as Program
use Rattle.meaning.specs.Book.{Amounts, Booked, all_fit, Answer, pictured, number, undecided, nothing_yet, book, settled, answer_to, booked}
use Rattle.meaning.specs.Call.{Call, admitted, granted_to, run_of, answer, work_after, out_after_end, out_after}
use Rattle.claims.specs.Claims.{among, reading_errors, total_of, shortage_at}
use Rattle.claims.proofs.Settling.{Complete, Settles, complete, stopped, booked_short, booked_complete}
use Rattle.claims.proofs.Answers.{answer_admitted, out_admitted, run_settles}
use Rattle.claims.proofs.Claimed as Claimed
use Rattle.answers.specs.declared.Answer as Declared
use Rattle.answers.specs.declared.Answer.TheVariants.{Picture, Number}
use Rattle.answers.specs.Answers.{meant}
use Rattle.checking.specs.Checking as Checking
use Rattle.lending.specs.Lending.{called}
use Rattle.demands.specs.Demands.{Returned, checked, drawn, Proper, Ends, in_picture, in_error, in_shortage, Other, not_lent, no_sheet}
use Rattle.demands.specs.Demands.{too_long, unreadable, Either, proper, other, Numbered, Demand1, Demand2, LengthAlone, Demand3, WorkSlices, NotEmpty}

-- ---- demand 2
-- an operation without an out slice leaves none
no_out : (b : Bool) (c : Call) → c.out ≡ [] → c.operation ≢ drawing
    → (if b then (λ _. out_after_end c.operation (book (granted_to c) nothing_yet (run_of c).takings) (run_of c).end c.out) otherwise λ _. c.out) ≡ []
unfolding if◌then◌otherwise◌ out_after_end
no_out true c e n = by c.operation n ∙ e
  where
    by : (o : Operation) → o ≢ drawing → out_after_end o (book (granted_to c) nothing_yet (run_of c).takings) (run_of c).end c.out ≡ c.out
    by checking n = refl
    by drawing n = absurd (n refl)
no_out false c e n = e

apart : {A : Type 0} → checking ≡ drawing → A
apart e = let z : ◌≡◌ {A = ℕ} 0 1 = cc in absurd (omega arith)

pub demand_2 : Demand2
unfolding out_after
demand_2 c a work work' out' (checked r h) = (h.answered, sym (no_out (admitted c) c refl apart))
demand_2 c a work work' out' (drawn g r h e) = (h.answered, e)

pub work_slices : WorkSlices
work_slices c a work work' out' (checked r h) = cc
work_slices c a work work' out' (drawn g r h e) = cc

-- ---- demand 1: what is proper and what is not
is_either : (c : Call) → Either c
is_either c = by_first (admitted c) refl
  where
    by_reading : admitted c ≡ true → lt_z (pos 0) c.width && lt_z (pos 0) c.height ≡ true → length c.program ≤ 32768 → (r : Reading) → reading c.program ≡ r → Either c
    by_reading a s l (well_formed m) e = proper (record { first = a; sheet = s; limit = l; tree = m; grammar = e })
    by_reading a s l (malformed m p) e = other m p (unreadable a s l m p e)

    by_length : admitted c ≡ true → lt_z (pos 0) c.width && lt_z (pos 0) c.height ≡ true → (b : Bool) → ltb 32768 (length c.program) ≡ b → Either c
    by_length a s true e = other 73 0 (too_long a s (ltb-true _ _ e))
    by_length a s false e = by_reading a s (ltb-false _ _ e) (reading c.program) refl

    by_sheet : admitted c ≡ true → (b : Bool) → lt_z (pos 0) c.width && lt_z (pos 0) c.height ≡ b → Either c
    by_sheet a true e = by_length a e (ltb 32768 (length c.program)) refl
    by_sheet a false e = other 72 0 (no_sheet a e)

    by_first : (b : Bool) → admitted c ≡ b → Either c
    by_first true e = by_sheet e (lt_z (pos 0) c.width && lt_z (pos 0) c.height) refl
    by_first false e = other 71 0 (not_lent e)

-- ---- a run ends
-- no run of drawing is only accepted
accepts_not : {b : List ℕ} {s s' : State} {A : Type 0} → result (Program.drawn b) s ≡ result accepted s' → A
accepts_not e = let z : ◌≡◌ {A = ℕ} 0 1 = cc in absurd (omega arith)

error_not : {m p : ℕ} {s : State} {A : Type 0} → error m p ≡ result accepted s → A
error_not e = let z : ◌≡◌ {A = ℕ} 0 1 = cc in absurd (omega arith)

unfinished_not : {s : State} {A : Type 0} → unfinished ≡ result accepted s → A
unfinished_not e = let z : ◌≡◌ {A = ℕ} 0 1 = cc in absurd (omega arith)

module _ (program : List ℕ) (width height : ℤ) (n : ℕ) (s : State) where
  draws_none : (us : List Event) (e : End (List Figure))
      → (go_on us e (λ a. Run.spend picture (length (picture_of width height a)) 0 >>= λ _. give (Program.drawn (picture_of width height a)))).end ≡ result accepted s → ⊥
  unfolding go_on give Run.spend ◌>>=◌
  draws_none us (result b s') q = accepts_not q
  draws_none us (error m p) q = error_not q
  draws_none us unfinished q = unfinished_not q

  accepts_none : (o : Operation) → o ≢ checking → (specified o program width height n).end ≡ result accepted s → ⊥
  unfolding specified performing ◌>>=◌
  accepts_none checking h q = h refl
  accepts_none drawing h q = draws_none (painting program width height n empty).takings (painting program width height n empty).end q

-- what drawing leaves of a picture
laid_picture : {o : Operation} {x : Booked} {e : End Program.Outcome} {total : Amounts} {b : List ℕ} {s : State} (out : List ℕ)
    → o ≡ drawing → x ≡ all_fit total → e ≡ result (Program.drawn b) s → out_after_end o x e out ≡ laid_over b out
unfolding out_after_end
laid_picture out p q r = rw (p, q, r)

module _ (c : Call) (a : Answer) {work work' : List (List ℕ)} (out' : List ℕ) (h : Returned c a work work' out') (runs : c.operation ≢ checking) where
  is_answer : a ≡ answer c
  is_answer = (demand_2 c a _ _ out' h).0

  -- after a number the out slice is as it was
  out_kept : {m p n l : ℕ} → a ≡ number m p n l → out' ≡ c.out
  out_kept {m} {p} {n} {l} e = (demand_2 c a _ _ out' h).1 ∙ Claimed.numbers_write_nothing c m p n l (sym is_answer ∙ e)

  module _ (q : Proper c) where
    is_booked : a ≡ booked (granted_to c) (run_of c)
    is_booked = is_answer ∙ answer_admitted c q.first

    by_end : Complete (granted_to c) (run_of c) → (e : End Program.Outcome) → (run_of c).end ≡ e → Ends c a out'
    unfolding answer_to run_of
    by_end k (result accepted s) e = absurd (accepts_none c.program c.width c.height _ s c.operation runs e)
    by_end k (result (Program.drawn b) s) e =
        let d : a ≡ pictured (length b) (total_of (run_of c).takings steps) =
        is_booked ∙ booked_complete (granted_to c) (run_of c) k ∙ ap (λ (x : End Program.Outcome). answer_to x (total_of (run_of c).takings steps)) e in
        in_picture b s e d
        (λ o. ((Claimed.pictures_fill_the_front c _ _ o (sym is_answer ∙ d)).4, (demand_2 c a _ _ out' h).1 ∙ out_admitted c q.first ∙ laid_picture c.out o k.booking e))
    by_end k (error m p) e =
        let d : a ≡ number m p (total_of (run_of c).takings steps) 0 =
        is_booked ∙ booked_complete (granted_to c) (run_of c) k ∙ ap (λ (x : End Program.Outcome). answer_to x (total_of (run_of c).takings steps)) e in
        in_error m p (Claimed.language_errors_lem c.operation c.program c.width c.height q.tree _ m p q.grammar q.limit q.sheet e) e d (out_kept d)
    by_end k unfinished e = absurd (k.finished e)

    ends_by : Settles (granted_to c) (run_of c) → Ends c a out'
    unfolding shortage_at
    ends_by (complete k) = by_end k (run_of c).end refl
    ends_by (stopped before t s) =
        let d : a ≡ shortage_at before t = is_booked ∙ booked_short (granted_to c) (run_of c) before t s in
        in_shortage before t s d (out_kept d)

    ends : Ends c a out'
    ends = ends_by (run_settles c)

-- ---- all other input
module _ (c : Call) (n : ℕ) where
  abbrev painted : Run (List Figure)
  painted = painting c.program c.width c.height n empty

  -- a painting that is refused is a number at once
  at_once : (m p : ℕ) → painted ≡ run [] (error m p) → (o : Operation) → o ≢ checking → specified o c.program c.width c.height n ≡ run [] (error m p)
  unfolding specified performing ◌>>=◌ go_on
  at_once m p e checking h = absurd (h refl)
  at_once m p e drawing h = rw e

  sheet_refused : lt_z (pos 0) c.width && lt_z (pos 0) c.height ≡ false → painted ≡ run [] (error 72 0)
  unfolding painting sheet ◌>>=◌ go_on refuse fail
  sheet_refused e = rw e

  module _ (s : lt_z (pos 0) c.width && lt_z (pos 0) c.height ≡ true) where
    length_refused : 32768 < length c.program → painted ≡ run [] (error 73 0)
    unfolding painting sheet sized ◌>>=◌ go_on refuse fail give
    length_refused l = rw (s, lt-ltb 32768 _ l)

    reading_refused : length c.program ≤ 32768 → (m p : ℕ) → reading c.program ≡ malformed m p → painted ≡ run [] (error m p)
    unfolding painting sheet sized understood ◌>>=◌ go_on refuse fail give
    reading_refused l m p e = rw (s, le-ltb 32768 (length c.program) l, e)

known_later : (m : ℕ) → among reading_errors m → among (71 ∷ 72 ∷ 73 ∷ reading_errors) m
unfolding stands_in
known_later m h = or_later (eqb m 71) _ (or_later (eqb m 72) _ (or_later (eqb m 73) _ h))
  where
    or_later : (a b : Bool) → b ≡ true → a || b ≡ true
    or_later true b e = refl
    or_later false b e = e

module _ (c : Call) (a : Answer) {work work' : List (List ℕ)} (out' : List ℕ) (h : Returned c a work work' out') (runs : c.operation ≢ checking) where
  numbered : (m p : ℕ) → among (71 ∷ 72 ∷ 73 ∷ reading_errors) m → answer c ≡ number m p 0 0 → Numbered c a out' m p
  numbered m p k e =
      let d : a ≡ number m p 0 0 = is_answer c a out' h runs ∙ e in
      record { answered = d; known = k; kept = out_kept c a out' h runs d }

  by_painting : (m p : ℕ) → admitted c ≡ true → among (71 ∷ 72 ∷ 73 ∷ reading_errors) m → painted c (suc c.grants.steps) ≡ run [] (error m p) → Numbered c a out' m p
  unfolding run_of booked book settled answer_to
  by_painting m p f k e = numbered m p k (answer_admitted c f ∙ ap (booked (granted_to c)) (at_once c (suc c.grants.steps) m p e c.operation runs))

  refuses : (m p : ℕ) → Other c m p → Numbered c a out' m p
  unfolding answer if◌then◌otherwise◌ stands_in
  refuses m p (not_lent e) = numbered 71 0 refl (rw e)
  refuses m p (no_sheet f e) = by_painting 72 0 f refl (sheet_refused c _ e)
  refuses m p (too_long f s l) = by_painting 73 0 f refl (length_refused c _ s l)
  refuses m p (unreadable f s l k i e) = by_painting k i f (known_later k (Claimed.reading_errors_lem c.program k i e)) (reading_refused c _ s l k i e)

pub demand_1 : Demand1
demand_1 = record {
  either = is_either;
  runs = λ c a work work' out' h n q. ends c a out' h n q;
  refuses = λ c a work work' out' h n m p o. refuses c a out' h n m p o;
}

-- ---- an out slice of length 0
pub length_alone : LengthAlone
length_alone = record {
  told = λ c a work work' out' h o f e n b k. (demand_2 c a _ _ out' h).0 ∙ Claimed.length_is_told c o f e n b k;
  same = λ c d a b v v' w w' out' out'' h k o s e l n q.
      (demand_2 d b _ _ out'' k).0 ∙ (Claimed.drawn_is_told c d o s l n (sym (demand_2 c a _ _ out' h).0 ∙ q)).0 e;
  enough = λ c d a b v v' w w' out' out'' h k o s p n l q.
      let z = Claimed.told_is_drawn c d o s p n l (sym (demand_2 c a _ _ out' h).0 ∙ q) in
      (z.0, λ i. (demand_2 d b _ _ out'' k).0 ∙ z.1 i);
  others = λ c d a b v v' w w' out' out'' h k o s m p n l i q.
      (demand_2 d b _ _ out'' k).0 ∙ Claimed.numbers_stay c d o s m p n l i (sym (demand_2 c a _ _ out' h).0 ∙ q);
}

-- ---- demand 3
pub demand_3 : Demand3
demand_3 = record {
  larger = λ c d a b v v' w w' out' out'' h k f g l n.
      let x = demand_2 c a _ _ out' h in
      let y = demand_2 d b _ _ out'' k in
      let z = Claimed.larger_grant c d f g l (rw x.0 at n) in
      (y.0 ∙ z.0 ∙ sym x.0, λ i j o e. rw (y.1, x.1) (z.1 i j o (sym x.0 ∙ e)));
  exactly = λ c a work work' out' h f.
      let x = demand_2 c a _ _ out' h in
      let z = Claimed.shortage_exact c f in (
        λ n.
            let w = z.0 (rw x.0 at n) in
            (w.0, w.1, w.2, w.3, x.0 ∙ w.4),
        λ n before t s. x.0 ∙ z.1 n before t s,
      );
}

-- ---- no demand is empty
-- an answer that is meant is one that an operation can hand back
pub record Meant (a : Answer) : Type 0 where
  pub answer_is : Declared.Answer
  pub means : meant answer_is ≡ a

can_mean : (a : Answer) → a ≢ undecided → Meant a
unfolding meant
can_mean (pictured l n) h = record { answer_is = Picture l n; means = refl }
can_mean (number m p n l) h = record { answer_is = Number m p n l; means = refl }
can_mean undecided h = absurd (h refl)

pub not_empty : NotEmpty
not_empty = record {
  checking = λ program g tokens code.
      let c = Checking.called program g tokens code in
      let m = can_mean (answer c) (Claimed.always_answered c) in
      record {
        handed = meant m.answer_is;
        work = tokens ∷ code ∷ [];
        work' = work_after c tokens ∷ work_after c code ∷ [];
        out = [];
        returned = checked {g = g} {tokens = tokens} {code = code} {tokens' = work_after c tokens} {code' = work_after c code} m.answer_is
            (record { answered = m.means; tokens_after = refl; code_after = refl });
        is = m.means;
      };
  drawing = λ program width height g tokens code words texts out.
      let c = called drawing program width height g tokens code words texts out in
      let m = can_mean (answer c) (Claimed.always_answered c) in
      record {
        handed = meant m.answer_is;
        work = tokens ∷ code ∷ words ∷ texts ∷ [];
        work' = work_after c tokens ∷ work_after c code ∷ work_after c words ∷ work_after c texts ∷ [];
        out = out_after c;
        returned = drawn {tokens = tokens} {code = code} {words = words} {texts = texts}
            {tokens' = work_after c tokens} {code' = work_after c code} {words' = work_after c words} {texts' = work_after c texts} g m.answer_is
            (record { answered = m.means; tokens_after = refl; code_after = refl; words_after = refl; texts_after = refl }) refl;
        is = m.means;
      };
}
