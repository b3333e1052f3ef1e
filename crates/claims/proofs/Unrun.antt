-- What takes nothing: checking, and a program that is refused unrun. Every other program takes main's call and a step first.
use Prim.Native.Nat.{ℕ, suc}
use mathlib.Core.Path.{◌≡◌, refl, ap, sym, ◌∙◌}
use mathlib.Core.Logic.{◌≢◌}
use mathlib.Core.Bool.{Bool, true, false, not, ◌&&◌}
use mathlib.Core.List.{List, [], ◌∷◌, ◌++◌, append-nil}
use mathlib.Core.Option.{Option, none, some}
use native.Mathlib.Omega.{arith}
use lib.ListN.{length}
use lib.IntN.{ℤ, pos}
use lib.Signed.{lt_z}
use lib.Dec.{ltb}
use borrow.Author.Tests.{lt-ltb, ltb-true}
use Rattle.meaning.specs.Basics.{same_text}
use Rattle.meaning.specs.Tree.{Statement, declare, assign, update, when, while, foreach, return, block, act, Statements, only, first, Program}
use Rattle.meaning.specs.Grammar.{Reading, well_formed, malformed, reading}
use Rattle.meaning.specs.State.{State}
use Rattle.meaning.specs.Run.{steps, calls, Event, taking, End, result, error, unfinished, Run, run, Action, go_on, ◌>>=◌, give, fail, spend, refuse, become}
use Rattle.meaning.specs.Evaluate.{Invoke}
use Rattle.meaning.specs.Execute.{looping, execute, execute_all}
use Rattle.meaning.specs.Figure.{Figure}
use Rattle.meaning.specs.Procedure.{doubled, calling}
use Rattle.meaning.specs.Program.{Operation, checking, drawing, Outcome, empty, entering, sheet, sized, named_apart, understood, painting, performing, specified}
use Rattle.claims.specs.Claims.{CheckingTakesNothing, two_names, Unrun, no_sheet, too_long, unread, named_twice, unentered, UnrunTakesNothing, UnrunIsRefused, OthersTakeAStep}

-- ---- actions that take nothing
record Free {A : Type 0} (m : Action A) : Type 0 where
  free : (s : State) → (m s).takings ≡ []

module _ {A B : Type 0} where
  go_free : (ts : List Event) (e : End A) (k : A → Action B) → ts ≡ [] → ((a : A) → Free (k a)) → (go_on ts e k).takings ≡ []
  unfolding go_on
  go_free ts (result a s) k h f = rw (h, (f a).free s)
  go_free ts (error n p) k h f = h
  go_free ts unfinished k h f = h

  bind_free : {m : Action A} {k : A → Action B} → Free m → ((a : A) → Free (k a)) → Free (m >>= k)
  unfolding ◌>>=◌
  bind_free {m} {k} h f = record { free = λ s. go_free (m s).takings (m s).end k (h.free s) f }

give_free : {A : Type 0} (a : A) → Free (give a)
unfolding give
give_free a = record { free = λ s. refl }

fail_free : {A : Type 0} (n p : ℕ) → Free {A = A} (fail n p)
unfolding fail
fail_free n p = record { free = λ s. refl }

refuse_free : (b : Bool) (n p : ℕ) → Free (refuse b n p)
unfolding refuse
refuse_free true n p = fail_free n p
refuse_free false n p = give_free tt

apart_free : (o : Option ℕ) (tree : Program) → Free (named_apart o tree)
unfolding named_apart
apart_free none tree = give_free tree
apart_free (some p) tree = fail_free 60 p

understood_free : (r : Reading) → Free (understood r)
unfolding understood
understood_free (well_formed m) = apart_free (doubled [] m.procedures) m
understood_free (malformed n p) = fail_free n p

-- THE CLAIM
pub checking_takes_nothing : CheckingTakesNothing
unfolding specified performing sized
checking_takes_nothing program width height n =
    (bind_free (refuse_free _ 73 0) (λ _. bind_free (understood_free (reading program)) λ m. give_free _)).free empty

-- ---- a number at once, from any state
record Refused {A : Type 0} (m : Action A) : Type 0 where
  what : State → ℕ
  place : State → ℕ
  ends : (s : State) → m s ≡ run [] (error (what s) (place s))

fail_refused : {A : Type 0} (m p : ℕ) → Refused {A = A} (fail m p)
unfolding fail
fail_refused m p = record { what = λ s. m; place = λ s. p; ends = λ s. refl }

bind_refused : {A B : Type 0} {m : Action A} (k : A → Action B) → Refused m → Refused (m >>= k)
unfolding ◌>>=◌ go_on
bind_refused k h = record { what = h.what; place = h.place; ends = λ s. rw (h.ends s) }

-- a question before
refuse_refused : {A : Type 0} (b : Bool) (m p : ℕ) {k : Action A} → Refused k → Refused (refuse b m p >>= λ _. k)
unfolding refuse give fail ◌>>=◌ go_on
refuse_refused true m p h = record { what = λ s. m; place = λ s. p; ends = λ s. refl }
refuse_refused false m p h = record { what = h.what; place = h.place; ends = h.ends }

-- a question that is answered yes
refuse_yes : (b : Bool) (m p : ℕ) → b ≡ true → Refused (refuse b m p)
unfolding refuse
refuse_yes b m p e = rw e (fail_refused m p)

understood_refused : (r : Reading) (m p : ℕ) → r ≡ malformed m p → Refused (understood r)
unfolding understood
understood_refused r m p e = rw e (fail_refused m p)

-- what comes behind a program that was read
apart_then : {B : Type 0} (o : Option ℕ) (tree : Program) (k : Program → Action B) → Refused (k tree) → Refused (named_apart o tree >>= k)
unfolding named_apart give fail ◌>>=◌ go_on
apart_then none tree k h = record { what = h.what; place = h.place; ends = h.ends }
apart_then (some p) tree k h = record { what = λ s. 60; place = λ s. p; ends = λ s. refl }

understood_then : {B : Type 0} (r : Reading) (tree : Program) (k : Program → Action B) → r ≡ well_formed tree → Refused (k tree) → Refused (understood r >>= k)
unfolding understood
understood_then r tree k e h = rw e (apart_then (doubled [] tree.procedures) tree k h)

-- and a name that stands there twice
understood_twice : (r : Reading) (tree : Program) (p : ℕ) → r ≡ well_formed tree → doubled [] tree.procedures ≡ some p → Refused (understood r)
unfolding understood named_apart
understood_twice r tree p e d = rw (e, d) (fail_refused 60 p)

entering_refused : (xs : List (List ℕ)) (width height : ℤ) → two_names xs ≡ false → Refused (entering xs width height)
unfolding entering two_names
entering_refused [] width height e = fail_refused 20 0
entering_refused (x ∷ []) width height e = fail_refused 20 0
entering_refused (x ∷ y ∷ []) width height e = bind_refused _ (refuse_yes (same_text x y) 60 0 (turned (same_text x y) e))
  where
    turned : (b : Bool) → not b ≡ false → b ≡ true
    turned true h = refl
    turned false h = sym h
entering_refused (x ∷ y ∷ z ∷ more) width height e = fail_refused 20 0

module _ (program : List ℕ) (width height : ℤ) (n : ℕ) where
  painting_refused : Unrun program width height → Refused (painting program width height n)
  unfolding painting sheet sized
  painting_refused (no_sheet e) = bind_refused _ (refuse_yes _ 72 0 (ap not e))
  painting_refused (too_long l) = refuse_refused _ 72 0 (bind_refused _ (refuse_yes _ 73 0 (lt-ltb 32768 (length program) l)))
  painting_refused (unread m p e) = refuse_refused _ 72 0 (refuse_refused _ 73 0 (bind_refused _ (understood_refused (reading program) m p e)))
  painting_refused (named_twice tree p e d) =
      refuse_refused _ 72 0 (refuse_refused _ 73 0 (bind_refused _ (understood_twice (reading program) tree p e d)))
  painting_refused (unentered tree e d) =
      refuse_refused _ 72 0 (refuse_refused _ 73 0 (understood_then (reading program) tree _ e (bind_refused _ (entering_refused tree.main.parameters width height d))))

  painted_refused : (o : Operation) → o ≢ checking → Unrun program width height → Refused (performing o program width height n)
  unfolding performing
  painted_refused checking d h = absurd (d refl)
  painted_refused drawing d h = bind_refused _ (painting_refused h)

-- THE CLAIMS
pub unrun_is_refused : UnrunIsRefused
unfolding specified
unrun_is_refused o program width height n d h =
    let r = painted_refused program width height n o d h in
    (r.what empty, r.place empty, r.ends empty)

drawing_runs : drawing ≢ checking
drawing_runs e = let z : ◌≡◌ {A = ℕ} 0 1 = cc in omega arith

pub unrun_takes_nothing : UnrunTakesNothing
unrun_takes_nothing checking program width height n h = checking_takes_nothing program width height n
unrun_takes_nothing drawing program width height n h =
    ap (λ (r : Run Outcome). r.takings) (unrun_is_refused drawing program width height n drawing_runs h).2

-- ---- a step first
-- an action's first taking, from any state
record Steps {A : Type 0} (m : Action A) : Type 0 where
  where_to : State → ℕ
  rest : State → List Event
  begins : (s : State) → (m s).takings ≡ taking steps 1 (where_to s) ∷ rest s

module _ {A B : Type 0} where
  pub behind : (ts : List Event) (e : End A) (k : A → Action B) → (more : List Event) × ((go_on ts e k).takings ≡ ts ++ more)
  unfolding go_on
  behind ts (result a s) k = ((k a s).takings, refl)
  behind ts (error n p) k = ([], sym (append-nil ts))
  behind ts unfinished k = ([], sym (append-nil ts))

  bind_steps : {m : Action A} (k : A → Action B) → Steps m → Steps (m >>= k)
  unfolding ◌>>=◌
  bind_steps {m} k h = record {
    where_to = h.where_to;
    rest = λ s. h.rest s ++ (behind (m s).takings (m s).end k).0;
    begins = λ s. (behind (m s).takings (m s).end k).1 ∙ ap (λ (ts : List Event). ts ++ (behind (m s).takings (m s).end k).0) (h.begins s);
  }

count_steps : (p : ℕ) → Steps (spend steps 1 p)
unfolding spend
count_steps p = record { where_to = λ s. p; rest = λ s. []; begins = λ s. refl }

execute_steps : (invoke : Invoke) (s : Statement) (n : ℕ) → Steps (execute invoke s (suc n))
unfolding execute looping
execute_steps invoke (declare p x) n = bind_steps _ (count_steps p)
execute_steps invoke (assign p x e) n = bind_steps _ (count_steps p)
execute_steps invoke (update p a b e) n = bind_steps _ (count_steps p)
execute_steps invoke (when p e s) n = bind_steps _ (count_steps p)
execute_steps invoke (while p e s) n = bind_steps _ (count_steps p)
execute_steps invoke (foreach p x e t) n = bind_steps _ (count_steps p)
execute_steps invoke (return p e) n = bind_steps _ (count_steps p)
execute_steps invoke (block p ss) n = bind_steps _ (count_steps p)
execute_steps invoke (act p e) n = bind_steps _ (count_steps p)

body_steps : (invoke : Invoke) (ss : Statements) (n : ℕ) → Steps (execute_all invoke ss (suc n))
unfolding execute_all
body_steps invoke (only s) n = execute_steps invoke s n
body_steps invoke (first s ss) n = bind_steps _ (execute_steps invoke s n)

-- main's call first
record Enters {A : Type 0} (m : Action A) : Type 0 where
  where_to : State → ℕ
  rest : State → List Event
  begins : (s : State) → (m s).takings ≡ taking calls 1 0 ∷ taking steps 1 (where_to s) ∷ rest s

bind_enters : {A B : Type 0} {m : Action A} (k : A → Action B) → Enters m → Enters (m >>= k)
unfolding ◌>>=◌
bind_enters {m = m} k h = record {
  where_to = h.where_to;
  rest = λ s. h.rest s ++ (behind (m s).takings (m s).end k).0;
  begins = λ s. (behind (m s).takings (m s).end k).1 ∙ ap (λ (ts : List Event). ts ++ (behind (m s).takings (m s).end k).0) (h.begins s);
}

-- a question that is answered no, and what follows
refuse_no : {A : Type 0} (b : Bool) (m p : ℕ) {k : Action A} → b ≡ false → Enters k → Enters (refuse b m p >>= λ _. k)
unfolding refuse give ◌>>=◌ go_on
refuse_no b m p e h = rw e (record { where_to = h.where_to; rest = h.rest; begins = h.begins })

module _ (program : List ℕ) (width height : ℤ) (n : ℕ) (runs : Unrun program width height → ⊥) where
  a_sheet : (b : Bool) → lt_z (pos 0) width && lt_z (pos 0) height ≡ b → not b ≡ false
  a_sheet true e = refl
  a_sheet false e = absurd (runs (no_sheet e))

  short : (b : Bool) → ltb 32768 (length program) ≡ b → b ≡ false
  short true e = absurd (runs (too_long (ltb-true 32768 (length program) e)))
  short false e = refl

  entered : (m : Program) → reading program ≡ well_formed m → (xs : List (List ℕ)) → m.main.parameters ≡ xs → (k : Action (List Figure)) → Steps k →
      Enters (entering xs width height >>= λ _. k)
  unfolding entering two_names give spend become ◌>>=◌ go_on refuse
  entered m e [] x k h = absurd (runs (unentered m e (rw x)))
  entered m e (a ∷ []) x k h = absurd (runs (unentered m e (rw x)))
  entered m e (a ∷ b ∷ []) x k h = by (same_text a b) refl
    where
      by : (t : Bool) → same_text a b ≡ t → Enters (entering (a ∷ b ∷ []) width height >>= λ _. k)
      by true q = absurd (runs (unentered m e (rw (x, two_names, q))))
      by false q =
          rw q (record { where_to = λ s. h.where_to _; rest = λ s. h.rest _; begins = λ s. ap (λ (ts : List Event). taking calls 1 0 ∷ ts) (h.begins _) })
  entered m e (a ∷ b ∷ c ∷ more) x k h = absurd (runs (unentered m e (rw x)))

  apart_enters : (m : Program) → reading program ≡ well_formed m → (o : Option ℕ) → doubled [] m.procedures ≡ o → (k : Program → Action (List Figure)) →
      Enters (k m) → Enters (named_apart o m >>= k)
  unfolding named_apart give ◌>>=◌ go_on
  apart_enters m e none q k h = record { where_to = h.where_to; rest = h.rest; begins = h.begins }
  apart_enters m e (some p) q k h = absurd (runs (named_twice m p e q))

  read_enters : (r : Reading) → reading program ≡ r → (k : Program → Action (List Figure)) →
      ((m : Program) → reading program ≡ well_formed m → Enters (k m)) → Enters (understood r >>= k)
  unfolding understood
  read_enters (well_formed m) e k h = apart_enters m e (doubled [] m.procedures) refl k (h m e)
  read_enters (malformed m p) e k h = absurd (runs (unread m p e))

  painting_enters : Enters (painting program width height (suc n))
  unfolding painting sheet sized
  painting_enters =
      refuse_no _ 72 0 (a_sheet _ refl) (refuse_no _ 73 0 (short _ refl) (read_enters (reading program) refl _ λ m e.
      entered m e m.main.parameters refl _ (bind_steps _ (body_steps (calling (suc n) m.procedures) m.main.body n))))

  operation_enters : (o : Operation) → o ≢ checking → Enters (performing o program width height (suc n))
  unfolding performing
  operation_enters checking d = absurd (d refl)
  operation_enters drawing d = bind_enters _ painting_enters

-- THE CLAIM
pub others_take_a_step : OthersTakeAStep
unfolding specified
others_take_a_step o program width height n d runs =
    let h = operation_enters program width height n runs o d in
    (h.where_to empty, h.rest empty, h.begins empty)
