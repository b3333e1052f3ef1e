-- What follows goes through one act and then another.
use mathlib.Core.Path.{◌≡◌, ◌∙◌, ap}
use mathlib.Core.List.{List, [], ◌++◌, append-nil}
use Rattle.meaning.specs.State.{State}
use Rattle.meaning.specs.Run.{Taking, Event, End, result, error, unfinished, Run, Action}
use Rattle.meaning.specs.Run as Run
use Rattle.meaning.specs.Book.{Amounts, all_fit, lacking, book}
use Rattle.meaning.proofs.BookLaws.{on_fit, book_append}
use Rattle.machine.specs.Act.{Raw, Out, done, stop, Act}
use Rattle.machine.specs.Act as Act
use Rattle.simulation.specs.Follows.{Together, gives, lacks, fails, Follows}

-- a relation between results, with what the slices, the state and the totals are then
abbrev pub Relation : Type 0 → Type 0 → Type 1
Relation A B = A → B → Raw → State → Amounts → Type 0

module _ (granted total : Amounts) where
  -- after takings that fit
  after_fit : {B D : Type 0} {P : Relation B D} {total' : Amounts} (us : List Event) → book granted total us ≡ all_fit total'
      → {o : Out B} {vs : List Event} {e : End D} → Together granted total' P o vs e → Together granted total P o (us ++ vs) e
  unfolding on_fit
  after_fit us f {vs = vs} (gives total'' b h) = gives total'' (book_append granted total us vs ∙ rw f b) h
  after_fit us f {vs = vs} (lacks t total'' b n p h) = lacks t total'' (book_append granted total us vs ∙ rw f b) n p h
  after_fit us f {vs = vs} (fails total'' b h) = fails total'' (book_append granted total us vs ∙ rw f b) h

  -- after one that does not
  after_lack : (us vs : List Event) (t : Taking) (total' : Amounts) → book granted total us ≡ lacking t total'
      → book granted total (us ++ vs) ≡ lacking t total'
  unfolding on_fit
  after_lack us vs t total' f = book_append granted total us vs ∙ rw f

  go : {A B C D : Type 0} {R : Relation A C} {P : Relation B D}
      (o : Out A) (us : List Event) (e : End C) (k : A → Act B) (k' : C → Action D) → Together granted total R o us e
      → ((a : A) (c : C) (r : Raw) (s : State) (total' : Amounts) → R a c r s total' → Follows granted total' P (k a r) (k' c s))
      → Follows granted total P (Act.go_on o k) (Run.go_on us e k')
  unfolding Act.go_on Run.go_on
  go (done a r) us (result c s) k k' (gives total' b h) f = record { is = after_fit us b (f a c r s total' h).is }
  go (stop n p r) us (result c s) k k' (lacks t total' b x y z) f = record { is = lacks t total' (after_lack us _ t total' b) x y z }
  go (stop n p r) us (error m q) k k' (lacks t total' b x y z) f = record { is = lacks t total' b x y z }
  go (done a r) us (error m q) k k' x f = elim x [ ]
  go (done a r) us unfinished k k' x f = elim x [ ]
  go (stop n p r) us unfinished k k' (lacks t total' b x y z) f = record { is = lacks t total' b x y z }
  go (stop n p r) us (error m q) k k' (fails total' b z) f = record { is = fails total' b z }

-- THE BIND LAW
pub bind : {granted total : Amounts} {A B C D : Type 0} {R : Relation A C} {P : Relation B D} {o : Out A} {m : Run C} {k : A → Act B} {k' : C → Action D}
    → Follows granted total R o m
    → ((a : A) (c : C) (r : Raw) (s : State) (total' : Amounts) → R a c r s total' → Follows granted total' P (k a r) (k' c s))
    → Follows granted total P (Act.go_on o k) (Run.go_on m.takings m.end k')
bind {granted} {total} {o = o} {m = m} {k = k} {k' = k'} h f = go granted total o m.takings m.end k k' h.is f

-- ---- what only one side does
-- the code does more, which always succeeds
pub record Succeeds {A B : Type 0} (P : Relation A B) (o : Out A) (b : B) (s : State) (total' : Amounts) : Type 0 where
  pub result : A
  pub slices : Raw
  pub is : o ≡ done result slices
  pub holds : P result b slices s total'

module _ {granted total : Amounts} where
  -- the run changes its result
  give_together : {A B C : Type 0} {R : Relation A B} {P : Relation A C} (f : B → C) (o : Out A) (us : List Event) (e : End B)
      → ((a : A) (b : B) (r : Raw) (s : State) (total' : Amounts) → R a b r s total' → P a (f b) r s total')
      → Together granted total R o us e → Follows granted total P o (Run.go_on us e (λ b. Run.give (f b)))
  unfolding Run.go_on Run.give
  give_together f (done a r) us (result b s) k (gives total' q h) = record { is = gives {us = us ++ []} total' (ap (book granted total) (append-nil us) ∙ q) (k a b r s total' h) }
  give_together f (done a r) us (error m i) k x = elim x [ ]
  give_together f (done a r) us unfinished k x = elim x [ ]
  give_together f (stop n p r) us (result b s) k (lacks t total' q x y z) = record { is = lacks {us = us ++ []} t total' (ap (book granted total) (append-nil us) ∙ q) x y z }
  give_together f (stop n p r) us (error m i) k (lacks t total' q x y z) = record { is = lacks t total' q x y z }
  give_together f (stop n p r) us unfinished k (lacks t total' q x y z) = record { is = lacks t total' q x y z }
  give_together f (stop n p r) us (error m i) k (fails total' q z) = record { is = fails total' q z }

  pub give_after : {A B C : Type 0} {R : Relation A B} {P : Relation A C} (f : B → C) {o : Out A} {m : Run B}
      → ((a : A) (b : B) (r : Raw) (s : State) (total' : Amounts) → R a b r s total' → P a (f b) r s total')
      → Follows granted total R o m → Follows granted total P o (Run.go_on m.takings m.end (λ b. Run.give (f b)))
  give_after f {o} {m} k h = give_together f o m.takings m.end k h.is

  act_together : {A B C : Type 0} {R : Relation A B} {P : Relation C B} (k : A → Act C) (o : Out A) (us : List Event) (e : End B)
      → ((a : A) (b : B) (r : Raw) (s : State) (total' : Amounts) → R a b r s total' → Succeeds P (k a r) b s total')
      → Together granted total R o us e → Together granted total P (Act.go_on o k) us e
  unfolding Act.go_on
  act_together k (done a r) us (result b s) f (gives total' q h) = let w = f a b r s total' h in rw w.is (gives total' q w.holds)
  act_together k (done a r) us (error m i) f x = elim x [ ]
  act_together k (done a r) us unfinished f x = elim x [ ]
  act_together k (stop n p r) us e f (lacks t total' q x y z) = lacks t total' q x y z
  act_together k (stop n p r) us (error m i) f (fails total' q z) = fails total' q z

  pub act_after : {A B C : Type 0} {R : Relation A B} {P : Relation C B} (k : A → Act C) {o : Out A} {m : Run B}
      → ((a : A) (b : B) (r : Raw) (s : State) (total' : Amounts) → R a b r s total' → Succeeds P (k a r) b s total')
      → Follows granted total R o m → Follows granted total P (Act.go_on o k) m
  act_after k {o} {m} f h = record { is = act_together k o m.takings m.end f h.is }
