-- How a run ends, and what it has taken by then: which numbers it can have, that a picture is taken only by drawing, that a run that is
-- unfinished with n turns a loop and n calls inside one another has counted n steps, and that each call is given back.
use Prim.Native.Nat.{ℕ, zero, suc, ◌≤◌}
use mathlib.Core.Path.{◌≡◌, refl, subst}
use mathlib.Core.Bool.{Bool, true, false, ◌&&◌, ◌||◌}
use mathlib.Core.List.{List, [], ◌∷◌, ◌++◌}
use mathlib.Core.Option.{Option, some}
use native.Mathlib.Omega.{arith}
use native.Mathlib.Nat.{le_refl}
use lib.ListN.{length, length-append}
use lib.IntN.{ℤ, pos}
use lib.Signed.{lt_z}
use lib.Dec.{eqb}
use borrow.Author.Tests.{le-ltb}
use Rattle.meaning.specs.Basics.{bytes, if◌then◌otherwise◌, same_text, stands_in}
use Rattle.meaning.specs.Figure.{Figure}
use Rattle.meaning.specs.Tree.{Operator, concatenate, add, subtract, multiply, divide, remainder, shift_right, shift_left, equal, unequal, greater, less, Expression, Arguments}
use Rattle.meaning.specs.Tree.{no_argument, argument, Statement, declare, assign, update, when, while, foreach, return, block, act, Statements, only, first, Procedure}
use Rattle.meaning.specs.Tree as Tree
use Rattle.meaning.specs.Grammar.{procedure_named, Reading, well_formed, malformed, reading}
use Rattle.meaning.specs.Value.{Value, integer, string, boolean, none, table, shape}
use Rattle.meaning.specs.State.{State, Content, atom, group, Key, by_content, shapes_held}
use Rattle.meaning.specs.Run.{Resource, steps, shapes, entries, text_bytes, calls, picture, Taking, Event, taken, gave_back, taking, End, result}
use Rattle.meaning.specs.Run.{error, unfinished, Run, Action, go_on, ◌>>=◌, give, fail, spend, give_back, refuse, current, become}
use Rattle.meaning.specs.Group.{spend_each, new_shape, each, destroying, remade, figures_of, pairwise, alike}
use Rattle.meaning.specs.Operator.{usable, with_integer, with_string, with_boolean, with_table, with_shape_number, with_figure, with_group, new_string, calculated}
use Rattle.meaning.specs.Operator.{compared, remaindered, joined, Comparison, refused, settled, of_shapes, answered, equated, operate_on, operate}
use Rattle.meaning.specs.Library.{Library, draw_line, draw_ellipse, draw_box, draw_text, connect_shapes, draw_text_on_shape, x_coordinate, y_coordinate, destroy_shape, clear_scene}
use Rattle.meaning.specs.Library.{draw_group, with_none, with_one, with_two, with_three, with_four, shape_numbers, draw, draw_figure, perform, all_usable, call_library}
use Rattle.meaning.specs.Evaluate.{looked_up, variable, new_table, keyed, entry_of, Invoke, evaluate, evaluate_all}
use Rattle.meaning.specs.Execute.{Flow, onward, returned, continue, declaring, copied, assigning, storing, updating, looping, declaring_once, binding, turns, iterating, execute, execute_all}
use Rattle.meaning.specs.Procedure.{doubled, assigning_all, found, calling}
use Rattle.meaning.specs.Procedure as Procedures
use Rattle.meaning.specs.Program.{Operation, checking, drawing, accepted, empty, entering, sheet, sized, named_apart, understood, painting, performing, specified}
use Rattle.meaning.specs.Program as Program
use Rattle.meaning.specs.Picture.{picture_of}
use Rattle.meaning.specs.Book.{resource_number}
use Rattle.claims.specs.Claims.{among, reading_errors, language_errors, errors, LanguageErrors}
use Rattle.meaning.proofs.BookLaws.{part, spent, spent_append}
use Rattle.claims.proofs.Refusals.{LowReading, reading_low}

-- ---- the relation
-- n steps among some takings
pub record Many (n : ℕ) (ts : List Event) : Type 0 where
  pub counted : n ≤ spent steps ts
  pub long : n ≤ length ts

-- an end after some takings, with one of some numbers if it has one
abbrev pub Ending : {A : Type 0} → List ℕ → ℕ → List Event → End A → Type 0
Ending ns n ts (result a s) = Unit {0}
Ending ns n ts (error m p) = among ns m
Ending ns n ts unfinished = Many n ts

abbrev pub Ended : {A : Type 0} → List ℕ → ℕ → Run A → Type 0
Ended ns n r = Ending ns n r.takings r.end

-- from d calls under way to d', and none returns that has not begun
pub data Leads : ℕ → List Event → ℕ → Type 0 where
  still : {d : ℕ} → Leads d [] d
  begins : {d d' p : ℕ} {es : List Event} → Leads (suc d) es d' → Leads d (taking calls 1 p ∷ es) d'
  returns : {d d' : ℕ} {es : List Event} → Leads d es d' → Leads (suc d) (gave_back ∷ es) d'
  other : {d d' : ℕ} {t : Taking} {es : List Event} → eqb (resource_number calls) (resource_number t.of) ≡ false → Leads d es d' → Leads d (taken t ∷ es) d'

-- a result leaves d' under way
abbrev pub Stands : {A : Type 0} → ℕ → ℕ → List Event → End A → Type 0
Stands d d' ts (result a s) = Leads d ts d'
Stands d d' ts (error m p) = (k : ℕ) × Leads d ts k
Stands d d' ts unfinished = (k : ℕ) × Leads d ts k

-- how many calls are under way, outside a further call and inside it
abbrev pub deep : Bool → ℕ → ℕ
deep false d = d
deep true d = suc d

-- from every state: no picture is taken, a run ends so, and a result leads from outside or inside to outside or inside
pub record Moving {A : Type 0} (ns : List ℕ) (n : ℕ) (a b : Bool) (m : Action A) : Type 0 where
  pub plain : (s : State) → spent picture (m s).takings ≡ 0
  pub ended : (s : State) → Ended ns n (m s)
  pub level : (s : State) (d : ℕ) → Stands (deep a d) (deep b d) (m s).takings (m s).end

-- as many as before
abbrev pub Lawful : {A : Type 0} → List ℕ → ℕ → Action A → Type 0
Lawful ns n m = Moving ns n false false m

-- ---- it goes through `do`
ending_weaken : {A : Type 0} (ns : List ℕ) {n n' : ℕ} (ts : List Event) (e : End A) → n' ≤ n → Ending ns n ts e → Ending ns n' ts e
ending_weaken ns ts (result a s) l h = tt
ending_weaken ns ts (error m p) l h = h
ending_weaken ns ts unfinished l h = omega arith

weaken : {A : Type 0} {ns : List ℕ} {n n' : ℕ} {a b : Bool} {m : Action A} → n' ≤ n → Moving ns n a b m → Moving ns n' a b m
weaken {ns = ns} {m = m} l h = record { plain = h.plain; ended = λ s. ending_weaken ns (m s).takings (m s).end l (h.ended s); level = h.level }

weaken_one : {A : Type 0} {ns : List ℕ} {n : ℕ} {a b : Bool} {m : Action A} → Moving ns (suc n) a b m → Moving ns n a b m
weaken_one h = weaken (omega arith) h

-- with a call more under way
shifted : {A : Type 0} {ns : List ℕ} {n : ℕ} {m : Action A} → Lawful ns n m → Moving ns n true true m
shifted h = record { plain = h.plain; ended = h.ended; level = λ s d. h.level s (suc d) }

ending_later : {A : Type 0} (ns : List ℕ) (n : ℕ) (ts us : List Event) (e : End A) → Ending ns n us e → Ending ns n (ts ++ us) e
ending_later ns n ts us (result a s) h = tt
ending_later ns n ts us (error m p) h = h
ending_later ns n ts us unfinished h = omega (arith, spent_append steps ts us, length-append ts us)

leads_later : {x y z : ℕ} {ts us : List Event} → Leads x ts y → Leads y us z → Leads x (ts ++ us) z
leads_later still k = k
leads_later (begins h) k = begins (leads_later h k)
leads_later (returns h) k = returns (leads_later h k)
leads_later (other e h) k = other e (leads_later h k)

stands_later : {A : Type 0} (x y z : ℕ) (ts us : List Event) (e : End A) → Leads x ts y → Stands y z us e → Stands x z (ts ++ us) e
stands_later x y z ts us (result a s) h k = leads_later h k
stands_later x y z ts us (error m p) h k = (k.0, leads_later h k.1)
stands_later x y z ts us unfinished h k = (k.0, leads_later h k.1)

module _ {A B : Type 0} where
  pub stands_go : (x y z : ℕ) (ts : List Event) (e : End A) (k : A → Action B) → Stands x y ts e →
      ((a : A) (s : State) → Stands y z (k a s).takings (k a s).end) → Stands x z (go_on ts e k).takings (go_on ts e k).end
  unfolding go_on
  stands_go x y z ts (result a s) k h f = stands_later x y z ts (k a s).takings (k a s).end h (f a s)
  stands_go x y z ts (error m p) k h f = h
  stands_go x y z ts unfinished k h f = h

  pub ended_go : (ns : List ℕ) (n : ℕ) (ts : List Event) (e : End A) (k : A → Action B) → Ending ns n ts e →
      ((a : A) (s : State) → Ended ns n (k a s)) → Ended ns n (go_on ts e k)
  unfolding go_on
  ended_go ns n ts (result a s) k h f = ending_later ns n ts (k a s).takings (k a s).end (f a s)
  ended_go ns n ts (error m p) k h f = h
  ended_go ns n ts unfinished k h f = h

  plain_go : (ts : List Event) (e : End A) (k : A → Action B) → spent picture ts ≡ 0 →
      ((a : A) (s : State) → spent picture (k a s).takings ≡ 0) → spent picture (go_on ts e k).takings ≡ 0
  unfolding go_on
  plain_go ts (result a s) k h f = omega (arith, spent_append picture ts (k a s).takings, f a s)
  plain_go ts (error m p) k h f = h
  plain_go ts unfinished k h f = h

  bind_moving : {ns : List ℕ} {n : ℕ} {a b c : Bool} {m : Action A} {k : A → Action B} → Moving ns n a b m → ((x : A) → Moving ns n b c (k x)) → Moving ns n a c (m >>= k)
  unfolding ◌>>=◌
  bind_moving {ns} {n} {a} {b} {c} {m} {k} h f = record {
    plain = λ s. plain_go (m s).takings (m s).end k (h.plain s) (λ x s'. (f x).plain s');
    ended = λ s. ended_go ns n (m s).takings (m s).end k (h.ended s) (λ x s'. (f x).ended s');
    level = λ s d. stands_go (deep a d) (deep b d) (deep c d) (m s).takings (m s).end k (h.level s d) (λ x s'. (f x).level s' d);
  }

  bind_lawful : {ns : List ℕ} {n : ℕ} {m : Action A} {k : A → Action B} → Lawful ns n m → ((a : A) → Lawful ns n (k a)) → Lawful ns n (m >>= k)
  bind_lawful h f = bind_moving h f

-- ---- the smallest actions
module _ {ns : List ℕ} {n : ℕ} where
  give_lawful : {A : Type 0} (a : A) → Lawful ns n (give a)
  unfolding give spent
  give_lawful a = record { plain = λ s. refl; ended = λ s. tt; level = λ s d. still }

  fail_moving : {A : Type 0} {a b : Bool} (m p : ℕ) → among ns m → Moving {A = A} ns n a b (fail m p)
  unfolding fail spent
  fail_moving m p h = record { plain = λ s. refl; ended = λ s. h; level = λ s d. (_, still) }

  fail_lawful : {A : Type 0} (m p : ℕ) → among ns m → Lawful {A = A} ns n (fail m p)
  fail_lawful m p h = fail_moving m p h

  spend_lawful : (r : Resource) (a p : ℕ) → eqb (resource_number picture) (resource_number r) ≡ false → eqb (resource_number calls) (resource_number r) ≡ false →
      Lawful ns n (spend r a p)
  unfolding spend spent part
  spend_lawful r a p e c = record { plain = λ s. rw e; ended = λ s. tt; level = λ s d. other c still }

  -- a call begins, and one returns
  begin_moving : (p : ℕ) → Moving ns n false true (spend calls 1 p)
  unfolding spend spent part resource_number
  begin_moving p = record { plain = λ s. refl; ended = λ s. tt; level = λ s d. begins still }

  return_moving : Moving ns n true false give_back
  unfolding give_back spent
  return_moving = record { plain = λ s. refl; ended = λ s. tt; level = λ s d. returns still }

  refuse_lawful : (b : Bool) (m p : ℕ) → among ns m → Lawful ns n (refuse b m p)
  unfolding refuse
  refuse_lawful true m p h = fail_lawful m p h
  refuse_lawful false m p h = give_lawful tt

  current_lawful : Lawful ns n current
  unfolding current spent
  current_lawful = record { plain = λ s. refl; ended = λ s. tt; level = λ s d. still }

  become_lawful : (s : State) → Lawful ns n (become s)
  unfolding become spent
  become_lawful s' = record { plain = λ s. refl; ended = λ s. tt; level = λ s d. still }

  if_lawful : {A : Type 0} (b : Bool) {x y : Action A} → Lawful ns n x → Lawful ns n y → Lawful ns n (if b then (λ _. x) otherwise λ _. y)
  unfolding if◌then◌otherwise◌
  if_lawful true h f = h
  if_lawful false h f = f

-- ---- a program that runs
is_20 : among language_errors 20
unfolding stands_in
is_20 = refl

is_30 : among language_errors 30
unfolding stands_in
is_30 = refl

is_40 : among language_errors 40
unfolding stands_in
is_40 = refl

is_50 : among language_errors 50
unfolding stands_in
is_50 = refl

is_60 : among language_errors 60
unfolding stands_in
is_60 = refl

is_70 : among language_errors 70
unfolding stands_in
is_70 = refl

module _ {n : ℕ} where
  fail_20 : {A : Type 0} (p : ℕ) → Lawful {A = A} language_errors n (fail 20 p)
  fail_20 p = fail_lawful 20 p is_20

  -- ---- questions about one value
  usable_lawful : (p : ℕ) (v : Value) → Lawful language_errors n (usable p v)
  unfolding usable
  usable_lawful p v = bind_lawful current_lawful λ s. refuse_lawful _ 30 p is_30

  integer_lawful : {A : Type 0} (p : ℕ) (v : Value) {k : ℤ → Action A} → ((z : ℤ) → Lawful language_errors n (k z)) → Lawful language_errors n (with_integer p v k)
  unfolding with_integer
  integer_lawful p (integer z) h = h z
  integer_lawful p (string t) h = fail_20 p
  integer_lawful p (boolean b) h = fail_20 p
  integer_lawful p none h = fail_20 p
  integer_lawful p (table t) h = fail_20 p
  integer_lawful p (shape i) h = fail_20 p

  string_lawful : {A : Type 0} (p : ℕ) (v : Value) {k : List ℕ → Action A} → ((t : List ℕ) → Lawful language_errors n (k t)) →
      Lawful language_errors n (with_string p v k)
  unfolding with_string
  string_lawful p (integer z) h = fail_20 p
  string_lawful p (string t) h = h t
  string_lawful p (boolean b) h = fail_20 p
  string_lawful p none h = fail_20 p
  string_lawful p (table t) h = fail_20 p
  string_lawful p (shape i) h = fail_20 p

  boolean_lawful : {A : Type 0} (p : ℕ) (v : Value) {k : Bool → Action A} → ((b : Bool) → Lawful language_errors n (k b)) →
      Lawful language_errors n (with_boolean p v k)
  unfolding with_boolean
  boolean_lawful p (integer z) h = fail_20 p
  boolean_lawful p (string t) h = fail_20 p
  boolean_lawful p (boolean b) h = h b
  boolean_lawful p none h = fail_20 p
  boolean_lawful p (table t) h = fail_20 p
  boolean_lawful p (shape i) h = fail_20 p

  table_lawful : {A : Type 0} (p : ℕ) (v : Value) {k : ℕ → Action A} → ((t : ℕ) → Lawful language_errors n (k t)) → Lawful language_errors n (with_table p v k)
  unfolding with_table
  table_lawful p (integer z) h = fail_20 p
  table_lawful p (string t) h = fail_20 p
  table_lawful p (boolean b) h = fail_20 p
  table_lawful p none h = fail_20 p
  table_lawful p (table t) h = h t
  table_lawful p (shape i) h = fail_20 p

  shape_lawful : {A : Type 0} (p : ℕ) (v : Value) {k : ℕ → Action A} → ((i : ℕ) → Lawful language_errors n (k i)) → Lawful language_errors n (with_shape_number p v k)
  unfolding with_shape_number
  shape_lawful p (integer z) h = fail_20 p
  shape_lawful p (string t) h = fail_20 p
  shape_lawful p (boolean b) h = fail_20 p
  shape_lawful p none h = fail_20 p
  shape_lawful p (table t) h = fail_20 p
  shape_lawful p (shape i) h = h i

  content_lawful : {A : Type 0} (c : Content) {f : Figure → Action A} {g : List ℕ → Action A} → ((a : Figure) → Lawful language_errors n (f a)) →
      ((is : List ℕ) → Lawful language_errors n (g is)) → Lawful language_errors n (by_content c f g)
  unfolding by_content
  content_lawful (atom a) h k = h a
  content_lawful (group is) h k = k is

  figure_lawful : {A : Type 0} (p : ℕ) (v : Value) {k : Figure → Action A} → ((a : Figure) → Lawful language_errors n (k a)) →
      Lawful language_errors n (with_figure p v k)
  unfolding with_figure
  figure_lawful p v h = shape_lawful p v λ i. bind_lawful current_lawful λ s. content_lawful _ h λ is. fail_20 p

  group_lawful : {A : Type 0} (p : ℕ) (v : Value) {k : List ℕ → Action A} → ((is : List ℕ) → Lawful language_errors n (k is)) →
      Lawful language_errors n (with_group p v k)
  unfolding with_group
  group_lawful p v h = shape_lawful p v λ i. bind_lawful current_lawful λ s. content_lawful _ (λ a. fail_20 p) h

  -- ---- shapes and groups
  count_lawful : (p : ℕ) → Lawful language_errors n (spend steps 1 p)
  unfolding resource_number
  count_lawful p = spend_lawful steps 1 p refl refl

  entries_lawful : (m p : ℕ) → Lawful language_errors n (spend_each entries m p)
  unfolding spend_each resource_number
  entries_lawful zero p = give_lawful tt
  entries_lawful (suc m) p = bind_lawful (spend_lawful entries 1 p refl refl) λ _. entries_lawful m p

  new_shape_lawful : (p : ℕ) (c : Content) → Lawful language_errors n (new_shape p c)
  unfolding new_shape resource_number
  new_shape_lawful p c =
      bind_lawful (spend_lawful shapes 1 p refl refl) λ _. bind_lawful (entries_lawful _ p) λ _. bind_lawful current_lawful λ s. bind_lawful (become_lawful _) λ _.
      give_lawful _

  each_lawful : {A : Type 0} {visit : ℕ → Action (List A)} → ((i : ℕ) → Lawful language_errors n (visit i)) → (is : List ℕ) →
      Lawful language_errors n (each visit is)
  unfolding each
  each_lawful h [] = give_lawful []
  each_lawful h (i ∷ is) =
      bind_lawful current_lawful λ s. bind_lawful (if_lawful _ (give_lawful []) (h i)) λ xs. bind_lawful (each_lawful h is) λ ys. give_lawful _

  destroying_lawful : (b p i : ℕ) → Lawful language_errors n (destroying b p i)
  unfolding destroying
  destroying_lawful zero p i = give_lawful []
  destroying_lawful (suc b) p i =
      bind_lawful current_lawful λ s. bind_lawful (become_lawful _) λ _. each_lawful (λ c. bind_lawful (count_lawful p) λ _. destroying_lawful b p c) _

  remade_lawful : (b p : ℕ) (f : Figure → Figure) (i : ℕ) → Lawful language_errors n (remade b p f i)
  unfolding remade
  remade_lawful zero p f i = give_lawful i
  remade_lawful (suc b) p f i =
      bind_lawful current_lawful λ s. content_lawful _ (λ a. new_shape_lawful p _) λ is.
      bind_lawful (each_lawful (λ c. bind_lawful (bind_lawful (count_lawful p) λ _. remade_lawful b p f c) λ j. give_lawful _) is) λ js. new_shape_lawful p _

  figures_lawful : (b p i : ℕ) → Lawful language_errors n (figures_of b p i)
  unfolding figures_of
  figures_lawful zero p i = give_lawful []
  figures_lawful (suc b) p i =
      bind_lawful current_lawful λ s. content_lawful _ (λ a. give_lawful _) (each_lawful λ c. bind_lawful (count_lawful p) λ _. figures_lawful b p c)

  pairwise_lawful : {same : ℕ → ℕ → Action Bool} → ((i j : ℕ) → Lawful language_errors n (same i j)) → (is js : List ℕ) →
      Lawful language_errors n (pairwise same is js)
  unfolding pairwise
  pairwise_lawful h [] [] = give_lawful true
  pairwise_lawful h [] (j ∷ js) = give_lawful false
  pairwise_lawful h (i ∷ is) [] = give_lawful false
  pairwise_lawful h (i ∷ is) (j ∷ js) = bind_lawful (h i j) λ b. if_lawful b (pairwise_lawful h is js) (give_lawful false)

  alike_lawful : (b p i j : ℕ) → Lawful language_errors n (alike b p i j)
  unfolding alike
  alike_lawful zero p i j = give_lawful false
  alike_lawful (suc b) p i j =
      bind_lawful current_lawful λ s. content_lawful _ (λ a. content_lawful _ (λ a'. give_lawful _) λ ds. give_lawful false)
      λ cs. content_lawful _ (λ a'. give_lawful false) λ ds. pairwise_lawful (λ c d. bind_lawful (count_lawful p) λ _. alike_lawful b p c d) _ _

  -- ---- operators
  new_string_lawful : (p : ℕ) (t : List ℕ) → Lawful language_errors n (new_string p t)
  unfolding new_string resource_number
  new_string_lawful p t = bind_lawful (spend_lawful text_bytes _ p refl refl) λ _. give_lawful _

  nonzero_lawful : (b : Bool) (p : ℕ) → Lawful language_errors n (refuse b 70 p)
  nonzero_lawful b p = refuse_lawful b 70 p is_70

  calculated_lawful : (d : Bool) (f : ℤ → ℤ → ℤ) (g : Figure → ℤ → Figure) (p : ℕ) (v w : Value) → Lawful language_errors n (calculated d f g p v w)
  unfolding calculated
  calculated_lawful d f g p (integer a) w = integer_lawful p w λ b. bind_lawful (nonzero_lawful _ p) λ _. give_lawful _
  calculated_lawful d f g p (string t) w = fail_20 p
  calculated_lawful d f g p (boolean b) w = fail_20 p
  calculated_lawful d f g p none w = fail_20 p
  calculated_lawful d f g p (table t) w = fail_20 p
  calculated_lawful d f g p (shape i) w =
      integer_lawful p w λ b. bind_lawful (nonzero_lawful _ p) λ _. bind_lawful (remade_lawful _ p _ i) λ j. give_lawful _

  compared_lawful : (f : ℤ → ℤ → Bool) (p : ℕ) (v w : Value) → Lawful language_errors n (compared f p v w)
  unfolding compared
  compared_lawful f p v w = integer_lawful p v λ a. integer_lawful p w λ b. give_lawful _

  answered_lawful : (p : ℕ) (f : Bool → Bool) (c : Comparison) → Lawful language_errors n (answered p f c)
  unfolding answered
  answered_lawful p f refused = fail_20 p
  answered_lawful p f (settled b) = give_lawful _
  answered_lawful p f (of_shapes i j) = bind_lawful (alike_lawful _ p i j) λ b. give_lawful _

  equated_lawful : (f : Bool → Bool) (p : ℕ) (v w : Value) → Lawful language_errors n (equated f p v w)
  unfolding equated
  equated_lawful f p v w = answered_lawful p f _

  operate_on_lawful : (o : Operator) (p : ℕ) (v w : Value) → Lawful language_errors n (operate_on o p v w)
  unfolding operate_on joined remaindered
  operate_on_lawful concatenate p v w = string_lawful p v λ a. string_lawful p w λ b. new_string_lawful p _
  operate_on_lawful add p v w = calculated_lawful _ _ _ p v w
  operate_on_lawful subtract p v w = calculated_lawful _ _ _ p v w
  operate_on_lawful multiply p v w = calculated_lawful _ _ _ p v w
  operate_on_lawful divide p v w = calculated_lawful _ _ _ p v w
  operate_on_lawful remainder p v w = integer_lawful p v λ a. integer_lawful p w λ b. bind_lawful (nonzero_lawful _ p) λ _. give_lawful _
  operate_on_lawful shift_right p v w = calculated_lawful _ _ _ p v w
  operate_on_lawful shift_left p v w = calculated_lawful _ _ _ p v w
  operate_on_lawful equal p v w = equated_lawful _ p v w
  operate_on_lawful unequal p v w = equated_lawful _ p v w
  operate_on_lawful greater p v w = compared_lawful _ p v w
  operate_on_lawful less p v w = compared_lawful _ p v w

  operate_lawful : (o : Operator) (p : ℕ) (v w : Value) → Lawful language_errors n (operate o p v w)
  unfolding operate
  operate_lawful o p v w = bind_lawful (usable_lawful p v) λ _. bind_lawful (usable_lawful p w) λ _. operate_on_lawful o p v w

  -- ---- library procedures
  none_lawful : (p : ℕ) (vs : List Value) {k : Action Value} → Lawful language_errors n k → Lawful language_errors n (with_none p vs k)
  unfolding with_none
  none_lawful p [] h = h
  none_lawful p (v ∷ vs) h = fail_20 p

  one_lawful : (p : ℕ) (vs : List Value) {k : Value → Action Value} → ((v : Value) → Lawful language_errors n (k v)) → Lawful language_errors n (with_one p vs k)
  unfolding with_one
  one_lawful p [] h = fail_20 p
  one_lawful p (v ∷ vs) h = none_lawful p vs (h v)

  two_lawful : (p : ℕ) (vs : List Value) {k : Value → Value → Action Value} → ((v w : Value) → Lawful language_errors n (k v w)) →
      Lawful language_errors n (with_two p vs k)
  unfolding with_two
  two_lawful p [] h = fail_20 p
  two_lawful p (v ∷ vs) h = one_lawful p vs (h v)

  three_lawful : (p : ℕ) (vs : List Value) {k : Value → Value → Value → Action Value} → ((u v w : Value) → Lawful language_errors n (k u v w)) →
      Lawful language_errors n (with_three p vs k)
  unfolding with_three
  three_lawful p [] h = fail_20 p
  three_lawful p (v ∷ vs) h = two_lawful p vs (h v)

  four_lawful : (p : ℕ) (vs : List Value) {k : Value → Value → Value → Value → Action Value} →
      ((t u v w : Value) → Lawful language_errors n (k t u v w)) → Lawful language_errors n (with_four p vs k)
  unfolding with_four
  four_lawful p [] h = fail_20 p
  four_lawful p (v ∷ vs) h = three_lawful p vs (h v)

  numbers_lawful : (p : ℕ) (vs : List Value) → Lawful language_errors n (shape_numbers p vs)
  unfolding shape_numbers
  numbers_lawful p [] = give_lawful []
  numbers_lawful p (v ∷ vs) = shape_lawful p v λ i. bind_lawful (numbers_lawful p vs) λ is. give_lawful _

  draw_lawful : (p : ℕ) (c : Content) → Lawful language_errors n (draw p c)
  unfolding draw
  draw_lawful p c = bind_lawful (new_shape_lawful p c) λ i. give_lawful _

  drawn_lawful : (make : ℤ → ℤ → ℤ → ℤ → Figure) (p : ℕ) (vs : List Value) → Lawful language_errors n (draw_figure make p vs)
  unfolding draw_figure
  drawn_lawful make p vs =
      four_lawful p vs λ v₁ v₂ v₃ v₄. integer_lawful p v₁ λ a. integer_lawful p v₂ λ b. integer_lawful p v₃ λ c. integer_lawful p v₄ λ d.
      draw_lawful p _

  perform_lawful : (f : Library) (p : ℕ) (vs : List Value) → Lawful language_errors n (perform f p vs)
  unfolding perform
  perform_lawful draw_line p vs = drawn_lawful _ p vs
  perform_lawful draw_ellipse p vs = drawn_lawful _ p vs
  perform_lawful draw_box p vs = drawn_lawful _ p vs
  perform_lawful draw_text p vs =
      three_lawful p vs λ v₁ v₂ v₃. integer_lawful p v₁ λ x. integer_lawful p v₂ λ y. string_lawful p v₃ λ t. draw_lawful p _
  perform_lawful connect_shapes p vs = two_lawful p vs λ v₁ v₂. figure_lawful p v₁ λ a. figure_lawful p v₂ λ b. draw_lawful p _
  perform_lawful draw_text_on_shape p vs = two_lawful p vs λ v₁ v₂. figure_lawful p v₁ λ a. string_lawful p v₂ λ t. draw_lawful p _
  perform_lawful x_coordinate p vs = one_lawful p vs λ v. figure_lawful p v λ a. give_lawful _
  perform_lawful y_coordinate p vs = one_lawful p vs λ v. figure_lawful p v λ a. give_lawful _
  perform_lawful destroy_shape p vs = one_lawful p vs λ v. shape_lawful p v λ i. bind_lawful (destroying_lawful _ p i) λ _. give_lawful _
  perform_lawful clear_scene p vs =
      none_lawful p vs (bind_lawful current_lawful λ s. bind_lawful (each_lawful (λ i. destroying_lawful _ p i) _) λ _. give_lawful _)
  perform_lawful draw_group p vs = bind_lawful (numbers_lawful p vs) λ is. draw_lawful p _

  all_usable_lawful : (p : ℕ) (vs : List Value) → Lawful language_errors n (all_usable p vs)
  unfolding all_usable
  all_usable_lawful p [] = give_lawful tt
  all_usable_lawful p (v ∷ vs) = bind_lawful (usable_lawful p v) λ _. all_usable_lawful p vs

  call_lawful : (f : Option Library) (p : ℕ) (vs : List Value) → Lawful language_errors n (call_library f p vs)
  unfolding call_library
  call_lawful Option.none p vs = fail_20 p
  call_lawful (some f) p vs = bind_lawful (all_usable_lawful p vs) λ _. perform_lawful f p vs

  -- ---- expressions
  found_lawful : (m p : ℕ) (o : Option Value) → among language_errors m → Lawful language_errors n (looked_up m p o)
  unfolding looked_up
  found_lawful m p Option.none h = fail_lawful m p h
  found_lawful m p (some v) h = bind_lawful (usable_lawful p v) λ _. give_lawful v

  variable_lawful : (p : ℕ) (x : List ℕ) → Lawful language_errors n (variable p x)
  unfolding variable
  variable_lawful p x = bind_lawful current_lawful λ s. found_lawful 50 p _ is_50

  new_table_lawful : (p : ℕ) (z : ℤ) → Lawful language_errors n (new_table p z)
  unfolding new_table
  new_table_lawful p z =
      bind_lawful (refuse_lawful _ 40 p is_40) λ _. bind_lawful current_lawful λ s. bind_lawful (become_lawful _) λ _. give_lawful _

  keyed_lawful : {A : Type 0} (p : ℕ) (o : Option Key) {k : Key → Action A} → ((key : Key) → Lawful language_errors n (k key)) → Lawful language_errors n (keyed p o k)
  unfolding keyed
  keyed_lawful p Option.none h = fail_20 p
  keyed_lawful p (some key) h = h key

  entry_lawful : (p t : ℕ) (v : Value) → Lawful language_errors n (entry_of p t v)
  unfolding entry_of
  entry_lawful p t v = bind_lawful current_lawful λ s. keyed_lawful p _ λ key. found_lawful 20 p _ is_20

  -- ---- statements
  continue_lawful : (f : Flow) {k : Action Flow} → Lawful language_errors n k → Lawful language_errors n (continue f k)
  unfolding continue
  continue_lawful onward h = h
  continue_lawful (returned v) h = give_lawful _

  declaring_lawful : (p : ℕ) (x : List ℕ) → Lawful language_errors n (declaring p x)
  unfolding declaring
  declaring_lawful p x =
      bind_lawful current_lawful λ s. bind_lawful (refuse_lawful _ 60 p is_60) λ _. bind_lawful (become_lawful _) λ _. give_lawful _

  copied_lawful : (p : ℕ) (v : Value) → Lawful language_errors n (copied p v)
  unfolding copied
  copied_lawful p (integer z) = give_lawful _
  copied_lawful p (string t) = give_lawful _
  copied_lawful p (boolean b) = give_lawful _
  copied_lawful p none = give_lawful _
  copied_lawful p (table t) = give_lawful _
  copied_lawful p (shape i) = bind_lawful current_lawful λ s. bind_lawful (new_shape_lawful p _) λ j. give_lawful _

  assigning_lawful : (p : ℕ) (x : List ℕ) (v : Value) → Lawful language_errors n (assigning p x v)
  unfolding assigning
  assigning_lawful p x v =
      bind_lawful current_lawful λ s. bind_lawful (refuse_lawful _ 50 p is_50) λ _. bind_lawful (usable_lawful p v) λ _. bind_lawful (copied_lawful p v) λ u.
      bind_lawful current_lawful λ s'. bind_lawful (become_lawful _) λ _. give_lawful _

  storing_lawful : (p t : ℕ) (k : Key) (v : Value) (o : Option Value) → Lawful language_errors n (storing p t k v o)
  unfolding storing resource_number
  storing_lawful p t k v Option.none =
      bind_lawful (spend_lawful entries 1 p refl refl) λ _. bind_lawful current_lawful λ s. bind_lawful (become_lawful _) λ _. give_lawful _
  storing_lawful p t k v (some u) = bind_lawful current_lawful λ s. bind_lawful (become_lawful _) λ _. give_lawful _

  updating_lawful : (p t : ℕ) (w v : Value) → Lawful language_errors n (updating p t w v)
  unfolding updating
  updating_lawful p t w v = bind_lawful current_lawful λ s. keyed_lawful p _ λ k. storing_lawful p t k v _

  declaring_once_lawful : (x : List ℕ) → Lawful language_errors n (declaring_once x)
  unfolding declaring_once
  declaring_once_lawful x = bind_lawful current_lawful λ s. become_lawful _

  binding_lawful : (x : List ℕ) (i : ℕ) → Lawful language_errors n (binding x i)
  unfolding binding
  binding_lawful x i = bind_lawful current_lawful λ s. become_lawful _

  turns_lawful : {visit : ℕ → Action Flow} → ((i : ℕ) → Lawful language_errors n (visit i)) → (is : List ℕ) → Lawful language_errors n (turns visit is)
  unfolding turns
  turns_lawful h [] = give_lawful onward
  turns_lawful h (i ∷ is) =
      bind_lawful current_lawful λ s. bind_lawful (if_lawful _ (give_lawful onward) (h i)) λ f. continue_lawful f (turns_lawful h is)

  iterating_lawful : (b : ℕ) {body : ℕ → Action Flow} → ((i : ℕ) → Lawful language_errors n (body i)) → (i : ℕ) →
      Lawful language_errors n (iterating b body i)
  unfolding iterating
  iterating_lawful zero h i = give_lawful onward
  iterating_lawful (suc b) h i = bind_lawful current_lawful λ s. content_lawful _ (λ a. h i) (turns_lawful (iterating_lawful b h))

-- a step counted is one more
ending_counted : {A : Type 0} (ns : List ℕ) (n p : ℕ) (ts : List Event) (e : End A) → Ending ns n ts e → Ending ns (suc n) (taking steps 1 p ∷ ts) e
unfolding spent part resource_number
ending_counted ns n p ts (result a s) h = tt
ending_counted ns n p ts (error m q) h = h
ending_counted ns n p ts unfinished h = omega arith

counted_lawful : {A : Type 0} {n : ℕ} (p : ℕ) {m : Action A} → Lawful language_errors n m → Lawful language_errors (suc n) (spend steps 1 p >>= λ _. m)
unfolding ◌>>=◌ go_on spend spent part resource_number
counted_lawful {n = n} p {m} h = record {
  plain = λ s. omega (arith, h.plain s);
  ended = λ s. ending_counted language_errors n p (m s).takings (m s).end (h.ended s);
  level = (bind_lawful (count_lawful p) (λ _. h)).level;
}

loop_lawful : (n N p : ℕ) {test : Action Value} {body : Action Flow} → n ≤ N → Lawful language_errors N test → Lawful language_errors N body →
    Lawful language_errors n (looping n p test body)
unfolding looping spent
loop_lawful zero N p l t h = record { plain = λ s. refl; ended = λ s. record { counted = le_refl 0; long = le_refl 0 }; level = λ s d. (_, still) }
loop_lawful (suc n) N p l t h =
    counted_lawful p (bind_lawful (weaken (omega arith) t) λ v. boolean_lawful p v λ b.
    if_lawful b (bind_lawful (weaken (omega arith) h) λ f. continue_lawful f (loop_lawful n N p (omega arith) t h)) (give_lawful _))

-- ---- expressions, if calls do so: each counted a step before
module _ {m : ℕ} (invoke : Invoke) (called : (x : List ℕ) (p : ℕ) (vs : List Value) → Lawful language_errors m (invoke x p vs)) where
  mutual
    unfolding evaluate evaluate_all

    evaluate_lawful : (e : Expression) (p : ℕ) → Lawful language_errors (suc m) (evaluate invoke e p)
    evaluate_lawful (Tree.number z) p = bind_lawful (count_lawful p) λ _. give_lawful _
    evaluate_lawful (Tree.string t) p = bind_lawful (count_lawful p) λ _. give_lawful _
    evaluate_lawful Tree.nothing p = bind_lawful (count_lawful p) λ _. give_lawful _
    evaluate_lawful (Tree.truth b) p = bind_lawful (count_lawful p) λ _. give_lawful _
    evaluate_lawful (Tree.name x) p = bind_lawful (count_lawful p) λ _. variable_lawful p x
    evaluate_lawful (Tree.table e) p =
        bind_lawful (count_lawful p) λ _. bind_lawful (evaluate_lawful e p) λ v. integer_lawful p v λ z. new_table_lawful p z
    evaluate_lawful (Tree.entry a b) p =
        bind_lawful (count_lawful p) λ _. bind_lawful (evaluate_lawful a p) λ v. table_lawful p v λ t.
        bind_lawful (evaluate_lawful b p) λ k. entry_lawful p t k
    evaluate_lawful (Tree.operation o a b) p =
        bind_lawful (count_lawful p) λ _. bind_lawful (evaluate_lawful a p) λ v. bind_lawful (evaluate_lawful b p) λ w. operate_lawful o p v w
    evaluate_lawful (Tree.call f es) p = counted_lawful p (bind_lawful (weaken_one (arguments_lawful es p)) λ vs. called f p vs)
    evaluate_lawful (Tree.paren e) p = evaluate_lawful e p

    arguments_lawful : (es : Arguments) (p : ℕ) → Lawful language_errors (suc m) (evaluate_all invoke es p)
    arguments_lawful no_argument p = give_lawful []
    arguments_lawful (argument e es) p =
        bind_lawful (evaluate_lawful e p) λ v. bind_lawful (arguments_lawful es p) λ vs. give_lawful _

-- ---- statements
module _ (n m : ℕ) (l : n ≤ suc m) (invoke : Invoke) (called : (x : List ℕ) (p : ℕ) (vs : List Value) → Lawful language_errors m (invoke x p vs)) where
  value_lawful : (e : Expression) (p : ℕ) → Lawful language_errors n (evaluate invoke e p)
  value_lawful e p = weaken l (evaluate_lawful invoke called e p)

  mutual
    unfolding execute execute_all

    execute_lawful : (s : Statement) → Lawful language_errors n (execute invoke s n)
    execute_lawful (declare p x) = bind_lawful (count_lawful p) λ _. declaring_lawful p x
    execute_lawful (assign p x e) = bind_lawful (count_lawful p) λ _. bind_lawful (value_lawful e p) λ v. assigning_lawful p x v
    execute_lawful (update p a b e) =
        bind_lawful (count_lawful p) λ _. bind_lawful (value_lawful a p) λ v. table_lawful p v λ t.
        bind_lawful (value_lawful b p) λ k. bind_lawful (value_lawful e p) λ u. updating_lawful p t k u
    execute_lawful (when p e s) =
        bind_lawful (count_lawful p) λ _. bind_lawful (value_lawful e p) λ v. boolean_lawful p v λ b.
        if_lawful b (execute_lawful s) (give_lawful _)
    execute_lawful (while p e s) = loop_lawful n n p (le_refl n) (value_lawful e p) (execute_lawful s)
    execute_lawful (foreach p x e t) =
        bind_lawful (count_lawful p) λ _. bind_lawful (value_lawful e p) λ v. bind_lawful (usable_lawful p v) λ _. group_lawful p v λ is.
        bind_lawful (declaring_once_lawful x) λ _. turns_lawful (λ i. bind_lawful (count_lawful p) λ _.
        iterating_lawful (suc i) (λ j. bind_lawful (binding_lawful x j) λ _. execute_lawful t) i) is
    execute_lawful (return p e) = bind_lawful (count_lawful p) λ _. bind_lawful (value_lawful e p) λ v. give_lawful _
    execute_lawful (block p ss) = bind_lawful (count_lawful p) λ _. all_lawful ss
    execute_lawful (act p e) = bind_lawful (count_lawful p) λ _. bind_lawful (value_lawful e p) λ v. give_lawful _

    all_lawful : (ss : Statements) → Lawful language_errors n (execute_all invoke ss n)
    all_lawful (only s) = execute_lawful s
    all_lawful (first s ss) = bind_lawful (execute_lawful s) λ f. continue_lawful f (all_lawful ss)

-- ---- calls
module _ {n : ℕ} where
  assigning_all_lawful : (p : ℕ) (xs : List (List ℕ)) (vs : List Value) → Lawful language_errors n (assigning_all p xs vs)
  unfolding assigning_all
  assigning_all_lawful p [] vs = give_lawful tt
  assigning_all_lawful p (x ∷ xs) [] = give_lawful tt
  assigning_all_lawful p (x ∷ xs) (v ∷ vs) = bind_lawful (assigning_lawful p x v) λ _. assigning_all_lawful p xs vs

  module _ {body : Statements → Action Flow} (h : (ss : Statements) → Lawful language_errors n (body ss)) where
    called_lawful : (f : Procedure) (p : ℕ) (vs : List Value) → Lawful language_errors n (Procedures.invoking body f p vs)
    unfolding Procedures.invoking
    called_lawful f p vs =
        bind_lawful (refuse_lawful _ 20 p is_20) λ _. bind_lawful (refuse_lawful _ 60 p is_60) λ _. bind_moving (begin_moving p) λ _.
        bind_moving (shifted current_lawful) λ s. bind_moving (shifted (become_lawful _)) λ _.
        bind_moving (shifted (assigning_all_lawful p f.parameters vs)) λ _. bind_moving (shifted (h f.body)) λ flow.
        bind_moving (shifted current_lawful) λ s'. bind_moving (shifted (become_lawful _)) λ _. bind_moving return_moving λ _. give_lawful _

    procedure_lawful : (o : Option Procedure) (x : List ℕ) (p : ℕ) (vs : List Value) → Lawful language_errors n (found body o x p vs)
    unfolding found
    procedure_lawful Option.none x p vs = call_lawful _ p vs
    procedure_lawful (some f) x p vs = called_lawful f p vs

-- n calls inside one another: each but the first counted a step after the one before
abbrev pub less_one : ℕ → ℕ
less_one zero = 0
less_one (suc n) = n

less_one_lem : (n : ℕ) → n ≤ suc (less_one n)
less_one_lem zero = omega arith
less_one_lem (suc n) = le_refl (suc n)

pub calling_lawful : (n : ℕ) (fs : List Procedure) (x : List ℕ) (p : ℕ) (vs : List Value) → Lawful language_errors (less_one n) (calling n fs x p vs)
unfolding calling spent
calling_lawful zero fs x p vs = record { plain = λ s. refl; ended = λ s. record { counted = le_refl 0; long = le_refl 0 }; level = λ s d. (_, still) }
calling_lawful (suc n) fs x p vs =
    if_lawful (same_text x (bytes "main")) (fail_20 p)
    (procedure_lawful (λ ss. all_lawful n (less_one n) (less_one_lem n) (calling n fs) (calling_lawful n fs) ss) (procedure_named x fs) x p vs)

-- ---- main
-- what a program paints
abbrev painting_of : ℕ → Tree.Program → ℤ → ℤ → Action (List Figure)
painting_of n tree width height =
    entering tree.main.parameters width height >>= λ _. execute_all (calling n tree.procedures) tree.main.body n >>= λ _.
    give_back >>= λ _. current >>= λ s. each (λ i. figures_of (suc i) 0 i) (shapes_held s.variables)

module _ {n : ℕ} where
  entering_moving : (xs : List (List ℕ)) (width height : ℤ) → Moving language_errors n false true (entering xs width height)
  unfolding entering
  entering_moving [] width height = fail_moving 20 0 is_20
  entering_moving (x ∷ []) width height = fail_moving 20 0 is_20
  entering_moving (x ∷ y ∷ []) width height =
      bind_moving (refuse_lawful _ 60 0 is_60) λ _. bind_moving (begin_moving 0) λ _. shifted (become_lawful _)
  entering_moving (x ∷ y ∷ z ∷ xs) width height = fail_moving 20 0 is_20

  painting_of_lawful : (tree : Tree.Program) (width height : ℤ) → Lawful language_errors n (painting_of n tree width height)
  painting_of_lawful tree width height =
      let run = all_lawful n (less_one n) (less_one_lem n) (calling n tree.procedures) (calling_lawful n tree.procedures) tree.main.body in
      bind_moving (entering_moving tree.main.parameters width height) λ _. bind_moving (shifted run) λ _.
      bind_moving return_moving λ _. bind_lawful current_lawful λ s. each_lawful (λ i. figures_lawful (suc i) 0 i) _

  -- a `def` of another's name is 60
  apart_lawful : (o : Option ℕ) (tree : Tree.Program) → Lawful language_errors n (named_apart o tree)
  unfolding named_apart
  apart_lawful Option.none tree = give_lawful tree
  apart_lawful (some p) tree = fail_lawful 60 p is_60

-- ---- paintings
-- among some numbers, among more
more : {A : Type 0} {ns ns' : List ℕ} {n : ℕ} → ((m : ℕ) → among ns m → among ns' m) → {a : Action A} → Lawful ns n a → Lawful ns' n a
more {A} {ns} {ns'} {n} f {a} h = record { plain = h.plain; ended = λ s. go (a s).takings (a s).end (h.ended s); level = h.level }
  where
    go : (ts : List Event) (e : End A) → Ending ns n ts e → Ending ns' n ts e
    go ts (result b s) h = tt
    go ts (error m p) h = f m h
    go ts unfinished h = h

-- numbers that stand in a longer list
or_later : (a b : Bool) → b ≡ true → a || b ≡ true
or_later true b e = refl
or_later false b e = e

languages : (m : ℕ) → among language_errors m → among errors m
unfolding stands_in
languages m h = or_later (eqb m 10) _ (go (eqb m 20) (eqb m 30) (eqb m 40) (eqb m 50) (eqb m 60) (eqb m 70) _ h)
  where
    go : (a b c d e f g : Bool) → a || (b || (c || (d || (e || (f || false))))) ≡ true → a || (b || (c || (d || (e || (f || g))))) ≡ true
    go true b c d e f g h = refl
    go false true c d e f g h = refl
    go false false true d e f g h = refl
    go false false false true e f g h = refl
    go false false false false true f g h = refl
    go false false false false false true g h = refl
    go false false false false false false g h = let z : ◌≡◌ {A = ℕ} 0 1 = cc in absurd (omega arith)

readings : (m : ℕ) → among reading_errors m → among errors m
unfolding stands_in
readings m h = go (eqb m 10) (eqb m 20) (eqb m 30) (eqb m 40) (eqb m 50) (eqb m 60) (eqb m 70) (eqb m 72) (eqb m 73) (eqb m 74) (eqb m 75) h
  where
    late : (i j : Bool) → i || (j || false) ≡ true → (a b c d e f g h : Bool) → a || (b || (c || (d || (e || (f || (g || (h || (i || (j || false))))))))) ≡ true
    late i j q a b c d e f g h =
        or_later a _ (or_later b _ (or_later c _ (or_later d _ (or_later e _ (or_later f _ (or_later g _ (or_later h _ q)))))))

    go : (a b c d e f g h k i j : Bool) → a || (i || (j || false)) ≡ true → a || (b || (c || (d || (e || (f || (g || (h || (k || (i || (j || false)))))))))) ≡ true
    go true b c d e f g h k i j q = refl
    go false b c d e f g h k i j q = late i j q b c d e f g h k

is_72 : among errors 72
unfolding stands_in
is_72 = refl

is_73 : among errors 73
unfolding stands_in
is_73 = refl

module _ {n : ℕ} where
  understood_lawful : (r : Reading) → LowReading r → Lawful errors n (understood r)
  unfolding understood
  understood_lawful (well_formed m) h = more languages (apart_lawful (doubled [] m.procedures) m)
  understood_lawful (malformed m p) h = fail_lawful m p (readings m h)

  pub sized_lawful : (program : List ℕ) → Lawful errors n (sized program)
  unfolding sized
  sized_lawful program = refuse_lawful _ 73 0 is_73

  pub painting_lawful : (program : List ℕ) (width height : ℤ) → Lawful errors n (painting program width height n)
  unfolding painting sheet
  painting_lawful program width height =
      bind_lawful (refuse_lawful _ 72 0 is_72) λ _. bind_lawful (sized_lawful program) λ _.
      bind_lawful (understood_lawful _ (reading_low program)) λ m. more languages (painting_of_lawful m width height)

-- ---- operations
-- drawing takes the picture too
drawing_ended : {ns : List ℕ} {n : ℕ} {m : Action (List Figure)} (width height : ℤ) → Lawful ns n m →
    Ended ns n ((m >>= λ a. spend picture (length (picture_of width height a)) 0 >>= λ _. give (Program.drawn (picture_of width height a))) empty)
unfolding ◌>>=◌ spend give go_on
drawing_ended {ns} {n} {m} width height h = ended_go ns n (m empty).takings (m empty).end _ (h.ended empty) (λ b s. tt)

performing_ended : (o : Operation) (program : List ℕ) (width height : ℤ) (n : ℕ) →
    Ended errors n (performing o program width height n empty)
unfolding performing
performing_ended checking program width height n =
    (bind_lawful (sized_lawful program) (λ _. bind_lawful (understood_lawful _ (reading_low program)) λ m. give_lawful accepted)).ended empty
performing_ended drawing program width height n = drawing_ended width height (painting_lawful program width height)

-- THE LAW
pub specified_ended : (o : Operation) (program : List ℕ) (width height : ℤ) (n : ℕ) → Ended errors n (specified o program width height n)
unfolding specified
specified_ended o program width height n = performing_ended o program width height n

-- ---- a program that keeps the grammar and the limits, on a sheet
module _ (program : List ℕ) (width height : ℤ) (tree : Tree.Program) (n : ℕ) (formed : reading program ≡ well_formed tree) (short : length program ≤ 32768)
    (a_sheet : lt_z (pos 0) width && lt_z (pos 0) height ≡ true) where
  -- is painted by its procedures alone
  abbrev apart : Action Tree.Program
  apart = named_apart (doubled [] tree.procedures) tree

  painting_is : painting program width height n empty ≡ (apart >>= λ m. painting_of n m width height) empty
  unfolding painting sheet sized understood refuse give ◌>>=◌ go_on
  painting_is = rw (a_sheet, le-ltb 32768 (length program) short, formed)

  painted_ended : Ended language_errors n (painting program width height n empty)
  painted_ended = rw painting_is ((bind_lawful (apart_lawful (doubled [] tree.procedures) tree) (λ m. painting_of_lawful m width height)).ended empty)

  abbrev painted : Run (List Figure)
  painted = painting program width height n empty

  checked_ended : Ended language_errors n ((apart >>= λ m. give accepted) empty)
  checked_ended = (bind_lawful (apart_lawful (doubled [] tree.procedures) tree) (λ m. give_lawful accepted)).ended empty

  formed_ended : (o : Operation) → Ended language_errors n (specified o program width height n)
  unfolding specified performing sized understood refuse give spend ◌>>=◌ go_on
  formed_ended checking = rw (le-ltb 32768 (length program) short, formed) checked_ended
  formed_ended drawing =
      ended_go language_errors n painted.takings painted.end
      (λ a. spend picture (length (picture_of width height a)) 0 >>= λ _. give (Program.drawn (picture_of width height a))) painted_ended (λ a s. tt)

pub language_errors_lem : LanguageErrors
language_errors_lem o program width height tree n m p formed short a_sheet e =
    subst (Ending language_errors n (specified o program width height n).takings) e (formed_ended program width height tree n formed short a_sheet o)
