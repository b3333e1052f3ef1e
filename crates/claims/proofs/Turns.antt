-- More turns of loops, and calls inside one another, only lengthen a run: it stays as it is, or goes on where it was unfinished.
use Prim.Native.Nat.{ℕ, zero, suc, ◌≤◌}
use mathlib.Core.Path.{◌≡◌, refl, ap, sym, ◌∙◌}
use mathlib.Core.Bool.{Bool, true, false}
use mathlib.Core.List.{List, [], ◌∷◌, ◌++◌, append_assoc, append-nil}
use mathlib.Core.Option.{Option, some}
use native.Mathlib.Nat.{not-suc-le-zero, le_of_suc-le-suc}
use lib.IntN.{ℤ}
use Rattle.meaning.specs.Basics.{bytes, if◌then◌otherwise◌, same_text}
use Rattle.meaning.specs.Tree.{Expression, Arguments, no_argument, argument, Procedure, Statement, declare, assign, update, when, while, foreach, return, block, act, Statements, only, first}
use Rattle.meaning.specs.Tree as Tree
use Rattle.meaning.specs.Grammar.{procedure_named}
use Rattle.meaning.specs.Value.{Value, integer, string, boolean, none, table, shape}
use Rattle.meaning.specs.Figure.{Figure}
use Rattle.meaning.specs.State.{State, Content, atom, group, by_content}
use Rattle.meaning.specs.Run.{Event, End, result, error, unfinished, Run, Action, following, go_on, ◌>>=◌}
use Rattle.meaning.specs.Operator.{with_boolean, with_table, with_shape_number, with_group}
use Rattle.meaning.specs.Evaluate.{Invoke, evaluate, evaluate_all}
use Rattle.meaning.specs.Execute.{Flow, onward, returned, continue, looping, turns, iterating, execute, execute_all}
use Rattle.meaning.specs.Procedure.{found, calling}
use Rattle.meaning.specs.Procedure as Procedures
use Rattle.meaning.specs.Program.{Operation, checking, drawing, empty, painting, performing, specified}

-- ---- the relation
-- r' is r; or r is unfinished and r' takes what r takes, and more
pub data Extends {A : Type 0} (r r' : Run A) : Type 0 where
  same : r ≡ r' → Extends r r'
  longer : r.end ≡ unfinished → (more : List Event) → r'.takings ≡ r.takings ++ more → Extends r r'

-- so from every state
record Lengthens {A : Type 0} (m m' : Action A) : Type 0 where
  from : (s : State) → Extends (m s) (m' s)

-- ---- it goes through `do`
after_takings : {A : Type 0} (ts : List Event) {r r' : Run A} → Extends r r' → Extends (following ts r) (following ts r')
after_takings ts (same e) = same (ap (following ts) e)
after_takings ts {r} (longer u more e) = longer u more (ap (λ (l : List Event). ts ++ l) e ∙ sym (append_assoc ts r.takings more))

module _ {A B : Type 0} where
  go_same : (ts : List Event) (e : End A) (k k' : A → Action B) → ((a : A) → Lengthens (k a) (k' a)) →
      Extends (go_on ts e k) (go_on ts e k')
  unfolding go_on
  go_same ts (result a s) k k' h = after_takings ts ((h a).from s)
  go_same ts (error n p) k k' h = same refl
  go_same ts unfinished k k' h = same refl

  -- what follows comes behind
  go_behind : (ts : List Event) (e : End A) (k : A → Action B) → (more : List Event) × ((go_on ts e k).takings ≡ ts ++ more)
  unfolding go_on
  go_behind ts (result a s) k = ((k a s).takings, refl)
  go_behind ts (error n p) k = ([], sym (append-nil ts))
  go_behind ts unfinished k = ([], sym (append-nil ts))

  go_on_lem : (r r' : Run A) (k k' : A → Action B) → Extends r r' → ((a : A) → Lengthens (k a) (k' a)) →
      Extends (go_on r.takings r.end k) (go_on r'.takings r'.end k')
  unfolding go_on
  go_on_lem r r' k k' (same e) h = rw e (go_same r'.takings r'.end k k' h)
  go_on_lem r r' k k' (longer u more e) h =
      let w = go_behind r'.takings r'.end k' in
      rw u (longer refl (more ++ w.0) (w.1 ∙ ap (λ (l : List Event). l ++ w.0) e ∙ append_assoc r.takings more w.0))

  bind_lengthens : {m m' : Action A} {k k' : A → Action B} → Lengthens m m' → ((a : A) → Lengthens (k a) (k' a)) →
      Lengthens (m >>= k) (m' >>= k')
  unfolding ◌>>=◌
  bind_lengthens {m} {m'} {k} {k'} h f = record { from = λ s. go_on_lem (m s) (m' s) k k' (h.from s) f }

-- ---- and through the rest
unchanged : {A : Type 0} {m : Action A} → Lengthens m m
unchanged = record { from = λ s. same refl }

if_lengthens : {A : Type 0} (b : Bool) {x x' y y' : Action A} → Lengthens x x' → Lengthens y y' →
    Lengthens (if b then (λ _. x) otherwise λ _. y) (if b then (λ _. x') otherwise λ _. y')
unfolding if◌then◌otherwise◌
if_lengthens true h f = h
if_lengthens false h f = f

boolean_lengthens : {A : Type 0} (p : ℕ) (v : Value) {k k' : Bool → Action A} → ((b : Bool) → Lengthens (k b) (k' b)) →
    Lengthens (with_boolean p v k) (with_boolean p v k')
unfolding with_boolean
boolean_lengthens p (integer z) h = unchanged
boolean_lengthens p (string t) h = unchanged
boolean_lengthens p (boolean b) h = h b
boolean_lengthens p none h = unchanged
boolean_lengthens p (table t) h = unchanged
boolean_lengthens p (shape i) h = unchanged

table_lengthens : {A : Type 0} (p : ℕ) (v : Value) {k k' : ℕ → Action A} → ((t : ℕ) → Lengthens (k t) (k' t)) →
    Lengthens (with_table p v k) (with_table p v k')
unfolding with_table
table_lengthens p (integer z) h = unchanged
table_lengthens p (string t) h = unchanged
table_lengthens p (boolean b) h = unchanged
table_lengthens p none h = unchanged
table_lengthens p (table t) h = h t
table_lengthens p (shape i) h = unchanged

content_lengthens : {A : Type 0} (c : Content) {f f' : Figure → Action A} {g g' : List ℕ → Action A} → ((a : Figure) → Lengthens (f a) (f' a)) →
    ((is : List ℕ) → Lengthens (g is) (g' is)) → Lengthens (by_content c f g) (by_content c f' g')
unfolding by_content
content_lengthens (atom a) h k = h a
content_lengthens (group is) h k = k is

group_lengthens : {A : Type 0} (p : ℕ) (v : Value) {k k' : List ℕ → Action A} → ((is : List ℕ) → Lengthens (k is) (k' is)) →
    Lengthens (with_group p v k) (with_group p v k')
unfolding with_group with_shape_number
group_lengthens p (integer z) h = unchanged
group_lengthens p (string t) h = unchanged
group_lengthens p (boolean b) h = unchanged
group_lengthens p none h = unchanged
group_lengthens p (table t) h = unchanged
group_lengthens p (shape i) h = bind_lengthens unchanged λ s. content_lengthens _ (λ a. unchanged) h

continue_lengthens : (f : Flow) {k k' : Action Flow} → Lengthens k k' → Lengthens (continue f k) (continue f k')
unfolding continue
continue_lengthens onward h = h
continue_lengthens (returned v) h = unchanged

loop_lengthens : (n n' p : ℕ) {test test' : Action Value} {body body' : Action Flow} → n ≤ n' → Lengthens test test' → Lengthens body body' →
    Lengthens (looping n p test body) (looping n' p test' body')
unfolding looping
loop_lengthens zero n' p l t h = record { from = λ s. longer refl _ refl }
loop_lengthens (suc n) zero p l t h = absurd (not-suc-le-zero l)
loop_lengthens (suc n) (suc n') p l t h =
    bind_lengthens unchanged λ _. bind_lengthens t λ v. boolean_lengthens p v λ b.
    if_lengthens b (bind_lengthens h λ f. continue_lengthens f (loop_lengthens n n' p (le_of_suc-le-suc l) t h)) unchanged

turns_lengthens : {visit visit' : ℕ → Action Flow} → ((i : ℕ) → Lengthens (visit i) (visit' i)) → (is : List ℕ) → Lengthens (turns visit is) (turns visit' is)
unfolding turns
turns_lengthens h [] = unchanged
turns_lengthens h (i ∷ is) =
    bind_lengthens unchanged λ s. bind_lengthens (if_lengthens _ unchanged (h i)) λ f. continue_lengthens f (turns_lengthens h is)

iterating_lengthens : (b : ℕ) {body body' : ℕ → Action Flow} → ((i : ℕ) → Lengthens (body i) (body' i)) → (i : ℕ) →
    Lengthens (iterating b body i) (iterating b body' i)
unfolding iterating
iterating_lengthens zero h i = unchanged
iterating_lengthens (suc b) h i = bind_lengthens unchanged λ s. content_lengthens _ (λ a. h i) (turns_lengthens (iterating_lengthens b h))

-- ---- expressions and statements, if calls do so
module _ (invoke invoke' : Invoke) (called : (x : List ℕ) (p : ℕ) (vs : List Value) → Lengthens (invoke x p vs) (invoke' x p vs)) where
  mutual
    unfolding evaluate evaluate_all

    evaluate_lengthens : (e : Expression) (p : ℕ) → Lengthens (evaluate invoke e p) (evaluate invoke' e p)
    evaluate_lengthens (Tree.number z) p = unchanged
    evaluate_lengthens (Tree.string t) p = unchanged
    evaluate_lengthens Tree.nothing p = unchanged
    evaluate_lengthens (Tree.truth b) p = unchanged
    evaluate_lengthens (Tree.name x) p = unchanged
    evaluate_lengthens (Tree.table e) p = bind_lengthens unchanged λ _. bind_lengthens (evaluate_lengthens e p) λ v. unchanged
    evaluate_lengthens (Tree.entry a b) p =
        bind_lengthens unchanged λ _. bind_lengthens (evaluate_lengthens a p) λ v. table_lengthens p v λ t.
        bind_lengthens (evaluate_lengthens b p) λ k. unchanged
    evaluate_lengthens (Tree.operation o a b) p =
        bind_lengthens unchanged λ _. bind_lengthens (evaluate_lengthens a p) λ v. bind_lengthens (evaluate_lengthens b p) λ w. unchanged
    evaluate_lengthens (Tree.call f es) p = bind_lengthens unchanged λ _. bind_lengthens (arguments_lengthens es p) λ vs. called f p vs
    evaluate_lengthens (Tree.paren e) p = evaluate_lengthens e p

    arguments_lengthens : (es : Arguments) (p : ℕ) → Lengthens (evaluate_all invoke es p) (evaluate_all invoke' es p)
    arguments_lengthens no_argument p = unchanged
    arguments_lengthens (argument e es) p =
        bind_lengthens (evaluate_lengthens e p) λ v. bind_lengthens (arguments_lengthens es p) λ vs. unchanged

  mutual
    unfolding execute execute_all

    execute_lengthens : (s : Statement) {n n' : ℕ} → n ≤ n' → Lengthens (execute invoke s n) (execute invoke' s n')
    execute_lengthens (declare p x) l = unchanged
    execute_lengthens (assign p x e) l = bind_lengthens unchanged λ _. bind_lengthens (evaluate_lengthens e p) λ v. unchanged
    execute_lengthens (update p a b e) l =
        bind_lengthens unchanged λ _. bind_lengthens (evaluate_lengthens a p) λ v. table_lengthens p v λ t.
        bind_lengthens (evaluate_lengthens b p) λ k. bind_lengthens (evaluate_lengthens e p) λ u. unchanged
    execute_lengthens (when p e s) l =
        bind_lengthens unchanged λ _. bind_lengthens (evaluate_lengthens e p) λ v. boolean_lengthens p v λ b.
        if_lengthens b (execute_lengthens s l) unchanged
    execute_lengthens (while p e s) {n} {n'} l = loop_lengthens n n' p l (evaluate_lengthens e p) (execute_lengthens s l)
    execute_lengthens (foreach p x e t) l =
        bind_lengthens unchanged λ _. bind_lengthens (evaluate_lengthens e p) λ v. bind_lengthens unchanged λ _. group_lengthens p v λ is.
        bind_lengthens unchanged λ _. turns_lengthens (λ i. bind_lengthens unchanged λ _. iterating_lengthens (suc i)
        (λ j. bind_lengthens unchanged λ _. execute_lengthens t l) i) is
    execute_lengthens (return p e) l = bind_lengthens unchanged λ _. bind_lengthens (evaluate_lengthens e p) λ v. unchanged
    execute_lengthens (block p ss) l = bind_lengthens unchanged λ _. all_lengthens ss l
    execute_lengthens (act p e) l = bind_lengthens unchanged λ _. bind_lengthens (evaluate_lengthens e p) λ v. unchanged

    all_lengthens : (ss : Statements) {n n' : ℕ} → n ≤ n' → Lengthens (execute_all invoke ss n) (execute_all invoke' ss n')
    all_lengthens (only s) l = execute_lengthens s l
    all_lengthens (first s ss) l = bind_lengthens (execute_lengthens s l) λ f. continue_lengthens f (all_lengthens ss l)

-- ---- calls
module _ {body body' : Statements → Action Flow} (h : (ss : Statements) → Lengthens (body ss) (body' ss)) where
  called_lengthens : (f : Procedure) (p : ℕ) (vs : List Value) → Lengthens (Procedures.invoking body f p vs) (Procedures.invoking body' f p vs)
  unfolding Procedures.invoking
  called_lengthens f p vs =
      bind_lengthens unchanged λ _. bind_lengthens unchanged λ _. bind_lengthens unchanged λ _. bind_lengthens unchanged λ s.
      bind_lengthens unchanged λ _. bind_lengthens unchanged λ _. bind_lengthens (h f.body) λ flow. unchanged

  found_lengthens : (o : Option Procedure) (x : List ℕ) (p : ℕ) (vs : List Value) → Lengthens (found body o x p vs) (found body' o x p vs)
  unfolding found
  found_lengthens Option.none x p vs = unchanged
  found_lengthens (some f) x p vs = called_lengthens f p vs

calling_lengthens : (n n' : ℕ) (fs : List Procedure) → n ≤ n' → (x : List ℕ) (p : ℕ) (vs : List Value) →
    Lengthens (calling n fs x p vs) (calling n' fs x p vs)
unfolding calling
calling_lengthens zero n' fs l x p vs = record { from = λ s. longer refl _ refl }
calling_lengthens (suc n) zero fs l x p vs = absurd (not-suc-le-zero l)
calling_lengthens (suc n) (suc n') fs l x p vs =
    let l' = le_of_suc-le-suc l in
    if_lengthens (same_text x (bytes "main")) unchanged
    (found_lengthens (λ ss. all_lengthens (calling n fs) (calling n' fs) (calling_lengthens n n' fs l') ss l') (procedure_named x fs) x p vs)

-- ---- operations
painting_lengthens : (program : List ℕ) (width height : ℤ) {n n' : ℕ} → n ≤ n' →
    Lengthens (painting program width height n) (painting program width height n')
unfolding painting
painting_lengthens program width height {n} {n'} l =
    bind_lengthens unchanged λ _. bind_lengthens unchanged λ _. bind_lengthens unchanged λ m. bind_lengthens unchanged λ _.
    bind_lengthens (all_lengthens (calling n m.procedures) (calling n' m.procedures) (calling_lengthens n n' m.procedures l) m.main.body l) λ _. unchanged

performing_lengthens : (o : Operation) (program : List ℕ) (width height : ℤ) {n n' : ℕ} → n ≤ n' →
    Lengthens (performing o program width height n) (performing o program width height n')
unfolding performing
performing_lengthens checking program width height l = unchanged
performing_lengthens drawing program width height l = bind_lengthens (painting_lengthens program width height l) λ b. unchanged

-- THE LAW
pub specified_extends : (o : Operation) (program : List ℕ) (width height : ℤ) (n n' : ℕ) → n ≤ n' →
    Extends (specified o program width height n) (specified o program width height n')
unfolding specified
specified_extends o program width height n n' l = (performing_lengthens o program width height l).from empty
