-- Components are always older than their group: what each action leaves of that.
use Prim.Native.Nat.{ℕ, zero, suc, ◌≤◌, ◌<◌}
use mathlib.Core.Path.{◌≡◌, refl, ap, sym, subst}
use mathlib.Core.Bool.{Bool, true, false}
use mathlib.Core.List.{List, [], ◌∷◌, ◌++◌}
use mathlib.Core.Option.{Option, some}
use native.Mathlib.Omega.{arith}
use native.Mathlib.Nat.{le_refl, le_trans}
use lib.ListN.{length, get_or, set, length-append, get_or-eq_default, get_or-append}
use lib.Seq.{get_or-append_seam}
use lib.IntN.{ℤ}
use lib.Dec.{eqb, ltb}
use borrow.Author.Tests.{ltb-true, ltb-false, eqb-true, eqb-false}
use Rattle.meaning.specs.Basics.{bytes, if◌then◌otherwise◌, same_text}
use Rattle.meaning.specs.Figure.{Figure}
use Rattle.meaning.specs.Tree.{Operator, concatenate, add, subtract, multiply, divide, remainder, shift_right, shift_left, equal, unequal, greater, less}
use Rattle.meaning.specs.Tree.{Expression, Arguments, no_argument, argument, Statement, declare, assign, update, when, while, foreach, return, block, act, Statements, only, first, Procedure}
use Rattle.meaning.specs.Tree as Tree
use Rattle.meaning.specs.Grammar.{procedure_named, Reading, well_formed, malformed, reading}
use Rattle.meaning.specs.Value.{Value, integer, string, boolean, none, table, shape}
use Rattle.meaning.specs.State.{State, Variable, Content, atom, group, Shape, Key, Entry}
use Rattle.meaning.specs.State.{value_in, is_declared, assigned, with_variables, fresh, entered, resumed, no_shape, content_of, by_content, components_in}
use Rattle.meaning.specs.State.{with_shapes, with_shape, destroy, shape_in, shapes_held, shapes_held_by, matches, entry_in, overwritten, with_entries, with_new_table}
use Rattle.meaning.specs.Run.{Resource, steps, shapes, entries, text_bytes, calls, Event, End, result, error, unfinished, Action, go_on, ◌>>=◌, give, fail, spend, give_back, refuse, current, become}
use Rattle.meaning.specs.Group.{spend_each, new_shape, each, destroying, remade, figures_of, pairwise, alike}
use Rattle.meaning.specs.Operator.{usable, with_integer, with_string, with_boolean, with_table, with_shape_number, with_figure, with_group, new_string, calculated, compared, remaindered, joined}
use Rattle.meaning.specs.Operator.{Comparison, refused, settled, of_shapes, answered, equated, operate_on, operate}
use Rattle.meaning.specs.Library.{Library, draw_line, draw_ellipse, draw_box, draw_text, connect_shapes, draw_text_on_shape, x_coordinate, y_coordinate, destroy_shape, clear_scene, draw_group}
use Rattle.meaning.specs.Library.{with_none, with_one, with_two, with_three, with_four, shape_numbers, draw, draw_figure, perform, all_usable, call_library}
use Rattle.meaning.specs.Evaluate.{looked_up, variable, new_table, keyed, entry_of, Invoke, evaluate, evaluate_all}
use Rattle.meaning.specs.Execute.{Flow, onward, returned, continue, declaring, copied, assigning, storing, updating, looping, declaring_once, binding, turns, iterating, execute, execute_all}
use Rattle.meaning.specs.Procedure.{doubled, assigning_all, returned_by, found, calling}
use Rattle.meaning.specs.Procedure as Procedures
use Rattle.meaning.specs.Program.{empty, entering, sheet, sized, named_apart, understood, painting}
use Rattle.claims.specs.Claims.{Below, done, next, shapes_stored, Older, ComponentsAreOlder}
use Rattle.meaning.proofs.StateLaws.{length_destroy}

-- ---- numbers below
pub below_later : {m n : ℕ} {is : List ℕ} → m ≤ n → Below m is → Below n is
below_later l done = done
below_later l (next h k) = next (le_trans h l) (below_later l k)

pub below_append : {n : ℕ} {is js : List ℕ} → Below n is → Below n js → Below n (is ++ js)
below_append done k = k
below_append (next l h) k = next l (below_append h k)

below_front : {n : ℕ} (is js : List ℕ) → Below n (is ++ js) → Below n is
below_front [] js h = done
below_front (i ∷ is) js (next l h) = next l (below_front is js h)

below_behind : {n : ℕ} (is js : List ℕ) → Below n (is ++ js) → Below n js
below_behind [] js h = h
below_behind (i ∷ is) js (next l h) = below_behind is js h

-- ---- shapes
set_content : (ss : List Shape) (i j : ℕ) (x : Shape) → x.content ≡ (get_or ss i no_shape).content → (get_or (set ss i x) j no_shape).content ≡ (get_or ss j no_shape).content
set_content [] i j x e = refl
set_content (y ∷ ss) zero zero x e = e
set_content (y ∷ ss) zero (suc j) x e = refl
set_content (y ∷ ss) (suc i) zero x e = refl
set_content (y ∷ ss) (suc i) (suc j) x e = set_content ss i j x e

destroyed_content : (ss : List Shape) (i j : ℕ) → (get_or (destroy ss i) j no_shape).content ≡ (get_or ss j no_shape).content
unfolding destroy
destroyed_content ss i j = set_content ss i j _ refl

-- a shape more, whose components are there
module _ (ss : List Shape) (x : Shape) (older : (i : ℕ) → Below i (components_in (get_or ss i no_shape).content)) (new : Below (length ss) (components_in x.content)) where
  more_older : (i : ℕ) → Below i (components_in (get_or (ss ++ (x ∷ [])) i no_shape).content)
  unfolding components_in
  more_older i = by (ltb i (length ss)) refl
    where
      last : (b : Bool) → eqb i (length ss) ≡ b → ltb i (length ss) ≡ false → Below i (components_in (get_or (ss ++ (x ∷ [])) i no_shape).content)
      last true e l = rw (eqb-true i (length ss) e, get_or-append_seam ss x [] no_shape) new
      last false e l =
          let far : length ss < i = omega (arith, ltb-false i (length ss) l, eqb-false i (length ss) e) in
          let past : length (ss ++ (x ∷ [])) ≤ i = omega (arith, length-append ss (x ∷ [])) in
          rw (get_or-eq_default (ss ++ (x ∷ [])) no_shape past) done

      by : (b : Bool) → ltb i (length ss) ≡ b → Below i (components_in (get_or (ss ++ (x ∷ [])) i no_shape).content)
      by true l = rw (get_or-append ss (x ∷ []) no_shape i (ltb-true i (length ss) l)) (older i)
      by false l = last (eqb i (length ss)) refl l

-- no shape is beyond the last
none_past : (ss : List Shape) (i : ℕ) → length ss ≤ i → components_in (get_or ss i no_shape).content ≡ []
unfolding components_in
none_past ss i l = ap (λ (x : Shape). components_in x.content) (get_or-eq_default ss no_shape l)

pub components_there : (s : State) → Older s → (i : ℕ) → Below (length s.shapes) (components_in (content_of s i))
components_there s h i = by (ltb i (length s.shapes)) refl
  where
    by : (b : Bool) → ltb i (length s.shapes) ≡ b → Below (length s.shapes) (components_in (content_of s i))
    by true l = let q = ltb-true i (length s.shapes) l in below_later (omega (arith, q)) (h.components i)
    by false l = subst (Below (length s.shapes)) (sym (none_past s.shapes i (ltb-false i (length s.shapes) l))) done

-- ---- values
-- the shapes that values are are there
pub data AllThere : ℕ → List Value → Type 0 where
  all_done : {n : ℕ} → AllThere n []
  and_next : {n : ℕ} {v : Value} {vs : List Value} → Below n (shape_in v) → AllThere n vs → AllThere n (v ∷ vs)

all_later : {m n : ℕ} {vs : List Value} → m ≤ n → AllThere m vs → AllThere n vs
all_later l all_done = all_done
all_later l (and_next h k) = and_next (below_later l h) (all_later l k)

assigned_below : {n : ℕ} (vs : List Variable) (x : List ℕ) (u : Value) → Below n (shapes_held vs) → Below n (shape_in u) → Below n (shapes_held (assigned vs x u))
unfolding assigned shapes_held if◌then◌otherwise◌
assigned_below [] x u h k = done
assigned_below {n} (v ∷ vs) x u h k = by (same_text v.name x) (assigned_below vs x u (below_behind (shape_in v.holds) _ h) k)
  where
    by : (t : Bool) → Below n (shapes_held (assigned vs x u)) →
        Below n (shapes_held (if t then (λ _. record { name = v.name; holds = u } ∷ vs) otherwise λ _. v ∷ assigned vs x u))
    by true q = below_append k (below_behind (shape_in v.holds) _ h)
    by false q = below_append (below_front (shape_in v.holds) _ h) q

declared_below : {n : ℕ} (vs : List Variable) (x : List ℕ) → Below n (shapes_held vs) → Below n (shapes_held (vs ++ (record { name = x; holds = none } ∷ [])))
unfolding shapes_held shape_in
declared_below [] x h = done
declared_below (v ∷ vs) x h = below_append (below_front (shape_in v.holds) _ h) (declared_below vs x (below_behind (shape_in v.holds) _ h))

fresh_below : {n : ℕ} (xs : List (List ℕ)) → Below n (shapes_held (fresh xs))
unfolding fresh shapes_held shape_in
fresh_below [] = done
fresh_below (x ∷ xs) = fresh_below xs

waiting_below : {n : ℕ} (vss : List (List Variable)) (vs : List Variable) → Below n (shapes_held_by vss) → Below n (shapes_held vs) →
    Below n (shapes_held_by (vss ++ (vs ∷ [])))
unfolding shapes_held_by
waiting_below [] vs h k = below_append k done
waiting_below (us ∷ vss) vs h k = below_append (below_front (shapes_held us) _ h) (waiting_below vss vs (below_behind (shapes_held us) _ h) k)

overwritten_below : {n : ℕ} (es : List Entry) (t : ℕ) (k : Key) (u : Value) → Below n (shapes_stored es) → Below n (shape_in u) →
    Below n (shapes_stored (overwritten es t k u))
unfolding overwritten shapes_stored if◌then◌otherwise◌
overwritten_below [] t k u h q = done
overwritten_below {n} (e ∷ es) t k u h q = by (matches e t k) (overwritten_below es t k u (below_behind (shape_in e.holds) _ h) q)
  where
    by : (b : Bool) → Below n (shapes_stored (overwritten es t k u)) →
        Below n (shapes_stored (if b then (λ _. record { owner = e.owner; key = e.key; holds = u } ∷ es) otherwise λ _. e ∷ overwritten es t k u))
    by true r = below_append q (below_behind (shape_in e.holds) _ h)
    by false r = below_append (below_front (shape_in e.holds) _ h) r

stored_below : {n : ℕ} (es : List Entry) (e : Entry) → Below n (shapes_stored es) → Below n (shape_in e.holds) → Below n (shapes_stored (es ++ (e ∷ [])))
unfolding shapes_stored
stored_below [] e h k = below_append k done
stored_below (d ∷ es) e h k = below_append (below_front (shape_in d.holds) _ h) (stored_below es e (below_behind (shape_in d.holds) _ h) k)

-- what is looked up
abbrev FoundThere : ℕ → Option Value → Type 0
FoundThere n Option.none = Unit {0}
FoundThere n (some v) = Below n (shape_in v)

value_there : (n : ℕ) (vs : List Variable) (x : List ℕ) → Below n (shapes_held vs) → FoundThere n (value_in vs x)
unfolding value_in shapes_held if◌then◌otherwise◌
value_there n [] x h = tt
value_there n (v ∷ vs) x h = by (same_text v.name x) (value_there n vs x (below_behind (shape_in v.holds) _ h))
  where
    by : (t : Bool) → FoundThere n (value_in vs x) → FoundThere n (if t then (λ _. some v.holds) otherwise λ _. value_in vs x)
    by true q = below_front (shape_in v.holds) _ h
    by false q = q

entry_there : (n : ℕ) (es : List Entry) (t : ℕ) (k : Key) → Below n (shapes_stored es) → FoundThere n (entry_in es t k)
unfolding entry_in shapes_stored if◌then◌otherwise◌
entry_there n [] t k h = tt
entry_there n (e ∷ es) t k h = by (matches e t k) (entry_there n es t k (below_behind (shape_in e.holds) _ h))
  where
    by : (b : Bool) → FoundThere n (entry_in es t k) → FoundThere n (if b then (λ _. some e.holds) otherwise λ _. entry_in es t k)
    by true q = below_front (shape_in e.holds) _ h
    by false q = q

-- ---- states
abbrev pub made : State → ℕ
made s = length s.shapes

empty_older : Older empty
unfolding components_in shapes_held shapes_held_by shapes_stored
empty_older = record { components = λ i. done; held = done; waiting = done; stored = done }

-- other variables
variables_older : (s : State) (vs : List Variable) → Older s → Below (made s) (shapes_held vs) → Older (with_variables s vs)
variables_older s vs o h = record { components = o.components; held = h; waiting = o.waiting; stored = o.stored }

entries_older : (s : State) (es : List Entry) → Older s → Below (made s) (shapes_stored es) → Older (with_entries s es)
entries_older s es o h = record { components = o.components; held = o.held; waiting = o.waiting; stored = h }

table_older : (s : State) → Older s → Older (with_new_table s)
table_older s o = record { components = o.components; held = o.held; waiting = o.waiting; stored = o.stored }

shape_older : (s : State) (c : Content) → Older s → Below (made s) (components_in c) → Older (with_shape s c)
unfolding with_shape
shape_older s c o h =
    let x : Shape = record { content = c; destroyed = false } in
    let l : made s ≤ length (s.shapes ++ (x ∷ [])) = omega (arith, length-append s.shapes (x ∷ [])) in
    record {
      components = more_older s.shapes x o.components h;
      held = below_later l o.held;
      waiting = below_later l o.waiting;
      stored = below_later l o.stored;
    }

shape_grows : (s : State) (c : Content) → suc (made s) ≤ made (with_shape s c)
unfolding with_shape
shape_grows s c = omega (arith, length-append s.shapes (record { content = c; destroyed = false } ∷ []))

pub destroyed_older : (s : State) (i : ℕ) → Older s → Older (with_shapes s (destroy s.shapes i))
destroyed_older s i o = record {
  components = λ j. rw (destroyed_content s.shapes i j) (o.components j);
  held = rw (length_destroy s.shapes i) o.held;
  waiting = rw (length_destroy s.shapes i) o.waiting;
  stored = rw (length_destroy s.shapes i) o.stored;
}

-- a call begins, and returns
entered_older : (s : State) (xs : List (List ℕ)) → Older s → Older (entered s (fresh xs))
entered_older s xs o = record {
  components = o.components;
  held = fresh_below xs;
  waiting = waiting_below s.suspended s.variables o.waiting o.held;
  stored = o.stored;
}

resumed_older : (s s' : State) → Older s → Older s' → made s ≤ made s' → Older (resumed s s')
resumed_older s s' o o' l = record {
  components = o'.components;
  held = below_later l o.held;
  waiting = below_later l o.waiting;
  stored = o'.stored;
}

-- ---- the relation
-- an end, after at least b shapes, in a state with older components; P holds of the number of shapes then and of the result
abbrev pub Left : {A : Type 0} → ℕ → (ℕ → A → Type 0) → End A → Type 0
Left b P (result a s) = Older s × (b ≤ made s) × P (made s) a
Left b P (error m p) = Unit {0}
Left b P unfinished = Unit {0}

pub record Keeps {A : Type 0} (b : ℕ) (P : ℕ → A → Type 0) (m : Action A) : Type 0 where
  pub kept : (s : State) → Older s → b ≤ made s → Left b P (m s).end

-- what is said of results
abbrev pub Anything : {A : Type 0} → ℕ → A → Type 0
Anything n a = Unit {0}

abbrev pub Number : ℕ → ℕ → Type 0
Number n i = i < n

abbrev pub Fits : ℕ → Value → Type 0
Fits n v = Below n (shape_in v)

abbrev pub FlowFits : ℕ → Flow → Type 0
FlowFits n onward = Unit {0}
FlowFits n (returned v) = Below n (shape_in v)

-- ---- it goes through `do`
left_sooner : {A : Type 0} (b c : ℕ) (P : ℕ → A → Type 0) (e : End A) → b ≤ c → Left c P e → Left b P e
left_sooner b c P (result a s) l h = (h.0, le_trans l h.1, h.2)
left_sooner b c P (error m p) l h = tt
left_sooner b c P unfinished l h = tt

module _ {A B : Type 0} where
  go_keeps : (b : ℕ) (P : ℕ → A → Type 0) (Q : ℕ → B → Type 0) (ts : List Event) (e : End A) (k : A → Action B) → Left b P e →
      ((c : ℕ) → b ≤ c → (a : A) → P c a → Keeps c Q (k a)) → Left b Q (go_on ts e k).end
  unfolding go_on
  go_keeps b P Q ts (result a s) k h f = left_sooner b (made s) Q (k a s).end h.1 ((f (made s) h.1 a h.2).kept s h.0 (le_refl (made s)))
  go_keeps b P Q ts (error m p) k h f = tt
  go_keeps b P Q ts unfinished k h f = tt

  pub bind_keeps : {b : ℕ} {P : ℕ → A → Type 0} {Q : ℕ → B → Type 0} {m : Action A} {k : A → Action B} → Keeps b P m →
      ((c : ℕ) → b ≤ c → (a : A) → P c a → Keeps c Q (k a)) → Keeps b Q (m >>= k)
  unfolding ◌>>=◌
  bind_keeps {b} {P} {Q} {m} {k} h f = record { kept = λ s o l. go_keeps b P Q (m s).takings (m s).end k (h.kept s o l) f }

--- ---- the smallest actions
pub give_keeps : {A : Type 0} {b : ℕ} {P : ℕ → A → Type 0} (a : A) → ((c : ℕ) → b ≤ c → P c a) → Keeps b P (give a)
unfolding give
give_keeps a h = record { kept = λ s o l. (o, l, h (made s) l) }

fail_keeps : {A : Type 0} {b : ℕ} {P : ℕ → A → Type 0} (m p : ℕ) → Keeps b P (fail m p)
unfolding fail
fail_keeps m p = record { kept = λ s o l. tt }

spend_keeps : {b : ℕ} (r : Resource) (a p : ℕ) → Keeps b Anything (spend r a p)
unfolding spend
spend_keeps r a p = record { kept = λ s o l. (o, l, tt) }

back_keeps : {b : ℕ} → Keeps b Anything give_back
unfolding give_back
back_keeps = record { kept = λ s o l. (o, l, tt) }

refuse_keeps : {b : ℕ} (t : Bool) (m p : ℕ) → Keeps b Anything (refuse t m p)
unfolding refuse
refuse_keeps true m p = fail_keeps m p
refuse_keeps false m p = give_keeps tt λ c l. tt

-- the state now, and another in its place
pub current_keeps : {B : Type 0} {b : ℕ} {Q : ℕ → B → Type 0} {k : State → Action B} → ((s : State) → Older s → b ≤ made s → Keeps (made s) Q (k s)) → Keeps b Q (current >>= k)
unfolding current ◌>>=◌ go_on
current_keeps {b = b} {Q} {k} h = record { kept = λ s o l. left_sooner b (made s) Q (k s s).end l ((h s o l).kept s o (le_refl (made s))) }

pub become_keeps : {b : ℕ} (t : State) → Older t → b ≤ made t → Keeps b (λ n _. made t ≤ n) (become t)
unfolding become
become_keeps t h l = record { kept = λ s o q. (h, l, le_refl (made t)) }

pub quiet : {A : Type 0} {b : ℕ} {P : ℕ → A → Type 0} {m : Action A} → Keeps b P m → Keeps b Anything m
quiet {A} {b} {P} {m} h = record { kept = λ s o l. go (m s).end (h.kept s o l) }
  where
    go : (e : End A) → Left b P e → Left b Anything e
    go (result a s) k = (k.0, k.1, tt)
    go (error n p) k = tt
    go unfinished k = tt

pub if_keeps : {A : Type 0} {b : ℕ} {P : ℕ → A → Type 0} (t : Bool) {x y : Action A} → Keeps b P x → Keeps b P y → Keeps b P (if t then (λ _. x) otherwise λ _. y)
unfolding if◌then◌otherwise◌
if_keeps true h f = h
if_keeps false h f = f

pub content_keeps : {A : Type 0} {b : ℕ} {P : ℕ → A → Type 0} (c : Content) {f : Figure → Action A} {g : List ℕ → Action A} → ((a : Figure) → Keeps b P (f a)) →
    ((is : List ℕ) → components_in c ≡ is → Keeps b P (g is)) → Keeps b P (by_content c f g)
unfolding by_content components_in
content_keeps (atom a) h k = h a
content_keeps (group is) h k = k is refl

-- ---- shapes and groups
pub count_keeps : {b : ℕ} (p : ℕ) → Keeps b Anything (spend steps 1 p)
count_keeps p = spend_keeps steps 1 p

entries_keeps : (b : ℕ) (m p : ℕ) → Keeps b Anything (spend_each entries m p)
unfolding spend_each
entries_keeps b zero p = give_keeps tt λ c l. tt
entries_keeps b (suc m) p = bind_keeps (spend_keeps entries 1 p) λ c l _ _. entries_keeps c m p

pub new_shape_keeps : {b : ℕ} (p : ℕ) (c : Content) → Below b (components_in c) → Keeps b Number (new_shape p c)
unfolding new_shape
new_shape_keeps p c h =
    bind_keeps (spend_keeps shapes 1 p) λ b₁ l₁ _ _. bind_keeps (entries_keeps b₁ _ p) λ b₂ l₂ _ _. current_keeps λ s o l₃.
    let g = shape_grows s c in
    bind_keeps (become_keeps (with_shape s c) (shape_older s c o (below_later (le_trans l₁ (le_trans l₂ l₃)) h)) (omega (arith, g))) λ b₄ l₄ _ q.
    give_keeps (made s) λ b₅ l₅. le_trans g (le_trans q l₅)

-- what is gathered, of lists
pub record Gathers {A : Type 0} (P : ℕ → List A → Type 0) : Type 0 where
  pub nothing_yet : (n : ℕ) → P n []
  pub both : (n : ℕ) (xs ys : List A) → P n xs → P n ys → P n (xs ++ ys)
  pub still : (m n : ℕ) (xs : List A) → m ≤ n → P m xs → P n xs

pub figures_gather : {A : Type 0} → Gathers {A = A} Anything
figures_gather = record { nothing_yet = λ n. tt; both = λ n xs ys h k. tt; still = λ m n xs l h. tt }

pub numbers_gather : Gathers Below
numbers_gather = record { nothing_yet = λ n. done; both = λ n xs ys h k. below_append h k; still = λ m n xs l h. below_later l h }

pub each_keeps : {A : Type 0} {P : ℕ → List A → Type 0} (b : ℕ) {visit : ℕ → Action (List A)} → Gathers P → ((c i : ℕ) → i < c → Keeps c P (visit i)) →
    (is : List ℕ) → Below b is → Keeps b P (each visit is)
unfolding each
each_keeps b g h [] done = give_keeps [] λ c l. g.nothing_yet c
each_keeps b g h (i ∷ is) (next q r) =
    current_keeps λ s o l.
    bind_keeps (if_keeps _ (give_keeps [] λ c k. g.nothing_yet c) (h (made s) i (le_trans q l))) λ c k xs x.
    bind_keeps (each_keeps c g h is (below_later (le_trans l k) r)) λ d k' ys y.
    give_keeps (xs ++ ys) λ e k''. g.both e xs ys (g.still c e xs (le_trans k' k'') x) (g.still d e ys k'' y)

pub destroying_keeps : (c b p i : ℕ) → i < c → Keeps c Anything (destroying b p i)
unfolding destroying
destroying_keeps c zero p i l = give_keeps [] λ d k. tt
destroying_keeps c (suc b) p i l =
    current_keeps λ s o k.
    let e = length_destroy s.shapes i in
    bind_keeps (become_keeps (with_shapes s (destroy s.shapes i)) (destroyed_older s i o) (omega (arith, e))) λ d k' _ q.
    each_keeps d figures_gather (λ c' j m. bind_keeps (count_keeps p) λ d' k'' _ _. destroying_keeps d' b p j (le_trans m k'')) _
    (below_later (omega (arith, e)) (components_there s o i))

pub remade_keeps : (c b p : ℕ) (f : Figure → Figure) (i : ℕ) → i < c → Keeps c Number (remade b p f i)
unfolding remade components_in
remade_keeps c zero p f i l = give_keeps i λ d k. le_trans l k
remade_keeps c (suc b) p f i l =
    current_keeps λ s o k. content_keeps (content_of s i) (λ a. new_shape_keeps p (atom (f a)) done) λ is e.
    bind_keeps (each_keeps (made s) numbers_gather (λ c' j m. bind_keeps (bind_keeps (count_keeps p) λ d k' _ _. remade_keeps d b p f j (le_trans m k')) λ d k' j' q.
    give_keeps (j' ∷ []) λ d' k''. next (le_trans q k'') done) is (subst (Below (made s)) e (components_there s o i))) λ d k' js q.
    new_shape_keeps p (group js) q

-- these change nothing
pub figures_keep : (c b p i : ℕ) → i < c → Keeps c Anything (figures_of b p i)
unfolding figures_of
figures_keep c zero p i l = give_keeps [] λ d k. tt
figures_keep c (suc b) p i l =
    current_keeps λ s o k. content_keeps (content_of s i) (λ a. give_keeps (a ∷ []) λ d m. tt) λ is e.
    each_keeps (made s) figures_gather (λ c' j m. bind_keeps (count_keeps p) λ d k' _ _. figures_keep d b p j (le_trans m k')) is
    (subst (Below (made s)) e (components_there s o i))

pairwise_keeps : (c : ℕ) {same : ℕ → ℕ → Action Bool} → ((d i j : ℕ) → Keeps d Anything (same i j)) → (is js : List ℕ) → Keeps c Anything (pairwise same is js)
unfolding pairwise
pairwise_keeps c h [] [] = give_keeps true λ d k. tt
pairwise_keeps c h [] (j ∷ js) = give_keeps false λ d k. tt
pairwise_keeps c h (i ∷ is) [] = give_keeps false λ d k. tt
pairwise_keeps c h (i ∷ is) (j ∷ js) = bind_keeps (h c i j) λ d k b _. if_keeps b (pairwise_keeps d h is js) (give_keeps false λ d' k'. tt)

pub alike_keeps : (c b p i j : ℕ) → Keeps c Anything (alike b p i j)
unfolding alike
alike_keeps c zero p i j = give_keeps false λ d k. tt
alike_keeps c (suc b) p i j =
    current_keeps λ s o k. content_keeps (content_of s i)
    (λ a. content_keeps (content_of s j) (λ a'. give_keeps _ λ d m. tt) λ ds e. give_keeps false λ d m. tt) λ cs e.
    content_keeps (content_of s j) (λ a'. give_keeps false λ d m. tt) λ ds e'.
    pairwise_keeps (made s) (λ d i' j'. bind_keeps (count_keeps p) λ d' k' _ _. alike_keeps d' b p i' j') _ _

-- ---- questions about one value
module _ {b : ℕ} where
  usable_keeps : (p : ℕ) (v : Value) → Keeps b Anything (usable p v)
  unfolding usable
  usable_keeps p v = current_keeps λ s o l. refuse_keeps _ 30 p

  module _ {A : Type 0} {P : ℕ → A → Type 0} where
    integer_keeps : (p : ℕ) (v : Value) {k : ℤ → Action A} → ((z : ℤ) → Keeps b P (k z)) → Keeps b P (with_integer p v k)
    unfolding with_integer
    integer_keeps p (integer z) h = h z
    integer_keeps p (string t) h = fail_keeps 20 p
    integer_keeps p (boolean t) h = fail_keeps 20 p
    integer_keeps p none h = fail_keeps 20 p
    integer_keeps p (table t) h = fail_keeps 20 p
    integer_keeps p (shape i) h = fail_keeps 20 p

    string_keeps : (p : ℕ) (v : Value) {k : List ℕ → Action A} → ((t : List ℕ) → Keeps b P (k t)) → Keeps b P (with_string p v k)
    unfolding with_string
    string_keeps p (integer z) h = fail_keeps 20 p
    string_keeps p (string t) h = h t
    string_keeps p (boolean t) h = fail_keeps 20 p
    string_keeps p none h = fail_keeps 20 p
    string_keeps p (table t) h = fail_keeps 20 p
    string_keeps p (shape i) h = fail_keeps 20 p

    boolean_keeps : (p : ℕ) (v : Value) {k : Bool → Action A} → ((t : Bool) → Keeps b P (k t)) → Keeps b P (with_boolean p v k)
    unfolding with_boolean
    boolean_keeps p (integer z) h = fail_keeps 20 p
    boolean_keeps p (string t) h = fail_keeps 20 p
    boolean_keeps p (boolean t) h = h t
    boolean_keeps p none h = fail_keeps 20 p
    boolean_keeps p (table t) h = fail_keeps 20 p
    boolean_keeps p (shape i) h = fail_keeps 20 p

    table_keeps : (p : ℕ) (v : Value) {k : ℕ → Action A} → ((t : ℕ) → Keeps b P (k t)) → Keeps b P (with_table p v k)
    unfolding with_table
    table_keeps p (integer z) h = fail_keeps 20 p
    table_keeps p (string t) h = fail_keeps 20 p
    table_keeps p (boolean t) h = fail_keeps 20 p
    table_keeps p none h = fail_keeps 20 p
    table_keeps p (table t) h = h t
    table_keeps p (shape i) h = fail_keeps 20 p

    shape_keeps : (p : ℕ) (v : Value) {k : ℕ → Action A} → Fits b v → ((i : ℕ) → i < b → Keeps b P (k i)) → Keeps b P (with_shape_number p v k)
    unfolding with_shape_number shape_in
    shape_keeps p (integer z) q h = fail_keeps 20 p
    shape_keeps p (string t) q h = fail_keeps 20 p
    shape_keeps p (boolean t) q h = fail_keeps 20 p
    shape_keeps p none q h = fail_keeps 20 p
    shape_keeps p (table t) q h = fail_keeps 20 p
    shape_keeps p (shape i) (next l q) h = h i l

    figure_keeps : (p : ℕ) (v : Value) {k : Figure → Action A} → Fits b v → ((c : ℕ) → b ≤ c → (a : Figure) → Keeps c P (k a)) → Keeps b P (with_figure p v k)
    unfolding with_figure
    figure_keeps p v q h = shape_keeps p v q λ i l. current_keeps λ s o m. content_keeps _ (λ a. h (made s) m a) λ is e. fail_keeps 20 p

    group_keeps : (p : ℕ) (v : Value) {k : List ℕ → Action A} → Fits b v → ((c : ℕ) → b ≤ c → (is : List ℕ) → Below c is → Keeps c P (k is)) → Keeps b P (with_group p v k)
    unfolding with_group
    group_keeps p v q h =
        shape_keeps p v q λ i l. current_keeps λ s o m. content_keeps _ (λ a. fail_keeps 20 p) λ is e.
        h (made s) m is (subst (Below (made s)) e (components_there s o i))

-- ---- operators
module _ {b : ℕ} where
  calculated_keeps : (d : Bool) (f : ℤ → ℤ → ℤ) (g : Figure → ℤ → Figure) (p : ℕ) (v w : Value) → Fits b v → Keeps b Fits (calculated d f g p v w)
  unfolding calculated shape_in
  calculated_keeps d f g p (integer a) w q = integer_keeps p w λ z. bind_keeps (refuse_keeps _ 70 p) λ c l _ _. give_keeps _ λ c' l'. done
  calculated_keeps d f g p (string t) w q = fail_keeps 20 p
  calculated_keeps d f g p (boolean t) w q = fail_keeps 20 p
  calculated_keeps d f g p none w q = fail_keeps 20 p
  calculated_keeps d f g p (table t) w q = fail_keeps 20 p
  calculated_keeps d f g p (shape i) w (next m q) =
      integer_keeps p w λ z. bind_keeps (refuse_keeps _ 70 p) λ c l _ _. bind_keeps (remade_keeps c (suc i) p _ i (le_trans m l)) λ c' l' j k.
      give_keeps (shape j) λ c'' l''. next (le_trans k l'') done

  compared_keeps : (f : ℤ → ℤ → Bool) (p : ℕ) (v w : Value) → Keeps b Fits (compared f p v w)
  unfolding compared shape_in
  compared_keeps f p v w = integer_keeps p v λ x. integer_keeps p w λ y. give_keeps _ λ c l. done

  answered_keeps : (p : ℕ) (f : Bool → Bool) (c : Comparison) → Keeps b Fits (answered p f c)
  unfolding answered shape_in
  answered_keeps p f refused = fail_keeps 20 p
  answered_keeps p f (settled t) = give_keeps _ λ c l. done
  answered_keeps p f (of_shapes i j) = bind_keeps (alike_keeps b _ p i j) λ c l t _. give_keeps _ λ c' l'. done

  operate_on_keeps : (o : Operator) (p : ℕ) (v w : Value) → Fits b v → Keeps b Fits (operate_on o p v w)
  unfolding operate_on joined remaindered equated new_string shape_in
  operate_on_keeps concatenate p v w q =
      string_keeps p v λ s. string_keeps p w λ t. bind_keeps (spend_keeps text_bytes _ p) λ c l _ _. give_keeps _ λ c' l'. done
  operate_on_keeps add p v w q = calculated_keeps _ _ _ p v w q
  operate_on_keeps subtract p v w q = calculated_keeps _ _ _ p v w q
  operate_on_keeps multiply p v w q = calculated_keeps _ _ _ p v w q
  operate_on_keeps divide p v w q = calculated_keeps _ _ _ p v w q
  operate_on_keeps remainder p v w q =
      integer_keeps p v λ x. integer_keeps p w λ y. bind_keeps (refuse_keeps _ 70 p) λ c l _ _. give_keeps _ λ c' l'. done
  operate_on_keeps shift_right p v w q = calculated_keeps _ _ _ p v w q
  operate_on_keeps shift_left p v w q = calculated_keeps _ _ _ p v w q
  operate_on_keeps equal p v w q = answered_keeps p _ _
  operate_on_keeps unequal p v w q = answered_keeps p _ _
  operate_on_keeps greater p v w q = compared_keeps _ p v w
  operate_on_keeps less p v w q = compared_keeps _ p v w

operate_keeps : {b : ℕ} (o : Operator) (p : ℕ) (v w : Value) → Fits b v → Keeps b Fits (operate o p v w)
unfolding operate
operate_keeps o p v w q =
    bind_keeps (usable_keeps p v) λ c l _ _. bind_keeps (usable_keeps p w) λ c' l' _ _. operate_on_keeps o p v w (below_later (le_trans l l') q)

-- ---- library procedures
module _ {b : ℕ} where
  none_keeps : (p : ℕ) (vs : List Value) {k : Action Value} → Keeps b Fits k → Keeps b Fits (with_none p vs k)
  unfolding with_none
  none_keeps p [] h = h
  none_keeps p (v ∷ vs) h = fail_keeps 20 p

  one_keeps : (p : ℕ) (vs : List Value) {k : Value → Action Value} → AllThere b vs → ((v : Value) → Fits b v → Keeps b Fits (k v)) → Keeps b Fits (with_one p vs k)
  unfolding with_one
  one_keeps p [] q h = fail_keeps 20 p
  one_keeps p (v ∷ vs) (and_next x q) h = none_keeps p vs (h v x)

  two_keeps : (p : ℕ) (vs : List Value) {k : Value → Value → Action Value} → AllThere b vs → ((v w : Value) → Fits b v → Fits b w → Keeps b Fits (k v w)) →
      Keeps b Fits (with_two p vs k)
  unfolding with_two
  two_keeps p [] q h = fail_keeps 20 p
  two_keeps p (v ∷ vs) (and_next x q) h = one_keeps p vs q λ w y. h v w x y

  three_keeps : (p : ℕ) (vs : List Value) {k : Value → Value → Value → Action Value} → AllThere b vs → ((u v w : Value) → Keeps b Fits (k u v w)) →
      Keeps b Fits (with_three p vs k)
  unfolding with_three
  three_keeps p [] q h = fail_keeps 20 p
  three_keeps p (v ∷ vs) (and_next x q) h = two_keeps p vs q λ u w y z. h v u w

  four_keeps : (p : ℕ) (vs : List Value) {k : Value → Value → Value → Value → Action Value} → AllThere b vs →
      ((t u v w : Value) → Keeps b Fits (k t u v w)) → Keeps b Fits (with_four p vs k)
  unfolding with_four
  four_keeps p [] q h = fail_keeps 20 p
  four_keeps p (v ∷ vs) (and_next x q) h = three_keeps p vs q (h v)

numbers_keep : (b p : ℕ) (vs : List Value) → AllThere b vs → Keeps b Below (shape_numbers p vs)
unfolding shape_numbers
numbers_keep b p [] q = give_keeps [] λ c l. done
numbers_keep b p (v ∷ vs) (and_next x q) =
    shape_keeps p v x λ i m. bind_keeps (numbers_keep b p vs q) λ c l is h. give_keeps (i ∷ is) λ c' l'. next (le_trans m (le_trans l l')) (below_later l' h)

draw_keeps : {b : ℕ} (p : ℕ) (c : Content) → Below b (components_in c) → Keeps b Fits (draw p c)
unfolding draw shape_in
draw_keeps p c h = bind_keeps (new_shape_keeps p c h) λ d l i q. give_keeps (shape i) λ d' l'. next (le_trans q l') done

drawn_keeps : {b : ℕ} (make : ℤ → ℤ → ℤ → ℤ → Figure) (p : ℕ) (vs : List Value) → AllThere b vs → Keeps b Fits (draw_figure make p vs)
unfolding draw_figure components_in
drawn_keeps make p vs q =
    four_keeps p vs q λ v₁ v₂ v₃ v₄. integer_keeps p v₁ λ x. integer_keeps p v₂ λ y. integer_keeps p v₃ λ z. integer_keeps p v₄ λ w. draw_keeps p _ done

perform_keeps : (b : ℕ) (f : Library) (p : ℕ) (vs : List Value) → AllThere b vs → Keeps b Fits (perform f p vs)
unfolding perform components_in shape_in
perform_keeps b draw_line p vs q = drawn_keeps _ p vs q
perform_keeps b draw_ellipse p vs q = drawn_keeps _ p vs q
perform_keeps b draw_box p vs q = drawn_keeps _ p vs q
perform_keeps b draw_text p vs q = three_keeps p vs q λ u v w. integer_keeps p u λ x. integer_keeps p v λ y. string_keeps p w λ t. draw_keeps p _ done
perform_keeps b connect_shapes p vs q =
    two_keeps p vs q λ v w x y. figure_keeps p v x λ c l a. figure_keeps p w (below_later l y) λ c' l' a'. draw_keeps p _ done
perform_keeps b draw_text_on_shape p vs q = two_keeps p vs q λ v w x y. figure_keeps p v x λ c l a. string_keeps p w λ t. draw_keeps p _ done
perform_keeps b x_coordinate p vs q = one_keeps p vs q λ v x. figure_keeps p v x λ c l a. give_keeps _ λ c' l'. done
perform_keeps b y_coordinate p vs q = one_keeps p vs q λ v x. figure_keeps p v x λ c l a. give_keeps _ λ c' l'. done
perform_keeps b destroy_shape p vs q =
    one_keeps p vs q λ v x. shape_keeps p v x λ i m. bind_keeps (destroying_keeps b (suc i) p i m) λ c l _ _. give_keeps none λ c' l'. done
perform_keeps b clear_scene p vs q =
    none_keeps p vs (current_keeps λ s o l.
    bind_keeps (each_keeps (made s) figures_gather (λ c i m. destroying_keeps c (suc i) p i m) _ (below_append o.waiting o.held)) λ c l' _ _.
    give_keeps none λ c' l''. done)
perform_keeps b draw_group p vs q = bind_keeps (numbers_keep b p vs q) λ c l is h. draw_keeps p (group is) h

all_usable_keep : (b p : ℕ) (vs : List Value) → Keeps b Anything (all_usable p vs)
unfolding all_usable
all_usable_keep b p [] = give_keeps tt λ c l. tt
all_usable_keep b p (v ∷ vs) = bind_keeps (usable_keeps p v) λ c l _ _. all_usable_keep c p vs

call_keeps : (b : ℕ) (f : Option Library) (p : ℕ) (vs : List Value) → AllThere b vs → Keeps b Fits (call_library f p vs)
unfolding call_library
call_keeps b Option.none p vs q = fail_keeps 20 p
call_keeps b (some f) p vs q = bind_keeps (all_usable_keep b p vs) λ c l _ _. perform_keeps c f p vs (all_later l q)

-- ---- expressions
found_keeps : {b : ℕ} (m p : ℕ) (o : Option Value) → FoundThere b o → Keeps b Fits (looked_up m p o)
unfolding looked_up
found_keeps m p Option.none q = fail_keeps m p
found_keeps m p (some v) q = bind_keeps (usable_keeps p v) λ c l _ _. give_keeps v λ c' l'. below_later (le_trans l l') q

variable_keeps : {b : ℕ} (p : ℕ) (x : List ℕ) → Keeps b Fits (variable p x)
unfolding variable
variable_keeps p x = current_keeps λ s o l. found_keeps 50 p _ (value_there (made s) s.variables x o.held)

new_table_keeps : {b : ℕ} (p : ℕ) (z : ℤ) → Keeps b Fits (new_table p z)
unfolding new_table shape_in
new_table_keeps p z =
    bind_keeps (refuse_keeps _ 40 p) λ c l _ _. current_keeps λ s o k. bind_keeps (become_keeps (with_new_table s) (table_older s o) (le_refl (made s))) λ c' l' _ _.
    give_keeps _ λ c'' l''. done

keyed_keeps : {A : Type 0} {b : ℕ} {P : ℕ → A → Type 0} (p : ℕ) (o : Option Key) {k : Key → Action A} → ((key : Key) → Keeps b P (k key)) → Keeps b P (keyed p o k)
unfolding keyed
keyed_keeps p Option.none h = fail_keeps 20 p
keyed_keeps p (some key) h = h key

entry_keeps : {b : ℕ} (p t : ℕ) (v : Value) → Keeps b Fits (entry_of p t v)
unfolding entry_of
entry_keeps p t v = current_keeps λ s o l. keyed_keeps p _ λ key. found_keeps 20 p _ (entry_there (made s) s.entries t key o.stored)

module _ (invoke : Invoke) (called : (b : ℕ) (x : List ℕ) (p : ℕ) (vs : List Value) → AllThere b vs → Keeps b Fits (invoke x p vs)) where
  mutual
    unfolding evaluate evaluate_all shape_in

    evaluate_keeps : (b : ℕ) (e : Expression) (p : ℕ) → Keeps b Fits (evaluate invoke e p)
    evaluate_keeps b (Tree.number z) p = bind_keeps (count_keeps p) λ c l _ _. give_keeps _ λ c' l'. done
    evaluate_keeps b (Tree.string t) p = bind_keeps (count_keeps p) λ c l _ _. give_keeps _ λ c' l'. done
    evaluate_keeps b Tree.nothing p = bind_keeps (count_keeps p) λ c l _ _. give_keeps _ λ c' l'. done
    evaluate_keeps b (Tree.truth t) p = bind_keeps (count_keeps p) λ c l _ _. give_keeps _ λ c' l'. done
    evaluate_keeps b (Tree.name x) p = bind_keeps (count_keeps p) λ c l _ _. variable_keeps p x
    evaluate_keeps b (Tree.table e) p =
        bind_keeps (count_keeps p) λ c l _ _. bind_keeps (evaluate_keeps c e p) λ c' l' v q. integer_keeps p v λ z. new_table_keeps p z
    evaluate_keeps b (Tree.entry a e) p =
        bind_keeps (count_keeps p) λ c l _ _. bind_keeps (evaluate_keeps c a p) λ c' l' v q. table_keeps p v λ t.
        bind_keeps (evaluate_keeps c' e p) λ c'' l'' k r. entry_keeps p t k
    evaluate_keeps b (Tree.operation o a e) p =
        bind_keeps (count_keeps p) λ c l _ _. bind_keeps (evaluate_keeps c a p) λ c' l' v q. bind_keeps (evaluate_keeps c' e p) λ c'' l'' w r.
        operate_keeps o p v w (below_later l'' q)
    evaluate_keeps b (Tree.call f es) p = bind_keeps (count_keeps p) λ c l _ _. bind_keeps (arguments_keep c es p) λ c' l' vs q. called c' f p vs q
    evaluate_keeps b (Tree.paren e) p = evaluate_keeps b e p

    arguments_keep : (b : ℕ) (es : Arguments) (p : ℕ) → Keeps b AllThere (evaluate_all invoke es p)
    arguments_keep b no_argument p = give_keeps [] λ c l. all_done
    arguments_keep b (argument e es) p =
        bind_keeps (evaluate_keeps b e p) λ c l v q. bind_keeps (arguments_keep c es p) λ c' l' vs r.
        give_keeps (v ∷ vs) λ c'' l''. and_next (below_later (le_trans l' l'') q) (all_later l'' r)

-- ---- statements
flow_later : {m n : ℕ} (f : Flow) → m ≤ n → FlowFits m f → FlowFits n f
flow_later onward l h = tt
flow_later (returned v) l h = below_later l h

continue_keeps : {b : ℕ} (f : Flow) {k : Action Flow} → FlowFits b f → Keeps b FlowFits k → Keeps b FlowFits (continue f k)
unfolding continue
continue_keeps onward q h = h
continue_keeps (returned v) q h = give_keeps (returned v) λ c l. below_later l q

-- a question changes nothing
refuse_then : {A : Type 0} {b : ℕ} {P : ℕ → A → Type 0} (t : Bool) (m p : ℕ) {k : Action A} → Keeps b P k → Keeps b P (refuse t m p >>= λ _. k)
unfolding refuse fail give ◌>>=◌ go_on
refuse_then true m p h = record { kept = λ s o l. tt }
refuse_then false m p h = record { kept = h.kept }

declaring_keeps : {b : ℕ} (p : ℕ) (x : List ℕ) → Keeps b FlowFits (declaring p x)
unfolding declaring
declaring_keeps p x =
    current_keeps λ s o l. refuse_then _ 60 p (bind_keeps (become_keeps _ (variables_older s _ o (declared_below s.variables x o.held)) (le_refl (made s))) λ c k _ _.
    give_keeps onward λ c' k'. tt)

copied_keeps : {b : ℕ} (p : ℕ) (v : Value) → Fits b v → Keeps b Fits (copied p v)
unfolding copied shape_in
copied_keeps p (integer z) q = give_keeps _ λ c l. done
copied_keeps p (string t) q = give_keeps _ λ c l. done
copied_keeps p (boolean t) q = give_keeps _ λ c l. done
copied_keeps p none q = give_keeps _ λ c l. done
copied_keeps p (table t) q = give_keeps _ λ c l. done
copied_keeps p (shape i) q =
    current_keeps λ s o l. bind_keeps (new_shape_keeps p (content_of s i) (components_there s o i)) λ c k j m. give_keeps (shape j) λ c' k'. next (le_trans m k') done

assigning_keeps : {b : ℕ} (p : ℕ) (x : List ℕ) (v : Value) → Fits b v → Keeps b FlowFits (assigning p x v)
unfolding assigning
assigning_keeps p x v q =
    current_keeps λ s o l. bind_keeps (refuse_keeps _ 50 p) λ c₁ l₁ _ _. bind_keeps (usable_keeps p v) λ c₂ l₂ _ _.
    bind_keeps (copied_keeps p v (below_later (le_trans l (le_trans l₁ l₂)) q)) λ c₃ l₃ u r. current_keeps λ s' o' l₄.
    bind_keeps (become_keeps _ (variables_older s' _ o' (assigned_below s'.variables x u o'.held (below_later l₄ r))) (le_refl (made s'))) λ c₅ l₅ _ _.
    give_keeps onward λ c₆ l₆. tt

storing_keeps : {b : ℕ} (p t : ℕ) (k : Key) (v : Value) (o : Option Value) → Fits b v → Keeps b FlowFits (storing p t k v o)
unfolding storing
storing_keeps p t k v Option.none q =
    bind_keeps (spend_keeps entries 1 p) λ c l _ _. current_keeps λ s o m.
    bind_keeps (become_keeps _ (entries_older s _ o (stored_below s.entries _ o.stored (below_later (le_trans l m) q))) (le_refl (made s))) λ c' l' _ _.
    give_keeps onward λ c'' l''. tt
storing_keeps p t k v (some old) q =
    current_keeps λ s o m.
    bind_keeps (become_keeps _ (entries_older s _ o (overwritten_below s.entries t k v o.stored (below_later m q))) (le_refl (made s))) λ c' l' _ _.
    give_keeps onward λ c'' l''. tt

updating_keeps : {b : ℕ} (p t : ℕ) (w v : Value) → Fits b v → Keeps b FlowFits (updating p t w v)
unfolding updating
updating_keeps p t w v q = current_keeps λ s o l. keyed_keeps p _ λ k. storing_keeps p t k v _ (below_later l q)

looping_keeps : (b n p : ℕ) {test : Action Value} {body : Action Flow} → ((c : ℕ) → Keeps c Fits test) → ((c : ℕ) → Keeps c FlowFits body) →
    Keeps b FlowFits (looping n p test body)
unfolding looping
looping_keeps b zero p t h = record { kept = λ s o l. tt }
looping_keeps b (suc n) p t h =
    bind_keeps (count_keeps p) λ c l _ _. bind_keeps (t c) λ c' l' v q. boolean_keeps p v λ r.
    if_keeps r (bind_keeps (h c') λ c'' l'' f k. continue_keeps f k (looping_keeps c'' n p t h)) (give_keeps onward λ d m. tt)

declaring_once_keeps : {b : ℕ} (x : List ℕ) → Keeps b Anything (declaring_once x)
unfolding declaring_once if◌then◌otherwise◌
declaring_once_keeps x = current_keeps λ s o l. by s o (is_declared s x)
  where
    by : (s : State) → Older s → (t : Bool) →
        Keeps (made s) Anything (become (if t then (λ _. s) otherwise λ _. with_variables s (s.variables ++ (record { name = x; holds = none } ∷ []))))
    by s o true = quiet (become_keeps s o (le_refl (made s)))
    by s o false = quiet (become_keeps _ (variables_older s _ o (declared_below s.variables x o.held)) (le_refl (made s)))

binding_keeps : {b : ℕ} (x : List ℕ) (i : ℕ) → i < b → Keeps b Anything (binding x i)
unfolding binding shape_in
binding_keeps x i l =
    current_keeps λ s o m. quiet (become_keeps _ (variables_older s _ o (assigned_below s.variables x (shape i) o.held (next (le_trans l m) done))) (le_refl (made s)))

pub turns_keep : (b : ℕ) {visit : ℕ → Action Flow} → ((c i : ℕ) → i < c → Keeps c FlowFits (visit i)) → (is : List ℕ) → Below b is → Keeps b FlowFits (turns visit is)
unfolding turns
turns_keep b h [] done = give_keeps onward λ c l. tt
turns_keep b h (i ∷ is) (next q r) =
    current_keeps λ s o l. bind_keeps (if_keeps _ (give_keeps onward λ c k. tt) (h (made s) i (le_trans q l))) λ c k f m.
    continue_keeps f m (turns_keep c h is (below_later (le_trans l k) r))

pub iterating_keeps : (c b : ℕ) {body : ℕ → Action Flow} → ((c i : ℕ) → i < c → Keeps c FlowFits (body i)) → (i : ℕ) → i < c → Keeps c FlowFits (iterating b body i)
unfolding iterating
iterating_keeps c zero h i l = give_keeps onward λ d k. tt
iterating_keeps c (suc b) h i l =
    current_keeps λ s o k. content_keeps (content_of s i) (λ a. h (made s) i (le_trans l k)) λ is e.
    turns_keep (made s) (λ d j m. iterating_keeps d b h j m) is (subst (Below (made s)) e (components_there s o i))

module _ (invoke : Invoke) (called : (b : ℕ) (x : List ℕ) (p : ℕ) (vs : List Value) → AllThere b vs → Keeps b Fits (invoke x p vs)) where
  abbrev value_keeps : (b : ℕ) (e : Expression) (p : ℕ) → Keeps b Fits (evaluate invoke e p)
  value_keeps = evaluate_keeps invoke called

  mutual
    unfolding execute execute_all

    execute_keeps : (b : ℕ) (t : Statement) (n : ℕ) → Keeps b FlowFits (execute invoke t n)
    execute_keeps b (declare p x) n = bind_keeps (count_keeps p) λ c l _ _. declaring_keeps p x
    execute_keeps b (assign p x e) n = bind_keeps (count_keeps p) λ c l _ _. bind_keeps (value_keeps c e p) λ c' l' v q. assigning_keeps p x v q
    execute_keeps b (update p a k e) n =
        bind_keeps (count_keeps p) λ c l _ _. bind_keeps (value_keeps c a p) λ c' l' v q. table_keeps p v λ t.
        bind_keeps (value_keeps c' k p) λ c'' l'' w r. bind_keeps (value_keeps c'' e p) λ d m u z. updating_keeps p t w u z
    execute_keeps b (when p e t) n =
        bind_keeps (count_keeps p) λ c l _ _. bind_keeps (value_keeps c e p) λ c' l' v q. boolean_keeps p v λ r.
        if_keeps r (execute_keeps c' t n) (give_keeps onward λ d m. tt)
    execute_keeps b (while p e t) n = looping_keeps b n p (λ c. value_keeps c e p) (λ c. execute_keeps c t n)
    execute_keeps b (foreach p x e t) n =
        bind_keeps (count_keeps p) λ c l _ _. bind_keeps (value_keeps c e p) λ c' l' v q. bind_keeps (usable_keeps p v) λ c'' l'' _ _.
        group_keeps p v (below_later l'' q) λ d m is r. bind_keeps (declaring_once_keeps x) λ d' m' _ _.
        turns_keep d' (λ c i k. bind_keeps (count_keeps p) λ c' k' _ _. iterating_keeps c' (suc i)
        (λ c₁ j k₁. bind_keeps (binding_keeps x j k₁) λ c₂ k₂ _ _. execute_keeps c₂ t n) i (le_trans k k')) is (below_later m' r)
    execute_keeps b (return p e) n =
        bind_keeps (count_keeps p) λ c l _ _. bind_keeps (value_keeps c e p) λ c' l' v q. give_keeps (returned v) λ c'' l''. below_later l'' q
    execute_keeps b (block p ss) n = bind_keeps (count_keeps p) λ c l _ _. all_keep c ss n
    execute_keeps b (act p e) n = bind_keeps (count_keeps p) λ c l _ _. bind_keeps (value_keeps c e p) λ c' l' v q. give_keeps onward λ c'' l''. tt

    all_keep : (b : ℕ) (ss : Statements) (n : ℕ) → Keeps b FlowFits (execute_all invoke ss n)
    all_keep b (only t) n = execute_keeps b t n
    all_keep b (first t ss) n = bind_keeps (execute_keeps b t n) λ c l f q. continue_keeps f q (all_keep c ss n)

-- ---- calls
assigning_all_keeps : (b p : ℕ) (xs : List (List ℕ)) (vs : List Value) → AllThere b vs → Keeps b Anything (assigning_all p xs vs)
unfolding assigning_all
assigning_all_keeps b p [] vs q = give_keeps tt λ c l. tt
assigning_all_keeps b p (x ∷ xs) [] q = give_keeps tt λ c l. tt
assigning_all_keeps b p (x ∷ xs) (v ∷ vs) (and_next h q) =
    bind_keeps (assigning_keeps p x v h) λ c l _ _. assigning_all_keeps c p xs vs (all_later l q)

returned_there : (n : ℕ) (f : Flow) → FlowFits n f → Fits n (returned_by f)
unfolding returned_by shape_in
returned_there n onward q = done
returned_there n (returned v) q = q

module _ {body : Statements → Action Flow} (h : (b : ℕ) (ss : Statements) → Keeps b FlowFits (body ss)) where
  called_keeps : (b : ℕ) (f : Procedure) (p : ℕ) (vs : List Value) → AllThere b vs → Keeps b Fits (Procedures.invoking body f p vs)
  unfolding Procedures.invoking
  called_keeps b f p vs q =
      bind_keeps (refuse_keeps _ 20 p) λ c₁ l₁ _ _. bind_keeps (refuse_keeps _ 60 p) λ c₂ l₂ _ _. bind_keeps (spend_keeps calls 1 p) λ c₃ l₃ _ _.
      current_keeps λ s o l₄. bind_keeps (become_keeps _ (entered_older s f.parameters o) (le_refl (made s))) λ c₅ l₅ _ _.
      bind_keeps (assigning_all_keeps c₅ p f.parameters vs (all_later (le_trans l₁ (le_trans l₂ (le_trans l₃ (le_trans l₄ l₅)))) q)) λ c₆ l₆ _ _.
      bind_keeps (h c₆ f.body) λ c₇ l₇ flow r. current_keeps λ s' o' l₈.
      bind_keeps (become_keeps _ (resumed_older s s' o o' (le_trans l₅ (le_trans l₆ (le_trans l₇ l₈)))) (le_refl (made s'))) λ c₉ l₉ _ _.
      bind_keeps back_keeps λ c l _ _. give_keeps _ λ c' l'. below_later (le_trans l₈ (le_trans l₉ (le_trans l l'))) (returned_there c₇ flow r)

  procedure_keeps : (b : ℕ) (o : Option Procedure) (x : List ℕ) (p : ℕ) (vs : List Value) → AllThere b vs → Keeps b Fits (found body o x p vs)
  unfolding found
  procedure_keeps b Option.none x p vs q = call_keeps b _ p vs q
  procedure_keeps b (some f) x p vs q = called_keeps b f p vs q

calling_keeps : (n : ℕ) (fs : List Procedure) (b : ℕ) (x : List ℕ) (p : ℕ) (vs : List Value) → AllThere b vs → Keeps b Fits (calling n fs x p vs)
unfolding calling
calling_keeps zero fs b x p vs q = record { kept = λ s o l. tt }
calling_keeps (suc n) fs b x p vs q =
    if_keeps (same_text x (bytes "main")) (fail_keeps 20 p)
    (procedure_keeps (λ c ss. all_keep (calling n fs) (calling_keeps n fs) c ss n) b (procedure_named x fs) x p vs q)

-- ---- programs
-- main's call begins with no shape
entering_keeps : (xs : List (List ℕ)) (width height : ℤ) → Keeps 0 Anything (entering xs width height)
unfolding entering shapes_held shapes_held_by shapes_stored shape_in components_in ◌>>=◌ go_on spend become
entering_keeps [] width height = fail_keeps 20 0
entering_keeps (x ∷ []) width height = fail_keeps 20 0
entering_keeps (x ∷ y ∷ []) width height = refuse_then _ 60 0 (record {
  kept = λ s o l. (record { components = λ i. done; held = done; waiting = done; stored = done }, le_refl 0, tt);
})
entering_keeps (x ∷ y ∷ z ∷ xs) width height = fail_keeps 20 0

apart_then : {A : Type 0} {b : ℕ} {P : ℕ → A → Type 0} (o : Option ℕ) (tree : Tree.Program) (k : Tree.Program → Action A) → Keeps b P (k tree) →
    Keeps b P (named_apart o tree >>= k)
unfolding named_apart fail give ◌>>=◌ go_on
apart_then Option.none tree k h = record { kept = h.kept }
apart_then (some p) tree k h = record { kept = λ s o l. tt }

understood_then : {A : Type 0} {b : ℕ} {P : ℕ → A → Type 0} (r : Reading) {k : Tree.Program → Action A} → ((m : Tree.Program) → Keeps b P (k m)) →
    Keeps b P (understood r >>= k)
unfolding understood fail ◌>>=◌ go_on
understood_then (well_formed m) {k} h = apart_then (doubled [] m.procedures) m k (h m)
understood_then (malformed n p) h = record { kept = λ s o l. tt }

painting_keeps : (program : List ℕ) (width height : ℤ) (n : ℕ) → Keeps 0 Anything (painting program width height n)
unfolding painting sheet sized
painting_keeps program width height n =
    refuse_then _ 72 0 (refuse_then _ 73 0 (understood_then (reading program) λ m. bind_keeps (entering_keeps m.main.parameters width height) λ c l _ _.
    bind_keeps (all_keep (calling n m.procedures) (calling_keeps n m.procedures) c m.main.body n) λ c' l' _ _. bind_keeps back_keeps λ c'' l'' _ _.
    current_keeps λ s o k. each_keeps (made s) figures_gather (λ d i q. figures_keep d (suc i) 0 i q) _ o.held))

-- THE CLAIM
left_older : {A : Type 0} (b : ℕ) (P : ℕ → A → Type 0) (e : End A) (a : A) (s : State) → Left b P e → e ≡ result a s → Older s × P (made s) a
left_older b P e a s h q = let k : Left b P (result a s) = rw q at h in (k.0, k.2)

pub no_fewer : (n : ℕ) → 0 ≤ n
no_fewer n = omega arith

pub components_are_older : ComponentsAreOlder
components_are_older = (
  empty_older,
  (λ t fs m n s s' f o e.
      (left_older 0 FlowFits (execute (calling m fs) t n s).end f s' ((execute_keeps (calling m fs) (calling_keeps m fs) 0 t n).kept s o (no_fewer (made s))) e).0),
  (λ t fs m p s s' v o e.
      left_older 0 Fits (evaluate (calling m fs) t p s).end v s' ((evaluate_keeps (calling m fs) (calling_keeps m fs) 0 t p).kept s o (no_fewer (made s))) e),
  (λ program width height n figures s e.
      (left_older 0 Anything (painting program width height n empty).end figures s ((painting_keeps program width height n).kept empty empty_older (no_fewer 0)) e).0),
)
