-- The depth that a walk through a group is given never runs out, since components are older.
use Prim.Native.Nat.{ℕ, zero, suc, ◌≤◌, ◌<◌}
use mathlib.Core.Path.{◌≡◌, refl, ap, ◌∙◌, subst}
use mathlib.Core.Bool.{Bool, true, false}
use mathlib.Core.List.{List, [], ◌∷◌}
use native.Mathlib.Omega.{arith}
use native.Mathlib.Nat.{le_refl, le_trans, not-suc-le-zero}
use Rattle.meaning.specs.Basics.{if◌then◌otherwise◌}
use Rattle.meaning.specs.Figure.{Figure}
use Rattle.meaning.specs.State.{State, Content, atom, group, content_of, by_content, components_in, living, is_destroyed, with_shapes, destroy}
use Rattle.meaning.specs.Run.{steps, Event, End, result, error, unfinished, Run, Action, following, go_on, ◌>>=◌, give, spend, current}
use Rattle.meaning.specs.Group.{each, destroying, remade, figures_of, pairwise, alike}
use Rattle.meaning.specs.Execute.{Flow, onward, returned, continue, turns, iterating}
use Rattle.meaning.proofs.StateLaws.{length_destroy}
use Rattle.claims.specs.Claims.{Below, done, next, Older, KeepsOlder, DepthsSuffice}
use Rattle.claims.proofs.Components.{below_later, made, Left, Keeps, Anything, Number, Gathers, give_keeps, count_keeps, bind_keeps, become_keeps, if_keeps}
use Rattle.claims.proofs.Components.{destroyed_older, numbers_gather, figures_gather, each_keeps, destroying_keeps, remade_keeps, figures_keep, alike_keeps, components_there, no_fewer}

-- ---- the relation
-- the same run from every state with older components and at least b shapes
record Agree {A : Type 0} (b : ℕ) (m m' : Action A) : Type 0 where
  same : (s : State) → Older s → b ≤ made s → m s ≡ m' s

module _ {A B : Type 0} where
  go_agree : (b : ℕ) (P : ℕ → A → Type 0) (ts : List Event) (e : End A) (k k' : A → Action B) → Left b P e →
      ((c : ℕ) → b ≤ c → (a : A) → P c a → Agree c (k a) (k' a)) → go_on ts e k ≡ go_on ts e k'
  unfolding go_on
  go_agree b P ts (result a s) k k' o h = ap (following ts) ((h (made s) o.1 a o.2).same s o.0 (le_refl (made s)))
  go_agree b P ts (error n p) k k' o h = refl
  go_agree b P ts unfinished k k' o h = refl

  bind_agree : {b : ℕ} {P : ℕ → A → Type 0} {m m' : Action A} {k k' : A → Action B} → Keeps b P m → Agree b m m' →
      ((c : ℕ) → b ≤ c → (a : A) → P c a → Agree c (k a) (k' a)) → Agree b (m >>= k) (m' >>= k')
  unfolding ◌>>=◌
  bind_agree {b} {P} {m} {m'} {k} {k'} f h g = record {
    same = λ s o l.
        go_agree b P (m s).takings (m s).end k k' (f.kept s o l) g
        ∙ ap (λ (r : Run A). go_on r.takings r.end k') (h.same s o l);
  }

equal : {A : Type 0} {b : ℕ} {m : Action A} → Agree b m m
equal = record { same = λ s o l. refl }

-- the state now
current_agree : {B : Type 0} {b : ℕ} {k k' : State → Action B} → ((s : State) → Older s → b ≤ made s → Agree (made s) (k s) (k' s)) → Agree b (current >>= k) (current >>= k')
unfolding current ◌>>=◌ go_on
current_agree {k = k} {k'} h = record { same = λ s o l. ap (following []) ((h s o l).same s o (le_refl (made s))) }

if_agree : {A : Type 0} {b : ℕ} (t : Bool) {x x' y y' : Action A} → Agree b x x' → Agree b y y' →
    Agree b (if t then (λ _. x) otherwise λ _. y) (if t then (λ _. x') otherwise λ _. y')
unfolding if◌then◌otherwise◌
if_agree true h f = h
if_agree false h f = f

after_any : {A : Type 0} {c : ℕ} {m m' : Action A} → Agree 0 m m' → Agree c m m'
after_any h = record { same = λ s o l. h.same s o (no_fewer (made s)) }

content_agree : {A : Type 0} {b : ℕ} (c : Content) (f : Figure → Action A) {g g' : List ℕ → Action A} →
    ((is : List ℕ) → components_in c ≡ is → Agree b (g is) (g' is)) → Agree b (by_content c f g) (by_content c f g')
unfolding by_content components_in
content_agree (atom a) f h = equal
content_agree (group is) f h = h is refl

-- ---- walks whose visits agree below n
each_agree : {A : Type 0} {P : ℕ → List A → Type 0} (c n : ℕ) {visit visit' : ℕ → Action (List A)} → Gathers P →
    ((d i : ℕ) → i < d → Keeps d P (visit i)) → ((d i : ℕ) → i < d → i < n → Agree d (visit i) (visit' i)) →
    (is : List ℕ) → Below c is → Below n is → Agree c (each visit is) (each visit' is)
unfolding each
each_agree c n g k h [] done done = equal
each_agree c n g k h (i ∷ is) (next q r) (next q' r') =
    current_agree λ s o l.
    bind_agree (if_keeps _ (give_keeps [] λ d m. g.nothing_yet d) (k (made s) i (le_trans q l))) (if_agree _ equal (h (made s) i (le_trans q l) q')) λ d m xs x.
    bind_agree (each_keeps d g k is (below_later (le_trans l m) r)) (each_agree d n g k h is (below_later (le_trans l m) r) r') λ e m' ys y. equal

pairwise_agree : (c n : ℕ) {visit visit' : ℕ → ℕ → Action Bool} → ((d i j : ℕ) → Keeps d Anything (visit i j)) →
    ((d i j : ℕ) → i < n → Agree d (visit i j) (visit' i j)) → (is js : List ℕ) → Below n is → Agree c (pairwise visit is js) (pairwise visit' is js)
unfolding pairwise
pairwise_agree c n k h [] [] q = equal
pairwise_agree c n k h [] (j ∷ js) q = equal
pairwise_agree c n k h (i ∷ is) [] q = equal
pairwise_agree c n k h (i ∷ is) (j ∷ js) (next q r) =
    bind_agree (k c i j) (h c i j q) λ d m t _. if_agree t (pairwise_agree d n k h is js r) equal

-- ---- two depths above the number agree
inside : {i j b : ℕ} → j < i → i < suc b → j < b
inside l k = omega arith

destroying_agree : (c b b' p i : ℕ) → i < b → i < b' → Agree c (destroying b p i) (destroying b' p i)
unfolding destroying
destroying_agree c zero b' p i l l' = absurd (not-suc-le-zero l)
destroying_agree c (suc b) zero p i l l' = absurd (not-suc-le-zero l')
destroying_agree c (suc b) (suc b') p i l l' =
    current_agree λ s o k.
    let e = length_destroy s.shapes i in
    bind_agree (become_keeps (with_shapes s (destroy s.shapes i)) (destroyed_older s i o) (omega (arith, e))) equal λ d k' _ q.
    each_agree d i figures_gather (λ d' j m. bind_keeps (count_keeps p) λ d'' m' _ _. destroying_keeps d'' b p j (le_trans m m'))
    (λ d' j m r. bind_agree (count_keeps p) equal λ d'' m' _ _. destroying_agree d'' b b' p j (inside r l) (inside r l')) _
    (below_later (omega (arith, e)) (components_there s o i)) (o.components i)

remade_agree : (c b b' p : ℕ) (f : Figure → Figure) (i : ℕ) → i < b → i < b' → Agree c (remade b p f i) (remade b' p f i)
unfolding remade
remade_agree c zero b' p f i l l' = absurd (not-suc-le-zero l)
remade_agree c (suc b) zero p f i l l' = absurd (not-suc-le-zero l')
remade_agree c (suc b) (suc b') p f i l l' =
    current_agree λ s o k. content_agree (content_of s i) _ λ is e.
    let there = subst (Below (made s)) e (components_there s o i) in
    bind_agree (each_keeps (made s) numbers_gather (visited b) is there)
    (each_agree (made s) i numbers_gather (visited b)
    (λ d j m r. bind_agree (counted b d j m) (bind_agree (count_keeps p) equal λ d' m' _ _. remade_agree d' b b' p f j (inside r l) (inside r l')) λ d' m' j' q. equal) is
    there (subst (Below i) e (o.components i))) λ d k' js q. equal
  where
    counted : (b d j : ℕ) → j < d → Keeps d Number (spend steps 1 p >>= λ _. remade b p f j)
    counted b d j m = bind_keeps (count_keeps p) λ d' m' _ _. remade_keeps d' b p f j (le_trans m m')

    visited : (b d j : ℕ) → j < d → Keeps d Below ((spend steps 1 p >>= λ _. remade b p f j) >>= λ j'. give (j' ∷ []))
    visited b d j m = bind_keeps (counted b d j m) λ d' m' j' q. give_keeps (j' ∷ []) λ d'' m''. next (le_trans q m'') done

figures_agree : (c b b' p i : ℕ) → i < b → i < b' → Agree c (figures_of b p i) (figures_of b' p i)
unfolding figures_of
figures_agree c zero b' p i l l' = absurd (not-suc-le-zero l)
figures_agree c (suc b) zero p i l l' = absurd (not-suc-le-zero l')
figures_agree c (suc b) (suc b') p i l l' =
    current_agree λ s o k. content_agree (content_of s i) _ λ is e.
    each_agree (made s) i figures_gather (λ d j m. bind_keeps (count_keeps p) λ d' m' _ _. figures_keep d' b p j (le_trans m m'))
    (λ d j m r. bind_agree (count_keeps p) equal λ d' m' _ _. figures_agree d' b b' p j (inside r l) (inside r l')) is
    (subst (Below (made s)) e (components_there s o i)) (subst (Below i) e (o.components i))

living_below : {n : ℕ} (s : State) (is : List ℕ) → Below n is → Below n (living s is)
unfolding living if◌then◌otherwise◌
living_below s [] done = done
living_below {n} s (i ∷ is) (next l h) = by (is_destroyed s i) (living_below s is h)
  where
    by : (t : Bool) → Below n (living s is) → Below n (if t then (λ _. living s is) otherwise λ _. i ∷ living s is)
    by true k = k
    by false k = next l k

alike_agree : (c b b' p i j : ℕ) → i < b → i < b' → Agree c (alike b p i j) (alike b' p i j)
unfolding alike
alike_agree c zero b' p i j l l' = absurd (not-suc-le-zero l)
alike_agree c (suc b) zero p i j l l' = absurd (not-suc-le-zero l')
alike_agree c (suc b) (suc b') p i j l l' =
    current_agree λ s o k. content_agree (content_of s i) _ λ is e. content_agree (content_of s j) _ λ js e'.
    pairwise_agree (made s) i (λ d i' j'. bind_keeps (count_keeps p) λ d' m' _ _. alike_keeps d' b p i' j')
    (λ d i' j' r. bind_agree (count_keeps p) equal λ d' m' _ _. alike_agree d' b b' p i' j' (inside r l) (inside r l')) (living s is) (living s js)
    (living_below s is (subst (Below i) e (o.components i)))

-- ---- foreach: bodies that leave older components
record Safe {A : Type 0} (m : Action A) : Type 0 where
  safe : KeepsOlder m

module _ {A B : Type 0} where
  go_safe : (ts : List Event) (e : End A) (k : A → Action B) (b : B) (s' : State) → ((a : A) (s : State) → e ≡ result a s → Older s) →
      ((a : A) → Safe (k a)) → (go_on ts e k).end ≡ result b s' → Older s'
  unfolding go_on
  go_safe ts (result a s) k b s' o h q = (h a).safe s s' b (o a s refl) q
  go_safe ts (error n p) k b s' o h q = let z : ◌≡◌ {A = ℕ} 0 1 = cc in absurd (omega arith)
  go_safe ts unfinished k b s' o h q = let z : ◌≡◌ {A = ℕ} 0 1 = cc in absurd (omega arith)

  bind_safe : {m : Action A} {k : A → Action B} → Safe m → ((a : A) → Safe (k a)) → Safe (m >>= k)
  unfolding ◌>>=◌
  bind_safe {m} {k} h f = record { safe = λ s s' b o q. go_safe (m s).takings (m s).end k b s' (λ a s₁ e. h.safe s s₁ a o e) f q }

  go_same : (ts : List Event) (e : End A) (k k' : A → Action B) → ((a : A) (s : State) → e ≡ result a s → Older s) → ((a : A) → Agree 0 (k a) (k' a)) →
      go_on ts e k ≡ go_on ts e k'
  unfolding go_on
  go_same ts (result a s) k k' o h = ap (following ts) ((h a).same s (o a s refl) (no_fewer (made s)))
  go_same ts (error n p) k k' o h = refl
  go_same ts unfinished k k' o h = refl

  safe_agree : {m m' : Action A} {k k' : A → Action B} → Safe m → Agree 0 m m' → ((a : A) → Agree 0 (k a) (k' a)) → Agree 0 (m >>= k) (m' >>= k')
  unfolding ◌>>=◌
  safe_agree {m} {m'} {k} {k'} f h g = record {
    same = λ s o l.
        go_same (m s).takings (m s).end k k' (λ a s₁ e. f.safe s s₁ a o e) g
        ∙ ap (λ (r : Run A). go_on r.takings r.end k') (h.same s o l);
  }

keeps_safe : {A : Type 0} {P : ℕ → A → Type 0} {m : Action A} → Keeps 0 P m → Safe m
keeps_safe {A} {P} {m} h = record { safe = λ s s' a o e. let k : Left 0 P (result a s') = rw e at (h.kept s o (no_fewer (made s))) in k.0 }

give_safe : {A : Type 0} (a : A) → Safe (give a)
give_safe a = keeps_safe {P = Anything} (give_keeps a λ c l. tt)

current_safe : Safe current
unfolding current
current_safe = record { safe = λ s s' a o e. let q : ◌≡◌ {A = State} s s' = cc in subst Older q o }

if_safe : {A : Type 0} (t : Bool) {x y : Action A} → Safe x → Safe y → Safe (if t then (λ _. x) otherwise λ _. y)
unfolding if◌then◌otherwise◌
if_safe true h f = h
if_safe false h f = f

content_safe : {A : Type 0} (c : Content) {f : Figure → Action A} {g : List ℕ → Action A} → ((a : Figure) → Safe (f a)) → ((is : List ℕ) → Safe (g is)) → Safe (by_content c f g)
unfolding by_content
content_safe (atom a) h k = h a
content_safe (group is) h k = k is

continue_safe : (f : Flow) {k : Action Flow} → Safe k → Safe (continue f k)
unfolding continue
continue_safe onward h = h
continue_safe (returned v) h = give_safe (returned v)

continue_agree : (f : Flow) {k k' : Action Flow} → Agree 0 k k' → Agree 0 (continue f k) (continue f k')
unfolding continue
continue_agree onward h = h
continue_agree (returned v) h = equal

turns_safe : {visit : ℕ → Action Flow} → ((i : ℕ) → Safe (visit i)) → (is : List ℕ) → Safe (turns visit is)
unfolding turns
turns_safe h [] = give_safe onward
turns_safe h (i ∷ is) = bind_safe current_safe λ s. bind_safe (if_safe _ (give_safe onward) (h i)) λ f. continue_safe f (turns_safe h is)

turns_agree : (n : ℕ) {visit visit' : ℕ → Action Flow} → ((i : ℕ) → Safe (visit i)) → ((i : ℕ) → i < n → Agree 0 (visit i) (visit' i)) →
    (is : List ℕ) → Below n is → Agree 0 (turns visit is) (turns visit' is)
unfolding turns
turns_agree n k h [] q = equal
turns_agree n k h (i ∷ is) (next q r) =
    safe_agree current_safe equal λ s. safe_agree (if_safe _ (give_safe onward) (k i)) (if_agree _ equal (h i q)) λ f. continue_agree f (turns_agree n k h is r)

module _ {body : ℕ → Action Flow} (safely : (i : ℕ) → Safe (body i)) where
  iterating_safe : (b i : ℕ) → Safe (iterating b body i)
  unfolding iterating
  iterating_safe zero i = give_safe onward
  iterating_safe (suc b) i = bind_safe current_safe λ s. content_safe (content_of s i) (λ a. safely i) (turns_safe (iterating_safe b))

  iterating_agree : (b b' i : ℕ) → i < b → i < b' → Agree 0 (iterating b body i) (iterating b' body i)
  unfolding iterating
  iterating_agree zero b' i l l' = absurd (not-suc-le-zero l)
  iterating_agree (suc b) zero i l l' = absurd (not-suc-le-zero l')
  iterating_agree (suc b) (suc b') i l l' =
      current_agree λ s o k. content_agree (content_of s i) _ λ is e.
      after_any (turns_agree i (iterating_safe b) (λ j r. iterating_agree b b' j (inside r l) (inside r l')) is (subst (Below i) e (o.components i)))

-- THE CLAIM
pub depths_suffice : DepthsSuffice
depths_suffice s o b p i l =
    let q = le_refl (suc i) in (
      (destroying_agree 0 b (suc i) p i l q).same s o (no_fewer (made s)),
      (λ f. (remade_agree 0 b (suc i) p f i l q).same s o (no_fewer (made s))),
      (figures_agree 0 b (suc i) p i l q).same s o (no_fewer (made s)),
      (λ j. (alike_agree 0 b (suc i) p i j l q).same s o (no_fewer (made s))),
      (λ body h. (iterating_agree (λ j. record { safe = h j }) b (suc i) i l q).same s o (no_fewer (made s))),
    )
