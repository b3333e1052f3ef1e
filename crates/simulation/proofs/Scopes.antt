-- The variables of a procedure: its parameters come first, and what its body declares is among them.
use Prim.Native.Nat.{ℕ, zero, suc, ◌+◌, ◌≤◌, ◌<◌}
use native.Mathlib.Omega.{arith}
use mathlib.Core.Path.{◌≡◌, refl, ap, sym, ◌∙◌, subst}
use mathlib.Core.Logic.{◌≢◌}
use mathlib.Core.Bool.{Bool, true, false, ◌||◌, cond}
use mathlib.Core.List.{List, [], ◌∷◌, ◌++◌, append-nil, append_assoc}
use mathlib.Core.Option.{some}
use lib.ListN.{length, get_or, length-append, get_or-append}
use lib.Dec.{eqb}
use borrow.Author.Tests.{eqb-true, eqb-false, eq-eqb, ne_eqb}
use Rattle.meaning.specs.Basics.{if◌then◌otherwise◌, same_text}
use Rattle.meaning.specs.Tree.{Procedure}
use Rattle.meaning.specs.Procedure.{is_among, any_twice}
use Rattle.meaning.specs.Procedure as Meaning
use Rattle.reader.specs.Declarations.{declared_by, declarations}
use Rattle.reader.proofs.Homes.{same_text_lem, text_same}
use Rattle.numbering.specs.Numbers.{with_name, with_names, number_in, variables_in, frame_size}
use Rattle.numbering.proofs.Laws.{text_turned, among_more, names_few, names_append}
use Rattle.simulation.specs.Scope.{own_names}
use Rattle.simulation.proofs.Naming.{Once, own_once}

differ : {A : Type 0} → true ≡ false → A
differ e = let z : ◌≡◌ {A = ℕ} 0 1 = cc in absurd (omega arith)

-- ---- a name among others
module _ (x : List ℕ) where
  pub among_left : (a b : List (List ℕ)) → is_among x a ≡ true → is_among x (a ++ b) ≡ true
  unfolding is_among
  among_left [] b e = differ (sym e)
  among_left (y ∷ a) b e = go (same_text y x) e (among_left a b)
    where
      go : (t : Bool) → (t || is_among x a) ≡ true → (is_among x a ≡ true → is_among x (a ++ b) ≡ true) → (t || is_among x (a ++ b)) ≡ true
      go true q f = refl
      go false q f = f q

  pub among_right : (a b : List (List ℕ)) → is_among x b ≡ true → is_among x (a ++ b) ≡ true
  unfolding is_among
  among_right [] b e = e
  among_right (y ∷ a) b e = go (same_text y x) (among_right a b e)
    where
      go : (t : Bool) → is_among x (a ++ b) ≡ true → (t || is_among x (a ++ b)) ≡ true
      go true q = refl
      go false q = q

  own_name : is_among x (x ∷ []) ≡ true
  unfolding is_among
  own_name = rw (text_same x)

module _ (x : List ℕ) (l : List (List ℕ)) where
  -- ---- one name more
  with_known : is_among x l ≡ true → with_name l x ≡ l
  unfolding with_name if◌then◌otherwise◌
  with_known e = rw e

  with_new : is_among x l ≡ false → with_name l x ≡ l ++ (x ∷ [])
  unfolding with_name if◌then◌otherwise◌
  with_new e = rw e

  with_long : length (with_name l x) ≤ suc (length l)
  with_long = go (is_among x l) refl
    where
      go : (t : Bool) → is_among x l ≡ t → length (with_name l x) ≤ suc (length l)
      go true e = rw (with_known e) (omega arith)
      go false e = rw (with_new e, length-append l (x ∷ [])) (omega arith)

  with_own : is_among x (with_name l x) ≡ true
  with_own = go (is_among x l) refl
    where
      go : (t : Bool) → is_among x l ≡ t → is_among x (with_name l x) ≡ true
      go true e = rw (with_known e) e
      go false e = rw (with_new e) (among_right x l (x ∷ []) (own_name x))

  -- those before it
  with_others : (y : List ℕ) → is_among y l ≡ true → is_among y (with_name l x) ≡ true
  with_others y b = go (is_among x l) refl
    where
      go : (t : Bool) → is_among x l ≡ t → is_among y (with_name l x) ≡ true
      go true e = rw (with_known e) b
      go false e = rw (with_new e) (among_left y l (x ∷ []) b)

  with_front : (length l ≤ length (with_name l x)) × ((k : ℕ) → k < length l → get_or (with_name l x) k [] ≡ get_or l k [])
  with_front = go (is_among x l) refl
    where
      go : (t : Bool) → is_among x l ≡ t → (length l ≤ length (with_name l x)) × ((k : ℕ) → k < length l → get_or (with_name l x) k [] ≡ get_or l k [])
      go true e = rw (with_known e) (omega arith, λ k m. refl)
      go false e = rw (with_new e, length-append l (x ∷ [])) (omega arith, λ k m. get_or-append l (x ∷ []) [] k m)

-- ---- more names
names_kept : (x : List ℕ) (ys l : List (List ℕ)) → is_among x l ≡ true → is_among x (with_names l ys) ≡ true
unfolding with_names
names_kept x [] l e = e
names_kept x (y ∷ ys) l e = names_kept x ys (with_name l y) (with_others y l x e)

-- those before them come first
names_front : (ys l : List (List ℕ)) → (length l ≤ length (with_names l ys)) × ((k : ℕ) → k < length l → get_or (with_names l ys) k [] ≡ get_or l k [])
unfolding with_names
names_front [] l = (omega arith, λ k m. refl)
names_front (y ∷ ys) l =
    let a = with_front y l in
    let b = names_front ys (with_name l y) in
    (omega (arith, a.0, b.0), λ k m. b.1 k (omega (arith, a.0)) ∙ a.1 k m)

names_given : (x : List ℕ) (ys l : List (List ℕ)) → is_among x ys ≡ true → is_among x (with_names l ys) ≡ true
unfolding with_names is_among
names_given x [] l e = differ (sym e)
names_given x (y ∷ ys) l e = go (same_text y x) refl e (names_given x ys (with_name l y))
  where
    go : (t : Bool) → same_text y x ≡ t → (t || is_among x ys) ≡ true → (is_among x ys ≡ true → is_among x (with_names (with_name l y) ys) ≡ true)
        → is_among x (with_names (with_name l y) ys) ≡ true
    go true q e f = names_kept x ys (with_name l y) (subst (λ (z : List ℕ). is_among z (with_name l y) ≡ true) (same_text_lem y x q) (with_own y l))
    go false q e f = f e

-- ---- parameters: 60 if two have one name
-- whether one of some is among others, or stands before
unfoldable clash : List (List ℕ) → List (List ℕ) → Bool
clash l [] = false
clash l (x ∷ xs) = is_among x l || clash (l ++ (x ∷ [])) xs

unfoldable any_among : List (List ℕ) → List (List ℕ) → Bool
any_among l [] = false
any_among l (x ∷ xs) = is_among x l || any_among l xs

one_more_name : (l : List (List ℕ)) (x y : List ℕ) → is_among y (l ++ (x ∷ [])) ≡ (is_among y l || same_text y x)
one_more_name l x y = among_more y x l ∙ ap (λ (b : Bool). is_among y l || b) (text_turned x y)

four : (a b c d : Bool) → ((a || b) || (c || d)) ≡ ((a || c) || (b || d))
four true b c d = refl
four false true true d = refl
four false true false d = refl
four false false c d = refl

one_more_of : (l : List (List ℕ)) (x : List ℕ) (xs : List (List ℕ)) → any_among (l ++ (x ∷ [])) xs ≡ (any_among l xs || Meaning.is_among x xs)
unfolding any_among Meaning.is_among
one_more_of l x [] = refl
one_more_of l x (y ∷ xs) = rw (one_more_name l x y, one_more_of l x xs) (four (is_among y l) (same_text y x) (any_among l xs) (Meaning.is_among x xs))

three_of : (a b c d : Bool) → (a || ((b || c) || d)) ≡ ((a || b) || (c || d))
three_of true b c d = refl
three_of false true c d = refl
three_of false false c d = refl

clashes : (l xs : List (List ℕ)) → clash l xs ≡ (any_among l xs || any_twice xs)
unfolding clash any_among any_twice
clashes l [] = refl
clashes l (x ∷ xs) = rw (clashes (l ++ (x ∷ [])) xs, one_more_of l x xs) (three_of (is_among x l) (any_among l xs) (Meaning.is_among x xs) (any_twice xs))

none_among : (xs : List (List ℕ)) → any_among [] xs ≡ false
unfolding any_among is_among
none_among [] = refl
none_among (x ∷ xs) = none_among xs

twice_is : (xs : List (List ℕ)) → clash [] xs ≡ any_twice xs
twice_is xs = clashes [] xs ∙ rw (none_among xs)

-- without clashes all are taken, in their order; else fewer
clash_none : (xs l : List (List ℕ)) → clash l xs ≡ false → with_names l xs ≡ l ++ xs
unfolding clash with_names
clash_none [] l e = sym (append-nil l)
clash_none (x ∷ xs) l e = go (is_among x l) refl e (clash_none xs (l ++ (x ∷ [])))
  where
    go : (t : Bool) → is_among x l ≡ t → (t || clash (l ++ (x ∷ [])) xs) ≡ false
        → (clash (l ++ (x ∷ [])) xs ≡ false → with_names (l ++ (x ∷ [])) xs ≡ (l ++ (x ∷ [])) ++ xs) → with_names (with_name l x) xs ≡ l ++ (x ∷ xs)
    go true q e f = differ e
    go false q e f = rw (with_new x l q) (f e ∙ append_assoc l (x ∷ []) xs)

clash_some : (xs l : List (List ℕ)) → clash l xs ≡ true → length (with_names l xs) < length l + length xs
unfolding clash with_names
clash_some [] l e = differ (sym e)
clash_some (x ∷ xs) l e = go (is_among x l) refl e (clash_some xs (l ++ (x ∷ [])))
  where
    go : (t : Bool) → is_among x l ≡ t → (t || clash (l ++ (x ∷ [])) xs) ≡ true
        → (clash (l ++ (x ∷ [])) xs ≡ true → length (with_names (l ++ (x ∷ [])) xs) < length (l ++ (x ∷ [])) + length xs)
        → length (with_names (with_name l x) xs) < length l + suc (length xs)
    go true q e f = rw (with_known x l q) (omega (arith, names_few l xs))
    go false q e f = rw (with_new x l q) (omega (arith, f e, length-append l (x ∷ [])))

-- ---- different numbers
-- f, where the n-th takes the place of the one that is m
unfoldable moved : (ℕ → ℕ) → ℕ → ℕ → ℕ → ℕ
moved f n m k = cond (eqb (f k) m) (f n) (f k)

is_m : (f : ℕ → ℕ) (n m k : ℕ) → f k ≡ m → moved f n m k ≡ f n
unfolding moved
is_m f n m k e = rw (eq-eqb (f k) m e)

not_m : (f : ℕ → ℕ) (n m k : ℕ) → f k ≢ m → moved f n m k ≡ f k
unfolding moved
not_m f n m k e = rw (ne_eqb (f k) m e)

-- n different numbers below m are at most m
pub distinct_below : (n m : ℕ) (f : ℕ → ℕ) → ((k : ℕ) → k < n → f k < m) → ((j k : ℕ) → j < n → k < n → f j ≡ f k → j ≡ k) → n ≤ m
distinct_below zero m f below apart = omega arith
distinct_below (suc n) zero f below apart = absurd (omega (arith, below 0 (omega arith)))
distinct_below (suc n) (suc m) f below apart = let h = distinct_below n m (moved f n m) moved_below moved_apart in omega arith
  where
    moved_below : (k : ℕ) → k < n → moved f n m k < m
    moved_below k l = go (eqb (f k) m) refl
      where
        go : (t : Bool) → eqb (f k) m ≡ t → moved f n m k < m
        go true q =
            let e = eqb-true (f k) m q in
            let d : f n ≢ m = λ z. omega (arith, apart k n (omega arith) (omega arith) (e ∙ sym z)) in
            rw (is_m f n m k e) (omega (arith, d, below n (omega arith)))
        go false q = let d : f k ≢ m = eqb-false (f k) m q in rw (not_m f n m k d) (omega (arith, d, below k (omega arith)))

    moved_apart : (j k : ℕ) → j < n → k < n → moved f n m j ≡ moved f n m k → j ≡ k
    moved_apart j k a b e = go (eqb (f j) m) (eqb (f k) m) refl refl
      where
        go : (t u : Bool) → eqb (f j) m ≡ t → eqb (f k) m ≡ u → j ≡ k
        go true true p q = apart j k (omega arith) (omega arith) (eqb-true (f j) m p ∙ sym (eqb-true (f k) m q))
        go true false p q =
            let z : f n ≡ f k = sym (is_m f n m j (eqb-true (f j) m p)) ∙ e ∙ not_m f n m k (eqb-false (f k) m q) in
            absurd (omega (arith, apart n k (omega arith) (omega arith) z))
        go false true p q =
            let z : f j ≡ f n = sym (not_m f n m j (eqb-false (f j) m p)) ∙ e ∙ is_m f n m k (eqb-true (f k) m q) in
            absurd (omega (arith, apart j n (omega arith) (omega arith) z))
        go false false p q = apart j k (omega arith) (omega arith) (sym (not_m f n m j (eqb-false (f j) m p)) ∙ e ∙ not_m f n m k (eqb-false (f k) m q))

-- ---- those of a procedure
module _ (f : Procedure) where
  pub variables_once : Once (variables_in f)
  unfolding own_names
  variables_once = own_once (some f)

  pub variables_few : length (variables_in f) ≤ length f.parameters + declarations f.body
  unfolding variables_in
  variables_few = omega (arith, names_few [] (f.parameters ++ declared_by f.body), length-append f.parameters (declared_by f.body))

  -- what its body declares is among them
  pub own_declared : (x : List ℕ) → is_among x (declared_by f.body) ≡ true → is_among x (variables_in f) ≡ true
  unfolding variables_in
  own_declared x e = names_given x (f.parameters ++ declared_by f.body) [] (among_right x f.parameters (declared_by f.body) e)

  parameters_then : variables_in f ≡ with_names (with_names [] f.parameters) (declared_by f.body)
  unfolding variables_in
  parameters_then = names_append [] f.parameters (declared_by f.body)

  -- ---- its frame: none if two parameters have one name
  pub size_twice : any_twice f.parameters ≡ true → frame_size f ≡ 0
  unfolding frame_size if◌then◌otherwise◌
  size_twice e =
      let l = clash_some f.parameters [] (twice_is f.parameters ∙ e) in
      let d : length (with_names [] f.parameters) ≢ length f.parameters = λ q. omega arith in
      rw (ne_eqb _ _ d)

  module _ (e : any_twice f.parameters ≡ false) where
    taken : with_names [] f.parameters ≡ f.parameters
    taken = clash_none f.parameters [] (twice_is f.parameters ∙ e)

    pub size_once : frame_size f ≡ suc (length (variables_in f))
    unfolding frame_size if◌then◌otherwise◌
    size_once = rw (taken, eq-eqb (length f.parameters) (length f.parameters) refl)

    -- parameters come first
    pub parameters_few : length f.parameters ≤ length (variables_in f)
    parameters_few = rw (parameters_then, taken) (names_front (declared_by f.body) f.parameters).0

    pub parameter_name : (k : ℕ) → k < length f.parameters → get_or (variables_in f) k [] ≡ get_or f.parameters k []
    parameter_name k l = rw (parameters_then, taken) ((names_front (declared_by f.body) f.parameters).1 k l)

    pub parameter_number : (k : ℕ) → k < length f.parameters → number_in (variables_in f) (get_or f.parameters k []) ≡ k
    parameter_number k l = ap (number_in (variables_in f)) (sym (parameter_name k l)) ∙ variables_once.is k (omega (arith, parameters_few))
