-- Laws of the tests on texts, integers and keys: each says whether two things are equal.
use Prim.Native.Nat.{ℕ, min, ◌+◌, ◌<◌}
use mathlib.Core.Path.{◌≡◌, refl, ap, ap₂, sym, ◌∙◌}
use mathlib.Core.Logic.{◌↔◌}
use mathlib.Core.Bool.{Bool, true, false, ◌&&◌, cond, and-eq-true_iff}
use mathlib.Core.List.{List, [], ◌∷◌}
use mathlib.Core.Option.{some, some-injective}
use mathlib.Core.Option as Option
use native.Mathlib.Omega.{arith}
use lib.ListN.{get_or}
use lib.Dec.{eqb}
use borrow.Author.Tests.{eqb-true, eqb-false, eq-eqb, ne_eqb}
use lib.IntN.{ℤ, pos, negsuc}
use Rattle.meaning.specs.Basics.{same_text}
use Rattle.meaning.specs.Integer.{same_integer, same_integers}
use Rattle.meaning.specs.Figure.{Figure, line, ellipse, box, text, figure_kind, numbers_of, text_of, same_figure}
use Rattle.meaning.specs.Value.{Value, integer, string, boolean, none, table, shape, kind_of}
use Rattle.meaning.specs.State.{State, Content, atom, group, content_of, by_content, Key, figure_key, key_of, same_key}

eqb_same : (n : ℕ) → eqb n n ≡ true
eqb_same n = eq-eqb n n refl

-- a test that says whether two things are equal takes them in either order
pub test_symmetric : {A : Type 0} (t : A → A → Bool) → ((a b : A) → t a b ≡ true ↔ a ≡ b) → (a b : A) → t a b ≡ t b a
test_symmetric t i a b = go (t a b) (t b a) (λ e. (i b a).1 (sym ((i a b).0 e))) (λ e. (i a b).1 (sym ((i b a).0 e)))
  where
    go : (x y : Bool) → (x ≡ true → y ≡ true) → (y ≡ true → x ≡ true) → x ≡ y
    go true y f g = sym (f refl)
    go false true f g = g refl
    go false false f g = refl

-- ---- texts
pub same_text_same : (a : List ℕ) → same_text a a ≡ true
unfolding same_text
same_text_same [] = refl
same_text_same (x ∷ xs) = (and-eq-true_iff (eqb x x) (same_text xs xs)).1 (eqb_same x, same_text_same xs)

same_text_equal : (a b : List ℕ) → same_text a b ≡ true → a ≡ b
unfolding same_text
same_text_equal [] [] e = refl
same_text_equal [] (y ∷ ys) e = cc
same_text_equal (x ∷ xs) [] e = cc
same_text_equal (x ∷ xs) (y ∷ ys) e =
    let h = (and-eq-true_iff (eqb x y) (same_text xs ys)).0 e in
    ap₂ ◌∷◌ (eqb-true x y h.0) (same_text_equal xs ys h.1)

pub same_text_iff : (a b : List ℕ) → same_text a b ≡ true ↔ a ≡ b
same_text_iff a b = (same_text_equal a b, λ e. rw (← e) (same_text_same a))

-- ---- integers
pub same_integer_same : (a : ℤ) → same_integer a a ≡ true
unfolding same_integer
same_integer_same (pos a) = eqb_same a
same_integer_same (negsuc a) = eqb_same a

same_integer_equal : (a b : ℤ) → same_integer a b ≡ true → a ≡ b
unfolding same_integer
same_integer_equal (pos a) (pos b) e = ap pos (eqb-true a b e)
same_integer_equal (pos a) (negsuc b) e = cc
same_integer_equal (negsuc a) (pos b) e = cc
same_integer_equal (negsuc a) (negsuc b) e = ap negsuc (eqb-true a b e)

pub same_integer_iff : (a b : ℤ) → same_integer a b ≡ true ↔ a ≡ b
same_integer_iff a b = (same_integer_equal a b, λ e. rw (← e) (same_integer_same a))

same_integers_same : (a : List ℤ) → same_integers a a ≡ true
unfolding same_integers
same_integers_same [] = refl
same_integers_same (x ∷ xs) = (and-eq-true_iff (same_integer x x) (same_integers xs xs)).1 (same_integer_same x, same_integers_same xs)

same_integers_equal : (a b : List ℤ) → same_integers a b ≡ true → a ≡ b
unfolding same_integers
same_integers_equal [] [] e = refl
same_integers_equal [] (y ∷ ys) e = cc
same_integers_equal (x ∷ xs) [] e = cc
same_integers_equal (x ∷ xs) (y ∷ ys) e =
    let h = (and-eq-true_iff (same_integer x y) (same_integers xs ys)).0 e in
    ap₂ ◌∷◌ (same_integer_equal x y h.0) (same_integers_equal xs ys h.1)

-- ---- keys
pub same_key_same : (k : Key) → same_key k k ≡ true
unfolding same_key
same_key_same k = rw (eqb_same k.kind, same_integers_same k.numbers, same_text_same k.text)

same_key_equal : (a b : Key) → same_key a b ≡ true → a ≡ b
unfolding same_key
same_key_equal a b e =
    let h = (and-eq-true_iff (eqb a.kind b.kind && same_integers a.numbers b.numbers) (same_text a.text b.text)).0 e in
    let k = (and-eq-true_iff (eqb a.kind b.kind) (same_integers a.numbers b.numbers)).0 h.0 in
    let p = eqb-true a.kind b.kind k.0 in
    let q = same_integers_equal a.numbers b.numbers k.1 in
    let r = same_text_equal a.text b.text h.1 in
    λ i. record { kind = p i; numbers = q i; text = r i }

pub same_key_iff : (a b : Key) → same_key a b ≡ true ↔ a ≡ b
same_key_iff a b = (same_key_equal a b, λ e. rw (← e) (same_key_same a))

pub same_key_symmetric : (a b : Key) → same_key a b ≡ same_key b a
same_key_symmetric = test_symmetric same_key same_key_iff

-- ---- keys of values
-- keys of different kinds never match
key_kind : (s : State) (v : Value) (k : Key) → key_of s v ≡ some k → min 5 k.kind ≡ kind_of v
unfolding key_of kind_of by_content
key_kind s (integer z) k e = ap (λ (x : Key). min 5 x.kind) (sym (some-injective _ _ e))
key_kind s (string t) k e = ap (λ (x : Key). min 5 x.kind) (sym (some-injective _ _ e))
key_kind s (boolean b) k e = ap (λ (x : Key). min 5 x.kind) (sym (some-injective _ _ e))
key_kind s none k e = ap (λ (x : Key). min 5 x.kind) (sym (some-injective _ _ e))
key_kind s (table t) k e = ap (λ (x : Key). min 5 x.kind) (sym (some-injective _ _ e))
key_kind s (shape i) k e = by (content_of s i) e
  where
    by : (c : Content) → by_content c (λ a. some (figure_key a)) (λ cs. Option.none) ≡ some k → min 5 k.kind ≡ 5
    by (atom a) q = ap (λ (x : Key). min 5 x.kind) (sym (some-injective _ _ q)) ∙ omega arith
    by (group cs) q = cc

pub same_key_kind : (s : State) (v w : Value) (a b : Key) → key_of s v ≡ some a → key_of s w ≡ some b → same_key a b ≡ true → kind_of v ≡ kind_of w
same_key_kind s v w a b h k e = sym (key_kind s v a h) ∙ ap (λ (x : Key). min 5 x.kind) (same_key_equal a b e) ∙ key_kind s w b k

-- ---- a key forgets nothing
-- the figure that a key is of, and the value that is no shape
abbrev nth : List ℤ → ℕ → ℤ
nth ns i = get_or ns i (pos 0)

figure_back : ℕ → List ℤ → List ℕ → Figure
figure_back k ns t =
    cond (eqb k 5) (line (nth ns 0) (nth ns 1) (nth ns 2) (nth ns 3))
    (cond (eqb k 6) (ellipse (nth ns 0) (nth ns 1) (nth ns 2) (nth ns 3))
    (cond (eqb k 7) (box (nth ns 0) (nth ns 1) (nth ns 2) (nth ns 3))
    (text (nth ns 0) (nth ns 1) t)))

figure_back_lem : (a : Figure) → figure_back (figure_key a).kind (figure_key a).numbers (figure_key a).text ≡ a
unfolding figure_back figure_kind numbers_of text_of
figure_back_lem (line x₁ y₁ x₂ y₂) = refl
figure_back_lem (ellipse x y a b) = refl
figure_back_lem (box x y w h) = refl
figure_back_lem (text x y s) = refl

-- shapes have the same key exactly where they look alike
pub figure_key_iff : (a b : Figure) → same_key (figure_key a) (figure_key b) ≡ true ↔ a ≡ b
figure_key_iff a b = (
  λ e. sym (figure_back_lem a) ∙ ap (λ (k : Key). figure_back k.kind k.numbers k.text) (same_key_equal (figure_key a) (figure_key b) e) ∙ figure_back_lem b,
  λ e. (same_key_iff (figure_key a) (figure_key b)).1 (ap (λ (x : Figure). figure_key x) e),
)

magnitude : ℤ → ℕ
magnitude (pos n) = n
magnitude (negsuc n) = n

value_back : ℕ → List ℤ → List ℕ → Value
value_back k ns t =
    cond (eqb k 0) (integer (nth ns 0))
    (cond (eqb k 1) (string t)
    (cond (eqb k 2) (boolean (eqb (magnitude (nth ns 0)) 1))
    (cond (eqb k 3) none
    (table (magnitude (nth ns 0))))))

abbrev back : Key → Value
back x = value_back x.kind x.numbers x.text

value_back_lem : (s : State) (v : Value) (k : Key) → kind_of v < 5 → key_of s v ≡ some k → value_back k.kind k.numbers k.text ≡ v
unfolding value_back magnitude key_of kind_of
value_back_lem s (integer z) k h e = ap back (sym (some-injective _ _ e))
value_back_lem s (string t) k h e = ap back (sym (some-injective _ _ e))
value_back_lem s (boolean true) k h e = ap back (sym (some-injective _ _ e))
value_back_lem s (boolean false) k h e = ap back (sym (some-injective _ _ e))
value_back_lem s none k h e = ap back (sym (some-injective _ _ e))
value_back_lem s (table t) k h e = ap back (sym (some-injective _ _ e))
value_back_lem s (shape i) k h e = absurd (omega arith)

-- and other values exactly where they are the same
pub key_of_iff : (s : State) (v w : Value) (a b : Key) → kind_of v < 5 → kind_of w < 5 → key_of s v ≡ some a → key_of s w ≡ some b → same_key a b ≡ true ↔ v ≡ w
key_of_iff s v w a b h k va wb = (
  λ e. sym (value_back_lem s v a h va) ∙ ap back (same_key_equal a b e) ∙ value_back_lem s w b k wb,
  λ e. (same_key_iff a b).1 (some-injective _ _ (sym va ∙ ap (key_of s) e ∙ wb)),
)

-- ---- figures
eqb_plus : (n a b : ℕ) → eqb (n + a) (n + b) ≡ eqb a b
eqb_plus n a b = go (eqb a b) refl
  where
    go : (t : Bool) → eqb a b ≡ t → eqb (n + a) (n + b) ≡ t
    go true e = eq-eqb (n + a) (n + b) (ap (λ (m : ℕ). n + m) (eqb-true a b e))
    go false e = ne_eqb (n + a) (n + b) (λ q. eqb-false a b e (omega arith))

pub figure_key_alike : (a b : Figure) → same_key (figure_key a) (figure_key b) ≡ same_figure a b
unfolding same_key same_figure
figure_key_alike a b = rw (eqb_plus 5 (figure_kind a) (figure_kind b))

pub same_figure_iff : (a b : Figure) → same_figure a b ≡ true ↔ a ≡ b
same_figure_iff a b = rw (← figure_key_alike a b) (figure_key_iff a b)

pub same_figure_same : (a : Figure) → same_figure a a ≡ true
same_figure_same a = (same_figure_iff a a).1 refl
