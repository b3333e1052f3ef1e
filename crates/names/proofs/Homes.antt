-- Texts compared, and the home of a kind and a text: the first token that has them.
-- Assumes nothing.
use mathlib.Core.Path.{◌≡◌, ◌∙◌, refl, sym, ap}
use mathlib.Core.Bool.{Bool, true, false, ◌&&◌}
use mathlib.Core.List.{List, [], ◌∷◌}
use Prim.Native.Nat.{ℕ, zero, suc, ◌≤◌, ◌<◌}
use native.Mathlib.Omega.{arith}
use borrow.Author.Tests.{eq-eqb, eqb-true}
use lib.Dec.{eqb}
use lib.ListN.{length}
use Rattle.meaning.specs.Basics.{if◌then◌otherwise◌, same_text}
use Rattle.meaning.specs.Token.{Token}
use Rattle.meaning.specs.Grammar.{kind_at, text_at}
use Rattle.names.specs.Prepared.{home}

pub and_true : (a b : Bool) → a && b ≡ true → (a ≡ true) × (b ≡ true)
and_true true b e = (refl, e)
and_true false b e = let z : ◌≡◌ {A = ℕ} 0 1 = cc in absurd (omega arith)

pub same_itself : (x : List ℕ) → same_text x x ≡ true
unfolding same_text
same_itself [] = refl
same_itself (a ∷ x) = rw (eq-eqb a a refl, same_itself x)

pub same_equal : (x y : List ℕ) → same_text x y ≡ true → x ≡ y
unfolding same_text
same_equal [] [] e = refl
same_equal [] (b ∷ y) e = let z : ◌≡◌ {A = ℕ} 0 1 = cc in absurd (omega arith)
same_equal (a ∷ x) [] e = let z : ◌≡◌ {A = ℕ} 0 1 = cc in absurd (omega arith)
same_equal (a ∷ x) (b ∷ y) e =
    let q = and_true (eqb a b) (same_text x y) e in
    let u : a ≡ b = eqb-true a b q.0 in
    let v : x ≡ y = same_equal x y q.1 in
    cc

pub and-false : (b : Bool) → b && false ≡ false
and-false true = refl
and-false false = refl

pub other_lengths : (x y : List ℕ) → (length x ≡ length y → ⊥) → same_text x y ≡ false
unfolding same_text
other_lengths [] [] h = absurd (h refl)
other_lengths [] (b ∷ y) h = refl
other_lengths (a ∷ x) [] h = refl
other_lengths (a ∷ x) (b ∷ y) h = rw (other_lengths x y (λ e. h (ap suc e))) (and-false (eqb a b))

-- whether a token is of a kind and a text
abbrev fits : Token → ℕ → List ℕ → Bool
fits t k x = eqb t.kind k && same_text t.text x

module _ (k : ℕ) (x : List ℕ) where
  pub home_most : (ts : List Token) → home ts k x ≤ length ts
  unfolding home if◌then◌otherwise◌
  home_most [] = omega arith
  home_most (t ∷ ts) = go (fits t k x) (home_most ts)
    where
      go : (b : Bool) → home ts k x ≤ length ts → (if b then (λ _. 0) otherwise λ _. suc (home ts k x)) ≤ suc (length ts)
      go true h = omega arith
      go false h = omega arith

  -- no token before the home has both
  pub home_least : (ts : List Token) (i : ℕ) → i < length ts → kind_at ts i ≡ k → text_at ts i ≡ x → home ts k x ≤ i
  unfolding home if◌then◌otherwise◌
  home_least [] i h u v = absurd (omega arith)
  home_least (t ∷ ts) zero h u v = rw (u, v, eq-eqb k k refl, same_itself x) (omega arith)
  home_least (t ∷ ts) (suc i) h u v = go (fits t k x) (home_least ts i (omega arith) u v)
    where
      go : (b : Bool) → home ts k x ≤ i → (if b then (λ _. 0) otherwise λ _. suc (home ts k x)) ≤ suc i
      go true l = omega arith
      go false l = omega arith

  -- the home has both
  pub home_kind : (ts : List Token) → home ts k x < length ts → kind_at ts (home ts k x) ≡ k
  unfolding home if◌then◌otherwise◌
  home_kind [] h = absurd (omega arith)
  home_kind (t ∷ ts) h = go (fits t k x) refl (home_kind ts) h
    where
      go : (b : Bool) → fits t k x ≡ b → (home ts k x < length ts → kind_at ts (home ts k x) ≡ k)
          → (if b then (λ _. 0) otherwise λ _. suc (home ts k x)) < suc (length ts)
          → kind_at (t ∷ ts) (if b then (λ _. 0) otherwise λ _. suc (home ts k x)) ≡ k
      go true e r l = eqb-true t.kind k (and_true (eqb t.kind k) (same_text t.text x) e).0
      go false e r l = r (omega arith)

  pub home_text : (ts : List Token) → home ts k x < length ts → text_at ts (home ts k x) ≡ x
  unfolding home if◌then◌otherwise◌
  home_text [] h = absurd (omega arith)
  home_text (t ∷ ts) h = go (fits t k x) refl (home_text ts) h
    where
      go : (b : Bool) → fits t k x ≡ b → (home ts k x < length ts → text_at ts (home ts k x) ≡ x)
          → (if b then (λ _. 0) otherwise λ _. suc (home ts k x)) < suc (length ts)
          → text_at (t ∷ ts) (if b then (λ _. 0) otherwise λ _. suc (home ts k x)) ≡ x
      go true e r l = same_equal t.text x (and_true (eqb t.kind k) (same_text t.text x) e).1
      go false e r l = r (omega arith)

-- of tokens of one kind, those with equal texts have one home, and those with one home have equal texts
module _ (ts : List Token) (i j k : ℕ) where
  pub home_below : i < length ts → kind_at ts i ≡ k → home ts k (text_at ts i) ≤ i
  home_below h u = home_least k (text_at ts i) ts i h u refl

  pub home_same : text_at ts i ≡ text_at ts j → home ts k (text_at ts i) ≡ home ts k (text_at ts j)
  home_same e = ap (home ts k) e

  pub home_tells : i < length ts → j < length ts → kind_at ts i ≡ k → kind_at ts j ≡ k
      → home ts k (text_at ts i) ≡ home ts k (text_at ts j) → text_at ts i ≡ text_at ts j
  home_tells h l u v e =
      let p = home_text k (text_at ts i) ts (omega (arith, home_least k (text_at ts i) ts i h u refl)) in
      let q = home_text k (text_at ts j) ts (omega (arith, home_least k (text_at ts j) ts j l v refl)) in
      sym p ∙ ap (text_at ts) e ∙ q
