-- The home of a text: the first token of a kind that is spelled so.
use Prim.Native.Nat.{ℕ, zero, suc, ◌≤◌, ◌<◌, zero-le, suc-le-suc}
use native.Mathlib.Omega.{arith}
use mathlib.Core.Path.{◌≡◌, refl, sym, ap, ◌∙◌}
use mathlib.Core.Logic.{◌↔◌, ◌≢◌}
use mathlib.Core.Bool.{Bool, true, false, ◌&&◌}
use mathlib.Core.List.{List, [], ◌∷◌}
use lib.ListN.{length}
use lib.Dec.{eqb}
use borrow.Author.Tests.{eqb-true, eq-eqb}
use Rattle.meaning.specs.Basics.{if◌then◌otherwise◌, same_text}
use Rattle.meaning.specs.Token.{Token, ending, a_name}
use Rattle.meaning.specs.Grammar.{kind_at, text_at}
use Rattle.names.specs.Prepared.{home}
use Rattle.code.specs.Code.{slot_of}

-- ---- texts
pub both_true : (a b : Bool) → a && b ≡ true → (a ≡ true) × (b ≡ true)
both_true true b e = (refl, e)
both_true false b e = (e, cc)

pub same_text_lem : (xs ys : List ℕ) → same_text xs ys ≡ true → xs ≡ ys
unfolding same_text
same_text_lem [] [] e = refl
same_text_lem [] (y ∷ ys) e = cc
same_text_lem (x ∷ xs) [] e = cc
same_text_lem (x ∷ xs) (y ∷ ys) e =
    let both = both_true (eqb x y) (same_text xs ys) e in
    cc (eqb-true x y both.0, same_text_lem xs ys both.1)

pub text_same : (xs : List ℕ) → same_text xs xs ≡ true
unfolding same_text
text_same [] = refl
text_same (x ∷ xs) = rw (eq-eqb x x refl) (text_same xs)

-- ---- homes
pub home_within : (ts : List Token) (k : ℕ) (x : List ℕ) → home ts k x ≤ length ts
unfolding home if◌then◌otherwise◌
home_within [] k x = zero-le
home_within (t ∷ ts) k x = go (eqb t.kind k && same_text t.text x) (home_within ts k x)
  where
    go : (b : Bool) → home ts k x ≤ length ts → (if b then (λ _. 0) otherwise λ _. suc (home ts k x)) ≤ suc (length ts)
    go true h = zero-le
    go false h = suc-le-suc h

-- token h has a kind and a text, and stands no later than token i
pub record Found (ts : List Token) (k : ℕ) (x : List ℕ) (i h : ℕ) : Type 0 where
  pub first : h ≤ i
  pub kind : kind_at ts h ≡ k
  pub text : text_at ts h ≡ x

pub home_found : (ts : List Token) (k : ℕ) (x : List ℕ) (i : ℕ) → k ≢ ending → kind_at ts i ≡ k → text_at ts i ≡ x
    → Found ts k x i (home ts k x)
unfolding home if◌then◌otherwise◌
home_found [] k x i k≢ p q = absurd (k≢ (sym p))
home_found (t ∷ ts) k x zero k≢ p q =
    let here : Found (t ∷ ts) k x zero 0 = record { first = zero-le; kind = p; text = q } in
    let same : eqb t.kind k && same_text t.text x ≡ true = rw (eq-eqb t.kind k p, q) (text_same x) in
    rw same here
home_found (t ∷ ts) k x (suc i) k≢ p q = go (eqb t.kind k && same_text t.text x) refl (home_found ts k x i k≢ p q)
  where
    go : (b : Bool) → eqb t.kind k && same_text t.text x ≡ b → Found ts k x i (home ts k x)
        → Found (t ∷ ts) k x (suc i) (if b then (λ _. 0) otherwise λ _. suc (home ts k x))
    go true e f =
        let both = both_true (eqb t.kind k) (same_text t.text x) e in
        record { first = zero-le; kind = eqb-true t.kind k both.0; text = same_text_lem t.text x both.1 }
    go false e f = record { first = suc-le-suc f.first; kind = f.kind; text = f.text }

-- a token of a kind that is spelled x
pub record Occurs (ts : List Token) (k : ℕ) (x : List ℕ) : Type 0 where
  pub index : ℕ
  pub kind : kind_at ts index ≡ k
  pub text : text_at ts index ≡ x

pub occurs_found : (ts : List Token) (k : ℕ) (x : List ℕ) → k ≢ ending → (o : Occurs ts k x) → Found ts k x o.index (home ts k x)
occurs_found ts k x k≢ o = home_found ts k x o.index k≢ o.kind o.text

-- a token that is of a kind is there
pub there : (ts : List Token) (i k : ℕ) → k ≢ ending → kind_at ts i ≡ k → i < length ts
there [] i k k≢ e = absurd (k≢ (sym e))
there (t ∷ ts) zero k k≢ e = omega arith
there (t ∷ ts) (suc i) k k≢ e = let h = there ts i k k≢ e in omega arith

-- ---- names
pub name_first : (ts : List Token) (i : ℕ) → kind_at ts i ≡ a_name → home ts a_name (text_at ts i) ≤ i
name_first ts i e = (home_found ts a_name (text_at ts i) i (omega arith) e refl).first

pub slot_small : (ts : List Token) (x : List ℕ) → Occurs ts a_name x → slot_of ts x < length ts
slot_small ts x o =
    let f = occurs_found ts a_name x (omega arith) o in
    omega (arith, there ts o.index a_name (omega arith) o.kind)

-- slots tell names apart
pub slots_apart : (ts : List Token) (x y : List ℕ) → Occurs ts a_name x → Occurs ts a_name y → (slot_of ts x ≡ slot_of ts y) ↔ (x ≡ y)
slots_apart ts x y o p =
    let f = occurs_found ts a_name x (omega arith) o in
    let g = occurs_found ts a_name y (omega arith) p in
    (λ e. sym f.text ∙ ap (text_at ts) e ∙ g.text, ap (slot_of ts))
