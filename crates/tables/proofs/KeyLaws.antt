-- The comparison of keys, and that keys that are the same have the same content.
use Prim.Native.Nat.{ℕ, ◌+◌, ◌/◌, ◌%◌, ◌^◌}
use mathlib.Core.Path.{◌≡◌, ◌∙◌, refl, sym, ap}
use mathlib.Core.Bool.{Bool, true, false, not, ◌&&◌}
use mathlib.Core.List.{List, ◌∷◌}
use native.Mathlib.Omega.{arith}
use lib.ListN.{get_or}
use lib.Dec.{eqb}
use borrow.Author.Tests.{eq-eqb, ne_eqb, eqb-true, not-true, not-false}
use Rattle.meaning.specs.Basics.{if◌then◌otherwise◌, same_text}
use Rattle.machine.specs.Words.{kind_in, number_in, handle_in}
use Rattle.machine.specs.Layout.{shape_place}
use Rattle.machine.specs.Texts.{text_of}
use Rattle.machine.specs.Shapes.{is_group_at}
use Rattle.machine.specs.Tables.{same_figure, same_key, figure_content, content_of, is_group_key}
use Rattle.tables.specs.Asked.{matches_at}
use Rattle.texts.proofs.Comparison.{same_eq}

-- ---- shapes
pub same_words : (ws : List ℕ) (a b x y : ℕ) → x ≡ get_or ws a 0 → y ≡ get_or ws b 0 → eqb x y ≡ eqb (get_or ws a 0) (get_or ws b 0)
same_words ws a b x y e f = rw (e, f)

module _ (program ts ws : List ℕ) (i j a b x y : ℕ) (e : a ≡ shape_place i) (f : b ≡ shape_place j) (g : x ≡ get_or ws a 0) (h : y ≡ get_or ws b 0) where
  pub other_kind : (x / 2 % 8 ≡ y / 2 % 8 → ⊥) → false ≡ same_figure program ts ws i j
  unfolding same_figure
  other_kind n = rw (← e, ← f, ← g, ← h, ne_eqb _ _ n)

  pub other_second : (q : Bool) → x / 2 % 8 ≡ y / 2 % 8 → q ≡ eqb (get_or ws (a + 1) 0) (get_or ws (b + 1) 0) → not q ≡ true → false ≡ same_figure program ts ws i j
  unfolding same_figure
  other_second q k s n = rw (← e, ← f, ← g, ← h, eq-eqb _ _ k, ← s, not-true q n)

  pub other_third : (q r : Bool) → x / 2 % 8 ≡ y / 2 % 8 → q ≡ eqb (get_or ws (a + 1) 0) (get_or ws (b + 1) 0) → not q ≡ false
      → r ≡ eqb (get_or ws (a + 2) 0) (get_or ws (b + 2) 0) → not r ≡ true → false ≡ same_figure program ts ws i j
  unfolding same_figure
  other_third q r k s n t m = rw (← e, ← f, ← g, ← h, eq-eqb _ _ k, ← s, not-false q n, ← t, not-true r m)

  pub by_text : (q r z : Bool) → x / 2 % 8 ≡ y / 2 % 8 → q ≡ eqb (get_or ws (a + 1) 0) (get_or ws (b + 1) 0) → not q ≡ false
      → r ≡ eqb (get_or ws (a + 2) 0) (get_or ws (b + 2) 0) → not r ≡ false → z ≡ same_text (text_of program ts (x / 16)) (text_of program ts (y / 16)) → z ≡ same_figure program ts ws i j
  unfolding same_figure
  by_text q r z k s n t m u = u ∙ rw (← e, ← f, ← g, ← h, eq-eqb _ _ k, ← s, not-false q n, ← t, not-false r m)

-- ---- groups
module _ (ws : List ℕ) (key : ℕ) where
  pub no_group_key : (key % 8 ≡ 6 → ⊥) → false ≡ is_group_key ws key
  no_group_key h = rw (ne_eqb _ _ h)

  pub group_key : (i : ℕ) (b : Bool) → key % 8 ≡ 6 → i ≡ number_in key → b ≡ is_group_at ws i → b ≡ is_group_key ws key
  group_key i b h e f = f ∙ rw (e, h)

-- ---- words
two_kinds : {A : Type 0} (n : ℕ) → eqb n 2 ≡ true → eqb n 6 ≡ true → A
two_kinds n e f = absurd (omega (arith, eqb-true n 2 e, eqb-true n 6 f))

clash : {A : Type 0} → (n : ℕ) {a b : ℕ} → (a ≡ b → ⊥) → eqb a n ≡ true → eqb b n ≡ true → A
clash n h e f = absurd (h (eqb-true _ n e ∙ sym (eqb-true _ n f)))

module _ (program ts ws : List ℕ) (a b : ℕ) where
  pub other_kinds_lem : (a % 8 ≡ b % 8 → ⊥) → false ≡ same_key program ts ws a b
  unfolding same_key if◌then◌otherwise◌
  other_kinds_lem h = go (eqb (kind_in a) 2) (eqb (kind_in b) 2) (eqb (kind_in a) 6) (eqb (kind_in b) 6) refl refl refl refl
    where
      go : (p q r s : Bool) → eqb (kind_in a) 2 ≡ p → eqb (kind_in b) 2 ≡ q → eqb (kind_in a) 6 ≡ r → eqb (kind_in b) 6 ≡ s
          → false ≡ if p && q then (λ _. same_text (text_of program ts (handle_in a)) (text_of program ts (handle_in b)))
          otherwise λ _. if r && s then (λ _. same_figure program ts ws (number_in a) (number_in b)) otherwise λ _. eqb a b
      go true true r s e f g k = clash 2 h e f
      go true false true true e f g k = clash 6 h g k
      go true false true false e f g k = sym (ne_eqb a b (λ z. h (ap (λ (n : ℕ). n % 8) z)))
      go true false false s e f g k = sym (ne_eqb a b (λ z. h (ap (λ (n : ℕ). n % 8) z)))
      go false q true true e f g k = clash 6 h g k
      go false q true false e f g k = sym (ne_eqb a b (λ z. h (ap (λ (n : ℕ). n % 8) z)))
      go false q false s e f g k = sym (ne_eqb a b (λ z. h (ap (λ (n : ℕ). n % 8) z)))

  module _ (e : a % 8 ≡ b % 8) where
    pub text_keys : (z : Bool) → a % 8 ≡ 2 → z ≡ same_text (text_of program ts (a / 8)) (text_of program ts (b / 8)) → z ≡ same_key program ts ws a b
    unfolding same_key if◌then◌otherwise◌
    text_keys z f h = h ∙ rw (← e, f)

    pub shape_keys : (z : Bool) (i j : ℕ) → a % 8 ≡ 6 → i ≡ number_in a → j ≡ number_in b → z ≡ same_figure program ts ws i j → z ≡ same_key program ts ws a b
    unfolding same_key if◌then◌otherwise◌
    shape_keys z i j f p q h = h ∙ rw (p, q, ← e, f)

    pub other_keys : (a % 8 ≡ 2 → ⊥) → (a % 8 ≡ 6 → ⊥) → eqb a b ≡ same_key program ts ws a b
    unfolding same_key if◌then◌otherwise◌
    other_keys f g = rw (ne_eqb _ _ f, ne_eqb _ _ g)

-- ---- entries
module _ (program ts ws : List ℕ) (at t key : ℕ) where
  pub other_owner : (get_or ws at 0 % 1099511627776 ≡ t → ⊥) → false ≡ matches_at program ts ws at t key
  unfolding matches_at
  other_owner h = rw (ne_eqb _ _ h)

  pub by_key : (z : Bool) → get_or ws at 0 % 1099511627776 ≡ t → z ≡ same_key program ts ws (get_or ws (at + 1) 0) key → z ≡ matches_at program ts ws at t key
  unfolding matches_at
  by_key z h e = e ∙ rw (eq-eqb (get_or ws at 0 % 1099511627776) t h)

-- ---- the same content
pub both : (a b : Bool) → (a && b) ≡ true → (a ≡ true) × (b ≡ true)
both true b e = (refl, e)
both false b e = let z : ◌≡◌ {A = ℕ} 0 1 = cc in absurd (omega arith)

all_four : (a b c d : Bool) → (a && b && c && d) ≡ true → (a ≡ true) × (b ≡ true) × (c ≡ true) × (d ≡ true)
all_four true true true d e = (refl, refl, refl, e)
all_four true true false d e = let z : ◌≡◌ {A = ℕ} 0 1 = cc in absurd (omega arith)
all_four true false c d e = let z : ◌≡◌ {A = ℕ} 0 1 = cc in absurd (omega arith)
all_four false b c d e = let z : ◌≡◌ {A = ℕ} 0 1 = cc in absurd (omega arith)

same_figure_lem : (program ts ws : List ℕ) (i j : ℕ) → same_figure program ts ws i j ≡ true → figure_content program ts ws i ≡ figure_content program ts ws j
unfolding same_figure figure_content
same_figure_lem program ts ws i j e = go (get_or ws (shape_place i) 0) (get_or ws (shape_place j) 0) (get_or ws (shape_place i + 1) 0) (get_or ws (shape_place j + 1) 0) (get_or ws (shape_place i + 2) 0)
    (get_or ws (shape_place j + 2) 0) e
  where
    go : (a b c d x y : ℕ) → (eqb (a / 2 % 8) (b / 2 % 8) && eqb c d && eqb x y && same_text (text_of program ts (a / 16)) (text_of program ts (b / 16))) ≡ true
        → (a / 2 % 8 ∷ c % 2 ^ 32 ∷ c / 2 ^ 32 % 2 ^ 32 ∷ x % 2 ^ 32 ∷ x / 2 ^ 32 % 2 ^ 32 ∷ text_of program ts (a / 16))
        ≡ (b / 2 % 8 ∷ d % 2 ^ 32 ∷ d / 2 ^ 32 % 2 ^ 32 ∷ y % 2 ^ 32 ∷ y / 2 ^ 32 % 2 ^ 32 ∷ text_of program ts (b / 16))
    go a b c d x y e =
        let q = all_four (eqb (a / 2 % 8) (b / 2 % 8)) (eqb c d) (eqb x y) (same_text (text_of program ts (a / 16)) (text_of program ts (b / 16))) e in
        let k : a / 2 % 8 ≡ b / 2 % 8 = eqb-true _ _ q.0 in
        let l : c ≡ d = eqb-true _ _ q.1 in
        let m : x ≡ y = eqb-true _ _ q.2 in
        let t : text_of program ts (a / 16) ≡ text_of program ts (b / 16) = same_eq _ _ q.3 in
        rw (k, l, m, t)

pub same_content : (program ts ws : List ℕ) (a b : ℕ) → same_key program ts ws a b ≡ true → content_of program ts ws a ≡ content_of program ts ws b
unfolding same_key content_of if◌then◌otherwise◌
same_content program ts ws a b = go (eqb (kind_in a) 2) (eqb (kind_in b) 2) (eqb (kind_in a) 6) (eqb (kind_in b) 6) refl refl refl refl
  where
    words : eqb a b ≡ true → content_of program ts ws a ≡ content_of program ts ws b
    words e = ap (content_of program ts ws) (eqb-true a b e)

    go : (p q r s : Bool) → eqb (kind_in a) 2 ≡ p → eqb (kind_in b) 2 ≡ q → eqb (kind_in a) 6 ≡ r → eqb (kind_in b) 6 ≡ s
        → (if p && q then (λ _. same_text (text_of program ts (handle_in a)) (text_of program ts (handle_in b)))
        otherwise λ _. if r && s then (λ _. same_figure program ts ws (number_in a) (number_in b)) otherwise λ _. eqb a b) ≡ true
        → content_of program ts ws a ≡ content_of program ts ws b
    go true true r s e f g k h = rw (e, f) (same_eq _ _ h)
    go true false true true e f g k h = two_kinds (kind_in a) e g
    go true false true false e f g k h = words h
    go true false false s e f g k h = words h
    go false true true true e f g k h = two_kinds (kind_in b) f k
    go false false true true e f g k h = rw (e, f, g, k) (same_figure_lem program ts ws _ _ h)
    go false q true false e f g k h = words h
    go false q false s e f g k h = words h
