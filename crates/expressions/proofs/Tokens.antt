-- Tokens by their words: where one stands, the bounds of what its word holds, and the tag of an operator.
-- Assumes nothing.
use Prim.Native.Nat.{ℕ, ◌+◌, ◌-◌, ◌*◌, ◌/◌, ◌%◌, ◌^◌, ◌<◌, ◌≤◌}
use Rattle.std.specs.Prelude.{Option, Some, None}
use mathlib.Core.Path.{◌≡◌, ◌∙◌, refl, sym, ap, subst}
use mathlib.Core.Bool.{Bool, true, false, ◌&&◌}
use mathlib.Core.List.{List}
use native.Mathlib.Omega.{arith}
use borrow.Author.Tests.{ltb-true, ltb-false, ne_eqb}
use lib.Dec.{eqb, ltb}
use lib.ListN.{length, get_or, get_or-eq_default}
use Rattle.meaning.specs.Basics.{if◌then◌otherwise◌}
use Rattle.expressions.specs.Words.{kind_at, place_at, payload_at, home_at, callee_at, part_at, operator_tag}
use Rattle.expressions.specs.Room.{Room}

-- ---- choices
-- what holds on both sides holds of a choice
pub chosen : {A : Type 0} (P : A → Type 0) (b : Bool) (x y : Unit {0} → A) → (b ≡ true → P (x tt)) → (b ≡ false → P (y tt)) → P (if b then x otherwise y)
unfolding if◌then◌otherwise◌
chosen P true x y f g = f refl
chosen P false x y f g = g refl

pub both_left : (a b : Bool) → (a && b) ≡ true → a ≡ true
both_left true b e = refl
both_left false b e = e

-- ---- where a token stands
-- behind the last token a kind is 0
pub token_inside : (ws : List ℕ) (i k : ℕ) → kind_at ws i ≡ k → (k ≡ 0 → ⊥) → i < length ws
token_inside ws i k e h = go (ltb i (length ws)) refl
  where
    go : (b : Bool) → ltb i (length ws) ≡ b → i < length ws
    go true l = ltb-true _ _ l
    go false l = let q : get_or ws i 0 ≡ 0 = get_or-eq_default ws 0 (ltb-false _ _ l) in absurd (h (omega arith))

pub room_inside : (ws s : List ℕ) (i n k : ℕ) → Room ws s i n → kind_at ws i ≡ k → (k ≡ 0 → ⊥) → i < length ws
room_inside ws s i n k o = token_inside ws i k

-- ---- what a token's word holds
module _ (ws : List ℕ) (i home payload place : ℕ) (h : home ≡ home_at ws i) (p : payload ≡ payload_at ws i) (f : place ≡ place_at ws home) where
  placed : place ≡ place_at ws (home_at ws i)
  placed = f ∙ ap (λ k. place_at ws k) h

  pub part_short : payload % 65536 < 2 → place + 1 ≡ part_at ws i
  part_short l = let q = placed in omega arith

  pub part_long : 2 ≤ payload % 65536 → place + 1 + 65536 * (payload % 65536 - 2) ≡ part_at ws i
  part_long l = let q = placed in omega arith

pub part_small : (ws : List ℕ) (i x : ℕ) → x ≡ part_at ws i → x < 4294967296
part_small ws i x e = omega arith

pub home_small : (ws : List ℕ) (i x : ℕ) → x ≡ home_at ws i → x < 4294967296
home_small ws i x e = omega arith

pub callee_is : (ws : List ℕ) (i x : ℕ) → x ≡ payload_at ws i → x / 4294967296 + 16 * (x / 65536 % 65536) ≡ callee_at ws i
callee_is ws i x e = rw e

pub callee_small : (ws : List ℕ) (i x : ℕ) → get_or ws i 0 < 2 ^ 64 → x ≡ callee_at ws i → x < 4294967296
callee_small ws i x h e = omega arith

-- ---- operators
abbrev SmallTag : Option ℕ → Type 0
SmallTag None = Unit {0}
SmallTag (Some t) = t < 256

operator_smalls : (kind : ℕ) → SmallTag (operator_tag kind)
unfolding operator_tag
operator_smalls k =
    chosen SmallTag (eqb k 171) _ _ (λ _. omega arith) λ _.
    chosen SmallTag (eqb k 43) _ _ (λ _. omega arith) λ _.
    chosen SmallTag (eqb k 45) _ _ (λ _. omega arith) λ _.
    chosen SmallTag (eqb k 42) _ _ (λ _. omega arith) λ _.
    chosen SmallTag (eqb k 47) _ _ (λ _. omega arith) λ _.
    chosen SmallTag (eqb k 37) _ _ (λ _. omega arith) λ _.
    chosen SmallTag (eqb k 190) _ _ (λ _. omega arith) λ _.
    chosen SmallTag (eqb k 188) _ _ (λ _. omega arith) λ _.
    chosen SmallTag (eqb k 189) _ _ (λ _. omega arith) λ _.
    chosen SmallTag (eqb k 161) _ _ (λ _. omega arith) λ _.
    chosen SmallTag (eqb k 62) _ _ (λ _. omega arith) λ _.
    chosen SmallTag (eqb k 60) _ _ (λ _. omega arith) λ _. tt

pub operator_small : (kind tag : ℕ) → Some tag ≡ operator_tag kind → tag < 256
operator_small kind tag q = subst SmallTag (sym q) (operator_smalls kind)

pub operator_none : (k : ℕ) → (k ≡ 171 → ⊥) → (k ≡ 43 → ⊥) → (k ≡ 45 → ⊥) → (k ≡ 42 → ⊥) → (k ≡ 47 → ⊥) → (k ≡ 37 → ⊥) → (k ≡ 190 → ⊥) → (k ≡ 188 → ⊥) → (k ≡ 189 → ⊥) → (k ≡ 161 → ⊥)
    → (k ≡ 62 → ⊥) → (k ≡ 60 → ⊥)
    → None ≡ operator_tag k
unfolding operator_tag if◌then◌otherwise◌
operator_none k a b c d e f g h i j l m =
    rw (ne_eqb _ _ a, ne_eqb _ _ b, ne_eqb _ _ c, ne_eqb _ _ d, ne_eqb _ _ e, ne_eqb _ _ f)
    (rw (ne_eqb _ _ g, ne_eqb _ _ h, ne_eqb _ _ i, ne_eqb _ _ j, ne_eqb _ _ l, ne_eqb _ _ m))
