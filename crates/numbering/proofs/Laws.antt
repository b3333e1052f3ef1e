-- Names, each once, and their numbers.
use Prim.Native.Nat.{ℕ, suc, ◌+◌, ◌≤◌, ◌<◌}
use native.Mathlib.Omega.{arith}
use native.Mathlib.Nat.{le_of_suc-le-suc}
use mathlib.Core.Path.{◌≡◌, refl, sym, ap, ◌∙◌, subst}
use mathlib.Core.Bool.{Bool, true, false, ◌||◌}
use mathlib.Core.List.{List, [], ◌∷◌, ◌++◌}
use lib.ListN.{length, get_or, length-append}
use Rattle.meaning.specs.Basics.{if◌then◌otherwise◌, same_text}
use Rattle.meaning.specs.Procedure.{is_among}
use Rattle.reader.proofs.Homes.{same_text_lem, text_same}
use Rattle.numbering.specs.Numbers.{with_name, with_names, number_in}

pub false_true : {A : Type 0} → false ≡ true → A
false_true e = let z : ◌≡◌ {A = ℕ} 0 1 = cc in absurd (omega arith)

-- ---- one name and another
pub text_turned : (x y : List ℕ) → same_text x y ≡ same_text y x
text_turned x y = go (same_text x y) (same_text y x) refl refl
  where
    go : (a b : Bool) → same_text x y ≡ a → same_text y x ≡ b → a ≡ b
    go true true p q = refl
    go true false p q = false_true (sym q ∙ subst (λ (z : List ℕ). same_text z x ≡ true) (same_text_lem x y p) (text_same x))
    go false true p q = false_true (sym p ∙ subst (λ (z : List ℕ). same_text z y ≡ true) (same_text_lem y x q) (text_same y))
    go false false p q = refl

-- ---- the number of a name, that of the first which is it
pub number_within : (names : List (List ℕ)) (x : List ℕ) → number_in names x ≤ length names
unfolding number_in if◌then◌otherwise◌
number_within [] x = omega arith
number_within (y ∷ ys) x = go (same_text y x) (number_within ys x)
  where
    go : (b : Bool) → number_in ys x ≤ length ys → (if b then (λ _. 0) otherwise λ _. suc (number_in ys x)) ≤ suc (length ys)
    go true l = omega arith
    go false l = omega arith

pub number_name : (names : List (List ℕ)) (x : List ℕ) → number_in names x < length names → get_or names (number_in names x) [] ≡ x
unfolding number_in if◌then◌otherwise◌
number_name [] x l = absurd (omega arith)
number_name (y ∷ ys) x l = go (same_text y x) refl (number_name ys x) l
  where
    go : (b : Bool) → same_text y x ≡ b → (number_in ys x < length ys → get_or ys (number_in ys x) [] ≡ x)
        → (if b then (λ _. 0) otherwise λ _. suc (number_in ys x)) < suc (length ys) → get_or (y ∷ ys) (if b then (λ _. 0) otherwise λ _. suc (number_in ys x)) [] ≡ x
    go true e f l = same_text_lem y x e
    go false e f l = f (le_of_suc-le-suc l)

pub number_front : (xs ys : List (List ℕ)) (x : List ℕ) → number_in xs x < length xs → number_in (xs ++ ys) x ≡ number_in xs x
unfolding number_in if◌then◌otherwise◌
number_front [] ys x l = absurd (omega arith)
number_front (y ∷ xs) ys x l = go (same_text y x) (number_front xs ys x) l
  where
    go : (b : Bool) → (number_in xs x < length xs → number_in (xs ++ ys) x ≡ number_in xs x) → (if b then (λ _. 0) otherwise λ _. suc (number_in xs x)) < suc (length xs)
        → (if b then (λ _. 0) otherwise λ _. suc (number_in (xs ++ ys) x)) ≡ (if b then (λ _. 0) otherwise λ _. suc (number_in xs x))
    go true f l = refl
    go false f l = ap suc (f (le_of_suc-le-suc l))

pub number_missing : (x : List ℕ) (xs : List (List ℕ)) → is_among x xs ≡ false → number_in xs x ≡ length xs
unfolding is_among number_in if◌then◌otherwise◌
number_missing x [] e = refl
number_missing x (y ∷ ys) e = go (same_text y x) e (number_missing x ys)
  where
    go : (b : Bool) → b || is_among x ys ≡ false → (is_among x ys ≡ false → number_in ys x ≡ length ys)
        → (if b then (λ _. 0) otherwise λ _. suc (number_in ys x)) ≡ suc (length ys)
    go true q r = false_true (sym q)
    go false q r = ap suc (r q)

pub number_below : (x : List ℕ) (xs : List (List ℕ)) → is_among x xs ≡ true → number_in xs x < length xs
unfolding is_among number_in if◌then◌otherwise◌
number_below x [] e = false_true e
number_below x (y ∷ ys) e = go (same_text y x) e (number_below x ys)
  where
    go : (b : Bool) → b || is_among x ys ≡ true → (is_among x ys ≡ true → number_in ys x < length ys)
        → (if b then (λ _. 0) otherwise λ _. suc (number_in ys x)) < suc (length ys)
    go true q r = omega arith
    go false q r = let h = r q in omega arith

-- behind those of which it is none
pub number_last : (x : List ℕ) (xs : List (List ℕ)) → is_among x xs ≡ false → number_in (xs ++ (x ∷ [])) x ≡ length xs
unfolding is_among number_in if◌then◌otherwise◌
number_last x [] e = rw (text_same x)
number_last x (z ∷ zs) e = go (same_text z x) e (number_last x zs)
  where
    go : (b : Bool) → b || is_among x zs ≡ false → (is_among x zs ≡ false → number_in (zs ++ (x ∷ [])) x ≡ length zs)
        → (if b then (λ _. 0) otherwise λ _. suc (number_in (zs ++ (x ∷ [])) x)) ≡ suc (length zs)
    go true q r = false_true (sym q)
    go false q r = ap suc (r q)

pub among_more : (x y : List ℕ) (xs : List (List ℕ)) → is_among x (xs ++ (y ∷ [])) ≡ is_among x xs || same_text y x
unfolding is_among
among_more x y [] = or_false (same_text y x)
  where
    or_false : (b : Bool) → b || false ≡ b
    or_false true = refl
    or_false false = refl
among_more x y (z ∷ zs) = rw (among_more x y zs) (or_assoc (same_text z x) (is_among x zs) (same_text y x))
  where
    or_assoc : (a b c : Bool) → a || (b || c) ≡ (a || b) || c
    or_assoc true b c = refl
    or_assoc false b c = refl

pub name_few : (xs : List (List ℕ)) (y : List ℕ) → length (with_name xs y) ≤ length xs + 1
unfolding with_name if◌then◌otherwise◌
name_few xs y = go (is_among y xs)
  where
    go : (b : Bool) → length (if b then (λ _. xs) otherwise λ _. xs ++ (y ∷ [])) ≤ length xs + 1
    go true = omega arith
    go false = omega (arith, length-append xs (y ∷ []))

pub names_few : (xs ys : List (List ℕ)) → length (with_names xs ys) ≤ length xs + length ys
unfolding with_names
names_few xs [] = omega arith
names_few xs (y ∷ ys) = omega (arith, names_few (with_name xs y) ys, name_few xs y)

pub names_append : (xs ys zs : List (List ℕ)) → with_names xs (ys ++ zs) ≡ with_names (with_names xs ys) zs
unfolding with_names
names_append xs [] zs = refl
names_append xs (y ∷ ys) zs = names_append (with_name xs y) ys zs
