-- Two readings of which one is the other with a function applied to what was read.
use Prim.Native.Nat.{ℕ}
use mathlib.Core.Path.{◌≡◌, refl, ap}
use mathlib.Core.Bool.{Bool, true, false}
use Rattle.meaning.specs.Basics.{if◌then◌otherwise◌}
use Rattle.meaning.specs.Grammar.{Got, good, wrong, after, Inside, no_level, level, opening}
use Rattle.reader.specs.Coded.{map_got}

pub record Maps {A B : Type 0} (f : A → B) (y : Got B) (x : Got A) : Type 0 where
  pub same : y ≡ map_got f x

-- two ways to read a level's inside that are related, or none
pub data Levels {I J : Type 0} (R : I → J → Type 0) : Inside I → Inside J → Type 0 where
  neither : Levels R no_level no_level
  both : {a : I} {b : J} → R a b → Levels R (level a) (level b)

pub after_after : {A B C : Type 0} (x : Got A) (k : A → ℕ → Got B) (l : B → ℕ → Got C) → after (after x k) l ≡ after x (λ a j. after (k a j) l)
unfolding after
after_after (good a j) k l = refl
after_after (wrong n p) k l = refl

pub after_if : {A B : Type 0} (b : Bool) (t u : Unit {0} → Got A) (k : A → ℕ → Got B)
    → after (if b then t otherwise u) k ≡ (if b then (λ _. after (t tt) k) otherwise λ _. after (u tt) k)
unfolding if◌then◌otherwise◌
after_if true t u k = refl
after_if false t u k = refl

module _ {A B : Type 0} {f : A → B} where
  pub maps_good : {a : A} {b : B} {j : ℕ} → b ≡ f a → Maps f (good b j) (good a j)
  unfolding map_got
  maps_good {a} {b} {j} e = record { same = ap (λ c. good c j) e }

  pub maps_wrong : {n p : ℕ} → Maps f (wrong n p) (wrong n p)
  unfolding map_got
  maps_wrong = record { same = refl }

  -- a choice by the same test
  pub maps_if : (b c : Bool) (t u : Unit {0} → Got A) (t' u' : Unit {0} → Got B)
      → b ≡ c
      → (c ≡ true → Maps f (t' tt) (t tt))
      → (c ≡ false → Maps f (u' tt) (u tt))
      → Maps f (if b then t' otherwise u') (if c then t otherwise u)
  unfolding if◌then◌otherwise◌
  maps_if b c t u t' u' e p q = rw e (go c p q)
    where
      go : (d : Bool) → (d ≡ true → Maps f (t' tt) (t tt)) → (d ≡ false → Maps f (u' tt) (u tt))
          → Maps f (if d then t' otherwise u') (if d then t otherwise u)
      go true p q = p refl
      go false p q = q refl

  -- what follows on what was read
  pub maps_after : {C D : Type 0} {g : C → D} {x : Got C} {y : Got D} (k : C → ℕ → Got A) (k' : D → ℕ → Got B)
      → Maps g y x
      → ((c : C) (j : ℕ) → x ≡ good c j → Maps f (k' (g c) j) (k c j))
      → Maps f (after y k') (after x k)
  unfolding after map_got
  maps_after {C} {D} {g} {x} {y} k k' m h = rw m.same (go x h)
    where
      go : (z : Got C) → ((c : C) (j : ℕ) → z ≡ good c j → Maps f (k' (g c) j) (k c j)) → Maps f (after (map_got g z) k') (after z k)
      go (good c j) t = t c j refl
      go (wrong n p) t = maps_wrong

  -- what follows on a level's opening
  pub maps_opening : {I J : Type 0} {R : I → J → Type 0} {x : Inside I} {y : Inside J} (p : ℕ) (k : J → Got A) (k' : I → Got B)
      → Levels R x y
      → ((a : I) (b : J) → R a b → Maps f (k' a) (k b))
      → Maps f (opening x p k') (opening y p k)
  unfolding opening
  maps_opening p k k' neither h = maps_wrong
  maps_opening p k k' (both r) h = h _ _ r
