-- A walk's loop does what the walk does: what is left at each depth stands in the way's words, and nothing that is done on the way changes them.
use Prim.Native.Nat.{ℕ, zero, suc, ◌+◌, ◌-◌, ◌*◌, ◌^◌, ◌≤◌, ◌<◌}
use mathlib.Core.Path.{◌≡◌, refl, ap, sym, ◌∙◌}
use mathlib.Core.Bool.{Bool, true, false}
use mathlib.Core.List.{List}
use native.Mathlib.Omega.{arith}
use native.Mathlib.Nat.{add-mul, mul-le-mul_right}
use lib.ListN.{get_or, set, length}
use lib.Seq.{get_or-set_same, get_or-set_other}
use lib.Dec.{ltb, leb}
use borrow.Author.Tests.{lt-ltb, le-ltb}
use Rattle.meaning.specs.Basics.{if◌then◌otherwise◌}
use Rattle.machine.specs.Layout.{waiting_held, shapes_granted}
use Rattle.machine.specs.Act.{Raw, raw, Out, done, stop, Act, go_on, ◌>>=◌, ◌>>◌, give, load, store, held, spend}
use Rattle.machine.specs.Shapes.{is_group_at, destroyed_at}
use Rattle.machine.specs.Groups.{component_at, first_at, count_at, way_word, way_place, each_from, walk_in}
use Rattle.walks.specs.Walks.{Doing, slot_in, left_in, visit_at, level_from, above_of, rest_of, count_within, weight, owed_above, owed, unit_of}

-- ---- acts that keep a word of the way
unfoldable pub Keeps : {A : Type 0} → ℕ → Raw → Out A → Type 0
Keeps e r (done a r') = get_or r'.words (way_place e) 0 ≡ get_or r.words (way_place e) 0
Keeps e r (stop n p r') = Unit {0}

pub keeps_from : {A : Type 0} (e : ℕ) (r r' : Raw) (o : Out A) → get_or r'.words (way_place e) 0 ≡ get_or r.words (way_place e) 0 → Keeps e r' o → Keeps e r o
unfolding Keeps
keeps_from e r r' (done a r'') q h = h ∙ q
keeps_from e r r' (stop n p r'') q h = tt

pub keeps_then : {A B : Type 0} (e : ℕ) (r : Raw) (m : Act A) (k : A → Act B) → Keeps e r (m r) → ((a : A) (r' : Raw) → Keeps e r' (k a r')) → Keeps e r ((m >>= k) r)
unfolding Keeps ◌>>=◌ go_on
keeps_then {A} {B} e r m k h f = go (m r) h
  where
    go : (o : Out A) → Keeps e r o → Keeps e r (go_on o k)
    go (done a r') q = keeps_from e r r' (k a r') q (f a r')
    go (stop n p r') q = tt

pub keeps_either : {A : Type 0} (e : ℕ) (r : Raw) (b : Bool) (x y : Unit {0} → Act A) → Keeps e r (x tt r) → Keeps e r (y tt r) → Keeps e r ((if b then x otherwise y) r)
unfolding if◌then◌otherwise◌
keeps_either e r true x y h k = h
keeps_either e r false x y h k = k

-- a word put elsewhere
pub keeps_store : (e : ℕ) (r : Raw) (i w : ℕ) → (i ≡ way_place e → ⊥) → Keeps e r (store i w r)
unfolding Keeps store
keeps_store e r i w h = get_or-set_other r.words i (way_place e) w 0 (λ q. h (sym q))

pub keeps_spend : (e : ℕ) (r : Raw) (counter granted amount number p : ℕ) → counter < 16 → Keeps e r (spend counter granted amount number p r)
unfolding Keeps spend if◌then◌otherwise◌
keeps_spend e r counter granted amount number p h = go (leb (get_or r.words counter 0 + amount) granted)
  where
    go : (b : Bool) → Keeps {A = Unit {0}} e r (if b then (λ _. done (tt {0}) (raw r.texts (set r.words counter (get_or r.words counter 0 + amount)))) otherwise λ _. stop number p r)
    go true = get_or-set_other r.words counter (way_place e) _ 0 (λ q. omega arith)
    go false = tt

-- what is done keeps the way, as far as there are shapes
pub record Steady (g : List ℕ) (reach leave : Doing) : Type 0 where
  pub reached : (p c e : ℕ) (r : Raw) → e < shapes_granted g → Keeps e r (reach p c r)
  pub left : (p d e : ℕ) (r : Raw) → e < shapes_granted g → Keeps e r (leave p d r)

module _ (g : List ℕ) (reach leave : Doing) (s : Steady g reach leave) (p e : ℕ) (l : e < shapes_granted g) where
  each_keeps : (visit : ℕ → ℕ → ℕ → Act (Unit {0})) → ((k n c : ℕ) (r : Raw) → Keeps e r (visit k n c r)) → (n k : ℕ) (r : Raw) → Keeps e r (each_from visit g k n r)
  unfolding each_from ◌>>=◌ go_on held give Keeps
  each_keeps visit v zero k r = refl
  each_keeps visit v (suc n) k r =
      keeps_then e r (if destroyed_at r.words (component_at g r.words k) then (λ _. give tt) otherwise λ _. visit k n (component_at g r.words k)) (λ _. each_from visit g (k + 1) n)
      (keeps_either e r (destroyed_at r.words (component_at g r.words k)) (λ _. give tt) (λ _. visit k n (component_at g r.words k)) refl (v k n (component_at g r.words k) r))
      (λ a r'. each_keeps visit v n (k + 1) r')

  visit_keeps : (b d : ℕ) → e < d → ((i : ℕ) (r : Raw) → Keeps e r (walk_in (reach p) (leave p) b g (d + 1) i r)) → (k n c : ℕ) (r : Raw) → Keeps e r (visit_at reach leave g p b d k n c r)
  unfolding visit_at ◌>>=◌ go_on held give load store Keeps
  visit_keeps b d h inner k n c r =
      keeps_then e r (reach p c) _ (s.reached p c e r l) λ a r'.
      keeps_either e r' (is_group_at r'.words c) _ _
      (let r'' = raw r'.texts (set r'.words (way_place d) (way_word k n (get_or r'.words waiting_held 0))) in
      keeps_from {A = Unit {0}} e r' r'' ((walk_in (reach p) (leave p) b g (d + 1) c >> leave p d) r'') (get_or-set_other r'.words (way_place d) (way_place e) _ 0 (λ q. omega arith))
      (keeps_then e r'' (walk_in (reach p) (leave p) b g (d + 1) c) (λ _. leave p d) (inner c r'') (λ a' q. s.left p d e q l)))
      refl

  pub walk_keeps : (b d : ℕ) → e < d → (i : ℕ) (r : Raw) → Keeps e r (walk_in (reach p) (leave p) b g d i r)
  unfolding walk_in visit_at ◌>>=◌ go_on held give Keeps
  walk_keeps zero d h i r = refl
  walk_keeps (suc b) d h i r =
      each_keeps (visit_at reach leave g p b d) (visit_keeps b d h (walk_keeps b (d + 1) (omega arith))) (count_at r.words i) (first_at r.words i) r

pub kept_way : (e : ℕ) (r : Raw) (o : Out (Unit {0})) (r' : Raw) → Keeps e r o → o ≡ done tt r' → get_or r'.words (way_place e) 0 ≡ get_or r.words (way_place e) 0
unfolding Keeps
kept_way e r o r' h q = rw q at h

-- ---- one act and then another
pub then_same : (o : Out (Unit {0})) (k k' : Act (Unit {0})) → ((r : Raw) → o ≡ done tt r → k r ≡ k' r) → go_on o (λ _. k) ≡ go_on o (λ _. k')
unfolding go_on
then_same (done a r) k k' h = h r refl
then_same (stop n p r) k k' h = refl

pub then_then : (o : Out (Unit {0})) (k l : Act (Unit {0})) → go_on (go_on o (λ _. k)) (λ _. l) ≡ go_on o (λ _. k >> l)
unfolding go_on ◌>>=◌
then_then (done a r) k l = refl
then_then (stop n p r) k l = refl

-- ---- the way's words
module _ (k n m : ℕ) where
  pub slot_back : k < 2 ^ 17 → slot_in (way_word k n m) ≡ k
  slot_back h = omega arith

  pub left_back : n < 2 ^ 16 → left_in (way_word k n m) ≡ n
  left_back h = omega arith

-- ---- what is left after a turn
module _ (reach leave : Doing) (g : List ℕ) (p : ℕ) where
  -- nothing is left at this depth
  pub climbs : (d k : ℕ) (r r' : Raw) → leave p d r ≡ done tt r'
      → rest_of reach leave g p (suc d) k 0 r ≡ rest_of reach leave g p d (slot_in (get_or r'.words (way_place d) 0) + 1) (left_in (get_or r'.words (way_place d) 0)) r'
  unfolding rest_of level_from above_of each_from ◌>>=◌ go_on give load
  climbs d k r r' e = rw e

  pub climb_stops : (d k n q : ℕ) (r r' : Raw) → leave p d r ≡ stop n q r' → rest_of reach leave g p (suc d) k 0 r ≡ stop n q r'
  unfolding rest_of level_from above_of each_from ◌>>=◌ go_on give load
  climb_stops d k n q r r' e = rw e

  module _ (d k n : ℕ) (r : Raw) where
    -- the component is destroyed
    pub passes_over : destroyed_at r.words (component_at g r.words k) ≡ true → rest_of reach leave g p d k (suc n) r ≡ rest_of reach leave g p d (k + 1) n r
    unfolding rest_of level_from each_from ◌>>=◌ go_on give held if◌then◌otherwise◌
    passes_over h = rw h

    -- it is reached
    module _ (c : ℕ) (e : c ≡ component_at g r.words k) (h : destroyed_at r.words c ≡ false) where
      pub reach_stops : (m q : ℕ) (r' : Raw) → reach p c r ≡ stop m q r' → rest_of reach leave g p d k (suc n) r ≡ stop m q r'
      unfolding rest_of level_from each_from visit_at ◌>>=◌ go_on give held if◌then◌otherwise◌
      reach_stops m q r' f = rw (← e, h, f)

      pub figure_reached : (r' : Raw) → reach p c r ≡ done tt r' → is_group_at r'.words c ≡ false → rest_of reach leave g p d k (suc n) r ≡ rest_of reach leave g p d (k + 1) n r'
      unfolding rest_of level_from each_from visit_at ◌>>=◌ go_on give held if◌then◌otherwise◌
      figure_reached r' f q = rw (← e, h, f, q)

  -- the walk into a group at depth d
  pub level_walk : (d c : ℕ) (r : Raw) → level_from reach leave g p d (first_at r.words c) (count_within g r.words d c) r ≡ walk_in (reach p) (leave p) (shapes_granted g - d) g d c r
  unfolding level_from count_within walk_in visit_at each_from ◌>>=◌ go_on give held if◌then◌otherwise◌
  level_walk d c r = go (shapes_granted g - d) refl
    where
      go : (b : ℕ) → shapes_granted g - d ≡ b
          → level_from reach leave g p d (first_at r.words c) (count_within g r.words d c) r ≡ walk_in (reach p) (leave p) b g d c r
      go zero q = let h : ltb d (shapes_granted g) ≡ false = le-ltb d (shapes_granted g) (omega arith) in rw h
      go (suc b) q =
          let h : ltb d (shapes_granted g) ≡ true = lt-ltb d (shapes_granted g) (omega arith) in
          let f : shapes_granted g - suc d ≡ b = omega arith in
          rw (h, f)

  module _ (d k n : ℕ) (r : Raw) (c : ℕ) (e : c ≡ component_at g r.words k) (h : destroyed_at r.words c ≡ false) (r' : Raw) (f : reach p c r ≡ done tt r')
      (q : is_group_at r'.words c ≡ true) (s : Steady g reach leave) (l : d < shapes_granted g) (small : k < 2 ^ 17) (few : n < 2 ^ 16) (long : way_place d < length r'.words) where
    abbrev below : Raw
    below = raw r'.texts (set r'.words (way_place d) (way_word k n (get_or r'.words waiting_held 0)))

    way_below : get_or below.words (way_place d) 0 ≡ way_word k n (get_or r'.words waiting_held 0)
    way_below = get_or-set_same r'.words (way_place d) _ 0 long

    goes_on : (r₃ : Raw) → get_or r₃.words (way_place d) 0 ≡ get_or below.words (way_place d) 0 → (r₄ : Raw) → get_or r₄.words (way_place d) 0 ≡ get_or r₃.words (way_place d) 0
        → rest_of reach leave g p d (k + 1) n r₄
        ≡ (load (way_place d) >>= λ w. level_from reach leave g p d (slot_in w + 1) (left_in w) >> above_of reach leave g p d) r₄
    unfolding rest_of ◌>>=◌ go_on load
    goes_on r₃ a r₄ b =
        let w : get_or r₄.words (way_place d) 0 ≡ way_word k n (get_or r'.words waiting_held 0) = b ∙ a ∙ way_below in
        rw (w, slot_back k n (get_or r'.words waiting_held 0) small, left_back k n (get_or r'.words waiting_held 0) few)

    abbrev walked : Out (Unit {0})
    walked = walk_in (reach p) (leave p) (shapes_granted g - suc d) g (suc d) c below

    abbrev next : Act (Unit {0})
    next = level_from reach leave g p d (k + 1) n

    abbrev above : Act (Unit {0})
    above = above_of reach leave g p d

    goes_down : rest_of reach leave g p d k (suc n) r ≡ go_on (go_on (go_on walked (λ _. leave p d)) (λ _. next)) (λ _. above)
    unfolding rest_of level_from each_from visit_at ◌>>=◌ go_on give held load store if◌then◌otherwise◌
    goes_down = let one : d + 1 ≡ suc d = omega arith in rw (← e, h, f, q, one)

    comes_back : (r₃ : Raw) → walked ≡ done tt r₃ → (leave p d >> (next >> above)) r₃ ≡ above_of reach leave g p (suc d) r₃
    unfolding above_of rest_of ◌>>=◌
    comes_back r₃ a =
        then_same (leave p d r₃) (next >> above) (load (way_place d) >>= λ w. level_from reach leave g p d (slot_in w + 1) (left_in w) >> above)
        (λ r₄ b. goes_on r₃ (kept_way d below walked r₃ (walk_keeps g reach leave s p d l (shapes_granted g - suc d) (suc d) (omega arith) c below) a)
        r₄ (kept_way d r₃ (leave p d r₃) r₄ (s.left p d d r₃ l) b))

    pub group_reached : rest_of reach leave g p d k (suc n) r ≡ rest_of reach leave g p (suc d) (first_at below.words c) (count_within g below.words (suc d) c) below
    unfolding rest_of ◌>>=◌
    group_reached =
        goes_down ∙ then_then (go_on walked (λ _. leave p d)) next above ∙ then_then walked (leave p d) (next >> above)
        ∙ then_same walked (leave p d >> (next >> above)) (above_of reach leave g p (suc d)) comes_back
        ∙ ap (λ o. go_on o (λ _. above_of reach leave g p (suc d))) (sym (level_walk (suc d) c below))

-- ---- less is left after a turn
pub unit_some : (h : ℕ) → 0 < unit_of h
unfolding unit_of
unit_some zero = omega arith
unit_some (suc h) = let x = unit_some h in omega (arith, x)

weight_less : (size d n : ℕ) → weight size d n + 2 * unit_of (size - d) ≡ weight size d (suc n)
unfolding weight
weight_less size d n = let e : 2 * suc n + 1 ≡ 2 * n + 1 + 2 = omega arith in rw e (sym (add-mul (2 * n + 1) 2 (unit_of (size - d))))

weight_some : (size d : ℕ) → 0 < weight size d 0
unfolding weight
weight_some size d = omega (arith, unit_some (size - d))

-- all below a depth is less than two components there
weight_below : (size d m : ℕ) → d < size → m < 2 ^ 16 → weight size (suc d) m < 2 * unit_of (size - d)
unfolding weight unit_of
weight_below size d m l f =
    let e : size - d ≡ suc (size - suc d) = omega arith in
    let a : 2 * m + 1 ≤ 131072 = omega arith in
    let b : (2 * m + 1) * unit_of (size - suc d) ≤ 131072 * unit_of (size - suc d) = mul-le-mul_right (unit_of (size - suc d)) a in
    let z = unit_some (size - suc d) in
    rw e (omega (arith, b, z))

-- the same way is owed as much
pub same_owed : (size : ℕ) (ws ws' : List ℕ) (d : ℕ) → ((e : ℕ) → e < d → get_or ws' (way_place e) 0 ≡ get_or ws (way_place e) 0) → owed_above size ws' d ≡ owed_above size ws d
unfolding owed_above
same_owed size ws ws' zero h = refl
same_owed size ws ws' (suc d) h = rw (same_owed size ws ws' d (λ e l. h e (omega arith)), h d (omega arith))

module _ (size : ℕ) (ws ws' : List ℕ) (d : ℕ) where
  pub advance_less : (n : ℕ) → ((e : ℕ) → e < d → get_or ws' (way_place e) 0 ≡ get_or ws (way_place e) 0) → owed size ws' d n < owed size ws d (suc n)
  unfolding owed
  advance_less n h = omega (arith, weight_less size d n, unit_some (size - d), same_owed size ws ws' d h)

  pub climb_less : ((e : ℕ) → e < suc d → get_or ws' (way_place e) 0 ≡ get_or ws (way_place e) 0) → owed size ws' d (left_in (get_or ws' (way_place d) 0)) < owed size ws (suc d) 0
  unfolding owed owed_above
  climb_less h =
      let w : get_or ws' (way_place d) 0 ≡ get_or ws (way_place d) 0 = h d (omega arith) in
      let z : 0 < weight size (suc d) 0 = weight_some size (suc d) in
      rw w (omega (arith, same_owed size ws ws' d (λ e l. h e (omega arith)), z))

  pub descend_less : (n m : ℕ) → d < size → m < 2 ^ 16 → left_in (get_or ws' (way_place d) 0) ≡ n → ((e : ℕ) → e < d → get_or ws' (way_place e) 0 ≡ get_or ws (way_place e) 0)
      → owed size ws' (suc d) m < owed size ws d (suc n)
  unfolding owed owed_above
  descend_less n m l f w h = rw w (omega (arith, weight_less size d n, weight_below size d m l f, same_owed size ws ws' d h))

pub owed_some : (size : ℕ) (ws : List ℕ) (d n : ℕ) → 0 < owed size ws d n
unfolding owed weight
owed_some size ws d n =
    let a : 1 ≤ 2 * n + 1 = omega arith in
    let b : 1 * unit_of (size - d) ≤ (2 * n + 1) * unit_of (size - d) = mul-le-mul_right (unit_of (size - d)) a in
    let z = unit_some (size - d) in
    omega (arith, b, z)
