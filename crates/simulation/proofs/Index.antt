-- A look-up by the index finds what a scan of all entries finds.
use Prim.Native.Nat.{ℕ, zero, suc, ◌-◌, ◌≤◌, ◌<◌}
use mathlib.Core.Path.{◌≡◌, ◌∙◌, refl, sym, ap}
use mathlib.Core.List.{List}
use mathlib.Core.Bool.{Bool, true, false}
use native.Mathlib.Omega.{arith}
use lib.ListN.{get_or}
use lib.Dec.{eqb}
use borrow.Author.Tests.{eq-eqb, eqb-true, eqb-false, le-leb}
use Rattle.meaning.specs.Basics.{if◌then◌otherwise◌}
use Rattle.machine.specs.Layout.{entries_made, entries_granted}
use Rattle.machine.specs.Tables.{owner_at, key_at, matches, content_of, hash_from, spread, bucket_of, head_place, link_at, walk, find_entry}
use Rattle.tables.proofs.KeyLaws.{both, same_content}
use Rattle.tables.proofs.IndexLaws.{bucket_less, walk_done, walk_here, walk_next, found_le}
use Rattle.simulation.specs.Index.{last, lies, Indexed}

-- ---- the last that meets a test
pub last_here : (f : ℕ → Bool) (k : ℕ) → 0 < k → f (k - 1) ≡ true → last f k ≡ k
unfolding last if◌then◌otherwise◌
last_here f zero h e = absurd (omega arith)
last_here f (suc k) h e = let q : suc k - 1 ≡ k = omega arith in rw (rw q at e)

pub last_below : (f : ℕ → Bool) (k : ℕ) → 0 < k → f (k - 1) ≡ false → last f k ≡ last f (k - 1)
unfolding last if◌then◌otherwise◌
last_below f zero h e = absurd (omega arith)
last_below f (suc k) h e = let q : suc k - 1 ≡ k = omega arith in rw (q, rw q at e)

pub last_none : (f : ℕ → Bool) (k : ℕ) → k ≤ 0 → last f k ≡ 0
unfolding last
last_none f zero h = refl
last_none f (suc k) h = absurd (omega arith)

pick_le : (b : Bool) (n m : ℕ) → m ≤ n → (if b then (λ _. suc n) otherwise λ _. m) ≤ suc n
unfolding if◌then◌otherwise◌
pick_le true n m h = omega arith
pick_le false n m h = omega arith

pub last_le : (f : ℕ → Bool) (n : ℕ) → last f n ≤ n
unfolding last
last_le f zero = omega arith
last_le f (suc n) = pick_le (f n) n (last f n) (last_le f n)

-- what meets a test meets a weaker one, so the last of the weaker one may be gone to first
pub last_skip : (f g : ℕ → Bool) (n : ℕ) → ((i : ℕ) → f i ≡ true → g i ≡ true) → last f n ≡ last f (last g n)
unfolding last if◌then◌otherwise◌
last_skip f g zero h = refl
last_skip f g (suc n) h = go (g n) (f n) refl refl (last_skip f g n h)
  where
    go : (x y : Bool) → g n ≡ x → f n ≡ y → last f n ≡ last f (last g n)
        → (if f n then (λ _. suc n) otherwise λ _. last f n) ≡ last f (if g n then (λ _. suc n) otherwise λ _. last g n)
    go true y e u r = rw e
    go false true e u r = let z : ◌≡◌ {A = Bool} false true = sym e ∙ h n u in let w : ◌≡◌ {A = ℕ} 0 1 = cc in absurd (omega arith)
    go false false e u r = rw (e, u) r

pub last_meets : (f : ℕ → Bool) (n : ℕ) → 0 < last f n → f (last f n - 1) ≡ true
unfolding last if◌then◌otherwise◌
last_meets f zero h = absurd (omega arith)
last_meets f (suc n) h = go (f n) refl (last_meets f n) h
  where
    go : (b : Bool) → f n ≡ b → (0 < last f n → f (last f n - 1) ≡ true)
        → 0 < (if b then (λ _. suc n) otherwise λ _. last f n) → f ((if b then (λ _. suc n) otherwise λ _. last f n) - 1) ≡ true
    go true e r l = let q : suc n - 1 ≡ n = omega arith in rw q e
    go false e r l = r l

pub last_cong : (f g : ℕ → Bool) (n : ℕ) → ((i : ℕ) → i < n → f i ≡ g i) → last f n ≡ last g n
unfolding last
last_cong f g zero h = refl
last_cong f g (suc n) h = rw (h n (omega arith), last_cong f g n (λ i l. h i (omega arith)))

-- an entry that matches lies in the bucket
match_lies : (program g ts ws : List ℕ) (t key k : ℕ) → matches program g ts ws t key k ≡ true → lies program g ts ws (bucket_of program g ts ws t key) k ≡ true
unfolding matches lies bucket_of
match_lies program g ts ws t key k e =
    let q = both _ _ e in
    let u : owner_at g ws k ≡ t = eqb-true _ _ q.0 in
    let w : content_of program ts ws (key_at g ws k) ≡ content_of program ts ws key = same_content program ts ws (key_at g ws k) key q.1 in
    eq-eqb (spread (hash_from (owner_at g ws k) (content_of program ts ws (key_at g ws k))) (entries_granted g)) (spread (hash_from t (content_of program ts ws key)) (entries_granted g)) (rw (u, w))

module _ (program g ts ws : List ℕ) (t key : ℕ) (x : Indexed program g ts ws) where
  abbrev meets : ℕ → Bool
  meets = matches program g ts ws t key

  abbrev inside : ℕ → Bool
  inside = lies program g ts ws (bucket_of program g ts ws t key)

  -- an entry's link leads to the last of its bucket before it
  next : (k : ℕ) → k < get_or ws entries_made 0 → inside k ≡ true → link_at g ws k ≡ last inside k
  unfolding lies
  next k l e = x.links k l ∙ ap (λ (c : ℕ). last (lies program g ts ws c) k) (eqb-true _ _ e)

  -- a walk from an entry of the bucket on
  walk_last : (n k : ℕ) → k ≤ n → k ≤ get_or ws entries_made 0 → (0 < k → inside (k - 1) ≡ true) → walk meets (link_at g ws) n k ≡ last meets k
  walk_last zero k a b e = walk_done meets (link_at g ws) 0 k a ∙ sym (last_none meets k a)
  walk_last (suc n) k a b e =
      go (eqb k 0) (meets (k - 1)) refl refl
      (walk_last n (last inside (k - 1)) (omega (arith, last_le inside (k - 1))) (omega (arith, last_le inside (k - 1))) (last_meets inside (k - 1)))
    where
      go : (z m : Bool) → eqb k 0 ≡ z → meets (k - 1) ≡ m → walk meets (link_at g ws) n (last inside (k - 1)) ≡ last meets (last inside (k - 1))
          → walk meets (link_at g ws) (suc n) k ≡ last meets k
      go true m q f r =
          let h : k ≤ 0 = omega (arith, eqb-true k 0 q) in
          walk_done meets (link_at g ws) (suc n) k h ∙ sym (last_none meets k h)
      go false true q f r =
          let p : 0 < k = omega (arith, eqb-false k 0 q) in
          walk_here meets (link_at g ws) (suc n) k p a f ∙ sym (last_here meets k p f)
      go false false q f r =
          let p : 0 < k = omega (arith, eqb-false k 0 q) in
          let l : link_at g ws (k - 1) ≡ last inside (k - 1) = next (k - 1) (omega arith) (e p) in
          let s : link_at g ws (k - 1) < k = omega (arith, l, last_le inside (k - 1)) in
          let d : suc n - 1 ≡ n = omega arith in
          walk_next meets (link_at g ws) (suc n) k p a f s ∙ rw (d, l) r
          ∙ sym (last_skip meets inside (k - 1) (match_lies program g ts ws t key)) ∙ sym (last_below meets k p f)

  from_head : (h : ℕ) → h ≡ last inside (get_or ws entries_made 0) → walk meets (link_at g ws) h h ≡ last meets (get_or ws entries_made 0)
  from_head h e =
      rw e (walk_last (last inside (get_or ws entries_made 0)) (last inside (get_or ws entries_made 0)) (omega arith) (last_le inside (get_or ws entries_made 0)) (last_meets inside (get_or ws entries_made 0))
      ∙ sym (last_skip meets inside (get_or ws entries_made 0) (match_lies program g ts ws t key)))

  pub found_is_last : find_entry program g ts ws t key ≡ last meets (get_or ws entries_made 0)
  unfolding find_entry if◌then◌otherwise◌
  found_is_last = go (eqb (entries_granted g) 0) refl
    where
      go : (b : Bool) → eqb (entries_granted g) 0 ≡ b → find_entry program g ts ws t key ≡ last meets (get_or ws entries_made 0)
      go true e =
          let z = eqb-true (entries_granted g) 0 e in
          let u : find_entry program g ts ws t key ≡ 0 = omega (arith, found_le program g ts ws t key) in
          u ∙ sym (last_none meets (get_or ws entries_made 0) (omega (arith, x.few)))
      go false e =
          let p : 0 < entries_granted g = omega (arith, eqb-false (entries_granted g) 0 e) in
          let h = x.begins (bucket_of program g ts ws t key) (bucket_less program g ts ws t key p) in
          let s : get_or ws (head_place g (bucket_of program g ts ws t key)) 0 ≤ entries_granted g = omega (arith, h, last_le inside (get_or ws entries_made 0), x.few) in
          rw (le-leb (get_or ws (head_place g (bucket_of program g ts ws t key)) 0) (entries_granted g) s) (from_head _ h)
