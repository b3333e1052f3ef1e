-- Look-up by the index.
use Prim.Native.Nat.{ℕ, zero, suc, ◌+◌, ◌*◌, ◌-◌, ◌/◌, ◌%◌, ◌^◌, ◌≤◌, ◌<◌}
use mathlib.Core.Path.{◌≡◌, ◌∙◌, refl, sym}
use mathlib.Core.List.{List}
use mathlib.Core.Bool.{Bool, true, false}
use native.Mathlib.Omega.{arith}
use native.Mathlib.Nat.{le_of_lt, le_refl, le_trans, mul-le-mul_right, mod-lt, div-lt_iff_lt-mul, mul-lt-mul_of_pos_right, mul_comm}
use lib.ListN.{length, get_or}
use lib.Dec.{eqb, ltb, leb}
use borrow.Author.Tests.{ne_eqb, le-leb, lt-leb, lt-ltb, le-ltb, leb-true, ltb-true}
use Rattle.meaning.specs.Basics.{if◌then◌otherwise◌}
use Rattle.machine.specs.Layout.{entry_place, entries_granted, Room}
use Rattle.machine.specs.Tables.{matches, content_of, hash_from, spread, bucket_of, head_place, link_at, walk, find_entry}
use Rattle.std.specs.Prelude.{None, Some}
use Rattle.tables.specs.Asked.{matches_at, entry_before}

-- ---- buckets
pub spread_less : (h size : ℕ) → 0 < size → spread h size < size
spread_less h size p =
    let m : h * 2654435769 % 4294967296 * size < 4294967296 * size = mul-lt-mul_of_pos_right (mod-lt (h * 2654435769) (omega arith)) p in
    (div-lt_iff_lt-mul {k = 4294967296} {x = h * 2654435769 % 4294967296 * size} {y = size} (omega arith)).1 (rw (mul_comm 4294967296 size) at m)

pub spread_fits : (h size : ℕ) → size < 2 ^ 16 → h * 2654435769 % 4294967296 * size < 2 ^ 64
spread_fits h size p =
    let m : h * 2654435769 % 4294967296 * size ≤ 4294967296 * size = mul-le-mul_right size (le_of_lt (mod-lt (h * 2654435769) (omega arith))) in
    omega arith

pub bucket_less : (program g ts ws : List ℕ) (t key : ℕ) → 0 < entries_granted g → bucket_of program g ts ws t key < entries_granted g
unfolding bucket_of
bucket_less program g ts ws t key p = spread_less _ _ p

pub bucket_is : (program g ts ws : List ℕ) (t key h : ℕ) → h ≡ hash_from t (content_of program ts ws key) → h * 2654435769 % 4294967296 * get_or g 2 0 / 4294967296 ≡ bucket_of program g ts ws t key
unfolding bucket_of
bucket_is program g ts ws t key h e = rw e

-- ---- walks
module _ (f : ℕ → Bool) (link : ℕ → ℕ) where
  pub walk_done : (n k : ℕ) → k ≤ 0 → walk f link n k ≡ 0
  unfolding walk if◌then◌otherwise◌
  walk_done zero k h = refl
  walk_done (suc n) zero h = refl
  walk_done (suc n) (suc k) h = absurd (omega arith)

  pub walk_here : (n k : ℕ) → 0 < k → k ≤ n → f (k - 1) ≡ true → walk f link n k ≡ k
  unfolding walk if◌then◌otherwise◌
  walk_here zero k p h e = absurd (omega arith)
  walk_here (suc n) k p h e = rw (ne_eqb k 0 (λ z. omega arith), e)

  pub walk_next : (n k : ℕ) → 0 < k → k ≤ n → f (k - 1) ≡ false → link (k - 1) < k → walk f link n k ≡ walk f link (n - 1) (link (k - 1))
  unfolding walk if◌then◌otherwise◌
  walk_next zero k p h e l = absurd (omega arith)
  walk_next (suc n) k p h e l = let q : suc n - 1 ≡ n = omega arith in rw (q, ne_eqb k 0 (λ z. omega arith), e, lt-ltb (link (k - 1)) k l)

  pub walk_stray : (n k : ℕ) → 0 < k → k ≤ n → f (k - 1) ≡ false → k ≤ link (k - 1) → walk f link n k ≡ 0
  unfolding walk if◌then◌otherwise◌
  walk_stray zero k p h e l = absurd (omega arith)
  walk_stray (suc n) k p h e l = rw (ne_eqb k 0 (λ z. omega arith), e, le-ltb (link (k - 1)) k l)

  pub walk_le : (n k : ℕ) → walk f link n k ≤ k
  unfolding walk if◌then◌otherwise◌
  walk_le zero k = omega arith
  walk_le (suc n) k = go (eqb k 0) (f (k - 1)) (ltb (link (k - 1)) k) refl (walk_le n (link (k - 1)))
    where
      go : (a b c : Bool) → ltb (link (k - 1)) k ≡ c → walk f link n (link (k - 1)) ≤ link (k - 1)
          → (if a then (λ _. 0) otherwise λ _. if b then (λ _. k) otherwise λ _. if c then (λ _. walk f link n (link (k - 1))) otherwise λ _. 0) ≤ k
      go true b c e m = omega arith
      go false true c e m = le_refl k
      go false false true e m = omega (arith, ltb-true (link (k - 1)) k e)
      go false false false e m = omega arith

-- ---- a walk along a bucket, in the code: it has come to k, and finds from there on what is to be found
pub record Walking (program g ts ws : List ℕ) (t key base k : ℕ) : Type 0 where
  pub room : Room g ws
  pub start : base ≡ entry_place g 0
  pub few : k ≤ entries_granted g
  pub turns : ℕ
  pub enough : k ≤ turns
  pub rest : find_entry program g ts ws t key ≡ walk (matches program g ts ws t key) (link_at g ws) turns k

module _ (program g ts ws : List ℕ) (t key : ℕ) where
  -- no more is found than was granted
  pub found_le : find_entry program g ts ws t key ≤ entries_granted g
  unfolding find_entry if◌then◌otherwise◌
  found_le = go (get_or ws (head_place g (bucket_of program g ts ws t key)) 0) (leb (get_or ws (head_place g (bucket_of program g ts ws t key)) 0) (entries_granted g)) refl
    where
      go : (h : ℕ) (b : Bool) → leb h (entries_granted g) ≡ b → (if b then (λ _. walk (matches program g ts ws t key) (link_at g ws) h h) otherwise λ _. 0) ≤ entries_granted g
      go h true e = le_trans (walk_le (matches program g ts ws t key) (link_at g ws) h h) (leb-true h (entries_granted g) e)
      go h false e = omega arith

  none_before : find_entry program g ts ws t key ≡ 0 → None ≡ entry_before (find_entry program g ts ws t key)
  unfolding entry_before
  none_before e = rw e

  pub no_entries : get_or g 2 0 ≡ 0 → None ≡ entry_before (find_entry program g ts ws t key)
  no_entries e = none_before (omega (arith, found_le))

  -- the head's place
  pub head_less : (base b : ℕ) → Room g ws → (get_or g 2 0 ≡ 0 → ⊥) → base ≡ entry_place g 0 → b ≡ bucket_of program g ts ws t key → base + 4 * b + 3 < length ws
  head_less base b l n e f = omega (arith, bucket_less program g ts ws t key (omega (arith, n)), l.words)

  module _ (base b : ℕ) (e : base ≡ entry_place g 0) (f : b ≡ bucket_of program g ts ws t key) where
    head_there : base + 4 * b + 3 ≡ head_place g (bucket_of program g ts ws t key)
    head_there = omega arith

    pub head_stray : get_or g 2 0 < get_or ws (base + 4 * b + 3) 0 → None ≡ entry_before (find_entry program g ts ws t key)
    unfolding find_entry if◌then◌otherwise◌
    head_stray l =
        let m = rw head_there at l in
        none_before (rw (lt-leb (get_or ws (head_place g (bucket_of program g ts ws t key)) 0) (entries_granted g) m) refl)

    pub walk_begin : Room g ws → get_or ws (base + 4 * b + 3) 0 ≤ get_or g 2 0 → Walking program g ts ws t key base (get_or ws (base + 4 * b + 3) 0)
    unfolding find_entry if◌then◌otherwise◌
    walk_begin l h =
        let m = rw head_there at h in
        record {
          room = l;
          start = e;
          few = h;
          turns = get_or ws (base + 4 * b + 3) 0;
          enough = le_refl _;
          rest = rw (head_there, le-leb (get_or ws (head_place g (bucket_of program g ts ws t key)) 0) (entries_granted g) m);
        }

  module _ (base k : ℕ) (w : Walking program g ts ws t key base k) (p : 0 < k) where
    place : base + 4 * (k - 1) ≡ entry_place g (k - 1)
    place = omega (arith, w.start)

    pub entry_room : base + 4 * (k - 1) + 4 ≤ length ws
    entry_room = omega (arith, w.start, w.few, w.room.words)

    matches_there : (r : Bool) → r ≡ matches_at program ts ws (base + 4 * (k - 1)) t key → matches program g ts ws t key (k - 1) ≡ r
    unfolding matches matches_at
    matches_there r e = sym (rw place at e)

    pub walk_found : (r : Bool) → r ≡ matches_at program ts ws (base + 4 * (k - 1)) t key → r ≡ true → Some (k - 1) ≡ entry_before (find_entry program g ts ws t key)
    unfolding entry_before
    walk_found r e q =
        let z : k ≡ suc (k - 1) = omega arith in
        rw (w.rest ∙ walk_here (matches program g ts ws t key) (link_at g ws) w.turns k p w.enough (matches_there r e ∙ q) ∙ z) refl

    link_there : (next : ℕ) → next ≡ get_or ws (base + 4 * (k - 1)) 0 / 1099511627776 → link_at g ws (k - 1) ≡ next
    link_there next e = sym (rw place at e)

    pub walk_ends : (r : Bool) (next : ℕ) → r ≡ matches_at program ts ws (base + 4 * (k - 1)) t key → r ≡ false
        → next ≡ get_or ws (base + 4 * (k - 1)) 0 / 1099511627776 → k ≤ next → None ≡ entry_before (find_entry program g ts ws t key)
    walk_ends r next e q z l =
        none_before (w.rest ∙ walk_stray (matches program g ts ws t key) (link_at g ws) w.turns k p w.enough (matches_there r e ∙ q) (rw (link_there next z) l))

    pub walk_on : (r : Bool) (next : ℕ) → r ≡ matches_at program ts ws (base + 4 * (k - 1)) t key → r ≡ false
        → next ≡ get_or ws (base + 4 * (k - 1)) 0 / 1099511627776 → next < k → Walking program g ts ws t key base next
    walk_on r next e q z l = record {
      room = w.room;
      start = w.start;
      few = omega (arith, w.few);
      turns = w.turns - 1;
      enough = omega (arith, w.enough);
      rest = w.rest ∙ rw (← link_there next z) (walk_next (matches program g ts ws t key) (link_at g ws) w.turns k p w.enough (matches_there r e ∙ q) (rw (link_there next z) l));
    }

  pub walk_over : (base k : ℕ) → Walking program g ts ws t key base k → k ≤ 0 → None ≡ entry_before (find_entry program g ts ws t key)
  walk_over base k w h = none_before (w.rest ∙ walk_done (matches program g ts ws t key) (link_at g ws) w.turns k h)
