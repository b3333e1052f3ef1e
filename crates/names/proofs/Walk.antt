-- A walk along a bucket: the entries from place j on are not of the kind and the text, and the one before it lies in the bucket.
-- Assumes nothing.
use Prim.Native.Nat.{ℕ, suc, ◌-◌, ◌≤◌, ◌<◌}
use mathlib.Core.Path.{◌≡◌, ◌∙◌, sym, ap}
use mathlib.Core.Bool.{Bool, true, false}
use mathlib.Core.List.{List}
use native.Mathlib.Omega.{arith}
use borrow.Author.Tests.{eq-eqb, ne_eqb, eqb-true}
use lib.Dec.{eqb}
use lib.ListN.{get_or}
use Rattle.meaning.specs.Basics.{same_text}
use Rattle.tokens.specs.Words.{token_in, kind_in}
use Rattle.names.specs.Index.{bucket_of, spelled, bucket_at, is_entry, lies, meets, last, found, link_at, Looks}
use Rattle.names.proofs.Homes.{and_true}
use Rattle.names.proofs.Last.{last_here, last_below, last_none, last_le, last_meets, last_skip}
use Rattle.names.proofs.Entries.{meets_lies}

pub record Walking (p ws ix : List ℕ) (n k : ℕ) (x : List ℕ) (b j : ℕ) : Type 0 where
  pub looks : Looks p ws ix n k x b
  pub few : j ≤ n
  pub here : 0 < j → lies p ws b (j - 1) ≡ true
  pub rest : found p ws n k x ≡ last (meets p ws k x) j

module _ (p ws ix : List ℕ) (n k : ℕ) (x : List ℕ) (b : ℕ) where
  to_bucket : (m : ℕ) → b ≡ bucket_of k x → last (meets p ws k x) m ≡ last (meets p ws k x) (last (lies p ws b) m)
  to_bucket m e = rw e (last_skip (meets p ws k x) (lies p ws (bucket_of k x)) m (meets_lies p ws k x))

  pub walk_begin : Looks p ws ix n k x b → Walking p ws ix n k x b (get_or ix b 0)
  unfolding found
  walk_begin l =
      rw (l.index.heads b l.slot)
      (record { looks = l; few = last_le (lies p ws b) n; here = last_meets (lies p ws b) n; rest = to_bucket n l.bucket })

  module _ (j : ℕ) (g : Walking p ws ix n k x b j) where
    -- the token before the place is an entry, so the comparison decides
    decides : 0 < j → meets p ws k x (j - 1) ≡ spelled p (get_or ws (j - 1) 0) k x
    unfolding meets lies
    decides h = rw (and_true (is_entry p ws (j - 1)) (eqb (bucket_at p ws (j - 1)) b) (g.here h)).0

    pub walk_found : (i : ℕ) (r : Bool) → 1 ≤ j → i ≡ j - 1 → r ≡ spelled p (get_or ws i 0) k x → r ≡ true → suc i ≡ found p ws n k x
    walk_found i r l u e q =
        let h : 0 < j = omega arith in
        let m : suc i ≡ j = omega arith in
        m ∙ sym (g.rest ∙ last_here (meets p ws k x) j h (decides h ∙ sym (rw u at e) ∙ q))

    next : (m : ℕ) → 0 < j → m ≡ link_at ix (j - 1) → m ≡ last (lies p ws b) (j - 1)
    unfolding lies
    next m h e =
        let q = and_true (is_entry p ws (j - 1)) (eqb (bucket_at p ws (j - 1)) b) (g.here h) in
        let u : bucket_at p ws (j - 1) ≡ b = eqb-true (bucket_at p ws (j - 1)) b q.1 in
        e ∙ g.looks.index.links (j - 1) (omega (arith, g.few)) q.0 ∙ ap (λ (c : ℕ). last (lies p ws c) (j - 1)) u

    pub walk_less : (i m : ℕ) → 1 ≤ j → i ≡ j - 1 → m ≡ link_at ix i → m < j
    walk_less i m l u e =
        let h : 0 < j = omega arith in
        omega (arith, next m h (rw u at e), last_le (lies p ws b) (j - 1))

    pub walk_on : (i : ℕ) (r : Bool) (m : ℕ) → 1 ≤ j → i ≡ j - 1 → r ≡ spelled p (get_or ws i 0) k x → r ≡ false → m ≡ link_at ix i
        → Walking p ws ix n k x b m
    walk_on i r m l v e q u =
        let h : 0 < j = omega arith in
        rw (next m h (rw v at u))
        (record {
          looks = g.looks;
          few = omega (arith, g.few, last_le (lies p ws b) (j - 1));
          here = last_meets (lies p ws b) (j - 1);
          rest = g.rest ∙ last_below (meets p ws k x) j h (decides h ∙ sym (rw v at e) ∙ q) ∙ to_bucket (j - 1) g.looks.bucket;
        })

    pub walk_over : j ≤ 0 → 0 ≡ found p ws n k x
    walk_over h = sym (g.rest ∙ last_none (meets p ws k x) j h)

-- ---- a comparison
module _ (p : List ℕ) (w k v : ℕ) (x : List ℕ) where
  pub other_kind : v ≡ kind_in w → (v ≡ k → ⊥) → false ≡ spelled p w k x
  unfolding spelled
  other_kind e n = rw (← e, ne_eqb v k n)

  pub one_kind : (y : List ℕ) (r : Bool) → v ≡ kind_in w → v ≡ k → y ≡ (token_in p w).text → r ≡ same_text y x → r ≡ spelled p w k x
  unfolding spelled
  one_kind y r e q u h = h ∙ rw (u, ← e, eq-eqb v k q)
