-- Hashing: the bytes from an index on, and the range of a bucket.
-- Assumes nothing.
use Prim.Native.Nat.{ℕ, ◌+◌, ◌/◌, ◌≤◌, ◌<◌}
use mathlib.Core.Path.{◌≡◌, ◌∙◌, refl, sym}
use mathlib.Core.List.{List, [], ◌∷◌}
use native.Mathlib.Nat.{mod-lt}
use native.Mathlib.Numerals.{add-one}
use native.Mathlib.Omega.{arith}
use lib.ListN.{length, get_or, drop, drop_of_length-le}
use lib.Seq.{drop-cons}
use Rattle.names.specs.Index.{mixed, hash_from, bucket_of}

pub record Hashing (x : List ℕ) (from h i : ℕ) : Type 0 where
  pub small : h < 4294967296
  pub rest : hash_from from x ≡ hash_from h (drop i x)

module _ (x : List ℕ) (from : ℕ) where
  pub hash_begin : from < 4294967296 → Hashing x from from 0
  hash_begin l = record { small = l; rest = refl }

  module _ (h i : ℕ) (g : Hashing x from h i) where
    pub hash_more : (r : ℕ) → i < length x → r ≡ mixed h (get_or x i 0) → Hashing x from r (i + 1)
    unfolding hash_from
    hash_more r l e = record { small = rw e (mod-lt _ (omega arith)); rest = g.rest ∙ rw (drop-cons x i 0, add-one i, e) }

    pub hash_all : length x ≤ i → h ≡ hash_from from x
    unfolding hash_from
    hash_all l = sym (g.rest ∙ rw (drop_of_length-le x {i = i} l))

hash_small : (h : ℕ) (x : List ℕ) → h < 4294967296 → hash_from h x < 4294967296
unfolding hash_from
hash_small h [] l = l
hash_small h (b ∷ x) l = hash_small (mixed h b) x (mod-lt _ (omega arith))

pub bucket_small : (k b : ℕ) (x : List ℕ) → k < 256 → b ≡ bucket_of k x → b < 8192
unfolding bucket_of
bucket_small k b x l e = omega (arith, hash_small k x (omega arith))

pub bucket_is : (k h : ℕ) (x : List ℕ) → h ≡ hash_from k x → h / 524288 ≡ bucket_of k x
unfolding bucket_of
bucket_is k h x e = rw e
