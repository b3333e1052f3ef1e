-- Hashes.
use Prim.Native.Nat.{ℕ, ◌+◌, ◌/◌, ◌%◌, ◌^◌, ◌≤◌, ◌<◌}
use mathlib.Core.Path.{◌≡◌, ◌∙◌, refl, sym}
use mathlib.Core.List.{List}
use native.Mathlib.Numerals.{add-one}
use lib.ListN.{length, get_or, drop, drop_of_length-le}
use lib.Seq.{drop-cons}
use borrow.Author.Tests.{ne_eqb}
use Rattle.machine.specs.Words.{number_in}
use Rattle.machine.specs.Layout.{shape_place}
use Rattle.machine.specs.Texts.{text_of}
use Rattle.machine.specs.Tables.{figure_content, content_of, hashed, hash_from}
use Rattle.meaning.specs.Basics.{if◌then◌otherwise◌}

-- ---- a loop that hashes byte by byte: i are taken in
pub record Hashing (s : List ℕ) (h hash i : ℕ) : Type 0 where
  pub rest : hash_from h s ≡ hash_from hash (drop i s)

module _ (s : List ℕ) (h : ℕ) where
  pub hash_first : Hashing s h h 0
  hash_first = record { rest = refl }

  pub hash_more : (hash i x : ℕ) → Hashing s h hash i → i < length s → x ≡ hashed hash (get_or s i 0) → Hashing s h x (i + 1)
  unfolding hash_from
  hash_more hash i x g l e = record { rest = g.rest ∙ rw (drop-cons s i 0, add-one i, e) }

  pub hash_all : (hash i : ℕ) → Hashing s h hash i → length s ≤ i → hash ≡ hash_from h s
  unfolding hash_from
  hash_all hash i g l = sym (g.rest ∙ rw (drop_of_length-le s {i = i} l))

-- ---- keys
pub hash_halves : (h w x r : ℕ) → x ≡ hashed h (w % 4294967296) → r ≡ hashed x (w / 4294967296 % 4294967296) → r ≡ hashed (hashed h (w % 2 ^ 32)) (w / 2 ^ 32 % 2 ^ 32)
hash_halves h w x r e f = f ∙ rw e

module _ (program ts ws : List ℕ) (h : ℕ) where
  pub hash_figure : (i at w k x y z r : ℕ) (text : List ℕ) → at ≡ shape_place i → w ≡ get_or ws at 0 → k ≡ hashed h (w / 2 % 8)
      → x ≡ get_or ws (at + 1) 0 → y ≡ hashed (hashed k (x % 2 ^ 32)) (x / 2 ^ 32 % 2 ^ 32)
      → (u : ℕ) → u ≡ get_or ws (at + 2) 0 → z ≡ hashed (hashed y (u % 2 ^ 32)) (u / 2 ^ 32 % 2 ^ 32)
      → text ≡ text_of program ts (w / 16) → r ≡ hash_from z text → r ≡ hash_from h (figure_content program ts ws i)
  unfolding hash_from figure_content
  hash_figure i at w k x y z r text a b c d e u f g t o = o ∙ rw (t, g, f, e, d, c, b, a)

  pub hash_text : (key r : ℕ) (text : List ℕ) → key % 8 ≡ 2 → text ≡ text_of program ts (key / 8) → r ≡ hash_from h text → r ≡ hash_from h (content_of program ts ws key)
  unfolding content_of if◌then◌otherwise◌
  hash_text key r text k t o = o ∙ rw (t, k)

  pub hash_shape : (key i r : ℕ) → key % 8 ≡ 6 → i ≡ number_in key → r ≡ hash_from h (figure_content program ts ws i) → r ≡ hash_from h (content_of program ts ws key)
  unfolding content_of if◌then◌otherwise◌
  hash_shape key i r k e o = o ∙ rw (e, k)

  pub hash_other : (key n r : ℕ) → (key % 8 ≡ 2 → ⊥) → (key % 8 ≡ 6 → ⊥) → n ≡ number_in key → r ≡ hashed h n → r ≡ hash_from h (content_of program ts ws key)
  unfolding content_of if◌then◌otherwise◌ hash_from
  hash_other key n r k l e o = o ∙ rw (e, ne_eqb _ _ k, ne_eqb _ _ l)
