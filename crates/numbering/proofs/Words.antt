-- Words read and put one after the other.
use Prim.Native.Nat.{ℕ, zero, suc, ◌+◌, ◌≤◌, ◌<◌}
use native.Mathlib.Omega.{arith}
use native.Mathlib.Numerals.{add-one}
use mathlib.Core.Path.{◌≡◌, refl, sym, ◌∙◌}
use mathlib.Core.List.{List, [], ◌∷◌}
use lib.ListN.{length, get_or, set, take, drop, length-set}
use lib.Seq.{get_or-set_same, get_or-set_other, drop-cons}
use Rattle.reader.proofs.Walk.{Stands, stands_first, stands_rest, stands_behind}
use Rattle.numbering.specs.Pass.{words_from, put_from}

-- ---- words that stand in code
pub words_stand : {code : List ℕ} (a : ℕ) (ws : List ℕ) → Stands code a ws → words_from code a (length ws) ≡ ws
unfolding words_from
words_stand a [] s = refl
words_stand a (w ∷ ws) s = rw (stands_first s, words_stand (a + 1) ws (stands_rest s))

words_taken : (code : List ℕ) (a n : ℕ) → a + n ≤ length code → words_from code a n ≡ take n (drop a code)
unfolding words_from
words_taken code a zero l = refl
words_taken code a (suc n) l =
    rw (drop-cons code a 0 (omega arith), words_taken code (a + 1) n (omega arith), add-one a)

pub stands_words : (code : List ℕ) (a : ℕ) (ws : List ℕ) → a + length ws ≤ length code → words_from code a (length ws) ≡ ws → Stands code a ws
stands_words code a ws l e = stands_behind a (length ws) code ws (sym (words_taken code a (length ws) l) ∙ e)

-- the same in code that has the same words there
pub words_same : (code code' : List ℕ) (a n : ℕ) → ((i : ℕ) → a ≤ i → i < a + n → get_or code' i 0 ≡ get_or code i 0) → words_from code' a n ≡ words_from code a n
unfolding words_from
words_same code code' a zero h = refl
words_same code code' a (suc n) h = rw (h a (omega arith) (omega arith), words_same code code' (a + 1) n (λ i l k. h i (omega arith) (omega arith)))

-- ---- words that are put
pub put_long : (code : List ℕ) (a : ℕ) (ws : List ℕ) → length (put_from code a ws) ≡ length code
unfolding put_from
put_long code a [] = refl
put_long code a (w ∷ ws) = put_long (set code a w) (a + 1) ws ∙ length-set code a w

pub put_before : (code : List ℕ) (a : ℕ) (ws : List ℕ) (i : ℕ) → i < a → get_or (put_from code a ws) i 0 ≡ get_or code i 0
unfolding put_from
put_before code a [] i l = refl
put_before code a (w ∷ ws) i l = put_before (set code a w) (a + 1) ws i (omega arith) ∙ get_or-set_other code a i w 0 (λ e. omega arith)

pub put_behind : (code : List ℕ) (a : ℕ) (ws : List ℕ) (i : ℕ) → a + length ws ≤ i → get_or (put_from code a ws) i 0 ≡ get_or code i 0
unfolding put_from
put_behind code a [] i l = refl
put_behind code a (w ∷ ws) i l = put_behind (set code a w) (a + 1) ws i (omega arith) ∙ get_or-set_other code a i w 0 (λ e. omega arith)

pub put_there : (code : List ℕ) (a : ℕ) (ws : List ℕ) → a + length ws ≤ length code → words_from (put_from code a ws) a (length ws) ≡ ws
unfolding put_from words_from
put_there code a [] l = refl
put_there code a (w ∷ ws) l =
    rw (
      put_before (set code a w) (a + 1) ws a (omega arith),
      get_or-set_same code a w 0 (omega arith),
      put_there (set code a w) (a + 1) ws (omega (arith, length-set code a w)),
    )
