-- The laws of texts laid over the front of another, or from a place on.
-- Assumes nothing.
use mathlib.Core.List.{List, [], ◌∷◌, ◌++◌, append-nil, append_assoc}
use mathlib.Core.Path.{◌≡◌, ◌∙◌, refl, sym, ap}
use Prim.Native.Nat.{ℕ, zero, suc, ◌+◌, ◌-◌, ◌^◌, min, ◌≤◌, ◌<◌}
use native.Mathlib.Decide.{dec_lt}
use native.Mathlib.Numerals.{add-one}
use native.Mathlib.Omega.{arith}
use borrow.Rule.Slice.PartMut.{put_mid}
use lib.ListN.{length, get_or, set, take, drop, length-append, length-drop, take-append-drop, drop_of_length-le}
use lib.Seq.{drop-cons, take_all, take_at, drop-nil, take-nil}
use Rattle.meaning.specs.Basics.{laid_over}
use Rattle.writing.specs.Placed.{laid_at, saturated, Wrote, WroteAt}

-- ---- over the front
pub over_empty : (b : List ℕ) → laid_over b [] ≡ []
unfolding laid_over
over_empty [] = refl
over_empty (x ∷ b) = refl

pub length_over : (b d : List ℕ) → length (laid_over b d) ≡ length d
unfolding laid_over
length_over [] d = refl
length_over (x ∷ b) [] = refl
length_over (x ∷ b) (y ∷ d) = ap suc (length_over b d)

-- two texts, the second behind the first
pub over_append : (b e d : List ℕ) → laid_over (b ++ e) d ≡ laid_at (length b) e (laid_over b d)
unfolding laid_over laid_at
over_append [] e d = refl
over_append (x ∷ b) e [] = sym (over_empty e)
over_append (x ∷ b) e (y ∷ d) = ap (λ (l : List ℕ). x ∷ l) (over_append b e d)

over_more : (b : List ℕ) (x : ℕ) (d : List ℕ) → laid_over (b ++ x ∷ []) d ≡ set (laid_over b d) (length b) x
unfolding laid_over
over_more [] x [] = refl
over_more [] x (y ∷ d) = refl
over_more (a ∷ b) x [] = refl
over_more (a ∷ b) x (y ∷ d) = ap (λ (l : List ℕ). a ∷ l) (over_more b x d)

-- what does not fit may as well be left out
over_clipped : (n : ℕ) (b d : List ℕ) → n ≡ min (length b) (length d) → laid_over (take n b) d ≡ laid_over b d
unfolding laid_over
over_clipped n b [] h = over_empty (take n b) ∙ sym (over_empty b)
over_clipped n [] (y ∷ d) h = rw (take-nil n)
over_clipped zero (x ∷ b) (y ∷ d) h = absurd (omega arith)
over_clipped (suc n) (x ∷ b) (y ∷ d) h = ap (λ (l : List ℕ). x ∷ l) (over_clipped n b d (omega arith))

-- ---- from a place on
pub at_zero : (b d : List ℕ) → laid_at 0 b d ≡ laid_over b d
unfolding laid_at
at_zero b d = refl

pub at_beyond : (at : ℕ) (b d : List ℕ) → length d ≤ at → laid_at at b d ≡ d
unfolding laid_at
at_beyond at b d h = rw (take_all at d h, drop_of_length-le d h, over_empty b) (append-nil d)

pub length_at : (at : ℕ) (b d : List ℕ) → length (laid_at at b d) ≡ length d
unfolding laid_at
length_at at b d =
    length-append (take at d) (laid_over b (drop at d)) ∙ ap (λ (n : ℕ). length (take at d) + n) (length_over b (drop at d))
    ∙ sym (length-append (take at d) (drop at d)) ∙ ap (λ (l : List ℕ). length l) (take-append-drop at d)

pub at_append : (at : ℕ) (b e d : List ℕ) → laid_at (at + length b) e (laid_at at b d) ≡ laid_at at (b ++ e) d
unfolding laid_at
at_append zero b e d = let q : 0 + length b ≡ length b = omega arith in rw q (sym (over_append b e d))
at_append (suc at) b e [] = rw (over_empty b, drop-nil (suc at + length b), over_empty e, over_empty (b ++ e), take-nil (suc at + length b))
at_append (suc at) b e (y ∷ d) =
    let q : suc at + length b ≡ suc (at + length b) = omega arith in
    rw q (ap (λ (l : List ℕ). y ∷ l) (at_append at b e d))

at_more : (at : ℕ) (b : List ℕ) (x : ℕ) (d : List ℕ) → laid_at at (b ++ x ∷ []) d ≡ set (laid_at at b d) (at + length b) x
unfolding laid_at
at_more zero b x d = let q : 0 + length b ≡ length b = omega arith in rw q (over_more b x d)
at_more (suc at) b x [] = rw (over_empty b, over_empty (b ++ x ∷ []))
at_more (suc at) b x (y ∷ d) =
    let q : suc at + length b ≡ suc (at + length b) = omega arith in
    rw q (ap (λ (l : List ℕ). y ∷ l) (at_more at b x d))

at_clipped : (at n : ℕ) (b d : List ℕ) → n ≡ min (length b) (length d - at) → laid_at at (take n b) d ≡ laid_at at b d
unfolding laid_at
at_clipped at n b d h =
    ap (λ (l : List ℕ). take at d ++ l) (over_clipped n b (drop at d) (h ∙ ap (λ (m : ℕ). min (length b) m) (sym (length-drop at d))))

-- one byte before the others
at_front : (at x : ℕ) (b d : List ℕ) → laid_at at (x ∷ b) d ≡ set (laid_at (suc at) b d) at x
unfolding laid_at laid_over
at_front zero x b [] = rw (over_empty b)
at_front zero x b (y ∷ d) = refl
at_front (suc at) x b [] = rw (over_empty b)
at_front (suc at) x b (y ∷ d) = ap (λ (l : List ℕ). y ∷ l) (at_front at x b d)

-- ---- places that a usize holds
pub saturated_small : (n : ℕ) → n < 2 ^ 64 → saturated n ≡ n
unfolding saturated
saturated_small n h = omega arith

pub saturated_sum : (m n : ℕ) → saturated (saturated m + n) ≡ saturated (m + n)
unfolding saturated
saturated_sum m n = omega arith

-- past the end one place is like another
at_saturated : (n : ℕ) (b d : List ℕ) → length d < 2 ^ 64 → laid_at (saturated n) b d ≡ laid_at n b d
unfolding saturated
at_saturated n b d h = by (dec_lt n (2 ^ 64))
  where
    by : Dec (n < 2 ^ 64) → laid_at (min n (2 ^ 64 - 1)) b d ≡ laid_at n b d
    by (yes l) = let q : min n (2 ^ 64 - 1) ≡ n = omega arith in rw q
    by (no l) = at_beyond (min n (2 ^ 64 - 1)) b d (omega arith) ∙ sym (at_beyond n b d (omega arith))

-- ---- writers
-- one after the other
pub then : {at m r : ℕ} {b e d after last : List ℕ} → length d < 2 ^ 64 → WroteAt at b d after m → WroteAt m e after last r
    → WroteAt at (b ++ e) d last r
then {at} {m} {r} {b} {e} {d} {after} {last} h p q = record {
  laid =
      q.laid ∙ ap (λ (n : ℕ). laid_at n e after) p.ends ∙ at_saturated (at + length b) e after (rw (p.laid, length_at at b d) h)
      ∙ ap (λ (l : List ℕ). laid_at (at + length b) e l) p.laid ∙ at_append at b e d;
  ends =
      q.ends ∙ ap (λ (n : ℕ). saturated (n + length e)) p.ends ∙ saturated_sum (at + length b) (length e)
      ∙ ap saturated (let a = length-append b e in omega arith);
}

-- the place behind, where a usize holds it
pub exact : {at r : ℕ} {b d after : List ℕ} → WroteAt at b d after r → at + length b < 2 ^ 64 → r ≡ at + length b
exact {at} {r} {b} p h = p.ends ∙ saturated_small (at + length b) h

-- from the front
pub from_front : {b d after : List ℕ} {r : ℕ} → length b < 2 ^ 64 → WroteAt 0 b d after r → Wrote b d after r
from_front {b} {d} {after} {r} h p = record {
  laid = p.laid ∙ at_zero b d;
  counts = p.ends ∙ (let q : 0 + length b ≡ length b = omega arith in rw q (saturated_small (length b) h));
}

-- lent what follows a place
pub lent : {at n r : ℕ} {b d last : List ℕ} → at ≤ length d → Wrote b (take (length d - at) (drop at d)) last n → r ≡ min (at + n) (2 ^ 64 - 1)
    → WroteAt at b d (put_mid at (length d - at) d last) r
unfolding laid_at saturated
lent {at} {n} {r} {b} {d} h w e =
    let l = length-drop at d in
    let whole : take (length d - at) (drop at d) ≡ drop at d = take_all (length d - at) (drop at d) (omega arith) in
    let none : drop (length d - at) (drop at d) ≡ [] = drop_of_length-le (drop at d) {i = length d - at} (omega arith) in
    record {
      laid = rw (w.laid, whole, none) (ap (λ (l : List ℕ). take at d ++ l) (append-nil (laid_over b (drop at d))));
      ends = rw (← w.counts) e;
    }

-- none where there is no room
pub beyond : {at r : ℕ} {b d after : List ℕ} → length d ≤ at → after ≡ d → r ≡ min (at + length b) (2 ^ 64 - 1) → WroteAt at b d after r
unfolding saturated
beyond {at} {r} {b} {d} h o e = rw o (record { laid = sym (at_beyond at b d h); ends = e })

-- past the end
pub past : {at n r : ℕ} {b d : List ℕ} → length d < at → n ≡ length b → r ≡ min (at + n) (2 ^ 64 - 1) → WroteAt at b d d r
past h w e = beyond (omega arith) refl (rw (← w) e)

-- ---- a loop that writes b from at on over what was there: i bytes are laid, rest is left
pub record Going (at : ℕ) (b rest before now : List ℕ) (i : ℕ) : Type 0 where
  pub done : List ℕ
  pub count : length done ≡ i
  pub parts : b ≡ done ++ rest
  pub holds : now ≡ laid_at at done before

pub begin : (at : ℕ) (b before : List ℕ) → Going at b b before before 0
unfolding laid_at laid_over
begin at b before = record { done = []; count = refl; parts = refl; holds = sym (take-append-drop at before) }

pub lay : {at i x : ℕ} {b rest rest' before now : List ℕ} → Going at b rest before now i → rest ≡ x ∷ rest'
    → Going at b rest' before (set now (at + i) x) (i + 1)
lay {at} {i} {x} {b} {rest} {rest'} {before} {now} g e = record {
  done = g.done ++ x ∷ [];
  count = length-append g.done (x ∷ []) ∙ ap (λ (m : ℕ). m + 1) g.count;
  parts = g.parts ∙ ap (λ (l : List ℕ). g.done ++ l) e ∙ sym (append_assoc g.done (x ∷ []) rest');
  holds = rw (g.holds, ← g.count) (sym (at_more at g.done x before));
}

pub lay_next : {at i : ℕ} {b before now : List ℕ} → Going at b (drop i b) before now i → i < length b
    → Going at b (drop (i + 1) b) before (set now (at + i) (get_or b i 0)) (i + 1)
lay_next {i = i} {b = b} g h = lay g (rw add-one (drop-cons b i 0 h))

pub kept : {at i : ℕ} {b rest before now : List ℕ} → Going at b rest before now i → length now ≡ length before
kept {at} {i} {b} {rest} {before} g = rw g.holds (length_at at g.done before)

-- as many as there is room for are laid
pub end : {at n r : ℕ} {b rest before now : List ℕ} → Going at b rest before now n → n ≡ min (length b) (length before - at)
    → r ≡ min (at + length b) (2 ^ 64 - 1) → WroteAt at b before now r
unfolding saturated
end {at} {n} {r} {b} {rest} {before} {now} g h e = record {
  laid =
      g.holds ∙ ap (λ (l : List ℕ). laid_at at l before) (sym (take_at g.done rest n g.count))
      ∙ ap (λ (l : List ℕ). laid_at at (take n l) before) (sym g.parts) ∙ at_clipped at n b before h;
  ends = e;
}

-- ---- a loop that writes b from its end to its front: what stands behind the first i bytes is laid, they are left
pub record Backward (at : ℕ) (b rest before now : List ℕ) (i : ℕ) : Type 0 where
  pub done : List ℕ
  pub count : length rest ≡ i
  pub parts : b ≡ rest ++ done
  pub holds : now ≡ laid_at (at + i) done before

pub begin_backward : (at i : ℕ) (b rest before : List ℕ) → b ≡ rest → length rest ≡ i → Backward at b rest before before i
unfolding laid_at laid_over
begin_backward at i b rest before e h = record {
  done = [];
  count = h;
  parts = e ∙ sym (append-nil rest);
  holds = sym (take-append-drop (at + i) before);
}

pub lay_backward : {at i : ℕ} {b rest rest' before now : List ℕ} (x : ℕ) → Backward at b rest before now i → 0 < i → rest ≡ rest' ++ x ∷ []
    → Backward at b rest' before (set now (at + (i - 1)) x) (i - 1)
lay_backward {at} {i} {b} {rest} {rest'} {before} {now} x g h e =
    let l = ap (λ (l : List ℕ). length l) e ∙ length-append rest' (x ∷ []) in
    let n = g.count in
    let q : at + i ≡ suc (at + (i - 1)) = omega arith in
    record {
      done = x ∷ g.done;
      count = omega arith;
      parts = g.parts ∙ ap (λ (l : List ℕ). l ++ g.done) e ∙ append_assoc rest' (x ∷ []) g.done;
      holds = rw (g.holds, q) (sym (at_front (at + (i - 1)) x g.done before));
    }

no_rest : (rest done : List ℕ) → length rest ≡ 0 → rest ++ done ≡ done
no_rest [] done h = refl
no_rest (x ∷ rest) done h = absurd (omega arith)

-- all that there is room for is laid
pub end_backward : {at n i r : ℕ} {b rest before now : List ℕ} → Backward at (take n b) rest before now i → i ≤ 0
    → n ≡ min (length b) (length before - at) → r ≡ min (at + length b) (2 ^ 64 - 1) → WroteAt at b before now r
unfolding saturated
end_backward {at} {n} {i} {r} {b} {rest} {before} {now} g z h e =
    let c = g.count in
    let q : at + i ≡ at = omega arith in
    record {
      laid =
          g.holds ∙ ap (λ (m : ℕ). laid_at m g.done before) q
          ∙ ap (λ (l : List ℕ). laid_at at l before) (sym (g.parts ∙ no_rest rest g.done (omega arith))) ∙ at_clipped at n b before h;
      ends = e;
    }
