-- A text laid over a list from a place on, and parts of lists.
use mathlib.Core.Path.{◌≡◌, ◌∙◌, refl, sym, ap}
use mathlib.Core.List.{List, [], ◌∷◌, ◌++◌}
use Prim.Native.Nat.{ℕ, zero, suc, ◌+◌, ◌-◌, ◌≤◌}
use native.Mathlib.Nat.{le_of_suc-le-suc, not-suc-le-zero}
use native.Mathlib.Omega.{arith}
use lib.ListN.{length, take, drop, length-append, length-drop, take-append-drop}
use lib.Seq.{take_all, take_at, take-take, length-take-le}
use Rattle.meaning.specs.Basics.{laid_over}
use Rattle.machine.specs.Texts.{part, laid_at}

-- ---- over the front
length_over : (xs d : List ℕ) → length (laid_over xs d) ≡ length d
unfolding laid_over
length_over [] d = refl
length_over (x ∷ xs) [] = refl
length_over (x ∷ xs) (y ∷ d) = ap suc (length_over xs d)

over_append : (xs ys d : List ℕ) → length xs ≤ length d
    → take (length xs) (laid_over xs d) ++ laid_over ys (drop (length xs) (laid_over xs d)) ≡ laid_over (xs ++ ys) d
unfolding laid_over
over_append [] ys d h = refl
over_append (x ∷ xs) ys [] h = absurd (not-suc-le-zero h)
over_append (x ∷ xs) ys (y ∷ d) h = ap (λ (l : List ℕ). x ∷ l) (over_append xs ys d (le_of_suc-le-suc h))

over_front : (xs d : List ℕ) → length xs ≤ length d → take (length xs) (laid_over xs d) ≡ xs
unfolding laid_over
over_front [] d h = refl
over_front (x ∷ xs) [] h = absurd (not-suc-le-zero h)
over_front (x ∷ xs) (y ∷ d) h = ap (λ (l : List ℕ). x ∷ l) (over_front xs d (le_of_suc-le-suc h))

-- ---- from a place on
pub length_laid : (d : List ℕ) (at : ℕ) (xs : List ℕ) → length (laid_at d at xs) ≡ length d
unfolding laid_at
length_laid d at xs =
    length-append (take at d) (laid_over xs (drop at d)) ∙ ap (λ (n : ℕ). length (take at d) + n) (length_over xs (drop at d))
    ∙ sym (length-append (take at d) (drop at d)) ∙ ap (λ (l : List ℕ). length l) (take-append-drop at d)

-- one text, and then another behind it
pub laid_laid : (d : List ℕ) (at : ℕ) (xs ys : List ℕ) → at + length xs ≤ length d → laid_at (laid_at d at xs) (at + length xs) ys ≡ laid_at d at (xs ++ ys)
unfolding laid_at
laid_laid d zero xs ys h = let q : 0 + length xs ≡ length xs = omega arith in rw q (over_append xs ys d (rw q at h))
laid_laid [] (suc a) xs ys h = absurd (omega arith)
laid_laid (y ∷ d) (suc a) xs ys h =
    let q : suc a + length xs ≡ suc (a + length xs) = omega arith in
    rw q (ap (λ (l : List ℕ). y ∷ l) (laid_laid d a xs ys (omega arith)))

-- what lies before is kept
pub kept_laid : (d : List ℕ) (at : ℕ) (xs : List ℕ) → at ≤ length d → take at (laid_at d at xs) ≡ take at d
unfolding laid_at
kept_laid d at xs h = take_at (take at d) _ at (length-take-le at d h)

pub kept_less : (d e : List ℕ) (m n : ℕ) → m ≤ n → take n e ≡ take n d → take m e ≡ take m d
kept_less d e m n h k = sym (take-take m n e h) ∙ ap (λ (l : List ℕ). take m l) k ∙ take-take m n d h

-- what was laid is there
pub part_laid : (d : List ℕ) (at : ℕ) (xs : List ℕ) → at + length xs ≤ length d → part at (length xs) (laid_at d at xs) ≡ xs
unfolding laid_at part
part_laid d zero xs h = over_front xs d (let q : 0 + length xs ≡ length xs = omega arith in rw q at h)
part_laid [] (suc a) xs h = absurd (omega arith)
part_laid (y ∷ d) (suc a) xs h = part_laid d a xs (omega arith)

-- ---- parts
-- a part that ends before a place is the same of what lies before it
pub part_take : (at a n : ℕ) (d : List ℕ) → a + n ≤ at → part a n (take at d) ≡ part a n d
unfolding part
part_take at zero n d h = take-take n at d (omega arith)
part_take zero (suc a) n d h = absurd (omega arith)
part_take (suc t) (suc a) n [] h = refl
part_take (suc t) (suc a) n (y ∷ d) h = part_take t a n d (omega arith)

-- no more of a part than the list has
pub part_clip : (a n k : ℕ) (d : List ℕ) → n ≤ k → (n ≡ k → ⊥) → n ≡ length d - a → part a n d ≡ part a k d
unfolding part
part_clip a n k d h i e =
    let l : length (drop a d) ≡ n = length-drop a d ∙ sym e in
    take_all n (drop a d) (omega arith) ∙ sym (take_all k (drop a d) (omega arith))

pub length_part : (d : List ℕ) (a n : ℕ) → n ≤ length d - a → length (part a n d) ≡ n
unfolding part
length_part d a n h = length-take-le n (drop a d) (omega (arith, length-drop a d))
