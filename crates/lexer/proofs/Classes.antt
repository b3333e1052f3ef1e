-- The table of classes, and what the class of a byte tells.
-- Assumes nothing.
use mathlib.Core.Path.{◌≡◌, ◌∙◌, refl, sym, ap}
use mathlib.Core.Bool.{Bool, true, false, ◌&&◌, ◌||◌, cond}
use mathlib.Core.List.{List, [], ◌∷◌}
use Prim.Native.Nat.{ℕ, zero, suc, ◌+◌, ◌≤◌, ◌<◌}
use native.Mathlib.Nat.{add-zero, zero-add}
use native.Mathlib.Omega.{arith}
use borrow.Author.Tests.{eq-eqb, ne_eqb, eqb-true, leb-true, lt-leb, ltb-true}
use lib.Dec.{eqb, leb, ltb}
use lib.ListN.{get_or}
use Rattle.meaning.specs.Basics.{stands_in, bytes}
use Rattle.meaning.specs.Byte.{is_space, is_letter, is_digit, is_name_part, is_quote, is_sign, class_of}
use Rattle.lexer.specs.Lexing.{classes_from, class_table, from_class}

-- ---- the table
entry : (i n k : ℕ) → k < n → get_or (classes_from i n) k 0 ≡ class_of (i + k)
unfolding classes_from
entry i zero k h = absurd (omega arith)
entry i (suc n) zero h = ap class_of (sym (add-zero i))
entry i (suc n) (suc k) h = entry (suc i) n k (omega arith) ∙ ap class_of (omega arith)

pub class_entry : (classes : List ℕ) (b : ℕ) → classes ≡ class_table → b < 256 → get_or classes b 0 ≡ class_of b
class_entry classes b e h = ap (λ (l : List ℕ). get_or l b 0) e ∙ entry 0 256 b h ∙ ap class_of (zero-add b)

-- ---- Booleans
either : (P : Type 0) (a b : Bool) → (a ≡ true → P) → (b ≡ true → P) → a || b ≡ true → P
either P true b f g e = f refl
either P false b f g e = g e

both : (P : Type 0) (a b : Bool) → (a ≡ true → b ≡ true → P) → a && b ≡ true → P
both P true b f e = f refl e
both P false b f e = let z : ◌≡◌ {A = ℕ} 0 1 = cc in absurd (omega arith)

neither : (a b : Bool) → a ≡ false → b ≡ false → a || b ≡ false
neither a b p q = rw (p, q)

not_both_left : (a b : Bool) → a ≡ false → a && b ≡ false
not_both_left a b p = rw p

not_both_right : (a b : Bool) → b ≡ false → a && b ≡ false
not_both_right true b p = p
not_both_right false b p = refl

-- ---- each test gives its class
space : (b : ℕ) → is_space b ≡ true → class_of b ≡ 1
unfolding class_of
space b e = rw e

no_space : (b : ℕ) → 33 ≤ b → is_space b ≡ false
unfolding is_space
no_space b h =
    neither (eqb b 32 || eqb b 9) (eqb b 10)
    (neither (eqb b 32) (eqb b 9) (ne_eqb b 32 (omega arith)) (ne_eqb b 9 (omega arith)))
    (ne_eqb b 10 (omega arith))

letter_high : (b : ℕ) → is_letter b ≡ true → 58 ≤ b
unfolding is_letter
letter_high b =
    either (58 ≤ b) (leb 65 b && leb b 90) (leb 97 b && leb b 122)
    (both (58 ≤ b) (leb 65 b) (leb b 90) λ p q. let h = leb-true 65 b p in omega arith)
    (both (58 ≤ b) (leb 97 b) (leb b 122) λ p q. let h = leb-true 97 b p in omega arith)

letter : (b : ℕ) → is_letter b ≡ true → class_of b ≡ 2
unfolding class_of
letter b e = let h = letter_high b e in rw (no_space b (omega arith), e)

digit_low : (b : ℕ) → is_digit b ≡ true → (48 ≤ b) × (b ≤ 57)
unfolding is_digit
digit_low b = both ((48 ≤ b) × (b ≤ 57)) (leb 48 b) (leb b 57) λ p q. (leb-true 48 b p, leb-true b 57 q)

no_letter : (b : ℕ) → b ≤ 57 → is_letter b ≡ false
unfolding is_letter
no_letter b h =
    neither (leb 65 b && leb b 90) (leb 97 b && leb b 122)
    (not_both_left (leb 65 b) (leb b 90) (lt-leb 65 b (omega arith)))
    (not_both_left (leb 97 b) (leb b 122) (lt-leb 97 b (omega arith)))

digit : (b : ℕ) → is_digit b ≡ true → class_of b ≡ 3
unfolding class_of
digit b e = let h = digit_low b e in rw (no_space b (omega arith), no_letter b h.1, e)

quote : (b : ℕ) → is_quote b ≡ true → class_of b ≡ 4
unfolding is_quote is_space is_letter is_digit class_of
quote b e = rw (eqb-true b 34 e)

-- what holds of each byte of a text holds of one that stands in it
abbrev every : (ℕ → Bool) → List ℕ → Bool
every p [] = true
every p (x ∷ xs) = p x && every p xs

stands : (p : ℕ → Bool) (b : ℕ) (l : List ℕ) → every p l ≡ true → stands_in b l ≡ true → p b ≡ true
unfolding stands_in
stands p b [] t e = let z : ◌≡◌ {A = ℕ} 0 1 = cc in absurd (omega arith)
stands p b (x ∷ xs) t e =
    both (p b ≡ true) (p x) (every p xs)
    (λ u v. either (p b ≡ true) (eqb b x) (stands_in b xs) (λ q. ap p (eqb-true b x q) ∙ u) (stands p b xs v) e) t

sign : (b : ℕ) → is_sign b ≡ true → class_of b ≡ 5
unfolding stands_in is_space is_letter is_digit is_quote is_sign class_of
sign b e = eqb-true (class_of b) 5 (stands (λ x. eqb (class_of x) 5) b (bytes "+-*/%><=!.,;()[]{}") refl e)

-- each sign is above 32 and below 128
pub sign_range : (b : ℕ) → is_sign b ≡ true → (32 < b) × (b < 128)
unfolding stands_in is_sign
sign_range b e =
    both ((32 < b) × (b < 128)) (ltb 32 b) (ltb b 128) (λ p q. (ltb-true 32 b p, ltb-true b 128 q))
    (stands (λ x. ltb 32 x && ltb x 128) b (bytes "+-*/%><=!.,;()[]{}") refl e)

-- ---- and the class tells the test
-- a test that gives class k, and without which the class is another
same_test : (t : Bool) (b k : ℕ) → (t ≡ true → class_of b ≡ k) → (t ≡ false → eqb (class_of b) k ≡ false) → t ≡ eqb (class_of b) k
same_test true b k f g = sym (eq-eqb (class_of b) k (f refl))
same_test false b k f g = sym (g refl)

-- four tests, none of which gives class k
others : (k : ℕ) (t u v w : Bool) (x y z o : ℕ)
    → eqb x k ≡ false → eqb y k ≡ false → eqb z k ≡ false → eqb o k ≡ false → eqb 0 k ≡ false
    → eqb (cond t x (cond u y (cond v z (cond w o 0)))) k ≡ false
others k true u v w x y z o hx hy hz ho h0 = hx
others k false true v w x y z o hx hy hz ho h0 = hy
others k false false true w x y z o hx hy hz ho h0 = hz
others k false false false true x y z o hx hy hz ho h0 = ho
others k false false false false x y z o hx hy hz ho h0 = h0

module _ (b : ℕ) where
  pub is_space_lem : is_space b ≡ eqb (class_of b) 1
  unfolding class_of
  is_space_lem =
      same_test (is_space b) b 1 (space b) λ e.
      rw e (others 1 (is_letter b) (is_digit b) (is_quote b) (is_sign b) 2 3 4 5 refl refl refl refl refl)

  pub is_letter_lem : is_letter b ≡ eqb (class_of b) 2
  unfolding class_of
  is_letter_lem =
      same_test (is_letter b) b 2 (letter b) λ e.
      rw e (others 2 (is_space b) (is_digit b) (is_quote b) (is_sign b) 1 3 4 5 refl refl refl refl refl)

  pub is_digit_lem : is_digit b ≡ eqb (class_of b) 3
  unfolding class_of
  is_digit_lem =
      same_test (is_digit b) b 3 (digit b) λ e.
      rw e (others 3 (is_space b) (is_letter b) (is_quote b) (is_sign b) 1 2 4 5 refl refl refl refl refl)

  pub is_quote_lem : is_quote b ≡ eqb (class_of b) 4
  unfolding class_of
  is_quote_lem =
      same_test (is_quote b) b 4 (quote b) λ e.
      rw e (others 4 (is_space b) (is_letter b) (is_digit b) (is_sign b) 1 2 3 5 refl refl refl refl refl)

  pub is_sign_lem : is_sign b ≡ eqb (class_of b) 5
  unfolding class_of
  is_sign_lem =
      same_test (is_sign b) b 5 (sign b) λ e.
      rw e (others 5 (is_space b) (is_letter b) (is_digit b) (is_quote b) 1 2 3 4 refl refl refl refl refl)

pub sign_low : (b : ℕ) → class_of b ≡ 5 → b < 128
sign_low b e = (sign_range b (is_sign_lem b ∙ eq-eqb (class_of b) 5 e)).1

-- ---- the classes of a run
high : (n c : ℕ) → 3 < c → leb n c && leb c 3 ≡ false
high n c h = not_both_right (leb n c) (leb c 3) (lt-leb c 3 h)

from_2_high : (c : ℕ) → 3 < c → leb 2 c && leb c 3 ≡ eqb c 2 || eqb c 3
from_2_high c h = high 2 c h ∙ sym (neither (eqb c 2) (eqb c 3) (ne_eqb c 2 (omega arith)) (ne_eqb c 3 (omega arith)))

from_2 : (c : ℕ) → leb 2 c && leb c 3 ≡ eqb c 2 || eqb c 3
from_2 zero = refl
from_2 (suc zero) = refl
from_2 (suc (suc zero)) = refl
from_2 (suc (suc (suc zero))) = refl
from_2 (suc (suc (suc (suc c)))) = from_2_high (suc (suc (suc (suc c)))) (omega arith)

from_3_high : (c : ℕ) → 3 < c → leb 3 c && leb c 3 ≡ eqb c 3
from_3_high c h = high 3 c h ∙ sym (ne_eqb c 3 (omega arith))

from_3 : (c : ℕ) → leb 3 c && leb c 3 ≡ eqb c 3
from_3 zero = refl
from_3 (suc zero) = refl
from_3 (suc (suc zero)) = refl
from_3 (suc (suc (suc zero))) = refl
from_3 (suc (suc (suc (suc c)))) = from_3_high (suc (suc (suc (suc c)))) (omega arith)

pub name_part : (b : ℕ) → from_class 2 b ≡ is_name_part b
unfolding from_class is_name_part
name_part b = rw (is_letter_lem b, is_digit_lem b) (from_2 (class_of b))

pub digit_part : (b : ℕ) → from_class 3 b ≡ is_digit b
unfolding from_class
digit_part b = rw (is_digit_lem b) (from_3 (class_of b))
