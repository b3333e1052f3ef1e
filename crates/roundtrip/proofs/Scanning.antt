-- How one token is scanned that stands in front of other bytes.
use Prim.Native.Nat.{ℕ, suc, ◌+◌, ◌-◌}
use native.Mathlib.Omega.{arith}
use mathlib.Core.Path.{◌≡◌, refl, ap, ◌∙◌}
use mathlib.Core.Bool.{Bool, true, false, and-false, and-eq-true_iff}
use mathlib.Core.List.{List, [], ◌∷◌, ◌++◌, append_assoc}
use lib.ListN.{length, get_or, take, length-append}
use lib.Dec.{eqb, leb}
use borrow.Author.Tests.{eqb-true, leb-true, lt-leb}
use Rattle.meaning.specs.Basics.{bytes, if◌then◌otherwise◌, stands_in, span}
use Rattle.meaning.specs.Byte.{is_space, is_letter, is_digit, is_name_part, is_quote, is_sign}
use Rattle.meaning.specs.Token.{found, a_string, digits, word_kind, is_double, front, prepend, starting, scan}

-- ---- bytes
-- a byte that passes a test is none that fails it
pub differs : (f : ℕ → Bool) (b c : ℕ) → f b ≡ true → f c ≡ false → eqb b c ≡ false
differs f b c p q = by (eqb b c) refl
  where
    by : (t : Bool) → eqb b c ≡ t → t ≡ false
    by true e = let z : f b ≡ f c = ap f (eqb-true b c e) in cc
    by false e = refl

abbrev pub AllPass : (ℕ → Bool) → List ℕ → Type 0
AllPass f [] = Unit {0}
AllPass f (b ∷ bs) = (f b ≡ true) × AllPass f bs

-- a letter is no white space
pub letter_no_space : (b : ℕ) → is_letter b ≡ true → is_space b ≡ false
unfolding is_space is_letter
letter_no_space b e = rw (differs is_letter b 32 e refl, differs is_letter b 9 e refl, differs is_letter b 10 e refl)

-- a digit is no white space
pub digit_no_space : (b : ℕ) → is_digit b ≡ true → is_space b ≡ false
unfolding is_space is_digit
digit_no_space b e = rw (differs is_digit b 32 e refl, differs is_digit b 9 e refl, differs is_digit b 10 e refl)

-- ---- skipping
-- the bytes of a token that began before
skip_bytes : (x r : List ℕ) (at : ℕ) → scan (length x) at (x ++ r) ≡ scan 0 (at + length x) r
unfolding scan
skip_bytes [] r at = ap (λ (n : ℕ). scan 0 n r) (omega arith)
skip_bytes (b ∷ x) r at = skip_bytes x r (suc at) ∙ ap (λ (n : ℕ). scan 0 n r) (omega arith)

-- a run of bytes that pass a test
span_all : (f : ℕ → Bool) (x r : List ℕ) → AllPass f x → f (get_or r 0 0) ≡ false → span f (x ++ r) ≡ length x
unfolding span if◌then◌otherwise◌
span_all f [] [] h k = refl
span_all f [] (c ∷ r) h k = rw k
span_all f (b ∷ x) r h k = rw h.0 (ap suc (span_all f x r h.1 k))

-- the front of two texts
take_front : (x r : List ℕ) → take (length x) (x ++ r) ≡ x
take_front [] r = refl
take_front (b ∷ x) r = ap (λ (l : List ℕ). b ∷ l) (take_front x r)

-- ---- the token at the front
-- the token of a nonempty text that is at the front of some bytes
pub scan_found : (b : ℕ) (x r : List ℕ) (at k n : ℕ) (w : List ℕ) → is_space b ≡ false → front (b ∷ x ++ r) ≡ found k n w → n ≡ suc (length x) →
    scan 0 at (b ∷ x ++ r) ≡ prepend (record { kind = k; place = at; text = w }) (scan 0 (at + suc (length x)) r)
unfolding scan starting if◌then◌otherwise◌
scan_found b x r at k n w s e l =
    let m : n - 1 ≡ length x = omega arith in
    rw (s, e, m, skip_bytes x r (suc at))
    (ap (λ (p : ℕ). prepend (record { kind = k; place = at; text = w }) (scan 0 p r)) (omega arith))

-- a name or a reserved word
name_front : (b : ℕ) (x r : List ℕ) → is_letter b ≡ true → AllPass is_name_part (b ∷ x) → is_name_part (get_or r 0 0) ≡ false →
    front (b ∷ x ++ r) ≡ found (word_kind (b ∷ x)) (suc (length x)) (b ∷ x)
unfolding front if◌then◌otherwise◌
name_front b x r l h k = rw (l, span_all is_name_part (b ∷ x) r h k, take_front x r)

-- digits
pub digit_no_letter : (b : ℕ) → is_digit b ≡ true → is_letter b ≡ false
unfolding is_digit is_letter
digit_no_letter b e =
    let small = leb-true b 57 ((and-eq-true_iff (leb 48 b) (leb b 57)).0 e).1 in
    rw (lt-leb 65 b (omega arith), lt-leb 97 b (omega arith))

-- the digits of a number
digits_front : (b : ℕ) (x r : List ℕ) → AllPass is_digit (b ∷ x) → is_digit (get_or r 0 0) ≡ false → front (b ∷ x ++ r) ≡ found digits (suc (length x)) (b ∷ x)
unfolding front if◌then◌otherwise◌
digits_front b x r h k = rw (digit_no_letter b h.0, h.0, span_all is_digit (b ∷ x) r h k, take_front x r)

-- a string
get_d_behind : (x r : List ℕ) (c : ℕ) → get_or (x ++ c ∷ r) (length x) 0 ≡ c
get_d_behind [] r c = refl
get_d_behind (b ∷ x) r c = get_d_behind x r c

string_front : (b : ℕ) (x r : List ℕ) → is_letter b ≡ true → AllPass is_name_part (b ∷ x) → front (34 ∷ (b ∷ x ++ 34 ∷ r)) ≡ found a_string (suc (length x) + 2) (b ∷ x)
unfolding front if◌then◌otherwise◌ is_quote is_letter is_digit is_name_part
string_front b x r l h = rw (span_all is_name_part (b ∷ x) (34 ∷ r) h refl, get_d_behind x r 34, l, take_front x (34 ∷ r))

-- a sign of one byte
pub record Lone (b : ℕ) : Type 0 where
  pub space : is_space b ≡ false
  pub letter : is_letter b ≡ false
  pub digit : is_digit b ≡ false
  pub quote : is_quote b ≡ false
  pub sign : is_sign b ≡ true
  pub bang : eqb b 33 ≡ false

-- it stands alone where no sign of two bytes begins
lone_front : (b : ℕ) (r : List ℕ) → Lone b → is_double b (get_or r 0 0) ≡ false → front (b ∷ r) ≡ found b 1 (b ∷ [])
unfolding front if◌then◌otherwise◌
lone_front b r h d = rw (h.letter, h.digit, h.quote, h.sign, d, h.bang)

-- most signs are never the first byte of another
pub never_double : (b c : ℕ) → stands_in b (bytes "+><=") ≡ false → eqb b 33 ≡ false → is_double b c ≡ false
unfolding is_double
never_double b c e k = rw (e, k) (rw (and-false (eqb b c)))

-- nor does a sign begin another where the next byte differs
pub not_double : (b c : ℕ) → eqb b c ≡ false → eqb b 33 ≡ false → is_double b c ≡ false
unfolding is_double
not_double b c e k = rw (e, k)

-- ---- one token scanned
-- a name
pub scan_name : (b : ℕ) (x r : List ℕ) (at : ℕ) → is_letter b ≡ true → AllPass is_name_part (b ∷ x) → is_name_part (get_or r 0 0) ≡ false →
    scan 0 at (b ∷ x ++ r) ≡ prepend (record { kind = word_kind (b ∷ x); place = at; text = b ∷ x }) (scan 0 (at + suc (length x)) r)
scan_name b x r at l h k = scan_found b x r at _ _ _ (letter_no_space b l) (name_front b x r l h k) refl

-- digits
pub scan_digits : (b : ℕ) (x r : List ℕ) (at : ℕ) → AllPass is_digit (b ∷ x) → is_digit (get_or r 0 0) ≡ false →
    scan 0 at (b ∷ x ++ r) ≡ prepend (record { kind = digits; place = at; text = b ∷ x }) (scan 0 (at + suc (length x)) r)
scan_digits b x r at h k = scan_found b x r at _ _ _ (digit_no_space b h.0) (digits_front b x r h k) refl

-- a sign
pub scan_sign : (b : ℕ) (r : List ℕ) (at : ℕ) → Lone b → is_double b (get_or r 0 0) ≡ false →
    scan 0 at (b ∷ r) ≡ prepend (record { kind = b; place = at; text = b ∷ [] }) (scan 0 (at + 1) r)
scan_sign b r at h d = scan_found b [] r at _ _ _ h.space (lone_front b r h d) refl

-- a string
pub scan_string : (b : ℕ) (x r : List ℕ) (at : ℕ) → is_letter b ≡ true → AllPass is_name_part (b ∷ x) →
    scan 0 at (34 ∷ (b ∷ x ++ 34 ∷ []) ++ r) ≡ prepend (record { kind = a_string; place = at; text = b ∷ x }) (scan 0 (at + suc (length (b ∷ x ++ 34 ∷ []))) r)
unfolding is_space
scan_string b x r at l h =
    scan_found 34 (b ∷ x ++ 34 ∷ []) r at _ _ _ refl (ap (λ (l : List ℕ). front (34 ∷ b ∷ l)) (append_assoc x (34 ∷ []) r) ∙ string_front b x r l h)
    (omega (arith, length-append x (34 ∷ [])))
