-- Laws of the decimal digits that a picture shows: read again they are the number, and the first is no needless 0.
use Prim.Native.Nat.{ℕ, zero, suc, ◌+◌, ◌-◌, ◌*◌, ◌/◌, ◌%◌, ◌<◌, ◌≤◌}
use mathlib.Core.Path.{◌≡◌, refl, ap, ◌∙◌}
use mathlib.Core.Logic.{◌≢◌}
use mathlib.Core.Bool.{Bool, true, false}
use mathlib.Core.List.{List, [], ◌∷◌, ◌++◌}
use native.Mathlib.Omega.{arith}
use lib.Dec.{ltb}
use lib.ListN.{get_or}
use borrow.Author.Tests.{ltb-true, ltb-false, le-leb}
use Rattle.meaning.specs.Basics.{bytes, if◌then◌otherwise◌}
use Rattle.meaning.specs.Byte.{is_digit}
use Rattle.meaning.specs.Grammar.{numeral, numeral_from}
use Rattle.meaning.specs.Picture.{digits_within, digits_of}

-- ---- read again
numeral_from_append : (a : ℕ) (ds es : List ℕ) → numeral_from a (ds ++ es) ≡ numeral_from (numeral_from a ds) es
unfolding numeral_from
numeral_from_append a [] es = refl
numeral_from_append a (d ∷ ds) es = numeral_from_append (10 * a + (d - 48)) ds es

-- One round: the digits of n from those of n / 10. Rounds more than n are enough.
unfoldable one_round : Bool → List ℕ → ℕ → List ℕ
unfolding if◌then◌otherwise◌
one_round t ds n = if t then (λ _. (n + 48) ∷ []) otherwise λ _. ds ++ ((n % 10 + 48) ∷ [])

round_numeral : (t : Bool) (ds : List ℕ) (n : ℕ) → ltb n 10 ≡ t → (10 ≤ n → numeral ds ≡ n / 10) → numeral (one_round t ds n) ≡ n
unfolding one_round if◌then◌otherwise◌ numeral_from
round_numeral true ds n e h = omega arith
round_numeral false ds n e h =
    numeral_from_append 0 ds ((n % 10 + 48) ∷ []) ∙ rw (h (ltb-false n 10 e)) (omega arith)

within_numeral : (rounds n : ℕ) → n < rounds → numeral (digits_within rounds n) ≡ n
unfolding digits_within one_round
within_numeral zero n h = absurd (omega arith)
within_numeral (suc rounds) n h =
    round_numeral (ltb n 10) (digits_within rounds (n / 10)) n refl (λ k. within_numeral rounds (n / 10) (omega arith))

pub numeral_digits_of : (n : ℕ) → numeral (digits_of n) ≡ n
unfolding digits_of
numeral_digits_of n = within_numeral (suc n) n (omega arith)

-- ---- each byte is a digit
abbrev pub AllDigits : List ℕ → Type 0
AllDigits [] = Unit {0}
AllDigits (d ∷ ds) = (is_digit d ≡ true) × AllDigits ds

digit : (n : ℕ) → n < 10 → is_digit (n + 48) ≡ true
unfolding is_digit
digit n h = rw (le-leb 48 (n + 48) (omega arith), le-leb (n + 48) 57 (omega arith))

all_append : (ds es : List ℕ) → AllDigits ds → AllDigits es → AllDigits (ds ++ es)
all_append [] es h k = k
all_append (d ∷ ds) es h k = (h.0, all_append ds es h.1 k)

round_digits : (t : Bool) (ds : List ℕ) (n : ℕ) → ltb n 10 ≡ t → AllDigits ds → AllDigits (one_round t ds n)
unfolding one_round if◌then◌otherwise◌
round_digits true ds n e h = (digit n (ltb-true n 10 e), tt)
round_digits false ds n e h = all_append ds ((n % 10 + 48) ∷ []) h (digit (n % 10) (omega arith), tt)

within_digits : (rounds n : ℕ) → AllDigits (digits_within rounds n)
unfolding digits_within one_round
within_digits zero n = tt
within_digits (suc rounds) n = round_digits (ltb n 10) (digits_within rounds (n / 10)) n refl (within_digits rounds (n / 10))

pub digits_digits_of : (n : ℕ) → AllDigits (digits_of n)
unfolding digits_of
digits_digits_of n = within_digits (suc n) n

-- ---- the first is 0 only at 0
first_append : (ds es : List ℕ) → 48 < get_or ds 0 0 → 48 < get_or (ds ++ es) 0 0
first_append [] es h = absurd (omega arith)
first_append (d ∷ ds) es h = h

round_first : (t : Bool) (ds : List ℕ) (n : ℕ) → ltb n 10 ≡ t → 0 < n → (10 ≤ n → 48 < get_or ds 0 0) → 48 < get_or (one_round t ds n) 0 0
unfolding one_round if◌then◌otherwise◌
round_first true ds n e k h = omega arith
round_first false ds n e k h = first_append ds ((n % 10 + 48) ∷ []) (h (ltb-false n 10 e))

within_first : (rounds n : ℕ) → n < rounds → 0 < n → 48 < get_or (digits_within rounds n) 0 0
unfolding digits_within one_round
within_first zero n h k = absurd (omega arith)
within_first (suc rounds) n h k =
    round_first (ltb n 10) (digits_within rounds (n / 10)) n refl k (λ m. within_first rounds (n / 10) (omega arith) (omega arith))

pub first_digits_of : (n : ℕ) → 0 < n → get_or (digits_of n) 0 0 ≢ 48
unfolding digits_of
first_digits_of n h = let k = within_first (suc n) n (omega arith) h in omega arith

pub digits_of_zero : digits_of 0 ≡ bytes "0"
unfolding digits_of digits_within if◌then◌otherwise◌
digits_of_zero = refl

-- ---- rounds
-- more rounds than n change nothing, so what is left with none is never shown
within_same : (r r' n : ℕ) → n < r → n < r' → digits_within r n ≡ digits_within r' n
unfolding digits_within if◌then◌otherwise◌
within_same zero r' n l l' = absurd (omega arith)
within_same (suc r) zero n l l' = absurd (omega arith)
within_same (suc r) (suc r') n l l' = by (ltb n 10) refl (λ k. within_same r r' (n / 10) (omega arith) (omega arith))
  where
    by : (t : Bool) → ltb n 10 ≡ t → (10 ≤ n → digits_within r (n / 10) ≡ digits_within r' (n / 10)) →
        (if t then (λ _. (n + 48) ∷ []) otherwise λ _. digits_within r (n / 10) ++ ((n % 10 + 48) ∷ []))
        ≡ (if t then (λ _. (n + 48) ∷ []) otherwise λ _. digits_within r' (n / 10) ++ ((n % 10 + 48) ∷ []))
    by true e h = refl
    by false e h = ap (λ (ds : List ℕ). ds ++ ((n % 10 + 48) ∷ [])) (h (ltb-false n 10 e))

pub rounds_enough : (rounds n : ℕ) → n < rounds → digits_within rounds n ≡ digits_of n
unfolding digits_of
rounds_enough rounds n l = within_same rounds (suc n) n l (omega arith)
