-- The laws of decimal numbers.
-- Assumes nothing.
use mathlib.Core.Bool.{Bool, true, false}
use mathlib.Core.List.{List, [], ◌∷◌, ◌++◌, append-nil, append_assoc}
use mathlib.Core.Path.{◌≡◌, ◌∙◌, refl, sym, ap}
use Prim.Native.Nat.{ℕ, zero, suc, ◌+◌, ◌-◌, ◌/◌, ◌%◌, ◌^◌, ◌*◌, max, ◌≤◌, ◌<◌}
use native.Mathlib.Decide.{dec_lt}
use native.Mathlib.Nat.{pow-suc, pow-succ', one-le-pow, div-div-eq-div-mul, div-one, div-lt_iff_lt-mul}
use native.Mathlib.Omega.{arith}
use borrow.Author.Tests.{lt-ltb, le-ltb, ltb-false}
use lib.Dec.{ltb, lit<}
use lib.IntN.{ℤ, pos, negsuc, nat_abs}
use lib.ListN.{length, take, length-append}
use lib.Seq.{take_at}
use mir.Syntax.{w32, w64}
use mir.Val.{SFits}
use Rattle.meaning.specs.Basics.{if◌then◌otherwise◌}
use Rattle.meaning.specs.Picture.{digits_within, digits_of, decimal}
use Rattle.writing.specs.Digits.{is_negative}

-- ---- the digits of a number are those of its tenth and one more
-- rounds beyond the number's value change nothing
within : (rounds more n : ℕ) → n < rounds → n < more → digits_within rounds n ≡ digits_within more n
unfolding digits_within if◌then◌otherwise◌
within zero more n h k = absurd (omega arith)
within (suc rounds) zero n h k = absurd (omega arith)
within (suc rounds) (suc more) n h k = by (ltb n 10) refl (within rounds more (n / 10))
  where
    by : (b : Bool) → ltb n 10 ≡ b → (n / 10 < rounds → n / 10 < more → digits_within rounds (n / 10) ≡ digits_within more (n / 10))
        → (if b then (λ _. (n + 48) ∷ []) otherwise λ _. digits_within rounds (n / 10) ++ ((n % 10 + 48) ∷ []))
        ≡ (if b then (λ _. (n + 48) ∷ []) otherwise λ _. digits_within more (n / 10) ++ ((n % 10 + 48) ∷ []))
    by true e less = refl
    by false e less =
        let l = ltb-false n 10 e in
        ap (λ (b : List ℕ). b ++ (n % 10 + 48) ∷ []) (less (omega arith) (omega arith))

digits_one : (n : ℕ) → n < 10 → digits_of n ≡ (n % 10 + 48) ∷ []
unfolding digits_of digits_within if◌then◌otherwise◌
digits_one n h = let q : n % 10 ≡ n = omega arith in rw (lt-ltb n 10 h, q)

digits_more : (n : ℕ) → 10 ≤ n → digits_of n ≡ digits_of (n / 10) ++ (n % 10 + 48) ∷ []
unfolding digits_of digits_within if◌then◌otherwise◌
digits_more n h =
    rw (le-ltb n 10 h) (ap (λ (b : List ℕ). b ++ (n % 10 + 48) ∷ []) (within n (suc (n / 10)) (n / 10) (omega arith) (omega arith)))

length_more : (n : ℕ) → 10 ≤ n → length (digits_of n) ≡ length (digits_of (n / 10)) + 1
length_more n h = rw (digits_more n h) (length-append (digits_of (n / 10)) ((n % 10 + 48) ∷ []))

-- what holds of one digit, and of a number if it holds of its tenth, holds of every number
by_tenths : (P : ℕ → Type 0) → ((n : ℕ) → n < 10 → P n) → ((n : ℕ) → 10 ≤ n → P (n / 10) → P n) → (rounds n : ℕ) → n < rounds → P n
by_tenths P one more zero n h = absurd (omega arith)
by_tenths P one more (suc rounds) n h = by (dec_lt n 10) (by_tenths P one more rounds (n / 10))
  where
    by : Dec (n < 10) → (n / 10 < rounds → P (n / 10)) → P n
    by (yes l) less = one n l
    by (no l) less = more n (omega arith) (less (omega arith))

-- ---- a number without its last digits
-- one less at first, or at last
tenth_without : (n k : ℕ) → n / 10 / 10 ^ k ≡ n / 10 ^ suc k
tenth_without n k = div-div-eq-div-mul n 10 (10 ^ k) ∙ ap (λ (m : ℕ). n / m) (sym (pow-succ' 10 k))

pub without_tenth : (n k : ℕ) → n / 10 ^ k / 10 ≡ n / 10 ^ (k + 1)
without_tenth n k =
    let q : k + 1 ≡ suc k = omega arith in
    rw q (div-div-eq-div-mul n (10 ^ k) 10 ∙ ap (λ (m : ℕ). n / m) (sym (pow-suc 10 k)))

-- ---- how many there are
pub digits_some : (n : ℕ) → 1 ≤ length (digits_of n)
digits_some n = by (dec_lt n 10)
  where
    by : Dec (n < 10) → 1 ≤ length (digits_of n)
    by (yes l) = rw (digits_one n l) (omega arith)
    by (no l) = omega (arith, length_more n (omega arith))

-- a number below 10 ^ (k + 1) has at most k + 1
pub digits_short : (n k : ℕ) → n < 10 ^ suc k → length (digits_of n) ≤ suc k
digits_short n = by_tenths (λ (n : ℕ). (k : ℕ) → n < 10 ^ suc k → length (digits_of n) ≤ suc k) one more (suc n) n (omega arith)
  where
    one : (n : ℕ) → n < 10 → (k : ℕ) → n < 10 ^ suc k → length (digits_of n) ≤ suc k
    one n l k h = rw (digits_one n l) (omega arith)

    more : (n : ℕ) → 10 ≤ n → ((k : ℕ) → n / 10 < 10 ^ suc k → length (digits_of (n / 10)) ≤ suc k)
        → (k : ℕ) → n < 10 ^ suc k → length (digits_of n) ≤ suc k
    more n l less zero h = absurd (omega arith)
    more n l less (suc k) h = omega (arith, length_more n l, less k (omega (arith, pow-suc 10 (suc k))))

-- a number of 64 bits has at most 20
pub digits_limit : {n count : ℕ} → count ≡ length (digits_of n) → n < 2 ^ 64 → count ≤ 20
digits_limit {n} e h = omega (arith, digits_short n 19 (omega arith))

-- without its last k digits a number has k less
length_without : (k n : ℕ) → 10 ^ k ≤ n → length (digits_of n) ≡ length (digits_of (n / 10 ^ k)) + k
length_without zero n h = rw (div-one n) (omega arith)
length_without (suc k) n h =
    let p = pow-suc 10 k in
    let l : 10 ≤ n = omega (arith, one-le-pow k 10 (lit< tt)) in
    let r = rw (tenth_without n k) at (length_without k (n / 10) (omega arith)) in
    omega (arith, length_more n l)

-- one more than the logarithm by ten, where 0 counts as 1
pub digits_by_power : (n k : ℕ) → 10 ^ k ≤ max n 1 → max n 1 < 10 * 10 ^ k → k + 1 ≡ length (digits_of n)
digits_by_power n k h l = by (dec_lt 0 n)
  where
    counted : (m : ℕ) → 10 ^ k ≤ m → m < 10 * 10 ^ k → k + 1 ≡ length (digits_of m)
    counted m h l = omega (arith, length_without k m h, ap (λ (b : List ℕ). length b) (digits_one (m / 10 ^ k) ((div-lt_iff_lt-mul (one-le-pow k 10 (lit< tt))).1 l)))

    by : Dec (0 < n) → k + 1 ≡ length (digits_of n)
    by (yes p) = let q : max n 1 ≡ n = omega arith in counted n (rw q at h) (rw q at l)
    by (no p) =
        let q : n ≡ 0 = omega arith in
        let m : max n 1 ≡ 1 = omega arith in
        rw (q, digits_one 0 (omega arith)) (rw (digits_one 1 (omega arith)) at (counted 1 (rw m at h) (rw m at l)))

-- ---- the last digits of a number, as many as asked
unfoldable pub last_digits : ℕ → ℕ → List ℕ
last_digits zero n = []
last_digits (suc p) n = last_digits p (n / 10) ++ (n % 10 + 48) ∷ []

pub length_last : (p n : ℕ) → length (last_digits p n) ≡ p
unfolding last_digits
length_last zero n = refl
length_last (suc p) n = length-append (last_digits p (n / 10)) ((n % 10 + 48) ∷ []) ∙ omega (arith, length_last p (n / 10))

pub last_more : (p n : ℕ) → 0 < p → last_digits p n ≡ last_digits (p - 1) (n / 10) ++ (n % 10 + 48) ∷ []
unfolding last_digits
last_more zero n h = absurd (omega arith)
last_more (suc p) n h = let q : suc p - 1 ≡ p = omega arith in rw q

last_split : (p k n : ℕ) → last_digits (p + k) n ≡ last_digits p (n / 10 ^ k) ++ last_digits k n
unfolding last_digits
last_split p zero n = let q : p + 0 ≡ p = omega arith in rw (q, div-one n) (sym (append-nil (last_digits p n)))
last_split p (suc k) n =
    let q : p + suc k ≡ suc (p + k) = omega arith in
    rw (q, last_split p k (n / 10), tenth_without n k) (append_assoc (last_digits p (n / 10 ^ suc k)) (last_digits k (n / 10)) ((n % 10 + 48) ∷ []))

-- as many as there are, they are all
digits_last : (n : ℕ) → last_digits (length (digits_of n)) n ≡ digits_of n
unfolding last_digits
digits_last n = by_tenths (λ (n : ℕ). last_digits (length (digits_of n)) n ≡ digits_of n) one more (suc n) n (omega arith)
  where
    one : (n : ℕ) → n < 10 → last_digits (length (digits_of n)) n ≡ digits_of n
    one n l = rw (digits_one n l)

    more : (n : ℕ) → 10 ≤ n → last_digits (length (digits_of (n / 10))) (n / 10) ≡ digits_of (n / 10)
        → last_digits (length (digits_of n)) n ≡ digits_of n
    more n l less =
        let q : length (digits_of n) - 1 ≡ length (digits_of (n / 10)) = omega (arith, length_more n l) in
        last_more (length (digits_of n)) n (digits_some n) ∙ rw (q, less) (sym (digits_more n l))

-- the first digits are the last of the number without the rest of them
pub first_last : (n fits count : ℕ) → count ≡ length (digits_of n) → fits ≤ count
    → take fits (digits_of n) ≡ last_digits fits (n / 10 ^ (count - fits))
first_last n fits count e h =
    let q : length (digits_of n) ≡ fits + (count - fits) = omega arith in
    ap (λ (b : List ℕ). take fits b) (sym (digits_last n) ∙ ap (λ (m : ℕ). last_digits m n) q ∙ last_split fits (count - fits) n)
    ∙ take_at (last_digits fits (n / 10 ^ (count - fits))) (last_digits (count - fits) n) fits (length_last fits (n / 10 ^ (count - fits)))

-- ---- signs
pub decimal_negative : (z : ℤ) → is_negative z ≡ true → decimal z ≡ (45 ∷ []) ++ digits_of (nat_abs z)
unfolding decimal
decimal_negative (pos n) h = let z : ◌≡◌ {A = ℕ} 0 1 = cc in absurd (omega arith)
decimal_negative (negsuc n) h = refl

pub decimal_positive : (z : ℤ) → is_negative z ≡ false → decimal z ≡ digits_of (nat_abs z)
unfolding decimal
decimal_positive (pos n) h = refl
decimal_positive (negsuc n) h = let z : ◌≡◌ {A = ℕ} 0 1 = cc in absurd (omega arith)

pub decimal_some : (z : ℤ) → 1 ≤ length (decimal z)
unfolding decimal
decimal_some (pos n) = digits_some n
decimal_some (negsuc n) = omega (arith, digits_some (suc n))

-- of k + 1 digits, at most these and a minus
decimal_of : (z : ℤ) (k : ℕ) → nat_abs z < 10 ^ suc k → length (decimal z) ≤ suc (suc k)
unfolding decimal
decimal_of (pos n) k h = omega (arith, digits_short n k h)
decimal_of (negsuc n) k h = omega (arith, digits_short (suc n) k h)

-- ten digits are enough for numbers of 32 bits and for their sums
pub decimal_near : (z : ℤ) → nat_abs z ≤ 2 ^ 32 → length (decimal z) ≤ 11
decimal_near z h = decimal_of z 9 (omega arith)

pub decimal_short : (z : ℤ) → SFits w32 z → length (decimal z) ≤ 11
decimal_short (pos n) f = let h : n < 2 ^ 31 = f.sfits in decimal_near (pos n) (omega arith)
decimal_short (negsuc n) f = let h : n < 2 ^ 31 = f.sfits in decimal_near (negsuc n) (omega arith)

-- nineteen for 64
pub decimal_limit : (z : ℤ) → SFits w64 z → length (decimal z) ≤ 20
decimal_limit (pos n) f = let h : n < 2 ^ 63 = f.sfits in decimal_of (pos n) 18 (omega arith)
decimal_limit (negsuc n) f = let h : n < 2 ^ 63 = f.sfits in decimal_of (negsuc n) 18 (omega arith)
