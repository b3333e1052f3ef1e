-- How many tokens some bytes are, counted without the tokens; and what they are if bytes are taken away.
use Prim.Native.Nat.{ℕ, zero, suc, ◌+◌, ◌-◌}
use native.Mathlib.Omega.{arith}
use mathlib.Core.Path.{◌≡◌, refl, ap, sym}
use mathlib.Core.Bool.{Bool, true, false, ◌&&◌, cond}
use mathlib.Core.List.{List, [], ◌∷◌}
use mathlib.Core.Option.{Option, none, some}
use lib.ListN.{length, get_or, take}
use lib.Dec.{eqb}
use Rattle.meaning.specs.Basics.{if◌then◌otherwise◌, span}
use Rattle.meaning.specs.Byte.{is_space, is_letter, is_digit, is_name_part, is_quote, is_sign}
use Rattle.meaning.specs.Token.{Token, Front, found, nothing, found_string, found_sign, is_double, front, Lexed, lexed, stray, prepend, starting, scan}
use Rattle.roundtrip.proofs.Scanning.{digit_no_letter}

-- how many bytes the token at the front has
unfoldable pub sized : Front → Option ℕ
sized (found k n w) = some n
sized nothing = none

-- ---- weights
-- a space; a byte that begins no token; a token of n bytes
unfoldable pub weigh_at : Bool → Option ℕ → ℕ → (ℕ → ℕ) → ℕ
weigh_at true o s t = s
weigh_at false none s t = suc s
weigh_at false (some n) s t = suc (t (n - 1))

-- the tokens of some bytes, of which the first k belong to a token that began before
unfoldable pub weigh : ℕ → List ℕ → ℕ
unfolding weigh_at
weigh k [] = 0
weigh (suc k) (b ∷ bs) = weigh k bs
weigh zero (b ∷ bs) = weigh_at (is_space b) (sized (front (b ∷ bs))) (weigh 0 bs) (λ k. weigh k bs)

-- a token begins at each byte that is no white space and no part of a token
abbrev pub CleanAt : Bool → Option ℕ → Type 0 → (ℕ → Type 0) → Type 0
CleanAt true o s t = s
CleanAt false none s t = ⊥
CleanAt false (some n) s t = t (n - 1)

abbrev pub Clean : ℕ → List ℕ → Type 0
Clean k [] = Unit {0}
Clean (suc k) (b ∷ bs) = Clean k bs
Clean zero (b ∷ bs) = CleanAt (is_space b) (sized (front (b ∷ bs))) (Clean 0 bs) (λ k. Clean k bs)

-- ---- of bytes that were scanned
-- one token more
prepended : (t : Token) (l : Lexed) (ts : List Token) → prepend t l ≡ lexed ts → (us : List Token) × (l ≡ lexed us) × (length ts ≡ suc (length us))
unfolding prepend
prepended t (lexed us) ts e = (us, refl, ap length (inside e))
  where
    inside : lexed (t ∷ us) ≡ lexed ts → ts ≡ t ∷ us
    inside e = cc
prepended t (stray p) ts e = let z : ◌≡◌ {A = ℕ} 0 1 = cc in absurd (omega arith)

-- scanned bytes are clean, and weigh their tokens
pub weighed : (bs : List ℕ) (k at : ℕ) (ts : List Token) → scan k at bs ≡ lexed ts → Clean k bs × (weigh k bs ≡ length ts)
unfolding scan starting weigh weigh_at if◌then◌otherwise◌ sized
weighed [] k at ts e = (tt, empty e)
  where
    empty : lexed [] ≡ lexed ts → 0 ≡ length ts
    empty e = let z : ts ≡ [] = cc in ap length (sym z)
weighed (b ∷ bs) (suc k) at ts e = weighed bs k (suc at) ts e
weighed (b ∷ bs) zero at ts e = by (is_space b) (front (b ∷ bs)) e (λ k us h. weighed bs k (suc at) us h)
  where
    by : (t : Bool) (f : Front) → (if t then (λ _. scan 0 (suc at) bs) otherwise λ _. starting f at (λ k. scan k (suc at) bs)) ≡ lexed ts →
        ((k : ℕ) (us : List Token) → scan k (suc at) bs ≡ lexed us → Clean k bs × (weigh k bs ≡ length us)) →
        CleanAt t (sized f) (Clean 0 bs) (λ k. Clean k bs) × (weigh_at t (sized f) (weigh 0 bs) (λ k. weigh k bs) ≡ length ts)
    by true f e r = r 0 ts e
    by false nothing e r = let z : ◌≡◌ {A = ℕ} 0 1 = cc in absurd (omega arith)
    by false (found k n w) e r =
        let p = prepended _ (scan (n - 1) (suc at) bs) ts e in
        let q = r (n - 1) p.0 p.1 in
        (q.0, omega (arith, q.1, p.2))

-- ---- the token at the front, by the class of its first byte
pub data Class (b : ℕ) : Type 0 where
  letter : is_letter b ≡ true → Class b
  digit : is_letter b ≡ false → is_digit b ≡ true → Class b
  quote : is_letter b ≡ false → is_digit b ≡ false → is_quote b ≡ true → Class b
  sign : is_letter b ≡ false → is_digit b ≡ false → is_quote b ≡ false → is_sign b ≡ true → Class b
  other : is_letter b ≡ false → is_digit b ≡ false → is_quote b ≡ false → is_sign b ≡ false → Class b

-- each byte is in one class
pub classify : (b : ℕ) → Class b
classify b = by (is_letter b) refl (is_digit b) refl (is_quote b) refl (is_sign b) refl
  where
    by : (l : Bool) → is_letter b ≡ l → (d : Bool) → is_digit b ≡ d → (q : Bool) → is_quote b ≡ q → (s : Bool) → is_sign b ≡ s → Class b
    by true l d e q f s g = letter l
    by false l true e q f s g = digit l e
    by false l false e true f s g = quote l e f
    by false l false e false f true g = sign l e f g
    by false l false e false f false g = other l e f g

-- a string's size, and a sign's
abbrev pub string_size : List ℕ → Option ℕ
string_size w = cond (is_letter (get_or w 0 0) && is_quote (get_or w (span is_name_part w) 0)) (some (span is_name_part w + 2)) none

-- a sign is of one byte or of two
abbrev pub sign_size : ℕ → ℕ → Option ℕ
sign_size b c = cond (is_double b c) (some 2) (cond (eqb b 33) none (some 1))

-- that is the size of a string
string_sized : (w : List ℕ) → sized (found_string w) ≡ string_size w
unfolding sized if◌then◌otherwise◌
string_sized w = by (is_letter (get_or w 0 0) && is_quote (get_or w (span is_name_part w) 0))
  where
    by : (t : Bool) → sized (if t then (λ _. found 3 (span is_name_part w + 2) (take (span is_name_part w) w)) otherwise λ _. nothing) ≡ cond t (some (span is_name_part w + 2)) none
    by true = refl
    by false = refl

-- and of a sign
sign_sized : (b c : ℕ) → sized (found_sign b c) ≡ sign_size b c
unfolding sized if◌then◌otherwise◌
sign_sized b c = by (is_double b c) (eqb b 33)
  where
    by : (s t : Bool) → sized (if s then (λ _. found (b + 128) 2 (b ∷ c ∷ [])) otherwise λ _. if t then (λ _. nothing) otherwise λ _. found b 1 (b ∷ [])) ≡ cond s (some 2) (cond t none (some 1))
    by true t = refl
    by false true = refl
    by false false = refl

-- a letter is a name part
pub part_letter : (b : ℕ) → is_letter b ≡ true → is_name_part b ≡ true
unfolding is_name_part
part_letter b e = rw e

-- a digit is a name part
pub part_digit : (b : ℕ) → is_digit b ≡ true → is_name_part b ≡ true
unfolding is_name_part
part_digit b e = rw (digit_no_letter b e, e)

-- a name or a reserved word
pub sized_letter : (b : ℕ) (bs : List ℕ) → is_letter b ≡ true → sized (front (b ∷ bs)) ≡ some (suc (span is_name_part bs))
unfolding front sized if◌then◌otherwise◌ span
sized_letter b bs l = rw (l, part_letter b l)

-- digits
pub sized_digit : (b : ℕ) (bs : List ℕ) → is_digit b ≡ true → sized (front (b ∷ bs)) ≡ some (suc (span is_digit bs))
unfolding front sized if◌then◌otherwise◌ span
sized_digit b bs d = rw (digit_no_letter b d, d)

-- a string
pub sized_quote : (b : ℕ) (bs : List ℕ) → is_letter b ≡ false → is_digit b ≡ false → is_quote b ≡ true → sized (front (b ∷ bs)) ≡ string_size bs
unfolding front if◌then◌otherwise◌
sized_quote b bs l d q = rw (l, d, q) (string_sized bs)

-- a sign
pub sized_sign : (b : ℕ) (bs : List ℕ) → is_letter b ≡ false → is_digit b ≡ false → is_quote b ≡ false → is_sign b ≡ true → sized (front (b ∷ bs)) ≡ sign_size b (get_or bs 0 0)
unfolding front if◌then◌otherwise◌
sized_sign b bs l d q s = rw (l, d, q, s) (sign_sized b (get_or bs 0 0))

-- no token
pub sized_other : (b : ℕ) (bs : List ℕ) → is_letter b ≡ false → is_digit b ≡ false → is_quote b ≡ false → is_sign b ≡ false → sized (front (b ∷ bs)) ≡ none
unfolding front sized if◌then◌otherwise◌
sized_other b bs l d q s = rw (l, d, q, s)
