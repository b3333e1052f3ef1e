-- Each name token of a program is a name, and each string token a letter with letters and digits.
use Prim.Native.Nat.{ℕ, zero, suc, ◌-◌}
use native.Mathlib.Omega.{arith}
use mathlib.Core.Path.{◌≡◌, refl, ap, subst}
use mathlib.Core.Bool.{Bool, true, false, and-eq-true_iff}
use mathlib.Core.List.{List, [], ◌∷◌}
use lib.ListN.{get_or, take}
use Rattle.meaning.specs.Basics.{if◌then◌otherwise◌, stands_in, span}
use Rattle.meaning.specs.Byte.{is_space, is_letter, is_name_part, is_quote, is_sign}
use Rattle.meaning.specs.Token.{Token, a_name, a_string, Front, found, nothing, front, Lexed, lexed, stray, prepend, starting, scan, tokens_of}
use Rattle.meaning.specs.Grammar.{after_last}
use Rattle.roundtrip.proofs.Scanning.{AllPass}
use Rattle.roundtrip.proofs.Sound.{Spelled, Named}

-- what a kind says of a text
pub record Spelt (k : ℕ) (w : List ℕ) : Type 0 where
  pub as_name : k ≡ a_name → Named w
  pub as_string : k ≡ a_string → Spelled w

abbrev SpeltFront : Front → Type 0
SpeltFront (found k n w) = Spelt k w
SpeltFront nothing = Unit {0}

-- a choice between two
spelt_if : (b : Bool) (t u : Unit {0} → Front) → (b ≡ true → SpeltFront (t tt)) → (b ≡ false → SpeltFront (u tt)) → SpeltFront (if b then t otherwise u)
unfolding if◌then◌otherwise◌
spelt_if true t u p q = p refl
spelt_if false t u p q = q refl

-- ---- the token at the front
-- a run passes its test
span_pass : (f : ℕ → Bool) (l : List ℕ) → AllPass f (take (span f l) l)
unfolding span if◌then◌otherwise◌
span_pass f [] = tt
span_pass f (x ∷ xs) = by (f x) refl (span_pass f xs)
  where
    by : (t : Bool) → f x ≡ t → AllPass f (take (span f xs) xs) → AllPass f (take (if t then (λ _. suc (span f xs)) otherwise λ _. 0) (x ∷ xs))
    by true e h = (e, h)
    by false e h = tt

-- a letter and what follows it
spelled_front : (l : List ℕ) → is_letter (get_or l 0 0) ≡ true → Spelled (take (span is_name_part l) l)
unfolding span if◌then◌otherwise◌ is_name_part is_letter
spelled_front [] e = let z : ◌≡◌ {A = Bool} false true = e in let w : ◌≡◌ {A = ℕ} 0 1 = cc in absurd (omega arith)
spelled_front (b ∷ bs) e = record { letter = first_letter; parts = span_pass is_name_part (b ∷ bs) }
  where
    first_letter : is_letter (get_or (take (span is_name_part (b ∷ bs)) (b ∷ bs)) 0 0) ≡ true
    first_letter = let k : is_letter b ≡ true = e in rw k k

-- a token of another kind
no_kind : {k : ℕ} {w : List ℕ} → (k ≡ 1 → ⊥) → (k ≡ 3 → ⊥) → Spelt k w
no_kind a b = record { as_name = λ e. absurd (a e); as_string = λ e. absurd (b e) }

-- a sign is of another kind
sign_kind : (b k : ℕ) → is_sign b ≡ true → is_sign k ≡ false → b ≡ k → ⊥
sign_kind b k e n q = let z : is_sign b ≡ is_sign k = ap is_sign q in let w : ◌≡◌ {A = Bool} true false = cc in let v : ◌≡◌ {A = ℕ} 0 1 = cc in omega arith

-- the token at the front
front_spelt : (bs : List ℕ) → SpeltFront (front bs)
unfolding front is_sign stands_in
front_spelt [] = tt
front_spelt (b ∷ bs) =
    spelt_if _ _ _ (λ e. let s = spelled_front (b ∷ bs) e in record { as_name = λ k. record { spelled = s; kind = k }; as_string = λ _. s })
    λ _. spelt_if _ _ _ (λ _. no_kind (λ e. omega arith) (λ e. omega arith))
    λ _. spelt_if _ _ _ (λ _. spelt_if _ _ _ (λ e. record {
      as_name = λ k. absurd (omega arith);
      as_string = λ _. spelled_front bs ((and-eq-true_iff (is_letter (get_or bs 0 0)) (is_quote (get_or bs (span is_name_part bs) 0))).0 e).0;
    }) (λ _. tt))
    λ _. spelt_if _ _ _ (λ s. spelt_if _ _ _ (λ _. no_kind (λ e. omega arith) (λ e. omega arith))
    λ _. spelt_if _ _ _ (λ _. tt) (λ _. no_kind (sign_kind b 1 s refl) (sign_kind b 3 s refl)))
    (λ _. tt)

-- ---- all tokens
pub data AllSpelt : List Token → Type 0 where
  none : AllSpelt []
  more : {t : Token} {ts : List Token} → Spelt t.kind t.text → AllSpelt ts → AllSpelt (t ∷ ts)

-- each token, and what stands behind the last
spelt_at : {ts : List Token} → AllSpelt ts → (i : ℕ) → Spelt (get_or ts i after_last).kind (get_or ts i after_last).text
spelt_at none i = no_kind (λ e. omega arith) (λ e. omega arith)
spelt_at (more p ps) zero = p
spelt_at (more p ps) (suc i) = spelt_at ps i

abbrev LexedSpelt : Lexed → Type 0
LexedSpelt (lexed ts) = AllSpelt ts
LexedSpelt (stray p) = Unit {0}

-- one more token
prepend_spelt : (t : Token) (l : Lexed) → Spelt t.kind t.text → LexedSpelt l → LexedSpelt (prepend t l)
unfolding prepend
prepend_spelt t (lexed ts) h k = more h k
prepend_spelt t (stray p) h k = tt

-- a token and what follows
starting_spelt : (f : Front) (at : ℕ) (rest : ℕ → Lexed) → SpeltFront f → ((k : ℕ) → LexedSpelt (rest k)) → LexedSpelt (starting f at rest)
unfolding starting
starting_spelt (found k n w) at rest h r = prepend_spelt _ (rest (n - 1)) h (r (n - 1))
starting_spelt nothing at rest h r = tt

-- all that is scanned
scan_spelt : (bs : List ℕ) (k at : ℕ) → LexedSpelt (scan k at bs)
unfolding scan if◌then◌otherwise◌
scan_spelt [] k at = none
scan_spelt (b ∷ bs) (suc k) at = scan_spelt bs k (suc at)
scan_spelt (b ∷ bs) zero at = by (is_space b) (λ k. scan_spelt bs k (suc at))
  where
    by : (t : Bool) → ((k : ℕ) → LexedSpelt (scan k (suc at) bs)) →
        LexedSpelt (if t then (λ _. scan 0 (suc at) bs) otherwise λ _. starting (front (b ∷ bs)) at (λ k. scan k (suc at) bs))
    by true r = r 0
    by false r = starting_spelt (front (b ∷ bs)) at _ (front_spelt (b ∷ bs)) r

-- THE TOKENS OF A PROGRAM
pub tokens_spelt : (program : List ℕ) (ts : List Token) → tokens_of program ≡ lexed ts → (i : ℕ) → Spelt (get_or ts i after_last).kind (get_or ts i after_last).text
unfolding tokens_of
tokens_spelt program ts e = spelt_at (subst LexedSpelt e (scan_spelt program 0 0))
