-- A parenthesis separates tokens: bytes with one between them have the tokens of both and one more.
use Prim.Native.Nat.{ℕ, zero, suc, ◌+◌, ◌-◌, ◌≤◌, ◌<◌}
use native.Mathlib.Omega.{arith}
use mathlib.Core.Path.{◌≡◌, refl, ap, sym, ◌∙◌}
use mathlib.Core.Bool.{Bool, true, false, ◌&&◌, ◌||◌, cond, and-eq-true_iff}
use mathlib.Core.List.{List, [], ◌∷◌, ◌++◌}
use mathlib.Core.Option.{Option, none, some}
use lib.ListN.{length, get_or}
use lib.Dec.{eqb}
use borrow.Author.Tests.{eqb-true}
use Rattle.meaning.specs.Basics.{bytes, if◌then◌otherwise◌, stands_in, span}
use Rattle.meaning.specs.Byte.{is_space, is_letter, is_digit, is_name_part, is_quote}
use Rattle.meaning.specs.Token.{is_double, front}
use Rattle.roundtrip.proofs.LexesTree.{signs}
use Rattle.roundtrip.proofs.Weights.{sized, weigh_at, weigh, CleanAt, Clean, Class, letter, digit, quote, sign, other, classify}
use Rattle.roundtrip.proofs.Weights.{string_size, sign_size, sized_letter, sized_digit, sized_quote, sized_sign, sized_other}

-- ---- spans
-- a run ends where a byte stops it
pub span_stop : (f : ℕ → Bool) (u v : List ℕ) → f (get_or v 0 0) ≡ false → span f (u ++ v) ≡ span f u
unfolding span if◌then◌otherwise◌
span_stop f [] [] e = refl
span_stop f [] (c ∷ v) e = rw e
span_stop f (b ∷ u) v e = rw (span_stop f u v e)

-- a run is no longer than its bytes
pub span_le : (f : ℕ → Bool) (u : List ℕ) → span f u ≤ length u
unfolding span if◌then◌otherwise◌
span_le f [] = omega arith
span_le f (b ∷ u) = by (f b) (span_le f u)
  where
    by : (t : Bool) → span f u ≤ length u → (if t then (λ _. suc (span f u)) otherwise λ _. 0) ≤ suc (length u)
    by true h = omega arith
    by false h = omega arith

-- ---- bytes that nothing goes on with
-- no sign of two bytes ends with it
pub never_second : (c : ℕ) → stands_in c (bytes "+><=") ≡ false → eqb c 61 ≡ false → (x : ℕ) → is_double x c ≡ false
unfolding is_double
never_second c s e x = by (eqb x c) refl (eqb x 33)
  where
    by : (t : Bool) → eqb x c ≡ t → (r : Bool) → (t && stands_in x (bytes "+><=")) || (r && eqb c 61) ≡ false
    by true k true = rw (eqb-true x c k, s, e)
    by true k false = rw (eqb-true x c k, s)
    by false k true = e
    by false k false = refl

pub record Stop (c : ℕ) : Type 0 where
  pub no_part : is_name_part c ≡ false
  pub no_letter : is_letter c ≡ false
  pub no_digit : is_digit c ≡ false
  pub no_quote : is_quote c ≡ false
  pub no_second : (x : ℕ) → is_double x c ≡ false

-- the end is one, and so are the parentheses
pub stop_end : Stop 0
unfolding signs
stop_end = record { no_part = refl; no_letter = refl; no_digit = refl; no_quote = refl; no_second = never_second 0 refl refl }

-- an opening parenthesis
pub stop_open : Stop 40
unfolding signs
stop_open = record { no_part = refl; no_letter = refl; no_digit = refl; no_quote = refl; no_second = never_second 40 refl refl }

-- a closing parenthesis
pub stop_close : Stop 41
unfolding signs
stop_close = record { no_part = refl; no_letter = refl; no_digit = refl; no_quote = refl; no_second = never_second 41 refl refl }

-- ---- the token at the front is the same
-- no quote comes of what stands behind
quote_stop : (u v : List ℕ) (n : ℕ) → n ≤ length u → is_quote (get_or v 0 0) ≡ false → is_quote (get_or (u ++ v) n 0) ≡ is_quote (get_or u n 0)
unfolding is_quote
quote_stop [] v zero l e = e
quote_stop [] v (suc n) l e = absurd (omega arith)
quote_stop (b ∷ u) v zero l e = refl
quote_stop (b ∷ u) v (suc n) l e = quote_stop u v n (omega arith) e

-- no letter
letter_stop : (u v : List ℕ) → is_letter (get_or v 0 0) ≡ false → is_letter (get_or (u ++ v) 0 0) ≡ is_letter (get_or u 0 0)
unfolding is_letter
letter_stop [] v e = e
letter_stop (b ∷ u) v e = refl

-- no second byte of a sign
double_stop : (x : ℕ) (u v : List ℕ) → is_double x (get_or v 0 0) ≡ false → is_double x (get_or (u ++ v) 0 0) ≡ is_double x (get_or u 0 0)
double_stop x [] v e = e ∙ sym (stop_end.no_second x)
double_stop x (b ∷ u) v e = refl

-- no string
string_stop : (u v : List ℕ) → Stop (get_or v 0 0) → string_size (u ++ v) ≡ string_size u
string_stop u v s =
    rw (span_stop is_name_part u v s.no_part, letter_stop u v s.no_letter, quote_stop u v (span is_name_part u) (span_le is_name_part u) s.no_quote)

-- no longer sign
sign_stop : (x : ℕ) (u v : List ℕ) → Stop (get_or v 0 0) → sign_size x (get_or (u ++ v) 0 0) ≡ sign_size x (get_or u 0 0)
sign_stop x u v s = rw (double_stop x u v (s.no_second x))

-- nothing else
sized_stop : (x : ℕ) (u v : List ℕ) → Stop (get_or v 0 0) → sized (front (x ∷ (u ++ v))) ≡ sized (front (x ∷ u))
sized_stop x u v s = by (classify x)
  where
    by : Class x → sized (front (x ∷ (u ++ v))) ≡ sized (front (x ∷ u))
    by (letter l) = sized_letter x (u ++ v) l ∙ ap (λ (n : ℕ). some (suc n)) (span_stop is_name_part u v s.no_part) ∙ sym (sized_letter x u l)
    by (digit l d) = sized_digit x (u ++ v) d ∙ ap (λ (n : ℕ). some (suc n)) (span_stop is_digit u v s.no_digit) ∙ sym (sized_digit x u d)
    by (quote l d q) = sized_quote x (u ++ v) l d q ∙ string_stop u v s ∙ sym (sized_quote x u l d q)
    by (sign l d q g) = sized_sign x (u ++ v) l d q g ∙ sign_stop x u v s ∙ sym (sized_sign x u l d q g)
    by (other l d q g) = sized_other x (u ++ v) l d q g ∙ sym (sized_other x u l d q g)

-- ---- and it ends within its bytes
-- a quote is one of the bytes
pub quote_inside : (u : List ℕ) (n : ℕ) → is_quote (get_or u n 0) ≡ true → n < length u
unfolding is_quote
quote_inside [] n e = let z : ◌≡◌ {A = Bool} false true = e in let w : ◌≡◌ {A = ℕ} 0 1 = cc in absurd (omega arith)
quote_inside (b ∷ u) zero e = omega arith
quote_inside (b ∷ u) (suc n) e = omega (arith, quote_inside u n e)

-- every token
pub size_bound : (x : ℕ) (u : List ℕ) (n : ℕ) → sized (front (x ∷ u)) ≡ some n → n - 1 ≤ length u
size_bound x u n e = by (classify x)
  where
    within : (m : ℕ) → sized (front (x ∷ u)) ≡ some m → m - 1 ≤ length u → n - 1 ≤ length u
    within m k l = let z : m ≡ n = cc in omega arith

    string : (t : Bool) → is_letter (get_or u 0 0) && is_quote (get_or u (span is_name_part u) 0) ≡ t → cond t (some (span is_name_part u + 2)) none ≡ some n → n - 1 ≤ length u
    string true k w =
        let z : span is_name_part u + 2 ≡ n = cc in
        omega (arith, quote_inside u (span is_name_part u) ((and-eq-true_iff (is_letter (get_or u 0 0)) (is_quote (get_or u (span is_name_part u) 0))).0 k).1)
    string false k w = let z : ◌≡◌ {A = ℕ} 0 1 = cc in absurd (omega arith)

    nonempty : (u : List ℕ) → is_double x (get_or u 0 0) ≡ true → 1 ≤ length u
    nonempty [] k = let z : ◌≡◌ {A = Bool} false true = sym (stop_end.no_second x) ∙ k in let w : ◌≡◌ {A = ℕ} 0 1 = cc in absurd (omega arith)
    nonempty (b ∷ u) k = omega arith

    signed : (t : Bool) → is_double x (get_or u 0 0) ≡ t → (s : Bool) → cond t (some 2) (cond s none (some 1)) ≡ some n → n - 1 ≤ length u
    signed true k s w = let z : 2 ≡ n = cc in omega (arith, nonempty u k)
    signed false k true w = let z : ◌≡◌ {A = ℕ} 0 1 = cc in absurd (omega arith)
    signed false k false w = let z : 1 ≡ n = cc in omega arith

    by : Class x → n - 1 ≤ length u
    by (letter l) = within _ (sized_letter x u l) (omega (arith, span_le is_name_part u))
    by (digit l d) = within _ (sized_digit x u d) (omega (arith, span_le is_digit u))
    by (quote l d q) = string (is_letter (get_or u 0 0) && is_quote (get_or u (span is_name_part u) 0)) refl (sym (sized_quote x u l d q) ∙ e)
    by (sign l d q g) = signed (is_double x (get_or u 0 0)) refl (eqb x 33) (sym (sized_sign x u l d q g) ∙ e)
    by (other l d q g) = let k = sized_other x u l d q g in let z : ◌≡◌ {A = ℕ} 0 1 = cc in absurd (omega arith)

-- ---- bytes, a separator and bytes
pub separated : (s : ℕ) (b : List ℕ) → Stop s → is_space s ≡ false → sized (front (s ∷ b)) ≡ some 1 → (a : List ℕ) (k : ℕ) → k ≤ length a →
    Clean k (a ++ s ∷ b) → Clean k a × Clean 0 b × (weigh k (a ++ s ∷ b) ≡ weigh k a + suc (weigh 0 b))
unfolding weigh weigh_at
separated s b p q r [] (suc k) l c = absurd (omega arith)
separated s b p q r [] zero l c =
    let d : CleanAt false (some 1) (Clean 0 b) (λ k. Clean k b) = rw (q, r) at c in
    (tt, d, rw (q, r) (omega arith))
separated s b p q r (x ∷ a) (suc k) l c = separated s b p q r a k (omega arith) c
separated s b p q r (x ∷ a) zero l c =
    let e = sized_stop x a (s ∷ b) p in
    let d : CleanAt (is_space x) (sized (front (x ∷ a))) (Clean 0 (a ++ s ∷ b)) (λ k. Clean k (a ++ s ∷ b)) = rw e at c in
    rw e (by (is_space x) (sized (front (x ∷ a))) (size_bound x a) d (separated s b p q r a))
  where
    by : (t : Bool) (o : Option ℕ) → ((n : ℕ) → o ≡ some n → n - 1 ≤ length a) → CleanAt t o (Clean 0 (a ++ s ∷ b)) (λ k. Clean k (a ++ s ∷ b)) →
        ((k : ℕ) → k ≤ length a → Clean k (a ++ s ∷ b) → Clean k a × Clean 0 b × (weigh k (a ++ s ∷ b) ≡ weigh k a + suc (weigh 0 b))) →
        CleanAt t o (Clean 0 a) (λ k. Clean k a) × Clean 0 b ×
        (weigh_at t o (weigh 0 (a ++ s ∷ b)) (λ k. weigh k (a ++ s ∷ b)) ≡ weigh_at t o (weigh 0 a) (λ k. weigh k a) + suc (weigh 0 b))
    by true o n d f = f 0 (omega arith) d
    by false none n d f = absurd d
    by false (some m) n d f =
        let g = f (m - 1) (n m refl) d in
        (g.0, g.1, omega (arith, g.2))
