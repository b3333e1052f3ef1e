-- Bytes put together have no more tokens than both have apart.
use Prim.Native.Nat.{ℕ, zero, suc, ◌+◌, ◌-◌, ◌≤◌, ◌<◌}
use native.Mathlib.Omega.{arith}
use mathlib.Core.Path.{◌≡◌, refl, ap, sym, ◌∙◌, subst}
use mathlib.Core.Bool.{Bool, true, false, ◌&&◌, ◌||◌, cond, and-eq-true_iff}
use mathlib.Core.List.{List, [], ◌∷◌, ◌++◌}
use mathlib.Core.Option.{Option, none, some}
use lib.ListN.{length, get_or, get_or-append}
use lib.Dec.{eqb, ltb}
use borrow.Author.Tests.{eqb-true, ltb-true, ltb-false}
use Rattle.meaning.specs.Basics.{bytes, if◌then◌otherwise◌, stands_in, span}
use Rattle.meaning.specs.Byte.{is_space, is_letter, is_digit, is_name_part, is_quote}
use Rattle.meaning.specs.Token.{is_double, front}
use Rattle.roundtrip.proofs.Scanning.{Lone, letter_no_space, digit_no_space}
use Rattle.roundtrip.proofs.LexesTree.{lone, signs}
use Rattle.roundtrip.proofs.Weights.{sized, weigh_at, weigh, CleanAt, Clean, Class, letter, digit, quote, sign, other, classify}
use Rattle.roundtrip.proofs.Weights.{string_size, sign_size, sized_letter, sized_digit, sized_quote, sized_sign, sized_other}
use Rattle.roundtrip.proofs.Separating.{stop_end, quote_inside, size_bound}

-- ---- without the rest of a name, or of digits
weigh_token : (b : ℕ) (v : List ℕ) (n : ℕ) → is_space b ≡ false → sized (front (b ∷ v)) ≡ some (suc n) → weigh 0 (b ∷ v) ≡ suc (weigh n v)
unfolding weigh weigh_at
weigh_token b v n s e = rw (s, e) (ap (λ (k : ℕ). suc (weigh k v)) (omega arith))

-- a name is a token
weigh_letter : (b : ℕ) (v : List ℕ) → is_letter b ≡ true → weigh 0 (b ∷ v) ≡ suc (weigh (span is_name_part v) v)
weigh_letter b v l = weigh_token b v (span is_name_part v) (letter_no_space b l) (sized_letter b v l)

-- digits are a token
weigh_digit : (b : ℕ) (v : List ℕ) → is_digit b ≡ true → weigh 0 (b ∷ v) ≡ suc (weigh (span is_digit v) v)
weigh_digit b v d = weigh_token b v (span is_digit v) (digit_no_space b d) (sized_digit b v d)

-- behind digits a name may go on
parts_after_digits : (v : List ℕ) → weigh (span is_name_part v) v ≤ weigh (span is_digit v) v
unfolding span if◌then◌otherwise◌ is_name_part weigh
parts_after_digits [] = omega arith
parts_after_digits (b ∷ v) = by (is_letter b) refl (is_digit b) refl (parts_after_digits v)
  where
    by : (l : Bool) → is_letter b ≡ l → (d : Bool) → is_digit b ≡ d → weigh (span is_name_part v) v ≤ weigh (span is_digit v) v →
        weigh (if l || d then (λ _. suc (span is_name_part v)) otherwise λ _. 0) (b ∷ v) ≤ weigh (if d then (λ _. suc (span is_digit v)) otherwise λ _. 0) (b ∷ v)
    by true l true d h = h
    by true l false d h = omega (arith, weigh_letter b v l)
    by false l true d h = h
    by false l false d h = omega arith

-- the rest of a name takes no token with it
parts_fewer : (v : List ℕ) → weigh (span is_name_part v) v ≤ weigh 0 v
unfolding span if◌then◌otherwise◌ is_name_part weigh
parts_fewer [] = omega arith
parts_fewer (b ∷ v) = by (is_letter b) refl (is_digit b) refl
  where
    by : (l : Bool) → is_letter b ≡ l → (d : Bool) → is_digit b ≡ d → weigh (if l || d then (λ _. suc (span is_name_part v)) otherwise λ _. 0) (b ∷ v) ≤ weigh 0 (b ∷ v)
    by true l d e = omega (arith, weigh_letter b v l)
    by false l true e = omega (arith, weigh_digit b v e, parts_after_digits v)
    by false l false e = omega arith

-- nor does the rest of digits
digits_fewer : (v : List ℕ) → weigh (span is_digit v) v ≤ weigh 0 v
unfolding span if◌then◌otherwise◌ weigh
digits_fewer [] = omega arith
digits_fewer (b ∷ v) = by (is_digit b) refl
  where
    by : (d : Bool) → is_digit b ≡ d → weigh (if d then (λ _. suc (span is_digit v)) otherwise λ _. 0) (b ∷ v) ≤ weigh 0 (b ∷ v)
    by true e = omega (arith, weigh_digit b v e)
    by false e = omega arith

-- ---- without the first of some signs
-- one of + > < = is a sign of one byte, or of two that are the same
lone_of : (c : ℕ) → stands_in c (bytes "+><=") ≡ true → Lone c
unfolding signs
lone_of c e = by (eqb c 43) refl (eqb c 62) refl (eqb c 60) refl (eqb c 61) refl e
  where
    at : (d : ℕ) → eqb c d ≡ true → Lone d → Lone c
    at d k h = subst Lone (sym (eqb-true c d k)) h

    by : (p : Bool) → eqb c 43 ≡ p → (q : Bool) → eqb c 62 ≡ q → (r : Bool) → eqb c 60 ≡ r → (s : Bool) → eqb c 61 ≡ s → p || (q || (r || (s || false))) ≡ true → Lone c
    by true k q l r m s n e = at 43 k (lone 43 refl)
    by false k true l r m s n e = at 62 l (lone 62 refl)
    by false k false l true m s n e = at 60 m (lone 60 refl)
    by false k false l false m true n e = at 61 n (lone 61 refl)
    by false k false l false m false n e = let z : ◌≡◌ {A = ℕ} 0 1 = cc in absurd (omega arith)

-- a sign of one byte or of two
weigh_sign : (c : ℕ) (v : List ℕ) (t : Bool) → stands_in c (bytes "+><=") ≡ true → eqb c (get_or v 0 0) ≡ t → weigh 0 (c ∷ v) ≡ suc (weigh (cond t 1 0) v)
unfolding is_double
weigh_sign c v true s e =
    let h = lone_of c s in
    weigh_token c v 1 h.space (sized_sign c v h.letter h.digit h.quote h.sign ∙ rw (e, s))
weigh_sign c v false s e =
    let h = lone_of c s in
    weigh_token c v 0 h.space (sized_sign c v h.letter h.digit h.quote h.sign ∙ rw (e, h.bang))

-- no bytes are no token
weigh_none : (k : ℕ) → weigh k [] ≡ 0
unfolding weigh
weigh_none k = refl

-- a byte of a token that began before
weigh_next : (k b : ℕ) (v : List ℕ) → weigh (suc k) (b ∷ v) ≡ weigh k v
unfolding weigh
weigh_next k b v = refl

-- a sign takes no token away, and is at most one
runs : (c : ℕ) → stands_in c (bytes "+><=") ≡ true → (v : List ℕ) → (weigh 0 v ≤ weigh 0 (c ∷ v)) × (weigh 0 (c ∷ v) ≤ suc (weigh 0 v))
runs c s [] = by (eqb c 0) refl
  where
    by : (t : Bool) → eqb c 0 ≡ t → (weigh 0 [] ≤ weigh 0 (c ∷ [])) × (weigh 0 (c ∷ []) ≤ suc (weigh 0 []))
    by t e =
        let k = weigh_sign c [] t s e in
        let a = weigh_none 0 in
        let b = weigh_none (cond t 1 0) in
        (omega arith, omega arith)
runs c s (d ∷ v) = by (eqb c d) refl (runs c s v)
  where
    by : (t : Bool) → eqb c d ≡ t → (weigh 0 v ≤ weigh 0 (c ∷ v)) × (weigh 0 (c ∷ v) ≤ suc (weigh 0 v)) →
        (weigh 0 (d ∷ v) ≤ weigh 0 (c ∷ d ∷ v)) × (weigh 0 (c ∷ d ∷ v) ≤ suc (weigh 0 (d ∷ v)))
    by true e h =
        let k = weigh_sign c (d ∷ v) true s e in
        let z : weigh 0 (d ∷ v) ≡ weigh 0 (c ∷ v) = ap (λ (x : ℕ). weigh 0 (x ∷ v)) (sym (eqb-true c d e)) in
        let p = h.0 in
        let q = h.1 in
        let w = weigh_next 0 d v in
        (omega arith, omega arith)
    by false e h = let k = weigh_sign c (d ∷ v) false s e in (omega arith, omega arith)

-- a sign of two bytes has twice the same byte
double_parts : (x c : ℕ) → eqb x 33 ≡ false → is_double x c ≡ true → (eqb x c ≡ true) × (stands_in x (bytes "+><=") ≡ true)
unfolding is_double
double_parts x c b e = by (eqb x c) (stands_in x (bytes "+><=")) (eqb x 33) b e
  where
    by : (s t r : Bool) → r ≡ false → (s && t) || (r && eqb c 61) ≡ true → (s ≡ true) × (t ≡ true)
    by true true r k e = (refl, refl)
    by true false true k e = let z : ◌≡◌ {A = ℕ} 0 1 = cc in absurd (omega arith)
    by true false false k e = let z : ◌≡◌ {A = ℕ} 0 1 = cc in absurd (omega arith)
    by false t true k e = let z : ◌≡◌ {A = ℕ} 0 1 = cc in absurd (omega arith)
    by false t false k e = let z : ◌≡◌ {A = ℕ} 0 1 = cc in absurd (omega arith)

-- the second byte of a sign takes no token with it
double_fewer : (x : ℕ) (v : List ℕ) → eqb x 33 ≡ false → is_double x (get_or v 0 0) ≡ true → weigh 1 v ≤ weigh 0 v
double_fewer x [] b e = omega (arith, weigh_none 0, weigh_none 1)
double_fewer x (c ∷ v) b e =
    let p = double_parts x c b e in
    let s : stands_in c (bytes "+><=") ≡ true = subst (λ (d : ℕ). stands_in d (bytes "+><=") ≡ true) (eqb-true x c p.0) p.1 in
    omega (arith, (runs c s v).0, weigh_next 0 c v)

-- ---- the token at the front of bytes that more bytes stand behind
-- a run that ends before the end ends there
span_inside : (f : ℕ → Bool) (u v : List ℕ) → span f u < length u → span f (u ++ v) ≡ span f u
unfolding span if◌then◌otherwise◌
span_inside f [] v l = absurd (omega arith)
span_inside f (b ∷ u) v l = by (f b) (span_inside f u v) l
  where
    by : (t : Bool) → (span f u < length u → span f (u ++ v) ≡ span f u) → (if t then (λ _. suc (span f u)) otherwise λ _. 0) < suc (length u) →
        (if t then (λ _. suc (span f (u ++ v))) otherwise λ _. 0) ≡ (if t then (λ _. suc (span f u)) otherwise λ _. 0)
    by true h l = ap suc (h (omega arith))
    by false h l = refl

-- a run up to the end goes on
span_over : (f : ℕ → Bool) (u v : List ℕ) → length u ≤ span f u → span f (u ++ v) ≡ length u + span f v
unfolding span if◌then◌otherwise◌
span_over f [] v l = omega arith
span_over f (b ∷ u) v l = by (f b) (span_over f u v) l
  where
    by : (t : Bool) → (length u ≤ span f u → span f (u ++ v) ≡ length u + span f v) → suc (length u) ≤ (if t then (λ _. suc (span f u)) otherwise λ _. 0) →
        (if t then (λ _. suc (span f (u ++ v))) otherwise λ _. 0) ≡ suc (length u) + span f v
    by true h l = omega (arith, h (omega arith))
    by false h l = absurd (omega arith)

-- behind the first bytes
weigh_past : (u v : List ℕ) (n k : ℕ) → n ≡ length u + k → weigh n (u ++ v) ≡ weigh k v
unfolding weigh
weigh_past [] v n k e = ap (λ (m : ℕ). weigh m v) (omega arith)
weigh_past (b ∷ u) v zero k e = absurd (omega arith)
weigh_past (b ∷ u) v (suc n) k e = weigh_past u v n k (omega arith)

-- of the same size, or longer by bytes that are no more tokens without them
data Extended (x : ℕ) (u v : List ℕ) (n : ℕ) : Type 0 where
  same : sized (front (x ∷ (u ++ v))) ≡ some n → Extended x u v n
  longer : (m : ℕ) → sized (front (x ∷ (u ++ v))) ≡ some m → weigh (m - 1) (u ++ v) ≤ weigh 0 v → Extended x u v n

-- a run of name parts or digits
extended_run : (f : ℕ → Bool) (x : ℕ) (u v : List ℕ) (n : ℕ) → ((w : List ℕ) → sized (front (x ∷ w)) ≡ some (suc (span f w))) → weigh (span f v) v ≤ weigh 0 v →
    sized (front (x ∷ u)) ≡ some n → Extended x u v n
extended_run f x u v n h k e = by (ltb (span f u) (length u)) refl
  where
    by : (t : Bool) → ltb (span f u) (length u) ≡ t → Extended x u v n
    by true l =
        let z : suc (span f u) ≡ n = some_same (sym (h u) ∙ e) in
        same (h (u ++ v) ∙ ap (λ (m : ℕ). some (suc m)) (span_inside f u v (ltb-true (span f u) (length u) l)) ∙ ap (λ (m : ℕ). some m) z)
      where
        some_same : {a b : ℕ} → some a ≡ some b → a ≡ b
        some_same q = cc
    by false l =
        let s = span_over f u v (ltb-false (span f u) (length u) l) in
        longer (suc (span f (u ++ v))) (h (u ++ v)) (rw (weigh_past u v (suc (span f (u ++ v)) - 1) (span f v) (omega arith)) k)

-- the first byte
get_d_first : (u v : List ℕ) → 0 < length u → get_or (u ++ v) 0 0 ≡ get_or u 0 0
get_d_first [] v l = absurd (omega arith)
get_d_first (b ∷ u) v l = refl

-- a string ends where it did
string_same : (u v : List ℕ) (n : ℕ) → string_size u ≡ some n → string_size (u ++ v) ≡ some n
string_same u v n e = by (is_letter (get_or u 0 0) && is_quote (get_or u (span is_name_part u) 0)) refl e
  where
    by : (t : Bool) → is_letter (get_or u 0 0) && is_quote (get_or u (span is_name_part u) 0) ≡ t → cond t (some (span is_name_part u + 2)) none ≡ some n → string_size (u ++ v) ≡ some n
    by true k e =
        let l = quote_inside u (span is_name_part u) ((and-eq-true_iff (is_letter (get_or u 0 0)) (is_quote (get_or u (span is_name_part u) 0))).0 k).1 in
        rw (span_inside is_name_part u v l, get_d_first u v (omega arith), get_or-append u v 0 (span is_name_part u) l, k) e
    by false k e = let z : ◌≡◌ {A = ℕ} 0 1 = cc in absurd (omega arith)

-- a sign at the end may become one of two bytes
sign_extended : (x : ℕ) (u v : List ℕ) (n : ℕ) → ((w : List ℕ) → sized (front (x ∷ w)) ≡ sign_size x (get_or w 0 0)) → sign_size x (get_or u 0 0) ≡ some n → Extended x u v n
sign_extended x (b ∷ u) v n h e = same (h (b ∷ u ++ v) ∙ e)
sign_extended x [] v n h e = by (is_double x (get_or v 0 0)) refl (eqb x 33) refl
  where
    alone : (s : Bool) → eqb x 33 ≡ s → cond (is_double x 0) (some 2) (cond s none (some 1)) ≡ some n → (s ≡ false) × (n ≡ 1)
    alone true k e =
        let d = stop_end.no_second x in
        let w : none ≡ some n = rw d at e in
        let z : ◌≡◌ {A = ℕ} 0 1 = cc in
        absurd (omega arith)
    alone false k e =
        let d = stop_end.no_second x in
        let w : some 1 ≡ some n = rw d at e in
        (refl, cc)

    by : (t : Bool) → is_double x (get_or v 0 0) ≡ t → (s : Bool) → eqb x 33 ≡ s → Extended x [] v n
    by true d s k =
        let a = alone (eqb x 33) refl e in
        longer 2 (h v ∙ rw d) (double_fewer x v a.0 d)
    by false d s k =
        let a = alone (eqb x 33) refl e in
        same (h v ∙ rw (d, a.0, a.1))

-- the token at the front, whatever stands behind
extended : (x : ℕ) (u v : List ℕ) (n : ℕ) → sized (front (x ∷ u)) ≡ some n → Extended x u v n
extended x u v n e = by (classify x)
  where
    by : Class x → Extended x u v n
    by (letter l) = extended_run is_name_part x u v n (λ w. sized_letter x w l) (parts_fewer v) e
    by (digit l d) = extended_run is_digit x u v n (λ w. sized_digit x w d) (digits_fewer v) e
    by (quote l d q) = same (sized_quote x (u ++ v) l d q ∙ string_same u v n (sym (sized_quote x u l d q) ∙ e))
    by (sign l d q g) = sign_extended x u v n (λ w. sized_sign x w l d q g) (sym (sized_sign x u l d q g) ∙ e)
    by (other l d q g) = let k = sized_other x u l d q g in let z : ◌≡◌ {A = ℕ} 0 1 = cc in absurd (omega arith)

-- ---- bytes behind bytes
pub together : (v u : List ℕ) (k : ℕ) → k ≤ length u → Clean k u → weigh k (u ++ v) ≤ weigh k u + weigh 0 v
unfolding weigh weigh_at
together v [] (suc k) l c = absurd (omega arith)
together v [] zero l c = omega arith
together v (x ∷ u) (suc k) l c = together v u k (omega arith) c
together v (x ∷ u) zero l c = by (is_space x) (sized (front (x ∷ u))) refl c (together v u)
  where
    by : (t : Bool) (o : Option ℕ) → sized (front (x ∷ u)) ≡ o → CleanAt t o (Clean 0 u) (λ k. Clean k u) →
        ((k : ℕ) → k ≤ length u → Clean k u → weigh k (u ++ v) ≤ weigh k u + weigh 0 v) →
        weigh_at t (sized (front (x ∷ (u ++ v)))) (weigh 0 (u ++ v)) (λ k. weigh k (u ++ v)) ≤ weigh_at t o (weigh 0 u) (λ k. weigh k u) + weigh 0 v
    by true o e d f = f 0 (omega arith) d
    by false none e d f = absurd d
    by false (some n) e d f = also (extended x u v n e)
      where
        also : Extended x u v n → weigh_at false (sized (front (x ∷ (u ++ v)))) (weigh 0 (u ++ v)) (λ k. weigh k (u ++ v)) ≤ suc (weigh (n - 1) u) + weigh 0 v
        also (same k) = rw k (omega (arith, f (n - 1) (size_bound x u n e) d))
        also (longer m k w) = rw k (omega arith)
