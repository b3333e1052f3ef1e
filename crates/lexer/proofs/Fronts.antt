-- The token at a place: by the class of its first byte, and as its word.
-- Assumes nothing.
use mathlib.Core.Path.{◌≡◌, ◌∙◌, refl, sym, ap}
use mathlib.Core.Bool.{Bool, true, false, ◌&&◌, ◌||◌}
use mathlib.Core.List.{List}
use Prim.Native.Nat.{ℕ, suc, ◌+◌, ◌-◌, ◌*◌, ◌≤◌, ◌<◌}
use native.Mathlib.Numerals.{add-one}
use native.Mathlib.Nat.{add-zero}
use native.Mathlib.Omega.{arith}
use borrow.Author.Tests.{eq-eqb, ne_eqb, eqb-true, eqb-false}
use lib.Dec.{eqb}
use lib.ListN.{length, get_or, take, drop, length-drop}
use lib.Seq.{drop-cons, get_or-drop}
use Rattle.meaning.specs.Basics.{bytes, if◌then◌otherwise◌, span, stands_in}
use Rattle.meaning.specs.Byte.{is_letter, is_digit, is_name_part, is_quote, is_sign, class_of}
use Rattle.meaning.specs.Token.{nothing, found_name, found_digits, found_string, found_sign, is_double, front, word_kind}
use Rattle.std.specs.declared.option.Option.TheVariants.{Some, None}
use Rattle.lexer.specs.Lexing.{from_class, front_word}
use Rattle.lexer.proofs.Classes.{is_letter_lem, is_digit_lem, is_quote_lem, is_sign_lem, name_part, digit_part}
use Rattle.lexer.proofs.Runs.{end_of, span_le, span_same}

-- ---- the runs
module _ (s : List ℕ) (at : ℕ) where
  pub end_fits : (least e : ℕ) → at ≤ length s → e ≡ end_of least s at → (at ≤ e) × (e ≤ length s)
  end_fits least e h q = omega (arith, span_le (from_class least) (drop at s), length-drop at s)

  name_size : (e : ℕ) → e ≡ end_of 2 s at → e - at ≡ span is_name_part (drop at s)
  name_size e q = omega (arith, span_same (from_class 2) is_name_part name_part (drop at s))

  digits_size : (e : ℕ) → e ≡ end_of 3 s at → e - at ≡ span is_digit (drop at s)
  digits_size e q = omega (arith, span_same (from_class 3) is_digit digit_part (drop at s))

  pub name_word : (e k r : ℕ) → e ≡ end_of 2 s at → k ≡ word_kind (take (e - at) (drop at s)) → r ≡ k + 256 * at + 16777216 * (e - at)
      → Some r ≡ front_word at (found_name (drop at s))
  unfolding front_word
  name_word e k r q hk hr = rw (hr, hk, name_size e q)

  pub digits_word : (e r : ℕ) → e ≡ end_of 3 s at → r ≡ 2 + 256 * at + 16777216 * (e - at) → Some r ≡ front_word at (found_digits (drop at s))
  unfolding front_word
  digits_word e r q hr = rw (hr, digits_size e q)

  -- ---- strings: i is the place behind the quote
  abbrev i : ℕ
  i = at + 1

  first : is_letter (get_or (drop i s) 0 0) ≡ eqb (class_of (get_or s i 0)) 2
  first = is_letter_lem (get_or (drop i s) 0 0) ∙ ap (λ (x : ℕ). eqb (class_of x) 2) (get_or-drop i s 0 0 ∙ ap (λ (n : ℕ). get_or s n 0) (add-zero i))

  last : (e : ℕ) → e ≡ end_of 2 s i → is_quote (get_or (drop i s) (span is_name_part (drop i s)) 0) ≡ eqb (class_of (get_or s e 0)) 4
  last e q =
      let m : i + span is_name_part (drop i s) ≡ e = omega (arith, span_same (from_class 2) is_name_part name_part (drop i s)) in
      is_quote_lem _ ∙ ap (λ (x : ℕ). eqb (class_of x) 4) (get_or-drop i s _ 0 ∙ ap (λ (n : ℕ). get_or s n 0) m)

  pub no_first : (c : ℕ) → c ≡ class_of (get_or s i 0) → (c ≡ 2 → ⊥) → None ≡ front_word at (found_string (drop i s))
  unfolding front_word if◌then◌otherwise◌
  no_first c hc n = rw (first, ← hc, ne_eqb c 2 n)

  pub no_last : (c e d : ℕ) → c ≡ class_of (get_or s i 0) → c ≡ 2 → e ≡ end_of 2 s i → d ≡ class_of (get_or s e 0) → (d ≡ 4 → ⊥)
      → None ≡ front_word at (found_string (drop i s))
  unfolding front_word if◌then◌otherwise◌
  no_last c e d hc h2 q hd n = rw (first, ← hc, h2, last e q, ← hd, ne_eqb d 4 n)

  pub string_word : (c e d r : ℕ) → c ≡ class_of (get_or s i 0) → c ≡ 2 → e ≡ end_of 2 s i → d ≡ class_of (get_or s e 0) → d ≡ 4
      → r ≡ 3 + 256 * at + 16777216 * (e + 1 - at) → Some r ≡ front_word at (found_string (drop i s))
  unfolding front_word if◌then◌otherwise◌
  string_word c e d r hc h2 q hd h4 hr =
      let m : e + 1 - at ≡ span is_name_part (drop i s) + 2 = omega (arith, span_same (from_class 2) is_name_part name_part (drop i s)) in
      rw (hr, m, first, ← hc, h2, last e q, ← hd, h4)

-- ---- signs
and-false : (t u : Bool) → u ≡ t && false || u
and-false true u = refl
and-false false u = refl

and_true : (t : Bool) → t ≡ t && true || false
and_true true = refl
and_true false = refl

eqb_same : (a b : ℕ) → eqb a b ≡ eqb b a
eqb_same a b = go (eqb a b) refl
  where
    go : (t : Bool) → eqb a b ≡ t → eqb a b ≡ eqb b a
    go true e = e ∙ sym (eq-eqb b a (sym (eqb-true a b e)))
    go false e = e ∙ sym (ne_eqb b a (λ q. eqb-false a b e (sym q)))

pub double_33 : (b c : ℕ) → b ≡ 33 → eqb c 61 ≡ is_double b c
unfolding is_double stands_in
double_33 b c e = rw e (and-false (eqb 33 c) (eqb c 61))

-- a byte that stands in the text is doubled by itself
double : (k b c : ℕ) → stands_in k (bytes "+><=") ≡ true → eqb k 33 ≡ false → b ≡ k → eqb c k ≡ is_double b c
unfolding is_double
double k b c s n e = eqb_same c k ∙ rw (e, s, n) (and_true (eqb k c))

pub double_43 : (b c : ℕ) → b ≡ 43 → eqb c 43 ≡ is_double b c
unfolding stands_in
double_43 b c e = double 43 b c refl refl e

pub double_60 : (b c : ℕ) → b ≡ 60 → eqb c 60 ≡ is_double b c
unfolding stands_in
double_60 b c e = double 60 b c refl refl e

pub double_61 : (b c : ℕ) → b ≡ 61 → eqb c 61 ≡ is_double b c
unfolding stands_in
double_61 b c e = double 61 b c refl refl e

pub double_62 : (b c : ℕ) → b ≡ 62 → eqb c 62 ≡ is_double b c
unfolding stands_in
double_62 b c e = double 62 b c refl refl e

pub double_none : (b c : ℕ) → (b ≡ 33 → ⊥) → (b ≡ 43 → ⊥) → (b ≡ 60 → ⊥) → (b ≡ 61 → ⊥) → (b ≡ 62 → ⊥)
    → false ≡ is_double b c
unfolding is_double stands_in
double_none b c h33 h43 h60 h61 h62 =
    rw (ne_eqb b 33 h33, ne_eqb b 43 h43, ne_eqb b 60 h60, ne_eqb b 61 h61, ne_eqb b 62 h62) (and-false (eqb b c) false)

module _ (b c at : ℕ) where
  pub sign_double : (r : ℕ) → is_double b c ≡ true → r ≡ b + 128 + 256 * at + 16777216 * 2 → Some r ≡ front_word at (found_sign b c)
  unfolding front_word if◌then◌otherwise◌
  sign_double r e h = rw (e, h)

  pub sign_none : is_double b c ≡ false → b ≡ 33 → None ≡ front_word at (found_sign b c)
  unfolding front_word if◌then◌otherwise◌
  sign_none e h = rw (e, eq-eqb b 33 h)

  pub sign_single : (r : ℕ) → is_double b c ≡ false → (b ≡ 33 → ⊥) → r ≡ b + 256 * at + 16777216 * 1 → Some r ≡ front_word at (found_sign b c)
  unfolding front_word if◌then◌otherwise◌
  sign_single r e n h = rw (e, ne_eqb b 33 n, h)

-- ---- by class
module _ (s : List ℕ) (at : ℕ) (h : at < length s) where
  pub front_2 : class_of (get_or s at 0) ≡ 2 → front (drop at s) ≡ found_name (drop at s)
  unfolding front if◌then◌otherwise◌
  front_2 e = rw (drop-cons s at 0, is_letter_lem (get_or s at 0), e)

  pub front_3 : class_of (get_or s at 0) ≡ 3 → front (drop at s) ≡ found_digits (drop at s)
  unfolding front if◌then◌otherwise◌
  front_3 e = rw (drop-cons s at 0, is_letter_lem (get_or s at 0), is_digit_lem (get_or s at 0), e)

  pub front_4 : class_of (get_or s at 0) ≡ 4 → front (drop at s) ≡ found_string (drop (at + 1) s)
  unfolding front if◌then◌otherwise◌
  front_4 e = rw (add-one at, drop-cons s at 0, is_letter_lem (get_or s at 0), is_digit_lem (get_or s at 0), is_quote_lem (get_or s at 0), e)

  pub front_5 : class_of (get_or s at 0) ≡ 5 → front (drop at s) ≡ found_sign (get_or s at 0) (get_or s (at + 1) 0)
  unfolding front if◌then◌otherwise◌
  front_5 e =
      let q : get_or (drop (suc at) s) 0 0 ≡ get_or s (at + 1) 0 = get_or-drop (suc at) s 0 0 ∙ ap (λ (n : ℕ). get_or s n 0) (omega arith) in
      rw (drop-cons s at 0, is_letter_lem (get_or s at 0), is_digit_lem (get_or s at 0), is_quote_lem (get_or s at 0), is_sign_lem (get_or s at 0), e, q)

  pub front_none : (c : ℕ) → class_of (get_or s at 0) ≡ c → (c ≡ 2 → ⊥) → (c ≡ 3 → ⊥) → (c ≡ 4 → ⊥) → (c ≡ 5 → ⊥)
      → front (drop at s) ≡ nothing
  unfolding front if◌then◌otherwise◌
  front_none c e h2 h3 h4 h5 =
      let b : ℕ = get_or s at 0 in
      let n2 : is_letter b ≡ false = is_letter_lem b ∙ ne_eqb (class_of b) 2 (λ q. h2 (sym e ∙ q)) in
      let n3 : is_digit b ≡ false = is_digit_lem b ∙ ne_eqb (class_of b) 3 (λ q. h3 (sym e ∙ q)) in
      let n4 : is_quote b ≡ false = is_quote_lem b ∙ ne_eqb (class_of b) 4 (λ q. h4 (sym e ∙ q)) in
      let n5 : is_sign b ≡ false = is_sign_lem b ∙ ne_eqb (class_of b) 5 (λ q. h5 (sym e ∙ q)) in
      rw (drop-cons s at 0, n2, n3, n4, n5)
