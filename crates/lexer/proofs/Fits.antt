-- What a token at the front of some bytes is bounded by, and what its word says.
-- Assumes nothing.
use mathlib.Core.Path.{◌≡◌, ◌∙◌, refl, sym, ap, subst}
use mathlib.Core.Bool.{Bool, true, false, ◌&&◌, cond}
use mathlib.Core.List.{List, [], ◌∷◌}
use Prim.Native.Nat.{ℕ, ◌+◌, ◌-◌, ◌*◌, ◌^◌, ◌≤◌, ◌<◌}
use native.Mathlib.Omega.{arith}
use borrow.Author.Tests.{ne_eqb, eqb-true, leb-true, leb-false}
use lib.Dec.{eqb, leb}
use lib.ListN.{length, get_or, take, drop, length-drop, get_or-eq_default}
use lib.Seq.{length-take-le, drop-drop}
use Rattle.meaning.specs.Basics.{bytes, if◌then◌otherwise◌, same_text, span}
use Rattle.meaning.specs.Byte.{is_letter, is_digit, is_name_part, is_quote, is_sign}
use Rattle.meaning.specs.Token.{Token, Front, found, nothing, found_name, found_digits, found_string, found_sign, is_double, front, word_kind}
use Rattle.tokens.specs.Words.{size_of, word_of, kind_in, place_in, size_in, text_in, token_in}
use Rattle.lexer.proofs.Classes.{sign_range}
use Rattle.lexer.proofs.Runs.{span_le, span_some}

pub record Fits (s : List ℕ) (k n : ℕ) (w : List ℕ) : Type 0 where
  pub kind_some : 0 < k
  pub kind_small : k < 256
  pub size_some : 0 < n
  pub size_within : n ≤ length s
  pub size_is : length w + cond (eqb k 3) 2 0 ≡ n
  pub text_is : text_in s k 0 n ≡ w

abbrev Fit : List ℕ → Front → Type 0
Fit s (found k n w) = Fits s k n w
Fit s nothing = Unit {0}

-- by cases of a test
by_if : (P : Front → Type 0) (t : Bool) (x y : Unit {0} → Front) → (t ≡ true → P (x tt)) → (t ≡ false → P (y tt))
    → P (if t then x otherwise y)
unfolding if◌then◌otherwise◌
by_if P true x y f g = f refl
by_if P false x y f g = g refl

-- ---- names and digits
abbrev Plain : ℕ → Type 0
Plain k = (0 < k) × (k < 256) × (k ≡ 3 → ⊥)

by_cond : (t : Bool) (x y : ℕ) → Plain x → Plain y → Plain (cond t x y)
by_cond true x y p q = p
by_cond false x y p q = q

word_plain : (w : List ℕ) → Plain (word_kind w)
unfolding word_kind
word_plain w =
    by_cond (same_text w (bytes "def")) 4 _ (omega arith)
    (by_cond (same_text w (bytes "var")) 5 _ (omega arith)
    (by_cond (same_text w (bytes "if")) 6 _ (omega arith)
    (by_cond (same_text w (bytes "while")) 7 _ (omega arith)
    (by_cond (same_text w (bytes "return")) 8 _ (omega arith)
    (by_cond (same_text w (bytes "none")) 9 _ (omega arith)
    (by_cond (same_text w (bytes "true")) 10 _ (omega arith)
    (by_cond (same_text w (bytes "false")) 11 _ (omega arith)
    (by_cond (same_text w (bytes "foreach")) 12 _ (omega arith)
    (by_cond (same_text w (bytes "in")) 13 _ (omega arith)
    (by_cond (same_text w (bytes "do")) 14 1 (omega arith)
    (omega arith)))))))))))

-- a token that is no string has its bytes for its text
plain : (s : List ℕ) (k n : ℕ) → Plain k → 0 < n → n ≤ length s → Fits s k n (take n s)
unfolding text_in
plain s k n p h l = record {
  kind_some = p.0;
  kind_small = p.1;
  size_some = h;
  size_within = l;
  size_is = rw (ne_eqb k 3 p.2) (omega (arith, length-take-le n s l));
  text_is = rw (ne_eqb k 3 p.2);
}

name_part : (b : ℕ) → is_letter b ≡ true → is_name_part b ≡ true
unfolding is_name_part
name_part b e = rw e

name_fits : (b : ℕ) (bs : List ℕ) → is_letter b ≡ true → Fit (b ∷ bs) (found_name (b ∷ bs))
name_fits b bs e = plain (b ∷ bs) _ _ (word_plain _) (span_some is_name_part b bs (name_part b e)) (span_le is_name_part (b ∷ bs))

digits_fits : (b : ℕ) (bs : List ℕ) → is_digit b ≡ true → Fit (b ∷ bs) (found_digits (b ∷ bs))
digits_fits b bs e = plain (b ∷ bs) 2 _ (omega arith) (span_some is_digit b bs e) (span_le is_digit (b ∷ bs))

-- ---- strings
-- past the end the byte is 0
inside : (s : List ℕ) (i : ℕ) → (get_or s i 0 ≡ 0 → ⊥) → i < length s
inside s i n = go (leb (length s) i) refl
  where
    go : (t : Bool) → leb (length s) i ≡ t → i < length s
    go true e = absurd (n (get_or-eq_default s 0 (leb-true (length s) i e)))
    go false e = leb-false (length s) i e

quote_some : (a : Bool) (x : ℕ) → a && is_quote x ≡ true → x ≡ 0 → ⊥
unfolding is_quote
quote_some true x e z = let q : x ≡ 34 = eqb-true x 34 e in omega arith
quote_some false x e z = let q : ◌≡◌ {A = ℕ} 0 1 = cc in omega arith

string_fits : (b : ℕ) (bs : List ℕ) → Fit (b ∷ bs) (found_string bs)
unfolding text_in
string_fits b bs =
    by_if (Fit (b ∷ bs)) (is_letter (get_or bs 0 0) && is_quote (get_or bs (span is_name_part bs) 0)) _ _
    (λ e.
    let n : ℕ = span is_name_part bs in
    let l : n < length bs = inside bs n (quote_some (is_letter (get_or bs 0 0)) (get_or bs n 0) e) in
    let m : n + 2 - 2 ≡ n = omega arith in
    record {
      kind_some = omega arith;
      kind_small = omega arith;
      size_some = omega arith;
      size_within = omega arith;
      size_is = ap (λ (x : ℕ). x + 2) (length-take-le n bs (span_le is_name_part bs));
      text_is = ap (λ (x : ℕ). take x bs) m;
    })
    (λ _. tt)

-- ---- signs
and-false : (t : Bool) → t && false ≡ false
and-false true = refl
and-false false = refl

lone : (b : ℕ) → (b ≡ 0 → ⊥) → is_double b 0 ≡ false
unfolding is_double
lone b n = rw (ne_eqb b 0 n) (and-false (eqb b 33))

-- the sign alone, or none
single_fits : (b : ℕ) (bs : List ℕ) → (32 < b) × (b < 128) → Fit (b ∷ bs) (if eqb b 33 then (λ _. nothing) otherwise λ _. found b 1 (b ∷ []))
single_fits b bs r =
    by_if (Fit (b ∷ bs)) (eqb b 33) _ _ (λ _. tt) (λ _. plain (b ∷ bs) b 1 (omega arith) (omega arith) (omega arith))

sign_fits : (b : ℕ) (bs : List ℕ) → (32 < b) × (b < 128) → Fit (b ∷ bs) (found_sign b (get_or bs 0 0))
unfolding if◌then◌otherwise◌
sign_fits b [] r = rw (lone b (omega arith)) (single_fits b [] r)
sign_fits b (c ∷ bs) r =
    by_if (Fit (b ∷ c ∷ bs)) (is_double b c) _ _
    (λ _. plain (b ∷ c ∷ bs) (b + 128) 2 (omega arith) (omega arith) (omega arith))
    (λ _. single_fits b (c ∷ bs) r)

front_fits : (s : List ℕ) → Fit s (front s)
unfolding front
front_fits [] = tt
front_fits (b ∷ bs) =
    by_if (Fit (b ∷ bs)) (is_letter b) _ _ (name_fits b bs) (λ _.
    by_if (Fit (b ∷ bs)) (is_digit b) _ _ (digits_fits b bs) (λ _.
    by_if (Fit (b ∷ bs)) (is_quote b) _ _ (λ _. string_fits b bs) (λ _.
    by_if (Fit (b ∷ bs)) (is_sign b) _ _ (λ e. sign_fits b bs (sign_range b e)) (λ _. tt))))

pub fits : (s : List ℕ) (k n : ℕ) (w : List ℕ) → front s ≡ found k n w → Fits s k n w
fits s k n w e = subst (Fit s) e (front_fits s)

-- ---- at a place of a program
-- a part of the bytes from a place on is a part of the program
text_at_lem : (program : List ℕ) (at k n : ℕ) → text_in (drop at program) k 0 n ≡ text_in program k at n
unfolding text_in
text_at_lem program at k n = rw (drop-drop 1 at program)

module _ (program : List ℕ) (small : length program ≤ 32768) (at k n : ℕ) (w : List ℕ)
    (h : at < length program) (e : front (drop at program) ≡ found k n w) where
  abbrev token : Token
  token = record { kind = k; place = at; text = w }

  f : Fits (drop at program) k n w
  f = fits (drop at program) k n w e

  pub end_within : at + n ≤ length program
  end_within = omega (arith, f.size_within, length-drop at program)

  pub word_is : word_of token ≡ k + 256 * at + 16777216 * n
  unfolding word_of size_of
  word_is = ap (λ (m : ℕ). k + 256 * at + 16777216 * m) f.size_is

  pub kind_told : kind_in (k + 256 * at + 16777216 * n) ≡ k
  kind_told = omega (arith, f.kind_small)

  pub place_told : place_in (k + 256 * at + 16777216 * n) ≡ at
  place_told = omega (arith, f.kind_small)

  pub size_told : size_in (k + 256 * at + 16777216 * n) ≡ n
  size_told = omega (arith, f.kind_small, end_within)

  pub word_small : word_of token < 2 ^ 40
  word_small = omega (arith, f.kind_small, end_within, word_is)

  pub decoded : token_in program (word_of token) ≡ token
  unfolding token_in
  decoded =
      rw (word_is, kind_told, place_told, size_told)
      (ap (λ (l : List ℕ). record { kind = k; place = at; text = l }) (sym (text_at_lem program at k n) ∙ f.text_is))
