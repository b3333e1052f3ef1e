-- A token's text is the part of the program that the token covers; of a string, without its quotes.
use Prim.Native.Nat.{ℕ, zero, suc, ◌+◌, ◌-◌}
use mathlib.Core.Path.{◌≡◌, refl, ap, sym, ◌∙◌}
use mathlib.Core.Bool.{Bool, true, false, ◌&&◌, ◌||◌, cond, and-false}
use mathlib.Core.List.{List, [], ◌∷◌}
use native.Mathlib.Omega.{arith}
use native.Mathlib.Numerals.{add-one}
use lib.ListN.{length, get_or, take, drop}
use lib.Seq.{drop-drop}
use lib.Dec.{eqb}
use borrow.Author.Tests.{eqb-true, ne_eqb}
use Rattle.meaning.specs.Basics.{bytes, if◌then◌otherwise◌, stands_in, span}
use Rattle.meaning.specs.Byte.{is_space, is_letter, is_digit, is_name_part, is_quote, is_sign}
use Rattle.meaning.specs.Token.{Token, Front, found, nothing, Lexed, lexed, stray, a_string, word_kind, doubled, is_double, front}
use Rattle.meaning.specs.Token.{prepend, starting, scan, tokens_of, found_name, found_digits, found_string, found_sign}

-- ---- what is claimed
-- where a token's text begins: a string's behind the quote
abbrev pub text_start : ℕ → ℕ → ℕ
text_start k p = cond (eqb k a_string) (suc p) p

-- w is what stands in the program there
abbrev pub StandsAt : List ℕ → ℕ → List ℕ → Type 0
StandsAt program p w = take (length w) (drop p program) ≡ w

abbrev pub AllCover : List ℕ → List Token → Type 0
AllCover program [] = Unit {0}
AllCover program (t ∷ ts) = StandsAt program (text_start t.kind t.place) t.text × AllCover program ts

abbrev pub LexedCover : List ℕ → Lexed → Type 0
LexedCover program (lexed ts) = AllCover program ts
LexedCover program (stray p) = Unit {0}

-- ---- the token at the front
abbrev FrontCover : List ℕ → Front → Type 0
FrontCover bs (found k n w) = StandsAt bs (text_start k 0) w
FrontCover bs nothing = Unit {0}

take_again : (n : ℕ) (l : List ℕ) → take (length (take n l)) l ≡ take n l
take_again zero l = refl
take_again (suc n) [] = refl
take_again (suc n) (x ∷ xs) = ap (λ (r : List ℕ). x ∷ r) (take_again n xs)

-- a choice between two of which a thing holds
either : {A : Type 0} (P : A → Type 0) (t : Bool) (x y : Unit {0} → A) → (t ≡ true → P (x tt)) → P (y tt) → P (if t then x otherwise y)
unfolding if◌then◌otherwise◌
either P true x y h k = h refl
either P false x y h k = k

-- no word is a string
either_kind : (t : Bool) (x y : ℕ) → eqb x a_string ≡ false → eqb y a_string ≡ false → eqb (cond t x y) a_string ≡ false
either_kind true x y h k = h
either_kind false x y h k = k

word_no_string : (w : List ℕ) → eqb (word_kind w) a_string ≡ false
unfolding word_kind
word_no_string w = search either_kind depth 13

name_covers : (l : List ℕ) → FrontCover l (found_name l)
name_covers l =
    let n = span is_name_part l in
    rw (word_no_string (take n l)) (take_again n l)

digits_cover : (l : List ℕ) → FrontCover l (found_digits l)
digits_cover l = take_again (span is_digit l) l

string_covers : (b : ℕ) (bs : List ℕ) → FrontCover (b ∷ bs) (found_string bs)
string_covers b bs = either (FrontCover (b ∷ bs)) (is_letter (get_or bs 0 0) && is_quote (get_or bs (span is_name_part bs) 0)) _ _ (λ e. take_again (span is_name_part bs) bs) tt

sign_no_string : (b : ℕ) → is_sign b ≡ true → eqb b a_string ≡ false
unfolding is_sign stands_in
sign_no_string b e = ne_eqb b a_string (λ k. let z : ◌≡◌ {A = Bool} false true = rw k at e in let w : ◌≡◌ {A = ℕ} 0 1 = cc in omega arith)

-- no sign has a 0 behind its first byte, so where the text ends there is none of two bytes
no_double_end : (b : ℕ) → is_double b 0 ≡ false
unfolding is_double stands_in
no_double_end b = go (eqb b 0) refl (eqb b 33)
  where
    go : (t : Bool) → eqb b 0 ≡ t → (s : Bool) → (t && stands_in b (bytes "+><=")) || (s && false) ≡ false
    go true e s = rw (eqb-true b 0 e) (and-false s)
    go false e s = and-false s

single_covers : (b : ℕ) (bs : List ℕ) → is_sign b ≡ true → FrontCover (b ∷ bs) (if eqb b 33 then (λ _. nothing) otherwise λ _. found b 1 (b ∷ []))
single_covers b bs e = either (FrontCover (b ∷ bs)) (eqb b 33) (λ _. nothing) (λ _. found b 1 (b ∷ [])) (λ k. tt) (rw (sign_no_string b e))

sign_covers : (b : ℕ) (bs : List ℕ) → is_sign b ≡ true → FrontCover (b ∷ bs) (found_sign b (get_or bs 0 0))
unfolding if◌then◌otherwise◌
sign_covers b [] e = rw (no_double_end b) (single_covers b [] e)
sign_covers b (c ∷ cs) e =
    either (FrontCover (b ∷ c ∷ cs)) (is_double b c) (λ _. found (doubled b) 2 (b ∷ c ∷ [])) _
    (λ k. let d : eqb (b + 128) 3 ≡ false = ne_eqb (b + 128) 3 (λ z. omega arith) in rw d) (single_covers b (c ∷ cs) e)

front_covers : (bs : List ℕ) → FrontCover bs (front bs)
unfolding front
front_covers [] = tt
front_covers (b ∷ bs) =
    let P = FrontCover (b ∷ bs) in
    either P (is_letter b) _ _ (λ e. name_covers (b ∷ bs))
    (either P (is_digit b) _ _ (λ e. digits_cover (b ∷ bs))
    (either P (is_quote b) _ _ (λ e. string_covers b bs)
    (either P (is_sign b) _ _ (λ e. sign_covers b bs e) tt)))

-- ---- all tokens
drop_more : (n : ℕ) (l : List ℕ) (b : ℕ) (bs : List ℕ) → drop n l ≡ b ∷ bs → drop (suc n) l ≡ bs
drop_more zero [] b bs e = cc
drop_more zero (x ∷ xs) b bs e = cc
drop_more (suc n) [] b bs e = cc
drop_more (suc n) (x ∷ xs) b bs e = drop_more n xs b bs e

module _ (program : List ℕ) where
  stands_here : (t : Bool) (at : ℕ) (bs w : List ℕ) → drop at program ≡ bs → StandsAt bs (cond t 1 0) w → StandsAt program (cond t (suc at) at) w
  stands_here true at bs w e h =
      let k : drop (suc at) program ≡ drop 1 bs = ap (λ (n : ℕ). drop n program) (sym (add-one at)) ∙ sym (drop-drop 1 at program) ∙ ap (drop 1) e in
      ap (take (length w)) k ∙ h
  stands_here false at bs w e h = rw e h

  prepend_covers : (t : Token) (l : Lexed) → StandsAt program (text_start t.kind t.place) t.text → LexedCover program l → LexedCover program (prepend t l)
  unfolding prepend
  prepend_covers t (lexed ts) h k = (h, k)
  prepend_covers t (stray p) h k = tt

  starting_covers : (f : Front) (at : ℕ) (bs : List ℕ) (rest : ℕ → Lexed) → drop at program ≡ bs → FrontCover bs f → ((k : ℕ) → LexedCover program (rest k)) → LexedCover program (starting f at rest)
  unfolding starting
  starting_covers (found k n w) at bs rest e h r = prepend_covers _ (rest (n - 1)) (stands_here (eqb k a_string) at bs w e h) (r (n - 1))
  starting_covers nothing at bs rest e h r = tt

  scan_covers : (bs : List ℕ) (k at : ℕ) → drop at program ≡ bs → LexedCover program (scan k at bs)
  unfolding scan
  scan_covers [] k at e = tt
  scan_covers (b ∷ bs) (suc k) at e = scan_covers bs k (suc at) (drop_more at program b bs e)
  scan_covers (b ∷ bs) zero at e =
      either (LexedCover program) (is_space b) _ _ (λ h. scan_covers bs 0 (suc at) (drop_more at program b bs e))
      (starting_covers (front (b ∷ bs)) at (b ∷ bs) (λ k. scan k (suc at) bs) e (front_covers (b ∷ bs)) (λ k. scan_covers bs k (suc at) (drop_more at program b bs e)))

pub tokens_cover : (program : List ℕ) → LexedCover program (tokens_of program)
unfolding tokens_of
tokens_cover program = scan_covers program program 0 0 refl
