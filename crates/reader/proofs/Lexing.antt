-- The tokens of a program of at most 32,768 bytes fit their words, if they are at most 8,192.
use Prim.Native.Nat.{ℕ, zero, suc, ◌+◌, ◌-◌, ◌≤◌, ◌<◌}
use native.Mathlib.Omega.{arith}
use mathlib.Core.Path.{◌≡◌, refl, subst}
use mathlib.Core.Bool.{Bool, true, false, ◌&&◌, ◌||◌, cond}
use mathlib.Core.List.{List, [], ◌∷◌}
use lib.ListN.{length, get_or, take, length-take}
use lib.Dec.{eqb, ltb}
use borrow.Author.Tests.{eqb-true, ltb-true}
use Rattle.meaning.specs.Basics.{bytes, if◌then◌otherwise◌, same_text, stands_in, span}
use Rattle.meaning.specs.Byte.{is_space, is_digit, is_name_part, is_sign}
use Rattle.meaning.specs.Token.{Token, Front, found, nothing, word_kind, front, Lexed, lexed, stray, prepend, starting, scan, tokens_of}
use Rattle.meaning.specs.Grammar.{after_last}
use Rattle.reader.specs.Sane.{Sane}
use Rattle.reader.proofs.Homes.{both_true}

-- ---- kinds
either_small : (t : Bool) (x y : ℕ) → x < 256 → y < 256 → cond t x y < 256
either_small true x y h k = h
either_small false x y h k = k

word_kind_small : (w : List ℕ) → word_kind w < 256
unfolding word_kind
word_kind_small w =
    either_small (same_text w (bytes "def")) 4 _ (omega arith)
    (either_small (same_text w (bytes "var")) 5 _ (omega arith)
    (either_small (same_text w (bytes "if")) 6 _ (omega arith)
    (either_small (same_text w (bytes "while")) 7 _ (omega arith)
    (either_small (same_text w (bytes "return")) 8 _ (omega arith)
    (either_small (same_text w (bytes "none")) 9 _ (omega arith)
    (either_small (same_text w (bytes "true")) 10 _ (omega arith)
    (either_small (same_text w (bytes "false")) 11 _ (omega arith)
    (either_small (same_text w (bytes "foreach")) 12 _ (omega arith)
    (either_small (same_text w (bytes "in")) 13 _ (omega arith)
    (either_small (same_text w (bytes "do")) 14 1 (omega arith)
    (omega arith)))))))))))

-- whether all of some bytes are below a number
abbrev all_below : ℕ → List ℕ → Bool
all_below m [] = true
all_below m (x ∷ xs) = ltb x m && all_below m xs

stands_below : (b m : ℕ) (xs : List ℕ) → all_below m xs ≡ true → stands_in b xs ≡ true → b < m
unfolding stands_in
stands_below b m [] p e = let z : ◌≡◌ {A = ℕ} 0 1 = cc in absurd (omega arith)
stands_below b m (x ∷ xs) p e =
    let both = both_true (ltb x m) (all_below m xs) p in
    go (eqb b x) refl e (stands_below b m xs both.1) (ltb-true x m both.0)
  where
    go : (t : Bool) → eqb b x ≡ t → t || stands_in b xs ≡ true → (stands_in b xs ≡ true → b < m) → x < m → b < m
    go true q e h below = omega (arith, eqb-true b x q)
    go false q e h below = h e

-- ---- the token at the front of some bytes
data Fits (size : ℕ) : Front → Type 0 where
  fits : {k n : ℕ} {w : List ℕ} → k < 256 → length w ≤ size → Fits size (found k n w)
  misses : Fits size nothing

fits_if : (size : ℕ) (b : Bool) (t u : Unit {0} → Front) → (b ≡ true → Fits size (t tt)) → (b ≡ false → Fits size (u tt))
    → Fits size (if b then t otherwise u)
unfolding if◌then◌otherwise◌
fits_if size true t u p q = p refl
fits_if size false t u p q = q refl

part_fits : (size n : ℕ) (w : List ℕ) → length w ≤ size → length (take n w) ≤ size
part_fits size n w h = rw length-take (omega arith)

sign_small : (b : ℕ) → is_sign b ≡ true → b < 126
unfolding is_sign
sign_small b e = stands_below b 126 _ refl e

front_fits : (size : ℕ) (bs : List ℕ) → 2 ≤ size → length bs ≤ size → Fits size (front bs)
unfolding front
front_fits size [] two h = misses
front_fits size (b ∷ bs) two h =
    fits_if size _ _ _ (λ _. fits (word_kind_small _) (part_fits size (span is_name_part (b ∷ bs)) (b ∷ bs) h))
    λ _. fits_if size _ _ _ (λ _. fits (omega arith) (part_fits size (span is_digit (b ∷ bs)) (b ∷ bs) h))
    λ _. fits_if size _ _ _ (λ _. fits_if size _ _ _ (λ _. fits (omega arith) (part_fits size (span is_name_part bs) bs (omega arith))) (λ _. misses))
    λ _. fits_if size _ _ _
    (λ s. fits_if size _ _ _ (λ _. fits (omega (arith, sign_small b s)) (omega arith))
    λ _. fits_if size _ _ _ (λ _. misses) (λ _. fits (omega (arith, sign_small b s)) (omega arith)))
    λ _. misses

-- ---- all tokens
-- a token that begins before a place and whose text has at most so many bytes
record Small (end size : ℕ) (t : Token) : Type 0 where
  kind : t.kind < 256
  place : t.place < end
  text : length t.text ≤ size

data All (P : Token → Type 0) : List Token → Type 0 where
  none : All P []
  more : {t : Token} {ts : List Token} → P t → All P ts → All P (t ∷ ts)

all_at : {P : Token → Type 0} {ts : List Token} → All P ts → P after_last → (i : ℕ) → P (get_or ts i after_last)
all_at none l i = l
all_at (more p ps) l zero = p
all_at (more p ps) l (suc i) = all_at ps l i

data AllOf (P : Token → Type 0) : Lexed → Type 0 where
  good : {ts : List Token} → All P ts → AllOf P (lexed ts)
  bad : {p : ℕ} → AllOf P (stray p)

all_of : {P : Token → Type 0} {l : Lexed} {ts : List Token} → AllOf P l → l ≡ lexed ts → All P ts
all_of {P} {l} {ts} (good {ts = us} a) e =
    let same : us ≡ ts = cc in
    subst (All P) same a
all_of bad e = let z : ◌≡◌ {A = ℕ} 0 1 = cc in absurd (omega arith)

prepend_small : {P : Token → Type 0} (t : Token) {l : Lexed} → P t → AllOf P l → AllOf P (prepend t l)
unfolding prepend
prepend_small t p (good a) = good (more p a)
prepend_small t p bad = bad

starting_small : (end size : ℕ) {f : Front} → Fits size f → (at : ℕ) → at < end
    → (rest : ℕ → Lexed) → ((k : ℕ) → AllOf (Small end size) (rest k))
    → AllOf (Small end size) (starting f at rest)
unfolding starting
starting_small end size (fits {n = n} k w) at h rest r = prepend_small _ (record { kind = k; place = h; text = w }) (r (n - 1))
starting_small end size misses at h rest r = bad

scan_small : (end size : ℕ) → 2 ≤ size → (bs : List ℕ) (k at : ℕ) → at + length bs ≤ end → length bs ≤ size
    → AllOf (Small end size) (scan k at bs)
unfolding scan if◌then◌otherwise◌
scan_small end size two [] k at h s = good none
scan_small end size two (b ∷ bs) (suc k) at h s = scan_small end size two bs k (suc at) (omega arith) (omega arith)
scan_small end size two (b ∷ bs) zero at h s =
    go (is_space b) (λ k. scan_small end size two bs k (suc at) (omega arith) (omega arith))
  where
    go : (t : Bool) → ((k : ℕ) → AllOf (Small end size) (scan k (suc at) bs))
        → AllOf (Small end size) (if t then (λ _. scan 0 (suc at) bs) otherwise λ _. starting (front (b ∷ bs)) at (λ k. scan k (suc at) bs))
    go true r = r 0
    go false r = starting_small end size (front_fits size (b ∷ bs) two s) at (omega arith) _ r

pub lexed_sane : (program : List ℕ) (ts : List Token) → length program ≤ 32768 → tokens_of program ≡ lexed ts → length ts ≤ 8192 → Sane ts
unfolding tokens_of
lexed_sane program ts h e n =
    let small = all_at (all_of (scan_small 32768 32768 (omega arith) program 0 0 (omega arith) h) e) (omega arith) in
    record {
      kinds = λ i. (small i).kind;
      places = λ i. (small i).place;
      texts = λ i. (small i).text;
      few = n;
    }
