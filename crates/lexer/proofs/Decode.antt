-- Each token of a program is told by its word: what a reader of the words goes by.
-- Assumes nothing.
use mathlib.Core.Path.{◌≡◌, ◌∙◌, refl, sym, ap, subst}
use mathlib.Core.Bool.{Bool, true, false}
use mathlib.Core.List.{List, [], ◌∷◌, map}
use Prim.Native.Nat.{ℕ, zero, suc, ◌-◌, ◌^◌, ◌≤◌, ◌<◌}
use native.Mathlib.Omega.{arith}
use lib.ListN.{length, get_or, take, drop, length-drop, length-map, get_or-map}
use lib.Seq.{drop-cons}
use Rattle.meaning.specs.Basics.{if◌then◌otherwise◌, laid_over}
use Rattle.meaning.specs.Byte.{is_space}
use Rattle.meaning.specs.Token.{Token, Front, found, nothing, front, Lexed, lexed, stray, prepend, starting, scan, tokens_of}
use Rattle.meaning.specs.Grammar.{after_last}
use Rattle.std.specs.declared.result.Result.TheVariants.{Ok}
use Rattle.tokens.specs.Words.{word_of, text_in, token_in}
use Rattle.lexer.specs.Lexing.{seen, laid_tokens}
use Rattle.lexer.proofs.Fits.{decoded, word_small}
use Rattle.lexer.proofs.Laid.{laid_front}

-- a claim of each token of a list
abbrev pub Each : (Token → Type 0) → List Token → Type 0
Each P [] = Unit {0}
Each P (t ∷ ts) = P t × Each P ts

-- what stands from a place on: the place is within, and the rest stands behind it
module _ (s : List ℕ) (at b : ℕ) (bs : List ℕ) (e : drop at s ≡ b ∷ bs) where
  inside : at < length s
  inside = omega (arith, length-drop at s, ap length e)

  tail : drop (suc at) s ≡ bs
  tail = let q : get_or s at 0 ∷ drop (suc at) s ≡ b ∷ bs = sym (drop-cons s at 0 inside) ∙ e in cc

-- ---- what holds of each token that begins in a program holds of all its tokens, and those are no more than its bytes
module _ (P : Token → Type 0) (program : List ℕ)
    (holds : (at k n : ℕ) (w : List ℕ) → at < length program → front (drop at program) ≡ found k n w
    → P (record { kind = k; place = at; text = w })) where
  abbrev Claim : ℕ → Lexed → Type 0
  Claim m r = (ts : List Token) → r ≡ lexed ts → Each P ts × (length ts ≤ m)

  none : (m : ℕ) → Claim m (lexed [])
  none m ts e = let q : [] ≡ ts = cc in subst (λ (us : List Token). Each P us × (length us ≤ m)) q (tt, omega arith)

  one : (m : ℕ) (t : Token) (r : Lexed) → P t → Claim m r → Claim (suc m) (prepend t r)
  unfolding prepend
  one m t (lexed us) p c ts e =
      let q : t ∷ us ≡ ts = cc in
      let i = c us refl in
      subst (λ (vs : List Token). Each P vs × (length vs ≤ suc m)) q ((p, i.0), omega arith)
  one m t (stray x) p c ts e = let z : ◌≡◌ {A = ℕ} 0 1 = cc in absurd (omega arith)

  begins : (m at : ℕ) (f : Front) (rest : ℕ → Lexed) → at < length program → front (drop at program) ≡ f → ((k : ℕ) → Claim m (rest k))
      → Claim (suc m) (starting f at rest)
  unfolding starting
  begins m at (found k n w) rest h e c ts q = one m (record { kind = k; place = at; text = w }) (rest (n - 1)) (holds at k n w h e) (c (n - 1)) ts q
  begins m at nothing rest h e c ts q = let z : ◌≡◌ {A = ℕ} 0 1 = cc in absurd (omega arith)

  by_if : (m : ℕ) (t : Bool) (x y : Unit {0} → Lexed) → Claim m (x tt) → Claim m (y tt) → Claim m (if t then x otherwise y)
  unfolding if◌then◌otherwise◌
  by_if m true x y p q = p
  by_if m false x y p q = q

  wider : (m : ℕ) (r : Lexed) → Claim m r → Claim (suc m) r
  wider m r c ts e = let i = c ts e in (i.0, omega arith)

  from : (l : List ℕ) (j at : ℕ) → drop at program ≡ l → Claim (length l) (scan j at l)
  unfolding scan
  from [] j at e = none 0
  from (b ∷ bs) (suc j) at e = wider (length bs) (scan j (suc at) bs) (from bs j (suc at) (tail program at b bs e))
  from (b ∷ bs) zero at e =
      let t : drop (suc at) program ≡ bs = tail program at b bs e in
      by_if (suc (length bs)) (is_space b) (λ _. scan 0 (suc at) bs) (λ _. starting (front (b ∷ bs)) at (λ k. scan k (suc at) bs))
      (wider (length bs) (scan 0 (suc at) bs) (from bs 0 (suc at) t))
      (begins (length bs) at (front (b ∷ bs)) (λ k. scan k (suc at) bs) (inside program at b bs e) (ap front e) (λ k. from bs k (suc at) t))

  pub each_token : (ts : List Token) → tokens_of program ≡ lexed ts → Each P ts
  unfolding tokens_of
  each_token ts e = (from program 0 0 refl ts e).0

  fewer : (ts : List Token) → tokens_of program ≡ lexed ts → length ts ≤ length program
  unfolding tokens_of
  fewer ts e = (from program 0 0 refl ts e).1

pub tokens_few : (program : List ℕ) (ts : List Token) → tokens_of program ≡ lexed ts → length ts ≤ length program
tokens_few program ts e = fewer (λ _. Unit {0}) program (λ at k n w h q. tt) ts e

-- ---- words
decode : (program : List ℕ) (ts : List Token) → Each (λ t. token_in program (word_of t) ≡ t) ts → map (token_in program) (map word_of ts) ≡ ts
decode program [] p = refl
decode program (t ∷ ts) p = rw (p.0, decode program ts p.1)

below : (ts : List Token) → Each (λ t. word_of t < 2 ^ 40) ts → (i : ℕ) → get_or (map word_of ts) i 0 < 2 ^ 40
below [] p i = omega arith
below (t ∷ ts) p zero = p.0
below (t ∷ ts) p (suc i) = below ts p.1 i

-- the word 0 stands for what is behind the last token
word_none : (program : List ℕ) → token_in program 0 ≡ after_last
unfolding token_in text_in
word_none program = refl

module _ (program : List ℕ) (ts : List Token) (small : length program ≤ 32768) (e : tokens_of program ≡ lexed ts) where
  -- the words' tokens are the tokens
  pub words_decode : map (token_in program) (map word_of ts) ≡ ts
  words_decode = decode program ts (each_token (λ t. token_in program (word_of t) ≡ t) program (decoded program small) ts e)

  -- the same at an index
  pub word_decodes : (i : ℕ) → token_in program (get_or (map word_of ts) i 0) ≡ get_or ts i after_last
  word_decodes i =
      sym (get_or-map (token_in program) (map word_of ts) i 0) ∙ rw (words_decode, word_none program)

  -- a word has 40 bits
  pub words_small : (i : ℕ) → get_or (map word_of ts) i 0 < 2 ^ 40
  words_small = below ts (each_token (λ t. word_of t < 2 ^ 40) program (word_small program small) ts e)

-- ---- what the lexer's answer tells
-- n tokens were found, and the slice has room for them: then it holds their words
pub record Held (program slice : List ℕ) (n : ℕ) : Type 0 where
  pub tokens : List Token
  pub are : tokens_of program ≡ lexed tokens
  pub count : length tokens ≡ n
  pub words : take n slice ≡ map word_of tokens

pub held : (program before slice : List ℕ) (n : ℕ) → seen (Ok n) slice ≡ laid_tokens (tokens_of program) before → n ≤ length before → Held program slice n
unfolding seen laid_tokens
held program before slice n h l = go (tokens_of program) refl
  where
    go : (r : Lexed) → tokens_of program ≡ r → Held program slice n
    go (lexed ts) e =
        let q : seen (Ok n) slice ≡ laid_tokens (lexed ts) before = h ∙ ap (λ (x : Lexed). laid_tokens x before) e in
        let c : n ≡ length ts = cc in
        let s : slice ≡ laid_over (map word_of ts) before = cc in
        record {
          tokens = ts;
          are = e;
          count = sym c;
          words = rw (s, c ∙ sym (length-map ts word_of)) (laid_front (map word_of ts) before (omega (arith, length-map ts word_of)));
        }
    go (stray p) e =
        let q : seen (Ok n) slice ≡ laid_tokens (stray p) before = h ∙ ap (λ (x : Lexed). laid_tokens x before) e in
        let z : ◌≡◌ {A = ℕ} 0 1 = cc in
        absurd (omega arith)
