-- What holds in the lexer's loop: the tokens passed are in the slice, and the program's tokens are those and what is left at the place.
-- Assumes nothing.
use mathlib.Core.Path.{◌≡◌, ◌∙◌, refl, sym, ap}
use mathlib.Core.List.{List, [], ◌∷◌, ◌++◌, map, append-nil}
use Prim.Native.Nat.{ℕ, ◌+◌, ◌*◌, ◌≤◌, ◌<◌, zero-le}
use native.Mathlib.Omega.{arith}
use lib.ListN.{length, get_or, set, drop, length-append, length-map}
use Rattle.meaning.specs.Basics.{laid_over}
use Rattle.meaning.specs.Byte.{class_of}
use Rattle.meaning.specs.Token.{Token, Front, found, nothing, front, lexed, stray, tokens_of}
use Rattle.std.specs.declared.option.Option.TheVariants.{Some, None}
use Rattle.std.specs.declared.result.Result.TheVariants.{Ok, Err}
use Rattle.tokens.specs.Words.{word_of, size_in}
use Rattle.lexer.specs.Lexing.{front_word, seen, laid_tokens}
use Rattle.lexer.proofs.Fits.{fits, end_within, word_is, size_told}
use Rattle.lexer.proofs.Laid.{laid_none, laid_more, laid_length, map_more}
use Rattle.lexer.proofs.Scan.{here, at_end, at_space, at_stray, at_token, prepend_all, prepend_none, prepend_more}

-- ---- a word, and the token that it is of
record Begun (s : List ℕ) (at w : ℕ) : Type 0 where
  kind : ℕ
  size : ℕ
  text : List ℕ
  is : front (drop at s) ≡ found kind size text
  word : w ≡ kind + 256 * at + 16777216 * size

begun : (s : List ℕ) (at w : ℕ) → front_word at (front (drop at s)) ≡ Some w → Begun s at w
unfolding front_word
begun s at w e = go (front (drop at s)) refl
  where
    go : (f : Front) → front (drop at s) ≡ f → Begun s at w
    go (found k m t) q =
        let p : Some (k + 256 * at + 16777216 * m) ≡ Some w = sym (ap (front_word at) q) ∙ e in
        record { kind = k; size = m; text = t; is = q; word = cc }
    go nothing q =
        let p : None ≡ Some w = sym (ap (front_word at) q) ∙ e in
        cc

none_begun : (s : List ℕ) (at : ℕ) → front_word at (front (drop at s)) ≡ None → front (drop at s) ≡ nothing
unfolding front_word
none_begun s at e = go (front (drop at s)) refl
  where
    go : (f : Front) → front (drop at s) ≡ f → front (drop at s) ≡ nothing
    go (found k m t) q =
        let p : Some (k + 256 * at + 16777216 * m) ≡ None = sym (ap (front_word at) q) ∙ e in
        cc
    go nothing q = q

module _ (s : List ℕ) (small : length s ≤ 32768) (at w z : ℕ) (h : at < length s)
    (e : front_word at (front (drop at s)) ≡ Some w) (hz : z ≡ size_in w) where
  abbrev b : Begun s at w
  b = begun s at w e

  size_is : z ≡ b.size
  size_is = hz ∙ ap size_in b.word ∙ size_told s small at b.kind b.size b.text h b.is

  -- the token ends behind its first byte and within the program
  pub ends : (at < at + z) × (at + z ≤ length s)
  ends =
      let f = fits (drop at s) b.kind b.size b.text b.is in
      omega (arith, f.size_some, size_is, end_within s small at b.kind b.size b.text h b.is)

-- ---- the loop
pub record Going (s tokens₀ tokens : List ℕ) (at n : ℕ) : Type 0 where
  pub done : List Token
  pub place : at ≤ length s
  pub few : n ≤ at
  pub count : length done ≡ n
  pub rest : tokens_of s ≡ prepend_all done (here s at)
  pub held : tokens ≡ laid_over (map word_of done) tokens₀

-- one word more
more : (ts : List Token) (t : Token) (d a b : List ℕ) (n w : ℕ)
    → length ts ≡ n → w ≡ word_of t → a ≡ laid_over (map word_of ts) d → b ≡ set a n w
    → b ≡ laid_over (map word_of (ts ++ t ∷ [])) d
more ts t d a b n w l v h e = e ∙ rw (v, h, map_more word_of ts t, laid_more (map word_of ts) (word_of t) d, length-map ts word_of, l)

module _ (s tokens₀ : List ℕ) where
  pub start : Going s tokens₀ tokens₀ 0 0
  unfolding tokens_of
  start = record {
    done = [];
    place = zero-le;
    few = zero-le;
    count = refl;
    rest = sym (prepend_none (here s 0));
    held = sym (laid_none tokens₀);
  }

  module _ (tokens : List ℕ) (at n : ℕ) (g : Going s tokens₀ tokens at n) where
    pub space : at < length s → class_of (get_or s at 0) ≡ 1 → Going s tokens₀ tokens (at + 1) n
    space h e = record {
      done = g.done;
      place = omega arith;
      few = omega arith;
      count = g.count;
      rest = g.rest ∙ ap (prepend_all g.done) (at_space s at h e);
      held = g.held;
    }

    pub token : length s ≤ 32768 → at < length s → (class_of (get_or s at 0) ≡ 1 → ⊥) → (w z : ℕ) (tokens' : List ℕ)
        → front_word at (front (drop at s)) ≡ Some w → z ≡ size_in w
        → tokens' ≡ set tokens n w → Going s tokens₀ tokens' (at + z) (n + 1)
    token small h c w z tokens' e hz ht =
        let b = begun s at w e in
        let k : ℕ = b.kind in
        let t : List ℕ = b.text in
        let q : z ≡ b.size = size_is s small at w z h e hz in
        let is : front (drop at s) ≡ found k z t = b.is ∙ ap (λ (x : ℕ). found k x t) (sym q) in
        let f = ends s small at w z h e hz in
        let x : Token = record { kind = k; place = at; text = t } in
        let v : w ≡ word_of x = b.word ∙ ap (λ (j : ℕ). k + 256 * at + 16777216 * j) (sym q) ∙ sym (word_is s small at k z t h is) in
        record {
          done = g.done ++ x ∷ [];
          place = f.1;
          few = omega arith;
          count = length-append g.done (x ∷ []) ∙ ap (λ (j : ℕ). j + 1) g.count;
          rest = g.rest ∙ ap (prepend_all g.done) (at_token s at k z t h c is (omega arith)) ∙ prepend_more g.done x (here s (at + z));
          held = more g.done x tokens₀ tokens tokens' n w g.count v g.held ht;
        }

    pub same_length : length tokens ≡ length tokens₀
    same_length = rw g.held (laid_length _ _)

    pub ended : length s ≤ at → seen (Ok n) tokens ≡ laid_tokens (tokens_of s) tokens₀
    unfolding seen laid_tokens prepend_all
    ended h =
        let q : tokens_of s ≡ lexed g.done = g.rest ∙ ap (prepend_all g.done) (at_end s at h) ∙ ap lexed (append-nil g.done) in
        rw (q, g.held, g.count)

    pub refused : at < length s → (class_of (get_or s at 0) ≡ 1 → ⊥) → front_word at (front (drop at s)) ≡ None
        → seen (Err (record { place = at })) tokens ≡ laid_tokens (tokens_of s) tokens₀
    unfolding seen laid_tokens prepend_all
    refused h c e =
        let q : tokens_of s ≡ stray at = g.rest ∙ ap (prepend_all g.done) (at_stray s at h c (none_begun s at e)) in
        rw q
