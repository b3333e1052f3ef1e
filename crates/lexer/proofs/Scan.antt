-- Reading on from a place.
-- Assumes nothing.
use mathlib.Core.Path.{◌≡◌, ◌∙◌, refl, sym, ap}
use mathlib.Core.Bool.{false}
use mathlib.Core.List.{List, [], ◌∷◌, ◌++◌, append_assoc}
use Prim.Native.Nat.{ℕ, zero, suc, ◌+◌, ◌-◌, ◌≤◌, ◌<◌}
use native.Mathlib.Numerals.{add-one}
use native.Mathlib.Nat.{add-zero}
use native.Mathlib.Omega.{arith}
use borrow.Author.Tests.{ne_eqb}
use lib.ListN.{length, get_or, drop, drop_of_length-le}
use lib.Seq.{drop-cons, drop-drop}
use Rattle.meaning.specs.Basics.{if◌then◌otherwise◌}
use Rattle.meaning.specs.Byte.{is_space, class_of}
use Rattle.meaning.specs.Token.{Token, found, nothing, front, Lexed, lexed, stray, prepend, starting, scan}
use Rattle.lexer.proofs.Classes.{is_space_lem}

-- what is left of a program at a place
abbrev pub here : List ℕ → ℕ → Lexed
here s at = scan 0 at (drop at s)

skip : (k at : ℕ) (l : List ℕ) → scan k at l ≡ scan 0 (at + k) (drop k l)
unfolding scan
skip zero at l = ap (λ (n : ℕ). scan 0 n l) (sym (add-zero at))
skip (suc k) at [] = refl
skip (suc k) at (x ∷ xs) = skip k (suc at) xs ∙ ap (λ (n : ℕ). scan 0 n (drop k xs)) (omega arith)

module _ (s : List ℕ) (at : ℕ) where
  pub at_end : length s ≤ at → here s at ≡ lexed []
  unfolding scan
  at_end h = rw (drop_of_length-le s {i = at} h)

  pub at_space : at < length s → class_of (get_or s at 0) ≡ 1 → here s at ≡ here s (at + 1)
  unfolding scan if◌then◌otherwise◌
  at_space h e = rw (drop-cons s at 0, is_space_lem (get_or s at 0), e, add-one at)

  no_space : (class_of (get_or s at 0) ≡ 1 → ⊥) → is_space (get_or s at 0) ≡ false
  no_space n = is_space_lem (get_or s at 0) ∙ ne_eqb _ 1 n

  pub at_stray : at < length s → (class_of (get_or s at 0) ≡ 1 → ⊥) → front (drop at s) ≡ nothing → here s at ≡ stray at
  unfolding scan if◌then◌otherwise◌ starting
  at_stray h n e =
      let q : front (get_or s at 0 ∷ drop (suc at) s) ≡ nothing = ap front (sym (drop-cons s at 0 h)) ∙ e in
      rw (drop-cons s at 0, no_space n, q)

  pub at_token : (k n : ℕ) (w : List ℕ) → at < length s → (class_of (get_or s at 0) ≡ 1 → ⊥) → front (drop at s) ≡ found k n w → 0 < n
      → here s at ≡ prepend (record { kind = k; place = at; text = w }) (here s (at + n))
  unfolding scan if◌then◌otherwise◌ starting
  at_token k n w h c e l =
      let q : front (get_or s at 0 ∷ drop (suc at) s) ≡ found k n w = ap front (sym (drop-cons s at 0 h)) ∙ e in
      let m : suc at + (n - 1) ≡ at + n = omega arith in
      rw (drop-cons s at 0, no_space c, q)
      (ap (prepend (record { kind = k; place = at; text = w })) (skip (n - 1) (suc at) (drop (suc at) s) ∙ rw (drop-drop, m)))

-- several tokens in front
unfoldable pub prepend_all : List Token → Lexed → Lexed
prepend_all ts (lexed us) = lexed (ts ++ us)
prepend_all ts (stray p) = stray p

pub prepend_none : (r : Lexed) → prepend_all [] r ≡ r
unfolding prepend_all
prepend_none (lexed us) = refl
prepend_none (stray p) = refl

pub prepend_more : (ts : List Token) (t : Token) (r : Lexed) → prepend_all ts (prepend t r) ≡ prepend_all (ts ++ t ∷ []) r
unfolding prepend_all prepend
prepend_more ts t (lexed us) = ap lexed (sym (append_assoc ts (t ∷ []) us))
prepend_more ts t (stray p) = refl
