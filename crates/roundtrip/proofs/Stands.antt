-- Words that stand among some tokens, from one index up to another.
use Prim.Native.Nat.{ℕ, zero, suc, ◌+◌}
use native.Mathlib.Omega.{arith}
use mathlib.Core.Path.{◌≡◌, refl, ap, sym, ◌∙◌, subst}
use mathlib.Core.List.{List, [], ◌∷◌, ◌++◌}
use lib.ListN.{length, get_or, drop}
use Rattle.meaning.specs.Token.{Token, digits, minus}
use Rattle.meaning.specs.Grammar.{kind_at, text_at, start_at, after_last}
use Rattle.roundtrip.proofs.Words.{Word, plain, negative, tokens}
use Rattle.roundtrip.proofs.Lexes.{Spell, none, one, signed}

abbrev pub Stands : List Token → ℕ → List Word → ℕ → Type 0
Stands ts i [] j = i ≡ j
Stands ts i (plain k x ∷ ws) j = (kind_at ts i ≡ k) × (text_at ts i ≡ x) × Stands ts (i + 1) ws j
Stands ts i (negative x ∷ ws) j =
    (kind_at ts i ≡ minus) × (kind_at ts (i + 1) ≡ digits) × (text_at ts (i + 1) ≡ x) × (start_at ts (i + 1) ≡ start_at ts i + 1) × Stands ts (i + 2) ws j

-- words behind others
pub split : (ts : List Token) (i : ℕ) (ws vs : List Word) (j : ℕ) → Stands ts i (ws ++ vs) j → (m : ℕ) × Stands ts i ws m × Stands ts m vs j
split ts i [] vs j h = (i, refl, h)
split ts i (plain k x ∷ ws) vs j h =
    let r = split ts (i + 1) ws vs j h.2 in
    (r.0, (h.0, h.1, r.1), r.2)
split ts i (negative x ∷ ws) vs j h =
    let r = split ts (i + 2) ws vs j h.4 in
    (r.0, (h.0, h.1, h.2, h.3, r.1), r.2)

-- ---- tokens that spell words
-- the first of what is left
drop_first : (i : ℕ) (ts : List Token) (t : Token) (us : List Token) → drop i ts ≡ t ∷ us → (get_or ts i after_last ≡ t) × (drop (suc i) ts ≡ us)
drop_first zero [] t us e = let z : ◌≡◌ {A = ℕ} 0 1 = cc in absurd (omega arith)
drop_first zero (u ∷ ts) t us e = (cc, cc)
drop_first (suc i) [] t us e = let z : ◌≡◌ {A = ℕ} 0 1 = cc in absurd (omega arith)
drop_first (suc i) (u ∷ ts) t us e = drop_first i ts t us e

-- the token at i, and those behind it
here : (i : ℕ) (ts : List Token) (t : Token) (us : List Token) → drop i ts ≡ t ∷ us → (get_or ts i after_last ≡ t) × (drop (i + 1) ts ≡ us)
here i ts t us e =
    let a = drop_first i ts t us e in
    let n : suc i ≡ i + 1 = omega arith in
    (a.0, subst (λ (k : ℕ). drop k ts ≡ us) n a.1)

-- they stand where they are the next
pub spell_stands : (ts us : List Token) {ws : List Word} (i j : ℕ) → Spell ws us → drop i ts ≡ us → j ≡ i + length us → Stands ts i ws j
spell_stands ts us i j none e l = omega arith
spell_stands ts us i j (one {ts = vs} p h) e l =
    let a = here i ts _ vs e in
    (ap (λ (t : Token). t.kind) a.0, ap (λ (t : Token). t.text) a.0, spell_stands ts vs (i + 1) j h a.1 (omega arith))
spell_stands ts us i j (signed {ts = vs} p h) e l =
    let a = here i ts _ (_ ∷ vs) e in
    let b = here (i + 1) ts _ vs a.1 in
    let m : i + 1 + 1 ≡ i + 2 = omega arith in (
      ap (λ (t : Token). t.kind) a.0,
      ap (λ (t : Token). t.kind) b.0,
      ap (λ (t : Token). t.text) b.0,
      ap (λ (t : Token). t.place) b.0 ∙ ap (λ (n : ℕ). n + 1) (sym (ap (λ (t : Token). t.place) a.0)),
      spell_stands ts vs (i + 2) j h (subst (λ (k : ℕ). drop k ts ≡ vs) m b.1) (omega arith),
    )

-- what a spelling has for tokens
pub spell_length : {ws : List Word} {ts : List Token} → Spell ws ts → length ts ≡ tokens ws
spell_length none = refl
spell_length (one p h) = ap suc (spell_length h)
spell_length (signed p h) = ap (λ (n : ℕ). suc (suc n)) (spell_length h)
