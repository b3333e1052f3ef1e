-- Each word of a procedure's code is paid by a token of its own.
-- Assumes nothing.
use Prim.Native.Nat.{ℕ, zero, suc, ◌+◌, ◌-◌, ◌*◌, ◌<◌, ◌≤◌}
use mathlib.Core.Path.{◌≡◌, ◌∙◌, refl, sym, ap, subst}
use mathlib.Core.List.{List, [], ◌∷◌}
use native.Mathlib.Omega.{arith}
use lib.ListN.{length}
use Rattle.meaning.specs.Token.{a_name, word_def, comma, open_paren, close_paren, open_brace}
use Rattle.meaning.specs.Grammar.{Got, good, wrong}
use Rattle.expressions.specs.Words.{place_at, home_at, is, expect}
use Rattle.expressions.proofs.Tokens.{chosen}
use Rattle.expressions.proofs.Paid.{Paid}
use Rattle.statements.specs.Words.{skip, statements, statement}
use Rattle.statements.specs.Steps.{inside_of}
use Rattle.expressions.proofs.Pays.{kind_inside}
use Rattle.statements.proofs.Paid.{Pays, pays, over, on, statements_from_pay, expect_good, skip_good, inside_pays}
use Rattle.definitions.specs.Words.{name_at, Head, parameters_from, parameters, body, procedure}

-- read from a later token on
later : (ws : List ℕ) (i m : ℕ) (g : Got (List ℕ)) → i ≤ m → Pays ws m g → Pays ws i g
later ws i m (good c j) h p = record { some = p.some; ahead = omega (arith, p.ahead); paid = omega (arith, p.paid); within = p.within }
later ws i m (wrong k p) h q = tt

pub body_paid : (ws : List ℕ) (i : ℕ) (c : List ℕ) (j : ℕ) → body ws i ≡ good c j → Paid c ws i j
unfolding body inside_of
body_paid ws i c j q =
    pays ws i _ (on ws i (skip open_brace ws i) _ λ u m e.
    later ws i m (statements (statement 64 ws) ws m) (omega (arith, skip_good open_brace ws i u m e)) (statements_from_pay ws (statement 64 ws) (inside_pays 65 ws).1 (suc (length ws - m)) m)) c j q

-- ---- parameters and procedures
-- two tokens for each parameter, and one at least
abbrev PaysSlots : List ℕ → ℕ → Got (List ℕ) → Type 0
PaysSlots ws i (good xs j) = (i + 2 * length xs ≤ j) × (i < j) × (j ≤ length ws)
PaysSlots ws i (wrong k p) = Unit {0}

last_slot_pays : (ws : List ℕ) (i j x : ℕ) → j ≡ i + 1 → PaysSlots ws i (expect close_paren ws j (x ∷ []))
unfolding expect
last_slot_pays ws i j x h = chosen (PaysSlots ws i) (is close_paren ws j) _ _ (λ b. let w = kind_inside ws j 40 b in omega arith) (λ _. tt)

slots_pay : (rounds : ℕ) (ws : List ℕ) (i : ℕ) → PaysSlots ws i (parameters_from rounds ws i)
unfolding parameters_from
slots_pay zero ws i = tt
slots_pay (suc rounds) ws i = over (PaysSlots ws i) (expect a_name ws i (home_at ws i)) _ (λ k p. tt) λ x j q.
    let e = expect_good a_name ws i (home_at ws i) x j q in
    chosen (PaysSlots ws i) (is comma ws j) _ _
    (λ _. over (PaysSlots ws i) (parameters_from rounds ws (j + 1)) _ (λ k p. tt) λ xs m r.
    let w : PaysSlots ws (j + 1) (good xs m) = subst (PaysSlots ws (j + 1)) r (slots_pay rounds ws (j + 1)) in
    omega arith)
    (λ _. last_slot_pays ws i j x e.1)

pub parameters_paid : (ws : List ℕ) (i : ℕ) (xs : List ℕ) (j : ℕ) → parameters ws i ≡ good xs j → (i + length xs < j) × (j ≤ length ws)
unfolding parameters
parameters_paid ws i xs j q =
    let w : PaysSlots ws i (good xs j) = subst (PaysSlots ws i) q (
    chosen (PaysSlots ws i) (is close_paren ws i) _ _ (λ b. let w = kind_inside ws i 40 b in omega arith) (λ _. slots_pay (suc (length ws - i)) ws i)) in
    omega arith

-- a procedure from token i up to token j
pub record PaidHead (h : Head) (ws : List ℕ) (i j : ℕ) : Type 0 where
  pub place : h.place ≡ place_at ws i
  pub name : h.name ≡ name_at ws (i + 1)
  pub some : 0 < length h.body
  pub paid : i + length h.slots + length h.body + 3 < j
  pub within : j ≤ length ws

abbrev PaysHead : List ℕ → ℕ → Got Head → Type 0
PaysHead ws i (good h j) = PaidHead h ws i j
PaysHead ws i (wrong k p) = Unit {0}

pub procedure_paid : (ws : List ℕ) (i : ℕ) (h : Head) (j : ℕ) → procedure ws i ≡ good h j → PaidHead h ws i j
unfolding procedure
procedure_paid ws i h j q = subst (PaysHead ws i) q (
    over (PaysHead ws i) (skip word_def ws i) _ (λ k p. tt) λ u₁ i₁ q₁.
    over (PaysHead ws i) (expect a_name ws i₁ (name_at ws i₁)) _ (λ k p. tt) λ f i₂ q₂.
    over (PaysHead ws i) (skip open_paren ws i₂) _ (λ k p. tt) λ u₃ i₃ q₃.
    over (PaysHead ws i) (parameters ws i₃) _ (λ k p. tt) λ xs i₄ q₄.
    over (PaysHead ws i) (body ws i₄) _ (λ k p. tt) λ ss i₅ q₅.
    let e₁ = skip_good word_def ws i u₁ i₁ q₁ in
    let e₂ = expect_good a_name ws i₁ (name_at ws i₁) f i₂ q₂ in
    let e₃ = skip_good open_paren ws i₂ u₃ i₃ q₃ in
    let e₄ = parameters_paid ws i₃ xs i₄ q₄ in
    let e₅ = body_paid ws i₄ ss i₅ q₅ in
    record {
      place = refl;
      name = sym e₂.0 ∙ ap (name_at ws) e₁;
      some = e₅.some;
      paid = omega (arith, e₂.1, e₅.paid);
      within = e₅.within;
    })
