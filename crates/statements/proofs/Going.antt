-- The loop over statements: what is left from the start is what is left from here.
-- Assumes nothing.
use Prim.Native.Nat.{ℕ, zero, suc, ◌+◌, ◌-◌, ◌<◌, ◌≤◌}
use mathlib.Core.Path.{◌≡◌, ◌∙◌, refl, ap}
use mathlib.Core.List.{List, ◌++◌}
use native.Mathlib.Omega.{arith}
use borrow.Author.Tests.{ne_eqb}
use lib.ListN.{length}
use Rattle.std.specs.Prelude.{Result, Ok, Err, IsErrAnd}
use Rattle.meaning.specs.Basics.{if◌then◌otherwise◌}
use Rattle.meaning.specs.Token.{close_brace}
use Rattle.meaning.specs.Grammar.{Got, good, wrong, after}
use Rattle.expressions.specs.declared.Read.{Read}
use Rattle.expressions.specs.declared.Misfit.{Misfit}
use Rattle.expressions.specs.declared.Target.TheVariants.{Neither}
use Rattle.expressions.specs.Words.{kind_at, is, at, seen, written_code}
use Rattle.expressions.proofs.Answers.{says_code, exits, wrote_code, same_after, shifted}
use Rattle.statements.specs.Words.{statements_from, statements, statement}
use Rattle.statements.specs.Room.{Space}
use Rattle.statements.proofs.Paid.{statement_paid}

-- ---- rounds
-- a statement, and what `rest` yields behind it
abbrev turn : List ℕ → (ℕ → Got (List ℕ)) → List ℕ → ℕ → Got (List ℕ)
turn ws rest s j = if is close_brace ws j then (λ _. good s (j + 1)) otherwise λ _. after (rest j) λ ss m. good (s ++ ss) m

same_turn : (ws : List ℕ) (f h : ℕ → Got (List ℕ)) (s : List ℕ) (j : ℕ) → f j ≡ h j → turn ws f s j ≡ turn ws h s j
same_turn ws f h s j q = rw q

-- rounds enough are enough
enough : (left : ℕ) (ws : List ℕ) (r r' i : ℕ) → length ws - i < r → length ws - i < r'
    → statements_from r (statement left ws) ws i ≡ statements_from r' (statement left ws) ws i
unfolding statements_from
enough left ws zero r' i h l = absurd (omega arith)
enough left ws (suc r) zero i h l = absurd (omega arith)
enough left ws (suc r) (suc r') i h l = same_after (statement left ws i) _ _ λ s j q.
    let p = statement_paid left ws i s j q in
    same_turn ws (statements_from r (statement left ws) ws) (statements_from r' (statement left ws) ws) s j
    (enough left ws r r' j (omega (arith, p.ahead, p.within)) (omega (arith, p.ahead, p.within)))

-- the statements from a token on
unfoldable pub rest : ℕ → List ℕ → ℕ → Got (List ℕ)
rest left ws i = statements (statement left ws) ws i

rest_turns : (left : ℕ) (ws : List ℕ) (i : ℕ) → rest left ws i ≡ after (statement left ws i) (turn ws (rest left ws))
unfolding rest statements_from
rest_turns left ws i = same_after (statement left ws i) _ _ λ s j q.
    let p = statement_paid left ws i s j q in
    same_turn ws (statements_from (length ws - i) (statement left ws) ws) (rest left ws) s j
    (enough left ws (length ws - i) (suc (length ws - j)) j (omega (arith, p.ahead, p.within)) (omega (arith, p.ahead, p.within)))

-- ---- the loop
-- statements from token i and word n on were read up to token p and word m
pub record Going (left : ℕ) (ws : List ℕ) (i n : ℕ) (s₀ : List ℕ) (p m : ℕ) (s : List ℕ) : Type 0 where
  pub same : written_code (statements (statement left ws) ws i) n s₀ ≡ written_code (rest left ws p) m s
  pub ahead : i ≤ p
  pub space : Space ws s p m
  pub kept : length s ≡ length s₀

pub going_starts : (left : ℕ) (ws : List ℕ) (i n : ℕ) (s : List ℕ) → Space ws s i n → Going left ws i n s i n s
unfolding rest
going_starts left ws i n s o = record { same = refl; ahead = omega arith; space = o; kept = refl }

-- a turn: the statement ended before token j, with the words up to q
pub record Turned (ws s : List ℕ) (p j q : ℕ) : Type 0 where
  pub ahead : p < j
  pub within : j ≤ length ws
  pub space : Space ws s j q

module _ (left : ℕ) (ws : List ℕ) (i n : ℕ) (s₀ : List ℕ) (p m : ℕ) (s : List ℕ) (g : Going left ws i n s₀ p m s) where
  -- an exit by `?`: the rest fails as its first statement does
  pub going_fails : (e : Misfit) (r : Result Read Misfit) (s₁ : List ℕ) → IsErrAnd r (λ x. x ≡ e) → seen (Err e) s₁ ≡ written_code (statement left ws p) m s
      → seen r s₁ ≡ written_code (statements (statement left ws) ws i) n s₀
  going_fails e r s₁ y h = rw g.same (exits (says_code m s) (says_code m s) _ _ e r s₁ (rest_turns left ws p) y h)

  module _ (e : Read) (s₁ : List ℕ) (h : seen (Ok e) s₁ ≡ written_code (statement left ws p) m s) (l : length s₁ ≡ length s) where
    pub turned : Turned ws s₁ p e.token e.word
    turned =
        let w = wrote_code _ m s s₁ e h in
        let y = statement_paid left ws p w.code e.token w.read in
        let o = g.space in
        record {
          ahead = y.ahead;
          within = y.within;
          space = record { behind = omega (arith, w.up_to, y.paid, o.behind); wide = omega (arith, o.wide); few = o.few };
        }

    module _ (kind : ℕ) (k : kind ≡ kind_at ws e.token) where
      pub going_on : (kind ≡ 125 → ⊥) → Going left ws i n s₀ e.token e.word s₁
      unfolding after if◌then◌otherwise◌
      going_on c =
          let w = wrote_code _ m s s₁ e h in
          let y = turned in
          let r : written_code (rest left ws p) m s ≡ written_code (rest left ws e.token) e.word s₁ =
          rw (rest_turns left ws p, w.read, ← k, ne_eqb _ _ c) (shifted (rest left ws e.token) w.code s s₁ m e.word w.up_to w.front) in
          record { same = g.same ∙ r; ahead = omega (arith, g.ahead, y.ahead); space = y.space; kept = omega (arith, g.kept) }

      pub going_ends : kind ≡ 125 → seen (Ok (record { token = e.token + 1; word = e.word; target = Neither })) s₁ ≡ written_code (statements (statement left ws) ws i) n s₀
      unfolding after if◌then◌otherwise◌ seen written_code
      going_ends c =
          let w = wrote_code _ m s s₁ e h in
          rw (g.same, rest_turns left ws p, w.read, ← k, c, ← w.up_to) (ap (at (e.token + 1) e.word Neither) w.front)
