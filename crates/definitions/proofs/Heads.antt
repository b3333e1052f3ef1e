-- A procedure: its first tokens, its parameters, its body.
-- Assumes nothing.
use Prim.Native.Nat.{ℕ, ◌+◌, ◌-◌, ◌<◌, ◌≤◌}
use mathlib.Core.Path.{◌≡◌, ◌∙◌, refl, ap}
use mathlib.Core.List.{List, ◌++◌, append_assoc}
use native.Mathlib.Omega.{arith}
use borrow.Author.Tests.{ne_eqb}
use lib.ListN.{length, take}
use Rattle.std.specs.Prelude.{Result, Ok, Err, IsErrAnd}
use Rattle.std.proofs.lemmas.Result.{err_from_is_err_and}
use Rattle.meaning.specs.Basics.{if◌then◌otherwise◌}
use Rattle.meaning.specs.Grammar.{Got, good, wrong, after}
use Rattle.expressions.specs.declared.Read.{Read}
use Rattle.expressions.specs.declared.Misfit.{Misfit}
use Rattle.expressions.specs.Words.{kind_at, place_at, expect, seen, written_code}
use Rattle.expressions.proofs.Answers.{says_code, refused, fails, after_good, wrote_code}
use Rattle.statements.specs.Words.{statements, statement}
use Rattle.definitions.specs.declared.Procedure.{Procedure}
use Rattle.definitions.specs.Words.{name_at, Head, parameters, body, procedure, seen_procedure, written_procedure}
use Rattle.statements.specs.Room.{Space}
use Rattle.definitions.specs.Room.{Ground}
use Rattle.definitions.proofs.Paid.{parameters_paid}

-- ---- the body
module _ (ws : List ℕ) (i n : ℕ) (s₀ : List ℕ) (kind : ℕ) (k : kind ≡ kind_at ws i) where
  pub body_other : (kind ≡ 123 → ⊥) → seen (Err (record { number = 10; token = i })) s₀ ≡ written_code (body ws i) n s₀
  unfolding body expect after if◌then◌otherwise◌
  body_other h = refused (says_code n s₀) _ s₀ (rw (← k, ne_eqb _ _ h))

  pub body_reads : kind ≡ 123 → (r : Result Read Misfit) (s : List ℕ) → seen r s ≡ written_code (statements (statement 64 ws) ws (i + 1)) n s₀ → seen r s ≡ written_code (body ws i) n s₀
  unfolding body expect after if◌then◌otherwise◌
  body_reads o r s h = rw (← k, o) h

-- ---- the procedure
pub refused_head : (g : Got Head) (e : Misfit) (n : ℕ) (s₀ s : List ℕ) → g ≡ wrong e.number e.token → seen_procedure (Err e) s ≡ written_procedure g n s₀
unfolding seen_procedure written_procedure
refused_head g e n s₀ s q = rw q

-- each exit by `?`
pub head_exits : (g : Got Head) (e : Misfit) (r : Result Procedure Misfit) (n : ℕ) (s₀ s : List ℕ) → IsErrAnd r (λ x. x ≡ e) → g ≡ wrong e.number e.token
    → seen_procedure r s ≡ written_procedure g n s₀
head_exits g e r n s₀ s i q = let p = err_from_is_err_and r i in rw (p.1, p.2) (refused_head g e n s₀ s q)

-- what stands behind the parenthesis
abbrev inner : List ℕ → ℕ → Got Head
inner ws i =
    after (parameters ws (i + 3)) λ xs j.
    after (body ws j) λ ss e.
    good (record { place = place_at ws i; name = name_at ws (i + 1); slots = xs; body = ss }) e

module _ (ws : List ℕ) (i : ℕ) (first : ℕ) (k : first ≡ kind_at ws i) where
  pub head_other : (n : ℕ) (s : List ℕ) → (first ≡ 4 → ⊥) → seen_procedure (Err (record { number = 10; token = i })) s ≡ written_procedure (procedure ws i) n s
  unfolding procedure expect after if◌then◌otherwise◌
  head_other n s h = refused_head _ _ n s s (rw (← k, ne_eqb _ _ h))

  module _ (o : first ≡ 4) (name : ℕ) (l : name ≡ kind_at ws (i + 1)) where
    pub head_nameless : (n : ℕ) (s : List ℕ) → (name ≡ 1 → ⊥) → seen_procedure (Err (record { number = 10; token = i + 1 })) s ≡ written_procedure (procedure ws i) n s
    unfolding procedure expect after if◌then◌otherwise◌
    head_nameless n s h = refused_head _ _ n s s (rw (← k, o, ← l, ne_eqb _ _ h))

    module _ (z : name ≡ 1) (paren : ℕ) (u : paren ≡ kind_at ws (i + 2)) where
      pub head_shut : (n : ℕ) (s : List ℕ) → (paren ≡ 40 → ⊥) → seen_procedure (Err (record { number = 10; token = i + 2 })) s ≡ written_procedure (procedure ws i) n s
      unfolding procedure expect after if◌then◌otherwise◌
      head_shut n s h =
          let y : i + 1 + 1 ≡ i + 2 = omega arith in
          refused_head _ _ n s s (rw (← k, o, ← l, z, y, ← u, ne_eqb _ _ h))

      pub opens : paren ≡ 40 → procedure ws i ≡ inner ws i
      unfolding procedure expect after if◌then◌otherwise◌
      opens v =
          let y : i + 1 + 1 ≡ i + 2 = omega arith in
          let x : i + 2 + 1 ≡ i + 3 = omega arith in
          rw (← k, o, ← l, z, y, ← u, v, x)

-- behind the parenthesis
module _ (ws : List ℕ) (i n : ℕ) (s₀ : List ℕ) (o : procedure ws i ≡ inner ws i) where
  pub head_uncounted : (e : Misfit) (r : Result Procedure Misfit) (s : List ℕ) → IsErrAnd r (λ x. x ≡ e) → seen (Err e) s ≡ written_code (parameters ws (i + 3)) n s₀
      → seen_procedure r s ≡ written_procedure (procedure ws i) n s₀
  head_uncounted e r s y h = head_exits _ e r n s₀ s y (fails (says_code n s₀) _ _ e s o h)

  module _ (p : Read) (s : List ℕ) (c : seen (Ok p) s ≡ written_code (parameters ws (i + 3)) n s₀) where
    -- the parameters end before this token and word
    pub behind_parameters : (n + 0 ≤ p.word) × (i + 3 + (p.word - n) < p.token) × (p.token ≤ length ws)
    behind_parameters =
        let w = wrote_code _ n s₀ s p c in
        let q = parameters_paid ws (i + 3) w.code p.token w.read in
        omega (arith, w.up_to)

    pub body_space : Ground ws s₀ i n → length s ≡ length s₀ → Space ws s p.token p.word
    body_space g e =
        let q = behind_parameters in
        record { behind = omega (arith, g.behind); wide = omega (arith, g.wide); few = g.few }

    abbrev slots : List ℕ
    slots = (wrote_code _ n s₀ s p c).code

    counted : procedure ws i ≡ after (body ws p.token) λ ss j. good (record { place = place_at ws i; name = name_at ws (i + 1); slots = slots; body = ss }) j
    counted = o ∙ after_good _ _ _ (wrote_code _ n s₀ s p c).read _

    pub head_bodiless : (e : Misfit) (r : Result Procedure Misfit) (s₁ : List ℕ) → IsErrAnd r (λ x. x ≡ e) → seen (Err e) s₁ ≡ written_code (body ws p.token) p.word s
        → seen_procedure r s₁ ≡ written_procedure (procedure ws i) n s₀
    head_bodiless e r s₁ y h = head_exits _ e r n s₀ s₁ y (fails (says_code p.word s) _ _ e s₁ counted h)

    pub head_reads : (b : Read) (s₁ : List ℕ) → seen (Ok b) s₁ ≡ written_code (body ws p.token) p.word s
        → seen_procedure (Ok (record { token = b.token; word = b.word; parameters = p.word - n })) s₁ ≡ written_procedure (procedure ws i) n s₀
    unfolding seen_procedure written_procedure
    head_reads b s₁ d =
        let w = wrote_code _ n s₀ s p c in
        let y = wrote_code _ p.word s s₁ b d in
        let f₁ : b.word ≡ n + length w.code + length y.code = omega (arith, w.up_to, y.up_to) in
        let f₂ : p.word - n ≡ length w.code = omega (arith, w.up_to) in
        let f₃ : take b.word s₁ ≡ take n s₀ ++ (w.code ++ y.code) = y.front ∙ ap (λ a. a ++ y.code) w.front ∙ append_assoc (take n s₀) w.code y.code in
        rw (counted ∙ after_good _ _ _ y.read _, f₃, f₂, ← f₁)
