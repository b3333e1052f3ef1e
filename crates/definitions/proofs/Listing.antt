-- The loop over the parameters: what is left from the start is what is left from here.
-- Assumes nothing.
use Prim.Native.Nat.{ℕ, zero, suc, ◌+◌, ◌-◌, ◌<◌}
use mathlib.Core.Path.{◌≡◌, ◌∙◌, refl, sym, ap}
use mathlib.Core.List.{List, [], ◌∷◌, ◌++◌, append-nil}
use native.Mathlib.Omega.{arith}
use borrow.Author.Tests.{ne_eqb}
use lib.ListN.{length, take, set, length-set}
use Rattle.std.specs.Prelude.{Ok, Err}
use Rattle.meaning.specs.Basics.{if◌then◌otherwise◌}
use Rattle.meaning.specs.Token.{a_name, comma, close_paren}
use Rattle.meaning.specs.Grammar.{Got, good, after}
use Rattle.expressions.specs.declared.Target.TheVariants.{Neither}
use Rattle.expressions.specs.Words.{kind_at, home_at, is, expect, at, seen, written_code}
use Rattle.expressions.proofs.Tokens.{chosen, token_inside}
use Rattle.expressions.proofs.Pays.{kind_inside}
use Rattle.expressions.proofs.Answers.{take_put, says_code, refused, same_after, shifted}
use Rattle.definitions.specs.Words.{parameters_from, parameters}
use Rattle.statements.specs.Room.{Space}
use Rattle.statements.proofs.Paid.{expect_good}

-- ---- rounds
-- a slot, and what `rest` yields behind a comma
abbrev turn : List ℕ → (ℕ → Got (List ℕ)) → ℕ → ℕ → Got (List ℕ)
turn ws rest x j = if is comma ws j then (λ _. after (rest (j + 1)) λ xs m. good (x ∷ xs) m) otherwise λ _. expect close_paren ws j (x ∷ [])

same_turn : (ws : List ℕ) (f h : ℕ → Got (List ℕ)) (x j : ℕ) → f (j + 1) ≡ h (j + 1) → turn ws f x j ≡ turn ws h x j
same_turn ws f h x j q = rw q

expect_inside : {A : Type 0} (k : ℕ) (ws : List ℕ) (j : ℕ) (a b : A) (m : ℕ) → expect (suc k) ws j a ≡ good b m → j < length ws
unfolding expect
expect_inside k ws j a b m =
    chosen (λ g. g ≡ good b m → j < length ws) (is (suc k) ws j) _ _ (λ e _. kind_inside ws j k e)
    (λ _ q. let z : ◌≡◌ {A = ℕ} 0 1 = cc in absurd (omega arith))

-- rounds enough are enough
enough : (ws : List ℕ) (r r' i : ℕ) → length ws - i < r → length ws - i < r' → parameters_from r ws i ≡ parameters_from r' ws i
unfolding parameters_from
enough ws zero r' i h l = absurd (omega arith)
enough ws (suc r) zero i h l = absurd (omega arith)
enough ws (suc r) (suc r') i h l = same_after (expect a_name ws i (home_at ws i)) _ _ λ x j q.
    let p = expect_good a_name ws i (home_at ws i) x j q in
    let o = expect_inside 0 ws i (home_at ws i) x j q in
    same_turn ws (parameters_from r ws) (parameters_from r' ws) x j (enough ws r r' (j + 1) (omega (arith, p.1)) (omega (arith, p.1)))

-- the parameters from a token on
unfoldable pub rest : List ℕ → ℕ → Got (List ℕ)
rest ws i = parameters_from (suc (length ws - i)) ws i

rest_turns : (ws : List ℕ) (i : ℕ) → rest ws i ≡ after (expect a_name ws i (home_at ws i)) (turn ws (rest ws))
unfolding rest parameters_from
rest_turns ws i = same_after (expect a_name ws i (home_at ws i)) _ _ λ x j q.
    let p = expect_good a_name ws i (home_at ws i) x j q in
    let o = expect_inside 0 ws i (home_at ws i) x j q in
    same_turn ws (parameters_from (length ws - i) ws) (rest ws) x j
    (enough ws (length ws - i) (suc (length ws - (j + 1))) (j + 1) (omega (arith, p.1)) (omega (arith, p.1)))

-- ---- the loop
-- parameters from token i and word n on were read up to token p and word m
pub record Listing (ws : List ℕ) (i n : ℕ) (s₀ : List ℕ) (p m : ℕ) (s : List ℕ) : Type 0 where
  pub same : written_code (parameters ws i) n s₀ ≡ written_code (rest ws p) m s
  pub space : Space ws s p m
  pub kept : length s ≡ length s₀

module _ (ws : List ℕ) (i n : ℕ) (s : List ℕ) (kind : ℕ) (k : kind ≡ kind_at ws i) where
  pub parameters_none : kind ≡ 41 → seen (Ok (record { token = i + 1; word = n; target = Neither })) s ≡ written_code (parameters ws i) n s
  unfolding parameters if◌then◌otherwise◌ seen written_code
  parameters_none e =
      let z : n + 0 ≡ n = omega arith in
      rw (← k, e, z, append-nil)

  pub listing_starts : Space ws s i n → (kind ≡ 41 → ⊥) → Listing ws i n s i n s
  unfolding parameters if◌then◌otherwise◌ rest
  listing_starts o h = record { same = rw (← k, ne_eqb _ _ h); space = o; kept = refl }

module _ (ws : List ℕ) (i n : ℕ) (s₀ : List ℕ) (p m : ℕ) (s : List ℕ) (g : Listing ws i n s₀ p m s) (kind : ℕ) (k : kind ≡ kind_at ws p) where
  pub listing_stops : (kind ≡ 1 → ⊥) → seen (Err (record { number = 10; token = p })) s ≡ written_code (parameters ws i) n s₀
  unfolding expect after if◌then◌otherwise◌
  listing_stops h = rw g.same (refused (says_code m s) _ s (rw (rest_turns ws p, ← k, ne_eqb _ _ h)))

  module _ (o : kind ≡ 1) (x : ℕ) (u : x ≡ home_at ws p) (s₁ : List ℕ) (v : s₁ ≡ set s m x) (next : ℕ) (y : next ≡ kind_at ws (p + 1)) where
    here : p < length ws
    here = token_inside ws p 1 (sym k ∙ o) (λ z. omega arith)

    put : take (m + 1) s₁ ≡ take m s ++ (x ∷ [])
    put = let h = here in rw v (take_put s m x (omega (arith, g.space.behind, g.space.wide)))

    pub listing_fails : (next ≡ 41 → ⊥) → (next ≡ 44 → ⊥) → seen (Err (record { number = 10; token = p + 1 })) s₁ ≡ written_code (parameters ws i) n s₀
    unfolding expect after if◌then◌otherwise◌
    listing_fails h l = rw g.same (refused (says_code m s) _ s₁ (rw (rest_turns ws p, ← k, o, ← y, ne_eqb _ _ l, ne_eqb _ _ h)))

    pub listing_ends : next ≡ 41 → seen (Ok (record { token = p + 2; word = m + 1; target = Neither })) s₁ ≡ written_code (parameters ws i) n s₀
    unfolding expect after if◌then◌otherwise◌ seen written_code
    listing_ends h =
        let z : p + 2 ≡ p + 1 + 1 = omega arith in
        rw (g.same, rest_turns ws p, ← k, o, ← y, h, ← u, z) (ap (at (p + 1 + 1) (m + 1) Neither) put)

    pub listing_on : next ≡ 44 → Listing ws i n s₀ (p + 2) (m + 1) s₁
    unfolding expect after if◌then◌otherwise◌
    listing_on h =
        let z : p + 1 + 1 ≡ p + 2 = omega arith in
        let q : rest ws p ≡ after (rest ws (p + 2)) λ xs j. good ((x ∷ []) ++ xs) j = rw (rest_turns ws p, ← k, o, ← y, h, ← u, z) in
        record {
          same = g.same ∙ ap (λ a. written_code a m s) q ∙ shifted (rest ws (p + 2)) (x ∷ []) s s₁ m (m + 1) (omega arith) put;
          space = record {
            behind = omega (arith, g.space.behind);
            wide = rw (v, length-set) g.space.wide;
            few = g.space.few;
          };
          kept = rw (v, length-set) g.kept;
        }
