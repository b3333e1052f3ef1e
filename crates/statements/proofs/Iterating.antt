-- foreach: what each way through its functions answers is what reading yields.
-- Assumes nothing.
use Prim.Native.Nat.{ℕ, zero, suc, ◌+◌, ◌-◌, ◌<◌}
use mathlib.Core.Path.{◌≡◌, ◌∙◌, refl, sym, ap}
use mathlib.Core.Bool.{Bool, true, false, not, ◌||◌}
use mathlib.Core.List.{List, [], ◌∷◌, ◌++◌}
use native.Mathlib.Numerals.{add-one}
use native.Mathlib.Omega.{arith}
use borrow.Author.Tests.{ne_eqb}
use lib.Dec.{leb}
use lib.ListN.{length, set}
use Rattle.std.specs.Prelude.{Result, Ok, Err}
use Rattle.meaning.specs.Basics.{if◌then◌otherwise◌}
use Rattle.meaning.specs.Token.{a_name, word_in, word_do}
use Rattle.meaning.specs.Grammar.{Got, good, wrong, after, no_level, opening}
use Rattle.code.specs.Code.{headed}
use Rattle.expressions.specs.declared.Read.{Read}
use Rattle.expressions.specs.declared.Misfit.{Misfit}
use Rattle.expressions.specs.Words.{kind_at, place_at, home_at, payload_at, signed_at, is, ReadPiece, expect, expression, seen, written, written_code}
use Rattle.expressions.specs.Steps.{closed}
use Rattle.expressions.proofs.Tokens.{chosen}
use Rattle.expressions.proofs.Answers.{take_put, says_code, refused, wrote_code, same_after, shifted}
use Rattle.statements.specs.Words.{skip, begins_statement, iteration, statement}
use Rattle.statements.specs.Steps.{inside_of, members, each}
use Rattle.statements.proofs.Moves.{inside_level}
use Rattle.statements.proofs.Written.{after_after, chosen_after, expects_after, closed_reads}

-- ---- x in e do
members_are : (read : ReadPiece) (ws : List ℕ) (i : ℕ) → kind_at ws i ≡ 1 → kind_at ws (i + 1) ≡ 13
    → members read ws i ≡ after (read (i + 2)) λ e j. expect word_do ws j (home_at ws i ∷ e.code)
unfolding members expect after if◌then◌otherwise◌
members_are read ws i h k = let q : i + 1 + 1 ≡ i + 2 = omega arith in rw (h, k, q)

module _ (left : ℕ) (ws : List ℕ) (i n : ℕ) (s₀ : List ℕ) (kind : ℕ) (k : kind ≡ kind_at ws i) where
  pub members_nameless : (kind ≡ 1 → ⊥) → seen (Err (record { number = 10; token = i })) s₀ ≡ written_code (members (expression left ws) ws i) n s₀
  unfolding members expect after if◌then◌otherwise◌
  members_nameless h = refused (says_code n s₀) _ s₀ (rw (← k, ne_eqb _ _ h))

  module _ (z : kind ≡ 1) (next : ℕ) (l : next ≡ kind_at ws (i + 1)) where
    pub members_lack : (next ≡ 13 → ⊥) → seen (Err (record { number = 10; token = i + 1 })) s₀ ≡ written_code (members (expression left ws) ws i) n s₀
    unfolding members expect after if◌then◌otherwise◌
    members_lack h = refused (says_code n s₀) _ s₀ (rw (← k, z, ← l, ne_eqb _ _ h))

    module _ (y : next ≡ 13) where
      pub members_after : members (expression left ws) ws i ≡ after (expression left ws (i + 2)) λ e j. expect word_do ws j (home_at ws i ∷ e.code)
      members_after = members_are (expression left ws) ws i (sym k ∙ z) (sym l ∙ y)

      pub members_read : (e : Read) (r : Result Read Misfit) (x : ℕ) (s₁ s₂ : List ℕ) → n < length s₀ → x ≡ home_at ws i → s₁ ≡ set s₀ n x
          → seen (Ok e) s₂ ≡ written (expression left ws (i + 2)) (n + 1) s₁ → r ≡ closed 14 ws e
          → seen r s₂ ≡ written_code (members (expression left ws) ws i) n s₀
      members_read e r x s₁ s₂ b f g h q =
          let c = shifted (after (expression left ws (i + 2)) λ a j. expect word_do ws j a.code) (x ∷ []) s₀ s₁ n (n + 1) refl (rw g (take_put s₀ n x b)) in
          rw (members_after, ← f)
          (closed_reads e r _ 14 (n + 1) ws s₁ s₂ h q ∙ sym c ∙ ap (λ a. written_code a n s₀) (expects_after (expression left ws (i + 2)) word_do ws (λ a. x ∷ a)))

-- ---- whether a statement can begin
or_none : (b : Bool) → b || false ≡ b
or_none true = refl
or_none false = refl

module _ (ws : List ℕ) (i kind : ℕ) (k : kind ≡ kind_at ws i) where
  pub begins_digits : (x : ℕ) → kind ≡ 2 → x ≡ payload_at ws i → leb x 2147483647 ≡ begins_statement ws i
  unfolding begins_statement
  begins_digits x e h = rw (← k, e, ← h) (simp or_none)

  pub begins_minus : (r : Bool) → kind ≡ 45 → r ≡ signed_at ws i → r ≡ begins_statement ws i
  unfolding begins_statement
  begins_minus r e h = rw (← k, e) (simp or_none (rw (← k, e) at h))

  pub begins_not : (kind ≡ 1 → ⊥) → (kind ≡ 2 → ⊥) → (kind ≡ 3 → ⊥) → (kind ≡ 5 → ⊥) → (kind ≡ 6 → ⊥) → (kind ≡ 7 → ⊥) → (kind ≡ 8 → ⊥) → (kind ≡ 9 → ⊥)
      → (kind ≡ 10 → ⊥) → (kind ≡ 11 → ⊥) → (kind ≡ 12 → ⊥) → (kind ≡ 40 → ⊥) → (kind ≡ 45 → ⊥) → (kind ≡ 91 → ⊥) → (kind ≡ 123 → ⊥) → false ≡ begins_statement ws i
  unfolding begins_statement
  begins_not h1 h2 h3 h5 h6 h7 h8 h9 h10 h11 h12 h40 h45 h91 h123 =
      rw (← k, ne_eqb _ _ h2, ne_eqb _ _ h45, ne_eqb _ _ h3, ne_eqb _ _ h9, ne_eqb _ _ h10, ne_eqb _ _ h11, ne_eqb _ _ h1)
      (rw (ne_eqb _ _ h40, ne_eqb _ _ h91, ne_eqb _ _ h5, ne_eqb _ _ h6, ne_eqb _ _ h7, ne_eqb _ _ h12, ne_eqb _ _ h8, ne_eqb _ _ h123))

-- ---- foreach from its parts
expect_passes : {A B : Type 0} (k : ℕ) (ws : List ℕ) (j : ℕ) (a : A) (f : A → ℕ → Got B) → after (expect k ws j a) f ≡ after (skip k ws j) λ _ m. f a m
unfolding expect after if◌then◌otherwise◌
expect_passes k ws j a f = go (is k ws j) tt
  where
    go : (b : Bool) (u : Unit {0}) → after (if b then (λ _. good a (j + 1)) otherwise λ _. wrong 10 j) f ≡ after (if b then (λ _. good u (j + 1)) otherwise λ _. wrong 10 j) λ _ m. f a m
    go true u = refl
    go false u = refl

-- the body from token m on, where what stands between has the code c and foreach is token i
abbrev bodied : ℕ → List ℕ → ℕ → List ℕ → ℕ → Got (List ℕ)
bodied left ws i c m =
    if begins_statement ws m then (λ _.
    opening (inside_of left ws) m λ inner.
    after (inner.in_statement m) λ s q.
    good (headed 40 (place_at ws i) (length c) (c ++ s)) q)
    otherwise λ _. wrong 10 m

iteration_bodied : (left : ℕ) (ws : List ℕ) (i : ℕ)
    → iteration (expression left ws) (inside_of left ws) ws i ≡ after (members (expression left ws) ws (i + 1)) (bodied left ws i)
unfolding iteration members
iteration_bodied left ws i = sym (
    after_after (expect a_name ws (i + 1) (home_at ws (i + 1))) _ _ ∙ same_after (expect a_name ws (i + 1) (home_at ws (i + 1))) _ _ λ x i₂ _.
    after_after (skip word_in ws i₂) _ _ ∙ same_after (skip word_in ws i₂) _ _ λ _ i₃ _.
    after_after (expression left ws i₃) _ _ ∙ same_after (expression left ws i₃) _ _ λ e j _.
    expect_passes word_do ws j (x ∷ e.code) (bodied left ws i) ∙ same_after (skip word_do ws j) _ _ λ _ m _.
    rw (add-one (length e.code)))

inside_none : (left : ℕ) (ws : List ℕ) → left ≡ 0 → inside_of left ws ≡ no_level
unfolding inside_of
inside_none left ws l = rw l

turned_true : (b : Bool) → not b ≡ true → b ≡ false
turned_true true e = sym e
turned_true false e = refl

turned_false : (b : Bool) → not b ≡ false → b ≡ true
turned_false true e = refl
turned_false false e = sym e

-- ---- up to the body
pub each_after : (left : ℕ) (ws : List ℕ) (i : ℕ) → each (expression left ws) (inside_of left ws) ws i ≡ after (members (expression left ws) ws i) λ c j.
    if begins_statement ws j then (λ _. opening (inside_of left ws) j λ _. good c j) otherwise λ _. wrong 10 j
unfolding each
each_after left ws i = refl

module _ (left : ℕ) (ws : List ℕ) (i n : ℕ) (s₀ s : List ℕ) (e : Read) (h : seen (Ok e) s ≡ written_code (members (expression left ws) ws i) n s₀) (begins : Bool)
    (b : begins ≡ begins_statement ws e.token) where
  pub each_stops : not begins ≡ true → seen (Err (record { number = 10; token = e.token })) s ≡ written_code (each (expression left ws) (inside_of left ws) ws i) n s₀
  unfolding after if◌then◌otherwise◌
  each_stops z = let w = wrote_code _ n s₀ s e h in refused (says_code n s₀) _ s (rw (each_after, w.read, ← b, turned_true begins z))

  module _ (z : not begins ≡ false) where
    pub each_none : left ≡ 0 → seen (Err (record { number = 75; token = e.token })) s ≡ written_code (each (expression left ws) (inside_of left ws) ws i) n s₀
    unfolding after if◌then◌otherwise◌ opening
    each_none l = let w = wrote_code _ n s₀ s e h in refused (says_code n s₀) _ s (rw (each_after, w.read, ← b, turned_false begins z, inside_none left ws l))

    pub each_reads : (left ≡ 0 → ⊥) → seen (Ok e) s ≡ written_code (each (expression left ws) (inside_of left ws) ws i) n s₀
    unfolding after if◌then◌otherwise◌ opening
    each_reads l =
        let w = wrote_code _ n s₀ s e h in
        let q : seen (Ok e) s ≡ written_code (good w.code e.token) n s₀ = rw w.read at h in
        rw (each_after, w.read, ← b, turned_false begins z, inside_level left ws l) q

each_opens : (left : ℕ) (ws : List ℕ) (i : ℕ) (c : List ℕ) (j : ℕ) → each (expression left ws) (inside_of left ws) ws i ≡ good c j → left ≡ 0 → ⊥
unfolding each opening after
each_opens left ws i c j q l = go (members (expression left ws) ws i) (rw (inside_none left ws l) at q)
  where
    go : (g : Got (List ℕ)) → (after g λ a m. if begins_statement ws m then (λ _. wrong 75 m) otherwise λ _. wrong 10 m) ≡ good c j → ⊥
    go (good a m) e =
        chosen (λ g. g ≡ good c j → ⊥) (begins_statement ws m) _ _ (λ _ f. let y : ◌≡◌ {A = ℕ} 0 1 = cc in omega arith) (λ _ f. let y : ◌≡◌ {A = ℕ} 0 1 = cc in omega arith) e
    go (wrong k p) e = let y : ◌≡◌ {A = ℕ} 0 1 = cc in omega arith

-- ---- foreach
-- what stands between, and a body a level further in
pub iteration_each : (left : ℕ) (ws : List ℕ) (i : ℕ)
    → iteration (expression left ws) (inside_of left ws) ws i
    ≡ after (each (expression left ws) (inside_of left ws) ws (i + 1)) λ c m. after (statement (left - 1) ws m) λ s q. good (headed 40 (place_at ws i) (length c) (c ++ s)) q
unfolding each inside_of opening after
iteration_each zero ws i =
    iteration_bodied zero ws i ∙ sym (after_after (members (expression zero ws) ws (i + 1)) _ _
    ∙ same_after (members (expression zero ws) ws (i + 1)) _ _ λ c m _. chosen_after (begins_statement ws m) _ _ _)
iteration_each (suc left) ws i =
    let q : suc left - 1 ≡ left = omega arith in
    iteration_bodied (suc left) ws i ∙ sym (after_after (members (expression (suc left) ws) ws (i + 1)) _ _
    ∙ same_after (members (expression (suc left) ws) ws (i + 1)) _ _ λ c m _. rw q (chosen_after (begins_statement ws m) _ _ _))

pub iteration_opens : (left : ℕ) (ws : List ℕ) (i n : ℕ) (s₀ s : List ℕ) (e : Read) → seen (Ok e) s ≡ written_code (each (expression left ws) (inside_of left ws) ws i) n s₀
    → left ≡ 0 → ⊥
iteration_opens left ws i n s₀ s e h = let w = wrote_code _ n s₀ s e h in each_opens left ws i w.code e.token w.read
