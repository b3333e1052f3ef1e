-- A reading that pays: what it reads from token i up to token j has at most j - i words, and j is within the tokens.
-- Assumes nothing.
use Prim.Native.Nat.{ℕ, suc, ◌+◌, ◌<◌, ◌≤◌}
use mathlib.Core.Path.{◌≡◌}
use mathlib.Core.Bool.{true}
use mathlib.Core.List.{List}
use native.Mathlib.Omega.{arith}
use borrow.Author.Tests.{eqb-true}
use lib.ListN.{length}
use Rattle.meaning.specs.Grammar.{Got, good, wrong, after, Inside, no_level, level, opening}
use Rattle.expressions.specs.Words.{is, expect}
use Rattle.expressions.proofs.Tokens.{chosen, token_inside}

-- what has a kind is a token
pub kind_inside : (ws : List ℕ) (i k : ℕ) → is (suc k) ws i ≡ true → i < length ws
kind_inside ws i k e = token_inside ws i (suc k) (eqb-true _ _ e) (λ z. omega arith)

-- what is read has so many words, at least `least`
abbrev pub Pays : {A : Type 0} → (A → ℕ) → ℕ → List ℕ → ℕ → Got A → Type 0
Pays size least ws i (good a j) = (least ≤ size a) × (i < j) × (i + size a ≤ j) × (j ≤ length ws)
Pays size least ws i (wrong k p) = Unit {0}

-- first g, from token h on, then f
pub then_pays : {A B : Type 0} (sizeA : A → ℕ) (leastA : ℕ) (size : B → ℕ) (least : ℕ) (ws : List ℕ) (i h : ℕ) (g : Got A) (f : A → ℕ → Got B)
    → Pays sizeA leastA ws h g
    → ((a : A) (j : ℕ) → Pays sizeA leastA ws h (good a j) → Pays size least ws i (f a j))
    → Pays size least ws i (after g f)
unfolding after
then_pays sizeA leastA size least ws i h (good a j) f p q = q a j p
then_pays sizeA leastA size least ws i h (wrong k m) f p q = tt

-- a token that has to follow
pub expect_pays : {A : Type 0} (size : A → ℕ) (least : ℕ) (ws : List ℕ) (i j k : ℕ) (a : A)
    → least ≤ size a → i ≤ j → i + size a ≤ j + 1 → Pays size least ws i (expect (suc k) ws j a)
unfolding expect
expect_pays size least ws i j k a s h p =
    chosen (Pays size least ws i) (is (suc k) ws j) _ _ (λ q. let w = kind_inside ws j k q in omega arith) (λ _. tt)

-- what holds of a level's inside, where there is one
abbrev pub Holds : {B : Type 0} → (B → Type 0) → Inside B → Type 0
Holds Q no_level = Unit {0}
Holds Q (level f) = Q f

pub opened : {A B : Type 0} (P : Got A → Type 0) (Q : B → Type 0) (inside : Inside B) (p : ℕ) (k : B → Got A)
    → Holds Q inside → P (wrong 75 p) → ((f : B) → Q f → P (k f)) → P (opening inside p k)
unfolding opening
opened P Q no_level p k ok a b = a
opened P Q (level f) p k ok a b = b f ok
