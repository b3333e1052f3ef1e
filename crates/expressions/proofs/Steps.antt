-- What is done with what was read makes what reading yields.
-- Assumes nothing.
use Prim.Native.Nat.{ℕ, ◌+◌, ◌-◌}
use mathlib.Core.Path.{◌≡◌, refl, sym}
use mathlib.Core.Bool.{Bool, true, false}
use mathlib.Core.List.{List, [], ◌∷◌, ◌++◌, append_assoc}
use native.Mathlib.Omega.{arith}
use lib.ListN.{length, take, length-append}
use Rattle.std.specs.Prelude.{Result, Ok, Err}
use Rattle.meaning.specs.Basics.{if◌then◌otherwise◌}
use Rattle.meaning.specs.Grammar.{Got, good, wrong, after}
use Rattle.machine.specs.Opcodes.{word}
use Rattle.code.specs.Code.{joined}
use Rattle.expressions.specs.declared.Read.{Read}
use Rattle.expressions.specs.declared.Misfit.{Misfit}
use Rattle.expressions.specs.declared.Target.{Target}
use Rattle.expressions.specs.declared.Target.TheVariants.{Neither}
use Rattle.expressions.specs.Words.{is, Piece, piece, expect, table_code, at, seen, written, written_code}
use Rattle.expressions.specs.Steps.{closed, finished, combined}
use Rattle.expressions.proofs.Paid.{joined_size}
use Rattle.expressions.proofs.Answers.{wrote}

-- ---- the word behind two parts
-- two equal answers
same_at : (j m m' : ℕ) (t : Target) (xs xs' : List ℕ) → m ≡ m' → xs ≡ xs' → at j m t xs ≡ at j m' t xs'
same_at j m m' t xs xs' p q = cc

same_word : (tag size size' x x' : ℕ) → size ≡ size' → x ≡ x' → word tag size x ≡ word tag size' x'
same_word tag size size' x x' p q = cc

pub combined_joins : (g : Got Piece) (tag : ℕ) (target : Target) (n m : ℕ) (a s₀ s : List ℕ) → m ≡ n + length a → take m s ≡ take n s₀ ++ a
    → combined tag n m target (written g m s) ≡ written (after g λ b j. good (piece (joined tag a b.code) target) j) n s₀
unfolding combined written after
combined_joins (wrong k p) tag target n m a s₀ s h f = refl
combined_joins (good b j) tag target n m a s₀ s h f =
    let c : List ℕ = b.code in
    let w : word tag (m + length c - n + 1) (m + length c - m) ≡ word tag (length a + length c + 1) (length c) = same_word tag _ _ _ _ (omega arith) (omega arith) in
    same_at j _ _ target _ _ (omega (arith, joined_size tag a c)) (rw (f, w) (simp append_assoc))

-- ---- the word behind one part
finished_at : (c s₀ : List ℕ) (tag n x j : ℕ) (t : Target)
    → finished tag n x (at j (n + length c) t (take n s₀ ++ c)) ≡ at j (n + length (c ++ (word tag (length c + 1) x ∷ []))) Neither (take n s₀ ++ (c ++ (word tag (length c + 1) x ∷ [])))
unfolding finished
finished_at c s₀ tag n x j t =
    let w : word tag (n + length c - n + 1) x ≡ word tag (length c + 1) x = same_word tag _ _ _ _ (omega arith) refl in
    same_at j _ _ Neither _ _ (omega (arith, length-append c (word tag (length c + 1) x ∷ []))) (rw w (append_assoc (take n s₀) c _))

pub finished_code : (g : Got (List ℕ)) (tag n x : ℕ) (s₀ : List ℕ)
    → finished tag n x (written_code g n s₀) ≡ written (after g λ c j. good (piece (c ++ (word tag (length c + 1) x ∷ [])) Neither) j) n s₀
unfolding finished written written_code after
finished_code (wrong k p) tag n x s₀ = refl
finished_code (good c j) tag n x s₀ = finished_at c s₀ tag n x j Neither

pub finished_piece : (g : Got Piece) (tag n x : ℕ) (s₀ : List ℕ)
    → finished tag n x (written g n s₀) ≡ written (after g λ e j. good (piece (e.code ++ (word tag (length e.code + 1) x ∷ [])) Neither) j) n s₀
unfolding finished written after
finished_piece (wrong k p) tag n x s₀ = refl
finished_piece (good e j) tag n x s₀ = finished_at e.code s₀ tag n x j e.target

-- ---- the token that closes
closed_picks : (b : Bool) (c s₀ s : List ℕ) (n : ℕ) (e : Read) → e.word ≡ n + length c → take e.word s ≡ take n s₀ ++ c
    → seen (if b then (λ _. Ok (record { token = e.token + 1; word = e.word; target = Neither })) otherwise λ _. Err (record { number = 10; token = e.token })) s
    ≡ written (if b then (λ _. good (piece c Neither) (e.token + 1)) otherwise λ _. wrong 10 e.token) n s₀
unfolding if◌then◌otherwise◌ seen written
closed_picks true c s₀ s n e h f = cc
closed_picks false c s₀ s n e h f = refl

pub closed_reads : (e : Read) (r : Result Read Misfit) (g : Got Piece) (k n : ℕ) (ws s₀ s : List ℕ) → seen (Ok e) s ≡ written g n s₀ → r ≡ closed k ws e
    → seen r s ≡ written (after g λ x j. expect k ws j (piece x.code Neither)) n s₀
unfolding closed after expect
closed_reads e r g k n ws s₀ s h c =
    let w = wrote g n s₀ s e h in
    rw (c, w.read) (closed_picks (is k ws e.token) w.piece.code s₀ s n e w.up_to w.front)

expected_picks : (b : Bool) (c : List ℕ) (f : List ℕ → List ℕ) (j : ℕ)
    → after (if b then (λ _. good (piece c Neither) (j + 1)) otherwise λ _. wrong 10 j) (λ x m. good (piece (f x.code) Neither) m)
    ≡ (if b then (λ _. good (piece (f c) Neither) (j + 1)) otherwise λ _. wrong 10 j)
unfolding if◌then◌otherwise◌ after
expected_picks true c f j = refl
expected_picks false c f j = refl

-- what is made of a piece's code may be made behind the token
pub expected_after : (g : Got Piece) (k : ℕ) (ws : List ℕ) (f : List ℕ → List ℕ)
    → after g (λ x j. expect k ws j (piece (f x.code) Neither)) ≡ after (after g λ x j. expect k ws j (piece x.code Neither)) λ x m. good (piece (f x.code) Neither) m
unfolding after expect
expected_after (good x j) k ws f = sym (expected_picks (is k ws j) x.code f j)
expected_after (wrong l p) k ws f = refl
