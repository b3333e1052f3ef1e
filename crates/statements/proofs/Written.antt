-- What the smaller functions make of what was read and written.
-- Assumes nothing.
use Prim.Native.Nat.{ℕ, ◌+◌, ◌-◌, ◌*◌, ◌<◌}
use mathlib.Core.Path.{◌≡◌, ◌∙◌, refl, sym, ap}
use mathlib.Core.Bool.{Bool, true, false}
use mathlib.Core.List.{List, [], ◌∷◌, ◌++◌, append_assoc, append-nil}
use native.Mathlib.Omega.{arith}
use lib.ListN.{length, take, set, length-append, length-take}
use lib.Seq.{take-set-lt, set-append_left}
use Rattle.std.specs.Prelude.{Result, Ok, Err}
use Rattle.meaning.specs.Basics.{if◌then◌otherwise◌}
use Rattle.meaning.specs.Grammar.{Got, good, wrong, after}
use Rattle.machine.specs.Opcodes.{word}
use Rattle.code.specs.Code.{headed}
use Rattle.expressions.specs.declared.Read.{Read}
use Rattle.expressions.specs.declared.Misfit.{Misfit}
use Rattle.expressions.specs.declared.Target.TheVariants.{Neither}
use Rattle.expressions.specs.Words.{is, Piece, piece, expect, at, seen, written, written_code}
use Rattle.expressions.specs.Steps.{closed}
use Rattle.expressions.proofs.Answers.{take_put, same_after}
use Rattle.expressions.proofs.Steps as Expressions
use Rattle.statements.specs.Steps.{topped}

-- ---- one after the other
pub after_after : {A B C : Type 0} (g : Got A) (f : A → ℕ → Got B) (h : B → ℕ → Got C) → after (after g f) h ≡ after g λ a j. after (f a j) h
unfolding after
after_after (good a j) f h = refl
after_after (wrong k p) f h = refl

pub chosen_after : {A B : Type 0} (b : Bool) (x y : Unit {0} → Got A) (f : A → ℕ → Got B)
    → after (if b then x otherwise y) f ≡ (if b then (λ _. after (x tt) f) otherwise λ _. after (y tt) f)
unfolding if◌then◌otherwise◌
chosen_after true x y f = refl
chosen_after false x y f = refl

expect_maps : {A B : Type 0} (k : ℕ) (ws : List ℕ) (j : ℕ) (a : A) (f : A → B) → after (expect k ws j a) (λ c q. good (f c) q) ≡ expect k ws j (f a)
unfolding expect after if◌then◌otherwise◌
expect_maps k ws j a f = go (is k ws j)
  where
    go : (b : Bool) → after (if b then (λ _. good a (j + 1)) otherwise λ _. wrong 10 j) (λ c q. good (f c) q) ≡ (if b then (λ _. good (f a) (j + 1)) otherwise λ _. wrong 10 j)
    go true = refl
    go false = refl

-- what is made of a piece's code may be made before the token behind is looked at
pub expects_after : {B : Type 0} (g : Got Piece) (k : ℕ) (ws : List ℕ) (f : List ℕ → B)
    → after (after g λ e j. expect k ws j e.code) (λ c q. good (f c) q) ≡ after g λ e j. expect k ws j (f e.code)
expects_after g k ws f = after_after g _ _ ∙ same_after g _ _ λ e j _. expect_maps k ws j e.code f

-- ---- answers
-- two equal answers
same_at : (j m m' : ℕ) (xs xs' : List ℕ) → m ≡ m' → xs ≡ xs' → at j m Neither xs ≡ at j m' Neither xs'
same_at j m m' xs xs' p q = cc

-- nothing was written
pub nothing_seen : (j n : ℕ) (s : List ℕ) → seen (Ok (record { token = j; word = n; target = Neither })) s ≡ written (good (piece [] Neither) j) n s
unfolding seen written
nothing_seen j n s = same_at j _ _ _ _ (omega arith) (sym (append-nil (take n s)))

-- ---- the token that closes
pieces : (g : Got (List ℕ)) (n : ℕ) (s : List ℕ) → written (after g λ c j. good (piece c Neither) j) n s ≡ written_code g n s
unfolding written written_code after
pieces (good c j) n s = refl
pieces (wrong k p) n s = refl

pub closed_reads : (e : Read) (r : Result Read Misfit) (g : Got Piece) (k n : ℕ) (ws s₀ s : List ℕ) → seen (Ok e) s ≡ written g n s₀ → r ≡ closed k ws e
    → seen r s ≡ written_code (after g λ x j. expect k ws j x.code) n s₀
closed_reads e r g k n ws s₀ s h c =
    Expressions.closed_reads e r g k n ws s₀ s h c ∙ ap (λ y. written y n s₀) (sym (expects_after g k ws (λ c. piece c Neither))) ∙ pieces _ n s₀

-- ---- the word before the parts
pub head_at : (s₀ s : List ℕ) (e : Read) (tag p n x place w : ℕ) → place ≡ p → w ≡ word tag (e.word - n) (place + 65536 * x) → s ≡ set s₀ n w → n < e.word
    → seen (Ok (record { token = e.token; word = e.word; target = Neither })) s ≡ topped tag p n x (seen (Ok e) s₀)
unfolding seen topped
head_at s₀ s e tag p n x place w q v u l = rw (u, take-set-lt e.word s₀ n w l, v, q)

-- a word put before a list of parts
set_before : (s₀ b : List ℕ) (n w : ℕ) → n < length s₀ → set (take (n + 1) s₀ ++ b) n w ≡ take n s₀ ++ (w ∷ b)
set_before s₀ b n w h =
    let k : n < length (take (n + 1) s₀) = simp length-take (omega arith) in
    rw (set-append_left (take (n + 1) s₀) b n w k, ← take-set-lt (n + 1) s₀ n w (omega arith), take_put s₀ n w h) (append_assoc (take n s₀) (w ∷ []) b)

-- the place of a word, and behind it parts b that were written up to the word k
pub record Laid (s₀ s : List ℕ) (n k : ℕ) (b : List ℕ) : Type 0 where
  pub place : n < length s₀
  pub up_to : k ≡ n + 1 + length b
  pub front : take k s ≡ take (n + 1) s₀ ++ b

pub nothing_laid : (s₀ : List ℕ) (n : ℕ) → n < length s₀ → Laid s₀ s₀ n (n + 1) []
nothing_laid s₀ n l = record { place = l; up_to = omega arith; front = sym (append-nil _) }

topped_writes : (g : Got (List ℕ)) (b s₀ s : List ℕ) (tag p n x k : ℕ) → Laid s₀ s n k b
    → topped tag p n x (written_code g k s) ≡ written_code (after g λ c j. good (headed tag p x (b ++ c)) j) n s₀
unfolding topped written_code after
topped_writes (wrong l q) b s₀ s tag p n x k o = refl
topped_writes (good c j) b s₀ s tag p n x k o =
    let l = length-append b c in
    let u = o.up_to in
    let v : k + length c - n ≡ length (b ++ c) + 1 = omega arith in
    same_at j _ _ _ _ (omega arith) (rw (v, o.front, append_assoc (take (n + 1) s₀) b c) (set_before s₀ (b ++ c) n _ o.place))

-- The word before parts, of which b was read before: each way to a statement's end.
pub heads : {h : Got (List ℕ)} (g : Got (List ℕ)) (b s₀ s s₁ s₂ : List ℕ) (e r : Read) (tag p n x k : ℕ) → Laid s₀ s n k b → h ≡ after g (λ c j. good (headed tag p x (b ++ c)) j)
    → seen (Ok e) s₁ ≡ written_code g k s → seen (Ok r) s₂ ≡ topped tag p n x (seen (Ok e) s₁) → seen (Ok r) s₂ ≡ written_code h n s₀
heads g b s₀ s s₁ s₂ e r tag p n x k o q y z = rw q (z ∙ ap (topped tag p n x) y ∙ topped_writes g b s₀ s tag p n x k o)
