-- A slice of bytes cleared from its front.
-- Assumes nothing.
use mathlib.Core.List.{List, [], ◌∷◌, ◌++◌}
use mathlib.Core.Path.{◌≡◌, ◌∙◌, sym, ap}
use Prim.Native.Nat.{ℕ, suc, ◌+◌, ◌≤◌, ◌<◌}
use native.Mathlib.Omega.{arith}
use lib.ListN.{length, set, take, replicate, replicate-append-replicate}
use lib.Seq.{take_all}
use Rattle.std.proofs.Math.Seq.{take-suc-set}

pub clear_more : (d : List ℕ) (k i : ℕ) → take k d ≡ replicate k 0 → k < length d → i ≡ k → take (k + 1) (set d i 0) ≡ replicate (k + 1) 0
clear_more d k i g l e =
    let q : k + 1 ≡ suc k = omega arith in
    ap (λ (j : ℕ). take (k + 1) (set d j 0)) e ∙ ap (λ (j : ℕ). take j (set d k 0)) q ∙ take-suc-set d k 0 l
    ∙ ap (λ (b : List ℕ). b ++ (0 ∷ [])) g ∙ replicate-append-replicate k 1 0

pub clear_all : (d : List ℕ) (k n : ℕ) → take k d ≡ replicate k 0 → length d ≤ k → k ≡ n → d ≡ replicate n 0
clear_all d k n g l e = sym (take_all k d l) ∙ g ∙ ap (λ (j : ℕ). replicate j 0) e
