-- Loops whose turns an act names: act k n does n turns, from the k-th on.
use Prim.Native.Nat.{ℕ, suc, ◌+◌, ◌-◌, ◌^◌, ◌≤◌, ◌<◌}
use mathlib.Core.Path.{◌≡◌, refl, sym, ◌∙◌}
use mathlib.Core.List.{List}
use native.Mathlib.Omega.{arith}
use lib.ListN.{length}
use Rattle.machine.specs.Act.{raw, done, Act, Gives}

-- what is left to do from the k-th turn on comes to what was to be done at first
pub record Turns (act : ℕ → ℕ → Act (Unit {0})) (first n : ℕ) (ws₀ ws : List ℕ) (k : ℕ) : Type 0 where
  pub small : n < 2 ^ 64
  pub rest : (ts : List ℕ) → act first (n - first) (raw ts ws₀) ≡ act k (n - k) (raw ts ws)
  pub long : length ws ≡ length ws₀

module _ (act : ℕ → ℕ → Act (Unit {0})) (first n : ℕ) (ws₀ : List ℕ) where
  pub turns_first : n < 2 ^ 64 → Turns act first n ws₀ ws₀ first
  turns_first s = record { small = s; rest = λ ts. refl; long = refl }

  module _ (ws : List ℕ) (k : ℕ) (g : Turns act first n ws₀ ws k) where
    pub turns_next : (ws' : List ℕ) → k < n → ((m : ℕ) (ts : List ℕ) → act k (suc m) (raw ts ws) ≡ act (k + 1) m (raw ts ws')) → length ws' ≡ length ws
        → Turns act first n ws₀ ws' (k + 1)
    turns_next ws' h t l =
        let q : n - k ≡ suc (n - (k + 1)) = omega arith in
        record { small = g.small; rest = λ ts. g.rest ts ∙ rw q (t (n - (k + 1)) ts); long = l ∙ g.long }

    pub turns_last : n ≤ k → ((ts : List ℕ) → act k 0 (raw ts ws) ≡ done tt (raw ts ws)) → Gives ws₀ (act first (n - first)) tt ws
    turns_last h t =
        let q : n - k ≡ 0 = omega arith in
        record { equal = λ ts. sym (g.rest ts ∙ rw q (t ts)) }

-- as many as there are
pub from_none : (n : ℕ) → n - 0 ≡ n
from_none n = omega arith
