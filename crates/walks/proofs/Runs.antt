-- Loops whose turns an act names: act k n does n turns, from the k-th on.
use Prim.Native.Nat.{ℕ, suc, ◌+◌, ◌-◌, ◌≤◌, ◌<◌}
use mathlib.Core.Path.{◌≡◌, refl, ◌∙◌}
use mathlib.Core.List.{List}
use native.Mathlib.Omega.{arith}
use lib.ListN.{length}
use Rattle.std.specs.Prelude.{Result, Ok}
use Rattle.machine.specs.declared.Fault.{Fault}
use Rattle.machine.specs.Layout.{fixed_words, Room}
use Rattle.machine.specs.Act.{Act, Does}
use Rattle.walks.proofs.TurnLaws.{room_same}

-- before the k-th turn of those below n: whatever the others do, the whole does from the words at first
pub record Runs (act : ℕ → ℕ → Act (Unit {0})) (whole : Act (Unit {0})) (n : ℕ) (ws₀ ws : List ℕ) (k : ℕ) : Type 0 where
  pub rest : (s : Result (Unit {0}) Fault) (ws' : List ℕ) → Does ws (act k (n - k)) s ws' → Does ws₀ whole s ws'
  pub long : length ws ≡ length ws₀

pub runs_first : {act : ℕ → ℕ → Act (Unit {0})} {n : ℕ} {ws₀ : List ℕ} (first m : ℕ) → n - first ≡ m → Runs act (act first m) n ws₀ ws₀ first
runs_first first m e = record { rest = λ s ws' h. rw (← e) h; long = refl }

module _ {act : ℕ → ℕ → Act (Unit {0})} {whole : Act (Unit {0})} {n : ℕ} {ws₀ ws : List ℕ} {k : ℕ} (a : Runs act whole n ws₀ ws k) where
  pub runs_turn : k < n → {s : Result (Unit {0}) Fault} {ws' : List ℕ} → Does ws (act k (suc (n - (k + 1)))) s ws' → Does ws₀ whole s ws'
  runs_turn h {s} {ws'} d = let q : n - k ≡ suc (n - (k + 1)) = omega arith in a.rest s ws' (rw q d)

  pub runs_next : k < n → {ws' : List ℕ} → length ws' ≡ length ws
      → ((s : Result (Unit {0}) Fault) (ws'' : List ℕ) → Does ws' (act (k + 1) (n - (k + 1))) s ws'' → Does ws (act k (suc (n - (k + 1)))) s ws'') → Runs act whole n ws₀ ws' (k + 1)
  runs_next h l t = record { rest = λ s ws'' d. runs_turn h (t s ws'' d); long = l ∙ a.long }

  pub runs_last : n ≤ k → Does ws (act k 0) (Ok tt) ws → Does ws₀ whole (Ok tt) ws
  runs_last h d = let q : n - k ≡ 0 = omega arith in a.rest (Ok tt) ws (rw q d)

  pub runs_room : {g : List ℕ} → Room g ws₀ → Room g ws
  runs_room r = room_same r a.long

  pub runs_long : {g : List ℕ} → Room g ws₀ → fixed_words ≤ length ws
  runs_long r = omega (arith, r.words, a.long)
