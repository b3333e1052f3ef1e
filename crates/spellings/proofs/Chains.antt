-- Writers one after the other, and loops of writers.
-- Assumes nothing.
use Prim.Native.Nat.{ℕ, ◌^◌, ◌<◌}
use mathlib.Core.Path.{◌≡◌, ◌∙◌, refl, sym, ap}
use mathlib.Core.List.{List, [], ◌++◌, append-nil, append_assoc}
use native.Mathlib.Omega.{arith}
use lib.ListN.{length, take-append-drop}
use Rattle.meaning.specs.Basics.{laid_over}
use Rattle.writing.specs.Placed.{laid_at, saturated, WroteAt}
use Rattle.writing.proofs.Laying.{then, length_at}

pub nothing : {at : ℕ} {d : List ℕ} → at < 2 ^ 64 → WroteAt at [] d d at
unfolding laid_at laid_over saturated
nothing {at} {d} h = record { laid = sym (take-append-drop at d); ends = omega arith }

pub then_two : {at m r : ℕ} {a b d e f : List ℕ} → length d < 2 ^ 64 → WroteAt at a d e m → WroteAt m b e f r → WroteAt at (a ++ b) d f r
then_two h p q = then h p q

pub then_three : {at m n r : ℕ} {a b c d e f g : List ℕ} → length d < 2 ^ 64 → WroteAt at a d e m → WroteAt m b e f n → WroteAt n c f g r
    → WroteAt at (a ++ b ++ c) d g r
then_three h p q s = then h (then h p q) s

pub then_four : {at m n o r : ℕ} {a b c k d e f g i : List ℕ} → length d < 2 ^ 64 → WroteAt at a d e m → WroteAt m b e f n → WroteAt n c f g o → WroteAt o k g i r
    → WroteAt at (a ++ b ++ c ++ k) d i r
then_four h p q s t = then h (then_three h p q s) t

pub then_five : {at m n o q r : ℕ} {a b c k l d e f g i j : List ℕ} → length d < 2 ^ 64 → WroteAt at a d e m → WroteAt m b e f n → WroteAt n c f g o
    → WroteAt o k g i q → WroteAt q l i j r → WroteAt at (a ++ b ++ c ++ k ++ l) d j r
then_five h p q s t u = then h (then_four h p q s t) u

-- behind a text some bytes, another text and some bytes
pub then_ending : {at m r : ℕ} {a d e f : List ℕ} (b c k : List ℕ) → length d < 2 ^ 64 → WroteAt at a d e m → WroteAt m (b ++ c ++ k) e f r → WroteAt at ((a ++ b) ++ c ++ k) d f r
then_ending {a = a} b c k h p q = rw (append_assoc a b c, append_assoc a (b ++ c) k) (then h p q)

-- another text that is the same
same : {at r : ℕ} {b d e : List ℕ} (c : List ℕ) → b ≡ c → WroteAt at b d e r → WroteAt at c d e r
same c e p = rw e at p

-- ---- a loop that writes a whole text from at on: what is written and what is left make it up
pub record Writing (at : ℕ) (whole rest before now : List ℕ) (next : ℕ) : Type 0 where
  pub done : List ℕ
  pub parts : whole ≡ done ++ rest
  pub wrote : WroteAt at done before now next
  pub kept : length now ≡ length before

pub begin : {at : ℕ} (whole : List ℕ) {before : List ℕ} → at < 2 ^ 64 → Writing at whole whole before before at
begin whole h = record { done = []; parts = refl; wrote = nothing h; kept = refl }

pub goes_on : {at next last : ℕ} {whole rest before now after : List ℕ} (piece more : List ℕ) → length before < 2 ^ 64
    → Writing at whole rest before now next → rest ≡ piece ++ more → WroteAt next piece now after last → Writing at whole more before after last
goes_on {at} {next} {last} {whole} {rest} {before} {now} piece more h g e p = record {
  done = g.done ++ piece;
  parts = g.parts ∙ ap (λ (l : List ℕ). g.done ++ l) e ∙ sym (append_assoc g.done piece more);
  wrote = then h g.wrote p;
  kept = ap length p.laid ∙ length_at next piece now ∙ g.kept;
}

pub ends : {at next : ℕ} {whole rest before now : List ℕ} → Writing at whole rest before now next → rest ≡ [] → WroteAt at whole before now next
ends {whole = whole} g e = same whole (sym (g.parts ∙ ap (λ (l : List ℕ). g.done ++ l) e ∙ append-nil g.done)) g.wrote
