-- What an act came to as an equation, and acts that come to the same.
use Prim.Native.Nat.{ℕ}
use mathlib.Core.Path.{◌≡◌, refl, ap, sym, ◌∙◌}
use mathlib.Core.List.{List}
use Rattle.std.specs.Prelude.{Result, Ok}
use Rattle.machine.specs.declared.Fault.{Fault}
use Rattle.machine.specs.Act.{Raw, raw, Out, done, stop, Act, go_on, ◌>>=◌, out_of, DoesIn}

module _ {A : Type 0} {act : Act A} {ts ws ts' ws' : List ℕ} where
  pub after_in : {B : Type 0} {a : A} (k : A → Act B) → DoesIn ts ws act (Ok a) ts' ws' → (act >>= k) (raw ts ws) ≡ k a (raw ts' ws')
  unfolding ◌>>=◌ go_on out_of
  after_in k h = ap (λ (o : Out A). go_on o k) (sym h.equal)

  pub as_in : {act' : Act A} {r : Result A Fault} {ts'' ws'' : List ℕ} → act (raw ts ws) ≡ act' (raw ts' ws') → DoesIn ts' ws' act' r ts'' ws'' → DoesIn ts ws act r ts'' ws''
  as_in e h = record { equal = h.equal ∙ sym e }

-- one act and then two, or two and then one
pub regrouped : {A B C : Type 0} (act : Act A) (k : A → Act B) (f : B → Act C) (r : Raw) → ((act >>= k) >>= f) r ≡ (act >>= λ a. k a >>= f) r
unfolding ◌>>=◌ go_on
regrouped {A} {B} {C} act k f r = go (act r)
  where
    go : (o : Out A) → go_on (go_on o k) f ≡ go_on o (λ a s. go_on (k a s) f)
    go (done a s) = refl
    go (stop n p s) = refl
