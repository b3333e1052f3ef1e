-- What a variable's value has destroyed.
use Prim.Native.Nat.{ℕ}
use mathlib.Core.Path.{◌≡◌, refl, ◌∙◌}
use mathlib.Core.List.{List}
use Rattle.machine.specs.declared.Fault.{Fault}
use Rattle.std.specs.Prelude.{Result, Ok}
use Rattle.machine.specs.Words.{kind_in, kind_shape, number_in, unpacked}
use Rattle.values.proofs.Laws.{unpacked_shape, by_kind}
use Rattle.machine.specs.Act.{raw, Out, done, give, out_of, Does}
use Rattle.machine.specs.Groups.{destroy_living}
use Rattle.machine.specs.Variables.{destroy_in}

module _ (g ws : List ℕ) (w p : ℕ) where
  pub destroys_nothing : (kind_in w ≡ kind_shape → ⊥) → Does ws (destroy_in g p (unpacked w)) (Ok tt) ws
  unfolding destroy_in give out_of
  destroys_nothing h = record {
    equal = λ ts. by_kind w (λ v. ◌≡◌ {A = Out (Unit {0})} (done tt (raw ts ws)) (destroy_in g p v (raw ts ws)))
        (λ _. refl) (λ _. refl) (λ _. refl) refl (λ _. refl) (λ e. absurd (h e));
  }

  pub destroys_shape : (i : ℕ) (s : Result (Unit {0}) Fault) (ws' : List ℕ) → kind_in w ≡ kind_shape → i ≡ number_in w → Does ws (destroy_living g p i) s ws' → Does ws (destroy_in g p (unpacked w)) s ws'
  unfolding destroy_in
  destroys_shape i s ws' h e d = record { equal = λ ts. d.equal ts ∙ rw (e, unpacked_shape w h) }
