-- How a call of a procedure goes on.
use Prim.Native.Nat.{ℕ, ◌+◌}
use mathlib.Core.Path.{◌≡◌, refl, sym, ◌∙◌}
use mathlib.Core.List.{List}
use lib.ListN.{get_or}
use Rattle.std.specs.Prelude.{Result}
use Rattle.machine.specs.Opcodes.{table_place, start_in, parameters_in, body_in}
use Rattle.machine.specs.declared.Value.{Value}
use Rattle.machine.specs.declared.Fault.{Fault}
use Rattle.machine.specs.declared.Flow.{Flow}
use Rattle.machine.specs.declared.Flow.TheVariants.{Onward, Returned}
use Rattle.machine.specs.Layout.{arguments_held}
use Rattle.machine.specs.Act.{Out, done, stop, Act, go_on, ◌>>=◌, give, load, DoesIn}
use Rattle.machine.specs.Evaluate.{Setting}
use Rattle.machine.specs.Procedures.{begin, resume, result_of, procedure_at}
use Rattle.machine.specs.Interpret.{body_at, invoke_at}
use Rattle.interpreter.specs.Cycle.{procedure_in}

-- the caller goes on before or after the result is looked at
resumed : (base : ℕ) (o : Out Flow) → go_on o (λ flow. resume base >>= λ _. result_of flow) ≡ go_on (go_on o result_of) (λ v. resume base >>= λ _. give v)
unfolding go_on ◌>>=◌ result_of give
resumed base (done Onward r) = refl
resumed base (done (Returned v) r) = refl
resumed base (stop n p r) = refl

-- what follows where a call has begun of the procedure whose word in the table is d
abbrev pub behind : ℕ → Setting → ℕ → ℕ → Act Value
behind fuel e base d = body_at fuel e (start_in d + parameters_in d) (body_in d) >>= λ flow. resume base >>= λ _. result_of flow

module _ (e : Setting) (fuel callee base : ℕ) {r : Result Value Fault} {ts ws ts' ws' : List ℕ} where
  pub invoke_by : (p : ℕ) {top : ℕ} → top ≡ get_or ws arguments_held 0 → DoesIn ts ws (begin e.grants e.code callee top p base >>= λ _. behind fuel e base (get_or e.code (table_place callee) 0)) r ts' ws'
      → DoesIn ts ws (invoke_at fuel e callee p base) r ts' ws'
  unfolding procedure_at ◌>>=◌ go_on load
  invoke_by p t h = record { equal = h.equal ∙ rw t refl }

  pub body_by : {i d k m size : ℕ} → i ≡ table_place callee → d ≡ get_or e.code i 0 → k ≡ start_in d → m ≡ parameters_in d → size ≡ body_in d
      → DoesIn ts ws (procedure_in fuel e (size + 1) (k + m) (k + m + size) >>= λ v. resume base >>= λ _. give v) r ts' ws'
      → DoesIn ts ws (behind fuel e base (get_or e.code (table_place callee) 0)) r ts' ws'
  unfolding body_at ◌>>=◌
  body_by i d k m s h = record { equal = h.equal ∙ sym (rw (← i, ← d, ← k, ← m, ← s) (resumed base _)) }
