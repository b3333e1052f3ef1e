-- Actions one after the other, in either grouping.
use Prim.Native.Nat.{ℕ, ◌+◌, ◌*◌, ◌%◌, ◌^◌}
use native.Mathlib.Omega.{arith}
use mathlib.Core.Path.{◌≡◌, refl, ap, ◌∙◌}
use mathlib.Core.Bool.{Bool, true, false}
use borrow.Author.Tests.{ne_eqb}
use Rattle.meaning.specs.Basics.{if◌then◌otherwise◌}
use Rattle.meaning.specs.Integer.{bits}
use Rattle.machine.specs.declared.Value.{Value}
use Rattle.machine.specs.declared.Value.TheVariants.{Integer, Text, Boolean, Nothing, Table, Shape}
use Rattle.machine.specs.Words.{kind_in, kind_truth, packed}
use Rattle.machine.specs.Act.{Raw, Out, done, stop, Act, go_on, ◌>>=◌, ◌>>◌, give, fail, count}
use Rattle.machine.specs.Stack.{push}
use Rattle.machine.specs.Operate.{with_boolean}
use Rattle.machine.specs.Evaluate.{Setting, Evaluator, argument_of}
use Rattle.machine.specs.Effects.{saying}
use Rattle.machine.specs.Execute.{test_of, turning}

pub regroup : {A B C : Type 0} (o : Out A) (f : A → Act B) (g : B → Act C) → go_on (go_on o f) g ≡ go_on o (λ a r. go_on (f a r) g)
unfolding go_on
regroup (done a r) f g = refl
regroup (stop n p r) f g = refl

pub regrouped : {A B C : Type 0} (m : Act A) (f : A → Act B) (g : B → Act C) → ((m >>= f) >>= g) ≡ (m >>= λ a. f a >>= g)
unfolding ◌>>=◌
regrouped m f g = λ i r. regroup (m r) f g i

-- an argument pushed, and then more
pub pushed_then : {A : Type 0} (inner : Evaluator) (y p : ℕ) (k : Act A) → (argument_of inner y p >> k) ≡ (inner y p >>= λ v. push (packed v) p >> k)
unfolding argument_of
pushed_then inner y p k = regrouped (inner y p) (λ v. push (packed v) p) (λ _. k)

-- a test by the word of a value, and then more
no_truth : {A : Type 0} (w p : ℕ) (k : Bool → Act A) → (kind_in w ≡ kind_truth → ⊥) → (r : Raw) → (saying w p >>= k) r ≡ fail 20 p r
unfolding saying if◌then◌otherwise◌ ◌>>=◌ go_on fail
no_truth w p k n r = rw (ne_eqb _ _ n)

asked : {A : Type 0} (p : ℕ) (v : Value) (k : Bool → Act A) → (saying (packed v) p >>= k) ≡ with_boolean p v k
unfolding with_boolean saying packed if◌then◌otherwise◌ ◌>>=◌ go_on give
asked p (Integer z) k =
    let n : (1 + 8 * bits z) % 8 ≡ kind_truth → ⊥ = λ e. absurd (omega arith) in
    λ i r. no_truth (packed (Integer z)) p k n r i
asked p (Text h) k =
    let n : (2 + 8 * (h % 2 ^ 40)) % 8 ≡ kind_truth → ⊥ = λ e. absurd (omega arith) in
    λ i r. no_truth (packed (Text h)) p k n r i
asked p (Boolean true) k = λ i r. k true r
asked p (Boolean false) k = λ i r. k false r
asked p Nothing k = λ i r. no_truth 4 p k (λ e. absurd (omega arith)) r i
asked p (Table t) k =
    let n : (5 + 8 * t) % 8 ≡ kind_truth → ⊥ = λ e. absurd (omega arith) in
    λ i r. no_truth (packed (Table t)) p k n r i
asked p (Shape t) k =
    let n : (6 + 8 * t) % 8 ≡ kind_truth → ⊥ = λ e. absurd (omega arith) in
    λ i r. no_truth (packed (Shape t)) p k n r i

pub tested_then : {A : Type 0} (eval : Evaluator) (e : Setting) (y p : ℕ) (k : Bool → Act A) → (test_of eval e y p >>= k) ≡ (eval y p >>= λ v. with_boolean p v k)
unfolding test_of
tested_then eval e y p k =
    regrouped (eval y p) (λ v. saying (packed v) p) k ∙ ap (λ f. eval y p >>= f) (λ i v. asked p v k i)

pub turning_then : {A : Type 0} (eval : Evaluator) (e : Setting) (y p : ℕ) (k : Bool → Act A)
    → (turning eval e y p >>= k) ≡ (count e.grants p >> (eval y p >>= λ v. with_boolean p v k))
unfolding turning
turning_then eval e y p k = regrouped (count e.grants p) (λ _. test_of eval e y p) k ∙ ap (λ f. count e.grants p >> f) (tested_then eval e y p k)
