-- The arguments of a call, by their words.
use Prim.Native.Nat.{ℕ, suc, ◌+◌, ◌-◌, ◌%◌, ◌^◌, ◌≤◌, ◌<◌}
use mathlib.Core.Path.{◌≡◌, ◌∙◌, refl, sym}
use mathlib.Core.Bool.{Bool, true, false, not, cond}
use mathlib.Core.List.{List}
use native.Mathlib.Omega.{arith}
use borrow.Author.Tests.{not-true, not-false}
use lib.Dec.{eqb}
use lib.IntN.{ℤ}
use lib.Signed.{mag}
use mir.Syntax.{w32}
use mir.Val.{to_z}
use Rattle.std.specs.Prelude.{Result, Ok, Err}
use Rattle.std.specs.Result.{IsErrAnd}
use Rattle.machine.specs.declared.Fault.{Fault}
use Rattle.machine.specs.declared.Fault.TheVariants.{Misuse}
use Rattle.machine.proofs.Acts.{stops, onward, carried, given}
use Rattle.machine.specs.Words.{number_in, handle_in, unpacked}
use Rattle.machine.specs.declared.Figure.{Figure}
use Rattle.machine.specs.Act.{raw, stop, Act, ◌>>=◌, out_of, Does}
use Rattle.machine.specs.Layout.{stack_words}
use Rattle.machine.specs.Stack.{argument_at}
use Rattle.machine.specs.Shapes.{is_group_at, figure_at}
use Rattle.machine.specs.Variables.{usable}
use Rattle.values.proofs.Held.{held, back}
use Rattle.operators.proofs.KindLaws.{shape_or}
use Rattle.machine.specs.Arguments.{all_usable}
use Rattle.machine.specs.Library.{all_shapes}
use Rattle.arguments.specs.Given.{is_kind, are_kinds, four_integers, point_and_text, is_figure, two_figures, figure_and_text, integer_at, handle_at, shape_at, given_figure}

-- ---- arguments
pub argument_is : (ws : List ℕ) (base i : ℕ) {r : ℕ} → r ≡ argument_at ws (base % stack_words + i % stack_words) → r ≡ argument_at ws (base + i)
argument_is ws base i e = let q : (base % stack_words + i % stack_words) % stack_words ≡ (base + i) % stack_words = omega arith in e ∙ rw q

module _ (ws : List ℕ) (base i : ℕ) {w : ℕ} (e : w ≡ argument_at ws (base + i)) where
  pub kind_is : (k : ℕ) → eqb (w % 8) k ≡ is_kind ws base i k
  unfolding is_kind
  kind_is k = rw e

  pub integer_is : {r : ℤ} → r ≡ to_z w32 (number_in w) → mag r < 2 ^ 31 → held r ≡ integer_at ws base i
  unfolding integer_at
  integer_is {r} q h = back {r = r} h ∙ q ∙ rw e

  pub handle_is : {r : ℕ} → r ≡ handle_in w → r ≡ handle_at ws base i
  unfolding handle_at
  handle_is q = q ∙ rw e

  pub shape_is : {r : ℕ} → r ≡ number_in w → r ≡ shape_at ws base i
  unfolding shape_at
  shape_is q = q ∙ rw e

pub figure_is : (ws : List ℕ) (base i j : ℕ) {f : Figure} → j ≡ shape_at ws base i → f ≡ figure_at ws j → f ≡ given_figure ws base i
unfolding given_figure
figure_is ws base i j e q = q ∙ rw e

module _ (ws : List ℕ) (base i k j l : ℕ) {b : Bool} (e : b ≡ is_kind ws base i k) where
  pub kinds_apart : not b ≡ true → false ≡ are_kinds ws base i k j l
  unfolding are_kinds
  kinds_apart h = rw (← e, not-true b h)

  pub kinds_rest : {r : Bool} → not b ≡ false → r ≡ is_kind ws base j l → r ≡ are_kinds ws base i k j l
  unfolding are_kinds
  kinds_rest h q = q ∙ rw (← e, not-false b h)

module _ (ws : List ℕ) (base : ℕ) {b : Bool} (e : b ≡ are_kinds ws base 0 1 1 1) where
  pub four_apart : not b ≡ true → false ≡ four_integers ws base
  unfolding four_integers
  four_apart h = rw (← e, not-true b h)

  pub four_rest : {r : Bool} → not b ≡ false → r ≡ are_kinds ws base 2 1 3 1 → r ≡ four_integers ws base
  unfolding four_integers
  four_rest h q = q ∙ rw (← e, not-false b h)

  pub point_apart : not b ≡ true → false ≡ point_and_text ws base
  unfolding point_and_text
  point_apart h = rw (← e, not-true b h)

  pub point_rest : {r : Bool} → not b ≡ false → r ≡ is_kind ws base 2 2 → r ≡ point_and_text ws base
  unfolding point_and_text
  point_rest h q = q ∙ rw (← e, not-false b h)

-- ---- figures among them
module _ (ws : List ℕ) (base i : ℕ) {b : Bool} (e : b ≡ is_kind ws base i 6) where
  pub no_shape_lem : not b ≡ true → false ≡ is_figure ws base i
  unfolding is_figure
  no_shape_lem h = rw (← e, not-true b h)

  pub is_figure_lem : {j : ℕ} {c : Bool} → not b ≡ false → j ≡ shape_at ws base i → c ≡ is_group_at ws j → not c ≡ is_figure ws base i
  unfolding is_figure
  is_figure_lem h q d = rw (← e, not-false b h, ← q, ← d)

module _ (ws : List ℕ) (base : ℕ) {b : Bool} (e : b ≡ is_figure ws base 0) where
  pub first_apart : not b ≡ true → false ≡ two_figures ws base
  unfolding two_figures
  first_apart h = rw (← e, not-true b h)

  pub second_figure : {r : Bool} → not b ≡ false → r ≡ is_figure ws base 1 → r ≡ two_figures ws base
  unfolding two_figures
  second_figure h q = q ∙ rw (← e, not-false b h)

  pub no_figure : not b ≡ true → false ≡ figure_and_text ws base
  unfolding figure_and_text
  no_figure h = rw (← e, not-true b h)

  pub text_second : {r : Bool} → not b ≡ false → r ≡ is_kind ws base 1 2 → r ≡ figure_and_text ws base
  unfolding figure_and_text
  text_second h q = q ∙ rw (← e, not-false b h)

-- ---- what is asked of all of them
-- k of n arguments are asked: what is left to ask comes to what was to be asked at first
pub record Asking (ask : ℕ → ℕ → Act (Unit {0})) (ws : List ℕ) (base n k : ℕ) : Type 0 where
  pub rest : (ts : List ℕ) → ask base n (raw ts ws) ≡ ask (base + k) (n - k) (raw ts ws)

one_more : {n k : ℕ} → k < n → n - k ≡ suc (n - (k + 1))
one_more h = omega arith

module _ (ask : ℕ → ℕ → Act (Unit {0})) (ws : List ℕ) (base n : ℕ) where
  pub ask_first : Asking ask ws base n 0
  ask_first =
      let i : base + 0 ≡ base = omega arith in
      let j : n - 0 ≡ n = omega arith in
      record { rest = λ ts. rw (i, j) }

  ask_last : (k : ℕ) → Asking ask ws base n k → n ≤ k → ((b : ℕ) → Does ws (ask b 0) (Ok tt) ws) → Does ws (ask base n) (Ok tt) ws
  ask_last k g h z = let q : n - k ≡ 0 = omega arith in carried {act' = ask (base + k) 0} {ws' = ws} (λ ts. rw q at (g.rest ts)) (z (base + k))

-- whether one is a destroyed shape
module _ (ws : List ℕ) (p base n : ℕ) where
  module _ (k : ℕ) (g : Asking (all_usable p) ws base n k) (h : k < n) {w : ℕ} (e : w ≡ argument_at ws (base + k)) where
    asked_next : (ts : List ℕ) → all_usable p base n (raw ts ws) ≡ (usable p (unpacked w) >>= λ _. all_usable p (base + (k + 1)) (n - (k + 1))) (raw ts ws)
    unfolding all_usable ◌>>=◌
    asked_next ts = let s : base + k + 1 ≡ base + (k + 1) = omega arith in g.rest ts ∙ rw (one_more h, e, s) refl

    pub ask_dead : {r : Result (Unit {0}) Fault} {x : Fault} → Does ws (usable p (unpacked w)) (Err x) ws → IsErrAnd r (λ y. y ≡ x) → Does ws (all_usable p base n) r ws
    ask_dead d i = carried asked_next (stops _ d i)

    pub ask_more : Does ws (usable p (unpacked w)) (Ok tt) ws → Asking (all_usable p) ws base n (k + 1)
    ask_more d = record { rest = λ ts. asked_next ts ∙ onward _ ts d }

  pub ask_all : (k : ℕ) → Asking (all_usable p) ws base n k → n ≤ k → Does ws (all_usable p base n) (Ok tt) ws
  unfolding all_usable
  ask_all k g h = ask_last (all_usable p) ws base n k g h (λ b. given tt)

-- whether one is no shape
module _ (ws : List ℕ) (p base n : ℕ) where
  module _ (k : ℕ) {b : Bool} (g : Asking (all_shapes p) ws base n k) (h : k < n) (e : b ≡ is_kind ws base k 6) where
    one_asked : (m : ℕ) (ts : List ℕ) → all_shapes p (base + k) (suc m) (raw ts ws)
        ≡ cond (is_kind ws base k 6) (all_shapes p (base + (k + 1)) m (raw ts ws)) (stop 20 p (raw ts ws))
    unfolding all_shapes is_kind
    one_asked m ts =
        let s : base + k + 1 ≡ base + (k + 1) = omega arith in
        rw (← s) (shape_or p (argument_at ws (base + k)) (raw ts ws) (λ i. all_shapes p (base + k + 1) m))

    pub shape_missing : not b ≡ true → Does ws (all_shapes p base n) (Err (Misuse p)) ws
    unfolding out_of
    shape_missing t = record { equal = λ ts. sym (g.rest ts ∙ rw (one_more h, one_asked (n - (k + 1)) ts, ← e, not-true b t)) }

    pub shape_given : not b ≡ false → Asking (all_shapes p) ws base n (k + 1)
    shape_given t = record { rest = λ ts. g.rest ts ∙ rw (one_more h, one_asked (n - (k + 1)) ts, ← e, not-false b t) }

  pub shapes_all : (k : ℕ) → Asking (all_shapes p) ws base n k → n ≤ k → Does ws (all_shapes p base n) (Ok tt) ws
  unfolding all_shapes
  shapes_all k g h = ask_last (all_shapes p) ws base n k g h (λ b. given tt)
