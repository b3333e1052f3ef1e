-- The arguments of a library call, which stand in the words, n of them from the one numbered base on, and the figures that are made of them.
use Rattle.std.specs.Prelude.{ℕ, zero, suc, ◌+◌, ℤ, pos, ◌+ℤ◌, eqb}
use Rattle.meaning.specs.Basics.{if◌then◌otherwise◌}
use Rattle.meaning.specs.Integer.{sum, half}
use Rattle.machine.specs.declared.Value.{Value}
use Rattle.machine.specs.Words.{unpacked}
use Rattle.machine.specs.Stack.{argument_at}
use Rattle.machine.specs.Act.{Raw, Act, ◌>>◌, give}
use Rattle.machine.specs.declared.Figure.{Figure}
use Rattle.machine.specs.Variables.{usable}

-- the k-th argument held
abbrev pub argument : Raw → ℕ → Value
argument r k = unpacked (argument_at r.words k)

-- no argument may be a destroyed shape
unfoldable pub all_usable : ℕ → ℕ → ℕ → Act (Unit {0})
all_usable p base zero = give tt
all_usable p base (suc n) = (λ r. usable p (argument r base) r) >> all_usable p (base + 1) n

-- ---- figures
abbrev pub figure : ℕ → ℤ → ℤ → ℤ → ℤ → ℕ → Figure
figure k x y z w t = record { kind = k; a = x; b = y; c = z; d = w; text = t }

unfoldable pub centre_x : Figure → ℤ
centre_x s =
    if eqb s.kind 0 then (λ _. half (s.a +ℤ s.c))
    otherwise λ _. if eqb s.kind 2 then (λ _. sum s.a (half s.c))
    otherwise λ _. s.a

unfoldable pub centre_y : Figure → ℤ
centre_y s =
    if eqb s.kind 0 then (λ _. half (s.b +ℤ s.d))
    otherwise λ _. if eqb s.kind 2 then (λ _. sum s.b (half s.d))
    otherwise λ _. s.b

unfoldable pub connecting : Figure → Figure → Figure
connecting s t = figure 0 (centre_x s) (centre_y s) (centre_x t) (centre_y t) 0

unfoldable pub text_on : Figure → ℕ → Figure
text_on s h = figure 3 (centre_x s) (centre_y s) (pos 0) (pos 0) h
