-- What an operator makes of a figure and an integer.
use Rattle.std.specs.Prelude.{ℕ, cond, ℤ, eqb, Result, Ok, Err}
use Rattle.meaning.specs.Basics.{if◌then◌otherwise◌}
use Rattle.meaning.specs.Integer.{is_zero}
use Rattle.machine.specs.declared.Fault.{Fault}
use Rattle.machine.specs.declared.Fault.TheVariants.{Misuse, DivisionByZero}
use Rattle.machine.specs.declared.Figure.{Figure}
use Rattle.machine.specs.Operate.{plus_x, plus_y, minus_x, minus_y, scaled_up, scaled_down}

-- why an operator makes no shape of a shape and n: 20, or 70 where it divides and n is 0; 0 if it makes one
unfoldable pub refusal : ℕ → ℤ → ℕ
refusal tag n =
    if eqb tag 17 then (λ _. 0)
    otherwise λ _. if eqb tag 18 then (λ _. 0)
    otherwise λ _. if eqb tag 19 then (λ _. 0)
    otherwise λ _. if eqb tag 20 then (λ _. cond (is_zero n) 70 0)
    otherwise λ _. if eqb tag 22 then (λ _. 0)
    otherwise λ _. if eqb tag 23 then (λ _. 0)
    otherwise λ _. 20

-- what stops then, at a place
unfoldable pub unless : ℕ → ℕ → Result (Unit {0}) Fault
unless number p =
    if eqb number 0 then (λ _. Ok tt)
    otherwise λ _. if eqb number 70 then (λ _. Err (DivisionByZero p))
    otherwise λ _. Err (Misuse p)

-- the figure that it makes
unfoldable pub changed : ℕ → Figure → ℤ → Figure
changed tag s n =
    if eqb tag 17 then (λ _. plus_y s n)
    otherwise λ _. if eqb tag 18 then (λ _. minus_y s n)
    otherwise λ _. if eqb tag 19 then (λ _. scaled_up s n)
    otherwise λ _. if eqb tag 20 then (λ _. scaled_down s n)
    otherwise λ _. if eqb tag 22 then (λ _. plus_x s n)
    otherwise λ _. minus_x s n

-- a figure's first point, and its second if it is a line, in their new places
unfoldable pub placed : Figure → ℤ → ℤ → ℤ → ℤ → Figure
placed s x y z w = record {
  kind = s.kind;
  a = x;
  b = y;
  c = cond (eqb s.kind 0) z s.c;
  d = cond (eqb s.kind 0) w s.d;
  text = s.text;
}

-- a figure with other numbers
unfoldable pub renumbered : Figure → ℤ → ℤ → ℤ → ℤ → Figure
renumbered s x y z w = record {
  kind = s.kind;
  a = x;
  b = y;
  c = z;
  d = w;
  text = s.text;
}
