-- What the parts of comparing two figures answer.
use Rattle.std.specs.Prelude.{Bool, ◌&&◌, ℤ}
use Rattle.meaning.specs.Integer.{same_integer}
use Rattle.machine.specs.declared.Figure.{Figure}

-- two numbers of a figure, and all four
unfoldable pub same_pair : ℤ → ℤ → ℤ → ℤ → Bool
same_pair x y z w = same_integer x z && same_integer y w

unfoldable pub same_numbers : Figure → Figure → Bool
same_numbers s t = same_pair s.a s.b t.a t.b && same_pair s.c s.d t.c t.d
