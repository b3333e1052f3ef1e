-- What the code for library procedures asks of a call's arguments.
use Rattle.std.specs.Prelude.{ℕ, ◌+◌, Bool, not, ◌&&◌, List, ℤ, pos, ◌+ℤ◌, eqb}
use Rattle.std.specs.Int.{w32}
use Rattle.std.proofs.Common.{to_z}
use Rattle.meaning.specs.Basics.{if◌then◌otherwise◌}
use Rattle.meaning.specs.Integer.{sum, half}
use Rattle.machine.specs.Words.{kind_in, number_in, handle_in}
use Rattle.machine.specs.Stack.{argument_at}
use Rattle.machine.specs.declared.Figure.{Figure}
use Rattle.machine.specs.Shapes.{is_group_at, figure_at}
use Rattle.machine.specs.Arguments.{figure, connecting, text_on}

-- ---- kinds
-- argument i is of kind k
unfoldable pub is_kind : List ℕ → ℕ → ℕ → ℕ → Bool
is_kind ws base i k = eqb (kind_in (argument_at ws (base + i))) k

-- argument i is of kind k, and argument j of kind l
unfoldable pub are_kinds : List ℕ → ℕ → ℕ → ℕ → ℕ → ℕ → Bool
are_kinds ws base i k j l = is_kind ws base i k && is_kind ws base j l

unfoldable pub four_integers : List ℕ → ℕ → Bool
four_integers ws base = are_kinds ws base 0 1 1 1 && are_kinds ws base 2 1 3 1

unfoldable pub point_and_text : List ℕ → ℕ → Bool
point_and_text ws base = are_kinds ws base 0 1 1 1 && is_kind ws base 2 2

-- ---- what they hold, if they are of the kind
unfoldable pub integer_at : List ℕ → ℕ → ℕ → ℤ
integer_at ws base i = to_z w32 (number_in (argument_at ws (base + i)))

unfoldable pub handle_at : List ℕ → ℕ → ℕ → ℕ
handle_at ws base i = handle_in (argument_at ws (base + i))

unfoldable pub shape_at : List ℕ → ℕ → ℕ → ℕ
shape_at ws base i = number_in (argument_at ws (base + i))

unfoldable pub given_figure : List ℕ → ℕ → ℕ → Figure
given_figure ws base i = figure_at ws (shape_at ws base i)

-- ---- figures: shapes that are no groups
unfoldable pub is_figure : List ℕ → ℕ → ℕ → Bool
is_figure ws base i = is_kind ws base i 6 && not (is_group_at ws (shape_at ws base i))

unfoldable pub two_figures : List ℕ → ℕ → Bool
two_figures ws base = is_figure ws base 0 && is_figure ws base 1

unfoldable pub figure_and_text : List ℕ → ℕ → Bool
figure_and_text ws base = is_figure ws base 0 && is_kind ws base 1 2

-- ---- the figures that procedures make of them
-- the middle of what begins at x and goes to z, or is z wide
unfoldable pub centre : ℕ → ℤ → ℤ → ℤ
centre kind x z =
    if eqb kind 0 then (λ _. half (x +ℤ z))
    otherwise λ _. if eqb kind 2 then (λ _. sum x (half z))
    otherwise λ _. x

unfoldable pub drawn_figure : List ℕ → ℕ → ℕ → Figure
drawn_figure ws kind base = figure kind (integer_at ws base 0) (integer_at ws base 1) (integer_at ws base 2) (integer_at ws base 3) 0

unfoldable pub text_figure : List ℕ → ℕ → Figure
text_figure ws base = figure 3 (integer_at ws base 0) (integer_at ws base 1) (pos 0) (pos 0) (handle_at ws base 2)

unfoldable pub connecting_figure : List ℕ → ℕ → Figure
connecting_figure ws base = connecting (given_figure ws base 0) (given_figure ws base 1)

unfoldable pub label_figure : List ℕ → ℕ → Figure
label_figure ws base = text_on (given_figure ws base 0) (handle_at ws base 1)
