-- The library procedures (section 2.2.6 of the IMG specification, less the trigonometric ones).
use Rattle.std.specs.Prelude.{ℕ, suc, List, [], ◌∷◌, ◌++◌, ℤ}
use Rattle.std.proofs.Math.Option.{Option, some}
use Rattle.meaning.specs.Basics.{bytes, if◌then◌otherwise◌, same_text}
use Rattle.meaning.specs.Figure.{Figure, line, ellipse, box, text, centre_x, centre_y, connecting, text_on}
use Rattle.meaning.specs.Value.{Value, integer, none, shape}
use Rattle.meaning.specs.State.{Content, atom, group, shapes_held, shapes_held_by}
use Rattle.meaning.specs.Run.{Action, ◌>>=◌, ◌>>◌, give, fail, current}
use Rattle.meaning.specs.Group.{new_shape, each, destroying}
use Rattle.meaning.specs.Operator.{usable, with_integer, with_string, with_shape_number, with_figure}

pub data Library : Type 0 where
  draw_line draw_ellipse draw_box draw_text connect_shapes draw_text_on_shape x_coordinate y_coordinate destroy_shape clear_scene draw_group : Library

unfoldable pub library_of : List ℕ → Option Library
library_of f =
    if same_text f (bytes "drawLine") then (λ _. some draw_line)
    otherwise λ _. if same_text f (bytes "drawEllipse") then (λ _. some draw_ellipse)
    otherwise λ _. if same_text f (bytes "drawBox") then (λ _. some draw_box)
    otherwise λ _. if same_text f (bytes "drawText") then (λ _. some draw_text)
    otherwise λ _. if same_text f (bytes "drawLineConnectingShapes") then (λ _. some connect_shapes)
    otherwise λ _. if same_text f (bytes "drawTextOnShape") then (λ _. some draw_text_on_shape)
    otherwise λ _. if same_text f (bytes "getShapeXCoordinate") then (λ _. some x_coordinate)
    otherwise λ _. if same_text f (bytes "getShapeYCoordinate") then (λ _. some y_coordinate)
    otherwise λ _. if same_text f (bytes "destroyShape") then (λ _. some destroy_shape)
    otherwise λ _. if same_text f (bytes "clearScene") then (λ _. some clear_scene)
    otherwise λ _. if same_text f (bytes "drawGroup") then (λ _. some draw_group)
    otherwise λ _. Option.none

-- ---- arguments: a wrong number of them is 20
unfoldable pub with_none : ℕ → List Value → Action Value → Action Value
with_none p [] k = k
with_none p (v ∷ vs) k = fail 20 p

unfoldable pub with_one : ℕ → List Value → (Value → Action Value) → Action Value
with_one p [] k = fail 20 p
with_one p (v ∷ vs) k = with_none p vs (k v)

unfoldable pub with_two : ℕ → List Value → (Value → Value → Action Value) → Action Value
with_two p [] k = fail 20 p
with_two p (v ∷ vs) k = with_one p vs (k v)

unfoldable pub with_three : ℕ → List Value → (Value → Value → Value → Action Value) → Action Value
with_three p [] k = fail 20 p
with_three p (v ∷ vs) k = with_two p vs (k v)

unfoldable pub with_four : ℕ → List Value → (Value → Value → Value → Value → Action Value) → Action Value
with_four p [] k = fail 20 p
with_four p (v ∷ vs) k = with_three p vs (k v)

-- each has to be a shape
unfoldable pub shape_numbers : ℕ → List Value → Action (List ℕ)
shape_numbers p [] = give []
shape_numbers p (v ∷ vs) = with_shape_number p v λ i. shape_numbers p vs >>= λ is. give (i ∷ is)

-- ---- procedures
unfoldable pub draw : ℕ → Content → Action Value
draw p c = new_shape p c >>= λ i. give (shape i)

-- four integers make a figure
unfoldable pub draw_figure : (ℤ → ℤ → ℤ → ℤ → Figure) → ℕ → List Value → Action Value
draw_figure make p vs =
    with_four p vs λ v₁ v₂ v₃ v₄.
    with_integer p v₁ λ a. with_integer p v₂ λ b. with_integer p v₃ λ c. with_integer p v₄ λ d.
    draw p (atom (make a b c d))

unfoldable pub perform : Library → ℕ → List Value → Action Value
perform draw_line p vs = draw_figure line p vs
perform draw_ellipse p vs = draw_figure ellipse p vs
perform draw_box p vs = draw_figure box p vs
perform draw_text p vs =
    with_three p vs λ v₁ v₂ v₃.
    with_integer p v₁ λ x. with_integer p v₂ λ y. with_string p v₃ λ t. draw p (atom (text x y t))
perform connect_shapes p vs =
    with_two p vs λ v₁ v₂. with_figure p v₁ λ a. with_figure p v₂ λ b. draw p (atom (connecting a b))
perform draw_text_on_shape p vs =
    with_two p vs λ v₁ v₂. with_figure p v₁ λ a. with_string p v₂ λ t. draw p (atom (text_on a t))
perform x_coordinate p vs = with_one p vs λ v. with_figure p v λ a. give (integer (centre_x a))
perform y_coordinate p vs = with_one p vs λ v. with_figure p v λ a. give (integer (centre_y a))
perform destroy_shape p vs = with_one p vs λ v. with_shape_number p v λ i. destroying (suc i) p i >> give none
perform clear_scene p vs = with_none p vs do
  s ← current
  each (λ i. destroying (suc i) p i) (shapes_held_by s.suspended ++ shapes_held s.variables)
  give none
perform draw_group p vs = shape_numbers p vs >>= λ is. draw p (group is)

-- no argument may be a destroyed shape
unfoldable pub all_usable : ℕ → List Value → Action (Unit {0})
all_usable p [] = give tt
all_usable p (v ∷ vs) = usable p v >> all_usable p vs

-- a call, its arguments evaluated: a procedure that is not known is 20 and uses none of them
unfoldable pub call_library : Option Library → ℕ → List Value → Action Value
call_library Option.none p vs = fail 20 p
call_library (some f) p vs = all_usable p vs >> perform f p vs
