-- Library procedures on values as the code holds them. The arguments of a call stand in the words, n of them from the one numbered base on.
use Rattle.std.specs.Prelude.{ℕ, zero, suc, ◌+◌, not, List, ℤ, pos, eqb, ltb}
use Rattle.meaning.specs.Basics.{if◌then◌otherwise◌}
use Rattle.machine.specs.declared.Value.{Value}
use Rattle.machine.specs.declared.Value.TheVariants.{Integer, Nothing, Shape}
use Rattle.machine.specs.Layout.{argument_place}
use Rattle.machine.specs.Act.{Act, ◌>>=◌, ◌>>◌, give, fail, refuse, held}
use Rattle.machine.specs.declared.Figure.{Figure}
use Rattle.machine.specs.Shapes.{is_group_at, figure_at, new_shape}
use Rattle.machine.specs.Groups.{new_group, destroy_all}
use Rattle.machine.specs.Variables.{clear_scene}
use Rattle.machine.specs.Operate.{with_integer, with_text, with_shape}
use Rattle.machine.specs.Arguments.{argument, all_usable, figure, centre_x, centre_y, connecting, text_on}

-- ---- procedures
unfoldable pub with_figure : {A : Type 0} → ℕ → Value → (Figure → Act A) → Act A
with_figure p v k = with_shape p v λ i. held >>= λ ws. if is_group_at ws i then (λ _. fail 20 p) otherwise λ _. k (figure_at ws i)

-- four integers make a figure of a kind
unfoldable pub drawn : List ℕ → ℕ → ℕ → ℕ → ℕ → Act Value
drawn grants kind p base n r = (do
  refuse (not (eqb n 4)) 20 p
  with_integer p (argument r base) λ x. with_integer p (argument r (base + 1)) λ y.
      with_integer p (argument r (base + 2)) λ z. with_integer p (argument r (base + 3)) λ w.
      new_shape grants p (figure kind x y z w 0)) r

unfoldable pub drawn_text : List ℕ → ℕ → ℕ → ℕ → Act Value
drawn_text grants p base n r = (do
  refuse (not (eqb n 3)) 20 p
  with_integer p (argument r base) λ x. with_integer p (argument r (base + 1)) λ y. with_text p (argument r (base + 2)) λ h.
      new_shape grants p (figure 3 x y (pos 0) (pos 0) h)) r

unfoldable pub connected : List ℕ → ℕ → ℕ → ℕ → Act Value
connected grants p base n r = (do
  refuse (not (eqb n 2)) 20 p
  with_figure p (argument r base) λ s. with_figure p (argument r (base + 1)) λ t.
      new_shape grants p (connecting s t)) r

unfoldable pub labelled : List ℕ → ℕ → ℕ → ℕ → Act Value
labelled grants p base n r = (do
  refuse (not (eqb n 2)) 20 p
  with_figure p (argument r base) λ s. with_text p (argument r (base + 1)) λ h.
      new_shape grants p (text_on s h)) r

unfoldable pub coordinate : (Figure → ℤ) → ℕ → ℕ → ℕ → Act Value
coordinate f p base n r = (do
  refuse (not (eqb n 1)) 20 p
  with_figure p (argument r base) λ s. give (Integer (f s))) r

unfoldable pub destroyed : List ℕ → ℕ → ℕ → ℕ → Act Value
destroyed grants p base n r = (do
  refuse (not (eqb n 1)) 20 p
  with_shape p (argument r base) λ i. destroy_all grants p i >> give Nothing) r

unfoldable pub clearing : List ℕ → ℕ → ℕ → Act Value
clearing grants p n = do
  refuse (not (eqb n 0)) 20 p
  clear_scene grants p
  give Nothing

-- n arguments from the one numbered base on, which all have to be shapes
unfoldable pub all_shapes : ℕ → ℕ → ℕ → Act (Unit {0})
all_shapes p base zero = give tt
all_shapes p base (suc n) = (λ r. with_shape p (argument r base) (λ i. all_shapes p (base + 1) n) r)

unfoldable pub grouped : List ℕ → ℕ → ℕ → ℕ → Act Value
grouped grants p base n = do
  all_shapes p base n
  j ← new_group grants p 1 8 (argument_place base) n
  give (Shape j)

-- by the procedure's number
unfoldable pub perform : List ℕ → ℕ → ℕ → ℕ → ℕ → Act Value
perform grants number p base n =
    if eqb number 0 then (λ _. drawn grants 0 p base n)
    otherwise λ _. if eqb number 1 then (λ _. drawn grants 1 p base n)
    otherwise λ _. if eqb number 2 then (λ _. drawn grants 2 p base n)
    otherwise λ _. if eqb number 3 then (λ _. drawn_text grants p base n)
    otherwise λ _. if eqb number 4 then (λ _. connected grants p base n)
    otherwise λ _. if eqb number 5 then (λ _. labelled grants p base n)
    otherwise λ _. if eqb number 6 then (λ _. coordinate centre_x p base n)
    otherwise λ _. if eqb number 7 then (λ _. coordinate centre_y p base n)
    otherwise λ _. if eqb number 8 then (λ _. destroyed grants p base n)
    otherwise λ _. if eqb number 9 then (λ _. clearing grants p n)
    otherwise λ _. grouped grants p base n

-- a procedure that is not known is 20 and uses no argument
unfoldable pub call_library : List ℕ → ℕ → ℕ → ℕ → ℕ → Act Value
call_library grants number p base n =
    if ltb number 11 then (λ _. all_usable p base n >> perform grants number p base n) otherwise λ _. fail 20 p
