-- What shapes show: the figures that they are or hold, and the walk that counts these and the bytes of their lines.
use Rattle.std.specs.Prelude.{ℕ, zero, suc, ◌+◌, ◌%◌, ◌^◌, List, [], ◌∷◌, ◌++◌, get_or}
use Rattle.meaning.specs.Basics.{if◌then◌otherwise◌}
use Rattle.machine.specs.declared.Value.{Value}
use Rattle.machine.specs.declared.Value.TheVariants.{Integer, Text, Boolean, Nothing, Table, Shape}
use Rattle.machine.specs.Words.{unpacked}
use Rattle.machine.specs.Layout.{declared, lines_length, frame, shapes_granted}
use Rattle.machine.specs.Act.{Raw, Act, give, load, store, held, count, ◌>>=◌, ◌>>◌}
use Rattle.machine.specs.Shapes.{is_group_at, destroyed_at}
use Rattle.machine.specs.Groups.{component_at, first_at, count_at, walk_in}
use Rattle.machine.specs.Variables.{holding_of}

-- ---- figures by their shapes' numbers
-- what n components from slot k on show, `inside` of each that is not destroyed
unfoldable pub shown_from : (ℕ → List ℕ) → List ℕ → List ℕ → ℕ → ℕ → List ℕ
shown_from inside g ws k zero = []
shown_from inside g ws k (suc n) =
    (if destroyed_at ws (component_at g ws k) then (λ _. []) otherwise λ _. inside (component_at g ws k)) ++ shown_from inside g ws (k + 1) n

-- a figure itself, or those that a group holds, depth first; b as in walks
unfoldable pub figures_in : ℕ → List ℕ → List ℕ → ℕ → List ℕ
figures_in zero g ws i = []
figures_in (suc b) g ws i = if is_group_at ws i then (λ _. shown_from (figures_in b g ws) g ws (first_at ws i) (count_at ws i)) otherwise λ _. i ∷ []

-- ---- the walk: `size` gives how long the line of a figure is; the sum is that of words
unfoldable pub measure : (Raw → ℕ → ℕ) → ℕ → Act (Unit {0})
measure size i r = store lines_length ((get_or r.words lines_length 0 + size r i) % 2 ^ 64) r

-- a component reached counts a step; a group has no line of its own
unfoldable pub show_reached : (Raw → ℕ → ℕ) → List ℕ → ℕ → Act (Unit {0})
show_reached size g c = do
  count g 0
  ws ← held
  if is_group_at ws c then (λ _. give tt) otherwise λ _. measure size c

unfoldable pub show : (Raw → ℕ → ℕ) → List ℕ → ℕ → Act (Unit {0})
show size g i =
    held >>= λ ws.
    if destroyed_at ws i then (λ _. give tt)
    otherwise λ _. if is_group_at ws i then (λ _. walk_in (show_reached size g) (λ d. give tt) (shapes_granted g) g 0 i)
    otherwise λ _. measure size i

unfoldable pub show_in : (Raw → ℕ → ℕ) → List ℕ → Value → Act (Unit {0})
show_in size g (Integer z) = give tt
show_in size g (Text h) = give tt
show_in size g (Boolean b) = give tt
show_in size g Nothing = give tt
show_in size g (Table t) = give tt
show_in size g (Shape i) = show size g i

-- the shapes that the variables from the k-th declaration on hold, n of them, in the frame f
unfoldable pub show_from : (Raw → ℕ → ℕ) → List ℕ → ℕ → ℕ → ℕ → Act (Unit {0})
show_from size g f k zero = give tt
show_from size g f k (suc n) = do
  ws ← held
  show_in size g (unpacked (holding_of ws f k))
  show_from size g f (k + 1) n

-- of all of main's variables
unfoldable pub show_scene : (Raw → ℕ → ℕ) → List ℕ → Act (Unit {0})
show_scene size g = do
  store lines_length 0
  f ← load frame
  n ← load declared
  show_from size g f 0 n
