-- Loops over groups, whose body runs for each figure in a group, depth first. Between two turns a loop remembers the slot of the figure that was bound; the
-- slots at which it went down to that are marked: their words, of the call under way, hold what the loop adds to them (Layout.loop_unit), and all that loops
-- around it add is less. So going up is a look for the next marked slot, and 64 loops of a call share one word a slot.
use Rattle.std.specs.Prelude.{ℕ, zero, suc, ◌+◌, ◌-◌, ◌*◌, ◌%◌, ◌^◌, Bool, not, ◌&&◌, ◌||◌, List, get_or, eqb, leb}
use Rattle.meaning.specs.Basics.{if◌then◌otherwise◌}
use Rattle.machine.specs.declared.Value.TheVariants.{Shape}
use Rattle.machine.specs.declared.Flow.{Flow}
use Rattle.machine.specs.declared.Flow.TheVariants.{Onward, Returned}
use Rattle.machine.specs.Words.{packed}
use Rattle.machine.specs.Layout.{calls_used, loop_unit, shapes_granted, steps_granted, shape_place, path_place}
use Rattle.machine.specs.Act.{Act, give, fail, store, held, count, ◌>>=◌, ◌>>◌}
use Rattle.machine.specs.Shapes.{is_group_at, destroyed_at}
use Rattle.machine.specs.Groups.{component_at, followers_at, first_at, count_at, way_word, way_place}
use Rattle.machine.specs.Variables.{set_variable}

-- ---- groups in which no figure is left; none ever comes back
abbrev pub hollow_at : List ℕ → ℕ → Bool
hollow_at ws i = eqb (get_or ws (shape_place i + 2) 0) 1

unfoldable pub hollow : ℕ → Act (Unit {0})
hollow i = store (shape_place i + 2) 1

-- ---- marks, of the call under way
abbrev pub mark_place : List ℕ → List ℕ → ℕ → ℕ
mark_place g ws k = path_place g ((get_or ws calls_used 0 - 1) % 64) k

abbrev pub marked_at : List ℕ → List ℕ → ℕ → Bool
marked_at g ws k = leb (get_or ws loop_unit 0) (get_or ws (mark_place g ws k) 0)

unfoldable pub mark : List ℕ → ℕ → Act (Unit {0})
mark g k = held >>= λ ws. store (mark_place g ws k) ((get_or ws (mark_place g ws k) 0 + get_or ws loop_unit 0) % 2 ^ 64)

unfoldable pub unmark : List ℕ → ℕ → Act (Unit {0})
unmark g k = held >>= λ ws. store (mark_place g ws k) (get_or ws (mark_place g ws k) 0 - get_or ws loop_unit 0)

-- ---- the next figure
-- The slot behind that of the first undestroyed figure among n components from slot k on and in groups among them; 0 if there is none. The slots on the way
-- down are marked, and a group that has none is hollow from then on. `inside` looks into a group; the way is kept as in other walks.
unfoldable pub look_from : (ℕ → Act ℕ) → List ℕ → ℕ → ℕ → ℕ → Act ℕ
look_from inside g d k zero = give 0
look_from inside g d k (suc n) =
    held >>= λ ws.
    let c = component_at g ws k in
    if destroyed_at ws c || (is_group_at ws c && hollow_at ws c) then (λ _. look_from inside g d (k + 1) n)
    otherwise λ _. if is_group_at ws c then (λ _. do
      mark g k
      store (way_place d) (way_word k n 0)
      found ← inside c
      ws' ← held
      if eqb found 0 then (λ _. unmark g k >> hollow (component_at g ws' k) >> look_from inside g d (k + 1) n) otherwise λ _. give found)
    otherwise λ _. give (k + 1)

unfoldable pub look_under : ℕ → List ℕ → ℕ → ℕ → ℕ → Act ℕ
look_under zero g d k n = give 0
look_under (suc b) g d k n = look_from (λ c. held >>= λ ws. look_under b g (d + 1) (first_at ws c) (count_at ws c)) g d k n

-- the same in group i
unfoldable pub look_in : List ℕ → ℕ → Act ℕ
look_in g i = held >>= λ ws. look_under (shapes_granted g) g 0 (first_at ws i) (count_at ws i)

-- the first marked slot of n from k on: the one behind it; 0 if there is none
unfoldable pub marked_from : List ℕ → List ℕ → ℕ → ℕ → ℕ
marked_from g ws k zero = 0
marked_from g ws k (suc n) = if marked_at g ws k then (λ _. k + 1) otherwise λ _. marked_from g ws (k + 1) n

-- behind slot k: among those that follow it in its group, or else behind the next marked slot below `end`; each turn goes further up
unfoldable pub look_behind : ℕ → List ℕ → ℕ → ℕ → Act ℕ
look_behind zero g end k = give 0
look_behind (suc turns) g end k = do
  ws ← held
  found ← look_under (shapes_granted g) g 0 ((k + 1) % 2 ^ 16) (followers_at g ws k)
  ws' ← held
  let up = marked_from g ws' (k + 1) (end - k - 1) in
      if not (eqb found 0) || eqb up 0 then (λ _. give found) otherwise λ _. unmark g (up - 1) >> look_behind turns g end (up - 1)

-- no slot of n from k on is marked any longer
unfoldable pub unmark_from : List ℕ → ℕ → ℕ → Act (Unit {0})
unmark_from g k zero = give tt
unmark_from g k (suc n) = do
  ws ← held
  if marked_at g ws k then (λ _. unmark g k) otherwise λ _. give tt
  unmark_from g (k + 1) n

-- ---- turns
-- the body with the variable bound to a shape
abbrev pub turn : Act Flow → ℕ → ℕ → Act Flow
turn body slot i = set_variable slot (packed (Shape i)) >> body

-- behind a turn: what follows, or the procedure returns and no slot below `end` is marked any longer
unfoldable pub following : List ℕ → ℕ → Flow → Act Flow → Act Flow
following g end Onward next = next
following g end (Returned v) next = unmark_from g 0 end >> give (Returned v)

-- the figures in an own component that is a group, from the one found on; each turn counts a step at least, so the turns run out where the steps do
unfoldable pub turns_from : ℕ → Act Flow → List ℕ → ℕ → ℕ → ℕ → ℕ → Act Flow
turns_from zero body g p slot end found = fail 79 p
turns_from (suc turns) body g p slot end found =
    if eqb found 0 then (λ _. give Onward)
    otherwise λ _. do
      ws ← held
      f ← turn body slot (component_at g ws (found - 1))
      following g end f (look_behind end g end (found - 1) >>= turns_from turns body g p slot end)

-- an own component, in slot k
unfoldable pub own_turn : Act Flow → List ℕ → ℕ → ℕ → ℕ → ℕ → Act Flow
own_turn body g p slot k c =
    held >>= λ ws.
    if is_group_at ws c then (λ _. look_in g c >>= turns_from (steps_granted g + 1) body g p slot k) otherwise λ _. turn body slot c

-- the group's own components from slot k on, n of them, with a step for each that is not destroyed when it is reached
unfoldable pub own_from : Act Flow → List ℕ → ℕ → ℕ → ℕ → ℕ → Act Flow
own_from body g p slot k zero = give Onward
own_from body g p slot k (suc n) = do
  ws ← held
  f ← if destroyed_at ws (component_at g ws k) then (λ _. give Onward) otherwise λ _. count g p >> own_turn body g p slot k (component_at g ws k)
  following g 0 f (own_from body g p slot (k + 1) n)

-- a call's outermost loop adds 1, and each inside another twice as much
unfoldable pub inner_unit : ℕ → ℕ
inner_unit u = if eqb u 0 then (λ _. 1) otherwise λ _. 2 * u % 2 ^ 64

-- a loop over group i
unfoldable pub loop_over : Act Flow → List ℕ → ℕ → ℕ → ℕ → Act Flow
loop_over body g p slot i = do
  ws ← held
  store loop_unit (inner_unit (get_or ws loop_unit 0))
  f ← own_from body g p slot (first_at ws i) (count_at ws i)
  store loop_unit (get_or ws loop_unit 0)
  give f
