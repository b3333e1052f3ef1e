-- Groups: their components, and walks over all that they hold. A component's slot holds its shape's number and how many components follow it in its group.
-- A walk goes depth first. At depth d it keeps the slot at which it went down, how many components follow there, and how many new ones waited then, so that
-- it needs no other memory; b falls at each group inside another, and b + d remains the number of shapes granted.
use Rattle.std.specs.Prelude.{ℕ, zero, suc, ◌+◌, ◌-◌, ◌*◌, ◌/◌, ◌%◌, ◌^◌, Bool, false, ◌&&◌, ◌||◌, List, get_or, set, eqb}
use Rattle.meaning.specs.Basics.{if◌then◌otherwise◌}
use Rattle.machine.specs.declared.Value.{Value}
use Rattle.machine.specs.declared.Value.TheVariants.{Shape}
use Rattle.machine.specs.declared.Figure.{Figure}
use Rattle.machine.specs.Layout.{shapes_used, entries_used, components_made, waiting_held, shapes_granted, entries_granted, calls_granted, shape_place, component_place, path_place}
use Rattle.machine.specs.Act.{raw, done, Act, give, load, store, held, spend, count, ◌>>=◌, ◌>>◌}
use Rattle.machine.specs.Shapes.{kind_group, is_group_at, destroyed_at, figure_at, first_word, new_shape, destroy}

-- ---- components
abbrev pub slot_word : ℕ → ℕ → ℕ
slot_word c n = c % 2 ^ 32 + 2 ^ 32 * (n % 2 ^ 32)

abbrev pub component_at : List ℕ → List ℕ → ℕ → ℕ
component_at g ws k = get_or ws (component_place g k) 0 % 2 ^ 32

abbrev pub followers_at : List ℕ → List ℕ → ℕ → ℕ
followers_at g ws k = get_or ws (component_place g k) 0 / 2 ^ 32 % 2 ^ 16

-- the slot of a group's first component, and how many there are
abbrev pub first_at : List ℕ → ℕ → ℕ
first_at ws i = get_or ws (shape_place i + 1) 0 % 2 ^ 16

abbrev pub count_at : List ℕ → ℕ → ℕ
count_at ws i = get_or ws (shape_place i + 1) 0 / 2 ^ 32 % 2 ^ 16

-- ---- a group made
-- zeros in n words from a place on
unfoldable pub zeroed : List ℕ → ℕ → ℕ → List ℕ
zeroed ws at zero = ws
zeroed ws at (suc n) = zeroed (set ws at 0) (at + 1) n

-- a new component in slot k is on no loop's way, of whichever call
unfoldable pub unmarked : List ℕ → ℕ → Act (Unit {0})
unmarked g k r = done tt (raw r.texts (zeroed r.words (path_place g 0 k) (calls_granted g)))

-- n components, one entry for each: their numbers stand above so many bits, unit, of the words at a place and every stride further on
unfoldable pub fill_from : List ℕ → ℕ → ℕ → ℕ → ℕ → ℕ → Act (Unit {0})
fill_from g p stride unit place zero = give tt
fill_from g p stride unit place (suc n) = do
  k ← load components_made
  spend entries_used (entries_granted g) 1 77 p
  w ← load place
  store (component_place g (k % entries_granted g)) (slot_word (w / unit) n)
  unmarked g (k % entries_granted g)
  store components_made (k % entries_granted g + 1)
  fill_from g p stride unit (place + stride) n

abbrev pub group_laid : List ℕ → ℕ → ℕ → ℕ → List ℕ
group_laid ws at first n = set (set (set ws at (first_word kind_group 0)) (at + 1) (slot_word first n)) (at + 2) 0

unfoldable pub put_group : ℕ → ℕ → ℕ → Act (Unit {0})
put_group at first n r = done tt (raw r.texts (group_laid r.words at first n))

unfoldable pub new_group : List ℕ → ℕ → ℕ → ℕ → ℕ → ℕ → Act ℕ
new_group g p stride unit place n = do
  i ← load shapes_used
  spend shapes_used (shapes_granted g) 1 76 p
  first ← load components_made
  put_group (shape_place i) first n
  fill_from g p stride unit place n
  give i

-- a copy takes as much and has the same components
unfoldable pub copy_shape : List ℕ → ℕ → ℕ → Act Value
copy_shape g p i =
    held >>= λ ws.
    if is_group_at ws i then (λ _. new_group g p 1 1 (component_place g (first_at ws i)) (count_at ws i) >>= λ j. give (Shape j))
    otherwise λ _. new_shape g p (figure_at ws i)

-- ---- walks
-- the way at a depth: a slot, how many components follow there, and how many new ones waited
abbrev pub way_word : ℕ → ℕ → ℕ → ℕ
way_word k n m = k % 2 ^ 32 + 2 ^ 32 * (n % 2 ^ 16) + 2 ^ 48 * (m % 2 ^ 16)

-- where the way stands at depth d, and the k-th new component that waits
abbrev pub way_place : ℕ → ℕ
way_place d = shape_place d + 3

abbrev pub waiting_place : ℕ → ℕ
waiting_place k = shape_place k + 4

-- the components from slot k on, n of them, those passed over that are destroyed by then; a visit is told how many follow
unfoldable pub each_from : (ℕ → ℕ → ℕ → Act (Unit {0})) → List ℕ → ℕ → ℕ → Act (Unit {0})
each_from visit g k zero = give tt
each_from visit g k (suc n) = do
  ws ← held
  if destroyed_at ws (component_at g ws k) then (λ _. give tt) otherwise λ _. visit k n (component_at g ws k)
  each_from visit g (k + 1) n

-- all in group i: reach is done with each component, and leave, at its depth, with each group when all in it was reached
unfoldable pub walk_in : (ℕ → Act (Unit {0})) → (ℕ → Act (Unit {0})) → ℕ → List ℕ → ℕ → ℕ → Act (Unit {0})
walk_in reach leave zero g d i = give tt
walk_in reach leave (suc b) g d i =
    held >>= λ ws.
    each_from (λ k n c. reach c >> (held >>= λ ws'. if is_group_at ws' c then (λ _. do
      m ← load waiting_held
      store (way_place d) (way_word k n m)
      walk_in reach leave b g (d + 1) c
      leave d)
    otherwise λ _. give tt)) g (first_at ws i) (count_at ws i)

-- ---- destroying: a shape itself, then all in it
unfoldable pub destroy_all : List ℕ → ℕ → ℕ → Act (Unit {0})
destroy_all g p i = do
  destroy i
  ws ← held
  if is_group_at ws i then (λ _. walk_in (λ c. count g p >> destroy c) (λ d. give tt) (shapes_granted g) g 0 i) otherwise λ _. give tt

-- the same of a shape that may be destroyed already
unfoldable pub destroy_living : List ℕ → ℕ → ℕ → Act (Unit {0})
destroy_living g p i = held >>= λ ws. if destroyed_at ws i then (λ _. give tt) otherwise λ _. destroy_all g p i

-- ---- shapes made anew by f: of a group its components first, each waiting then, and then a group of those that wait
unfoldable pub await : ℕ → Act (Unit {0})
await j = do
  k ← load waiting_held
  store (waiting_place (k % 2 ^ 16)) j
  store waiting_held (k % 2 ^ 16 + 1)

-- a group of those that wait from the m-th on, which wait no longer
unfoldable pub group_waiting : List ℕ → ℕ → ℕ → Act ℕ
group_waiting g p m = do
  top ← load waiting_held
  j ← new_group g p 5 1 (waiting_place m) (top - m)
  store waiting_held m
  give j

-- a figure reached is made anew at once, a group when it is left
unfoldable pub remake_reached : List ℕ → ℕ → (Figure → Figure) → ℕ → Act (Unit {0})
remake_reached g p f c = do
  count g p
  ws ← held
  if is_group_at ws c then (λ _. give tt) otherwise λ _. new_shape g p (f (figure_at ws c)) >> await (get_or ws shapes_used 0)

unfoldable pub remake_left : List ℕ → ℕ → ℕ → Act (Unit {0})
remake_left g p d = do
  w ← load (way_place d)
  j ← group_waiting g p (w / 2 ^ 48)
  await j

unfoldable pub remake_group : List ℕ → ℕ → (Figure → Figure) → ℕ → Act Value
remake_group g p f i = do
  store waiting_held 0
  walk_in (remake_reached g p f) (remake_left g p) (shapes_granted g) g 0 i
  j ← group_waiting g p 0
  give (Shape j)

unfoldable pub remake : List ℕ → ℕ → (Figure → Figure) → ℕ → Act Value
remake g p f i = held >>= λ ws. if is_group_at ws i then (λ _. remake_group g p f i) otherwise λ _. new_shape g p (f (figure_at ws i))

-- ---- equality
-- how many of n components from slot k on stand before the first that is not destroyed; n if there is none
unfoldable pub passed_from : List ℕ → List ℕ → ℕ → ℕ → ℕ
passed_from g ws k zero = 0
passed_from g ws k (suc n) = if destroyed_at ws (component_at g ws k) then (λ _. suc (passed_from g ws (k + 1) n)) otherwise λ _. 0

-- The pairs of n components from slot k on and m from slot l on, each by `pair`, which is told how many follow on each side; the first that is not alike, or
-- the end of the shorter, settles it.
unfoldable pub pairs_from : (ℕ → ℕ → ℕ → ℕ → Act Bool) → List ℕ → ℕ → ℕ → ℕ → ℕ → Act Bool
pairs_from pair g k zero l m = held >>= λ ws. give (eqb m (passed_from g ws l m))
pairs_from pair g k (suc n) l m =
    held >>= λ ws.
    let y = passed_from g ws l m in
    if destroyed_at ws (component_at g ws k) then (λ _. pairs_from pair g (k + 1) n l m)
    otherwise λ _. if eqb m y then (λ _. give false)
    otherwise λ _. pair k n (l + y) (m - y - 1) >>= λ b.
    if b then (λ _. pairs_from pair g (k + 1) n (l + y + 1) (m - y - 1)) otherwise λ _. give false

-- two shapes: two figures by `same`, two groups pair by pair with a step for each; the way is kept on both sides
unfoldable pub alike_at : (ℕ → ℕ → Act Bool) → ℕ → List ℕ → ℕ → ℕ → ℕ → ℕ → Act Bool
alike_at same zero g p d i j = give false
alike_at same (suc b) g p d i j =
    held >>= λ ws.
    if is_group_at ws i && is_group_at ws j
    then (λ _. pairs_from (λ k n l m. do
      count g p
      store (way_place d) (way_word k n 0)
      store (waiting_place d) (way_word l m 0)
      ws' ← held
      alike_at same b g p (d + 1) (component_at g ws' k) (component_at g ws' l)) g (first_at ws i) (count_at ws i) (first_at ws j) (count_at ws j))
    otherwise λ _. if is_group_at ws i || is_group_at ws j then (λ _. give false)
    otherwise λ _. same i j
