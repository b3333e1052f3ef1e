-- What each way through the code does.
use Prim.Native.Nat.{ℕ, ◌+◌, ◌-◌, ◌*◌, ◌/◌, ◌%◌, ◌^◌, ◌≤◌, ◌<◌}
use mathlib.Core.Path.{◌≡◌, refl, ◌∙◌}
use mathlib.Core.Bool.{Bool, true, false, not}
use mathlib.Core.List.{List, [], ◌∷◌}
use native.Mathlib.Omega.{arith}
use native.Mathlib.Nat.{le_trans, mul-le-mul_left}
use lib.ListN.{get_or, set, length}
use lib.Dec.{eqb}
use lib.IntN.{ℤ}
use lib.Signed.{mag}
use mir.Syntax.{w32}
use mir.Val.{to_z, of_z, SFits}
use mir.Facts.{to_z-of_z}
use borrow.Author.Tests.{le-leb, lt-leb}
use Rattle.meaning.specs.Integer.{bits}
use Rattle.machine.specs.declared.Value.TheVariants.{Table, Shape}
use Rattle.machine.specs.Layout.{steps_used, shapes_used, tables_made, arguments_held, calls_used, steps_granted, shapes_granted, stack_words, argument_place, shape_place, component_place, path_place, Room}
use Rattle.machine.specs.Act.{go_on, give, fail, refuse, load, store, spend, count, new_table, passed, Does, Pays, Gives, ◌>>=◌, out_of}
use Rattle.std.specs.Prelude.{Ok, Err}
use Rattle.machine.specs.declared.Fault.TheVariants.{Misuse}
use Rattle.machine.specs.declared.Figure.{Figure}
use Rattle.machine.specs.Shapes.{first_word, pair_word, figure_laid, put_figure, low_number, high_number, figure_at, kind_group, destroyed_at, is_group_at, destroy}
use Rattle.machine.specs.Groups.{component_at, followers_at, first_at, count_at}
use Rattle.machine.specs.Loops.{mark_place}
use Rattle.machine.specs.Stack.{push, drop_to}
use Rattle.stores.proofs.Acts.{covered}
use Rattle.std.specs.Prelude.{Ok}
use Rattle.meaning.specs.Basics.{if◌then◌otherwise◌}

-- ---- counters
module _ (ws : List ℕ) (counter granted amount : ℕ) where
  pub used_beyond : granted < get_or ws counter 0 → Pays ws counter granted amount false ws
  unfolding spend passed if◌then◌otherwise◌
  used_beyond h = record { equal = λ n p ts. rw (lt-leb (get_or ws counter 0 + amount) granted (omega arith)) }

  pub amount_beyond : get_or ws counter 0 ≤ granted → granted - get_or ws counter 0 < amount → Pays ws counter granted amount false ws
  unfolding spend passed if◌then◌otherwise◌
  amount_beyond l h = record { equal = λ n p ts. rw (lt-leb (get_or ws counter 0 + amount) granted (omega arith)) }

  pub pays : get_or ws counter 0 ≤ granted → amount ≤ granted - get_or ws counter 0 → Pays ws counter granted amount true (set ws counter (get_or ws counter 0 + amount))
  unfolding spend passed if◌then◌otherwise◌
  pays l h = record { equal = λ n p ts. rw (le-leb (get_or ws counter 0 + amount) granted (omega arith)) }

module _ (ws : List ℕ) (counter granted : ℕ) where
  pub none_left : granted ≤ get_or ws counter 0 → Pays ws counter granted 1 false ws
  unfolding spend passed if◌then◌otherwise◌
  none_left h = record { equal = λ n p ts. rw (lt-leb (get_or ws counter 0 + 1) granted (omega arith)) }

  pub pays_one : get_or ws counter 0 < granted → Pays ws counter granted 1 true (set ws counter (get_or ws counter 0 + 1))
  unfolding spend passed if◌then◌otherwise◌
  pays_one h = record { equal = λ n p ts. rw (le-leb (get_or ws counter 0 + 1) granted (omega arith)) }

pub makes_table : (ws : List ℕ) → Gives ws new_table (Table (get_or ws tables_made 0 % 4294967296)) (set ws tables_made (get_or ws tables_made 0 % 4294967296 + 1))
unfolding new_table ◌>>=◌ go_on load store give
makes_table ws = record { equal = λ ts. refl }

-- ---- shapes
pub destroys : (ws ws' : List ℕ) (i at w : ℕ) → at ≡ shape_place i → w ≡ get_or ws at 0 → ws' ≡ set ws at (w - w % 2 + 1) → Gives ws (destroy i) tt ws'
unfolding destroy ◌>>=◌ go_on load store
destroys ws ws' i at w e f h = record { equal = λ ts. rw (h, f, e) }

pub is_destroyed : (ws : List ℕ) (i at w : ℕ) → at ≡ shape_place i → w ≡ get_or ws at 0 → eqb (w % 2) 1 ≡ destroyed_at ws i
is_destroyed ws i at w e f = rw (f, e)

pub is_group : (ws : List ℕ) (i at w : ℕ) → at ≡ shape_place i → w ≡ get_or ws at 0 → eqb (w / 2 % 8) kind_group ≡ is_group_at ws i
is_group ws i at w e f = rw (f, e)

-- ---- components
module _ (g ws : List ℕ) (k at w : ℕ) (e : at ≡ component_place g k) (f : w ≡ get_or ws at 0) where
  pub component_is : w % 4294967296 ≡ component_at g ws k
  component_is = rw (f, e)

  pub followers_are : w / 4294967296 % 65536 ≡ followers_at g ws k
  followers_are = rw (f, e)

module _ (ws : List ℕ) (i at w : ℕ) (e : at ≡ shape_place i) (f : w ≡ get_or ws (at + 1) 0) where
  pub first_is : w % 65536 ≡ first_at ws i
  first_is = rw (f, e)

  pub count_is : w / 4294967296 % 65536 ≡ count_at ws i
  count_is = rw (f, e)

-- the words of a component's slot
pub rows_small : (c k : ℕ) → c ≤ 64 → k < 4294967296 → c * k ≤ 274877906944
rows_small c k h l = let r : k ≤ 4294967295 = omega arith in le_trans (mul-le-mul_left c r) (omega arith)

pub mark_stands : (g ws : List ℕ) (d k at : ℕ) → d ≡ get_or ws calls_used 0 - 1 → at ≡ path_place g 0 k → at + d % 64 ≡ mark_place g ws k
mark_stands g ws d k at e f = rw (e, f) (omega arith)

-- ---- figures
-- A signed local holds bits, and is read back from them.
pub pair_is : {x y : ℤ} {a b : ℕ} → SFits w32 x → SFits w32 y → a ≡ bits (to_z w32 (of_z w32 x)) → b ≡ bits (to_z w32 (of_z w32 y)) → a + 4294967296 * b ≡ pair_word x y
pair_is f g h k = rw (h, k, to_z-of_z f, to_z-of_z g)

back : {z r : ℤ} → mag r < 2 ^ 31 → r ≡ z → to_z w32 (of_z w32 r) ≡ z
back h e = to_z-of_z {w = w32} (record { sfits = h }) ∙ e

pub figure_is : (ws : List ℕ) (i at x y z : ℕ) {a b c d : ℤ} → at ≡ shape_place i → x ≡ get_or ws at 0 → y ≡ get_or ws (at + 1) 0 → z ≡ get_or ws (at + 2) 0
    → mag a < 2 ^ 31 → a ≡ low_number y → mag b < 2 ^ 31 → b ≡ high_number y → mag c < 2 ^ 31 → c ≡ low_number z → mag d < 2 ^ 31 → d ≡ high_number z
    → ◌≡◌ {A = Figure} (record { kind = x / 2 % 8; a = to_z w32 (of_z w32 a); b = to_z w32 (of_z w32 b); c = to_z w32 (of_z w32 c); d = to_z w32 (of_z w32 d); text = x / 16 }) (figure_at ws i)
unfolding figure_at
figure_is ws i at x y z e f g h la a lb b lc c ld d = rw (back la a, back lb b, back lc c, back ld d, f, g, h, e)

pub lays_figure : (ws : List ℕ) (at : ℕ) (f : Figure) (w x y : ℕ) → mag f.a < 2 ^ 31 → mag f.b < 2 ^ 31 → mag f.c < 2 ^ 31 → mag f.d < 2 ^ 31
    → w ≡ first_word f.kind f.text → x ≡ pair_word (to_z w32 (of_z w32 f.a)) (to_z w32 (of_z w32 f.b)) → y ≡ pair_word (to_z w32 (of_z w32 f.c)) (to_z w32 (of_z w32 f.d))
    → set (set (set ws at w) (at + 1) x) (at + 2) y ≡ figure_laid ws at f
lays_figure ws at f w x y la lb lc ld h k l = rw (h, k, l, back {r = f.a} la refl, back {r = f.b} lb refl, back {r = f.c} lc refl, back {r = f.d} ld refl)

pub puts_figure : {ws ws' : List ℕ} (f : Figure) (i : ℕ) {at : ℕ} → at ≡ shape_place i → ws' ≡ figure_laid ws at f → Gives ws (put_figure (shape_place i) f) tt ws'
unfolding put_figure
puts_figure f i e h = record { equal = λ ts. rw (h, e) }

-- there is room for one more
module _ {ws g ws' : List ℕ} (n p : ℕ) (h : Does ws (spend shapes_used (shapes_granted g) 1 n p) (Ok tt) ws') (r : Room g ws) where
  pub shape_number : get_or ws shapes_used 0 < 65536
  shape_number = omega (arith, (covered n p h).within, r.shapes)

  pub shape_room : (at : ℕ) → at ≡ shape_place (get_or ws shapes_used 0) → length ws' ≡ length ws → at + 3 ≤ length ws'
  shape_room at j l = omega (arith, (covered n p h).within, r.words)

-- ---- arguments
module _ (ws : List ℕ) (w p : ℕ) where
  pub push_full : stack_words ≤ get_or ws arguments_held 0 → Does ws (push w p) (Err (Misuse p)) ws
  unfolding push ◌>>=◌ go_on load store refuse fail give out_of
  push_full h = record { equal = λ ts. rw (le-leb stack_words (get_or ws arguments_held 0) h) }

  pub pushes : get_or ws arguments_held 0 < stack_words → Does ws (push w p) (Ok tt) (set (set ws (argument_place (get_or ws arguments_held 0)) w) arguments_held (get_or ws arguments_held 0 + 1))
  unfolding push ◌>>=◌ go_on load store refuse fail give out_of
  pushes h = record { equal = λ ts. rw (lt-leb stack_words (get_or ws arguments_held 0) h) }

pub drops : (ws : List ℕ) (base : ℕ) → Gives ws (drop_to base) tt (set ws arguments_held base)
unfolding drop_to store
drops ws base = record { equal = λ ts. refl }
