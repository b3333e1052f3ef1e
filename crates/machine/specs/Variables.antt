-- Variables by number, in the frame of their call: words one after the other on the stack. A word's lower 48 bits are what the variable of that number holds, 0 if
-- it is not declared; its upper bits are a list of their own, the variables' numbers in the order of their declarations.
use Rattle.std.specs.Prelude.{ℕ, zero, suc, ◌+◌, ◌-◌, ◌*◌, ◌/◌, ◌%◌, ◌^◌, Bool, false, not, List, get_or, eqb}
use Rattle.meaning.specs.Basics.{if◌then◌otherwise◌}
use Rattle.machine.specs.declared.Value.{Value}
use Rattle.machine.specs.declared.Value.TheVariants.{Integer, Text, Boolean, Nothing, Table, Shape}
use Rattle.machine.specs.Words.{packed, unpacked}
use Rattle.machine.specs.Layout.{declared, calls_used, frame, call_place, argument_place}
use Rattle.machine.specs.Act.{Act, give, refuse, load, store, held, ◌>>=◌, ◌>>◌}
use Rattle.machine.specs.Shapes.{destroyed_at}
use Rattle.machine.specs.Groups.{destroy_living}
use Rattle.machine.specs.Stack.{argument_at}

-- a destroyed shape is 30
unfoldable pub is_dead : List ℕ → Value → Bool
is_dead ws (Integer z) = false
is_dead ws (Text h) = false
is_dead ws (Boolean b) = false
is_dead ws Nothing = false
is_dead ws (Table t) = false
is_dead ws (Shape i) = destroyed_at ws i

unfoldable pub usable : ℕ → Value → Act (Unit {0})
usable p v r = refuse (is_dead r.words v) 30 p r

-- ---- the words of a frame
abbrev pub word_in : ℕ → ℕ
word_in w = w % 2 ^ 48

abbrev pub order_in : ℕ → ℕ
order_in w = w / 2 ^ 48

-- the same word with another value, and with another number
unfoldable pub with_word : ℕ → ℕ → ℕ
with_word w v = v % 2 ^ 48 + 2 ^ 48 * order_in w

unfoldable pub with_order : ℕ → ℕ → ℕ
with_order w n = word_in w + 2 ^ 48 * (n % 65536)

-- in the frame f: what the variable numbered n holds, the number of the k-th declaration's, and what that holds
abbrev pub holding_at : List ℕ → ℕ → ℕ → ℕ
holding_at ws f n = word_in (argument_at ws (f + n))

abbrev pub number_of : List ℕ → ℕ → ℕ → ℕ
number_of ws f k = order_in (argument_at ws (f + k))

abbrev pub holding_of : List ℕ → ℕ → ℕ → ℕ
holding_of ws f k = holding_at ws f (number_of ws f k)

-- ---- variables of the call under way
abbrev pub holding : List ℕ → ℕ → ℕ
holding ws n = holding_at ws (get_or ws frame 0) n

abbrev pub is_declared : List ℕ → ℕ → Bool
is_declared ws n = not (eqb (holding ws n) 0)

-- what a variable holds: 50 if it is not declared
unfoldable pub variable : ℕ → ℕ → Act Value
variable p n = do
  ws ← held
  refuse (eqb (holding ws n) 0) 50 p
  usable p (unpacked (holding ws n))
  give (unpacked (holding ws n))

-- a variable holds the value of this word from now on
unfoldable pub set_variable : ℕ → ℕ → Act (Unit {0})
set_variable n v = do
  f ← load frame
  w ← load (argument_place (f + n))
  store (argument_place (f + n)) (with_word w v)

-- the k-th declaration is that of the variable numbered n
unfoldable pub set_order : ℕ → ℕ → Act (Unit {0})
set_order k n = do
  f ← load frame
  w ← load (argument_place (f + k))
  store (argument_place (f + k)) (with_order w n)

-- a declaration: 60 if it is declared
unfoldable pub declare : ℕ → ℕ → Act (Unit {0})
declare n p = do
  ws ← held
  refuse (is_declared ws n) 60 p
  set_variable n (packed Nothing)
  k ← load declared
  set_order k n
  store declared (k % 8192 + 1)

-- declared, if it is not
unfoldable pub declare_once : ℕ → Act (Unit {0})
declare_once n = held >>= λ ws. if is_declared ws n then (λ _. give tt) otherwise λ _. declare n 0

-- ---- the scene
-- the shape that a value is, destroyed with all in it
unfoldable pub destroy_in : List ℕ → ℕ → Value → Act (Unit {0})
destroy_in g p (Integer z) = give tt
destroy_in g p (Text h) = give tt
destroy_in g p (Boolean b) = give tt
destroy_in g p Nothing = give tt
destroy_in g p (Table t) = give tt
destroy_in g p (Shape i) = destroy_living g p i

-- the shapes that the variables from the k-th declaration on hold, n of them, in the frame f, destroyed
unfoldable pub clear_from : List ℕ → ℕ → ℕ → ℕ → ℕ → Act (Unit {0})
clear_from g p f k zero = give tt
clear_from g p f k (suc n) = do
  ws ← held
  destroy_in g p (unpacked (holding_of ws f k))
  clear_from g p f (k + 1) n

-- of n calls that wait, from the d-th on
unfoldable pub clear_calls : List ℕ → ℕ → ℕ → ℕ → Act (Unit {0})
clear_calls g p d zero = give tt
clear_calls g p d (suc n) = do
  f ← load (call_place d)
  m ← load (call_place d + 1)
  clear_from g p f 0 m
  clear_calls g p (d + 1) n

-- of all calls under way, from main on
unfoldable pub clear_scene : List ℕ → ℕ → Act (Unit {0})
clear_scene g p = do
  c ← load calls_used
  clear_calls g p 1 (c - 1)
  f ← load frame
  n ← load declared
  clear_from g p f 0 n
