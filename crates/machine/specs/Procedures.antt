-- A procedure of the program called: its variables take the words of the stack above the arguments; what belongs to its caller is kept, and comes back at the
-- return. p is the place of the statement that calls, base the number of the first argument on the stack, top the stack's height above the last.
use Rattle.std.specs.Prelude.{ℕ, zero, suc, ◌+◌, ◌-◌, ◌*◌, ◌%◌, ◌^◌, not, List, get_or, eqb, ltb}
use Rattle.meaning.specs.Basics.{if◌then◌otherwise◌}
use Rattle.machine.specs.Opcodes.{table_place, start_in, parameters_in, body_in, frame_in}
use Rattle.machine.specs.declared.Value.{Value}
use Rattle.machine.specs.declared.Value.TheVariants.{Nothing}
use Rattle.machine.specs.declared.Flow.{Flow}
use Rattle.machine.specs.declared.Flow.TheVariants.{Onward, Returned}
use Rattle.machine.specs.Words.{packed}
use Rattle.machine.specs.Layout.{declared, arguments_held, calls_used, running, loop_unit, frame, calls_granted, call_place, argument_place, stack_words}
use Rattle.machine.specs.Act.{Act, ◌>>=◌, ◌>>◌, give, refuse, load, store, spend}
use Rattle.machine.specs.Stack.{drop_to}
use Rattle.machine.specs.Effects.{assigning}
use Rattle.machine.specs.Evaluate.{Setting, Invoke}

-- ---- the caller waits
-- what belongs to a call: from a counter to its word, and back
unfoldable pub keep : Act (Unit {0})
keep = do
  c ← load calls_used
  f ← load frame
  store (call_place c) f
  n ← load declared
  store (call_place c + 1) n
  w ← load running
  store (call_place c + 2) w
  u ← load loop_unit
  store (call_place c + 3) u

unfoldable pub recall : ℕ → Act (Unit {0})
recall c = do
  f ← load (call_place c)
  store frame f
  n ← load (call_place c + 1)
  store declared n
  w ← load (call_place c + 2)
  store running w
  u ← load (call_place c + 3)
  store loop_unit u

-- ---- a frame from top on
-- its k-th word: m parameters are declared and hold none, the k-th as the variable numbered k
unfoldable pub first_word : ℕ → ℕ → ℕ
first_word m k = if ltb k m then (λ _. packed Nothing + 2 ^ 48 * (k % 65536)) otherwise λ _. 0

-- n words from the k-th on
unfoldable pub frame_from : ℕ → ℕ → ℕ → ℕ → Act (Unit {0})
frame_from top m k zero = give tt
frame_from top m k (suc n) = store (argument_place (top + k)) (first_word m k) >> frame_from top m (k + 1) n

-- all of it, n words with m parameters; 20 if the stack is full, as with arguments
unfoldable pub open_frame : ℕ → ℕ → ℕ → ℕ → Act (Unit {0})
open_frame top m n p = do
  refuse (ltb stack_words (top + n)) 20 p
  frame_from top m 0 n
  store frame top
  store declared m
  store arguments_held (top + n)

-- ---- parameters assigned one by one, from the k-th on, n of them
unfoldable pub assign_from : List ℕ → ℕ → ℕ → ℕ → ℕ → Act (Unit {0})
assign_from g base k zero p = give tt
assign_from g base k (suc n) p = do
  w ← load (argument_place (base + k))
  assigning g p k w
  assign_from g base (k + 1) n p

-- ---- the call begins: all that is asked, in its order
unfoldable pub begin : List ℕ → List ℕ → ℕ → ℕ → ℕ → ℕ → Act (Unit {0})
begin g code callee top p base =
    let d = get_or code (table_place callee) 0 in do
      refuse (eqb d 0) 20 p
      refuse (not (eqb (top - base) (parameters_in d))) 20 p
      refuse (eqb (frame_in d) 0) 60 p
      keep
      spend calls_used (calls_granted g) 1 81 p
      open_frame top (parameters_in d) (frame_in d) p
      store running (callee + 1)
      store loop_unit 0
      assign_from g base 0 (parameters_in d) p

-- ---- the caller goes on
unfoldable pub resume : ℕ → Act (Unit {0})
resume base = do
  c ← load calls_used
  store calls_used (c - 1)
  recall (c - 1)
  drop_to base

-- ---- the call
-- a returned value is not copied; without return it is none
unfoldable pub result_of : Flow → Act Value
result_of Onward = give Nothing
result_of (Returned v) = give v

-- how a body is executed, by the place of its first word and how many it has, is handed in
unfoldable pub procedure_at : (ℕ → ℕ → Act Flow) → Setting → Invoke
procedure_at body e callee p base =
    let d = get_or e.code (table_place callee) 0 in do
      top ← load arguments_held
      begin e.grants e.code callee top p base
      flow ← body (start_in d + parameters_in d) (body_in d)
      resume base
      result_of flow
