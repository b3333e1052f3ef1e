-- Expressions over code. x is the root's place in the code, p the statement's place. How its parts are evaluated, and how a procedure of the program is
-- called, is handed in.
use Rattle.std.specs.Prelude.{ℕ, zero, suc, ◌+◌, ◌-◌, List, get_or, eqb, ltb}
use Rattle.meaning.specs.Basics.{if◌then◌otherwise◌}
use Rattle.machine.specs.Opcodes.{tag_in, size_in, number_in, library_in, callee_in, argument_root, tag_table, tag_call}
use Rattle.machine.specs.declared.Value.{Value}
use Rattle.machine.specs.Words.{packed}
use Rattle.machine.specs.Layout.{arguments_held}
use Rattle.machine.specs.Act.{Act, ◌>>=◌, ◌>>◌, give, refuse, load}
use Rattle.machine.specs.Primaries.{leaf, sized, lacks_table, applied, called}
use Rattle.machine.specs.Stack.{push}

-- what does not change in a run
pub record Setting : Type 0 where
  pub program : List ℕ
  pub code : List ℕ
  pub grants : List ℕ

abbrev pub setting : List ℕ → List ℕ → List ℕ → Setting
setting program code grants = record { program = program; code = code; grants = grants }

-- how one expression is evaluated, by its root and the place
abbrev pub Evaluator : Type 0
Evaluator = ℕ → ℕ → Act Value

-- how a procedure of the program is called, by its name's slot, the place, and the number of its first argument on the stack
abbrev pub Invoke : Type 0
Invoke = ℕ → ℕ → ℕ → Act Value

-- ---- calls
-- an argument, pushed
unfoldable pub argument_of : Evaluator → ℕ → ℕ → Act (Unit {0})
argument_of inner y p = inner y p >>= λ v. push (packed v) p

-- the root of the argument whose first word is at a; x if there is none
abbrev pub argument_after : Setting → ℕ → ℕ → ℕ
argument_after e a x = argument_root (get_or e.code a 0) a x

-- the arguments from the one whose root is y up to x; there are fewer than there are words up to x, so the rounds do not run out
unfoldable pub arguments_from : ℕ → Evaluator → Setting → ℕ → ℕ → ℕ → Act (Unit {0})
arguments_from zero inner e y x p = give tt
arguments_from (suc rounds) inner e y x p =
    if ltb y x then (λ _. argument_of inner y p >> arguments_from rounds inner e (argument_after e (y + 1) x) x p) otherwise λ _. give tt

-- by the call's word: a procedure of the library, of the program, or main, which is 20
unfoldable pub invoked : Invoke → Setting → ℕ → ℕ → ℕ → Act Value
invoked invoke e w p base =
    if eqb (library_in w) 11 then (λ _. invoke (callee_in w) p base) otherwise λ _. called e.grants (library_in w) p base

unfoldable pub call_at : Evaluator → Invoke → Setting → ℕ → ℕ → ℕ → Act Value
call_at inner invoke e w x p = do
  base ← load arguments_held
  arguments_from (suc x) inner e (argument_after e (x - (size_in w - 1)) x) x p
  invoked invoke e w p base

-- ---- operands
-- a table read or an operator whose first part is held as a word; the root of the second stands before its own
unfoldable pub second_of : Evaluator → Setting → ℕ → ℕ → ℕ → ℕ → Act Value
second_of inner e w a x p = inner (x - 1) p >>= λ v. applied e.program e.grants (tag_in w) p a (packed v)

-- a new table, which has no second part, or one of these
unfoldable pub first_of : Evaluator → Setting → ℕ → ℕ → ℕ → ℕ → Act Value
first_of inner e w a x p =
    if eqb (tag_in w) tag_table then (λ _. sized p a) otherwise λ _. refuse (lacks_table (tag_in w) a) 20 p >> second_of inner e w a x p

unfoldable pub operands_at : Evaluator → Setting → ℕ → ℕ → ℕ → Act Value
operands_at inner e w x p = inner (x - 1 - number_in w) p >>= λ v. first_of inner e w (packed v) x p

-- ---- expressions
-- by the root's word
unfoldable pub expression_by : Evaluator → Invoke → Setting → ℕ → ℕ → ℕ → Act Value
expression_by inner invoke e w x p =
    if ltb (tag_in w) tag_table then (λ _. leaf p w)
    otherwise λ _. if eqb (tag_in w) tag_call then (λ _. call_at inner invoke e w x p)
    otherwise λ _. operands_at inner e w x p
