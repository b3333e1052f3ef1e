-- Statements over code. x is the place of a statement's word in the code, y an expression's root. How expressions are evaluated, and how the statements
-- inside one are executed, is handed in.
use Rattle.std.specs.Prelude.{ℕ, zero, suc, ◌+◌, ◌-◌, Bool, get_or, eqb, ltb}
use Rattle.meaning.specs.Basics.{if◌then◌otherwise◌}
use Rattle.machine.specs.Opcodes.{tag_in, size_in, extra_in, size_at, tag_declare, tag_update, tag_when, tag_while, tag_foreach, tag_block}
use Rattle.machine.specs.Words.{packed}
use Rattle.machine.specs.Layout.{steps_granted}
use Rattle.machine.specs.Act.{Act, ◌>>=◌, ◌>>◌, give, fail, count}
use Rattle.machine.specs.Tables.{store_entry}
use Rattle.machine.specs.Variables.{usable, declare_once}
use Rattle.machine.specs.Operate.{with_table, with_group}
use Rattle.machine.specs.Loops.{loop_over}
use Rattle.machine.specs.Evaluate.{Setting, Evaluator}
use Rattle.machine.specs.Effects.{declaring, finishing, saying}
use Rattle.machine.specs.declared.Flow.{Flow}
use Rattle.machine.specs.declared.Flow.TheVariants.{Onward, Returned}

-- ---- statements that hold no others
-- a statement of one expression, which ends where the statement ends
unfoldable pub simple_at : Evaluator → Setting → ℕ → ℕ → ℕ → Act Flow
simple_at eval e w x p = eval (x + size_in w - 1) p >>= λ v. finishing e.grants w (packed v) p

-- an update, by the value's root: the key stands before the value, and the table before the key
unfoldable pub update_value : Evaluator → Setting → ℕ → ℕ → ℕ → ℕ → Act Flow
update_value eval e t key y p = eval y p >>= λ u. store_entry e.program e.grants t key (packed u) p >> give Onward

unfoldable pub update_in : Evaluator → Setting → ℕ → ℕ → ℕ → Act Flow
update_in eval e t y p = eval (y - size_at e.code y) p >>= λ k. update_value eval e t (packed k) y p

unfoldable pub update_at : Evaluator → Setting → ℕ → ℕ → Act Flow
update_at eval e y p =
    let b = y - size_at e.code y in
    eval (b - size_at e.code b) p >>= λ v. with_table p v λ t. update_in eval e t y p

unfoldable pub test_of : Evaluator → Setting → ℕ → ℕ → Act Bool
test_of eval e y p = eval y p >>= λ v. saying (packed v) p

-- ---- statements that hold others
-- what follows, unless the statement before ends the procedure
unfoldable pub continue : Flow → Act Flow → Act Flow
continue Onward k = k
continue (Returned v) k = give (Returned v)

-- how one statement is executed, by the place of its word
abbrev pub Executor : Type 0
Executor = ℕ → Act Flow

-- the statement behind a test, if it holds
unfoldable pub when_at : Evaluator → Executor → Setting → ℕ → ℕ → Act Flow
when_at eval inner e y p = test_of eval e y p >>= λ b. if b then (λ _. inner (y + 1)) otherwise λ _. give Onward

-- a test that takes a step
unfoldable pub turning : Evaluator → Setting → ℕ → ℕ → Act Bool
turning eval e y p = count e.grants p >> test_of eval e y p

unfoldable pub looping : ℕ → Evaluator → Setting → ℕ → ℕ → Act Flow → Act Flow
looping zero eval e y p body = fail 79 p
looping (suc turns) eval e y p body =
    turning eval e y p >>= λ b. if b then (λ _. body >>= λ f. continue f (looping turns eval e y p body)) otherwise λ _. give Onward

-- the statement behind a test, as long as it holds; no more turns are begun than steps are granted, so the turns run out where the steps do
unfoldable pub repeat_at : Evaluator → Executor → Setting → ℕ → ℕ → Act Flow
repeat_at eval inner e y p = looping (steps_granted e.grants + 1) eval e y p (inner (y + 1))

-- the statements from a up to end, one after the other; there are fewer than there are words, so the rounds do not run out
unfoldable pub statements_from : ℕ → Executor → Setting → ℕ → ℕ → Act Flow
statements_from zero inner e a end = give Onward
statements_from (suc rounds) inner e a end =
    if ltb a end then (λ _. inner a >>= λ f. continue f (statements_from rounds inner e (a + size_at e.code a) end)) otherwise λ _. give Onward

-- a loop over the group that the expression with root y gives; the word before the expression is its variable's number
unfoldable pub foreach_at : Evaluator → Executor → Setting → ℕ → ℕ → ℕ → Act Flow
foreach_at eval inner e slot y p = do
  v ← eval y p
  usable p v
  with_group p v λ i. declare_once slot >> loop_over (inner (y + 1)) e.grants p slot i

-- a statement whose step is counted
unfoldable pub counted_at : Evaluator → Executor → Setting → ℕ → ℕ → ℕ → Act Flow
counted_at eval inner e w x p =
    if eqb (tag_in w) tag_declare then (λ _. declaring (extra_in w) p)
    otherwise λ _. if eqb (tag_in w) tag_update then (λ _. update_at eval e (x + size_in w - 1) p)
    otherwise λ _. if eqb (tag_in w) tag_when then (λ _. when_at eval inner e (x + extra_in w) p)
    otherwise λ _. if eqb (tag_in w) tag_foreach then (λ _. foreach_at eval inner e (get_or e.code (x + 1) 0) (x + extra_in w) p)
    otherwise λ _. if eqb (tag_in w) tag_block then (λ _. statements_from (size_in w + 1) inner e (x + 1) (x + size_in w))
    otherwise λ _. simple_at eval e w x p

-- by the statement's word; a loop counts its steps itself
unfoldable pub statement_by : Evaluator → Executor → Setting → ℕ → ℕ → ℕ → Act Flow
statement_by eval inner e w x p =
    if eqb (tag_in w) tag_while then (λ _. repeat_at eval inner e (x + extra_in w) p) otherwise λ _. count e.grants p >> counted_at eval inner e w x p
