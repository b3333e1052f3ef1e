-- What an expression is evaluated to. p is the place of the statement under way; a step is counted before the parts. How a call is performed, its
-- arguments evaluated, is handed in.
use Rattle.std.specs.Prelude.{ℕ, List, [], ◌∷◌, ℤ}
use Rattle.std.proofs.Math.Option.{Option, some}
use Rattle.meaning.specs.Integer.{is_negative}
use Rattle.meaning.specs.Tree.{Expression, number, string, nothing, truth, name, table, entry, operation, call, paren, Arguments, no_argument, argument}
use Rattle.meaning.specs.Value.{Value}
use Rattle.meaning.specs.State.{Key, value_in, key_of, entry_in, with_new_table}
use Rattle.meaning.specs.Run.{Action, ◌>>=◌, ◌>>◌, give, fail, count, refuse, current, become}
use Rattle.meaning.specs.Operator.{usable, with_integer, operate}
use Rattle.meaning.specs.Operator as Operator

-- what was found, or a number; a shape found must not be destroyed
unfoldable pub looked_up : ℕ → ℕ → Option Value → Action Value
looked_up n p Option.none = fail n p
looked_up n p (some v) = usable p v >> give v

unfoldable pub variable : ℕ → List ℕ → Action Value
variable p x = current >>= λ s. looked_up 50 p (value_in s.variables x)

unfoldable pub new_table : ℕ → ℤ → Action Value
new_table p size = do
  refuse (is_negative size) 40 p
  s ← current
  become (with_new_table s)
  give (Value.table s.tables)

-- a key, or 20 for a group
unfoldable pub keyed : {A : Type 0} → ℕ → Option Key → (Key → Action A) → Action A
keyed p Option.none k = fail 20 p
keyed p (some key) k = k key

unfoldable pub entry_of : ℕ → ℕ → Value → Action Value
entry_of p t v = current >>= λ s. keyed p (key_of s v) λ key. looked_up 20 p (entry_in s.entries t key)

-- by the name, the place and the arguments
abbrev pub Invoke : Type 0
Invoke = List ℕ → ℕ → List Value → Action Value

unfoldable mutual
  pub evaluate : Invoke → Expression → ℕ → Action Value
  evaluate invoke (number z) p = count p >> give (Value.integer z)
  evaluate invoke (string t) p = count p >> give (Value.string t)
  evaluate invoke nothing p = count p >> give Value.none
  evaluate invoke (truth b) p = count p >> give (Value.boolean b)
  evaluate invoke (name x) p = count p >> variable p x
  evaluate invoke (table e) p = do
    count p
    v ← evaluate invoke e p
    with_integer p v (new_table p)
  evaluate invoke (entry a b) p = do
    count p
    v ← evaluate invoke a p
    Operator.with_table p v λ t. do
      k ← evaluate invoke b p
      entry_of p t k
  evaluate invoke (operation o a b) p = do
    count p
    v ← evaluate invoke a p
    w ← evaluate invoke b p
    operate o p v w
  evaluate invoke (call f es) p = do
    count p
    vs ← evaluate_all invoke es p
    invoke f p vs
  evaluate invoke (paren e) p = evaluate invoke e p

  pub evaluate_all : Invoke → Arguments → ℕ → Action (List Value)
  evaluate_all invoke no_argument p = give []
  evaluate_all invoke (argument e es) p = do
    v ← evaluate invoke e p
    vs ← evaluate_all invoke es p
    give (v ∷ vs)
