-- What a statement does. n bounds the turns of each loop; a run that needs more is unfinished.
use Rattle.std.specs.Prelude.{ℕ, zero, suc, not, List, [], ◌∷◌, ◌++◌}
use Rattle.std.proofs.Math.Option.{Option, some}
use Rattle.meaning.specs.Basics.{if◌then◌otherwise◌}
use Rattle.meaning.specs.Tree.{Statement, declare, assign, update, when, while, foreach, return, block, act, Statements, only, first}
use Rattle.meaning.specs.Value.{Value, integer, string, boolean, none, table, shape}
use Rattle.meaning.specs.State.{Key, is_declared, assigned, with_variables, is_destroyed, content_of, by_content, key_of, entry_in, overwritten, with_entries}
use Rattle.meaning.specs.Run.{Action, unfinished, run, entries, ◌>>=◌, ◌>>◌, give, count, spend, refuse, current, become}
use Rattle.meaning.specs.Operator.{usable, with_boolean, with_table, with_group}
use Rattle.meaning.specs.Group.{new_shape}
use Rattle.meaning.specs.Evaluate.{Invoke, keyed, evaluate}

-- how a statement ends: the next one follows, or the procedure returns
pub data Flow : Type 0 where
  onward : Flow
  returned : Value → Flow

unfoldable pub continue : Flow → Action Flow → Action Flow
continue onward k = k
continue (returned v) k = give (returned v)

-- ---- variables
unfoldable pub declaring : ℕ → List ℕ → Action Flow
declaring p x = do
  s ← current
  refuse (is_declared s x) 60 p
  become (with_variables s (s.variables ++ (record { name = x; holds = none } ∷ [])))
  give onward

-- a shape is copied, taking as much, and a group's components are shared; anything else is assigned as it is
unfoldable pub copied : ℕ → Value → Action Value
copied p (integer z) = give (integer z)
copied p (string t) = give (string t)
copied p (boolean b) = give (boolean b)
copied p none = give none
copied p (table t) = give (table t)
copied p (shape i) = current >>= λ s. new_shape p (content_of s i) >>= λ j. give (shape j)

unfoldable pub assigning : ℕ → List ℕ → Value → Action Flow
assigning p x v = do
  s ← current
  refuse (not (is_declared s x)) 50 p
  usable p v
  u ← copied p v
  s' ← current
  become (with_variables s' (assigned s'.variables x u))
  give onward

-- ---- tables
-- a new key takes an entry; shapes are shared
unfoldable pub storing : ℕ → ℕ → Key → Value → Option Value → Action Flow
storing p t k v Option.none = do
  spend entries 1 p
  s ← current
  become (with_entries s (s.entries ++ (record { owner = t; key = k; holds = v } ∷ [])))
  give onward
storing p t k v (some old) = do
  s ← current
  become (with_entries s (overwritten s.entries t k v))
  give onward

unfoldable pub updating : ℕ → ℕ → Value → Value → Action Flow
updating p t w v = current >>= λ s. keyed p (key_of s w) λ k. storing p t k v (entry_in s.entries t k)

-- ---- loops
-- A step is counted for each test; the body runs while the test is true. Where no turn is left the run is unfinished, and it has counted a step for each
-- turn: no call is answered from there (claims `AlwaysAnswered`, `BeginningsFill`).
unfoldable pub looping : ℕ → ℕ → Action Value → Action Flow → Action Flow
looping zero p test body = λ s. run [] unfinished
looping (suc n) p test body = do
  count p
  v ← test
  with_boolean p v λ b.
      if b then (λ _. body >>= λ f. continue f (looping n p test body)) otherwise λ _. give onward

-- declared, if it is not yet
unfoldable pub declaring_once : List ℕ → Action (Unit {0})
declaring_once x = do
  s ← current
  become (if is_declared s x then (λ _. s) otherwise λ _. with_variables s (s.variables ++ (record { name = x; holds = none } ∷ [])))

-- a variable that is declared holds a shape, which it shares
unfoldable pub binding : List ℕ → ℕ → Action (Unit {0})
binding x i = do
  s ← current
  become (with_variables s (assigned s.variables x (shape i)))

-- some shapes one after the other, those passed over that are destroyed by then, unless the procedure returns
unfoldable pub turns : (ℕ → Action Flow) → List ℕ → Action Flow
turns visit [] = give onward
turns visit (i ∷ is) = do
  s ← current
  f ← if is_destroyed s i then (λ _. give onward) otherwise λ _. visit i
  continue f (turns visit is)

-- a body for each figure that a shape is or holds, depth first; b as in Group
unfoldable pub iterating : ℕ → (ℕ → Action Flow) → ℕ → Action Flow
iterating zero body i = give onward
iterating (suc b) body i = current >>= λ s. by_content (content_of s i) (λ a. body i) (turns (iterating b body))

-- ---- statements
unfoldable mutual
  pub execute : Invoke → Statement → ℕ → Action Flow
  execute invoke (declare p x) n = do
    count p
    declaring p x
  execute invoke (assign p x e) n = do
    count p
    v ← evaluate invoke e p
    assigning p x v
  execute invoke (update p a b e) n = do
    count p
    v ← evaluate invoke a p
    with_table p v λ t. do
      k ← evaluate invoke b p
      u ← evaluate invoke e p
      updating p t k u
  execute invoke (when p e s) n = do
    count p
    v ← evaluate invoke e p
    with_boolean p v λ b. if b then (λ _. execute invoke s n) otherwise λ _. give onward
  execute invoke (while p e s) n = looping n p (evaluate invoke e p) (execute invoke s n)
  execute invoke (foreach p x e t) n = do
    count p
    v ← evaluate invoke e p
    usable p v
    with_group p v λ is. do
      declaring_once x
      turns (λ i. count p >> iterating (suc i) (λ j. binding x j >> execute invoke t n) i) is
  execute invoke (return p e) n = do
    count p
    v ← evaluate invoke e p
    give (returned v)
  execute invoke (block p ss) n = do
    count p
    execute_all invoke ss n
  execute invoke (act p e) n = do
    count p
    evaluate invoke e p
    give onward

  pub execute_all : Invoke → Statements → ℕ → Action Flow
  execute_all invoke (only s) n = execute invoke s n
  execute_all invoke (first s ss) n = execute invoke s n >>= λ f. continue f (execute_all invoke ss n)
