-- The specified run: what it takes as it falls due, and how it ends. It asks about no shortage.
use Rattle.std.specs.Prelude.{ℕ, Bool, true, false, List, [], ◌∷◌, ◌++◌}
use Rattle.meaning.specs.State.{State}

-- ---- takings
pub data Resource : Type 0 where
  steps shapes entries text_bytes calls picture : Resource

-- so much of a resource, at a place
pub record Taking : Type 0 where
  pub of : Resource
  pub amount : ℕ
  pub place : ℕ

-- what a run does with what is granted: it takes, or a return gives its call back
pub data Event : Type 0 where
  taken : Taking → Event
  gave_back : Event

abbrev pub taking : Resource → ℕ → ℕ → Event
taking r n p = taken (record { of = r; amount = n; place = p })

-- ---- runs
-- a result and the state then; a number and its place; or more to come than was run
pub data End (A : Type 0) : Type 0 where
  result : A → State → End A
  error : ℕ → ℕ → End A
  unfinished : End A

pub record Run (A : Type 0) : Type 0 where
  pub takings : List Event
  pub end : End A

abbrev pub run : {A : Type 0} → List Event → End A → Run A
run ts e = record { takings = ts; end = e }

abbrev pub Action : Type 0 → Type 0
Action A = State → Run A

-- what comes after some takings
abbrev pub following : {A : Type 0} → List Event → Run A → Run A
following ts r = run (ts ++ r.takings) r.end

unfoldable pub go_on : {A B : Type 0} → List Event → End A → (A → Action B) → Run B
go_on ts (result a s) k = following ts (k a s)
go_on ts (error n p) k = run ts (error n p)
go_on ts unfinished k = run ts unfinished

-- one action and then another, for which `do` is written
infixl 1 ◌>>=◌ ◌>>◌
unfoldable pub ◌>>=◌ : {A B : Type 0} → Action A → (A → Action B) → Action B
(m >>= k) s = let r = m s in go_on r.takings r.end k

abbrev pub ◌>>◌ : {A B : Type 0} → Action A → Action B → Action B
m >> k = m >>= λ _. k

-- ---- the smallest actions
unfoldable pub give : {A : Type 0} → A → Action A
give a s = run [] (result a s)

unfoldable pub fail : {A : Type 0} → ℕ → ℕ → Action A
fail n p s = run [] (error n p)

-- so much of a resource is taken
unfoldable pub spend : Resource → ℕ → ℕ → Action (Unit {0})
spend r n p s = run (taking r n p ∷ []) (result tt s)

-- a call is given back
unfoldable pub give_back : Action (Unit {0})
give_back s = run (gave_back ∷ []) (result tt s)

-- a step is counted
abbrev pub count : ℕ → Action (Unit {0})
count p = spend steps 1 p

-- the run ends with a number if so
unfoldable pub refuse : Bool → ℕ → ℕ → Action (Unit {0})
refuse true n p = fail n p
refuse false n p = give tt

-- the state now, and another in its place
unfoldable pub current : Action State
current s = run [] (result s s)

unfoldable pub become : State → Action (Unit {0})
become s' s = run [] (result tt s')
