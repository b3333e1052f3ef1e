-- What code does to the two lent slices: it gives a result, or it stops with a number and its place.
use Rattle.std.specs.Prelude.{ℕ, ◌+◌, ◌%◌, ◌^◌, ◌≡◌, Bool, true, false, List, Result, Ok, Err, get_or, set, leb}
use Rattle.meaning.specs.Basics.{if◌then◌otherwise◌}
use Rattle.machine.specs.declared.Value.{Value}
use Rattle.machine.specs.declared.Value.TheVariants.{Table}
use Rattle.machine.specs.declared.Fault.{Fault}
use Rattle.machine.specs.Fault.{number_of, place_of}
use Rattle.machine.specs.Layout.{steps_used, steps_granted, tables_made}

-- the text store and the words
pub record Raw : Type 0 where
  pub texts : List ℕ
  pub words : List ℕ

abbrev pub raw : List ℕ → List ℕ → Raw
raw ts ws = record { texts = ts; words = ws }

pub data Out (A : Type 0) : Type 0 where
  done : A → Raw → Out A
  stop : ℕ → ℕ → Raw → Out A

abbrev pub Act : Type 0 → Type 0
Act A = Raw → Out A

unfoldable pub go_on : {A B : Type 0} → Out A → (A → Act B) → Out B
go_on (done a r) k = k a r
go_on (stop n p r) k = stop n p r

infixl 1 ◌>>=◌ ◌>>◌
unfoldable pub ◌>>=◌ : {A B : Type 0} → Act A → (A → Act B) → Act B
(m >>= k) r = go_on (m r) k

abbrev pub ◌>>◌ : {A B : Type 0} → Act A → Act B → Act B
m >> k = m >>= λ _. k

unfoldable pub give : {A : Type 0} → A → Act A
give a r = done a r

unfoldable pub fail : {A : Type 0} → ℕ → ℕ → Act A
fail n p r = stop n p r

unfoldable pub refuse : Bool → ℕ → ℕ → Act (Unit {0})
refuse true n p = fail n p
refuse false n p = give tt

-- the word at a place, and another in its place
unfoldable pub load : ℕ → Act ℕ
load i r = done (get_or r.words i 0) r

unfoldable pub store : ℕ → ℕ → Act (Unit {0})
store i w r = done tt (raw r.texts (set r.words i w))

-- all words as they are
unfoldable pub held : Act (List ℕ)
held r = done r.words r

-- so much is added to a counter if it stays within the grant; a shortage has its number
unfoldable pub spend : ℕ → ℕ → ℕ → ℕ → ℕ → Act (Unit {0})
spend counter granted amount number p r =
    if leb (get_or r.words counter 0 + amount) granted
    then (λ _. done tt (raw r.texts (set r.words counter (get_or r.words counter 0 + amount))))
    otherwise λ _. stop number p r

-- a step is counted
abbrev pub count : List ℕ → ℕ → Act (Unit {0})
count g p = spend steps_used (steps_granted g) 1 79 p

-- a new table takes nothing
unfoldable pub new_table : Act Value
new_table = do
  t ← load tables_made
  store tables_made (t % 2 ^ 32 + 1)
  give (Table (t % 2 ^ 32))

-- ---- what code answers
-- a result, or why it stopped, with the slices then
unfoldable pub out_of : {A : Type 0} → Result A Fault → List ℕ → List ℕ → Out A
out_of (Ok a) ts ws = done a (raw ts ws)
out_of (Err e) ts ws = stop (number_of e) (place_of e) (raw ts ws)

-- Code that is handed both slices does what an act does: with the slices before and after, it answers so.
pub record DoesIn {A : Type 0} (ts ws : List ℕ) (act : Act A) (answer : Result A Fault) (ts' ws' : List ℕ) : Type 0 where
  pub equal : out_of answer ts' ws' ≡ act (raw ts ws)

-- Code that is handed the words alone does what an act does, whatever the text store holds.
pub record Does {A : Type 0} (before : List ℕ) (act : Act A) (answer : Result A Fault) (after : List ℕ) : Type 0 where
  pub equal : (ts : List ℕ) → out_of answer ts after ≡ act (raw ts before)

-- Code that cannot fail gives a result, whatever the text store holds,
pub record Gives {A : Type 0} (before : List ℕ) (act : Act A) (result : A) (after : List ℕ) : Type 0 where
  pub equal : (ts : List ℕ) → done result (raw ts after) ≡ act (raw ts before)

-- or says whether an amount was paid; a shortage may have any number.
unfoldable pub passed : Bool → ℕ → ℕ → List ℕ → List ℕ → Out (Unit {0})
passed true n p ts ws = done tt (raw ts ws)
passed false n p ts ws = stop n p (raw ts ws)

pub record Pays (before : List ℕ) (counter granted amount : ℕ) (ok : Bool) (after : List ℕ) : Type 0 where
  pub equal : (n p : ℕ) (ts : List ℕ) → passed ok n p ts after ≡ spend counter granted amount n p (raw ts before)
