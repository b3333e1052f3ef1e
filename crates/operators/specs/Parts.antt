-- What the parts of the code for operators answer.
use Rattle.std.specs.Prelude.{ℕ, ◌≡◌, Bool, false, cond, ◌&&◌, List, eqb, Result, Ok, Err}
use Rattle.machine.specs.declared.Value.{Value}
use Rattle.machine.specs.declared.Value.TheVariants.{Integer, Text, Boolean, Nothing, Table, Shape}
use Rattle.machine.specs.declared.Fault.{Fault}
use Rattle.machine.specs.declared.Fault.TheVariants.{Misuse}
use Rattle.machine.specs.Words.{kind_in, unpacked}
use Rattle.machine.specs.Act.{DoesIn, Does}
use Rattle.machine.specs.Operate.{operate_on, operate}

-- ---- two integers: the slices are neither read nor changed
pub record Computes (tag p : ℕ) (v w : Value) (answer : Result Value Fault) : Type 0 where
  pub does : (program grants ws : List ℕ) → Does ws (operate_on program grants tag p v w) answer ws

-- ---- a shape and an integer: the texts are neither read nor changed
pub record Draws (grants before : List ℕ) (tag p : ℕ) (v w : Value) (answer : Result Value Fault) (after : List ℕ) : Type 0 where
  pub does : (program : List ℕ) → Does before (operate_on program grants tag p v w) answer after

-- ---- other values
-- whether both words are integers
unfoldable pub both_integers : ℕ → ℕ → Bool
both_integers a b = eqb (kind_in a) 1 && eqb (kind_in b) 1

abbrev pub NotBoth : ℕ → ℕ → Type 0
NotBoth a b = kind_in a ≡ 1 → kind_in b ≡ 1 → ⊥

-- an operator that is no concatenation and no equality, on two values that are not both integers
pub record Other (tag a b : ℕ) : Type 0 where
  pub joins : tag ≡ 16 → ⊥
  pub equals : tag ≡ 24 → ⊥
  pub differs : tag ≡ 25 → ⊥
  pub mixed : NotBoth a b

pub record Calculates (grants before : List ℕ) (tag p a b : ℕ) (answer : Result Value Fault) (after : List ℕ) : Type 0 where
  pub draws : Other tag a b → Draws grants before tag p (unpacked a) (unpacked b) answer after

-- ---- equality
-- a kind's number: every word that is of no other kind holds nothing
unfoldable pub kind_number : Value → ℕ
kind_number (Integer z) = 1
kind_number (Text h) = 2
kind_number (Boolean b) = 3
kind_number Nothing = 4
kind_number (Table t) = 5
kind_number (Shape i) = 6

-- of two kinds: nothing and any other value are unequal, others are not to be compared
abbrev pub unlike : ℕ → ℕ → ℕ → Result Bool Fault
unlike p k l = cond (eqb k 4) (Ok false) (cond (eqb l 4) (Ok false) (Err (Misuse p)))

-- ---- any values that are not both integers
-- neither of them a destroyed shape
pub record Mixes (program grants ts ws : List ℕ) (tag p a b : ℕ) (answer : Result Value Fault) (ts' ws' : List ℕ) : Type 0 where
  pub does : NotBoth a b → DoesIn ts ws (operate_on program grants tag p (unpacked a) (unpacked b)) answer ts' ws'

pub record Operates (program grants ts ws : List ℕ) (tag p a b : ℕ) (answer : Result Value Fault) (ts' ws' : List ℕ) : Type 0 where
  pub does : NotBoth a b → DoesIn ts ws (operate program grants tag p (unpacked a) (unpacked b)) answer ts' ws'
