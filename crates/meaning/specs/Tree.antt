-- The tree of a program. Names and strings are texts. A statement begins with its place, its first byte's.
use Rattle.std.specs.Prelude.{ℕ, Bool, List, ℤ}

pub data Operator : Type 0 where
  concatenate add subtract multiply divide remainder shift_right shift_left equal unequal greater less : Operator

mutual
  pub data Expression : Type 0 where
    number : ℤ → Expression
    string : List ℕ → Expression
    nothing : Expression
    truth : Bool → Expression
    name : List ℕ → Expression
    -- [e]
    table : Expression → Expression
    -- a.b
    entry : Expression → Expression → Expression
    operation : Operator → Expression → Expression → Expression
    call : List ℕ → Arguments → Expression
    paren : Expression → Expression

  pub data Arguments : Type 0 where
    no_argument : Arguments
    argument : Expression → Arguments → Arguments

mutual
  pub data Statement : Type 0 where
    declare : ℕ → List ℕ → Statement
    assign : ℕ → List ℕ → Expression → Statement
    -- a.b = e
    update : ℕ → Expression → Expression → Expression → Statement
    when : ℕ → Expression → Statement → Statement
    while : ℕ → Expression → Statement → Statement
    foreach : ℕ → List ℕ → Expression → Statement → Statement
    return : ℕ → Expression → Statement
    block : ℕ → Statements → Statement
    act : ℕ → Expression → Statement

  pub data Statements : Type 0 where
    only : Statement → Statements
    first : Statement → Statements → Statements

-- its place is that of its `def`
pub record Procedure : Type 0 where
  pub place : ℕ
  pub name : List ℕ
  pub parameters : List (List ℕ)
  pub body : Statements

-- all procedures as they stand in the text, and main among them
pub record Program : Type 0 where
  pub procedures : List Procedure
  pub main : Procedure
