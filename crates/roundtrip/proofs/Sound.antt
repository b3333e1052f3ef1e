-- Trees whose names, strings and numbers can be written.
use Prim.Native.Nat.{ℕ, ◌≤◌}
use mathlib.Core.Path.{◌≡◌}
use mathlib.Core.Bool.{true}
use mathlib.Core.List.{List, [], ◌∷◌}
use lib.ListN.{get_or}
use lib.IntN.{ℤ, pos, negsuc}
use Rattle.meaning.specs.Byte.{is_letter, is_name_part}
use Rattle.meaning.specs.Token.{word_kind, a_name}
use Rattle.meaning.specs.Tree.{Expression, number, string, nothing, truth, name, table, entry, operation, call, paren, Arguments, no_argument, argument}
use Rattle.meaning.specs.Tree.{Statement, declare, assign, update, when, while, foreach, return, block, act, Statements, only, first, Procedure}
use Rattle.roundtrip.proofs.Scanning.{AllPass}

-- a letter, and letters and digits
pub record Spelled (x : List ℕ) : Type 0 where
  pub letter : is_letter (get_or x 0 0) ≡ true
  pub parts : AllPass is_name_part x

-- and no reserved word
pub record Named (x : List ℕ) : Type 0 where
  pub spelled : Spelled x
  pub kind : word_kind x ≡ a_name

-- an integer of 32 bits
unfoldable pub Written : ℤ → Type 0
Written (pos n) = n ≤ 2147483647
Written (negsuc n) = n ≤ 2147483647

unfoldable mutual
  pub Sound : Expression → Type 0
  Sound (number z) = Written z
  Sound (string t) = Spelled t
  Sound nothing = Unit {0}
  Sound (truth b) = Unit {0}
  Sound (name x) = Named x
  Sound (table e) = Sound e
  Sound (entry a b) = Sound a × Sound b
  Sound (operation o a b) = Sound a × Sound b
  Sound (call f es) = Named f × SoundAll es
  Sound (paren e) = Sound e

  pub SoundAll : Arguments → Type 0
  SoundAll no_argument = Unit {0}
  SoundAll (argument e es) = Sound e × SoundAll es

unfoldable mutual
  pub SoundStatement : Statement → Type 0
  SoundStatement (declare p x) = Named x
  SoundStatement (assign p x e) = Named x × Sound e
  SoundStatement (update p a b e) = Sound a × Sound b × Sound e
  SoundStatement (when p e s) = Sound e × SoundStatement s
  SoundStatement (while p e s) = Sound e × SoundStatement s
  SoundStatement (foreach p x e s) = Named x × Sound e × SoundStatement s
  SoundStatement (return p e) = Sound e
  SoundStatement (block p ss) = SoundStatements ss
  SoundStatement (act p e) = Sound e

  pub SoundStatements : Statements → Type 0
  SoundStatements (only s) = SoundStatement s
  SoundStatements (first s ss) = SoundStatement s × SoundStatements ss

unfoldable pub NamedAll : List (List ℕ) → Type 0
NamedAll [] = Unit {0}
NamedAll (x ∷ xs) = Named x × NamedAll xs

pub record SoundProcedure (f : Procedure) : Type 0 where
  pub name : Named f.name
  pub parameters : NamedAll f.parameters
  pub body : SoundStatements f.body

unfoldable pub SoundProcedures : List Procedure → Type 0
SoundProcedures [] = Unit {0}
SoundProcedures (f ∷ fs) = SoundProcedure f × SoundProcedures fs
