-- Trees whose numbers are integers of 32 bits, and whose names, strings and places are those of some tokens.
use Prim.Native.Nat.{ℕ}
use mathlib.Core.Path.{◌≡◌}
use mathlib.Core.List.{List, [], ◌∷◌}
use Rattle.meaning.specs.Token.{Token, a_name, a_string}
use Rattle.meaning.specs.Tree.{Expression, number, string, nothing, truth, name, table, entry, operation, call, paren, Arguments, no_argument, argument}
use Rattle.meaning.specs.Tree.{Statement, declare, assign, update, when, while, foreach, return, block, act, Statements, only, first}
use Rattle.meaning.specs.Grammar.{start_at}
use Rattle.meaning.specs.Integer.{wrap}
use Rattle.reader.proofs.Homes.{Occurs}

-- a token begins at p
pub record Placed (ts : List Token) (p : ℕ) : Type 0 where
  pub index : ℕ
  pub begins : start_at ts index ≡ p

unfoldable mutual
  pub Known : Expression → List Token → Type 0
  Known (number z) ts = wrap z ≡ z
  Known (string t) ts = Occurs ts a_string t
  Known nothing ts = Unit {0}
  Known (truth b) ts = Unit {0}
  Known (name x) ts = Occurs ts a_name x
  Known (table e) ts = Known e ts
  Known (entry a b) ts = Known a ts × Known b ts
  Known (operation o a b) ts = Known a ts × Known b ts
  Known (call f es) ts = Occurs ts a_name f × KnownAll es ts
  Known (paren e) ts = Known e ts

  pub KnownAll : Arguments → List Token → Type 0
  KnownAll no_argument ts = Unit {0}
  KnownAll (argument e es) ts = Known e ts × KnownAll es ts

unfoldable mutual
  pub KnownStatement : Statement → List Token → Type 0
  KnownStatement (declare p x) ts = Placed ts p × Occurs ts a_name x
  KnownStatement (assign p x e) ts = Placed ts p × Occurs ts a_name x × Known e ts
  KnownStatement (update p a b e) ts = Placed ts p × Known a ts × Known b ts × Known e ts
  KnownStatement (when p e s) ts = Placed ts p × Known e ts × KnownStatement s ts
  KnownStatement (while p e s) ts = Placed ts p × Known e ts × KnownStatement s ts
  KnownStatement (foreach p x e s) ts = Placed ts p × Occurs ts a_name x × Known e ts × KnownStatement s ts
  KnownStatement (return p e) ts = Placed ts p × Known e ts
  KnownStatement (block p ss) ts = Placed ts p × KnownStatements ss ts
  KnownStatement (act p e) ts = Placed ts p × Known e ts

  pub KnownStatements : Statements → List Token → Type 0
  KnownStatements (only s) ts = KnownStatement s ts
  KnownStatements (first s ss) ts = KnownStatement s ts × KnownStatements ss ts

unfoldable pub KnownNames : List (List ℕ) → List Token → Type 0
KnownNames [] ts = Unit {0}
KnownNames (x ∷ xs) ts = Occurs ts a_name x × KnownNames xs ts
