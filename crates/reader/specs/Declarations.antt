-- The names that a body declares, one for each `var` and each `foreach`.
use Rattle.std.specs.Prelude.{ℕ, List, [], ◌∷◌, ◌++◌, length}
use Rattle.meaning.specs.Tree.{Statement, declare, assign, update, when, while, foreach, return, block, act, Statements, only, first}

unfoldable mutual
  pub declared_in : Statement → List (List ℕ)
  declared_in (declare p x) = x ∷ []
  declared_in (assign p x e) = []
  declared_in (update p a b e) = []
  declared_in (when p e s) = declared_in s
  declared_in (while p e s) = declared_in s
  declared_in (foreach p x e s) = x ∷ declared_in s
  declared_in (return p e) = []
  declared_in (block p ss) = declared_by ss
  declared_in (act p e) = []

  pub declared_by : Statements → List (List ℕ)
  declared_by (only s) = declared_in s
  declared_by (first s ss) = declared_in s ++ declared_by ss

abbrev pub declarations : Statements → ℕ
declarations ss = length (declared_by ss)
