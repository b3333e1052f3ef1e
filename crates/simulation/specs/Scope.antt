-- The variables that a call may have: its procedure's parameters, and the names that its body declares, in the order of their numbers.
use Rattle.std.specs.Prelude.{ℕ, zero, suc, List, []}
use Rattle.std.proofs.Math.Option.{Option, none, some}
use Rattle.meaning.specs.Token.{Token}
use Rattle.meaning.specs.Tree.{Procedure}
use Rattle.meaning.specs.Grammar.{Reading, well_formed, malformed, reading, procedure_named, text_at}
use Rattle.numbering.specs.Numbers.{variables_in}

-- ---- own variables
unfoldable pub own_names : Option Procedure → List (List ℕ)
own_names none = []
own_names (some f) = variables_in f

-- ---- the procedure under way
unfoldable pub under_way : Reading → List Token → ℕ → Option Procedure
under_way (well_formed m) ts zero = some m.main
under_way (well_formed m) ts (suc slot) = procedure_named (text_at ts slot) m.procedures
under_way (malformed n p) ts w = none

-- the names of its variables
abbrev pub scope_of : List ℕ → List Token → ℕ → List (List ℕ)
scope_of program ts w = own_names (under_way (reading program) ts w)
