-- What a loop over a group asks before its first turn, and how it begins and ends.
use Rattle.std.specs.Prelude.{ℕ, ◌≡◌, List, get_or, set}
use Rattle.machine.specs.declared.Value.TheVariants.{Shape}
use Rattle.machine.specs.Layout.{loop_unit}
use Rattle.machine.specs.Act.{Act, ◌>>◌}
use Rattle.machine.specs.Variables.{usable, declare_once}
use Rattle.machine.specs.Operate.{with_group}
use Rattle.machine.specs.Loops.{inner_unit}

-- shape i has to be a group that is not destroyed; then the variable is declared, if it is not
unfoldable pub opening : ℕ → ℕ → ℕ → Act (Unit {0})
opening slot i p = usable p (Shape i) >> with_group p (Shape i) λ j. declare_once slot

-- a loop begins inside the one that adds so much, unit
pub record Enters (before : List ℕ) (unit : ℕ) (after : List ℕ) : Type 0 where
  pub outer : unit ≡ get_or before loop_unit 0
  pub words : after ≡ set before loop_unit (inner_unit unit)
