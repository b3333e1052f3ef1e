-- Why a run stops: its number in the language, and the place that it names.
use Rattle.std.specs.Prelude.{ℕ}
use Rattle.machine.specs.declared.Fault.{Fault}
use Rattle.machine.specs.declared.Fault.TheVariants.{Misuse, Destroyed, NegativeSize, Undeclared, DeclaredTwice, DivisionByZero, NoSheet, TooLong, NoShapeLeft, NoEntryLeft, NoTextLeft, NoStepLeft, NoCallLeft, NotRead}

abbrev pub number_of : Fault → ℕ
number_of (Misuse p) = 20
number_of (Destroyed p) = 30
number_of (NegativeSize p) = 40
number_of (Undeclared p) = 50
number_of (DeclaredTwice p) = 60
number_of (DivisionByZero p) = 70
number_of (NoSheet p) = 72
number_of (TooLong p) = 73
number_of (NoShapeLeft p) = 76
number_of (NoEntryLeft p) = 77
number_of (NoTextLeft p) = 78
number_of (NoStepLeft p) = 79
number_of (NoCallLeft p) = 81
number_of (NotRead n p) = n

abbrev pub place_of : Fault → ℕ
place_of (Misuse p) = p
place_of (Destroyed p) = p
place_of (NegativeSize p) = p
place_of (Undeclared p) = p
place_of (DeclaredTwice p) = p
place_of (DivisionByZero p) = p
place_of (NoSheet p) = p
place_of (TooLong p) = p
place_of (NoShapeLeft p) = p
place_of (NoEntryLeft p) = p
place_of (NoTextLeft p) = p
place_of (NoStepLeft p) = p
place_of (NoCallLeft p) = p
place_of (NotRead n p) = p
