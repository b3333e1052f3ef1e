-- A run from the program to its picture: how it ends, and what the stores hold then.
use Rattle.std.specs.Prelude.{ℕ, suc, ◌+◌, ◌^◌, ◌≤◌, ◌<◌, ◌≡◌, List, length, get_or, ℤ, Result}
use Rattle.meaning.specs.Grammar.{reading}
use Rattle.meaning.specs.Figure.{Figure}
use Rattle.meaning.specs.State.{State}
use Rattle.meaning.specs.Run.{steps, Run}
use Rattle.meaning.specs.Book.{Amounts, nothing_yet}
use Rattle.meaning.specs.Program.{empty, painting}
use Rattle.meaning.specs.Picture.{lines_of}
use Rattle.machine.specs.Opcodes.{start_in, body_in, frame_in}
use Rattle.machine.specs.Layout.{steps_used, lines_length, steps_granted, Room}
use Rattle.machine.specs.declared.Fault.{Fault}
use Rattle.machine.specs.Act.{Raw, Act, give, out_of, ◌>>◌, ◌>>=◌}
use Rattle.machine.specs.Evaluate.{Setting}
use Rattle.machine.specs.Interpret.{body_at}
use Rattle.simulation.specs.Follows.{Grants, Follows}
use Rattle.lending.specs.Lending.{Ready}
use Rattle.scene.specs.Scene.{scene_in}
use Rattle.prologue.specs.Prologue.{main_begins, main_ends, Blank}
use Rattle.painting.specs.Specified.{paint_read}

-- how deep expressions, statements and calls may be inside one another: 64 calls of a program's whole code need less than half of it
abbrev pub main_fuel : ℕ
main_fuel = 2097152

-- main's body, by main's word in the table, with its parameters
unfoldable pub body_run : Setting → ℕ → ℤ → ℤ → Act (Unit {0})
body_run e main width height = do
  main_begins e.grants (frame_in main) width height
  body_at main_fuel e (start_in main + 2) (body_in main)
  give tt

-- main from its beginning to its return
unfoldable pub main_run : Setting → ℕ → ℤ → ℤ → Act (Unit {0})
main_run e main width height = body_run e main width height >>= λ _ r. main_ends e.program r.texts e.grants r

-- ---- what is promised
-- the stores hold the shapes of these figures, how long the lines of all are, and the steps counted
pub record Painted (program g : List ℕ) (a : Unit {0}) (figures : List Figure) (r : Raw) (s : State) (total : Amounts) : Type 0 where
  pub scene : figures ≡ scene_in program g r
  pub lines : get_or r.words lines_length 0 ≡ length (lines_of figures)
  pub short : length (lines_of figures) < 2 ^ 49
  pub room : Room g r.words
  pub told : get_or r.words steps_used 0 ≡ total steps

-- the run ends as the book of a specified run does, whatever out slice there is
pub record Ran (program : List ℕ) (g : List ℕ) (m : Run (List Figure)) (e : Result (Unit {0}) Fault) (ts ws : List ℕ) : Type 0 where
  pub follows : (granted : Amounts) → Grants g granted → Follows granted nothing_yet (Painted program g) (out_of e ts ws) m

abbrev pub painting_run : List ℕ → ℤ → ℤ → List ℕ → Run (List Figure)
painting_run program width height g = painting program width height (suc (steps_granted g)) empty

abbrev pub reading_run : List ℕ → ℤ → ℤ → List ℕ → Run (List Figure)
reading_run program width height g = paint_read (reading program) width height (suc (steps_granted g)) empty

-- ---- what is asked
pub record ReadyToRead (program g tokens code ts ws : List ℕ) : Type 0 where
  pub ready : Ready g tokens code ts ws
  pub short : length program ≤ 32768
  pub blank : Blank g ws
