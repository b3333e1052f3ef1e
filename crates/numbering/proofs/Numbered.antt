-- The code of a program whose variables are numbered.
use Prim.Native.Nat.{ℕ, ◌+◌, ◌<◌}
use mathlib.Core.Path.{◌≡◌}
use mathlib.Core.List.{List}
use mathlib.Core.Option.{none, some}
use lib.ListN.{length, get_or}
use Rattle.meaning.specs.Basics.{bytes}
use Rattle.meaning.specs.Token.{Token, a_name}
use Rattle.meaning.specs.Tree.{Procedure, Program}
use Rattle.meaning.specs.Grammar.{procedure_named}
use Rattle.machine.specs.Opcodes.{table_place}
use Rattle.code.specs.Code.{slot_of}
use Rattle.reader.proofs.Homes.{Occurs}
use Rattle.reader.proofs.Walk.{Stands}
use Rattle.numbering.specs.Numbers.{numbered_word, numbered_body}

-- the code of the procedure that x names
pub record NumberedAt (code : List ℕ) (ts : List Token) (x : List ℕ) (f : Procedure) : Type 0 where
  pub start : ℕ
  pub early : start < 65536
  pub word : get_or code (table_place (slot_of ts x)) 0 ≡ numbered_word start f ts
  pub body : Stands code (start + length f.parameters) (numbered_body f ts)

-- that of all procedures
pub record Numbered (code : List ℕ) (ts : List Token) (fs : List Procedure) : Type 0 where
  pub known : (x : List ℕ) (f : Procedure) → Occurs ts a_name x → procedure_named x fs ≡ some f → NumberedAt code ts x f
  pub unknown : (x : List ℕ) → Occurs ts a_name x → procedure_named x fs ≡ none → get_or code (table_place (slot_of ts x)) 0 ≡ 0

-- a whole program's, with main's word
pub record NumberedWhole (code : List ℕ) (word : ℕ) (ts : List Token) (m : Program) : Type 0 where
  pub each : Numbered code ts m.procedures
  pub main : NumberedAt code ts (bytes "main") m.main
  pub told : word ≡ numbered_word main.start m.main ts
