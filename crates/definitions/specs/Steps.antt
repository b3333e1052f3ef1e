-- What is done with what was read.
use Rattle.std.specs.Prelude.{ℕ, ◌≡◌, List, get_or, set, take, Option, Some, None, Result, Ok, Err}
use Rattle.expressions.specs.declared.Misfit as Expressions
use Rattle.definitions.specs.declared.Procedure.{Procedure}
use Rattle.definitions.specs.declared.Parsed.{Parsed}
use Rattle.definitions.specs.declared.Unread.{Unread}
use Rattle.definitions.specs.declared.Unread.TheVariants.{Twice, Misfit}
use Rattle.definitions.specs.Words.{procedure, seen_procedure, written_procedure, table_in}

-- a procedure was read from token i on, and its code written from word n on; the table is as it was
pub record Below (r : Result Procedure Expressions.Misfit) (ws : List ℕ) (i n : ℕ) (s₀ s : List ℕ) : Type 0 where
  pub reads : seen_procedure r s ≡ written_procedure (procedure ws i) n s₀
  pub table : table_in s ≡ table_in s₀

-- a word w was written into the table, where `old` stood; the code is as it was
pub record Entered (slot w old : ℕ) (s₀ s : List ℕ) : Type 0 where
  pub stood : old ≡ get_or (table_in s₀) slot 0
  pub table : table_in s ≡ set (table_in s₀) slot w
  pub code : take 8192 s ≡ take 8192 s₀

-- what is answered of n words of code
unfoldable pub answered : ℕ → Option ℕ → Option ℕ → ℕ → Result Parsed Unread
answered end None twice n = Err (Misfit (record { number = 10; token = end }))
answered end (Some main) (Some p) n = Err (Twice p)
answered end (Some main) None n = Ok (record { main = main; words = n })
