-- The classes of bytes, and what the lexer leaves in the slice that is lent for the tokens' words.
use Rattle.std.specs.Prelude.{ℕ, zero, suc, ◌+◌, ◌*◌, Bool, ◌&&◌, List, [], ◌∷◌, map, length, leb}
use Rattle.meaning.specs.Basics.{laid_over}
use Rattle.meaning.specs.Byte.{class_of}
use Rattle.meaning.specs.Token.{Front, found, nothing, Lexed, lexed, stray}
use Rattle.tokens.specs.Words.{word_of}
use Rattle.std.specs.declared.option.Option.{Option}
use Rattle.std.specs.declared.option.Option.TheVariants.{Some, None}
use Rattle.std.specs.declared.result.Result.{Result}
use Rattle.std.specs.declared.result.Result.TheVariants.{Ok, Err}
use Rattle.lexer.specs.declared.Stray.{Stray}

-- the classes of all bytes from i on, n of them
unfoldable pub classes_from : ℕ → ℕ → List ℕ
classes_from i zero = []
classes_from i (suc n) = class_of i ∷ classes_from (suc i) n

abbrev pub class_table : List ℕ
class_table = classes_from 0 256

-- whether a byte is a digit or, where the least class is 2, a letter
unfoldable pub from_class : ℕ → ℕ → Bool
from_class least b = leb least (class_of b) && leb (class_of b) 3

-- the word of what stands at the front, at a place: none where that is no token
unfoldable pub front_word : ℕ → Front → Option ℕ
front_word at (found k n w) = Some (k + 256 * at + 16777216 * n)
front_word at nothing = None

-- ---- the lexer's answer
-- with what the slice holds then; where there is a stray byte, that is left open
pub data Seen : Type 0 where
  all : ℕ → List ℕ → Seen
  stray_at : ℕ → Seen

unfoldable pub seen : Result ℕ Stray → List ℕ → Seen
seen (Ok n) slice = all n slice
seen (Err e) slice = stray_at e.place

unfoldable pub laid_tokens : Lexed → List ℕ → Seen
laid_tokens (lexed ts) slice = all (length ts) (laid_over (map word_of ts) slice)
laid_tokens (stray p) slice = stray_at p
