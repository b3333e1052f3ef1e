-- What a statement does once its parts are evaluated; these are held as words. p is the statement's place.
use Rattle.std.specs.Prelude.{ℕ, Bool, not, List, eqb}
use Rattle.meaning.specs.Basics.{if◌then◌otherwise◌}
use Rattle.machine.specs.Opcodes.{tag_in, extra_in, tag_assign, tag_return}
use Rattle.machine.specs.Words.{kind_in, number_in, truth_in, packed, unpacked, kind_truth, kind_shape}
use Rattle.machine.specs.Act.{Act, ◌>>=◌, ◌>>◌, give, fail, refuse, held}
use Rattle.machine.specs.Groups.{copy_shape}
use Rattle.machine.specs.Variables.{usable, is_declared, declare, set_variable}
use Rattle.machine.specs.declared.Flow.{Flow}
use Rattle.machine.specs.declared.Flow.TheVariants.{Onward, Returned}

-- ---- declarations
unfoldable pub declaring : ℕ → ℕ → Act Flow
declaring n p = declare n p >> give Onward

-- ---- assignments
-- a shape is copied
unfoldable pub copied : List ℕ → ℕ → ℕ → Act ℕ
copied g p k =
    if eqb (kind_in k) kind_shape
    then (λ _. copy_shape g p (number_in k) >>= λ v. give (packed v))
    otherwise λ _. give k

unfoldable pub assigning : List ℕ → ℕ → ℕ → ℕ → Act Flow
assigning g p n k = do
  ws ← held
  refuse (not (is_declared ws n)) 50 p
  usable p (unpacked k)
  c ← copied g p k
  set_variable n c
  give Onward

-- ---- statements of one expression, by their word
unfoldable pub finishing : List ℕ → ℕ → ℕ → ℕ → Act Flow
finishing g w k p =
    if eqb (tag_in w) tag_assign then (λ _. assigning g p (extra_in w) k)
    otherwise λ _. if eqb (tag_in w) tag_return then (λ _. give (Returned (unpacked k)))
    otherwise λ _. give Onward

-- ---- tests
unfoldable pub saying : ℕ → ℕ → Act Bool
saying k p = if eqb (kind_in k) kind_truth then (λ _. give (truth_in k)) otherwise λ _. fail 20 p
