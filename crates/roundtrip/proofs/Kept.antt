-- The tree with the parentheses that the text has is, without them, the same tree.
use mathlib.Core.Path.{◌≡◌, refl}
use mathlib.Core.Bool.{Bool, true, false, ◌||◌}
use Rattle.meaning.specs.Tree.{Expression, number, string, nothing, truth, name, table, entry, operation, call, paren, Arguments, no_argument, argument}
use Rattle.canonical.specs.Bare.{bare, bare_arguments}
use Rattle.canonical.specs.Text.{is_operation, is_entry}
use Rattle.roundtrip.proofs.Words.{paren_if, kept, kept_all}

-- parentheses are no part of a bare tree
pub bare_paren : (b : Bool) (e : Expression) → bare (paren_if b e) ≡ bare e
unfolding bare paren_if
bare_paren true e = refl
bare_paren false e = refl

mutual
  unfolding bare kept

  pub bare_kept : (e : Expression) → bare (kept e) ≡ bare e
  bare_kept (number z) = refl
  bare_kept (string t) = refl
  bare_kept nothing = refl
  bare_kept (truth b) = refl
  bare_kept (name x) = refl
  bare_kept (table e) = rw (bare_kept e)
  bare_kept (entry a b) =
      rw (bare_paren (is_operation a || is_entry a) (kept a), bare_paren (is_operation b || is_entry b) (kept b), bare_kept a, bare_kept b)
  bare_kept (operation o a b) = rw (bare_paren (is_operation a) (kept a), bare_paren (is_operation b) (kept b), bare_kept a, bare_kept b)
  bare_kept (call f es) = rw (bare_kept_all es)
  bare_kept (paren e) = bare_kept e

  pub bare_kept_all : (es : Arguments) → bare_arguments (kept_all es) ≡ bare_arguments es
  bare_kept_all no_argument = refl
  bare_kept_all (argument e es) = rw (bare_kept e, bare_kept_all es)
