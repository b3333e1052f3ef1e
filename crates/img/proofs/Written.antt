-- An operation's promise and its answer told make what its function for C promises.
use Prim.Native.Nat.{ℕ}
use mathlib.Core.Path.{◌≡◌, ◌∙◌}
use mathlib.Core.List.{List}
use lib.IntN.{ℤ}
use mir.Syntax.{w32}
use mir.Val.{to_z, of_z, SFits}
use mir.Facts.{to_z-of_z}
use Rattle.meaning.specs.Program.{Operation}
use Rattle.meaning.specs.Call.{Call, out_after}
use Rattle.answers.specs.declared.Answer as Declared
use Rattle.answers.specs.Answers.{meant, Told}
use Rattle.checking.specs.Checking.{Checked}
use Rattle.formatting.specs.Formatting.{Formatted}
use Rattle.lending.specs.Lending.{called, Performed}
use Rattle.img.specs.Operations.{Checks, Formats, Performs}

pub checks : (program g tokens code front : List ℕ) (r : Declared.Answer) (tokens' code' front' : List ℕ) (n : ℕ) →
    Checked program g tokens code r tokens' code' → Told (meant r) front front' n → Checks program g tokens code front tokens' code' front' n
checks program g tokens code front r tokens' code' front' n k h = record {
  told = rw k.answered at h;
  tokens_after = k.tokens_after;
  code_after = k.code_after;
}

pub formats : (c : Call) (tokens code front : List ℕ) (r : Declared.Answer) (tokens' code' out' front' : List ℕ) (n : ℕ) →
    Formatted c r tokens code tokens' code' out' → Told (meant r) front front' n → Formats c tokens code front tokens' code' front' n
formats c tokens code front r tokens' code' out' front' n k h = record {
  told = rw k.answered at h;
  tokens_after = k.tokens_after;
  code_after = k.code_after;
}

-- a signed number handed over, as its bits
abbrev held : ℤ → ℤ
held z = to_z w32 (of_z w32 z)

module _ (o : Operation) (program : List ℕ) (width height : ℤ) (f : SFits w32 width) (f₂ : SFits w32 height) (g tokens code words texts out : List ℕ) where
  pub performs : (r : Declared.Answer) (front tokens' code' words' texts' front' : List ℕ) (n : ℕ)
      → Performed (called o program (held width) (held height) g tokens code words texts out) (meant r) tokens code words texts tokens' code' words' texts'
      → Told (meant r) front front' n
      → Performs (called o program width height g tokens code words texts out) tokens code words texts front tokens' code' words' texts' front' n
  performs r front tokens' code' words' texts' front' n p h =
      let q : Performed (called o program width height g tokens code words texts out) (meant r) tokens code words texts tokens' code' words' texts' =
      rw (to_z-of_z f, to_z-of_z f₂) at p in
      record {
        told = rw q.answered at h;
        tokens_after = q.tokens_after;
        code_after = q.code_after;
        words_after = q.words_after;
        texts_after = q.texts_after;
      }

  pub draws : (out' : List ℕ) → out' ≡ out_after (called o program (held width) (held height) g tokens code words texts out)
      → out' ≡ out_after (called o program width height g tokens code words texts out)
  draws out' h = h ∙ rw (to_z-of_z f, to_z-of_z f₂)
