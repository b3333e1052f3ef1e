-- A call of each operation has returned: from what the operation promises, and for C from what is told.
use Prim.Native.Nat.{ℕ}
use mathlib.Core.Path.{◌≡◌, refl, ◌∙◌}
use mathlib.Core.Logic.{◌≢◌}
use mathlib.Core.List.{List, [], ◌∷◌}
use lib.ListN.{get_or, replicate}
use lib.IntN.{ℤ}
use mir.Syntax.{w32}
use mir.Val.{to_z, of_z, SFits}
use mir.Facts.{to_z-of_z}
use borrow.Author.Tests.{eq-eqb, ne_eqb}
use Rattle.meaning.specs.Basics.{if◌then◌otherwise◌, laid_over}
use Rattle.meaning.specs.Program.{drawing}
use Rattle.meaning.specs.Book.{Answer, pictured, number, undecided}
use Rattle.meaning.specs.Call.{Call, answer, out_after}
use Rattle.claims.proofs.Claimed as Claimed
use Rattle.answers.specs.declared.Answer as Declared
use Rattle.answers.specs.declared.Answer.TheVariants.{Picture, Number}
use Rattle.answers.specs.Answers.{meant, numbers_of, Told}
use Rattle.checking.specs.Checking.{Checked}
use Rattle.checking.specs.Checking as Checking
use Rattle.lending.specs.Lending.{called, Performed}
use Rattle.img.specs.Operations.{Checks, Performs}
use Rattle.demands.specs.Demands.{Returned, checked, drawn, told_by}
use Rattle.demands.proofs.Numbered.{named}

-- ---- what C is told is the answer
module _ (n : ℕ) (ws : List ℕ) where
  pub told_picture : n ≡ 0 → meant (Picture (get_or ws 3 0) (get_or ws 2 0)) ≡ told_by n ws
  unfolding meant told_by if◌then◌otherwise◌
  told_picture e = rw (eq-eqb n 0 e)

  pub told_number : n ≢ 0 → meant (Number (get_or ws 0 0) (get_or ws 1 0) (get_or ws 2 0) (get_or ws 3 0)) ≡ told_by n ws
  unfolding meant told_by if◌then◌otherwise◌
  told_number e = rw (ne_eqb n 0 e)

told_is : (c : Call) (a : Answer) → answer c ≡ a → (ws : List ℕ) (n : ℕ) → Told a (replicate 4 0) ws n → told_by n ws ≡ a
unfolding numbers_of laid_over told_by if◌then◌otherwise◌
told_is c (pictured l k) e ws n t = rw (t.written, t.returned)
told_is c (number m p k l) e ws n t = rw (t.written, t.returned, ne_eqb m 0 (named c m p k l e))
told_is c undecided e ws n t = absurd (Claimed.always_answered c e)

pub told_answer : (c : Call) (r : Declared.Answer) (ws : List ℕ) (n : ℕ) → Told (answer c) (replicate 4 0) ws n → meant r ≡ told_by n ws → meant r ≡ answer c
told_answer c r ws n t e = e ∙ told_is c (answer c) refl ws n t

-- ---- the calls
pub checked_so : (program g tokens code : List ℕ) (r : Declared.Answer) (tokens' code' : List ℕ) → Checked program g tokens code r tokens' code'
    → Returned (Checking.called program g tokens code) (meant r) (tokens ∷ code ∷ []) (tokens' ∷ code' ∷ []) []
checked_so program g tokens code r tokens' code' h = checked {g = g} r h

pub checked_by_c : (program g tokens code : List ℕ) (r : Declared.Answer) (tokens' code' ws : List ℕ) (n : ℕ)
    → Checks program g tokens code (replicate 4 0) tokens' code' ws n → meant r ≡ told_by n ws
    → Returned (Checking.called program g tokens code) (meant r) (tokens ∷ code ∷ []) (tokens' ∷ code' ∷ []) []
checked_by_c program g tokens code r tokens' code' ws n h e =
    checked {g = g} r (record { answered = told_answer (Checking.called program g tokens code) r ws n h.told e; tokens_after = h.tokens_after; code_after = h.code_after })

-- a signed number handed over, as its bits
abbrev held : ℤ → ℤ
held z = to_z w32 (of_z w32 z)

module _ (program : List ℕ) (width height : ℤ) (f : SFits w32 width) (f₂ : SFits w32 height) (g tokens code words texts : List ℕ) (r : Declared.Answer) (tokens' code' words' texts' : List ℕ)
    (out out' : List ℕ) (o : out' ≡ out_after (called drawing program (held width) (held height) g tokens code words texts out)) where
  pub drawn_so : Performed (called drawing program (held width) (held height) g tokens code words texts out) (meant r) tokens code words texts tokens' code' words' texts'
      → Returned (called drawing program width height g tokens code words texts out) (meant r) (tokens ∷ code ∷ words ∷ texts ∷ []) (tokens' ∷ code' ∷ words' ∷ texts' ∷ []) out'
  drawn_so h = drawn g r (rw (to_z-of_z f, to_z-of_z f₂) at h) (o ∙ rw (to_z-of_z f, to_z-of_z f₂))

  pub drawn_by_c : (ws : List ℕ) (n : ℕ)
      → Performs (called drawing program (held width) (held height) g tokens code words texts out) tokens code words texts (replicate 4 0) tokens' code' words' texts' ws n
      → meant r ≡ told_by n ws
      → Returned (called drawing program width height g tokens code words texts out) (meant r) (tokens ∷ code ∷ words ∷ texts ∷ []) (tokens' ∷ code' ∷ words' ∷ texts' ∷ []) out'
  drawn_by_c ws n h e = drawn_so (record {
    answered = told_answer (called drawing program (held width) (held height) g tokens code words texts out) r ws n h.told e;
    tokens_after = h.tokens_after;
    code_after = h.code_after;
    words_after = h.words_after;
    texts_after = h.texts_after;
  })
