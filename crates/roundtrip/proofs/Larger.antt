-- More memory changes no text: grants make no difference to what is read, and an out slice that is no shorter holds what the other holds.
use Prim.Native.Nat.{ℕ, ◌≤◌}
use native.Mathlib.Omega.{arith}
use mathlib.Core.Path.{◌≡◌, refl, sym, ◌∙◌}
use mathlib.Core.Logic.{◌≢◌}
use mathlib.Core.Bool.{Bool, true, false, ◌&&◌}
use mathlib.Core.List.{List, []}
use mathlib.Core.Option.{Option, none, some}
use lib.ListN.{length, take}
use lib.Dec.{leb, ltb}
use borrow.Author.Tests.{le-leb, leb-true}
use Rattle.meaning.specs.Basics.{if◌then◌otherwise◌}
use Rattle.meaning.specs.Tree.{Program}
use Rattle.meaning.specs.Grammar.{Reading, well_formed, malformed, reading}
use Rattle.meaning.specs.Procedure.{doubled}
use Rattle.meaning.specs.Run.{go_on, ◌>>=◌, give, fail, refuse}
use Rattle.meaning.specs.Program.{accepted, checking, empty, named_apart, understood}
use Rattle.meaning.specs.Book.{Amounts, Answer, pictured, number, undecided, book, settled, answer_to, booked}
use Rattle.meaning.specs.Call.{Call, admitted, granted_to, answer}
use Rattle.meaning.proofs.SliceLaws.{laid_front}
use Rattle.canonical.specs.Call.{text, fits, answer_with, text_answer, out_with, text_out}
use Rattle.roundtrip.specs.Claims.{LargerText}
use Rattle.roundtrip.proofs.Checks.{checked, answered, answer_is}

-- ---- grants
named_alike : (g h : Amounts) (m : Program) (o : Option ℕ) → booked g ((named_apart o m >>= λ _. give accepted) empty) ≡ booked h ((named_apart o m >>= λ _. give accepted) empty)
unfolding named_apart fail give ◌>>=◌ go_on booked book settled answer_to
named_alike g h m none = refl
named_alike g h m (some p) = refl

-- reading takes nothing
checked_alike : (g h : Amounts) (long : Bool) (r : Reading) → booked g (checked long r) ≡ booked h (checked long r)
unfolding checked refuse understood fail give ◌>>=◌ go_on booked book settled answer_to
checked_alike g h true r = refl
checked_alike g h false (malformed n p) = refl
checked_alike g h false (well_formed m) = named_alike g h m (doubled [] m.procedures)

answer_alike : (c d : Call) → c.operation ≡ checking → d.operation ≡ checking → c.program ≡ d.program → admitted c ≡ true → admitted d ≡ true → answer d ≡ answer c
unfolding answered if◌then◌otherwise◌
answer_alike c d e f same a b =
    let one = answer_is c e in
    let two = answer_is d f in
    two ∙ rw (b, sym same) (checked_alike (granted_to d) (granted_to c) (ltb 32768 (length c.program)) (reading c.program)) ∙ sym (rw a at one)

-- ---- out slices
both : (a b : Bool) → a && b ≡ true → (a ≡ true) × (b ≡ true)
both true b e = (refl, e)
both false b e = let z : ◌≡◌ {A = ℕ} 0 1 = cc in absurd (omega arith)

module _ (t out more : List ℕ) (longer : length out ≤ length more) where
  -- what fits the one fits the other
  fits_more : fits t out ≡ true → (length t ≤ length out) × (fits t more ≡ true)
  unfolding fits
  fits_more e =
      let k = both (leb (length t) 32768) (leb (length t) (length out)) e in
      let l : length t ≤ length out = leb-true _ _ k.1 in
      (l, rw k.0 (le-leb (length t) (length more) (omega (arith, longer))))

  abbrev Alike : Answer → Type 0
  Alike a = (answer_with a t more ≡ answer_with a t out) × ((l n : ℕ) → answer_with a t out ≡ pictured l n → take l (out_with a t more) ≡ take l (out_with a t out))

  -- a text that fits is there in both
  fitted : fits t out ≡ true → Alike (pictured 0 0)
  unfolding answer_with out_with if◌then◌otherwise◌
  fitted e =
      let k = fits_more e in (
        rw (e, k.1),
        λ l n q.
            let z : length t ≡ l = told (length t) 0 l n (rw e at q) in
            rw (e, k.1, sym z) (laid_front t more (omega (arith, k.0, longer)) ∙ sym (laid_front t out k.0)),
      )
    where
      told : (a b c d : ℕ) → pictured a b ≡ pictured c d → a ≡ c
      told a b c d h = cc

  by_fit : (b : Bool) → fits t out ≡ b → ((n l : ℕ) → answer_with (pictured 0 0) t out ≢ number 82 0 n l) → Alike (pictured 0 0)
  unfolding answer_with if◌then◌otherwise◌
  by_fit true e unless = fitted e
  by_fit false e unless = absurd (unless 0 (length t) (rw e))

  alike : (a : Answer) → ((n l : ℕ) → answer_with a t out ≢ number 82 0 n l) → Alike a
  unfolding answer_with out_with
  alike (pictured l n) unless = by_fit (fits t out) refl unless
  alike (number k p n l) unless = (refl, λ i j q. let z : ◌≡◌ {A = ℕ} 0 1 = cc in absurd (omega arith))
  alike undecided unless = (refl, λ i j q. let z : ◌≡◌ {A = ℕ} 0 1 = cc in absurd (omega arith))

-- MORE MEMORY CHANGES NO TEXT
pub larger : LargerText
unfolding text_answer text_out
larger c d e f same a b longer unless =
    let k = answer_alike c d e f same a b in
    rw (k, sym same) (alike (text c.program) c.out d.out longer (answer c) unless)
