-- What each way through the code does, and what a joined text holds.
use mathlib.Core.Path.{◌≡◌, ◌∙◌}
use mathlib.Core.Bool.{Bool, true, false}
use mathlib.Core.List.{List, ◌++◌}
use Prim.Native.Nat.{ℕ, ◌+◌, ◌%◌, ◌≤◌, ◌<◌}
use native.Mathlib.Omega.{arith}
use borrow.Author.Tests.{ne_eqb}
use lib.Dec.{eqb}
use lib.ListN.{length, get_or, take, drop, length-take}
use lib.Seq.{take-take}
use Rattle.meaning.specs.Basics.{if◌then◌otherwise◌, same_text}
use Rattle.machine.specs.Layout.{Lent}
use Rattle.machine.specs.Act.{spend, out_of, DoesIn, Does}
use Rattle.machine.specs.Texts.{origin_in, start_in, size_in, part, text_of, laid_at, joined, put_joined}
use Rattle.stores.proofs.Acts.{covered}
use Rattle.writing.specs.Placed.{Wrote}
use Rattle.texts.specs.Laying.{Lays, Laid}
use Rattle.texts.proofs.Layer.{laid_laid, kept_laid}
use Rattle.std.specs.Prelude.{Ok}
use Rattle.texts.proofs.Comparison.{same_self}

-- ---- the text of a handle
module _ (program texts : List ℕ) (h start size : ℕ) (e : start ≡ start_in h) (f : size ≡ size_in h) (r : List ℕ) where
  pub of_program : h % 2 ≡ 0 → r ≡ part start size program → r ≡ text_of program texts h
  unfolding text_of if◌then◌otherwise◌
  of_program o q = q ∙ rw (e, f, o)

  pub of_store : (h % 2 ≡ 0 → ⊥) → r ≡ part start size texts → r ≡ text_of program texts h
  unfolding text_of if◌then◌otherwise◌
  of_store o q = q ∙ rw (e, f, ne_eqb _ _ o)

module _ (program texts : List ℕ) (a b : ℕ) where
  pub same_handle : a ≡ b → true ≡ same_text (text_of program texts a) (text_of program texts b)
  same_handle e = rw e (same_self (text_of program texts b))

  pub same_texts : (x y : List ℕ) (r : Bool) → x ≡ text_of program texts a → y ≡ text_of program texts b → r ≡ same_text x y
      → r ≡ same_text (text_of program texts a) (text_of program texts b)
  same_texts x y r e f h = rw (← e, ← f) h

-- ---- a text laid into the store
text_short : (program d : List ℕ) (h : ℕ) → length (text_of program d h) ≤ size_in h
unfolding text_of if◌then◌otherwise◌ part
text_short program d h = go (eqb (origin_in h) 0)
  where
    go : (o : Bool) → length (if o then (λ _. part (start_in h) (size_in h) program) otherwise λ _. part (start_in h) (size_in h) d) ≤ size_in h
    go true = simp length-take (omega arith)
    go false = simp length-take (omega arith)

module _ (program texts : List ℕ) (used at h : ℕ) (y : Lays texts used at h) (before behind x : List ℕ)
    (e : before ≡ take at texts) (f : behind ≡ drop at texts) (t : x ≡ text_of program (take used before) h) where
  pub text_lays : (n : ℕ) (behind' : List ℕ) → Wrote x behind behind' n → Laid program texts used at h (at + length x) (before ++ behind')
  unfolding laid_at
  text_lays n behind' w =
      let r : x ≡ text_of program (take used texts) h = t ∙ rw (e, take-take used at texts y.behind) in
      record { upto = rw (← r); holds = rw (← r, w.laid, e, f) }

-- ---- two texts joined
module _ (program texts words grants : List ℕ) (p a b x y : ℕ) (words' : List ℕ) (e : x ≡ size_in a) (f : y ≡ size_in b)
    (h : Does words (spend 3 (get_or grants 3 0) (x + y) 78 p) (Ok tt) words') where
  module _ (l : Lent grants texts words) where
    within : get_or words 3 0 + (x + y) ≤ get_or grants 3 0
    within = (covered 78 p h).within

    pub used_small : get_or words 3 0 + (x + y) < 65536
    used_small = omega (arith, within, l.room.text)

    pub lays_first : Lays texts (get_or words 3 0) (get_or words 3 0) a
    lays_first = record { behind = omega arith; fits = omega (arith, within, l.texts) }

    pub lays_second : (end : ℕ) (texts' : List ℕ) → Laid program texts (get_or words 3 0) (get_or words 3 0) a end texts' → length texts' ≡ length texts → Lays texts' (get_or words 3 0) end b
    lays_second end texts' g k = record {
      behind = omega (arith, g.upto);
      fits = omega (arith, g.upto, within, l.texts, text_short program (take (get_or words 3 0) texts) a);
    }

    pub joins : (end end' : ℕ) (texts' texts'' : List ℕ) → Laid program texts (get_or words 3 0) (get_or words 3 0) a end texts' → Laid program texts' (get_or words 3 0) end b end' texts''
        → DoesIn texts words' (put_joined program (get_or words 3 0) a b) (Ok tt) texts'' words'
    unfolding put_joined out_of
    joins end end' texts' texts'' g k =
        let s : take (get_or words 3 0) texts' ≡ take (get_or words 3 0) texts =
        rw g.holds (kept_laid texts (get_or words 3 0) _ (omega (arith, within, l.texts))) in
        let z : texts'' ≡ laid_at texts (get_or words 3 0) (joined program texts (get_or words 3 0) a b) =
        k.holds ∙ rw (s, g.upto, g.holds)
        (laid_laid texts (get_or words 3 0) (text_of program (take (get_or words 3 0) texts) a) (text_of program (take (get_or words 3 0) texts) b)
        (omega (arith, within, l.texts, text_short program (take (get_or words 3 0) texts) a))) in
        record { equal = rw z }
