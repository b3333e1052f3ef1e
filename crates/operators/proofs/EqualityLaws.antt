-- Equality.
use Prim.Native.Nat.{ℕ, zero, suc, ◌/◌, ◌%◌, ◌^◌, ◌<◌}
use mathlib.Core.Path.{◌≡◌, ◌∙◌, refl, ap, sym}
use mathlib.Core.Bool.{Bool, true, false, not, cond}
use mathlib.Core.List.{List}
use native.Mathlib.Omega.{arith}
use borrow.Author.Tests.{ne_eqb}
use lib.Dec.{eqb}
use lib.IntN.{ℤ}
use lib.Signed.{mag}
use mir.Syntax.{w32}
use mir.Val.{to_z}
use Rattle.meaning.specs.Basics.{if◌then◌otherwise◌, same_text}
use Rattle.meaning.specs.Integer.{same_integer}
use Rattle.machine.specs.declared.Value.{Value}
use Rattle.machine.specs.declared.Value.TheVariants.{Integer, Text, Boolean, Nothing, Table, Shape}
use Rattle.std.specs.Prelude.{Result, Ok, Err}
use Rattle.machine.specs.declared.Fault.{Fault}
use Rattle.machine.specs.declared.Fault.TheVariants.{Misuse}
use Rattle.machine.specs.Layout.{shapes_granted}
use Rattle.machine.specs.Groups.{alike_at}
use Rattle.machine.specs.Words.{number_in, handle_in, truth_in, unpacked}
use Rattle.values.proofs.Laws.{unpacked_integer, unpacked_text, unpacked_truth, unpacked_table, unpacked_shape, as_nothing, by_kind}
use Rattle.machine.specs.Act.{Raw, raw, go_on, ◌>>=◌, give, fail, out_of, DoesIn}
use Rattle.machine.specs.Texts.{text_of}
use Rattle.machine.specs.Operate.{Comparison, refused, settled, of_shapes, equality, figures_same, answered, equated, operate_on}
use Rattle.values.proofs.Held.{held, back}
use Rattle.operators.specs.Parts.{kind_number, unlike}
use Rattle.operators.specs.Equality.{comparison, equating}

-- ---- kinds
module _ (w : ℕ) where
  pub kind_1 : w % 8 ≡ 1 → 1 ≡ kind_number (unpacked w)
  unfolding kind_number
  kind_1 e = rw (unpacked_integer w e)

  pub kind_2 : w % 8 ≡ 2 → 2 ≡ kind_number (unpacked w)
  unfolding kind_number
  kind_2 e = rw (unpacked_text w e)

  pub kind_3 : w % 8 ≡ 3 → 3 ≡ kind_number (unpacked w)
  unfolding kind_number
  kind_3 e = rw (unpacked_truth w e)

  pub kind_5 : w % 8 ≡ 5 → 5 ≡ kind_number (unpacked w)
  unfolding kind_number
  kind_5 e = rw (unpacked_table w e)

  pub kind_6 : w % 8 ≡ 6 → 6 ≡ kind_number (unpacked w)
  unfolding kind_number
  kind_6 e = rw (unpacked_shape w e)

  pub kind_4 : (w % 8 ≡ 1 → ⊥) → (w % 8 ≡ 2 → ⊥) → (w % 8 ≡ 3 → ⊥) → (w % 8 ≡ 5 → ⊥) → (w % 8 ≡ 6 → ⊥) → 4 ≡ kind_number (unpacked w)
  unfolding kind_number
  kind_4 a b c d e = rw (← as_nothing w a b c d e)

  -- a word's value, by its kind
  value_as : ℕ → Value
  value_as k =
      if eqb k 1 then (λ _. Integer (to_z w32 (number_in w)))
      otherwise λ _. if eqb k 2 then (λ _. Text (handle_in w))
      otherwise λ _. if eqb k 3 then (λ _. Boolean (truth_in w))
      otherwise λ _. if eqb k 5 then (λ _. Table (number_in w))
      otherwise λ _. if eqb k 6 then (λ _. Shape (number_in w))
      otherwise λ _. Nothing

  value_as_lem : (k n : ℕ) → k ≡ kind_number (unpacked w) → k ≡ n → unpacked w ≡ value_as n
  unfolding kind_number value_as if◌then◌otherwise◌
  value_as_lem k n e f = by_kind w (λ v. v ≡ value_as (kind_number v)) (λ _. refl) (λ _. refl) (λ _. refl) refl (λ _. refl) (λ _. refl) ∙ ap value_as (sym e ∙ f)

-- ---- values
module _ (p k l : ℕ) where
  pub unlike_4 : k ≡ 4 → Ok false ≡ unlike p k l
  unlike_4 e = rw e

  pub unlike_to_4 : (k ≡ 4 → ⊥) → l ≡ 4 → Ok false ≡ unlike p k l
  unlike_to_4 h e = rw (ne_eqb _ _ h, e)

  pub unlike_other : (k ≡ 4 → ⊥) → (l ≡ 4 → ⊥) → Err (Misuse p) ≡ unlike p k l
  unlike_other h e = rw (ne_eqb _ _ h, ne_eqb _ _ e)

module _ (program g : List ℕ) (p : ℕ) (s : Raw) where
  kinds_apart : (v w : Value) → (kind_number v ≡ kind_number w → ⊥) → out_of (unlike p (kind_number v) (kind_number w)) s.texts s.words ≡ comparison program g p (equality program s v w) s
  unfolding equality out_of comparison fail give kind_number
  kinds_apart (Integer x) (Integer y) h = absurd (h refl)
  kinds_apart (Integer x) (Text y) h = refl
  kinds_apart (Integer x) (Boolean y) h = refl
  kinds_apart (Integer x) Nothing h = refl
  kinds_apart (Integer x) (Table y) h = refl
  kinds_apart (Integer x) (Shape y) h = refl
  kinds_apart (Text x) (Integer y) h = refl
  kinds_apart (Text x) (Text y) h = absurd (h refl)
  kinds_apart (Text x) (Boolean y) h = refl
  kinds_apart (Text x) Nothing h = refl
  kinds_apart (Text x) (Table y) h = refl
  kinds_apart (Text x) (Shape y) h = refl
  kinds_apart (Boolean x) (Integer y) h = refl
  kinds_apart (Boolean x) (Text y) h = refl
  kinds_apart (Boolean x) (Boolean y) h = absurd (h refl)
  kinds_apart (Boolean x) Nothing h = refl
  kinds_apart (Boolean x) (Table y) h = refl
  kinds_apart (Boolean x) (Shape y) h = refl
  kinds_apart Nothing (Integer y) h = refl
  kinds_apart Nothing (Text y) h = refl
  kinds_apart Nothing (Boolean y) h = refl
  kinds_apart Nothing Nothing h = absurd (h refl)
  kinds_apart Nothing (Table y) h = refl
  kinds_apart Nothing (Shape y) h = refl
  kinds_apart (Table x) (Integer y) h = refl
  kinds_apart (Table x) (Text y) h = refl
  kinds_apart (Table x) (Boolean y) h = refl
  kinds_apart (Table x) Nothing h = refl
  kinds_apart (Table x) (Table y) h = absurd (h refl)
  kinds_apart (Table x) (Shape y) h = refl
  kinds_apart (Shape x) (Integer y) h = refl
  kinds_apart (Shape x) (Text y) h = refl
  kinds_apart (Shape x) (Boolean y) h = refl
  kinds_apart (Shape x) Nothing h = refl
  kinds_apart (Shape x) (Table y) h = refl
  kinds_apart (Shape x) (Shape y) h = absurd (h refl)

  no_comparison : (v w : Value) → kind_number v ≡ kind_number w → (kind_number v ≡ 1 → ⊥) → (kind_number v ≡ 2 → ⊥) → (kind_number v ≡ 3 → ⊥) → (kind_number v ≡ 4 → ⊥)
      → (kind_number v ≡ 6 → ⊥) → out_of {A = Bool} (Err (Misuse p)) s.texts s.words ≡ comparison program g p (equality program s v w) s
  unfolding equality out_of comparison fail kind_number
  no_comparison (Integer x) w e i j k l m = absurd (i refl)
  no_comparison (Text x) w e i j k l m = absurd (j refl)
  no_comparison (Boolean x) w e i j k l m = absurd (k refl)
  no_comparison Nothing w e i j k l m = absurd (l refl)
  no_comparison (Table x) (Integer y) e i j k l m = refl
  no_comparison (Table x) (Text y) e i j k l m = refl
  no_comparison (Table x) (Boolean y) e i j k l m = refl
  no_comparison (Table x) Nothing e i j k l m = absurd (omega arith)
  no_comparison (Table x) (Table y) e i j k l m = refl
  no_comparison (Table x) (Shape y) e i j k l m = refl
  no_comparison (Shape x) w e i j k l m = absurd (m refl)

same_truth : (m n : ℕ) → m < 2 → n < 2 → eqb m n ≡ cond (eqb m 1) (eqb n 1) (not (eqb n 1))
same_truth zero zero h k = refl
same_truth zero (suc zero) h k = refl
same_truth zero (suc (suc n)) h k = absurd (omega arith)
same_truth (suc zero) zero h k = refl
same_truth (suc zero) (suc zero) h k = refl
same_truth (suc zero) (suc (suc n)) h k = absurd (omega arith)
same_truth (suc (suc m)) n h k = absurd (omega arith)

module _ (program g ts ws : List ℕ) (p a b k l : ℕ) (e : k ≡ kind_number (unpacked a)) (f : l ≡ kind_number (unpacked b)) where
  pub apart : {r : Result Bool Fault} → (k ≡ l → ⊥) → r ≡ unlike p k l → DoesIn ts ws (equating program g p a b) r ts ws
  unfolding equating
  apart h q = record { equal = rw (q, e, f) (kinds_apart program g p (raw ts ws) (unpacked a) (unpacked b) (rw (e, f) at h)) }

  module _ (t : k ≡ l) where
    pub integers : {x y : ℤ} {c : Bool} → k ≡ 1 → c ≡ same_integer (held x) (held y) → mag x < 2 ^ 31 → mag y < 2 ^ 31
        → x ≡ to_z w32 (number_in a) → y ≡ to_z w32 (number_in b) → DoesIn ts ws (equating program g p a b) (Ok c) ts ws
    unfolding equating out_of comparison equality give value_as if◌then◌otherwise◌
    integers {x = x'} {y = y'} n c i j x y = record { equal = rw (c, back {r = x'} i, back {r = y'} j, x, y, value_as_lem a k 1 e n, value_as_lem b l 1 f (sym t ∙ n)) }

    pub strings : {x y : ℕ} {c : Bool} → k ≡ 2 → c ≡ same_text (text_of program ts x) (text_of program ts y)
        → x ≡ handle_in a → y ≡ handle_in b → DoesIn ts ws (equating program g p a b) (Ok c) ts ws
    unfolding equating out_of comparison equality give value_as if◌then◌otherwise◌
    strings n c x y = record { equal = rw (c, x, y, value_as_lem a k 2 e n, value_as_lem b l 2 f (sym t ∙ n)) }

    pub truths : k ≡ 3 → DoesIn ts ws (equating program g p a b) (Ok (eqb (a / 8 % 2) (b / 8 % 2))) ts ws
    unfolding equating out_of comparison equality give value_as if◌then◌otherwise◌
    truths n = record { equal = rw (same_truth (a / 8 % 2) (b / 8 % 2) (omega arith) (omega arith), value_as_lem a k 3 e n, value_as_lem b l 3 f (sym t ∙ n)) }

    pub nothings : k ≡ 4 → DoesIn ts ws (equating program g p a b) (Ok true) ts ws
    unfolding equating out_of comparison equality give value_as if◌then◌otherwise◌
    nothings n = record { equal = rw (value_as_lem a k 4 e n, value_as_lem b l 4 f (sym t ∙ n)) }

    pub shapes : {i j : ℕ} {s : Result Bool Fault} {ws' : List ℕ} → k ≡ 6 → DoesIn ts ws (alike_at (figures_same program) (shapes_granted g) g p 0 i j) s ts ws'
        → i ≡ number_in a → j ≡ number_in b → DoesIn ts ws (equating program g p a b) s ts ws'
    unfolding equating comparison equality value_as if◌then◌otherwise◌
    shapes n q i j = record { equal = q.equal ∙ rw (i, j, value_as_lem a k 6 e n, value_as_lem b l 6 f (sym t ∙ n)) }

    pub uncompared : (k ≡ 1 → ⊥) → (k ≡ 2 → ⊥) → (k ≡ 3 → ⊥) → (k ≡ 4 → ⊥) → (k ≡ 6 → ⊥) → DoesIn ts ws (equating program g p a b) (Err (Misuse p)) ts ws
    unfolding equating
    uncompared u v w x y = record {
      equal = no_comparison program g p (raw ts ws) (unpacked a) (unpacked b) (sym e ∙ t ∙ f) (rw e at u) (rw e at v) (rw e at w) (rw e at x) (rw e at y);
    }

-- ---- the answers
answered_by : (program g : List ℕ) (p : ℕ) (s : Raw) (f : Bool → Bool) (c : Comparison) → answered program g p f c s ≡ go_on (comparison program g p c s) (λ b. give (Boolean (f b)))
unfolding answered comparison fail give ◌>>=◌ go_on
answered_by program g p s f refused = refl
answered_by program g p s f (settled b) = refl
answered_by program g p s f (of_shapes i j) = refl

module _ (program g ts ws ws' : List ℕ) (p a b : ℕ) {s : Result Value Fault} where
  equates : (f : Bool → Bool) → DoesIn ts ws (equating program g p a b >>= λ b. give (Boolean (f b))) s ts ws' → DoesIn ts ws (equated program g f p (unpacked a) (unpacked b)) s ts ws'
  unfolding equated equating ◌>>=◌
  equates f h = record { equal = h.equal ∙ sym (answered_by program g p (raw ts ws) f (equality program (raw ts ws) (unpacked a) (unpacked b))) }

  pub tells : DoesIn ts ws (equating program g p a b >>= λ b. give (Boolean b)) s ts ws' → DoesIn ts ws (operate_on program g 24 p (unpacked a) (unpacked b)) s ts ws'
  unfolding operate_on if◌then◌otherwise◌
  tells h = equates (λ b. b) h

  pub denies : DoesIn ts ws (equating program g p a b >>= λ b. give (Boolean (not b))) s ts ws' → DoesIn ts ws (operate_on program g 25 p (unpacked a) (unpacked b)) s ts ws'
  unfolding operate_on if◌then◌otherwise◌
  denies h = equates not h
