-- An operator on any two values, by their words.
use Prim.Native.Nat.{ℕ, ◌%◌, ◌^◌, ◌<◌}
use mathlib.Core.Path.{◌≡◌, ◌∙◌, refl, sym}
use mathlib.Core.Bool.{Bool, true, false}
use mathlib.Core.List.{List}
use borrow.Author.Tests.{ne_eqb}
use lib.Dec.{eqb}
use lib.IntN.{ℤ}
use lib.Signed.{mag}
use mir.Syntax.{w32}
use mir.Val.{to_z}
use Rattle.meaning.specs.Basics.{if◌then◌otherwise◌}
use Rattle.machine.specs.declared.Value.TheVariants.{Integer, Shape}
use Rattle.std.specs.Prelude.{Result, Err}
use Rattle.machine.specs.declared.Value.{Value}
use Rattle.machine.specs.declared.Fault.{Fault}
use Rattle.machine.specs.declared.Fault.TheVariants.{Misuse}
use Rattle.machine.proofs.Acts.{in_both}
use Rattle.machine.specs.Words.{kind_in, number_in, handle_in, unpacked}
use Rattle.values.proofs.Laws.{unpacked_integer, unpacked_text, unpacked_shape, by_kind}
use Rattle.machine.specs.declared.Figure.{Figure}
use Rattle.machine.specs.Act.{Raw, raw, stop, go_on, ◌>>=◌, give, fail, refuse, out_of, DoesIn}
use Rattle.machine.specs.Texts.{join_texts}
use Rattle.machine.specs.Variables.{is_dead, usable}
use Rattle.machine.specs.Operate.{with_integer, with_text, calculated, compared, remaindered, joined, operate_on, operate}
use Rattle.operators.specs.Parts.{Computes, Draws, Other, Calculates, both_integers, NotBoth, Mixes, Operates}
use Rattle.values.proofs.Held.{held, back, either, past}
use Rattle.operators.proofs.KindLaws.{no_integer, no_text, left_is, right_is, not_both}

-- ---- texts
module _ (program g ts ws : List ℕ) (p a b : ℕ) where
  pub join_left : (a % 8 ≡ 2 → ⊥) → DoesIn ts ws (joined program g p (unpacked a) (unpacked b)) (Err (Misuse p)) ts ws
  unfolding joined out_of
  join_left h = record { equal = sym (no_text p a _ _ h) }

  pub join_right : a % 8 ≡ 2 → (b % 8 ≡ 2 → ⊥) → DoesIn ts ws (joined program g p (unpacked a) (unpacked b)) (Err (Misuse p)) ts ws
  unfolding joined with_text out_of
  join_right e h = record { equal = sym (rw (unpacked_text a e) (no_text p b _ _ h)) }

  pub joins : {x y : ℕ} {r : Result Value Fault} {ts' ws' : List ℕ} → a % 8 ≡ 2 → b % 8 ≡ 2 → x ≡ handle_in a → y ≡ handle_in b
      → DoesIn ts ws (join_texts program g p x y) r ts' ws' → DoesIn ts ws (joined program g p (unpacked a) (unpacked b)) r ts' ws'
  unfolding joined with_text
  joins e f x y h = record { equal = h.equal ∙ rw (x, y, unpacked_text a e, unpacked_text b f) }

-- ---- calculations
module _ (program g : List ℕ) (p a b : ℕ) (s : Raw) (o : kind_in a ≡ 6 → kind_in b ≡ 1 → ⊥) (m : NotBoth a b) where
  not_calculated : (d : Bool) (f : ℤ → ℤ → ℤ) (h : Figure → ℤ → Figure) → calculated g d f h p (unpacked a) (unpacked b) s ≡ stop 20 p s
  unfolding calculated fail
  not_calculated d f h = by_kind a (λ v. calculated g d f h p v (unpacked b) s ≡ stop 20 p s)
      (λ e. no_integer p b s _ (m e)) (λ _. refl) (λ _. refl) refl (λ _. refl) (λ e. no_integer p b s _ (o e))

  not_compared : (f : ℤ → ℤ → Bool) → compared f p (unpacked a) (unpacked b) s ≡ stop 20 p s
  unfolding compared with_integer fail
  not_compared f = by_kind a (λ v. compared f p v (unpacked b) s ≡ stop 20 p s)
      (λ e. no_integer p b s _ (m e)) (λ _. refl) (λ _. refl) refl (λ _. refl) (λ _. refl)

  not_remaindered : remaindered p (unpacked a) (unpacked b) s ≡ stop 20 p s
  unfolding remaindered with_integer fail
  not_remaindered = by_kind a (λ v. remaindered p v (unpacked b) s ≡ stop 20 p s)
      (λ e. no_integer p b s _ (m e)) (λ _. refl) (λ _. refl) refl (λ _. refl) (λ _. refl)

  not_operated : (tag : ℕ) → Other tag a b → operate_on program g tag p (unpacked a) (unpacked b) s ≡ stop 20 p s
  unfolding operate_on fail
  not_operated tag q =
      past (ne_eqb _ _ q.joins) _ _ s (either (eqb tag 17) _ _ s (not_calculated _ _ _) (either (eqb tag 18) _ _ s (not_calculated _ _ _)
      (either (eqb tag 19) _ _ s (not_calculated _ _ _) (either (eqb tag 20) _ _ s (not_calculated _ _ _) (either (eqb tag 21) _ _ s not_remaindered
      (either (eqb tag 22) _ _ s (not_calculated _ _ _) (either (eqb tag 23) _ _ s (not_calculated _ _ _) (past (ne_eqb _ _ q.equals) _ _ s
      (past (ne_eqb _ _ q.differs) _ _ s (either (eqb tag 26) _ _ s (not_compared _) (either (eqb tag 27) _ _ s (not_compared _) refl)))))))))))

module _ {g ws : List ℕ} {tag p a b : ℕ} where
  uncalculated : (kind_in a ≡ 6 → kind_in b ≡ 1 → ⊥) → Calculates g ws tag p a b (Err (Misuse p)) ws
  unfolding out_of
  uncalculated o = record { draws = λ q. record { does = λ program. record { equal = λ ts. sym (not_operated program g p a b (raw ts ws) o q.mixed tag q) } } }

  pub not_shape : (a % 8 ≡ 6 → ⊥) → Calculates g ws tag p a b (Err (Misuse p)) ws
  not_shape h = uncalculated (λ e _. h e)

  pub not_number : (b % 8 ≡ 1 → ⊥) → Calculates g ws tag p a b (Err (Misuse p)) ws
  not_number h = uncalculated (λ _ e. h e)

  pub calculates : {i : ℕ} {n : ℤ} {r : Result Value Fault} {ws' : List ℕ} → a % 8 ≡ 6 → b % 8 ≡ 1 → Draws g ws tag p (Shape i) (Integer (held n)) r ws' → i ≡ number_in a
      → n ≡ to_z w32 (number_in b) → mag n < 2 ^ 31 → Calculates g ws tag p a b r ws'
  calculates e f d i n h =
      record { draws = λ q. record { does = λ program. record { equal = λ ts. (d.does program).equal ts ∙ rw (back h, i, n, unpacked_shape a e, unpacked_integer b f) } } }

-- ---- by tag
module _ {program g ts ws : List ℕ} {tag p a b : ℕ} {r : Result Value Fault} where
  pub by_joining : {ts' ws' : List ℕ} → tag ≡ 16 → DoesIn ts ws (joined program g p (unpacked a) (unpacked b)) r ts' ws'
      → Mixes program g ts ws tag p a b r ts' ws'
  unfolding operate_on if◌then◌otherwise◌
  by_joining t h = record { does = λ _. record { equal = h.equal ∙ rw t } }

  pub by_equality : (n : ℕ) {ws' : List ℕ} → tag ≡ n → DoesIn ts ws (operate_on program g n p (unpacked a) (unpacked b)) r ts ws' → Mixes program g ts ws tag p a b r ts ws'
  by_equality n t h = record { does = λ _. rw t h }

  pub by_calculation : {ws' : List ℕ} → (tag ≡ 16 → ⊥) → (tag ≡ 24 → ⊥) → (tag ≡ 25 → ⊥) → Calculates g ws tag p a b r ws'
      → Mixes program g ts ws tag p a b r ts ws'
  by_calculation j e d h = record { does = λ m. in_both ((h.draws (record { joins = j; equals = e; differs = d; mixed = m })).does program) ts }

-- ---- both integers, or not
module _ (program g ts ws : List ℕ) (tag p a b : ℕ) {r : Result Value Fault} {c : Bool} (i : c ≡ both_integers a b) where
  pub two_integers : {x y : ℤ} → c ≡ true → Computes tag p (Integer (held x)) (Integer (held y)) r → x ≡ to_z w32 (number_in a) → mag x < 2 ^ 31
      → y ≡ to_z w32 (number_in b) → mag y < 2 ^ 31 → DoesIn ts ws (operate program g tag p (unpacked a) (unpacked b)) r ts ws
  unfolding operate usable is_dead ◌>>=◌ go_on refuse give
  two_integers {x = x'} {y = y'} h m x j y k = record {
    equal = (m.does program g ws).equal ts
        ∙ rw (back {r = x'} j, back {r = y'} k, x, y, unpacked_integer a (left_is a b (sym i ∙ h)), unpacked_integer b (right_is a b (sym i ∙ h)));
  }

  pub other_values : {ts' ws' : List ℕ} → c ≡ false → Operates program g ts ws tag p a b r ts' ws'
      → DoesIn ts ws (operate program g tag p (unpacked a) (unpacked b)) r ts' ws'
  other_values h o = o.does (not_both a b (sym i ∙ h))
