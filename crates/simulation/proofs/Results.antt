-- The results that belong together, and the smallest acts.
use Prim.Native.Nat.{ℕ, ◌+◌, ◌≤◌}
use native.Mathlib.Nat.{le_refl}
use native.Mathlib.Omega.{arith}
use mathlib.Core.Path.{◌≡◌, refl, sym, ◌∙◌}
use mathlib.Core.Bool.{Bool, true, false}
use mathlib.Core.List.{List, [], ◌∷◌}
use lib.ListN.{get_or, set}
use lib.Dec.{leb}
use borrow.Author.Tests.{leb-true}
use Rattle.meaning.specs.Basics.{if◌then◌otherwise◌}
use Rattle.meaning.specs.Token.{Token}
use Rattle.meaning.specs.Value as Value
use Rattle.meaning.specs.State.{State}
use Rattle.meaning.specs.Run.{Resource, Taking, Event, taken, gave_back, End, result, error, Run, run}
use Rattle.meaning.specs.Run as Run
use Rattle.meaning.specs.Book.{Amounts, added, lowered, fits, book, shortage_of}
use Rattle.machine.specs.declared.Value.{Value}
use Rattle.machine.specs.Layout.{steps_used, shapes_used, entries_used, text_used, tables_made, calls_used, Lent}
use Rattle.machine.specs.Act.{Raw, raw, Out, done, stop}
use Rattle.machine.specs.Act as Act
use Rattle.simulation.specs.Sound.{Counted, Marks}
use Rattle.simulation.specs.Follows.{Related, Later, Together, gives, lacks, fails, Follows}
pub use Rattle.simulation.specs.After.{Untouched, After, AfterValue}
use Rattle.simulation.proofs.Binding.{Relation, bind}
use Rattle.simulation.proofs.Frames.{
  later_refl,
  later_trans,
  untouched_refl,
  untouched_trans,
  valid_later,
  meant_later,
  SameVariables,
  variables_kept,
  variables_same,
  SameComponents,
  SameWaiting,
  SameRest,
  rest_components,
  rest_marks,
  SameShapes,
  shapes_kept,
  shapes_same,
}
use Rattle.simulation.proofs.Holding.{SameEntries, entries_kept, entries_same}

-- ---- outcomes
-- a weaker relation
weaker : {granted total : Amounts} {A B : Type 0} {R P : Relation A B} {o : Out A} {us : List Event} {e : End B}
    → ((a : A) (b : B) (r : Raw) (s : State) (total' : Amounts) → R a b r s total' → P a b r s total')
    → Together granted total R o us e → Together granted total P o us e
weaker f (gives total' b h) = gives total' b (f _ _ _ _ total' h)
weaker f (lacks t total' b n p h) = lacks t total' b n p h
weaker f (fails total' b h) = fails total' b h

pub mapped : {granted total : Amounts} {A B : Type 0} {R P : Relation A B} {o : Out A} {m : Run B}
    → ((a : A) (b : B) (r : Raw) (s : State) (total' : Amounts) → R a b r s total' → P a b r s total')
    → Follows granted total R o m → Follows granted total P o m
mapped f h = record { is = weaker f h.is }

module _ {granted total : Amounts} {A B : Type 0} {R : Relation A B} where
  pub given : {a : A} {b : B} {r : Raw} {s : State} → R a b r s total → Follows granted total R (done a r) (run [] (result b s))
  unfolding book
  given h = record { is = gives total refl h }

  pub failed : (n p : ℕ) (r : Raw) → get_or r.words steps_used 0 ≡ total Run.steps → Follows granted total R (stop n p r) (run [] (error n p))
  unfolding book
  failed n p r h = record { is = fails total refl h }

  -- a call is given back
  pub gave_back_lem : {a : A} {b : B} {r : Raw} {s : State} → R a b r s (lowered total) → Follows granted total R (done a r) (run (gave_back ∷ []) (result b s))
  unfolding book
  gave_back_lem h = record { is = gives {us = gave_back ∷ []} (lowered total) refl h }

-- exactly these slices, state and totals
pub data Exactly (r : Raw) (s : State) (total : Amounts) : Raw → State → Amounts → Type 0 where
  exactly : Exactly r s total r s total

pub at_exactly : {granted : Amounts} {A B : Type 0} {P : Relation A B} (k : Act.Act A) (k' : Run.Action B) {r₁ r₂ : Raw} {s₁ s₂ : State} {total₁ total₂ : Amounts}
    → Exactly r₁ s₁ total₁ r₂ s₂ total₂ → Follows granted total₁ P (k r₁) (k' s₁) → Follows granted total₂ P (k r₂) (k' s₂)
at_exactly k k' exactly h = h

pub refused_at : {granted total : Amounts} {r : Raw} {s : State} → get_or r.words steps_used 0 ≡ total Run.steps → (b b' : Bool) → b ≡ b' → (n p : ℕ)
    → Follows granted total (λ _ _ r' s' total'. Exactly r s total r' s' total') (Act.refuse b n p r) (Run.refuse b' n p s)
unfolding Act.refuse Run.refuse Act.fail Run.fail Act.give Run.give
refused_at {r = r} h true true e n p = failed n p r h
refused_at h true false e n p = let z : ◌≡◌ {A = ℕ} 0 1 = cc in absurd (omega arith)
refused_at h false true e n p = let z : ◌≡◌ {A = ℕ} 0 1 = cc in absurd (omega arith)
refused_at h false false e n p = given exactly

-- ---- results from slices r on
module _ (program : List ℕ) (ts : List Token) (g : List ℕ) where
  abbrev pub Units : Raw → Relation (Unit {0}) (Unit {0})
  Units r a b r' s total = After program ts g r r' s total

  abbrev pub Values : Raw → Relation Value Value.Value
  Values r v u r' s total = AfterValue program ts g r v u r' s total

module _ {program : List ℕ} {ts : List Token} {g : List ℕ} where
  pub unmoved : {r : Raw} {s : State} {total : Amounts} → Related program ts g r s total → After program ts g r r s total
  unmoved {r} h = record { related = h; later = later_refl program r; spare = le_refl _; held = refl; untouched = untouched_refl program ts g r }

  pub onward : {r r' r'' : Raw} {s s' : State} {total total' : Amounts} → After program ts g r r' s total → After program ts g r' r'' s' total'
      → After program ts g r r'' s' total'
  onward a b = record {
    related = b.related;
    later = later_trans a.later b.later;
    spare = omega (arith, a.spare, b.spare);
    held = b.held ∙ a.held;
    untouched = untouched_trans (rw a.held (le_refl _)) a.untouched b.untouched;
  }

  -- a value that was held before
  pub still : {r r₁ r₂ : Raw} {v : Value} {u : Value.Value} {s s' : State} {total total' : Amounts}
      → AfterValue program ts g r v u r₁ s total → After program ts g r₁ r₂ s' total' → AfterValue program ts g r v u r₂ s' total'
  still {v = v} a b = record {
    after = onward a.after b;
    valid = valid_later b.later v a.valid;
    means = a.means ∙ sym (meant_later b.later v a.valid);
  }

  pub from_here : {r r₁ : Raw} {s₁ : State} {total₁ granted : Amounts} {o : Out Value} {m : Run Value.Value}
      → After program ts g r r₁ s₁ total₁ → Follows granted total₁ (Values program ts g r₁) o m → Follows granted total₁ (Values program ts g r) o m
  from_here a h = mapped (λ v u r' s' total' w. record { after = onward a w.after; valid = w.valid; means = w.means }) h

  pub steps_told : {r : Raw} {s : State} {total : Amounts} → Related program ts g r s total → get_or r.words steps_used 0 ≡ total Run.steps
  steps_told h = sym h.steps_taken

  -- a refusal
  pub refused : {granted : Amounts} {r : Raw} {s : State} {total : Amounts} → Related program ts g r s total → (b b' : Bool) → b ≡ b' → (n p : ℕ)
      → Follows granted total (Units program ts g r) (Act.refuse b n p r) (Run.refuse b' n p s)
  refused h b b' e n p = mapped (λ _ _ r' s' total' x. stays h x) (refused_at (steps_told h) b b' e n p)
    where
      stays : {r r' : Raw} {s s' : State} {total total' : Amounts} → Related program ts g r s total → Exactly r s total r' s' total' → After program ts g r r' s' total'
      stays h exactly = unmoved h

  -- nothing but counters, arguments, texts and marks has changed
  pub kept_marks : {r r' : Raw} {s s' : State} {total total' : Amounts} (h : Related program ts g r s total) (l : Later program r r')
      → Lent g r'.texts r'.words → Counted g r'.words
      → SameComponents g r r' → Marks g r'.words → SameVariables program ts r r' → SameWaiting program ts r r' → SameShapes l → SameEntries l h.sound.shapes
      → s'.variables ≡ s.variables → s'.suspended ≡ s.suspended → s'.shapes ≡ s.shapes → s'.tables ≡ get_or r'.words tables_made 0 → s'.entries ≡ s.entries
      → total' Run.steps ≡ get_or r'.words steps_used 0 → total' Run.shapes ≡ get_or r'.words shapes_used 0
      → total' Run.entries ≡ get_or r'.words entries_used 0 → total' Run.text_bytes ≡ get_or r'.words text_used 0 → total' Run.calls ≡ get_or r'.words calls_used 0
      → Related program ts g r' s' total'
  kept_marks h l le co parts ma sv sw ss se a k b c d w x y z v = record {
    sound = record {
      lent = le;
      counted = co;
      variables = variables_kept l sv h.sound.variables;
      waiting = sw.waiting;
      shapes = shapes_kept l parts ss h.sound.shapes;
      marks = ma;
      entries = entries_kept l h.sound.shapes parts se h.sound.entries;
    };
    variables = a ∙ h.variables ∙ sym (variables_same l sv h.sound.variables);
    suspended = k ∙ h.suspended ∙ sym sw.suspended;
    shapes = b ∙ h.shapes ∙ sym (shapes_same l parts ss h.sound.shapes);
    tables = c;
    entries = d ∙ h.entries ∙ sym (entries_same l h.sound.shapes parts se h.sound.entries);
    steps_taken = w;
    shapes_taken = x;
    entries_taken = y;
    text_taken = z;
    calls_taken = v;
  }

  -- nor the marks
  pub kept_related : {r r' : Raw} {s s' : State} {total total' : Amounts} (h : Related program ts g r s total) (l : Later program r r')
      → Lent g r'.texts r'.words → Counted g r'.words
      → SameRest g r r' → SameVariables program ts r r' → SameWaiting program ts r r' → SameShapes l → SameEntries l h.sound.shapes
      → s'.variables ≡ s.variables → s'.suspended ≡ s.suspended → s'.shapes ≡ s.shapes → s'.tables ≡ get_or r'.words tables_made 0 → s'.entries ≡ s.entries
      → total' Run.steps ≡ get_or r'.words steps_used 0 → total' Run.shapes ≡ get_or r'.words shapes_used 0
      → total' Run.entries ≡ get_or r'.words entries_used 0 → total' Run.text_bytes ≡ get_or r'.words text_used 0 → total' Run.calls ≡ get_or r'.words calls_used 0
      → Related program ts g r' s' total'
  kept_related h l le co re = kept_marks h l le co (rest_components re) (rest_marks re h.sound.marks)

-- ---- what is spent
abbrev pub due : Resource → ℕ → ℕ → Taking
due r n p = record { of = r; amount = n; place = p }

module _ {granted total : Amounts} (resource : Resource) (counter limit amount number p : ℕ) (r : Raw) (s : State)
    (before : total resource ≡ get_or r.words counter 0) (grant : granted resource ≡ limit) (name : shortage_of resource ≡ number)
    (told : get_or r.words steps_used 0 ≡ total Run.steps) {R : Relation (Unit {0}) (Unit {0})} where
  pub spent : (get_or r.words counter steps_used + amount ≤ limit
      → R tt tt (raw r.texts (set r.words counter (get_or r.words counter steps_used + amount))) s (added total (due resource amount p)))
      → Follows granted total R (Act.spend counter limit amount number p r) (Run.spend resource amount p s)
  unfolding Act.spend Run.spend if◌then◌otherwise◌ book fits
  spent f = go (leb (get_or r.words counter steps_used + amount) limit) refl
    where
      same : leb (total resource + amount) (granted resource) ≡ leb (get_or r.words counter steps_used + amount) limit
      same = rw (before, grant)

      go : (b : Bool) → leb (get_or r.words counter steps_used + amount) limit ≡ b
          → Follows granted total R
          (if b then (λ _. done tt (raw r.texts (set r.words counter (get_or r.words counter steps_used + amount)))) otherwise λ _. stop number p r)
          (Run.spend resource amount p s)
      go true e = record { is = gives {us = taken (due resource amount p) ∷ []} (added total (due resource amount p)) (rw (same, e)) (f (leb-true _ _ e)) }
      go false e = record { is = lacks {us = taken (due resource amount p) ∷ []} (due resource amount p) total (rw (same, e)) name refl told }

module _ {granted total : Amounts} (resource : Resource) (counter limit amount number p : ℕ) (r : Raw) (s : State)
    (before : total resource ≡ get_or r.words counter 0) (grant : granted resource ≡ limit) (name : shortage_of resource ≡ number)
    (told : get_or r.words steps_used 0 ≡ total Run.steps) {A B : Type 0} {P : Relation A B} (k : Act.Act A) (k' : Run.Action B) where
  -- what follows a payment
  pub spent_then : (get_or r.words counter steps_used + amount ≤ limit
      → Follows granted (added total (due resource amount p)) P (k (raw r.texts (set r.words counter (get_or r.words counter steps_used + amount)))) (k' s))
      → Follows granted total P (Act.◌>>◌ (Act.spend counter limit amount number p) k r) (Run.◌>>◌ (Run.spend resource amount p) k' s)
  unfolding Act.◌>>=◌ Run.◌>>=◌
  spent_then f =
      bind (spent resource counter limit amount number p r s before grant name told
      {R = λ _ _ r' s' total'. (get_or r.words counter steps_used + amount ≤ limit)
      × Exactly (raw r.texts (set r.words counter (get_or r.words counter steps_used + amount))) s (added total (due resource amount p)) r' s' total'}
      (λ fit. (fit, exactly)))
      (λ _ _ r' s' total' w. at_exactly k k' w.1 (f w.0))
