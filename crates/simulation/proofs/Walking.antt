-- Walks over all that a group holds, whatever is done with a component.
use Prim.Native.Nat.{ℕ, zero, suc, ◌+◌, ◌≤◌, ◌<◌}
use native.Mathlib.Omega.{arith}
use native.Mathlib.Nat.{le_trans, le_of_lt}
use native.Mathlib.Numerals.{add-one}
use mathlib.Core.Path.{◌≡◌, refl, ap, sym, ◌∙◌}
use mathlib.Core.Logic.{◌≢◌}
use mathlib.Core.Bool.{Bool, true, false}
use mathlib.Core.List.{List, [], ◌++◌}
use lib.ListN.{get_or, set}
use Rattle.meaning.specs.Basics.{if◌then◌otherwise◌}
use Rattle.meaning.specs.Token.{Token}
use Rattle.meaning.specs.State.{State, is_destroyed}
use Rattle.meaning.specs.Run as Run
use Rattle.meaning.specs.Book.{Amounts}
use Rattle.meaning.specs.Group.{each}
use Rattle.machine.specs.Layout.{
  steps_used,
  shapes_used,
  entries_used,
  text_used,
  tables_made,
  declared,
  arguments_held,
  calls_used,
  running,
  entries_made,
  components_made,
  waiting_held,
  loop_unit,
  lines_length,
  shapes_granted,
  fixed_words,
  shape_place,
  entry_place,
  first_call,
  frame,
}
use Rattle.machine.specs.Act.{Raw, raw, Act}
use Rattle.machine.specs.Act as Act
use Rattle.machine.specs.Shapes.{is_group_at, destroyed_at}
use Rattle.machine.specs.Groups.{component_at, first_at, count_at, way_word, way_place, each_from, walk_in}
use Rattle.simulation.specs.Meant.{listed, components_of}
use Rattle.simulation.specs.Follows.{Related, Later, Follows}
use Rattle.simulation.proofs.Binding.{bind, give_after, act_after}
use Rattle.simulation.proofs.Listed.{listed_same}
use Rattle.simulation.proofs.Frames.{group_stays, stays_words, SameRest, untouched_components, untouched_words, same_words, same_waiting, component_later, components_later}
use Rattle.simulation.proofs.Results.{mapped, given, Untouched, After, unmoved, onward, kept_related}
use Rattle.simulation.proofs.Counting.{lent_set, other}
use Rattle.simulation.proofs.Usable.{destroyed_found}

-- ---- a word that stands for nothing: of a walk's way, of new components that wait, or one of their two counters
pub record Spare (g : List ℕ) (i : ℕ) : Type 0 where
  pub low : (j : ℕ) → j < fixed_words → j ≢ waiting_held → j ≢ lines_length → j ≢ i
  pub shapes : (k j : ℕ) → j < 3 → shape_place k + j ≢ i
  pub high : (j : ℕ) → entry_place g 0 ≤ j → j ≢ i

pub spare_way : {g : List ℕ} (d j : ℕ) → d < shapes_granted g → 3 ≤ j → j < 5 → Spare g (shape_place d + j)
spare_way d j l x y = record { low = λ i a b c e. omega arith; shapes = λ k i a e. omega arith; high = λ i a e. omega arith }

pub spare_waiting : {g : List ℕ} → Spare g waiting_held
spare_waiting = record { low = λ i a b c e. b e; shapes = λ k i a e. omega arith; high = λ i a e. omega arith }

pub spare_lines : {g : List ℕ} → Spare g lines_length
spare_lines = record { low = λ i a b c e. c e; shapes = λ k i a e. omega arith; high = λ i a e. omega arith }

module _ {program : List ℕ} {ts : List Token} {g : List ℕ} {r : Raw} {s : State} {total : Amounts} (h : Related program ts g r s total) (i x : ℕ) (sp : Spare g i) where
  abbrev next : Raw
  next = raw r.texts (set r.words i x)

  low : (j : ℕ) → j < fixed_words → j ≢ waiting_held → j ≢ lines_length → get_or next.words j 0 ≡ get_or r.words j 0
  low j l m n = other h i x j (sp.low j l m n)

  counter : (j : ℕ) → j < waiting_held → get_or next.words j 0 ≡ get_or r.words j 0
  counter j l = low j (omega arith) (λ e. omega arith) (λ e. omega arith)

  front : (j : ℕ) → first_call ≤ j → j < fixed_words → get_or next.words j 0 ≡ get_or r.words j 0
  front j l m = low j m (λ e. omega arith) (λ e. omega arith)

  high : (j : ℕ) → entry_place g 0 ≤ j → get_or next.words j 0 ≡ get_or r.words j 0
  high j l = other h i x j (sp.high j l)

  spare_later : Later program r next
  spare_later = record {
    steps = omega (arith, counter steps_used (omega arith));
    shapes = omega (arith, counter shapes_used (omega arith));
    text = omega (arith, counter text_used (omega arith));
    tables = omega (arith, counter tables_made (omega arith));
    texts = λ t v. refl;
    figures = λ k l. stays_words r.words next.words k (λ j m. other h i x _ (sp.shapes k j m));
  }

  spare_rest : SameRest g r next
  spare_rest = record {
    parts = counter components_made (omega arith);
    unit = low loop_unit (omega arith) (λ e. omega arith) (λ e. omega arith);
    calls = counter calls_used (omega arith);
    high = λ j l. high j (omega arith);
  }

  frame_was : get_or next.words frame 0 ≡ get_or r.words frame 0
  frame_was = low frame (omega arith) (λ e. omega arith) (λ e. omega arith)

  spare_untouched : Untouched program ts g r next
  spare_untouched =
      untouched_words spare_rest (counter running (omega arith)) frame_was (λ j a b. front j a (omega arith)) (λ k l. front _ (omega arith) (omega arith)) h.sound.variables

  pub spare_after : After program ts g r (raw r.texts (set r.words i x)) s total
  spare_after = let c = h.sound.counted in record {
    related = kept_related h spare_later (lent_set i x h.sound.lent)
        (record {
          steps = rw (counter steps_used (omega arith)) c.steps;
          shapes = rw (counter shapes_used (omega arith)) c.shapes;
          entries = rw (counter entries_used (omega arith)) c.entries;
          made = rw (counter entries_made (omega arith), counter components_made (omega arith), counter entries_used (omega arith)) c.made;
          text = rw (counter text_used (omega arith)) c.text;
          tables = rw (counter tables_made (omega arith), counter steps_used (omega arith)) c.tables;
          arguments = rw (counter arguments_held (omega arith)) c.arguments;
          calls = rw (counter calls_used (omega arith)) c.calls;
        })
        spare_rest
        (same_words (counter declared (omega arith)) (counter running (omega arith)) frame_was (omega (arith, counter arguments_held (omega arith)))
        (λ k l. front _ (omega arith) (omega arith)) h.sound.variables)
        (same_waiting spare_later spare_untouched h.sound.waiting)
        (record { count = counter shapes_used (omega arith); words = λ k j a b. other h i x _ (sp.shapes k j b) })
        (record {
          count = counter entries_made (omega arith);
          firsts = λ k a. high _ (omega arith);
          keys = λ k a. high _ (omega arith);
          values = λ k a. high _ (omega arith);
          heads = λ b a. high _ (omega arith);
        })
        refl refl refl (h.tables ∙ sym (counter tables_made (omega arith))) refl
        (h.steps_taken ∙ sym (counter steps_used (omega arith))) (h.shapes_taken ∙ sym (counter shapes_used (omega arith)))
        (h.entries_taken ∙ sym (counter entries_used (omega arith))) (h.text_taken ∙ sym (counter text_used (omega arith))) (h.calls_taken ∙ sym (counter calls_used (omega arith)));
    later = spare_later;
    spare = omega (arith, counter steps_used (omega arith), counter tables_made (omega arith));
    held = counter arguments_held (omega arith);
    untouched = spare_untouched;
  }

-- ---- what walking leaves from r on: xs came of it, as the slices tell (Acc); the way above depth d is as it was
pub record Reached (program : List ℕ) (ts : List Token) (g : List ℕ) {A : Type 0} (Acc : Raw → List A → Raw
    → Type 0) (d : ℕ) (r : Raw) (xs : List A) (r' : Raw) (s : State) (total : Amounts) : Type 0 where
  pub after : After program ts g r r' s total
  pub ways : (e : ℕ) → e < d → e < shapes_granted g → get_or r'.words (way_place e) 0 ≡ get_or r.words (way_place e) 0
  pub acc : Acc r xs r'

-- what the slices tell is told step by step, and something is kept
pub record Gathers {A : Type 0} (Acc : Raw → List A → Raw → Type 0) (Keep : Raw → Type 0) : Type 0 where
  pub nil : (r : Raw) → Acc r [] r
  pub more : {r r₁ r₂ : Raw} {xs ys : List A} → Acc r xs r₁ → Acc r₁ ys r₂ → Acc r (xs ++ ys) r₂
  pub keep : {r r₁ : Raw} {xs : List A} → Acc r xs r₁ → Keep r → Keep r₁

module _ (program : List ℕ) (ts : List Token) (g : List ℕ) (granted : Amounts) {A : Type 0} (Acc : Raw → List A → Raw → Type 0) (Keep : Raw → Type 0)
    (gathers : Gathers Acc Keep) where
  abbrev Here : Raw → State → Amounts → Type 0
  Here r s total = Related program ts g r s total

  abbrev Leads : ℕ → Raw → Unit {0} → List A → Raw → State → Amounts → Type 0
  Leads d r a xs r' s total = Reached program ts g Acc d r xs r' s total

  reached_on : {d : ℕ} {r r₁ r₂ : Raw} {xs ys : List A} {s₁ s₂ : State} {total₁ total₂ : Amounts} → Reached program ts g Acc d r xs r₁ s₁ total₁
      → Reached program ts g Acc d r₁ ys r₂ s₂ total₂ → Reached program ts g Acc d r (xs ++ ys) r₂ s₂ total₂
  reached_on a b = record { after = onward a.after b.after; ways = λ e l m. b.ways e l m ∙ a.ways e l m; acc = gathers.more a.acc b.acc }

  -- ---- components one after the other
  -- what is done with one that is older than i
  pub record Visits (d i : ℕ) (visit : ℕ → ℕ → ℕ → Act (Unit {0})) (visit' : ℕ → Run.Action (List A)) : Type 0 where
    pub does : (j m c : ℕ) (r : Raw) (s : State) (total : Amounts) → Here r s total → Keep r → c < i → i ≤ get_or r.words shapes_used 0
        → Follows granted total (Leads d r) (visit j m c r) (visit' c s)

  module _ (d i : ℕ) (visit : ℕ → ℕ → ℕ → Act (Unit {0})) (visit' : ℕ → Run.Action (List A)) (visits : Visits d i visit visit') where
    each_follows : (n k : ℕ) {r : Raw} {s : State} {total : Amounts} → Here r s total → Keep r → i ≤ get_or r.words shapes_used 0
        → k + n ≤ get_or r.words components_made 0 → ((j : ℕ) → k ≤ j → j < k + n → component_at g r.words j < i)
        → Follows granted total (Leads d r) (each_from visit g k n r) (each visit' (listed (component_at g r.words) k n) s)
    unfolding if◌then◌otherwise◌ each_from each listed Act.◌>>=◌ Act.go_on Act.held Act.give Run.◌>>=◌ Run.go_on Run.current Run.give
    each_follows zero k {r} h w l f o = given (record { after = unmoved h; ways = λ e x y. refl; acc = gathers.nil r })
    each_follows (suc n) k {r} {s} {total} h w l f o =
        let c = component_at g r.words k in
        bind (one (destroyed_at r.words c) (is_destroyed s c) (sym (destroyed_found h c (le_trans (o k (omega arith) (omega arith)) l))))
        (λ _ xs r₁ s₁ total₁ a.
        let u = untouched_components a.after.untouched in
        let list : listed (component_at g r₁.words) (k + 1) n ≡ listed (component_at g r.words) (suc k) n =
        ap (λ j. listed (component_at g r₁.words) j n) (add-one k) ∙ listed_same _ _ (suc k) n (λ j x y. component_later a.after.later h.sound.shapes u j (omega arith)) in
        give_after (λ ys. xs ++ ys) (λ _ ys r₂ s₂ total₂ b. reached_on a b)
        (rw list at (each_follows n (k + 1) a.after.related (gathers.keep a.acc w) (le_trans l a.after.later.shapes) (le_trans (omega arith) u.made)
        (λ j x y. rw (component_later a.after.later h.sound.shapes u j (omega arith)) (o j (omega arith) (omega arith))))))
      where
        one : (b b' : Bool) → b ≡ b'
            → Follows granted total (Leads d r) ((if b then (λ _. Act.give tt) otherwise λ _. visit k n (component_at g r.words k)) r)
            ((if b' then (λ _. Run.give []) otherwise λ _. visit' (component_at g r.words k)) s)
        one true true e = given (record { after = unmoved h; ways = λ e x y. refl; acc = gathers.nil r })
        one true false e = let z : ◌≡◌ {A = ℕ} 0 1 = cc in absurd (omega arith)
        one false true e = let z : ◌≡◌ {A = ℕ} 0 1 = cc in absurd (omega arith)
        one false false e = visits.does k n (component_at g r.words k) r s total h w (o k (omega arith) (omega arith)) l

  -- ---- a walk: reach is done with a component, and leave with a group when all in it was reached; the meaning goes b deep
  pub record Walks (reach leave : ℕ → Act (Unit {0})) (visit' : ℕ → ℕ → Run.Action (List A)) (enter' : ℕ → Run.Action (Unit {0})) (leave' : List A → Run.Action (List A)) : Type 0 where
    pub atoms : (b c d : ℕ) {r : Raw} {s : State} {total : Amounts} → Here r s total → Keep r → c < get_or r.words shapes_used 0 → is_group_at r.words c ≡ false
        → Follows granted total (Leads d r) (reach c r) (visit' (suc b) c s)
    pub splits : (b c : ℕ) {r : Raw} {s : State} {total : Amounts} → Here r s total → c < get_or r.words shapes_used 0 → is_group_at r.words c ≡ true
        → visit' (suc b) c s ≡ Run.◌>>◌ (enter' c) (Run.◌>>=◌ (each (visit' b) (components_of g r.words c)) leave') s
    pub enters : (c d : ℕ) {r : Raw} {s : State} {total : Amounts} → Here r s total → Keep r → c < get_or r.words shapes_used 0 → is_group_at r.words c ≡ true
        → Follows granted total (λ _ _ r' s' total'. Reached program ts g Acc d r [] r' s' total') (reach c r) (enter' c s)
    pub leaves : (d k n : ℕ) {r r₂ : Raw} {s s₂ : State} {total total₂ : Amounts} {xs : List A} → Here r s total → Keep r → d < shapes_granted g
        → Reached program ts g Acc (d + 1) (raw r.texts (set r.words (way_place d) (way_word k n (get_or r.words waiting_held 0)))) xs r₂ s₂ total₂
        → Follows granted total₂ (Leads d r) (leave d r₂) (leave' xs s₂)
    -- the way's words tell nothing
    pub aside : (d w : ℕ) {r : Raw} → Keep r → Keep (raw r.texts (set r.words (way_place d) w))

  module _ (reach leave : ℕ → Act (Unit {0})) (visit' : ℕ → ℕ → Run.Action (List A)) (enter' : ℕ → Run.Action (Unit {0})) (leave' : List A → Run.Action (List A))
      (walks : Walks reach leave visit' enter' leave') where
    abbrev inner : ℕ → ℕ → ℕ → ℕ → ℕ → Act (Unit {0})
    inner b d k n c = Act.◌>>◌ (reach c) (Act.◌>>=◌ Act.held (λ ws'. if is_group_at ws' c then (λ _.
        Act.◌>>=◌ (Act.load waiting_held) (λ m. Act.◌>>◌ (Act.store (way_place d) (way_word k n m)) (Act.◌>>◌ (walk_in reach leave b g (d + 1) c) (leave d)))) otherwise λ _. Act.give tt))

    -- a group further down
    abbrev Deeper : ℕ → ℕ → ℕ → ℕ → Type 0
    Deeper b b' d i = (c : ℕ) → c < i → (r : Raw) (s : State) (total : Amounts) → Here r s total → Keep r → c < get_or r.words shapes_used 0 → is_group_at r.words c ≡ true
        → Follows granted total (Leads (d + 1) r) (walk_in reach leave b g (d + 1) c r) (each (visit' b') (components_of g r.words c) s)

    at_atom : (b b' d k n c : ℕ) {r : Raw} {s : State} {total : Amounts} → Here r s total → Keep r → c < get_or r.words shapes_used 0 → is_group_at r.words c ≡ false
        → Follows granted total (Leads d r) (inner b d k n c r) (visit' (suc b') c s)
    unfolding Act.◌>>=◌ Act.go_on Act.held Act.give if◌then◌otherwise◌
    at_atom b b' d k n c {r} h w l e =
        act_after {R = Leads d r} _ (λ a xs r' s' total' q. record { result = tt; slices = r'; is = rw (group_stays (q.after.later.figures c l) ∙ e); holds = q }) (walks.atoms b' c d h w l e)

    in_group : (b b' d k n c : ℕ) → d < shapes_granted g → {r : Raw} {s : State} {total : Amounts} → Here r s total → Keep r → c < get_or r.words shapes_used 0
        → is_group_at r.words c ≡ true
        → ((r : Raw) (s : State) (total : Amounts) → Here r s total → Keep r → c < get_or r.words shapes_used 0 → is_group_at r.words c ≡ true
        → Follows granted total (Leads (d + 1) r) (walk_in reach leave b g (d + 1) c r) (each (visit' b') (components_of g r.words c) s))
        → Follows granted total (Leads d r) (inner b d k n c r) (visit' (suc b') c s)
    unfolding Act.◌>>=◌ Act.go_on Act.held Act.give Act.load Act.store Run.◌>>=◌ if◌then◌otherwise◌
    in_group b b' d k n c deep {r} {s} {total} h w l e again =
        rw (walks.splits b' c h l e)
        (bind (walks.enters c d h w l e) (λ _ _ r₁ s₁ total₁ q.
        let here : is_group_at r₁.words c ≡ true = group_stays (q.after.later.figures c l) ∙ e in
        let kept = gathers.keep q.acc w in
        let way = way_word k n (get_or r₁.words waiting_held 0) in
        let z = spare_after q.after.related (way_place d) way (spare_way d 3 deep (omega arith) (omega arith)) in
        let a = onward q.after z in
        let list : components_of g (set r₁.words (way_place d) way) c ≡ components_of g r.words c =
        components_later a.later h.sound.shapes (untouched_components a.untouched) c l e in
        rw here
        (bind (rw list at (again _ s₁ total₁ z.related (walks.aside d way kept) (le_trans l a.later.shapes) (group_stays (a.later.figures c l) ∙ e)))
        (λ _ xs r₂ s₂ total₂ x. mapped (λ _ ys r₃ s₃ total₃ y. reached_on q y) (walks.leaves d k n q.after.related kept deep x)))))

    visited : (b b' d i : ℕ) → d < shapes_granted g → Deeper b b' d i → Visits d i (inner b d) (visit' (suc b'))
    visited b b' d i deep again = record { does = λ k n c r s total h w o l. by k n c h w o (le_trans o l) (is_group_at r.words c) refl }
      where
        by : (k n c : ℕ) {r : Raw} {s : State} {total : Amounts} → Here r s total → Keep r → c < i → c < get_or r.words shapes_used 0 → (t : Bool) → is_group_at r.words c ≡ t
            → Follows granted total (Leads d r) (inner b d k n c r) (visit' (suc b') c s)
        by k n c h w o l true e = in_group b b' d k n c deep h w l e (again c o)
        by k n c h w o l false e = at_atom b b' d k n c h w l e

    pub walk_follows : (b b' d i : ℕ) → suc b + d ≤ shapes_granted g → i ≤ b → i ≤ b' → (r : Raw) (s : State) (total : Amounts) → Here r s total → Keep r
        → i < get_or r.words shapes_used 0 → is_group_at r.words i ≡ true
        → Follows granted total (Leads d r) (walk_in reach leave (suc b) g d i r) (each (visit' b') (components_of g r.words i) s)
    unfolding walk_in Act.◌>>=◌ Act.go_on Act.held components_of
    walk_follows zero b' d i room lb lb' r s total h w l e =
        let a = h.sound.shapes.groups i l e in
        each_follows d i (inner zero d) (visit' b') (record { does = λ k n c r s total x y o z. absurd (omega arith) })
        (count_at r.words i) (first_at r.words i) h w (le_of_lt l) a.within a.older
    walk_follows (suc b) zero d i room lb lb' r s total h w l e =
        let a = h.sound.shapes.groups i l e in
        each_follows d i (inner (suc b) d) (visit' zero) (record { does = λ k n c r s total x y o z. absurd (omega arith) })
        (count_at r.words i) (first_at r.words i) h w (le_of_lt l) a.within a.older
    walk_follows (suc b) (suc b') d i room lb lb' r s total h w l e =
        let a = h.sound.shapes.groups i l e in
        each_follows d i (inner (suc b) d) (visit' (suc b')) (visited (suc b) b' d i (omega arith) (λ c o. walk_follows b b' (d + 1) c (omega arith) (omega arith) (omega arith)))
        (count_at r.words i) (first_at r.words i) h w (le_of_lt l) a.within a.older
