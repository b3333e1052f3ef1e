-- The library procedures, their arguments on the stack.
use Prim.Native.Nat.{ℕ, zero, suc, ◌+◌, ◌*◌, ◌/◌, ◌%◌, ◌^◌, ◌≤◌, ◌<◌}
use native.Mathlib.Omega.{arith}
use native.Mathlib.Nat.{le_refl, le_trans}
use native.Mathlib.Numerals.{add-one}
use mathlib.Core.Path.{◌≡◌, refl, ap, ap₂, sym, ◌∙◌, subst}
use mathlib.Core.Logic.{◌≢◌}
use mathlib.Core.Bool.{Bool, true, false}
use mathlib.Core.List.{List, [], ◌∷◌}
use mathlib.Core.Option.{Option, some}
use lib.ListN.{get_or}
use lib.IntN.{ℤ, pos}
use lib.Dec.{eqb, ltb}
use borrow.Author.Tests.{eqb-true, eqb-false, ne_eqb}
use Rattle.meaning.specs.Basics.{if◌then◌otherwise◌}
use Rattle.meaning.specs.Token.{Token}
use Rattle.meaning.specs.Figure.{line, ellipse, box, text}
use Rattle.meaning.specs.Figure as Meaning
use Rattle.meaning.specs.Value as Value
use Rattle.meaning.specs.State.{State, atom, group}
use Rattle.meaning.specs.Run as Run
use Rattle.meaning.specs.Book.{Amounts}
use Rattle.meaning.specs.Group as Group
use Rattle.meaning.specs.Operator as Operator
use Rattle.meaning.specs.Library.{Library, draw_line, draw_ellipse, draw_box, draw_text, connect_shapes, draw_text_on_shape, x_coordinate, y_coordinate, destroy_shape, clear_scene, draw_group}
use Rattle.meaning.specs.Library as Library
use Rattle.names.specs.Prepared.{number_of}
use Rattle.machine.specs.declared.Value.{Value}
use Rattle.machine.specs.declared.Value.TheVariants.{Integer, Text, Boolean, Nothing, Table, Shape}
use Rattle.machine.specs.Words.{packed, unpacked}
use Rattle.machine.specs.Layout.{shapes_used, arguments_held, running, frame, argument_place}
use Rattle.machine.specs.Act.{Raw}
use Rattle.machine.specs.Act as Act
use Rattle.machine.specs.Stack.{argument_at}
use Rattle.machine.specs.Texts.{text_of}
use Rattle.machine.specs.declared.Figure.{Figure}
use Rattle.machine.specs.Shapes.{figure_at}
use Rattle.machine.specs.Shapes as Shapes
use Rattle.machine.specs.Groups.{new_group}
use Rattle.machine.specs.Operate.{with_shape}
use Rattle.machine.specs.Evaluate.{Setting}
use Rattle.machine.specs.Library.{drawn, drawn_text, connected, labelled, coordinate, destroyed, clearing, all_shapes, grouped, perform, call_library}
use Rattle.machine.specs.Arguments.{all_usable, figure, centre_x, centre_y, connecting, text_on}
use Rattle.simulation.specs.Meant.{meant_value, meant_word, meant_figure, listed}
use Rattle.simulation.specs.Sound.{Valid, Proper, size_of}
use Rattle.simulation.specs.Follows.{Grants, Related, Later, Follows}
use Rattle.simulation.proofs.Binding.{Relation, bind, give_after, act_after}
use Rattle.simulation.proofs.Listed.{listed_same, listed_shift}
use Rattle.simulation.proofs.Frames.{valid_later, meant_later}
use Rattle.simulation.proofs.Results.{mapped, given, failed, Exactly, exactly, at_exactly, After, AfterValue, Units, Values, unmoved, onward, from_here, steps_told}
use Rattle.simulation.proofs.Usable.{uses}
use Rattle.simulation.proofs.Shapes.{shape_value, makes_shape}
use Rattle.simulation.proofs.Growing.{AfterShape}
use Rattle.simulation.proofs.Grouping.{makes_group}
use Rattle.simulation.proofs.Walking.{Reached}
use Rattle.simulation.proofs.Destroying.{Quiet, destroys_all}
use Rattle.simulation.proofs.Clearing.{clears}
use Rattle.simulation.proofs.Figures.{as_line, as_ellipse, as_box, as_text, centre_x_lem, centre_y_lem, centre_x_range, centre_y_range, proper_plain, proper_text}
use Rattle.simulation.proofs.Asked.{with_integer_lem, with_text_lem, with_shape_lem, with_figure_lem}

-- ---- arguments on the stack: n of them, from the one numbered base on
module _ (program : List ℕ) where
  pub record Stacked (r : Raw) (base n : ℕ) (us : List Value.Value) : Type 0 where
    pub within : base + n ≤ get_or r.words arguments_held 0
    pub valid : (k : ℕ) → base ≤ k → k < base + n → Valid program r.words (unpacked (argument_at r.words k))
    pub packs : (k : ℕ) → base ≤ k → k < base + n → packed (unpacked (argument_at r.words k)) ≡ argument_at r.words k
    pub are : us ≡ listed (λ k. meant_word program r (argument_at r.words k)) base n

module _ {program : List ℕ} where
  -- they stay
  pub stacked_kept : {r r' : Raw} {base n : ℕ} {us : List Value.Value} → Later program r r'
      → ((k : ℕ) → base ≤ k → k < base + n → argument_at r'.words k ≡ argument_at r.words k) → get_or r.words arguments_held 0 ≤ get_or r'.words arguments_held 0
      → Stacked program r base n us → Stacked program r' base n us
  stacked_kept {r} {r'} {base} {n} l e h st = record {
    within = le_trans st.within h;
    valid = λ k x y. rw (e k x y) (valid_later l _ (st.valid k x y));
    packs = λ k x y. rw (e k x y) (st.packs k x y);
    are = st.are ∙ listed_same _ _ base n (λ k x y. sym (rw (e k x y) (meant_later l _ (st.valid k x y))));
  }

-- those above the frame of the call under way, and those below it
abbrev pub Above : List ℕ → List Token → Raw → ℕ → Type 0
Above program ts r base = get_or r.words frame 0 + suc (size_of program ts (get_or r.words running 0)) ≤ base

module _ {program : List ℕ} {ts : List Token} {g : List ℕ} where
  pub above_later : {r r' : Raw} {s : State} {total : Amounts} {base : ℕ} → After program ts g r r' s total → Above program ts r base → Above program ts r' base
  above_later a up = rw (a.untouched.frame, a.untouched.running) up

  pub stacked_later : {r r' : Raw} {s : State} {total : Amounts} {base n : ℕ} {us : List Value.Value} → After program ts g r r' s total → Above program ts r base
      → Stacked program r base n us → Stacked program r' base n us
  stacked_later a up st = stacked_kept a.later (λ k x y. a.untouched.above k (omega arith) (omega (arith, st.within))) (rw a.held (le_refl _)) st

  pub stacked_under : {r r' : Raw} {s : State} {total : Amounts} {base n : ℕ} {us : List Value.Value} → After program ts g r r' s total → base + n ≤ get_or r.words frame 0
      → Stacked program r base n us → Stacked program r' base n us
  stacked_under a low st = stacked_kept a.later (λ k x y. a.untouched.below k (omega arith)) (rw a.held (le_refl _)) st

  uses_all : {granted : Amounts} (p n base : ℕ) {r : Raw} {s : State} {total : Amounts} → Related program ts g r s total → Above program ts r base
      → (us : List Value.Value) → Stacked program r base n us
      → Follows granted total (Units program ts g r) (all_usable p base n r) (Library.all_usable p us s)
  unfolding all_usable Library.all_usable listed Act.◌>>=◌ Act.give Run.◌>>=◌ Run.give
  uses_all p zero base h up us st = rw st.are (given (unmoved h))
  uses_all p (suc n) base {r} h up us st =
      rw st.are
      (bind (uses h (unpacked (argument_at r.words base)) _ (st.valid base (omega arith) (omega arith)) refl p) (λ _ _ r₁ s₁ total₁ a.
      let rest : Stacked program r (base + 1) n (listed (λ k. meant_word program r (argument_at r.words k)) (suc base) n) = record {
        within = omega (arith, st.within);
        valid = λ k x y. st.valid k (omega arith) (omega arith);
        packs = λ k x y. st.packs k (omega arith) (omega arith);
        are = rw (add-one base);
      } in
      mapped (λ _ _ r₂ s₂ total₂ b. onward a b) (uses_all p n (base + 1) a.related (le_trans (above_later a up) (omega arith)) _ (stacked_later a (le_trans up (omega arith)) rest))))

-- ---- the procedures
module _ (e : Setting) {ts : List Token} {granted : Amounts} (gr : Grants e.grants granted) {r : Raw} {s : State} {total : Amounts}
    (h : Related e.program ts e.grants r s total) (p base : ℕ) where
  abbrev Works : Act.Out Value → Run.Run Value.Value → Type 0
  Works o m = Follows granted total (Values e.program ts e.grants r) o m

  wrong : Works (Act.stop 20 p r) (Run.run [] (Run.error 20 p))
  wrong = failed 20 p r (steps_told h)

  abbrev word : ℕ → Value
  word k = unpacked (argument_at r.words k)

  -- the arguments by number
  abbrev Sane : ℕ → Type 0
  Sane n = (k : ℕ) → base ≤ k → k < base + n → Valid e.program r.words (unpacked (argument_at r.words k))

  abbrev given_args : ℕ → List Value.Value
  given_args n = listed (λ k. meant_word e.program r (argument_at r.words k)) base n

  shape_made : (f : Figure) (a : Meaning.Figure) → Proper e.program (get_or r.words 3 0) f → a ≡ meant_figure e.program r.texts f
      → Works (Shapes.new_shape e.grants p f r) (Library.draw p (atom a) s)
  unfolding Library.draw Run.◌>>=◌
  shape_made f a v m = give_after Value.shape (λ v j r₁ s₁ total₁ w. shape_value w) (makes_shape gr h f a v m p)

  draws : (kind : ℕ) (make : ℤ → ℤ → ℤ → ℤ → Meaning.Figure) → kind < 3
      → ((x y z w : ℤ) → make x y z w ≡ meant_figure e.program r.texts (figure kind x y z w 0)) → (n : ℕ) → Sane n
      → Works (drawn e.grants kind p base n r) (Library.draw_figure make p (given_args n) s)
  unfolding drawn Library.draw_figure Library.with_four Library.with_three Library.with_two Library.with_one Library.with_none listed Act.◌>>=◌ Act.go_on Act.refuse Act.give Act.fail Run.fail
  draws kind make l m zero v = wrong
  draws kind make l m (suc zero) v = wrong
  draws kind make l m (suc (suc zero)) v = wrong
  draws kind make l m (suc (suc (suc zero))) v = wrong
  draws kind make l m (suc (suc (suc (suc zero)))) v =
      let one : base + 1 ≡ suc base = omega arith in
      let two : base + 2 ≡ suc (suc base) = omega arith in
      let three : base + 3 ≡ suc (suc (suc base)) = omega arith in
      rw (one, two, three)
      (with_integer_lem h p (word base) (v base (omega arith) (omega arith)) _ _ (λ x a.
      with_integer_lem h p (word (suc base)) (v (suc base) (omega arith) (omega arith)) _ _ (λ y b.
      with_integer_lem h p (word (suc (suc base))) (v (suc (suc base)) (omega arith) (omega arith)) _ _ (λ z c.
      with_integer_lem h p (word (suc (suc (suc base)))) (v (suc (suc (suc base))) (omega arith) (omega arith)) _ _ (λ w d.
      shape_made (figure kind x y z w 0) (make x y z w) (proper_plain e.program _ kind x y z w l a b c d) (m x y z w))))))
  draws kind make l m (suc (suc (suc (suc (suc n))))) v = rw (ne_eqb (suc (suc (suc (suc (suc n))))) 4 (λ q. omega arith)) wrong

  draws_text : (n : ℕ) → Sane n → Works (drawn_text e.grants p base n r) (Library.perform draw_text p (given_args n) s)
  unfolding drawn_text Library.perform Library.with_three Library.with_two Library.with_one Library.with_none listed Act.◌>>=◌ Act.go_on Act.refuse Act.give Act.fail Run.fail
  draws_text zero v = wrong
  draws_text (suc zero) v = wrong
  draws_text (suc (suc zero)) v = wrong
  draws_text (suc (suc (suc zero))) v =
      let one : base + 1 ≡ suc base = omega arith in
      let two : base + 2 ≡ suc (suc base) = omega arith in
      rw (one, two)
      (with_integer_lem h p (word base) (v base (omega arith) (omega arith)) _ _ (λ x a.
      with_integer_lem h p (word (suc base)) (v (suc base) (omega arith) (omega arith)) _ _ (λ y b.
      with_text_lem h p (word (suc (suc base))) (v (suc (suc base)) (omega arith) (omega arith)) _ _ (λ t c.
      shape_made (figure 3 x y (pos 0) (pos 0) t) (text x y (text_of e.program r.texts t)) (proper_text x y a b c)
      (sym (as_text e.program r.texts (figure 3 x y (pos 0) (pos 0) t) refl))))))
  draws_text (suc (suc (suc (suc n)))) v = rw (ne_eqb (suc (suc (suc (suc n)))) 3 (λ q. omega arith)) wrong

  connects : (n : ℕ) → Sane n → Works (connected e.grants p base n r) (Library.perform connect_shapes p (given_args n) s)
  unfolding connected Library.perform Library.with_two Library.with_one Library.with_none connecting Meaning.connecting listed Act.◌>>=◌ Act.go_on Act.refuse Act.give Act.fail Run.fail
  connects zero v = wrong
  connects (suc zero) v = wrong
  connects (suc (suc zero)) v =
      let one : base + 1 ≡ suc base = omega arith in
      rw one
      (with_figure_lem h p (word base) (v base (omega arith) (omega arith)) _ _ (λ i a m.
      with_figure_lem h p (word (suc base)) (v (suc base) (omega arith) (omega arith)) _ _ (λ j b n.
      let x = h.sound.shapes.proper i a m in
      let y = h.sound.shapes.proper j b n in
      let f = figure_at r.words i in
      let f' = figure_at r.words j in
      shape_made (figure 0 (centre_x f) (centre_y f) (centre_x f') (centre_y f') 0) _
      (proper_plain e.program _ 0 (centre_x f) (centre_y f) (centre_x f') (centre_y f') (omega arith) (centre_x_range x) (centre_y_range x) (centre_x_range y) (centre_y_range y))
      (rw (
        ← centre_x_lem e.program r.texts f x.kind,
        ← centre_y_lem e.program r.texts f x.kind,
        ← centre_x_lem e.program r.texts f' y.kind,
        ← centre_y_lem e.program r.texts f' y.kind,
      )
      (sym (as_line e.program r.texts (figure 0 (centre_x f) (centre_y f) (centre_x f') (centre_y f') 0) refl))))))
  connects (suc (suc (suc n))) v = rw (ne_eqb (suc (suc (suc n))) 2 (λ q. omega arith)) wrong

  labels : (n : ℕ) → Sane n → Works (labelled e.grants p base n r) (Library.perform draw_text_on_shape p (given_args n) s)
  unfolding labelled Library.perform Library.with_two Library.with_one Library.with_none text_on Meaning.text_on listed Act.◌>>=◌ Act.go_on Act.refuse Act.give Act.fail Run.fail
  labels zero v = wrong
  labels (suc zero) v = wrong
  labels (suc (suc zero)) v =
      let one : base + 1 ≡ suc base = omega arith in
      rw one
      (with_figure_lem h p (word base) (v base (omega arith) (omega arith)) _ _ (λ i a m.
      with_text_lem h p (word (suc base)) (v (suc base) (omega arith) (omega arith)) _ _ (λ t b.
      let x = h.sound.shapes.proper i a m in
      let f = figure_at r.words i in
      shape_made (figure 3 (centre_x f) (centre_y f) (pos 0) (pos 0) t) _ (proper_text (centre_x f) (centre_y f) (centre_x_range x) (centre_y_range x) b)
      (rw (← centre_x_lem e.program r.texts f x.kind, ← centre_y_lem e.program r.texts f x.kind)
      (sym (as_text e.program r.texts (figure 3 (centre_x f) (centre_y f) (pos 0) (pos 0) t) refl))))))
  labels (suc (suc (suc n))) v = rw (ne_eqb (suc (suc (suc n))) 2 (λ q. omega arith)) wrong

  x_read : (n : ℕ) → Sane n → Works (coordinate centre_x p base n r) (Library.perform x_coordinate p (given_args n) s)
  unfolding coordinate Library.perform Library.with_one Library.with_none listed Act.◌>>=◌ Act.go_on Act.refuse Act.give Act.fail Run.fail Run.give Valid meant_value
  x_read zero v = wrong
  x_read (suc zero) v =
      with_figure_lem h p (word base) (v base (omega arith) (omega arith)) _ _ (λ i a m.
      let x = h.sound.shapes.proper i a m in
      given (record { after = unmoved h; valid = centre_x_range x; means = ap Value.integer (sym (centre_x_lem e.program r.texts (figure_at r.words i) x.kind)) }))
  x_read (suc (suc n)) v = rw (ne_eqb (suc (suc n)) 1 (λ q. omega arith)) wrong

  y_read : (n : ℕ) → Sane n → Works (coordinate centre_y p base n r) (Library.perform y_coordinate p (given_args n) s)
  unfolding coordinate Library.perform Library.with_one Library.with_none listed Act.◌>>=◌ Act.go_on Act.refuse Act.give Act.fail Run.fail Run.give Valid meant_value
  y_read zero v = wrong
  y_read (suc zero) v =
      with_figure_lem h p (word base) (v base (omega arith) (omega arith)) _ _ (λ i a m.
      let x = h.sound.shapes.proper i a m in
      given (record { after = unmoved h; valid = centre_y_range x; means = ap Value.integer (sym (centre_y_lem e.program r.texts (figure_at r.words i) x.kind)) }))
  y_read (suc (suc n)) v = rw (ne_eqb (suc (suc n)) 1 (λ q. omega arith)) wrong

  -- none is given once all was destroyed
  no_value : {o : Act.Out (Unit {0})} {m : Run.Run (List Meaning.Figure)}
      → Follows granted total (λ _ xs r' s' total'. Reached e.program ts e.grants Quiet 0 r xs r' s' total') o m
      → Works (Act.go_on o (λ _. Act.give Nothing)) (Run.go_on m.takings m.end (λ _. Run.give Value.none))
  unfolding Act.give Run.give Valid meant_value
  no_value f = bind f (λ _ xs r' s' total' a. given (record { after = a.after; valid = tt; means = refl }))

  one_destroyed : (n : ℕ) → Sane n → Works (destroyed e.grants p base n r) (Library.perform destroy_shape p (given_args n) s)
  unfolding destroyed Library.perform Library.with_one Library.with_none listed Act.◌>>=◌ Act.go_on Act.refuse Act.give Act.fail Run.fail Run.◌>>=◌
  one_destroyed zero v = wrong
  one_destroyed (suc zero) v =
      with_shape_lem h p (word base) (v base (omega arith) (omega arith)) _ _ (λ i a. no_value (destroys_all e.program ts e.grants gr p h i a))
  one_destroyed (suc (suc n)) v = rw (ne_eqb (suc (suc n)) 1 (λ q. omega arith)) wrong

  all_cleared : (n : ℕ) → Works (clearing e.grants p n r) (Library.perform clear_scene p (given_args n) s)
  unfolding clearing Library.perform Library.with_none listed Act.◌>>=◌ Act.go_on Act.refuse Act.give Act.fail Run.fail Run.◌>>=◌ Run.go_on Run.current
  all_cleared zero = no_value (clears e.program ts e.grants gr p h)
  all_cleared (suc n) = rw (ne_eqb (suc n) 0 (λ q. omega arith)) wrong

  -- ---- groups: the arguments' numbers, by their words
  abbrev number : ℕ → ℕ
  number k = argument_at r.words k / 8 % 2 ^ 32

  -- n of them from k on are shapes
  record AllShapes (k n : ℕ) (is : List ℕ) (r' : Raw) (s' : State) (total' : Amounts) : Type 0 where
    exact : Exactly r s total r' s' total'
    are : is ≡ listed number k n
    made : (j : ℕ) → k ≤ j → j < k + n → number j < get_or r.words shapes_used 0

  shape_asked : {A B : Type 0} {R : Relation A B} (v : Value) → Valid e.program r.words v → (w : ℕ) → packed v ≡ w → (f : ℕ → Act.Act A) (f' : ℕ → Run.Action B)
      → ((i : ℕ) → i < get_or r.words shapes_used 0 → w / 8 % 2 ^ 32 ≡ i → Follows granted total R (f i r) (f' i s))
      → Follows granted total R (with_shape p v f r) (Operator.with_shape_number p (meant_value e.program r.texts v) f' s)
  unfolding with_shape Operator.with_shape_number meant_value Valid packed Act.fail Run.fail
  shape_asked (Integer z) l w q f f' g = failed 20 p r (steps_told h)
  shape_asked (Text t) l w q f f' g = failed 20 p r (steps_told h)
  shape_asked (Boolean b) l w q f f' g = failed 20 p r (steps_told h)
  shape_asked Nothing l w q f f' g = failed 20 p r (steps_told h)
  shape_asked (Table t) l w q f f' g = failed 20 p r (steps_told h)
  shape_asked (Shape i) l w q f f' g =
      let a : (6 + 8 * i) / 8 ≡ i = omega arith in
      let b : i % 2 ^ 32 ≡ i = omega (arith, l, h.sound.counted.shapes, h.sound.lent.room.shapes) in
      g i l (rw (← q, a) b)

  numbered : (n k : ℕ) → ((j : ℕ) → k ≤ j → j < k + n → Valid e.program r.words (unpacked (argument_at r.words j)))
      → ((j : ℕ) → k ≤ j → j < k + n → packed (unpacked (argument_at r.words j)) ≡ argument_at r.words j)
      → Follows granted total (λ _ is r' s' total'. AllShapes k n is r' s' total') (all_shapes p k n r) (Library.shape_numbers p (listed (λ k. meant_word e.program r (argument_at r.words k)) k n) s)
  unfolding all_shapes Library.shape_numbers listed Act.give Run.give Run.◌>>=◌
  numbered zero k v q = given (record { exact = exactly; are = refl; made = λ j x y. absurd (omega arith) })
  numbered (suc n) k v q =
      shape_asked (word k) (v k (omega arith) (omega arith)) (argument_at r.words k) (q k (omega arith) (omega arith)) _ _ (λ i l t.
      give_after (λ is. i ∷ is) (λ _ is r' s' total' x. record {
        exact = x.exact;
        are = ap₂ ◌∷◌ (sym t) (x.are ∙ ap (λ j. listed number j n) (add-one k));
        made = λ j y z. first_or j i l t y z x.made (eqb j k) refl;
      })
      (subst (λ j. Follows granted total (λ _ is r' s' total'. AllShapes (k + 1) n is r' s' total') (all_shapes p (k + 1) n r)
      (Library.shape_numbers p (listed (λ k. meant_word e.program r (argument_at r.words k)) j n) s)) (add-one k)
      (numbered n (k + 1) (λ j x y. v j (omega arith) (omega arith)) (λ j x y. q j (omega arith) (omega arith)))))
    where
      first_or : (j i : ℕ) → i < get_or r.words shapes_used 0 → number k ≡ i → k ≤ j → j < k + suc n
          → ((j : ℕ) → k + 1 ≤ j → j < k + 1 + n → number j < get_or r.words shapes_used 0) → (b : Bool) → eqb j k ≡ b → number j < get_or r.words shapes_used 0
      first_or j i l t y z f true o = rw (eqb-true j k o, t) l
      first_or j i l t y z f false o = let d : j ≢ k = eqb-false j k o in f j (omega arith) (omega arith)

  groups : (n : ℕ) → {us : List Value.Value} → Stacked e.program r base n us → Works (grouped e.grants p base n r) (Library.perform draw_group p (given_args n) s)
  unfolding grouped Library.perform Library.draw Valid meant_value Act.◌>>=◌ Act.give Run.◌>>=◌
  groups n st =
      bind (numbered n base st.valid st.packs) (λ _ is r' s' total' x.
      at_exactly (Act.◌>>=◌ (new_group e.grants p 1 8 (argument_place base) n) (λ j. Act.give (Shape j))) (Run.◌>>=◌ (Group.new_shape p (group is)) (λ j. Run.give (Value.shape j))) x.exact
      (give_after Value.shape (λ v j r₁ s₁ total₁ a. a)
      (act_after {R = λ k j r₁ s₁ total₁. AfterShape e.program ts e.grants r s k j r₁ s₁ total₁}
      {P = λ v j r₁ s₁ total₁. AfterValue e.program ts e.grants r v (Value.shape j) r₁ s₁ total₁} (λ j. Act.give (Shape j)) (λ k j r₁ s₁ total₁ a. record {
        result = Shape k;
        slices = r₁;
        is = refl;
        holds = record { after = a.after; valid = omega (arith, a.here, a.used); means = ap Value.shape a.same };
      })
      (subst (λ (l : List ℕ). Follows granted total (λ k j r₁ s₁ total₁. AfterShape e.program ts e.grants r s k j r₁ s₁ total₁)
      (new_group e.grants p 1 8 (argument_place base) n r) (Group.new_shape p (group l) s))
      (listed_shift (λ k. number (base + k)) number 0 base n (λ j y. let z : 0 + j ≡ j = omega arith in rw z) ∙ sym x.are)
      (makes_group h (argument_place base) 1 8 (λ k. number (base + k)) n (record {
        gives = λ k y. let z : argument_place base + 1 * k ≡ argument_place (base + k) = omega (arith, st.within, h.sound.counted.arguments) in rw z;
        older = λ k y. x.made (base + k) (omega arith) (omega arith);
        high = λ k y. omega arith;
        new = λ k j y z q. omega (arith, st.within, h.sound.counted.arguments);
        slots = λ k j y z q. omega (arith, st.within, h.sound.counted.arguments);
        below = λ k y. omega (arith, st.within, h.sound.counted.arguments);
      }) p gr)))))

  performs : (f : Library) (n : ℕ) (us : List Value.Value) → Stacked e.program r base n us → Works (perform e.grants (number_of (some f)) p base n r) (Library.perform f p us s)
  unfolding perform Library.perform number_of if◌then◌otherwise◌
  performs draw_line n us st = rw st.are (draws 0 line (omega arith) (λ x y z w. sym (as_line e.program r.texts (figure 0 x y z w 0) refl)) n st.valid)
  performs draw_ellipse n us st = rw st.are (draws 1 ellipse (omega arith) (λ x y z w. sym (as_ellipse e.program r.texts (figure 1 x y z w 0) refl)) n st.valid)
  performs draw_box n us st = rw st.are (draws 2 box (omega arith) (λ x y z w. sym (as_box e.program r.texts (figure 2 x y z w 0) refl)) n st.valid)
  performs draw_text n us st = rw st.are (draws_text n st.valid)
  performs connect_shapes n us st = rw st.are (connects n st.valid)
  performs draw_text_on_shape n us st = rw st.are (labels n st.valid)
  performs x_coordinate n us st = rw st.are (x_read n st.valid)
  performs y_coordinate n us st = rw st.are (y_read n st.valid)
  performs destroy_shape n us st = rw st.are (one_destroyed n st.valid)
  performs clear_scene n us st = rw st.are (all_cleared n)
  performs draw_group n us st = rw st.are (groups n st)

number_less : (f : Library) → ltb (number_of (some f)) 11 ≡ true
unfolding number_of
number_less draw_line = refl
number_less draw_ellipse = refl
number_less draw_box = refl
number_less draw_text = refl
number_less connect_shapes = refl
number_less draw_text_on_shape = refl
number_less x_coordinate = refl
number_less y_coordinate = refl
number_less destroy_shape = refl
number_less clear_scene = refl
number_less draw_group = refl

-- a call, its arguments on the stack
module _ (e : Setting) {ts : List Token} {granted : Amounts} (gr : Grants e.grants granted) where
  pub calls : (l : Option Library) (p base n : ℕ) {r : Raw} {s : State} {total : Amounts} → Related e.program ts e.grants r s total
      → Above e.program ts r base → (us : List Value.Value) → Stacked e.program r base n us
      → Follows granted total (Values e.program ts e.grants r) (call_library e.grants (number_of l) p base n r) (Library.call_library l p us s)
  unfolding call_library Library.call_library number_of if◌then◌otherwise◌ Act.◌>>=◌ Run.◌>>=◌ Act.fail Run.fail
  calls (some f) p base n h up us st =
      rw (number_less f)
      (bind (uses_all p n base h up us st) (λ _ _ r₁ s₁ total₁ a. from_here a (performs e gr a.related p base f n us (stacked_later a up st))))
  calls Option.none p base n {r} h up us st = failed 20 p r (steps_told h)
