-- Library procedures.
use Prim.Native.Nat.{ℕ, ◌+◌, ◌^◌, ◌≤◌, ◌<◌}
use mathlib.Core.Path.{◌≡◌, ◌∙◌, refl, ap, sym}
use mathlib.Core.Bool.{Bool, true, false, not, ◌&&◌, cond}
use mathlib.Core.List.{List}
use native.Mathlib.Omega.{arith}
use borrow.Author.Tests.{ne_eqb, not-true, not-false, lt-ltb, le-ltb}
use lib.Dec.{eqb}
use lib.IntN.{ℤ, pos}
use lib.Signed.{mag}
use mir.Syntax.{w32}
use mir.Val.{to_z}
use Rattle.meaning.specs.Basics.{if◌then◌otherwise◌}
use Rattle.machine.specs.declared.Value.{Value}
use Rattle.machine.specs.declared.Value.TheVariants.{Integer, Nothing}
use Rattle.std.specs.Prelude.{Result, Ok, Err}
use Rattle.machine.specs.declared.Fault.{Fault}
use Rattle.machine.specs.declared.Fault.TheVariants.{Misuse}
use Rattle.machine.proofs.Acts.{goes, taken, carried, given}
use Rattle.machine.specs.Words.{kind_in, number_in, handle_in, unpacked}
use Rattle.machine.specs.declared.Figure.{Figure}
use Rattle.machine.specs.Act.{Raw, raw, done, stop, Act, go_on, ◌>>=◌, give, fail, refuse, held, out_of, Does}
use Rattle.machine.specs.Stack.{argument_at}
use Rattle.machine.specs.Layout.{argument_place}
use Rattle.machine.specs.Shapes.{is_group_at, figure_at, new_shape}
use Rattle.machine.specs.Groups.{destroy_all}
use Rattle.groups.specs.Making.{grouping}
use Rattle.machine.specs.Variables.{clear_scene}
use Rattle.machine.specs.Operate.{with_integer, with_text}
use Rattle.values.proofs.Held.{back_to}
use Rattle.values.proofs.Held as held
use Rattle.operators.proofs.KindLaws.{integer_or, text_or, shape_or}
use Rattle.machine.specs.Library.{with_figure}
use Rattle.machine.specs.Arguments.{figure, connecting, text_on, all_usable}
use Rattle.machine.specs.Library.{drawn, drawn_text, connected, labelled, coordinate, destroyed, clearing, all_shapes, grouped, perform, call_library}
use Rattle.library.specs.Asked.{only_figure}
use Rattle.arguments.specs.Given.{is_kind, are_kinds, four_integers, point_and_text, is_figure, two_figures, figure_and_text, integer_at, handle_at, shape_at, given_figure}
use Rattle.arguments.specs.Given.{drawn_figure, text_figure, connecting_figure, label_figure}

-- ---- several questions
module _ {A : Type 0} (x y : A) where
  two_asked : (b c : Bool) → cond b (cond c x y) y ≡ cond (b && c) x y
  two_asked true c = refl
  two_asked false c = refl

  three_asked : (b c d : Bool) → cond b (cond c (cond d x y) y) y ≡ cond (b && c && d) x y
  three_asked true true d = refl
  three_asked true false d = refl
  three_asked false c d = refl

  four_asked : (b c d e : Bool) → cond b (cond c (cond d (cond e x y) y) y) y ≡ cond (b && c && (d && e)) x y
  four_asked true true true e = refl
  four_asked true true false e = refl
  four_asked true false d e = refl
  four_asked false c d e = refl

-- the integer that a word holds, and whether it is of a kind
abbrev int : ℕ → ℤ
int a = to_z w32 (number_in a)

abbrev is : ℕ → ℕ → Bool
is a k = eqb (kind_in a) k

-- whether it is a shape, and no group
abbrev fig : List ℕ → ℕ → Bool
fig ws a = eqb (kind_in a) 6 && not (is_group_at ws (number_in a))

module _ {A : Type 0} (p : ℕ) (s : Raw) where
  integers_or : (a b c d : ℕ) (k : ℤ → ℤ → ℤ → ℤ → Act A)
      → with_integer p (unpacked a) (λ x. with_integer p (unpacked b) λ y. with_integer p (unpacked c) λ z. with_integer p (unpacked d) λ w. k x y z w) s
      ≡ cond (is a 1 && is b 1 && (is c 1 && is d 1)) (k (int a) (int b) (int c) (int d) s) (stop 20 p s)
  integers_or a b c d k =
      rw (integer_or p a s _, integer_or p b s _, integer_or p c s _, integer_or p d s _)
      (four_asked (k (int a) (int b) (int c) (int d) s) (stop 20 p s) (is a 1) (is b 1) (is c 1) (is d 1))

  point_or : (a b c : ℕ) (k : ℤ → ℤ → ℕ → Act A)
      → with_integer p (unpacked a) (λ x. with_integer p (unpacked b) λ y. with_text p (unpacked c) λ h. k x y h) s
      ≡ cond (is a 1 && is b 1 && is c 2) (k (int a) (int b) (handle_in c) s) (stop 20 p s)
  point_or a b c k =
      rw (integer_or p a s _, integer_or p b s _, text_or p c s _) (three_asked (k (int a) (int b) (handle_in c) s) (stop 20 p s) (is a 1) (is b 1) (is c 2))

  no_group : (b c : Bool) (k : Act A) → cond b ((if c then (λ _. fail 20 p) otherwise λ _. k) s) (stop 20 p s) ≡ cond (b && not c) (k s) (stop 20 p s)
  unfolding if◌then◌otherwise◌ fail
  no_group true true k = refl
  no_group true false k = refl
  no_group false c k = refl

  figure_or : (a : ℕ) (k : Figure → Act A) → with_figure p (unpacked a) k s ≡ cond (fig s.words a) (k (figure_at s.words (number_in a)) s) (stop 20 p s)
  unfolding with_figure ◌>>=◌ go_on held
  figure_or a k = shape_or p a s _ ∙ no_group (is a 6) (is_group_at s.words (number_in a)) (k (figure_at s.words (number_in a)))

  shapes_or : (a b : ℕ) (k : Figure → Figure → Act A) → with_figure p (unpacked a) (λ x. with_figure p (unpacked b) λ y. k x y) s
      ≡ cond (fig s.words a && fig s.words b) (k (figure_at s.words (number_in a)) (figure_at s.words (number_in b)) s) (stop 20 p s)
  shapes_or a b k =
      rw (figure_or a _, figure_or b _)
      (two_asked (k (figure_at s.words (number_in a)) (figure_at s.words (number_in b)) s) (stop 20 p s) (fig s.words a) (fig s.words b))

  label_or : (a b : ℕ) (k : Figure → ℕ → Act A) → with_figure p (unpacked a) (λ x. with_text p (unpacked b) λ h. k x h) s
      ≡ cond (fig s.words a && is b 2) (k (figure_at s.words (number_in a)) (handle_in b) s) (stop 20 p s)
  label_or a b k =
      rw (figure_or a _, text_or p b s _) (two_asked (k (figure_at s.words (number_in a)) (handle_in b) s) (stop 20 p s) (fig s.words a) (is b 2))

-- ---- each procedure, with as many arguments as it takes
first_is : (base : ℕ) → base + 0 ≡ base
first_is base = omega arith

module _ (g ts ws : List ℕ) (p base : ℕ) where
  drawn_by : (kind : ℕ) → drawn g kind p base 4 (raw ts ws) ≡ cond (four_integers ws base) (new_shape g p (drawn_figure ws kind base) (raw ts ws)) (stop 20 p (raw ts ws))
  unfolding drawn ◌>>=◌ go_on refuse give four_integers are_kinds is_kind drawn_figure integer_at
  drawn_by kind = rw (first_is base)
      (integers_or p (raw ts ws) (argument_at ws base) (argument_at ws (base + 1)) (argument_at ws (base + 2)) (argument_at ws (base + 3)) λ x y z w. new_shape g p (figure kind x y z w 0))

  text_by : drawn_text g p base 3 (raw ts ws) ≡ cond (point_and_text ws base) (new_shape g p (text_figure ws base) (raw ts ws)) (stop 20 p (raw ts ws))
  unfolding drawn_text ◌>>=◌ go_on refuse give point_and_text are_kinds is_kind text_figure integer_at handle_at
  text_by = rw (first_is base)
      (point_or p (raw ts ws) (argument_at ws base) (argument_at ws (base + 1)) (argument_at ws (base + 2)) λ x y h. new_shape g p (figure 3 x y (pos 0) (pos 0) h))

  connected_by : connected g p base 2 (raw ts ws) ≡ cond (two_figures ws base) (new_shape g p (connecting_figure ws base) (raw ts ws)) (stop 20 p (raw ts ws))
  unfolding connected ◌>>=◌ go_on refuse give two_figures is_figure is_kind connecting_figure given_figure shape_at
  connected_by = rw (first_is base) (shapes_or p (raw ts ws) (argument_at ws base) (argument_at ws (base + 1)) λ x y. new_shape g p (connecting x y))

  labelled_by : labelled g p base 2 (raw ts ws) ≡ cond (figure_and_text ws base) (new_shape g p (label_figure ws base) (raw ts ws)) (stop 20 p (raw ts ws))
  unfolding labelled ◌>>=◌ go_on refuse give figure_and_text is_figure is_kind label_figure given_figure handle_at shape_at
  labelled_by = rw (first_is base) (label_or p (raw ts ws) (argument_at ws base) (argument_at ws (base + 1)) λ x h. new_shape g p (text_on x h))

module _ (g ws : List ℕ) (act : Act Value) (p : ℕ) (ok b : Bool) (f : Figure) (e : b ≡ ok)
    (h : (ts : List ℕ) → act (raw ts ws) ≡ cond ok (new_shape g p f (raw ts ws)) (stop 20 p (raw ts ws))) where
  refused : not b ≡ true → Does ws act (Err (Misuse p)) ws
  unfolding out_of
  refused t = record { equal = λ ts. sym (h ts ∙ rw (← e, not-true b t)) }

  made : (r : Result Value Fault) (f' : Figure) (ws' : List ℕ) → not b ≡ false → f' ≡ f → Does ws (new_shape g p f') r ws' → Does ws act r ws'
  made r f' ws' t q a = record { equal = λ ts. a.equal ts ∙ sym (h ts ∙ rw (← e, not-false b t, q)) }

module _ (ws g : List ℕ) (p base n : ℕ) where
  pub draw_count : (kind : ℕ) → (n ≡ 4 → ⊥) → Does ws (drawn g kind p base n) (Err (Misuse p)) ws
  unfolding drawn ◌>>=◌ go_on refuse fail out_of
  draw_count kind h = record { equal = λ ts. rw (ne_eqb _ _ h) }

  pub draw_kinds : (kind : ℕ) {b : Bool} → n ≡ 4 → b ≡ four_integers ws base → not b ≡ true → Does ws (drawn g kind p base n) (Err (Misuse p)) ws
  draw_kinds kind {b} k e h = rw k (refused g ws (drawn g kind p base 4) p (four_integers ws base) b (drawn_figure ws kind base) e (λ ts. drawn_by g ts ws p base kind) h)

  pub draw_made : (kind : ℕ) {b : Bool} {f : Figure} {r : Result Value Fault} {ws' : List ℕ} → n ≡ 4 → b ≡ four_integers ws base → not b ≡ false → f ≡ drawn_figure ws kind base
      → Does ws (new_shape g p f) r ws' → Does ws (drawn g kind p base n) r ws'
  draw_made kind {b} {f} {r} {ws'} k e h q a = rw k (made g ws (drawn g kind p base 4) p (four_integers ws base) b (drawn_figure ws kind base) e (λ ts. drawn_by g ts ws p base kind) r f ws' h q a)

  pub text_count : (n ≡ 3 → ⊥) → Does ws (drawn_text g p base n) (Err (Misuse p)) ws
  unfolding drawn_text ◌>>=◌ go_on refuse fail out_of
  text_count h = record { equal = λ ts. rw (ne_eqb _ _ h) }

  pub text_kinds : {b : Bool} → n ≡ 3 → b ≡ point_and_text ws base → not b ≡ true → Does ws (drawn_text g p base n) (Err (Misuse p)) ws
  text_kinds {b} k e h = rw k (refused g ws (drawn_text g p base 3) p (point_and_text ws base) b (text_figure ws base) e (λ ts. text_by g ts ws p base) h)

  pub text_made : {b : Bool} {f : Figure} {r : Result Value Fault} {ws' : List ℕ} → n ≡ 3 → b ≡ point_and_text ws base → not b ≡ false → f ≡ text_figure ws base
      → Does ws (new_shape g p f) r ws' → Does ws (drawn_text g p base n) r ws'
  text_made {b} {f} {r} {ws'} k e h q a = rw k (made g ws (drawn_text g p base 3) p (point_and_text ws base) b (text_figure ws base) e (λ ts. text_by g ts ws p base) r f ws' h q a)

  pub connect_count : (n ≡ 2 → ⊥) → Does ws (connected g p base n) (Err (Misuse p)) ws
  unfolding connected ◌>>=◌ go_on refuse fail out_of
  connect_count h = record { equal = λ ts. rw (ne_eqb _ _ h) }

  pub connect_kinds : {b : Bool} → n ≡ 2 → b ≡ two_figures ws base → not b ≡ true → Does ws (connected g p base n) (Err (Misuse p)) ws
  connect_kinds {b} k e h = rw k (refused g ws (connected g p base 2) p (two_figures ws base) b (connecting_figure ws base) e (λ ts. connected_by g ts ws p base) h)

  pub connect_made : {b : Bool} {f : Figure} {r : Result Value Fault} {ws' : List ℕ} → n ≡ 2 → b ≡ two_figures ws base → not b ≡ false → f ≡ connecting_figure ws base
      → Does ws (new_shape g p f) r ws' → Does ws (connected g p base n) r ws'
  connect_made {b} {f} {r} {ws'} k e h q a = rw k (made g ws (connected g p base 2) p (two_figures ws base) b (connecting_figure ws base) e (λ ts. connected_by g ts ws p base) r f ws' h q a)

  pub label_count : (n ≡ 2 → ⊥) → Does ws (labelled g p base n) (Err (Misuse p)) ws
  unfolding labelled ◌>>=◌ go_on refuse fail out_of
  label_count h = record { equal = λ ts. rw (ne_eqb _ _ h) }

  pub label_kinds : {b : Bool} → n ≡ 2 → b ≡ figure_and_text ws base → not b ≡ true → Does ws (labelled g p base n) (Err (Misuse p)) ws
  label_kinds {b} k e h = rw k (refused g ws (labelled g p base 2) p (figure_and_text ws base) b (label_figure ws base) e (λ ts. labelled_by g ts ws p base) h)

  pub label_made : {b : Bool} {f : Figure} {r : Result Value Fault} {ws' : List ℕ} → n ≡ 2 → b ≡ figure_and_text ws base → not b ≡ false → f ≡ label_figure ws base
      → Does ws (new_shape g p f) r ws' → Does ws (labelled g p base n) r ws'
  label_made {b} {f} {r} {ws'} k e h q a = rw k (made g ws (labelled g p base 2) p (figure_and_text ws base) b (label_figure ws base) e (λ ts. labelled_by g ts ws p base) r f ws' h q a)

-- ---- a centre, a shape destroyed, the scene cleared, a group
cond_then : {A B : Type 0} (c : Bool) (p : ℕ) (s : Raw) (x : A) (k : A → Act B) → cond c (k x s) (stop 20 p s) ≡ go_on (cond c (done x s) (stop 20 p s)) k
unfolding go_on
cond_then true p s x k = refl
cond_then false p s x k = refl

figure_then : {A : Type 0} (p : ℕ) (s : Raw) (a : ℕ) (k : Figure → Act A) → with_figure p (unpacked a) k s ≡ go_on (with_figure p (unpacked a) (λ x. give x) s) k
unfolding give
figure_then p s a k = figure_or p s a k ∙ cond_then (fig s.words a) p s (figure_at s.words (number_in a)) k ∙ ap (λ o. go_on o k) (sym (figure_or p s a (λ x. give x)))

module _ (ws : List ℕ) (p base n : ℕ) where
  pub no_only : (n ≡ 1 → ⊥) → Does ws (only_figure p base n) (Err (Misuse p)) ws
  unfolding only_figure ◌>>=◌ go_on refuse fail out_of
  no_only h = record { equal = λ ts. rw (ne_eqb _ _ h) }

  only_by : (ts : List ℕ) → only_figure p base 1 (raw ts ws) ≡ cond (is_figure ws base 0) (done (given_figure ws base 0) (raw ts ws)) (stop 20 p (raw ts ws))
  unfolding only_figure ◌>>=◌ go_on refuse give is_figure is_kind given_figure shape_at
  only_by ts = rw (first_is base) (figure_or p (raw ts ws) (argument_at ws base) (λ x. give x))

  module _ {b : Bool} (k : n ≡ 1) (e : b ≡ is_figure ws base 0) where
    pub only_other : not b ≡ true → Does ws (only_figure p base n) (Err (Misuse p)) ws
    unfolding out_of
    only_other h = rw k (record { equal = λ ts. sym (only_by ts ∙ rw (← e, not-true b h)) })

    pub only_given : {s : Figure} → not b ≡ false → s ≡ given_figure ws base 0 → Does ws (only_figure p base n) (Ok s) ws
    unfolding out_of
    only_given h q = rw (k, q) (record { equal = λ ts. sym (only_by ts ∙ rw (← e, not-false b h)) })

  module _ (f : Figure → ℤ) where
    coordinate_then : (ts : List ℕ) → coordinate f p base n (raw ts ws) ≡ (only_figure p base n >>= λ s. give (Integer (f s))) (raw ts ws)
    unfolding coordinate only_figure ◌>>=◌ go_on refuse fail give
    coordinate_then ts = go (eqb n 1) refl
      where
        go : (b : Bool) → eqb n 1 ≡ b → coordinate f p base n (raw ts ws) ≡ (only_figure p base n >>= λ s. give (Integer (f s))) (raw ts ws)
        go true e = rw e (figure_then p (raw ts ws) (argument_at ws base) (λ s. give (Integer (f s))))
        go false e = rw e

    pub coordinate_of : {r : Result Value Fault} → Does ws (only_figure p base n >>= λ s. give (Integer (f s))) r ws → Does ws (coordinate f p base n) r ws
    coordinate_of h = carried coordinate_then h

pub coordinate_is : (ws : List ℕ) (f : Figure → ℤ) {s : Figure} {m : ℤ} → m ≡ f s → mag m < 2 ^ 31 → Does ws (give (Integer (f s))) (Ok (Integer (held.held m))) ws
coordinate_is ws f q h = rw (back_to h q) (given _)

module _ (g ws : List ℕ) (p base n : ℕ) where
  pub destroy_count : (n ≡ 1 → ⊥) → Does ws (destroyed g p base n) (Err (Misuse p)) ws
  unfolding destroyed ◌>>=◌ go_on refuse fail out_of
  destroy_count h = record { equal = λ ts. rw (ne_eqb _ _ h) }

  destroyed_by : (ts : List ℕ) → destroyed g p base 1 (raw ts ws)
      ≡ cond (is_kind ws base 0 6) ((destroy_all g p (shape_at ws base 0) >>= λ _. give Nothing) (raw ts ws)) (stop 20 p (raw ts ws))
  unfolding destroyed ◌>>=◌ go_on refuse give is_kind shape_at
  destroyed_by ts = rw (first_is base) (shape_or p (argument_at ws base) (raw ts ws) _)

  module _ {b : Bool} (k : n ≡ 1) (e : b ≡ is_kind ws base 0 6) where
    pub destroy_kind : not b ≡ true → Does ws (destroyed g p base n) (Err (Misuse p)) ws
    unfolding out_of
    destroy_kind h = rw k (record { equal = λ ts. sym (destroyed_by ts ∙ rw (← e, not-true b h)) })

    pub destroys : b ≡ true → {i : ℕ} {r : Result Value Fault} {ws' : List ℕ} → i ≡ shape_at ws base 0 → Does ws (destroy_all g p i >>= λ _. give Nothing) r ws' → Does ws (destroyed g p base n) r ws'
    destroys h q d = rw k (record { equal = λ ts. (rw q at d).equal ts ∙ sym (destroyed_by ts ∙ rw (← e, h)) })

  pub clear_count : (n ≡ 0 → ⊥) → Does ws (clearing g p n) (Err (Misuse p)) ws
  unfolding clearing ◌>>=◌ go_on refuse fail out_of
  clear_count h = record { equal = λ ts. rw (ne_eqb _ _ h) }

  pub clears : n ≡ 0 → {r : Result Value Fault} {ws' : List ℕ} → Does ws (clear_scene g p >>= λ _. give Nothing) r ws' → Does ws (clearing g p n) r ws'
  unfolding clearing ◌>>=◌ go_on refuse give
  clears k d = rw k (record { equal = d.equal })

  pub group_made : {r : Result Value Fault} {at : ℕ} {ws' : List ℕ} → Does ws (all_shapes p base n) (Ok tt) ws → at ≡ argument_place (base + 0) → Does ws (grouping g p 1 8 at n) r ws'
      → Does ws (grouped g p base n) r ws'
  unfolding grouped grouping
  group_made u e a = goes _ u (rw (e, first_is base) at a)

-- ---- calls
module _ (ws g : List ℕ) (number p base n : ℕ) where
  pub performs_10 : {r : Result Value Fault} {ws' : List ℕ} → (number ≡ 0 → ⊥) → (number ≡ 1 → ⊥) → (number ≡ 2 → ⊥) → (number ≡ 3 → ⊥) → (number ≡ 4 → ⊥) → (number ≡ 5 → ⊥)
      → (number ≡ 6 → ⊥) → (number ≡ 7 → ⊥) → (number ≡ 8 → ⊥) → (number ≡ 9 → ⊥) → Does ws (grouped g p base n) r ws' → Does ws (perform g number p base n) r ws'
  unfolding perform if◌then◌otherwise◌
  performs_10 a b c d e f h i j k l =
      rw (ne_eqb _ _ a, ne_eqb _ _ b, ne_eqb _ _ c, ne_eqb _ _ d, ne_eqb _ _ e) (rw (ne_eqb _ _ f, ne_eqb _ _ h, ne_eqb _ _ i, ne_eqb _ _ j, ne_eqb _ _ k) l)

  pub unknown : 11 ≤ number → Does ws (call_library g number p base n) (Err (Misuse p)) ws
  unfolding call_library if◌then◌otherwise◌ fail out_of
  unknown h = record { equal = λ ts. rw (le-ltb number 11 h) }

  pub performs : {r : Result Value Fault} {ws' : List ℕ} → number < 11 → Does ws (all_usable p base n >>= λ _. perform g number p base n) r ws' → Does ws (call_library g number p base n) r ws'
  unfolding call_library
  performs h a = taken _ _ _ (lt-ltb number 11 h) a
