-- The first question: the grants' ranges and the lengths of the work slices.
use Prim.Native.Nat.{ℕ, suc, ◌+◌, ◌*◌, ◌≤◌, ◌<◌}
use native.Mathlib.Omega.{arith}
use native.Mathlib.Nat.{le_trans, mul-le-mul_left}
use mathlib.Core.Path.{◌≡◌, refl, sym, ◌∙◌}
use mathlib.Core.Bool.{Bool, true, false, not, ◌&&◌}
use mathlib.Core.List.{List}
use lib.ListN.{length, replicate}
use lib.IntN.{ℤ}
use lib.Dec.{leb}
use mir.Syntax.{w64}
use mir.Val.{Fits}
use borrow.Author.Tests.{le-leb, lt-leb, leb-true, not-true, not-false}
use Rattle.meaning.specs.Basics.{if◌then◌otherwise◌}
use Rattle.meaning.specs.Run.{Run}
use Rattle.meaning.specs.Program.{Operation, Outcome, checking, drawing, specified}
use Rattle.meaning.specs.Book.{nothing_yet, book, Answer, number, booked}
use Rattle.meaning.specs.Call.{Call, in_range, needed, long_enough, admitted, granted, run_of, answer, work_after, out_after_end, out_after}
use Rattle.machine.specs.Layout.{steps_granted, shapes_granted, entries_granted, text_granted, calls_granted, fixed_words, words_needed}
use Rattle.lending.specs.Lending.{grants_of, enough_to_read, enough, Ready, called, Performed}

-- ---- conjunctions
no_truth : {A : Type 0} → false ≡ true → A
no_truth e = let z : ◌≡◌ {A = ℕ} 0 1 = cc in absurd (omega arith)

all_six : (a b c d f g : Bool) → a && b && c && d && f && g ≡ true → (a ≡ true) × (b ≡ true) × (c ≡ true) × (d ≡ true) × (f ≡ true) × (g ≡ true)
all_six true true true true true g e = (refl, refl, refl, refl, refl, e)
all_six true true true true false g e = no_truth e
all_six true true true false f g e = no_truth e
all_six true true false d f g e = no_truth e
all_six true false c d f g e = no_truth e
all_six false b c d f g e = no_truth e

all_three : (a b c : Bool) → a && (b && (c && true)) ≡ true → (a ≡ true) × (b ≡ true) × (c ≡ true)
all_three true true true e = (refl, refl, refl)
all_three true true false e = no_truth e
all_three true false c e = no_truth e
all_three false b c e = no_truth e

front_false : (a b c d : Bool) → a && (b && (c && true)) ≡ false → false ≡ a && (b && (c && d))
front_false true true true d e = no_truth (sym e)
front_false true true false d e = refl
front_false true false c d e = refl
front_false false b c d e = refl

all_five : (a b c d f : Bool) → a && (b && (c && (d && (f && true)))) ≡ true → (a ≡ true) × (b ≡ true) × (c ≡ true) × (d ≡ true) × (f ≡ true)
all_five true true true true true e = (refl, refl, refl, refl, refl)
all_five true true true true false e = no_truth e
all_five true true true false f e = no_truth e
all_five true true false d f e = no_truth e
all_five true false c d f e = no_truth e
all_five false b c d f e = no_truth e

and_true : (a : Bool) → a && true ≡ a
and_true true = refl
and_true false = refl

-- ---- `in_range`
module _ (g : List ℕ) where
  pub steps_out : 4294967295 < steps_granted g → false ≡ in_range (grants_of g)
  unfolding in_range
  steps_out h = rw (lt-leb _ _ h)

  module _ (a : steps_granted g ≤ 4294967295) where
    pub shapes_out : 65535 < shapes_granted g → false ≡ in_range (grants_of g)
    unfolding in_range
    shapes_out h = rw (le-leb _ _ a, lt-leb _ _ h)

    module _ (b : shapes_granted g ≤ 65535) where
      pub entries_out : 65535 < entries_granted g → false ≡ in_range (grants_of g)
      unfolding in_range
      entries_out h = rw (le-leb _ _ a, le-leb _ _ b, lt-leb _ _ h)

      module _ (c : entries_granted g ≤ 65535) where
        pub text_out : 65535 < text_granted g → false ≡ in_range (grants_of g)
        unfolding in_range
        text_out h = rw (le-leb _ _ a, le-leb _ _ b, le-leb _ _ c, lt-leb _ _ h)

        module _ (d : text_granted g ≤ 65535) where
          pub no_call : calls_granted g < 1 → false ≡ in_range (grants_of g)
          unfolding in_range
          no_call h = rw (le-leb _ _ a, le-leb _ _ b, le-leb _ _ c, le-leb _ _ d, lt-leb _ _ h)

          pub calls_asked : 1 ≤ calls_granted g → leb (calls_granted g) 64 ≡ in_range (grants_of g)
          unfolding in_range
          calls_asked h = rw (le-leb _ _ a, le-leb _ _ b, le-leb _ _ c, le-leb _ _ d, le-leb _ _ h)

-- ---- what is known then
pub record Ranges (g : List ℕ) : Type 0 where
  pub steps : steps_granted g ≤ 4294967295
  pub shapes : shapes_granted g ≤ 65535
  pub entries : entries_granted g ≤ 65535
  pub text : text_granted g ≤ 65535
  pub calls : calls_granted g ≤ 64

pub in_ranges : (g : List ℕ) → in_range (grants_of g) ≡ true → Ranges g
unfolding in_range
in_ranges g e =
    let q = all_six (leb (steps_granted g) 4294967295) (leb (shapes_granted g) 65535) (leb (entries_granted g) 65535) (leb (text_granted g) 65535)
    (leb 1 (calls_granted g)) (leb (calls_granted g) 64) e in
    record {
      steps = leb-true _ _ q.0;
      shapes = leb-true _ _ q.1;
      entries = leb-true _ _ q.2;
      text = leb-true _ _ q.3;
      calls = leb-true _ _ q.5;
    }

-- ---- `words_needed`
rows_few : (c n : ℕ) → c ≤ 64 → n ≤ 65535 → (5 + c) * n ≤ 69 * 65535
rows_few c n h l = le_trans (mul-le-mul_left (5 + c) l) (omega arith)

module _ (g : List ℕ) (e : in_range (grants_of g) ≡ true) where
  pub shapes_fit : Fits w64 (5 * shapes_granted g)
  shapes_fit = record { fits = omega (arith, (in_ranges g e).shapes) }

  pub shapes_end_fits : Fits w64 (fixed_words + 5 * shapes_granted g)
  shapes_end_fits = record { fits = omega (arith, (in_ranges g e).shapes) }

  pub rows_fit : Fits w64 (5 + calls_granted g)
  rows_fit = record { fits = omega (arith, (in_ranges g e).calls) }

  entries_few : (5 + calls_granted g) * entries_granted g ≤ 69 * 65535
  entries_few = rows_few (calls_granted g) (entries_granted g) (in_ranges g e).calls (in_ranges g e).entries

  pub entries_fit : Fits w64 ((5 + calls_granted g) * entries_granted g)
  entries_fit = record { fits = omega (arith, entries_few) }

  pub words_fit : Fits w64 (words_needed g)
  words_fit = record { fits = omega (arith, (in_ranges g e).shapes, entries_few) }

-- ---- `can_read`
module _ (g : List ℕ) (tokens code : ℕ) (ok : Bool) (ranges : ok ≡ in_range (grants_of g)) where
  pub out_of_range : not ok ≡ true → false ≡ enough_to_read g tokens code
  unfolding enough_to_read
  out_of_range t = rw (sym ranges ∙ not-true ok t)

  module _ (t : not ok ≡ false) where
    granted_so : in_range (grants_of g) ≡ true
    granted_so = sym ranges ∙ not-false ok t

    pub few_tokens : tokens < 8193 → false ≡ enough_to_read g tokens code
    unfolding enough_to_read needed long_enough
    few_tokens h = rw (granted_so, lt-leb _ _ h)

    pub code_asked : 8193 ≤ tokens → leb 16384 code ≡ enough_to_read g tokens code
    unfolding enough_to_read needed long_enough
    code_asked a = rw (granted_so, le-leb _ _ a, and_true (leb 16384 code))

-- what is known then
pub record Readable (g : List ℕ) (tokens code : ℕ) : Type 0 where
  pub ranges : in_range (grants_of g) ≡ true
  pub tokens_long : 8193 ≤ tokens
  pub code_long : 16384 ≤ code

pub can_read : (g : List ℕ) (tokens code : ℕ) → enough_to_read g tokens code ≡ true → Readable g tokens code
unfolding enough_to_read needed long_enough
can_read g tokens code e =
    let q = all_three (in_range (grants_of g)) (leb 8193 tokens) (leb 16384 code) e in
    record { ranges = q.0; tokens_long = leb-true _ _ q.1; code_long = leb-true _ _ q.2 }

-- ---- `is_enough`
module _ (g : List ℕ) (tokens code words texts : ℕ) (ok : Bool) (asked : ok ≡ enough_to_read g tokens code) where
  pub unread : not ok ≡ true → false ≡ enough g tokens code words texts
  unfolding enough_to_read enough needed long_enough
  unread t = front_false (in_range (grants_of g)) (leb 8193 tokens) (leb 16384 code) _ (sym asked ∙ not-true ok t)

  module _ (t : not ok ≡ false) where
    readable : Readable g tokens code
    readable = can_read g tokens code (sym asked ∙ not-false ok t)

    pub is_in_range : in_range (grants_of g) ≡ true
    is_in_range = readable.ranges

    module _ (n : ℕ) (is-needed : n ≡ words_needed g) where
      pub few_words : words < n → false ≡ enough g tokens code words texts
      unfolding enough needed long_enough
      few_words h = rw (is_in_range, le-leb _ _ readable.tokens_long, le-leb _ _ readable.code_long, lt-leb (words_needed g) words (rw is-needed at h))

      pub texts_asked : n ≤ words → leb (text_granted g) texts ≡ enough g tokens code words texts
      unfolding enough needed long_enough
      texts_asked h =
          rw (is_in_range, le-leb _ _ readable.tokens_long, le-leb _ _ readable.code_long, le-leb (words_needed g) words (rw is-needed at h), and_true (leb (text_granted g) texts))

-- ---- operations on all four work slices
pub data Runs : Operation → Type 0 where
  draws : Runs drawing

module _ (o : Operation) (runs : Runs o) (program : List ℕ) (width height : ℤ) (g tokens code words texts out : List ℕ) where
  abbrev call : Call
  call = called o program width height g tokens code words texts out

  asked : admitted call ≡ enough g (length tokens) (length code) (length words) (length texts)
  unfolding admitted enough needed
  asked = go o runs
    where
      go : (o : Operation) → Runs o → admitted (called o program width height g tokens code words texts out) ≡ enough g (length tokens) (length code) (length words) (length texts)
      go checking x = elim x [ ]
      go drawing draws = refl

  module _ (ok : Bool) (e : ok ≡ enough g (length tokens) (length code) (length words) (length texts)) where
    -- ---- 71: nothing is touched
    module _ (t : not ok ≡ true) where
      refused : admitted call ≡ false
      refused = asked ∙ sym e ∙ not-true ok t

      refused_answer : number 71 0 0 0 ≡ answer call
      unfolding answer if◌then◌otherwise◌
      refused_answer = rw refused

      unchanged : (work : List ℕ) → work ≡ work_after call work
      unfolding work_after if◌then◌otherwise◌
      unchanged work = rw refused

      pub performed_nothing : Performed call (number 71 0 0 0) tokens code words texts tokens code words texts
      performed_nothing = record {
        answered = refused_answer;
        tokens_after = unchanged tokens;
        code_after = unchanged code;
        words_after = unchanged words;
        texts_after = unchanged texts;
      }

    -- ---- else the slices are cleared at the length they had
    module _ (t : not ok ≡ false) where
      accepted : admitted call ≡ true
      accepted = asked ∙ sym e ∙ not-false ok t

      pub ready : Ready g tokens code texts words
      unfolding enough needed long_enough
      ready =
          let q = all_five (in_range (grants_of g)) (leb 8193 (length tokens)) (leb 16384 (length code)) (leb (words_needed g) (length words)) (leb (text_granted g) (length texts))
          (sym e ∙ not-false ok t) in
          let r = in_ranges g q.0 in
          record {
            tokens_long = leb-true _ _ q.1;
            code_long = leb-true _ _ q.2;
            lent = record {
              room = record {
                steps = omega (arith, r.steps);
                shapes = omega (arith, r.shapes);
                entries = omega (arith, r.entries);
                text = omega (arith, r.text);
                calls = r.calls;
                words = leb-true _ _ q.3;
              };
              texts = leb-true _ _ q.4;
            };
          }

      booked_answer : booked (granted (grants_of g) out) (specified o program width height (suc (steps_granted g))) ≡ answer call
      unfolding answer run_of if◌then◌otherwise◌
      booked_answer = rw accepted

      cleared : (work after : List ℕ) (n : ℕ) → n ≡ length work → after ≡ replicate n 0 → after ≡ work_after call work
      unfolding work_after if◌then◌otherwise◌
      cleared work after n l h = h ∙ rw (l, accepted)

      pub performed : (a : Answer) → a ≡ booked (granted (grants_of g) out) (specified o program width height (suc (steps_granted g)))
          → (tokens' code' words' texts' : List ℕ) (k l m n : ℕ) → k ≡ length tokens → tokens' ≡ replicate k 0 → l ≡ length code → code' ≡ replicate l 0
          → m ≡ length words → words' ≡ replicate m 0 → n ≡ length texts → texts' ≡ replicate n 0
          → Performed call a tokens code words texts tokens' code' words' texts'
      performed a h tokens' code' words' texts' k l m n ek et el ec em ew en ex = record {
        answered = h ∙ booked_answer;
        tokens_after = cleared tokens tokens' k ek et;
        code_after = cleared code code' l el ec;
        words_after = cleared words words' m em ew;
        texts_after = cleared texts texts' n en ex;
      }

-- what drawing leaves in the out slice
module _ (program : List ℕ) (width height : ℤ) (g tokens code words texts out : List ℕ) (ok : Bool) (e : ok ≡ enough g (length tokens) (length code) (length words) (length texts))
    (t : not ok ≡ false) where
  abbrev whole : Run Outcome
  whole = specified drawing program width height (suc (steps_granted g))

  pub written : out_after_end drawing (book (granted (grants_of g) out) nothing_yet whole.takings) whole.end out
      ≡ out_after (called drawing program width height g tokens code words texts out)
  unfolding out_after run_of if◌then◌otherwise◌
  written = rw (accepted drawing draws program width height g tokens code words texts out ok e t)
