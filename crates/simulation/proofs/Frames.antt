-- What stays when words change that do not matter.
use Prim.Native.Nat.{ℕ, zero, suc, ◌+◌, ◌-◌, ◌/◌, ◌%◌, ◌^◌, ◌≤◌, ◌<◌}
use native.Mathlib.Omega.{arith}
use native.Mathlib.Nat.{le_refl, le_trans, le_of_lt, add-zero}
use mathlib.Core.Path.{◌≡◌, refl, ap, sym, ◌∙◌}
use mathlib.Core.Logic.{◌≢◌}
use mathlib.Core.Bool.{Bool, true, false, cond}
use mathlib.Core.List.{List, [], ◌∷◌, ◌++◌}
use lib.ListN.{length, get_or}
use lib.Dec.{eqb}
use Rattle.meaning.specs.Basics.{if◌then◌otherwise◌}
use borrow.Author.Tests.{lt-ltb, le-ltb}
use Rattle.meaning.specs.Token.{Token}
use Rattle.meaning.specs.Value.{string}
use Rattle.meaning.specs.State.{atom, group, no_shape}
use Rattle.meaning.specs.State as State
use Rattle.machine.specs.declared.Value.{Value}
use Rattle.machine.specs.declared.Value.TheVariants.{Integer, Text, Boolean, Nothing, Table, Shape}
use Rattle.machine.specs.Layout.{shapes_used, text_used, declared, arguments_held, calls_used, running, components_made, loop_unit, frame}
use Rattle.machine.specs.Layout.{call_place, shape_place, component_place, path_place, first_argument, first_call}
use Rattle.machine.specs.Act.{Raw}
use Rattle.machine.specs.Texts.{origin_in, start_in, size_in}
use Rattle.machine.specs.declared.Figure.{Figure}
use Rattle.machine.specs.Shapes.{kind_group, is_group_at, figure_at, destroyed_at}
use Rattle.machine.specs.Groups.{component_at, first_at, count_at}
use Rattle.machine.specs.Show.{shown_from, figures_in}
use Rattle.machine.specs.Stack.{argument_at}
use Rattle.machine.specs.Variables.{word_in, order_in, number_of, holding_at, holding_of, holding}
use Rattle.simulation.specs.Scope.{scope_of}
use Rattle.simulation.specs.Meant.{meant_value, meant_word, meant_figure, listed, variable_at, frame_of, variables_of, frame_at, declared_at, running_at, waiting_of, suspended_of}
use Rattle.simulation.specs.Meant.{components_of, content_at, shape_at, shapes_of}
use Rattle.simulation.specs.Sound.{Held, Valid, Proper, Framed, size_of, Variables, Waiting, Grouped, Shapes, mark_in, Marks}
use Rattle.simulation.specs.Follows.{Stays, Later}
use Rattle.simulation.specs.After.{Untouched}
use Rattle.simulation.proofs.Listed.{listed_same, listed_first, get_d_listed}

-- ---- what is held stays held
pub held_more : {program : List ℕ} {used used' h : ℕ} → used ≤ used' → Held program used h → Held program used' h
held_more {program} {used} {used'} {h} l v = record { small = v.small; inside = go (eqb (origin_in h) 0) v.inside }
  where
    go : (b : Bool) → start_in h + size_in h ≤ cond b (length program) used → start_in h + size_in h ≤ cond b (length program) used'
    go true e = e
    go false e = omega arith

-- ---- shapes stay
pub group_stays : {ws ws' : List ℕ} {i : ℕ} → Stays ws ws' i → is_group_at ws' i ≡ is_group_at ws i
group_stays a = ap (λ k. eqb k kind_group) a.kind

stays_trans : {ws ws' ws'' : List ℕ} {i : ℕ} → Stays ws ws' i → Stays ws' ws'' i → Stays ws ws'' i
stays_trans a b = record {
  kind = b.kind ∙ a.kind;
  figure = λ n. b.figure (group_stays a ∙ n) ∙ a.figure n;
  slots = b.slots ∙ a.slots;
  dead = λ e. b.dead (a.dead e);
}

-- if its three words do
pub stays_words : (ws ws' : List ℕ) (i : ℕ) → ((j : ℕ) → j < 3 → get_or ws' (shape_place i + j) 0 ≡ get_or ws (shape_place i + j) 0) → Stays ws ws' i
unfolding figure_at
stays_words ws ws' i h =
    let a : get_or ws' (shape_place i) 0 ≡ get_or ws (shape_place i) 0 = rw (← add-zero (shape_place i)) (h 0 (omega arith)) in
    record { kind = rw a; figure = λ n. rw (a, h 1 (omega arith), h 2 (omega arith)); slots = h 1 (omega arith); dead = λ e. rw a e }

pub later_refl : (program : List ℕ) (r : Raw) → Later program r r
later_refl program r = record {
  steps = le_refl _;
  shapes = le_refl _;
  text = le_refl _;
  tables = le_refl _;
  texts = λ h v. refl;
  figures = λ i l. record { kind = refl; figure = λ n. refl; slots = refl; dead = λ e. e };
}

pub later_trans : {program : List ℕ} {r r' r'' : Raw} → Later program r r' → Later program r' r'' → Later program r r''
later_trans a b = record {
  steps = le_trans a.steps b.steps;
  shapes = le_trans a.shapes b.shapes;
  text = le_trans a.text b.text;
  tables = le_trans a.tables b.tables;
  texts = λ h v. b.texts h (held_more a.text v) ∙ a.texts h v;
  figures = λ i l. stays_trans (a.figures i l) (b.figures i (le_trans l a.shapes));
}

pub append_none : {A : Type 0} (xs ys : List A) → xs ++ ys ≡ [] → (xs ≡ []) × (ys ≡ [])
append_none [] ys e = (refl, e)
append_none (x ∷ xs) ys e = let y : ◌≡◌ {A = ℕ} (suc (length (xs ++ ys))) 0 = ap length e in absurd (omega arith)

both_none : {A : Type 0} {xs ys : List A} → xs ≡ [] → ys ≡ [] → xs ++ ys ≡ []
both_none a b = rw (a, b)

-- ---- components and marks
pub record SameComponents (g : List ℕ) (r r' : Raw) : Type 0 where
  pub made : get_or r.words components_made 0 ≤ get_or r'.words components_made 0
  pub words : (k : ℕ) → k < get_or r.words components_made 0 → get_or r'.words (component_place g k) 0 ≡ get_or r.words (component_place g k) 0

-- the marks of a slot, by its word
module _ (g ws : List ℕ) (d k : ℕ) where
  pub mark_here : k < get_or ws components_made 0 → mark_in g ws d k ≡ get_or ws (path_place g d k) 0
  unfolding mark_in
  mark_here l = rw (lt-ltb k (get_or ws components_made 0) l)

  pub mark_none : get_or ws components_made 0 ≤ k → mark_in g ws d k ≡ 0
  unfolding mark_in
  mark_none l = rw (le-ltb k (get_or ws components_made 0) l)

  pub mark_same : (ws' : List ℕ) → get_or ws' components_made 0 ≡ get_or ws components_made 0 → get_or ws' (path_place g d k) 0 ≡ get_or ws (path_place g d k) 0 → mark_in g ws' d k ≡ mark_in g ws d k
  unfolding mark_in
  mark_same ws' m w = rw (m, w)

-- all of them as they were
pub record SameRest (g : List ℕ) (r r' : Raw) : Type 0 where
  pub parts : get_or r'.words components_made 0 ≡ get_or r.words components_made 0
  pub unit : get_or r'.words loop_unit 0 ≡ get_or r.words loop_unit 0
  pub calls : get_or r'.words calls_used 0 ≡ get_or r.words calls_used 0
  pub high : (j : ℕ) → component_place g 0 ≤ j → get_or r'.words j 0 ≡ get_or r.words j 0

module _ {g : List ℕ} {r r' : Raw} (a : SameRest g r r') where
  pub rest_components : SameComponents g r r'
  rest_components = record { made = omega (arith, a.parts); words = λ k l. a.high _ (omega arith) }

  pub rest_mark : (d k : ℕ) → mark_in g r'.words d k ≡ mark_in g r.words d k
  rest_mark d k = mark_same g r.words d k r'.words a.parts (a.high _ (omega arith))

  pub rest_marks : Marks g r.words → Marks g r'.words
  rest_marks m = record {
    idle = λ d k x y. rest_mark d k ∙ m.idle d k (rw a.calls at x) y;
    own = λ k x. rw (a.calls, a.unit, rest_mark (get_or r.words calls_used 0 - 1) k) (m.own k (rw a.calls at x));
  }

-- ---- the calls under way
pub untouched_refl : (program : List ℕ) (ts : List Token) (g : List ℕ) (r : Raw) → Untouched program ts g r r
untouched_refl program ts g r = record {
  calls = refl;
  kept = λ d j z h l. refl;
  below = λ k h. refl;
  above = λ k h l. refl;
  made = le_refl _;
  components = λ k h. refl;
  unit = refl;
  marks = λ d k x. refl;
  bound = λ i h n. n;
  running = refl;
  frame = refl;
}

pub untouched_trans : {program : List ℕ} {ts : List Token} {g : List ℕ} {r r' r'' : Raw} → get_or r.words arguments_held 0 ≤ get_or r'.words arguments_held 0
    → Untouched program ts g r r' → Untouched program ts g r' r'' → Untouched program ts g r r''
untouched_trans h a b = record {
  calls = b.calls ∙ a.calls;
  kept = λ d j z l m. b.kept d j z (rw a.calls l) m ∙ a.kept d j z l m;
  below = λ k l. b.below k (rw a.frame l) ∙ a.below k l;
  above = λ k l m. b.above k (rw (a.frame, a.running) l) (le_trans m h) ∙ a.above k l m;
  made = le_trans a.made b.made;
  components = λ k l. b.components k (le_trans l a.made) ∙ a.components k l;
  unit = b.unit ∙ a.unit;
  marks = λ d k x. b.marks d k (rw a.calls x) ∙ a.marks d k x;
  bound = λ i l n. b.bound i (rw a.running l) (a.bound i l n);
  running = b.running ∙ a.running;
  frame = b.frame ∙ a.frame;
}

pub untouched_components : {program : List ℕ} {ts : List Token} {g : List ℕ} {r r' : Raw} → Untouched program ts g r r' → SameComponents g r r'
untouched_components u = record { made = u.made; words = u.components }

-- the words of calls that wait, and those of the stack below the frame and above it
pub untouched_but : {program : List ℕ} {ts : List Token} {g : List ℕ} {r r' : Raw} → SameRest g r r'
    → get_or r'.words running 0 ≡ get_or r.words running 0 → get_or r'.words frame 0 ≡ get_or r.words frame 0
    → ((i : ℕ) → first_call ≤ i → i < first_argument → get_or r'.words i 0 ≡ get_or r.words i 0)
    → ((k : ℕ) → k < get_or r.words frame 0 → argument_at r'.words k ≡ argument_at r.words k)
    → ((k : ℕ) → get_or r.words frame 0 + suc (size_of program ts (get_or r.words running 0)) ≤ k → k < get_or r.words arguments_held 0
    → argument_at r'.words k ≡ argument_at r.words k)
    → ((i : ℕ) → i ≤ size_of program ts (get_or r.words running 0) → holding r.words i ≢ 0 → holding r'.words i ≢ 0) → Untouched program ts g r r'
untouched_but a n f e s t b = record {
  calls = a.calls;
  kept = λ d j z h l. e (call_place d + j) (omega arith) (omega arith);
  below = s;
  above = t;
  made = omega (arith, a.parts);
  components = λ k l. a.high _ (omega arith);
  unit = a.unit;
  marks = λ d k x. rest_mark a d k;
  bound = b;
  running = n;
  frame = f;
}

-- all of the stack, as far as it was held
pub untouched_words : {program : List ℕ} {ts : List Token} {g : List ℕ} {r r' : Raw} → SameRest g r r'
    → get_or r'.words running 0 ≡ get_or r.words running 0 → get_or r'.words frame 0 ≡ get_or r.words frame 0
    → ((i : ℕ) → first_call ≤ i → i < first_argument → get_or r'.words i 0 ≡ get_or r.words i 0)
    → ((k : ℕ) → k < get_or r.words arguments_held 0 → argument_at r'.words k ≡ argument_at r.words k)
    → Variables program ts r.words → Untouched program ts g r r'
untouched_words {r = r} a n f e s v =
    untouched_but a n f e (λ k l. s k (omega (arith, v.within))) (λ k l m. s k m)
    (λ i l z. rw (f, s (get_or r.words frame 0 + i) (omega (arith, v.within))) z)

-- the words of calls that wait, and the stack below the frame
pub record SameStack (r r' : Raw) : Type 0 where
  pub kept : (d j : ℕ) → 0 < d → d < get_or r.words calls_used 0 → j < 4 → get_or r'.words (call_place d + j) 0 ≡ get_or r.words (call_place d + j) 0
  pub below : (k : ℕ) → k < get_or r.words frame 0 → argument_at r'.words k ≡ argument_at r.words k

pub same_stack : {program : List ℕ} {ts : List Token} {g : List ℕ} {r r' : Raw} → Untouched program ts g r r' → SameStack r r'
same_stack u = record { kept = u.kept; below = u.below }

-- the variables of the call under way, which stay within what the stack holds
pub record SameVariables (program : List ℕ) (ts : List Token) (r r' : Raw) : Type 0 where
  pub count : get_or r'.words declared 0 ≡ get_or r.words declared 0
  pub procedure : get_or r'.words running 0 ≡ get_or r.words running 0
  pub place : get_or r'.words frame 0 ≡ get_or r.words frame 0
  pub words : (k : ℕ) → k ≤ size_of program ts (get_or r.words running 0)
      → argument_at r'.words (get_or r.words frame 0 + k) ≡ argument_at r.words (get_or r.words frame 0 + k)
  pub within : get_or r.words frame 0 + suc (size_of program ts (get_or r.words running 0)) ≤ get_or r'.words arguments_held 0

-- if the stack stays as far as it was held
pub same_words : {program : List ℕ} {ts : List Token} {r r' : Raw} → get_or r'.words declared 0 ≡ get_or r.words declared 0
    → get_or r'.words running 0 ≡ get_or r.words running 0 → get_or r'.words frame 0 ≡ get_or r.words frame 0
    → get_or r.words arguments_held 0 ≤ get_or r'.words arguments_held 0
    → ((k : ℕ) → k < get_or r.words arguments_held 0 → argument_at r'.words k ≡ argument_at r.words k) → Variables program ts r.words → SameVariables program ts r r'
same_words n m f high s v = record {
  count = n;
  procedure = m;
  place = f;
  words = λ k h. s _ (omega (arith, v.within));
  within = le_trans v.within high;
}

pub record SameWaiting (program : List ℕ) (ts : List Token) (r r' : Raw) : Type 0 where
  pub waiting : Waiting program ts r'.words
  pub suspended : suspended_of program ts r' ≡ suspended_of program ts r

module _ {program : List ℕ} {r r' : Raw} (l : Later program r r') where
  pub valid_later : (v : Value) → Valid program r.words v → Valid program r'.words v
  unfolding Valid
  valid_later (Integer z) h = h
  valid_later (Text t) h = held_more l.text h
  valid_later (Boolean b) h = tt
  valid_later Nothing h = tt
  valid_later (Table t) h = le_trans h l.tables
  valid_later (Shape i) h = le_trans h l.shapes

  pub meant_later : (v : Value) → Valid program r.words v → meant_value program r'.texts v ≡ meant_value program r.texts v
  unfolding Valid meant_value
  meant_later (Integer z) h = refl
  meant_later (Text t) h = ap string (l.texts t h)
  meant_later (Boolean b) h = refl
  meant_later Nothing h = refl
  meant_later (Table t) h = refl
  meant_later (Shape i) h = refl

  -- ---- a frame whose words stay
  module _ {f n size : ℕ} (same : (k : ℕ) → k ≤ size → argument_at r'.words (f + k) ≡ argument_at r.words (f + k)) (v : Framed program r.words f n size) where
    pub holding_as : (i : ℕ) → i ≤ size → holding_at r'.words f i ≡ holding_at r.words f i
    holding_as i h = ap word_in (same i h)

    pub number_as : (k : ℕ) → k < n → number_of r'.words f k ≡ number_of r.words f k
    number_as k h = ap order_in (same k (omega (arith, v.few)))

    -- what a declaration's variable holds
    held_as : (k : ℕ) → k < n → holding_of r'.words f k ≡ holding_of r.words f k
    held_as k h = ap (holding_at r'.words f) (number_as k h) ∙ holding_as (number_of r.words f k) (omega (arith, v.small k h))

    pub framed_kept : Framed program r'.words f n size
    framed_kept = record {
      brief = v.brief;
      few = v.few;
      small = λ k h. rw (number_as k h) (v.small k h);
      there = λ k h. rw (held_as k h) (v.there k h);
      apart = λ j k a b e. v.apart j k a b (sym (number_as j a) ∙ e ∙ number_as k b);
      found = λ i h z.
          let q = v.found i h (rw (holding_as i h) at z) in
          (q.0, q.1, number_as q.0 q.1 ∙ q.2);
      holds = λ i h. rw (holding_as i h) (valid_later _ (v.holds i h));
    }

    variable_same : (names : List (List ℕ)) (k : ℕ) → k < n → variable_at program names r' f k ≡ variable_at program names r f k
    unfolding variable_at
    variable_same names k h =
        let a : get_or names (number_of r'.words f k) [] ≡ get_or names (number_of r.words f k) [] = rw (number_as k h) in
        let b : meant_word program r' (holding_of r'.words f k) ≡ meant_word program r (holding_of r.words f k) =
        rw (held_as k h) (meant_later _ (v.holds (number_of r.words f k) (omega (arith, v.small k h)))) in
        λ i. record { name = a i; holds = b i }

    pub frame_same : (names : List (List ℕ)) → frame_of program names r' f n ≡ frame_of program names r f n
    unfolding frame_of
    frame_same names = listed_first (variable_at program names r' f) (variable_at program names r f) n (variable_same names)

  -- ---- variables
  module _ {ts : List Token} (same : SameVariables program ts r r') (v : Variables program ts r.words) where
    pub variables_kept : Variables program ts r'.words
    variables_kept = record {
      framed = rw (same.count, same.procedure, same.place) (framed_kept same.words v.framed);
      within = rw (same.procedure, same.place) same.within;
    }

    pub variables_same : variables_of program ts r' ≡ variables_of program ts r
    variables_same = rw (same.count, same.procedure, same.place) (frame_same same.words v.framed (scope_of program ts (get_or r.words running 0)))

  -- ---- calls that wait
  module _ {ts : List Token} (u : SameStack r r') (w : Waiting program ts r.words) where
    module _ (d : ℕ) (z : 0 < d) (h : d < get_or r.words calls_used 0) where
      frame_kept : frame_at r'.words d ≡ frame_at r.words d
      frame_kept = rw (← add-zero (call_place d)) (u.kept d 0 z h (omega arith))

      -- its words lie below the frame of the call under way
      under : (k : ℕ) → k ≤ size_of program ts (running_at r.words d) → argument_at r'.words (frame_at r.words d + k) ≡ argument_at r.words (frame_at r.words d + k)
      under k l = u.below _ (omega (arith, w.under d z h))

      pub waiting_end : frame_at r'.words d + suc (size_of program ts (running_at r'.words d)) ≡ frame_at r.words d + suc (size_of program ts (running_at r.words d))
      waiting_end = rw (frame_kept, u.kept d 2 z h (omega arith))

      pub waiting_framed : Framed program r'.words (frame_at r'.words d) (declared_at r'.words d) (size_of program ts (running_at r'.words d))
      waiting_framed = rw (frame_kept, u.kept d 1 z h (omega arith), u.kept d 2 z h (omega arith)) (framed_kept under (w.framed d z h))

      waiting_same : waiting_of program ts r' d ≡ waiting_of program ts r d
      unfolding waiting_of
      waiting_same =
          rw (frame_kept, u.kept d 1 z h (omega arith), u.kept d 2 z h (omega arith))
          (frame_same under (w.framed d z h) (scope_of program ts (running_at r.words d)))

    pub waiting_below : (d e : ℕ) → 0 < d → d < e → e < get_or r.words calls_used 0 → frame_at r'.words d + suc (size_of program ts (running_at r'.words d)) ≤ frame_at r'.words e
    waiting_below d e z a b = rw (waiting_end d z (le_trans a (le_of_lt b)), frame_kept e (omega arith) b) (w.below d e z a b)

    pub frames_same : listed (waiting_of program ts r') 1 (get_or r.words calls_used 0 - 1) ≡ suspended_of program ts r
    unfolding suspended_of
    frames_same = listed_same (waiting_of program ts r') (waiting_of program ts r) 1 (get_or r.words calls_used 0 - 1) (λ d a b. waiting_same d a (omega arith))

    pub waits_same : get_or r'.words calls_used 0 ≡ get_or r.words calls_used 0 → get_or r.words frame 0 ≤ get_or r'.words frame 0 → SameWaiting program ts r r'
    unfolding suspended_of
    waits_same c f = record {
      waiting = record {
        framed = λ d z h. waiting_framed d z (rw c at h);
        below = λ d e z a b. waiting_below d e z a (rw c at b);
        under = λ d z h. let q = rw c at h in le_trans (rw (waiting_end d z q) (w.under d z q)) f;
      };
      suspended = rw c frames_same;
    }

  pub same_waiting : {ts : List Token} {g : List ℕ} → Untouched program ts g r r' → Waiting program ts r.words → SameWaiting program ts r r'
  same_waiting u w = waits_same (same_stack u) w u.calls (omega (arith, u.frame))

  -- ---- shapes
  pub proper_later : {f : Figure} → Proper program (get_or r.words text_used 0) f → Proper program (get_or r'.words text_used 0) f
  proper_later p = record {
    kind = p.kind;
    a = p.a;
    b = p.b;
    c = p.c;
    d = p.d;
    text = held_more l.text p.text;
    plain = p.plain;
    lettered = p.lettered;
  }

  module _ {g : List ℕ} (shapes : Shapes program g r.words) where
    pub figure_later : (i : ℕ) → i < get_or r.words shapes_used 0 → is_group_at r.words i ≡ false
        → meant_figure program r'.texts (figure_at r'.words i) ≡ meant_figure program r.texts (figure_at r.words i)
    unfolding meant_figure
    figure_later i h n = rw ((l.figures i h).figure n, l.texts (figure_at r.words i).text (shapes.proper i h n).text)

    pub proper_kept : (i : ℕ) → i < get_or r.words shapes_used 0 → is_group_at r.words i ≡ false → Proper program (get_or r'.words text_used 0) (figure_at r'.words i)
    proper_kept i h n = rw ((l.figures i h).figure n) (proper_later (shapes.proper i h n))

    module _ (same : SameComponents g r r') where
      pub component_later : (k : ℕ) → k < get_or r.words components_made 0 → component_at g r'.words k ≡ component_at g r.words k
      component_later k h = ap (λ (w : ℕ). w % 2 ^ 32) (same.words k h)

      pub first_later : (i : ℕ) → i < get_or r.words shapes_used 0 → first_at r'.words i ≡ first_at r.words i
      first_later i h = ap (λ (w : ℕ). w % 2 ^ 16) (l.figures i h).slots

      pub count_later : (i : ℕ) → i < get_or r.words shapes_used 0 → count_at r'.words i ≡ count_at r.words i
      count_later i h = ap (λ (w : ℕ). w / 2 ^ 32 % 2 ^ 16) (l.figures i h).slots

      pub grouped_later : (i : ℕ) → i < get_or r.words shapes_used 0 → Grouped g r.words i → Grouped g r'.words i
      grouped_later i h a =
          let x = first_later i h in
          let y = count_later i h in record {
            within = rw (x, y) (le_trans a.within same.made);
            older = λ k u v. let m = rw (x, y) at v in rw (component_later k (le_trans m a.within)) (a.older k (rw x at u) m);
            follow = λ k u v. let m = rw (x, y) at v in rw (x, y, same.words k (le_trans m a.within)) (a.follow k (rw x at u) m);
          }

      pub components_later : (i : ℕ) → i < get_or r.words shapes_used 0 → is_group_at r.words i ≡ true → components_of g r'.words i ≡ components_of g r.words i
      unfolding components_of
      components_later i h n =
          rw (first_later i h, count_later i h)
          (listed_same _ _ (first_at r.words i) (count_at r.words i) (λ k a b. component_later k (le_trans b (shapes.groups i h n).within)))

      pub content_stays : (i : ℕ) → i < get_or r.words shapes_used 0 → content_at program g r' i ≡ content_at program g r i
      unfolding content_at if◌then◌otherwise◌
      content_stays i h = rw (group_stays (l.figures i h)) (go (is_group_at r.words i) refl)
        where
          go : (b : Bool) → is_group_at r.words i ≡ b
              → (if b then (λ _. group (components_of g r'.words i)) otherwise λ _. atom (meant_figure program r'.texts (figure_at r'.words i)))
              ≡ (if b then (λ _. group (components_of g r.words i)) otherwise λ _. atom (meant_figure program r.texts (figure_at r.words i)))
          go true n = ap group (components_later i h n)
          go false n = ap atom (figure_later i h n)

      -- where no figure was left, none is
      shown_none : (b i k n : ℕ) → i < get_or r.words shapes_used 0
          → ((c : ℕ) → c < i → figures_in b g r.words c ≡ [] → figures_in b g r'.words c ≡ [])
          → k + n ≤ get_or r.words components_made 0 → ((j : ℕ) → k ≤ j → j < k + n → component_at g r.words j < i)
          → shown_from (figures_in b g r.words) g r.words k n ≡ [] → shown_from (figures_in b g r'.words) g r'.words k n ≡ []
      unfolding shown_from if◌then◌otherwise◌
      shown_none b i k zero h f w o e = refl
      shown_none b i k (suc n) h f w o e =
          let c = component_at g r.words k in
          let same : component_at g r'.words k ≡ c = component_later k (omega arith) in
          let older : c < i = o k (omega arith) (omega arith) in
          let q = append_none (if destroyed_at r.words c then (λ _. []) otherwise λ _. figures_in b g r.words c) (shown_from (figures_in b g r.words) g r.words (k + 1) n) e in
          rw same (both_none
          (one c (destroyed_at r.words c) (destroyed_at r'.words c) refl refl (l.figures c (le_trans older (le_of_lt h))).dead (f c older) q.0)
          (shown_none b i (k + 1) n h f (omega arith) (λ j x y. o j (omega arith) (omega arith)) q.1))
        where
          one : (c : ℕ) (x y : Bool) → destroyed_at r.words c ≡ x → destroyed_at r'.words c ≡ y → (destroyed_at r.words c ≡ true → destroyed_at r'.words c ≡ true)
              → (figures_in b g r.words c ≡ [] → figures_in b g r'.words c ≡ []) → (if x then (λ _. []) otherwise λ _. figures_in b g r.words c) ≡ []
              → (if y then (λ _. []) otherwise λ _. figures_in b g r'.words c) ≡ []
          one c x true p q d f e = refl
          one c true false p q d f e = let z : ◌≡◌ {A = Bool} true false = sym (d p) ∙ q in let y : ◌≡◌ {A = ℕ} 0 1 = cc in absurd (omega arith)
          one c false false p q d f e = f e

      pub figures_none : (b i : ℕ) → i < get_or r.words shapes_used 0 → figures_in b g r.words i ≡ [] → figures_in b g r'.words i ≡ []
      unfolding figures_in if◌then◌otherwise◌
      figures_none zero i h e = refl
      figures_none (suc b) i h e = rw (group_stays (l.figures i h)) (go (is_group_at r.words i) refl (λ c o. figures_none b c (le_trans o (le_of_lt h))) e)
        where
          go : (t : Bool) → is_group_at r.words i ≡ t → ((c : ℕ) → c < i → figures_in b g r.words c ≡ [] → figures_in b g r'.words c ≡ [])
              → (if t then (λ _. shown_from (figures_in b g r.words) g r.words (first_at r.words i) (count_at r.words i)) otherwise λ _. i ∷ []) ≡ []
              → (if t then (λ _. shown_from (figures_in b g r'.words) g r'.words (first_at r'.words i) (count_at r'.words i)) otherwise λ _. i ∷ []) ≡ []
          go true n f e =
              let a = shapes.groups i h n in
              rw (first_later i h, count_later i h)
              (shown_none b i (first_at r.words i) (count_at r.words i) h f a.within a.older e)
          go false n f e = e

  pub record SameShapes : Type 0 where
    pub count : get_or r'.words shapes_used 0 ≡ get_or r.words shapes_used 0
    pub words : (i j : ℕ) → i < get_or r.words shapes_used 0 → j < 3 → get_or r'.words (shape_place i + j) 0 ≡ get_or r.words (shape_place i + j) 0

  module _ {g : List ℕ} (parts : SameComponents g r r') (same : SameShapes) (shapes : Shapes program g r.words) where
    pub shapes_kept : Shapes program g r'.words
    shapes_kept = record {
      proper = λ i h n. let k = rw same.count at h in proper_kept shapes i k (sym (group_stays (l.figures i k)) ∙ n);
      first = λ i h. let k = rw same.count at h in rw (same.words i 1 k (omega arith)) (shapes.first i k);
      second = λ i h. let k = rw same.count at h in rw (same.words i 2 k (omega arith)) (shapes.second i k);
      groups = λ i h n. let k = rw same.count at h in grouped_later shapes parts i k (shapes.groups i k (sym (group_stays (l.figures i k)) ∙ n));
      order = λ i j u h m n.
          let k = rw same.count at h in
          let o = le_trans u (le_of_lt k) in
          rw (first_later shapes parts i o, count_later shapes parts i o, first_later shapes parts j k)
          (shapes.order i j u k (sym (group_stays (l.figures i o)) ∙ m) (sym (group_stays (l.figures j k)) ∙ n));
      hollow = λ i h n e.
          let k = rw same.count at h in
          figures_none shapes parts (suc i) i k (shapes.hollow i k (sym (group_stays (l.figures i k)) ∙ n) (rw (same.words i 2 k (omega arith)) at e));
    }

    pub shapes_same : shapes_of program g r' ≡ shapes_of program g r
    unfolding shapes_of shape_at
    shapes_same =
        rw same.count (listed_first (shape_at program g r') (shape_at program g r) (get_or r.words shapes_used 0)
        (λ j b.
        let w : get_or r'.words (shape_place j) 0 ≡ get_or r.words (shape_place j) 0 =
        rw (← add-zero (shape_place j)) (same.words j 0 b (omega arith)) in
        rw (content_stays shapes parts j b, w)))

-- what was made of a shape
pub shape_made : (program g : List ℕ) (r : Raw) (i : ℕ) → i < get_or r.words shapes_used 0
    → get_or (shapes_of program g r) i no_shape ≡ shape_at program g r i
unfolding shapes_of
shape_made program g r i h =
    let q : 0 + i ≡ i = omega arith in
    get_d_listed (shape_at program g r) 0 (get_or r.words shapes_used 0) i no_shape h ∙ ap (shape_at program g r) q

pub content_made : (program g : List ℕ) (r : Raw) (i : ℕ) → i < get_or r.words shapes_used 0
    → (get_or (shapes_of program g r) i no_shape).content ≡ content_at program g r i
unfolding shape_at
content_made program g r i h = ap (λ (s : State.Shape). s.content) (shape_made program g r i h)
