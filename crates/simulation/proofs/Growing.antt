-- One shape more: the words of a shape, and what holds when the last one is new.
use Prim.Native.Nat.{ℕ, suc, ◌+◌, ◌-◌, ◌*◌, ◌/◌, ◌%◌, ◌^◌, ◌≤◌, ◌<◌}
use native.Mathlib.Nat.{le_trans, add-zero}
use native.Mathlib.Omega.{arith}
use mathlib.Core.Path.{◌≡◌, refl, ap, ap₂, sym, ◌∙◌}
use mathlib.Core.Logic.{◌≢◌}
use mathlib.Core.Bool.{Bool, true, false}
use mathlib.Core.List.{List, [], ◌∷◌, ◌++◌}
use lib.ListN.{get_or, set, length, length-set}
use lib.Seq.{get_or-set_same, get_or-set_other}
use lib.Dec.{eqb}
use lib.IntN.{ℤ, pos, negsuc}
use lib.Signed.{mag}
use mir.Syntax.{w32}
use mir.Val.{to_z}
use borrow.Author.Tests.{eqb-true, eqb-false}
use Rattle.meaning.specs.Token.{Token}
use Rattle.meaning.specs.Integer.{bits, wrap}
use Rattle.meaning.proofs.IntegerLaws.{wrap_id}
use Rattle.meaning.specs.State.{State, with_shape}
use Rattle.meaning.specs.State as State
use Rattle.meaning.specs.Run as Run
use Rattle.meaning.specs.Book.{Amounts}
use Rattle.machine.specs.Layout.{
  steps_used,
  shapes_used,
  entries_used,
  text_used,
  tables_made,
  declared,
  arguments_held,
  calls_used,
  running,
  entries_made,
  components_made,
  waiting_held,
  loop_unit,
  shapes_granted,
  entries_granted,
  calls_granted,
  fixed_words,
  frame,
  call_place,
  argument_place,
  shape_place,
  entry_place,
  component_place,
  first_call,
}
use Rattle.machine.specs.Act.{Raw, raw}
use Rattle.machine.specs.Shapes.{first_word, pair_word, low_number, high_number, is_group_at, figure_at}
use Rattle.machine.specs.Groups.{first_at, count_at}
use Rattle.machine.specs.Show.{figures_in}
use Rattle.machine.specs.Loops.{hollow_at}
use Rattle.simulation.specs.Meant.{listed, content_at, shape_at, shapes_of}
use Rattle.simulation.specs.Sound.{Proper, Counted, Grouped, Shapes, mark_in, Marks}
use Rattle.simulation.specs.Follows.{Related, Later}
use Rattle.simulation.proofs.Listed.{listed_first, listed_more, length_listed}
use Rattle.simulation.proofs.Frames.{
  group_stays,
  stays_words,
  SameComponents,
  SameVariables,
  same_words,
  variables_kept,
  variables_same,
  SameWaiting,
  same_waiting,
  proper_kept,
  first_later,
  count_later,
  grouped_later,
  content_stays,
  figures_none,
}
use Rattle.simulation.proofs.Holding.{SameEntries, entries_kept, entries_same}
use Rattle.simulation.proofs.Results.{Untouched, After}

-- ---- a figure's words
bits_below : (z : ℤ) → bits z < 2 ^ 32
unfolding bits
bits_below (pos n) = omega arith
bits_below (negsuc n) = omega arith

bits_back : (z : ℤ) → mag z < 2 ^ 31 → to_z w32 (bits z) ≡ z
unfolding wrap
bits_back z h = wrap_id z h

pub low_of : (x y : ℤ) → mag x < 2 ^ 31 → low_number (pair_word x y) ≡ x
low_of x y h =
    let q : pair_word x y % 2 ^ 32 ≡ bits x = omega (arith, bits_below x) in
    rw q (bits_back x h)

pub high_of : (x y : ℤ) → mag y < 2 ^ 31 → high_number (pair_word x y) ≡ y
high_of x y h =
    let q : pair_word x y / 2 ^ 32 ≡ bits y = omega (arith, bits_below x) in
    let t : bits y % 2 ^ 32 ≡ bits y = omega (arith, bits_below y) in
    rw (q, t) (bits_back y h)

pub pair_small : (x y : ℤ) → pair_word x y < 2 ^ 64
pair_small x y = omega (arith, bits_below x, bits_below y)

pub kind_of : (k t : ℕ) → k < 8 → first_word k t / 2 % 8 ≡ k
kind_of k t h =
    let q : first_word k t / 2 ≡ k + 8 * (t % 2 ^ 40) = omega arith in
    rw q (omega arith)

pub text_of : (k t : ℕ) → t < 2 ^ 40 → first_word k t / 16 ≡ t
text_of k t h =
    let q : t % 2 ^ 40 ≡ t = omega arith in
    let k' : k % 8 < 8 = omega arith in
    rw q (omega arith)

pub alive : (k t : ℕ) → first_word k t % 2 ≡ 0
alive k t = omega arith

-- what holds of the numbers below n and of n holds of those below n + 1
pub up_to : (P : ℕ → Type 0) (n : ℕ) → ((i : ℕ) → i < n → P i) → P n → (i : ℕ) → i < n + 1 → P i
up_to P n below here i l = go (eqb i n) refl
  where
    go : (b : Bool) → eqb i n ≡ b → P i
    go true e = rw (eqb-true i n e) here
    go false e = below i (let q : i ≢ n = eqb-false i n e in omega arith)

-- four words set
module _ (ws : List ℕ) (a b c d x y z w : ℕ) where
  abbrev w₁ : List ℕ
  w₁ = set ws a x

  abbrev w₂ : List ℕ
  w₂ = set (set ws a x) b y

  abbrev w₃ : List ℕ
  w₃ = set (set (set ws a x) b y) c z

  pub length_four : length (set w₃ d w) ≡ length ws
  length_four = length-set w₃ d w ∙ length-set w₂ c z ∙ length-set w₁ b y ∙ length-set ws a x

  pub read_four : (j : ℕ) → j ≢ a → j ≢ b → j ≢ c → j ≢ d → get_or (set w₃ d w) j 0 ≡ get_or ws j 0
  read_four j p q r s =
      get_or-set_other w₃ d j w 0 s ∙ get_or-set_other w₂ c j z 0 r ∙ get_or-set_other w₁ b j y 0 q ∙ get_or-set_other ws a j x 0 p

  pub read_first : a < length ws → a ≢ b → a ≢ c → a ≢ d → get_or (set w₃ d w) a 0 ≡ x
  read_first l q r s =
      get_or-set_other w₃ d a w 0 s ∙ get_or-set_other w₂ c a z 0 r ∙ get_or-set_other w₁ b a y 0 q ∙ get_or-set_same ws a x 0 l

  pub read_second : b < length ws → b ≢ c → b ≢ d → get_or (set w₃ d w) b 0 ≡ y
  read_second l r s =
      get_or-set_other w₃ d b w 0 s ∙ get_or-set_other w₂ c b z 0 r ∙ get_or-set_same w₁ b y 0 (rw (length-set ws a x) l)

  pub read_third : c < length ws → c ≢ d → get_or (set w₃ d w) c 0 ≡ z
  read_third l s = get_or-set_other w₃ d c w 0 s ∙ get_or-set_same w₂ c z 0 (rw (length-set w₁ b y, length-set ws a x) l)

  pub read_fourth : d < length ws → get_or (set w₃ d w) d 0 ≡ w
  read_fourth l = get_or-set_same w₃ d w 0 (rw (length-set w₂ c z, length-set w₁ b y, length-set ws a x) l)

-- ---- one shape more, and perhaps some components
module _ (program g : List ℕ) where
  pub record Grown (r : Raw) (ws' : List ℕ) : Type 0 where
    pub long : length ws' ≡ length r.words
    pub low : (j : ℕ) → j ≢ shapes_used → j ≢ entries_used → j ≢ components_made → j < fixed_words → get_or ws' j 0 ≡ get_or r.words j 0
    pub used : get_or ws' shapes_used 0 ≡ get_or r.words shapes_used 0 + 1
    pub fit : get_or r.words shapes_used 0 + 1 ≤ shapes_granted g
    pub shapes : (i j : ℕ) → i < get_or r.words shapes_used 0 → j < 3 → get_or ws' (shape_place i + j) 0 ≡ get_or r.words (shape_place i + j) 0
    pub ways : (i j : ℕ) → 3 ≤ j → j < 5 → i < shapes_granted g → get_or ws' (shape_place i + j) 0 ≡ get_or r.words (shape_place i + j) 0
    pub entries : (j : ℕ) → entry_place g 0 ≤ j → j < component_place g 0 → get_or ws' j 0 ≡ get_or r.words j 0
    pub parts : SameComponents g r (raw r.texts ws')
    pub marks : (d k : ℕ) → d < calls_granted g → mark_in g ws' d k ≡ mark_in g r.words d k
    pub taken : get_or ws' entries_used 0 ≤ entries_granted g
    pub made : get_or ws' entries_made 0 + get_or ws' components_made 0 ≡ get_or ws' entries_used 0
    -- the new shape
    pub first : get_or ws' (shape_place (get_or r.words shapes_used 0) + 1) 0 < 2 ^ 64
    pub second : get_or ws' (shape_place (get_or r.words shapes_used 0) + 2) 0 < 2 ^ 64
    pub proper : is_group_at ws' (get_or r.words shapes_used 0) ≡ false → Proper program (get_or r.words text_used 0) (figure_at ws' (get_or r.words shapes_used 0))
    pub grouped : is_group_at ws' (get_or r.words shapes_used 0) ≡ true → Grouped g ws' (get_or r.words shapes_used 0)
    pub behind : is_group_at ws' (get_or r.words shapes_used 0) ≡ true → get_or r.words components_made 0 ≤ first_at ws' (get_or r.words shapes_used 0)
    pub full : is_group_at ws' (get_or r.words shapes_used 0) ≡ true → hollow_at ws' (get_or r.words shapes_used 0) ≡ false
    pub living : get_or ws' (shape_place (get_or r.words shapes_used 0)) 0 % 2 ≡ 0

module _ {program : List ℕ} {ts : List Token} {g : List ℕ} {r : Raw} {s : State} {total : Amounts} (h : Related program ts g r s total) (ws' : List ℕ) (a : Grown program g r ws') where
  abbrev n : ℕ
  n = get_or r.words shapes_used 0

  counter : (j : ℕ) → j ≢ shapes_used → j ≢ entries_used → j ≢ components_made → j < first_call → get_or ws' j 0 ≡ get_or r.words j 0
  counter j x y z l = a.low j x y z (omega arith)

  plain : (j : ℕ) → first_call ≤ j → j < fixed_words → get_or ws' j 0 ≡ get_or r.words j 0
  plain j l m = a.low j (λ e. omega arith) (λ e. omega arith) (λ e. omega arith) m

  steps_as : get_or ws' steps_used 0 ≡ get_or r.words steps_used 0
  steps_as = counter steps_used (λ e. omega arith) (λ e. omega arith) (λ e. omega arith) (omega arith)

  text_as : get_or ws' text_used 0 ≡ get_or r.words text_used 0
  text_as = counter text_used (λ e. omega arith) (λ e. omega arith) (λ e. omega arith) (omega arith)

  tables_as : get_or ws' tables_made 0 ≡ get_or r.words tables_made 0
  tables_as = counter tables_made (λ e. omega arith) (λ e. omega arith) (λ e. omega arith) (omega arith)

  calls_as : get_or ws' calls_used 0 ≡ get_or r.words calls_used 0
  calls_as = counter calls_used (λ e. omega arith) (λ e. omega arith) (λ e. omega arith) (omega arith)

  unit_as : get_or ws' loop_unit 0 ≡ get_or r.words loop_unit 0
  unit_as = counter loop_unit (λ e. omega arith) (λ e. omega arith) (λ e. omega arith) (omega arith)

  running_as : get_or ws' running 0 ≡ get_or r.words running 0
  running_as = counter running (λ e. omega arith) (λ e. omega arith) (λ e. omega arith) (omega arith)

  frame_as : get_or ws' frame 0 ≡ get_or r.words frame 0
  frame_as = counter frame (λ e. omega arith) (λ e. omega arith) (λ e. omega arith) (omega arith)

  pub height_as : get_or ws' arguments_held 0 ≡ get_or r.words arguments_held 0
  height_as = counter arguments_held (λ e. omega arith) (λ e. omega arith) (λ e. omega arith) (omega arith)

  pub grown_later : Later program r (raw r.texts ws')
  grown_later = record {
    steps = omega (arith, steps_as);
    shapes = omega (arith, a.used);
    text = omega (arith, text_as);
    tables = omega (arith, tables_as);
    texts = λ t v. refl;
    figures = λ i l. stays_words r.words ws' i (λ j k. a.shapes i j l k);
  }

  variables_as : SameVariables program ts r (raw r.texts ws')
  variables_as =
      same_words (counter declared (λ e. omega arith) (λ e. omega arith) (λ e. omega arith) (omega arith)) running_as frame_as (omega (arith, height_as))
      (λ k l. plain (argument_place k) (omega arith) (omega arith)) h.sound.variables

  pub grown_untouched : Untouched program ts g r (raw r.texts ws')
  grown_untouched = record {
    calls = calls_as;
    kept = λ d j z l m. plain (call_place d + j) (omega arith) (omega arith);
    below = λ k l. plain (argument_place k) (omega arith) (omega arith);
    above = λ k l m. plain (argument_place k) (omega arith) (omega arith);
    made = a.parts.made;
    components = a.parts.words;
    unit = unit_as;
    marks = λ d k x. a.marks d k (omega (arith, h.sound.counted.calls));
    bound = λ i l n. rw (frame_as, plain (argument_place (get_or r.words frame 0 + i)) (omega arith) (omega arith)) n;
    running = running_as;
    frame = frame_as;
  }

  waiting_as : SameWaiting program ts r (raw r.texts ws')
  waiting_as = same_waiting grown_later grown_untouched h.sound.waiting

  entries_as : SameEntries grown_later h.sound.shapes
  entries_as = record {
    count = counter entries_made (λ e. omega arith) (λ e. omega arith) (λ e. omega arith) (omega arith);
    firsts = λ k x. a.entries _ (omega arith) (omega (arith, h.sound.counted.made, h.sound.counted.entries));
    keys = λ k x. a.entries _ (omega arith) (omega (arith, h.sound.counted.made, h.sound.counted.entries));
    values = λ k x. a.entries _ (omega arith) (omega (arith, h.sound.counted.made, h.sound.counted.entries));
    heads = λ b x. a.entries _ (omega arith) (omega arith);
  }

  was : (i : ℕ) (l : i < n) → is_group_at ws' i ≡ is_group_at r.words i
  was i l = group_stays (grown_later.figures i l)

  shapes_now : Shapes program g ws'
  shapes_now = let old = h.sound.shapes in record {
    proper = λ i l. up_to (λ i. is_group_at ws' i ≡ false → Proper program (get_or ws' text_used 0) (figure_at ws' i)) n
        (λ i l m. proper_kept grown_later old i l (sym (was i l) ∙ m)) (λ m. rw text_as (a.proper m)) i (rw a.used at l);
    first = λ i l. up_to (λ i. get_or ws' (shape_place i + 1) 0 < 2 ^ 64) n (λ i l. rw (a.shapes i 1 l (omega arith)) (old.first i l)) a.first i (rw a.used at l);
    second = λ i l. up_to (λ i. get_or ws' (shape_place i + 2) 0 < 2 ^ 64) n (λ i l. rw (a.shapes i 2 l (omega arith)) (old.second i l)) a.second i (rw a.used at l);
    groups = λ i l. up_to (λ i. is_group_at ws' i ≡ true → Grouped g ws' i) n
        (λ i l m. grouped_later grown_later old a.parts i l (old.groups i l (sym (was i l) ∙ m))) a.grouped i (rw a.used at l);
    order = λ i j u l.
        up_to (λ j. i < j → is_group_at ws' i ≡ true → is_group_at ws' j ≡ true → first_at ws' i + count_at ws' i ≤ first_at ws' j) n
        (λ j l u x y.
        let k : i < n = omega arith in
        rw (first_later grown_later old a.parts i k, count_later grown_later old a.parts i k, first_later grown_later old a.parts j l)
        (old.order i j u l (sym (was i k) ∙ x) (sym (was j l) ∙ y)))
        (λ k x y.
        rw (first_later grown_later old a.parts i k, count_later grown_later old a.parts i k)
        (le_trans (old.groups i k (sym (was i k) ∙ x)).within (a.behind y)))
        j (rw a.used at l) u;
    hollow = λ i l. up_to (λ i. is_group_at ws' i ≡ true → hollow_at ws' i ≡ true → figures_in (suc i) g ws' i ≡ []) n
        (λ i l m e. figures_none grown_later old a.parts (suc i) i l (old.hollow i l (sym (was i l) ∙ m) (rw (a.shapes i 2 l (omega arith)) at e)))
        (λ m e. let z : ◌≡◌ {A = Bool} true false = sym e ∙ a.full m in let y : ◌≡◌ {A = ℕ} 0 1 = cc in absurd (omega arith)) i (rw a.used at l);
  }

  grown_counted : Counted g ws'
  grown_counted = let c = h.sound.counted in record {
    steps = rw steps_as c.steps;
    shapes = rw a.used a.fit;
    entries = a.taken;
    made = a.made;
    text = rw text_as c.text;
    tables = rw (tables_as, steps_as) c.tables;
    arguments = rw height_as c.arguments;
    calls = rw calls_as c.calls;
  }

  grown_marks : Marks g ws'
  grown_marks = let m = h.sound.marks in record {
    idle = λ d k x y. a.marks d k y ∙ m.idle d k (rw calls_as at x) y;
    own = λ k x.
        let y = rw calls_as at x in
        rw (calls_as, unit_as, a.marks (get_or r.words calls_used 0 - 1) k (omega (arith, h.sound.counted.calls))) (m.own k y);
  }

  abbrev added_shape : State.Content → State.Shape
  added_shape c = record { content = c; destroyed = false }

  last_shape : shape_at program g (raw r.texts ws') (0 + n) ≡ added_shape (content_at program g (raw r.texts ws') n)
  unfolding shape_at
  last_shape =
      let z : 0 + n ≡ n = omega arith in
      rw (z, a.living)

  shape_as : (i : ℕ) → i < n → shape_at program g (raw r.texts ws') i ≡ shape_at program g r i
  unfolding shape_at
  shape_as i l =
      let w : get_or ws' (shape_place i) 0 ≡ get_or r.words (shape_place i) 0 = rw (← add-zero (shape_place i)) (a.shapes i 0 l (omega arith)) in
      rw (content_stays grown_later h.sound.shapes a.parts i l, w)

  list_now : shapes_of program g (raw r.texts ws') ≡ shapes_of program g r ++ (added_shape (content_at program g (raw r.texts ws') n) ∷ [])
  unfolding shapes_of
  list_now =
      let z : n + 1 ≡ suc n = omega arith in
      ap (listed (shape_at program g (raw r.texts ws')) 0) (a.used ∙ z) ∙ (listed_more (shape_at program g (raw r.texts ws')) 0 n
      ∙ ap₂ (λ (l : List State.Shape) (a : State.Shape). l ++ (a ∷ [])) (listed_first (shape_at program g (raw r.texts ws')) (shape_at program g r) n shape_as) last_shape)

  grown_related : (c : State.Content) (total' : Amounts) → c ≡ content_at program g (raw r.texts ws') n
      → total' Run.steps ≡ total Run.steps → total' Run.shapes ≡ total Run.shapes + 1 → total' Run.entries ≡ get_or ws' entries_used 0
      → total' Run.text_bytes ≡ total Run.text_bytes → total' Run.calls ≡ total Run.calls → Related program ts g (raw r.texts ws') (with_shape s c) total'
  unfolding with_shape
  grown_related c total' e t₁ t₂ t₃ t₄ t₅ = let l = h.sound.lent in record {
    sound = record {
      lent = record {
        room = record { steps = l.room.steps; shapes = l.room.shapes; entries = l.room.entries; text = l.room.text; calls = l.room.calls; words = rw a.long l.room.words };
        texts = l.texts;
      };
      counted = grown_counted;
      variables = variables_kept grown_later variables_as h.sound.variables;
      waiting = waiting_as.waiting;
      shapes = shapes_now;
      marks = grown_marks;
      entries = entries_kept grown_later h.sound.shapes a.parts entries_as h.sound.entries;
    };
    variables = h.variables ∙ sym (variables_same grown_later variables_as h.sound.variables);
    suspended = h.suspended ∙ sym waiting_as.suspended;
    shapes = rw (h.shapes, e) (sym list_now);
    tables = h.tables ∙ sym tables_as;
    entries = h.entries ∙ sym (entries_same grown_later h.sound.shapes a.parts entries_as h.sound.entries);
    steps_taken = t₁ ∙ h.steps_taken ∙ sym steps_as;
    shapes_taken = omega (arith, t₂, h.shapes_taken, a.used);
    entries_taken = t₃;
    text_taken = t₄ ∙ h.text_taken ∙ sym text_as;
    calls_taken = t₅ ∙ h.calls_taken ∙ sym calls_as;
  }

-- a new shape has the next number; variables stay, and so do the words that walks keep
module _ (program : List ℕ) (ts : List Token) (g : List ℕ) where
  pub record AfterShape (r : Raw) (s : State) (i : ℕ) (j : ℕ) (r' : Raw) (s' : State) (total : Amounts) : Type 0 where
    pub after : After program ts g r r' s' total
    pub here : i ≡ get_or r.words shapes_used 0
    pub same : j ≡ i
    pub used : get_or r'.words shapes_used 0 ≡ get_or r.words shapes_used 0 + 1
    pub variables : s'.variables ≡ s.variables
    pub waits : get_or r'.words waiting_held 0 ≡ get_or r.words waiting_held 0
    pub ways : (i j : ℕ) → 3 ≤ j → j < 5 → i < shapes_granted g → get_or r'.words (shape_place i + j) 0 ≡ get_or r.words (shape_place i + j) 0

module _ {program : List ℕ} {ts : List Token} {g : List ℕ} {r : Raw} {s : State} {total : Amounts} (h : Related program ts g r s total) (ws' : List ℕ) (a : Grown program g r ws') where
  pub grown_after : (c : State.Content) (total' : Amounts) → c ≡ content_at program g (raw r.texts ws') (get_or r.words shapes_used 0)
      → total' Run.steps ≡ total Run.steps → total' Run.shapes ≡ total Run.shapes + 1 → total' Run.entries ≡ get_or ws' entries_used 0
      → total' Run.text_bytes ≡ total Run.text_bytes → total' Run.calls ≡ total Run.calls
      → AfterShape program ts g r s (get_or r.words shapes_used 0) (length s.shapes) (raw r.texts ws') (with_shape s c) total'
  unfolding shapes_of with_shape
  grown_after c total' e t₁ t₂ t₃ t₄ t₅ = record {
    after = record {
      related = grown_related h ws' a c total' e t₁ t₂ t₃ t₄ t₅;
      later = grown_later h ws' a;
      spare = omega (arith, steps_as h ws' a, tables_as h ws' a);
      held = height_as h ws' a;
      untouched = grown_untouched h ws' a;
    };
    here = refl;
    same = rw h.shapes (length_listed (shape_at program g r) 0 (get_or r.words shapes_used 0));
    used = a.used;
    variables = refl;
    waits = a.low waiting_held (λ e. omega arith) (λ e. omega arith) (λ e. omega arith) (omega arith);
    ways = a.ways;
  }
