-- Variables declared and assigned.
use Prim.Native.Nat.{ℕ, zero, suc, ◌+◌, ◌%◌, ◌^◌, ◌≤◌, ◌<◌}
use native.Mathlib.Omega.{arith}
use mathlib.Core.Path.{◌≡◌, refl, ap, ap₂, sym, ◌∙◌}
use mathlib.Core.Logic.{◌≢◌}
use mathlib.Core.Bool.{Bool, true, false}
use mathlib.Core.List.{List, [], ◌∷◌, ◌++◌}
use lib.ListN.{get_or, set, length, length-set}
use lib.Seq.{get_or-set_same, get_or-set_other}
use lib.Dec.{eqb}
use borrow.Author.Tests.{eqb-true, eqb-false, ne_eqb}
use Rattle.meaning.specs.Basics.{if◌then◌otherwise◌, same_text}
use Rattle.meaning.specs.Token.{Token}
use Rattle.meaning.specs.Value as Value
use Rattle.meaning.specs.State.{State, Variable, is_some, assigned, with_variables}
use Rattle.meaning.specs.Run as Run
use Rattle.meaning.specs.Book.{Amounts}
use Rattle.meaning.specs.Execute.{declaring}
use Rattle.meaning.specs.Procedure.{is_among}
use Rattle.reader.proofs.Homes.{text_same}
use Rattle.numbering.specs.Numbers.{number_in}
use Rattle.machine.specs.Words.{packed, unpacked}
use Rattle.machine.specs.Layout.{steps_used, tables_made, declared, arguments_held, calls_used, running, components_made, loop_unit, frame, argument_place, stack_words, fixed_words, first_argument}
use Rattle.machine.specs.Act.{Raw, raw, done, stop}
use Rattle.machine.specs.Act as Act
use Rattle.machine.specs.Stack.{argument_at}
use Rattle.machine.specs.Variables.{word_in, order_in, with_word, with_order, holding_at, number_of, holding_of, holding, set_variable, set_order, declare}
use Rattle.machine.specs.declared.Flow.TheVariants.{Onward}
use Rattle.simulation.specs.Scope.{scope_of}
use Rattle.simulation.specs.Meant.{meant_value, meant_word, listed, variable_at, frame_of}
use Rattle.simulation.specs.Sound.{Valid, Framed, size_of}
use Rattle.simulation.specs.Follows.{Related, Later, Follows}
use Rattle.simulation.proofs.Listed.{listed_same, listed_first, listed_more}
use Rattle.simulation.proofs.Frames.{SameRest, rest_marks, untouched_but, valid_later, SameWaiting, same_waiting}
use Rattle.simulation.proofs.Results.{given, failed, Untouched, After, steps_told}
use Rattle.simulation.proofs.Growing.{up_to}
use Rattle.simulation.proofs.Moving.{moved_later, moved_related}
use Rattle.numbering.proofs.Laws.{number_within, number_name, number_below}
use Rattle.simulation.proofs.Naming.{apart_text}
use Rattle.simulation.proofs.Scopes.{distinct_below}
use Rattle.simulation.proofs.Variables.{number_named, name_numbered, undeclared, is_declared_lem}
use Rattle.simulation.proofs.Flows.{both_onward, Flows}

-- ---- words of a frame f of so many names that change; nothing else does but how many are declared
pub record Refilled (ws ws' : List ℕ) (f size : ℕ) : Type 0 where
  pub long : length ws' ≡ length ws
  pub low : (i : ℕ) → i ≢ declared → i < first_argument → get_or ws' i 0 ≡ get_or ws i 0
  pub below : (k : ℕ) → k < f → argument_at ws' k ≡ argument_at ws k
  pub above : (k : ℕ) → f + suc size ≤ k → k < stack_words → argument_at ws' k ≡ argument_at ws k
  pub high : (i : ℕ) → fixed_words ≤ i → get_or ws' i 0 ≡ get_or ws i 0

refilled_then : {ws ws' ws'' : List ℕ} {f size : ℕ} → Refilled ws ws' f size → Refilled ws' ws'' f size → Refilled ws ws'' f size
refilled_then a b = record {
  long = b.long ∙ a.long;
  low = λ i x y. b.low i x y ∙ a.low i x y;
  below = λ k l. b.below k l ∙ a.below k l;
  above = λ k l m. b.above k l m ∙ a.above k l m;
  high = λ i l. b.high i l ∙ a.high i l;
}

refilled_count : (ws : List ℕ) (f size n : ℕ) → Refilled ws (set ws declared n) f size
refilled_count ws f size n = record {
  long = length-set ws declared n;
  low = λ i x y. get_or-set_other ws declared i n 0 x;
  below = λ k l. get_or-set_other ws declared (argument_place k) n 0 (λ e. omega arith);
  above = λ k l m. get_or-set_other ws declared (argument_place k) n 0 (λ e. omega arith);
  high = λ i l. get_or-set_other ws declared i n 0 (λ e. omega arith);
}

-- one word of it
module _ (ws : List ℕ) (f size n w : ℕ) (long : fixed_words ≤ length ws) (fit : f + suc size ≤ stack_words) (within : n ≤ size) where
  refilled_one : Refilled ws (set ws (argument_place (f + n)) w) f size
  refilled_one = record {
    long = length-set ws (argument_place (f + n)) w;
    low = λ i x y. get_or-set_other ws (argument_place (f + n)) i w 0 (λ e. omega arith);
    below = λ k l. get_or-set_other ws (argument_place (f + n)) (argument_place k) w 0 (λ e. omega arith);
    above = λ k l m. get_or-set_other ws (argument_place (f + n)) (argument_place k) w 0 (λ e. omega arith);
    high = λ i l. get_or-set_other ws (argument_place (f + n)) i w 0 (λ e. omega arith);
  }

  one_here : argument_at (set ws (argument_place (f + n)) w) (f + n) ≡ w
  one_here = get_or-set_same ws (argument_place (f + n)) w 0 (omega arith)

  one_other : (k : ℕ) → k ≤ size → k ≢ n → argument_at (set ws (argument_place (f + n)) w) (f + k) ≡ argument_at ws (f + k)
  one_other k l d = get_or-set_other ws (argument_place (f + n)) (argument_place (f + k)) w 0 (λ e. d (omega arith))

-- ---- a variable set: what it holds is another, and no number is
abbrev holds_now : List ℕ → ℕ → ℕ → ℕ → List ℕ
holds_now ws f n v = set ws (argument_place (f + n)) (with_word (argument_at ws (f + n)) v)

abbrev order_now : List ℕ → ℕ → ℕ → ℕ → List ℕ
order_now ws f k n = set ws (argument_place (f + k)) (with_order (argument_at ws (f + k)) n)

module _ (ws : List ℕ) (f size n v : ℕ) (long : fixed_words ≤ length ws) (fit : f + suc size ≤ stack_words) (within : n ≤ size) where
  pub now_holds : v < 2 ^ 48 → holding_at (holds_now ws f n v) f n ≡ v
  unfolding with_word
  now_holds l =
      let q : v % 2 ^ 48 ≡ v = omega arith in
      rw (one_here ws f size n (with_word (argument_at ws (f + n)) v) long fit within, q) (omega arith)

  pub now_other : (k : ℕ) → k ≤ size → k ≢ n → holding_at (holds_now ws f n v) f k ≡ holding_at ws f k
  now_other k l d = ap word_in (one_other ws f size n (with_word (argument_at ws (f + n)) v) long fit within k l d)

  pub now_number : (k : ℕ) → k ≤ size → number_of (holds_now ws f n v) f k ≡ number_of ws f k
  unfolding with_word
  now_number k l = go (eqb k n) refl
    where
      go : (b : Bool) → eqb k n ≡ b → number_of (holds_now ws f n v) f k ≡ number_of ws f k
      go true e =
          let b : v % 2 ^ 48 < 2 ^ 48 = omega arith in
          rw (eqb-true k n e, one_here ws f size n (with_word (argument_at ws (f + n)) v) long fit within) (omega arith)
      go false e = ap order_in (one_other ws f size n (with_word (argument_at ws (f + n)) v) long fit within k l (eqb-false k n e))

-- a number set: what variables hold stays
module _ (ws : List ℕ) (f size k n : ℕ) (long : fixed_words ≤ length ws) (fit : f + suc size ≤ stack_words) (within : k ≤ size) where
  pub order_here : n < 65536 → number_of (order_now ws f k n) f k ≡ n
  unfolding with_order
  order_here l =
      let q : n % 65536 ≡ n = omega arith in
      let b : argument_at ws (f + k) % 2 ^ 48 < 2 ^ 48 = omega arith in
      rw (one_here ws f size k (with_order (argument_at ws (f + k)) n) long fit within, q) (omega arith)

  pub order_other : (j : ℕ) → j ≤ size → j ≢ k → number_of (order_now ws f k n) f j ≡ number_of ws f j
  order_other j l d = ap order_in (one_other ws f size k (with_order (argument_at ws (f + k)) n) long fit within j l d)

  pub order_holds : (j : ℕ) → j ≤ size → holding_at (order_now ws f k n) f j ≡ holding_at ws f j
  unfolding with_order
  order_holds j l = go (eqb j k) refl
    where
      go : (b : Bool) → eqb j k ≡ b → holding_at (order_now ws f k n) f j ≡ holding_at ws f j
      go true e =
          let b : argument_at ws (f + k) % 2 ^ 48 < 2 ^ 48 = omega arith in
          rw (eqb-true j k e, one_here ws f size k (with_order (argument_at ws (f + k)) n) long fit within) (omega arith)
      go false e = ap word_in (one_other ws f size k (with_order (argument_at ws (f + k)) n) long fit within j l (eqb-false j k e))

-- ---- nothing but the variables of the call under way has changed
module _ {program : List ℕ} {ts : List Token} {g : List ℕ} {r : Raw} {s : State} {total : Amounts} (h : Related program ts g r s total) (ws' : List ℕ)
    (a : Refilled r.words ws' (get_or r.words frame 0) (size_of program ts (get_or r.words running 0)))
    (still : (i : ℕ) → i ≤ size_of program ts (get_or r.words running 0) → holding r.words i ≢ 0 → holding_at ws' (get_or r.words frame 0) i ≢ 0) where
  pub changed_later : Later program r (raw r.texts ws')
  changed_later = moved_later h ws' (λ j l. a.low j (λ e. omega arith) (omega arith)) (λ j x y. a.low j (λ e. omega arith) (omega arith)) a.high

  changed_rest : SameRest g r (raw r.texts ws')
  changed_rest = record {
    parts = a.low components_made (λ e. omega arith) (omega arith);
    unit = a.low loop_unit (λ e. omega arith) (omega arith);
    calls = a.low calls_used (λ e. omega arith) (omega arith);
    high = λ j l. a.high j (omega arith);
  }

  place_same : get_or ws' frame 0 ≡ get_or r.words frame 0
  place_same = a.low frame (λ e. omega arith) (omega arith)

  changed_untouched : Untouched program ts g r (raw r.texts ws')
  changed_untouched =
      untouched_but changed_rest (a.low running (λ e. omega arith) (omega arith)) place_same (λ j x y. a.low j (λ e. omega arith) y) a.below
      (λ k l m. a.above k l (omega (arith, h.sound.counted.arguments))) (λ i l n. rw place_same (still i l n))

  height : get_or ws' arguments_held 0 ≡ get_or r.words arguments_held 0
  height = a.low arguments_held (λ e. omega arith) (omega arith)

  calls_same : get_or ws' calls_used 0 ≡ get_or r.words calls_used 0
  calls_same = a.low calls_used (λ e. omega arith) (omega arith)

  changed_waiting : SameWaiting program ts r (raw r.texts ws')
  changed_waiting = same_waiting changed_later changed_untouched h.sound.waiting

  -- with n declared
  pub changed : (vs : List Variable) (n : ℕ) → get_or ws' declared 0 ≡ n
      → Framed program ws' (get_or r.words frame 0) n (size_of program ts (get_or r.words running 0))
      → vs ≡ frame_of program (scope_of program ts (get_or r.words running 0)) (raw r.texts ws') (get_or r.words frame 0) n
      → After program ts g r (raw r.texts ws') (with_variables s vs) total
  changed vs n count v e = record {
    related = moved_related h ws' (λ j l. a.low j (λ e. omega arith) (omega arith)) (λ j x y. a.low j (λ e. omega arith) (omega arith)) a.high a.long
        (rw height h.sound.counted.arguments) (rw calls_same h.sound.counted.calls)
        (record {
          framed = rw (place_same, count, a.low running (λ e. omega arith) (omega arith)) v;
          within = rw (place_same, height, a.low running (λ e. omega arith) (omega arith)) h.sound.variables.within;
        })
        (rw (place_same, count, a.low running (λ e. omega arith) (omega arith)) e)
        changed_waiting.waiting (rest_marks changed_rest h.sound.marks) (h.suspended ∙ sym changed_waiting.suspended)
        refl refl refl refl (h.calls_taken ∙ sym calls_same);
    later = changed_later;
    spare = omega (arith, a.low steps_used (λ e. omega arith) (omega arith), a.low tables_made (λ e. omega arith) (omega arith));
    held = height;
    untouched = changed_untouched;
  }

-- ---- assigned, by a function of the index
assigned_once : (f f' : ℕ → Variable) (x : List ℕ) (u : Value.Value) (k n i : ℕ) → k ≤ i → i < k + n → same_text (f i).name x ≡ true
    → ((j : ℕ) → k ≤ j → j < k + n → j ≢ i → same_text (f j).name x ≡ false)
    → f' i ≡ record { name = (f i).name; holds = u } → ((j : ℕ) → k ≤ j → j < k + n → j ≢ i → f' j ≡ f j)
    → assigned (listed f k n) x u ≡ listed f' k n
unfolding listed assigned if◌then◌otherwise◌
assigned_once f f' x u k zero i a b e h y z = absurd (omega arith)
assigned_once f f' x u k (suc n) i a b e h y z =
    go (eqb k i) refl (λ d. assigned_once f f' x u (suc k) n i (omega arith) (omega arith) e (λ j v w. h j (omega arith) (omega arith)) y (λ j v w. z j (omega arith) (omega arith)))
  where
    go : (c : Bool) → eqb k i ≡ c → (k ≢ i → assigned (listed f (suc k) n) x u ≡ listed f' (suc k) n)
        → (if same_text (f k).name x then (λ _. record { name = (f k).name; holds = u } ∷ listed f (suc k) n) otherwise λ _. f k ∷ assigned (listed f (suc k) n) x u)
        ≡ f' k ∷ listed f' (suc k) n
    go true q r =
        let o = eqb-true k i q in
        rw (o, e) (ap₂ ◌∷◌ (sym y) (listed_same f f' (suc i) n (λ j v w. sym (z j (omega arith) (omega arith) (λ o. omega arith)))))
    go false q r = let d : k ≢ i = eqb-false k i q in rw (h k (omega arith) (omega arith) d) (ap₂ ◌∷◌ (sym (z k (omega arith) (omega arith) d)) (r d))

module _ {program : List ℕ} {ts : List Token} {g : List ℕ} {r : Raw} {s : State} {total : Amounts} (h : Related program ts g r s total) (x : List ℕ) where
  abbrev f : ℕ
  f = get_or r.words frame 0

  abbrev names : List (List ℕ)
  names = scope_of program ts (get_or r.words running 0)

  abbrev size : ℕ
  size = length (scope_of program ts (get_or r.words running 0))

  abbrev number : ℕ
  number = number_in (scope_of program ts (get_or r.words running 0)) x

  less : number ≤ size
  less = number_within names x

  v : Framed program r.words (get_or r.words frame 0) (get_or r.words declared 0) (length (scope_of program ts (get_or r.words running 0)))
  v = h.sound.variables.framed

  long : fixed_words ≤ length r.words
  long = omega (arith, h.sound.lent.room.words)

  fit : f + suc size ≤ stack_words
  fit = omega (arith, h.sound.variables.within, h.sound.counted.arguments)

  abbrev many : ℕ
  many = get_or r.words declared 0

  -- ---- a variable set
  module _ (w : ℕ) (declared_now : holding r.words (number_in (scope_of program ts (get_or r.words running 0)) x) ≢ 0) (some_word : w ≢ 0) (valid : Valid program r.words (unpacked w))
      (narrow : w < 2 ^ 48) where
    abbrev put : List ℕ
    put = holds_now r.words f number w

    put_own : holding_at put f number ≡ w
    put_own = now_holds r.words f size number w long fit less narrow

    put_other : (i : ℕ) → i ≤ size → i ≢ number → holding_at put f i ≡ holding_at r.words f i
    put_other i l d = now_other r.words f size number w long fit less i l d

    put_number : (k : ℕ) → k < many → number_of put f k ≡ number_of r.words f k
    put_number k l = now_number r.words f size number w long fit less k (omega (arith, v.few))

    put_fill : Refilled r.words put f size
    put_fill = refilled_one r.words f size number (with_word (argument_at r.words (f + number)) w) long fit less

    put_there : (i : ℕ) → i ≤ size → holding_at r.words f i ≢ 0 → holding_at put f i ≢ 0
    put_there i l n = go (eqb i number) refl
      where
        go : (b : Bool) → eqb i number ≡ b → holding_at put f i ≢ 0
        go true e = rw (eqb-true i number e, put_own) some_word
        go false e = rw (put_other i l (eqb-false i number e)) n

    put_back : (i : ℕ) → i ≤ size → holding_at put f i ≢ 0 → holding_at r.words f i ≢ 0
    put_back i l n = go (eqb i number) refl
      where
        go : (b : Bool) → eqb i number ≡ b → holding_at r.words f i ≢ 0
        go true e = rw (eqb-true i number e) declared_now
        go false e = rw (put_other i l (eqb-false i number e)) at n

    put_later : Later program r (raw r.texts put)
    put_later = changed_later h put put_fill put_there

    put_valid : (i : ℕ) → i ≤ size → Valid program put (unpacked (holding_at put f i))
    put_valid i l = go (eqb i number) refl
      where
        go : (b : Bool) → eqb i number ≡ b → Valid program put (unpacked (holding_at put f i))
        go true e = rw (eqb-true i number e, put_own) (valid_later put_later (unpacked w) valid)
        go false e = rw (put_other i l (eqb-false i number e)) (valid_later put_later _ (v.holds i l))

    put_framed : Framed program put f many size
    put_framed = record {
      brief = v.brief;
      few = v.few;
      small = λ k l. rw (put_number k l) (v.small k l);
      there = λ k l. rw (put_number k l) (put_there (number_of r.words f k) (omega (arith, v.small k l)) (v.there k l));
      apart = λ j k a b e. v.apart j k a b (sym (put_number j a) ∙ e ∙ put_number k b);
      found = λ i l n.
          let q = v.found i l (put_back i l n) in
          (q.0, q.1, put_number q.0 q.1 ∙ q.2);
      holds = put_valid;
    }

    put_list : assigned s.variables x (meant_word program r w) ≡ frame_of program names (raw r.texts put) f many
    unfolding frame_of variable_at
    put_list =
        let q = v.found number less declared_now in
        rw h.variables
        (assigned_once (variable_at program names r f) (variable_at program names (raw r.texts put) f) x (meant_word program r w) 0 many q.0
        (omega arith) (omega (arith, q.1)) (rw (name_numbered h x q.0 q.1 q.2) (text_same x))
        (λ j a b d. apart_text _ _ (λ e. d (v.apart j q.0 (omega arith) q.1 (number_named h x j (omega arith) e ∙ sym q.2))))
        (rw (put_number q.0 q.1, q.2, put_own))
        (λ j a b d.
        let n = v.small j (omega arith) in
        rw (put_number j (omega arith), put_other (number_of r.words f j) (omega arith) (λ e. d (v.apart j q.0 (omega arith) q.1 (e ∙ sym q.2))))))

    pub put_after : After program ts g r
        (raw r.texts (set r.words (argument_place (get_or r.words frame 0 + number_in (scope_of program ts (get_or r.words running 0)) x))
        (with_word (argument_at r.words (get_or r.words frame 0 + number_in (scope_of program ts (get_or r.words running 0)) x)) w)))
        (with_variables s (assigned s.variables x (meant_word program r w))) total
    put_after = changed h put put_fill put_there (assigned s.variables x (meant_word program r w)) many put_count put_framed put_list
      where
        put_count : get_or put declared 0 ≡ many
        put_count = get_or-set_other r.words (argument_place (f + number)) declared (with_word (argument_at r.words (f + number)) w) 0 (λ e. omega arith)

  -- ---- a variable declared
  module _ (free : holding r.words (number_in (scope_of program ts (get_or r.words running 0)) x) ≡ 0) where
    abbrev one : List ℕ
    one = holds_now r.words f number 4

    one_long : fixed_words ≤ length one
    one_long = rw (length-set r.words (argument_place (f + number)) (with_word (argument_at r.words (f + number)) 4)) long

    few_now : many ≤ size
    few_now = v.few

    abbrev two : List ℕ
    two = order_now (holds_now r.words f number 4) f many number

    abbrev pub three : List ℕ
    three = set (order_now (holds_now r.words f number 4) f many number) declared (many + 1)

    two_fill : Refilled r.words two f size
    two_fill =
        refilled_then (refilled_one r.words f size number (with_word (argument_at r.words (f + number)) 4) long fit less)
        (refilled_one one f size many (with_order (argument_at one (f + many)) number) one_long fit few_now)

    new_fill : Refilled r.words three f size
    new_fill = refilled_then two_fill (refilled_count two f size (many + 1))

    new_count : get_or three declared 0 ≡ many + 1
    new_count = get_or-set_same two declared (many + 1) 0 (rw two_fill.long (omega (arith, long)))

    in_frame : (k : ℕ) → k ≤ size → argument_at three (f + k) ≡ argument_at two (f + k)
    in_frame k l = get_or-set_other two declared (argument_place (f + k)) (many + 1) 0 (λ e. omega arith)

    pub new_value : holding_at three f number ≡ 4
    new_value =
        ap word_in (in_frame number less) ∙ order_holds one f size many number one_long fit few_now number less
        ∙ now_holds r.words f size number 4 long fit less (omega arith)

    old_values : (i : ℕ) → i ≤ size → i ≢ number → holding_at three f i ≡ holding_at r.words f i
    old_values i l d =
        ap word_in (in_frame i l) ∙ order_holds one f size many number one_long fit few_now i l ∙ now_other r.words f size number 4 long fit less i l d

    new_number : number_of three f many ≡ number
    new_number = ap order_in (in_frame many few_now) ∙ order_here one f size many number one_long fit few_now (omega (arith, less, v.brief))

    old_number : (k : ℕ) → k < many → number_of three f k ≡ number_of r.words f k
    old_number k l =
        ap order_in (in_frame k (omega (arith, few_now))) ∙ order_other one f size many number one_long fit few_now k (omega (arith, few_now)) (λ e. omega arith)
        ∙ now_number r.words f size number 4 long fit less k (omega (arith, few_now))

    -- no declaration has that number yet
    unused : (k : ℕ) → k < many → number_of r.words f k ≢ number
    unused k l e = v.there k l (rw e free)

    old_held : (k : ℕ) → k < many → holding_of three f k ≡ holding_of r.words f k
    old_held k l = ap (holding_at three f) (old_number k l) ∙ old_values (number_of r.words f k) (omega (arith, v.small k l)) (unused k l)

    new_there : (i : ℕ) → i ≤ size → holding_at r.words f i ≢ 0 → holding_at three f i ≢ 0
    new_there i l n = rw (old_values i l (λ e. n (rw e free))) n

    new_later : Later program r (raw r.texts three)
    new_later = changed_later h three new_fill new_there

    new_valid : (i : ℕ) → i ≤ size → Valid program three (unpacked (holding_at three f i))
    unfolding Valid unpacked if◌then◌otherwise◌
    new_valid i l = go (eqb i number) refl
      where
        go : (b : Bool) → eqb i number ≡ b → Valid program three (unpacked (holding_at three f i))
        go true e = rw (eqb-true i number e, new_value) tt
        go false e = rw (old_values i l (eqb-false i number e)) (valid_later new_later (unpacked (holding_at r.words f i)) (v.holds i l))

    module _ (own : is_among x (scope_of program ts (get_or r.words running 0)) ≡ true) where
      new_small : (k : ℕ) → k < many + 1 → number_of three f k < size
      new_small = up_to (λ k. number_of three f k < size) many (λ k l. rw (old_number k l) (v.small k l)) (rw new_number (number_below x names own))

      new_apart : (j k : ℕ) → j < many + 1 → k < many + 1 → number_of three f j ≡ number_of three f k → j ≡ k
      new_apart j k a b =
          up_to (λ j. number_of three f j ≡ number_of three f k → j ≡ k) many
          (λ j a. up_to (λ k. number_of three f j ≡ number_of three f k → j ≡ k) many
          (λ k b e. v.apart j k a b (sym (old_number j a) ∙ e ∙ old_number k b)) (λ e. absurd (unused j a (sym (old_number j a) ∙ e ∙ new_number))) k b)
          (up_to (λ k. number_of three f many ≡ number_of three f k → many ≡ k) many (λ k b e. absurd (unused k b (sym (old_number k b) ∙ sym e ∙ new_number))) (λ e. refl) k b)
          j a

      new_framed : Framed program three f (many + 1) size
      new_framed = record {
        brief = v.brief;
        few = distinct_below (many + 1) size (number_of three f) new_small new_apart;
        small = new_small;
        there = up_to (λ k. holding_of three f k ≢ 0) many (λ k l. rw (old_held k l) (v.there k l)) (rw (new_number, new_value) (λ q. omega arith));
        apart = new_apart;
        found = λ i l n. where_is i l n (eqb i number) refl;
        holds = new_valid;
      }
        where
          where_is : (i : ℕ) → i ≤ size → holding_at three f i ≢ 0 → (b : Bool) → eqb i number ≡ b → (k : ℕ) × (k < many + 1) × (number_of three f k ≡ i)
          where_is i l n true e = (many, omega arith, new_number ∙ sym (eqb-true i number e))
          where_is i l n false e =
              let q = v.found i l (rw (old_values i l (eqb-false i number e)) at n) in
              (q.0, omega (arith, q.1), old_number q.0 q.1 ∙ q.2)

      new_list : s.variables ++ (record { name = x; holds = Value.none } ∷ []) ≡ frame_of program names (raw r.texts three) f (many + 1)
      unfolding frame_of variable_at unpacked meant_value if◌then◌otherwise◌
      new_list =
          let z : many + 1 ≡ suc many = omega arith in
          let y : 0 + many ≡ many = omega arith in
          let last : variable_at program names (raw r.texts three) f (0 + many) ≡ record { name = x; holds = Value.none } =
          rw (y, new_number, new_value, number_name names x (number_below x names own)) in
          rw h.variables
          (sym (ap (listed (variable_at program names (raw r.texts three) f) 0) z ∙ listed_more (variable_at program names (raw r.texts three) f) 0 many
          ∙ ap₂ (λ (l : List Variable) (a : Variable). l ++ (a ∷ []))
          (listed_first (variable_at program names (raw r.texts three) f) (variable_at program names r f) many
          (λ k l. rw (old_held k l, old_number k l))) last))

      pub new_after : After program ts g r (raw r.texts three) (with_variables s (s.variables ++ (record { name = x; holds = Value.none } ∷ []))) total
      new_after = changed h three new_fill new_there (s.variables ++ (record { name = x; holds = Value.none } ∷ [])) (many + 1) new_count new_framed new_list

    -- ---- the act
    one_frame : get_or one frame 0 ≡ f
    one_frame = get_or-set_other r.words (argument_place (f + number)) frame (with_word (argument_at r.words (f + number)) 4) 0 (λ e. omega arith)

    one_count : get_or one declared 0 ≡ many
    one_count = get_or-set_other r.words (argument_place (f + number)) declared (with_word (argument_at r.words (f + number)) 4) 0 (λ e. omega arith)

    pub declare_free : (p : ℕ) → declare (number_in (scope_of program ts (get_or r.words running 0)) x) p r ≡ done tt (raw r.texts three)
    unfolding declare set_variable set_order packed Act.◌>>=◌ Act.go_on Act.load Act.store Act.held Act.refuse Act.give
    declare_free p =
        let q : many % 8192 ≡ many = omega (arith, few_now, v.brief) in
        rw (free, one_count, one_frame, q)

  pub declare_again : (p : ℕ) → holding r.words (number_in (scope_of program ts (get_or r.words running 0)) x) ≢ 0
      → declare (number_in (scope_of program ts (get_or r.words running 0)) x) p r ≡ stop 60 p r
  unfolding declare Act.◌>>=◌ Act.go_on Act.held Act.refuse Act.fail
  declare_again p n = rw (ne_eqb _ 0 n)

  pub declares : {granted : Amounts} → is_among x (scope_of program ts (get_or r.words running 0)) ≡ true → (p : ℕ)
      → Follows granted total (Flows program ts g r) (Act.◌>>◌ (declare (number_in (scope_of program ts (get_or r.words running 0)) x) p) (Act.give Onward) r) (declaring p x s)
  unfolding declaring is_some Act.◌>>=◌ Act.go_on Act.give Run.◌>>=◌ Run.go_on Run.current Run.refuse Run.fail Run.become Run.give
  declares own p = go (eqb (holding r.words number) 0) refl
    where
      go : {granted : Amounts} (b : Bool) → eqb (holding r.words number) 0 ≡ b
          → Follows granted total (Flows program ts g r) (Act.◌>>◌ (declare number p) (Act.give Onward) r) (declaring p x s)
      go true e =
          let z : holding r.words number ≡ 0 = eqb-true _ _ e in
          rw (declare_free z p, undeclared h x z) (given (record { after = new_after z own; flow = both_onward }))
      go false e =
          let n : holding r.words number ≢ 0 = eqb-false _ _ e in
          rw (declare_again p n, is_declared_lem h x n) (failed 60 p r (steps_told h))
