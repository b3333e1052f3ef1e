-- Groups made: a shape, and an entry for each component.
use Prim.Native.Nat.{ℕ, zero, suc, ◌+◌, ◌-◌, ◌*◌, ◌/◌, ◌%◌, ◌^◌, ◌≤◌, ◌<◌}
use native.Mathlib.Omega.{arith}
use native.Mathlib.Nat.{le_refl, mod-eq_of_lt, mul-add, mul-one, div-one}
use mathlib.Core.Path.{◌≡◌, refl, ap, sym, ◌∙◌, subst}
use mathlib.Core.Logic.{◌≢◌}
use mathlib.Core.Bool.{Bool, true, false}
use mathlib.Core.List.{List}
use lib.ListN.{get_or, set, length, length-set}
use lib.Seq.{get_or-set_same, get_or-set_other}
use lib.Dec.{eqb, ltb}
use borrow.Author.Tests.{eqb-true, eqb-false, ltb-true, ltb-false}
use Rattle.meaning.specs.Basics.{if◌then◌otherwise◌}
use Rattle.meaning.specs.Token.{Token}
use Rattle.meaning.specs.State.{State, group, components_in, with_shape}
use Rattle.meaning.specs.Run as Run
use Rattle.meaning.specs.Book.{Amounts, added, resource_number, shortage_of}
use Rattle.meaning.specs.Group as Group
use Rattle.machine.specs.Layout.{steps_used, shapes_used, entries_used, entries_made, components_made, shapes_granted, entries_granted}
use Rattle.machine.specs.Layout.{calls_granted, fixed_words, shape_place, component_place, path_place, Room, first_call}
use Rattle.machine.specs.Act.{Raw, raw}
use Rattle.machine.specs.Act as Act
use Rattle.machine.specs.Shapes.{first_word, kind_group, is_group_at}
use Rattle.machine.specs.Groups.{slot_word, component_at, followers_at, first_at, count_at, zeroed, unmarked, fill_from, group_laid, put_group, new_group}
use Rattle.machine.proofs.Slots.{length_zeroed, zeroed_other, zeroed_here, slot_apart, slot_room}
use Rattle.simulation.specs.Meant.{listed, components_of, content_at}
use Rattle.simulation.specs.Sound.{Grouped, mark_in}
use Rattle.simulation.specs.Follows.{Grants, Related, Follows}
use Rattle.simulation.proofs.Binding.{bind}
use Rattle.simulation.proofs.Listed.{listed_shift, length_listed}
use Rattle.simulation.proofs.Frames.{mark_here, mark_none}
use Rattle.simulation.proofs.Results.{due, given, steps_told, spent_then}
use Rattle.simulation.proofs.Growing.{alive, length_four, read_four, read_first, read_second, read_third, read_fourth, Grown, AfterShape, grown_after}

-- ---- a slot's word
slot_component : (c n : ℕ) → c < 2 ^ 32 → slot_word c n % 2 ^ 32 ≡ c
slot_component c n l = omega arith

slot_count : (c n : ℕ) → n < 2 ^ 16 → slot_word c n / 2 ^ 32 % 2 ^ 16 ≡ n
slot_count c n l =
    let a : n % 2 ^ 32 ≡ n = omega arith in
    let q : slot_word c n / 2 ^ 32 ≡ n = rw a (omega arith) in
    rw q (omega arith)

slot_first : (c n : ℕ) → c < 2 ^ 16 → slot_word c n % 2 ^ 16 ≡ c
slot_first c n l =
    let a : c % 2 ^ 32 ≡ c = omega arith in
    rw a (omega arith)

-- ---- where the components are taken from: places that making a group leaves alone
pub record Source (g ws : List ℕ) (place stride unit : ℕ) (parts : ℕ → ℕ) (many : ℕ) : Type 0 where
  pub gives : (k : ℕ) → k < many → get_or ws (place + stride * k) 0 / unit % 2 ^ 32 ≡ parts k
  pub older : (k : ℕ) → k < many → parts k < get_or ws shapes_used 0
  pub high : (k : ℕ) → k < many → first_call ≤ place + stride * k
  pub new : (k j : ℕ) → k < many → j < 3 → place + stride * k ≢ shape_place (get_or ws shapes_used 0) + j
  pub slots : (k j : ℕ) → k < many → get_or ws components_made 0 ≤ j → place + stride * k ≢ component_place g j
  pub below : (k : ℕ) → k < many → place + stride * k < path_place g 0 0

module _ {program : List ℕ} {ts : List Token} {g : List ℕ} {r : Raw} {s : State} {total : Amounts} (h : Related program ts g r s total) (place stride unit : ℕ)
    (parts : ℕ → ℕ) (many : ℕ) (src : Source g r.words place stride unit parts many) (p : ℕ) where
  abbrev n : ℕ
  n = get_or r.words shapes_used 0

  abbrev c : ℕ
  c = get_or r.words components_made 0

  abbrev at : ℕ
  at = shape_place (get_or r.words shapes_used 0)

  -- ---- k components are there
  record Filling (ws : List ℕ) (k : ℕ) : Type 0 where
    long : length ws ≡ length r.words
    used : get_or ws shapes_used 0 ≡ n + 1
    fit : n + 1 ≤ shapes_granted g
    taken : get_or ws entries_used 0 ≡ get_or r.words entries_used 0 + k
    room : get_or r.words entries_used 0 + k ≤ entries_granted g
    made : get_or ws components_made 0 ≡ c + k
    word₀ : get_or ws at 0 ≡ first_word kind_group 0
    word₁ : get_or ws (at + 1) 0 ≡ slot_word c many
    word₂ : get_or ws (at + 2) 0 ≡ 0
    filled : (j : ℕ) → j < k → get_or ws (component_place g (c + j)) 0 ≡ slot_word (parts j) (many - suc j)
    others : (j : ℕ) → j < path_place g 0 0 → j ≢ shapes_used → j ≢ entries_used → j ≢ components_made → j ≢ at → j ≢ at + 1 → j ≢ at + 2
        → ((i : ℕ) → i < k → j ≢ component_place g (c + i)) → get_or ws j 0 ≡ get_or r.words j 0
    clear : (d j : ℕ) → d < calls_granted g → j < k → get_or ws (path_place g d (c + j)) 0 ≡ 0
    marks : (d j : ℕ) → d < calls_granted g → j < c → get_or ws (path_place g d j) 0 ≡ get_or r.words (path_place g d j) 0

  four : (j : ℕ) → j ≢ shapes_used → j ≢ at → j ≢ at + 1 → j ≢ at + 2 → get_or (group_laid (set r.words shapes_used (n + 1)) at c many) j 0 ≡ get_or r.words j 0
  four j x y z w = read_four r.words 1 at (at + 1) (at + 2) (n + 1) (first_word kind_group 0) (slot_word c many) 0 j x y z w

  -- the shape itself
  begun : n + 1 ≤ shapes_granted g → Filling (group_laid (set r.words shapes_used (n + 1)) at c many) 0
  begun fit =
      let l : at + 3 ≤ length r.words = omega (arith, fit, h.sound.lent.room.words) in
      record {
        long = length_four r.words 1 at (at + 1) (at + 2) (n + 1) (first_word kind_group 0) (slot_word c many) 0;
        used = read_first r.words 1 at (at + 1) (at + 2) (n + 1) (first_word kind_group 0) (slot_word c many) 0 (omega arith) (λ e. omega arith) (λ e. omega arith) (λ e. omega arith);
        fit = fit;
        taken = four entries_used (λ e. omega arith) (λ e. omega arith) (λ e. omega arith) (λ e. omega arith) ∙ omega arith;
        room = omega (arith, h.sound.counted.entries);
        made = four components_made (λ e. omega arith) (λ e. omega arith) (λ e. omega arith) (λ e. omega arith) ∙ omega arith;
        word₀ = read_second r.words 1 at (at + 1) (at + 2) (n + 1) (first_word kind_group 0) (slot_word c many) 0 (omega arith) (λ e. omega arith) (λ e. omega arith);
        word₁ = read_third r.words 1 at (at + 1) (at + 2) (n + 1) (first_word kind_group 0) (slot_word c many) 0 (omega arith) (λ e. omega arith);
        word₂ = read_fourth r.words 1 at (at + 1) (at + 2) (n + 1) (first_word kind_group 0) (slot_word c many) 0 (omega arith);
        filled = λ j x. absurd (omega arith);
        others = λ j m a b d x y z f. four j a x y z;
        clear = λ d j x y. absurd (omega arith);
        marks = λ d j x y. four _ (λ e. omega arith) (λ e. omega arith) (λ e. omega arith) (λ e. omega arith);
      }

  -- one more
  module _ (ws : List ℕ) (k m : ℕ) (less : k + suc m ≡ many) (a : Filling ws k) (fit : get_or ws entries_used 0 + 1 ≤ entries_granted g) where
    abbrev w : ℕ
    w = slot_word (get_or (set ws entries_used (get_or ws entries_used 0 + 1)) (place + stride * k) 0 / unit) m

    abbrev next : List ℕ
    next = set (zeroed (set (set ws entries_used (get_or ws entries_used 0 + 1)) (component_place g (c + k)) w) (path_place g 0 (c + k)) (calls_granted g)) components_made (c + k + 1)

    abbrev w₁ : List ℕ
    w₁ = set ws entries_used (get_or ws entries_used 0 + 1)

    abbrev w₂ : List ℕ
    w₂ = set (set ws entries_used (get_or ws entries_used 0 + 1)) (component_place g (c + k)) w

    abbrev w₃ : List ℕ
    w₃ = zeroed (set (set ws entries_used (get_or ws entries_used 0 + 1)) (component_place g (c + k)) w) (path_place g 0 (c + k)) (calls_granted g)

    inside : c + k < entries_granted g
    inside = omega (arith, a.taken, fit, h.sound.counted.made)

    long_words : fixed_words + 5 * shapes_granted g + 5 * entries_granted g ≤ length ws
    long_words = rw a.long (omega (arith, h.sound.lent.room.words))

    slot_long : component_place g (c + k) < length ws
    slot_long = omega (arith, inside, long_words)

    long₂ : length w₂ ≡ length ws
    long₂ = length-set w₁ (component_place g (c + k)) w ∙ length-set ws entries_used (get_or ws entries_used 0 + 1)

    long₃ : length w₃ ≡ length ws
    long₃ = length_zeroed w₂ (path_place g 0 (c + k)) (calls_granted g) ∙ long₂

    -- the words of other slots, and all that stand before
    high : (j : ℕ) → j ≢ components_made → ((d : ℕ) → d < calls_granted g → j ≢ path_place g d (c + k)) → get_or next j 0 ≡ get_or w₂ j 0
    high j z f = get_or-set_other w₃ components_made j (c + k + 1) 0 z ∙ zeroed_other w₂ (path_place g 0 (c + k)) (calls_granted g) j (λ i l e. f i l (omega arith))

    low : (j : ℕ) → j < path_place g 0 0 → j ≢ components_made → get_or next j 0 ≡ get_or w₂ j 0
    low j l z = high j z (λ d m e. omega arith)

    other : (j : ℕ) → j < path_place g 0 0 → j ≢ entries_used → j ≢ component_place g (c + k) → j ≢ components_made → get_or next j 0 ≡ get_or ws j 0
    other j l x y z = low j l z ∙ get_or-set_other w₁ (component_place g (c + k)) j w 0 y ∙ get_or-set_other ws entries_used j (get_or ws entries_used 0 + 1) 0 x

    room : Room g ws
    room = let m = h.sound.lent.room in record { steps = m.steps; shapes = m.shapes; entries = m.entries; text = m.text; calls = m.calls; words = rw a.long m.words }

    -- the words of another slot
    apart : (d j : ℕ) → d < calls_granted g → j ≢ c + k → get_or next (path_place g d j) 0 ≡ get_or ws (path_place g d j) 0
    apart d j l n =
        high (path_place g d j) (λ e. omega arith) (λ d' m. slot_apart g d d' j (c + k) l m n)
        ∙ get_or-set_other w₁ (component_place g (c + k)) (path_place g d j) w 0 (λ e. omega (arith, inside))
        ∙ get_or-set_other ws entries_used (path_place g d j) (get_or ws entries_used 0 + 1) 0 (λ e. omega arith)

    source : get_or w₁ (place + stride * k) 0 ≡ get_or r.words (place + stride * k) 0
    source =
        let u = src.high k (omega arith) in
        get_or-set_other ws entries_used (place + stride * k) (get_or ws entries_used 0 + 1) 0 (λ e. omega arith)
        ∙ a.others (place + stride * k) (src.below k (omega arith)) (λ e. omega arith) (λ e. omega arith) (λ e. omega arith)
        (λ e. src.new k 0 (omega arith) (omega arith) (omega arith)) (λ e. src.new k 1 (omega arith) (omega arith) e) (λ e. src.new k 2 (omega arith) (omega arith) e)
        (λ i l. src.slots k (c + i) (omega arith) (omega arith))

    part_small : parts k < 2 ^ 16
    part_small = omega (arith, src.older k (omega arith), h.sound.counted.shapes, h.sound.lent.room.shapes)

    below : k < many
    below = omega arith

    word_is : w ≡ slot_word (parts k) (many - suc k)
    word_is =
        let q : get_or w₁ (place + stride * k) 0 / unit % 2 ^ 32 ≡ parts k % 2 ^ 32 = ap (λ x. x / unit % 2 ^ 32) source ∙ src.gives k (omega arith) ∙ omega (arith, part_small) in
        let b : m ≡ many - suc k = omega arith in
        rw b (ap (λ x. x + 2 ^ 32 * ((many - suc k) % 2 ^ 32)) q)

    filled_at : (j : ℕ) → j < k + 1 → get_or next (component_place g (c + j)) 0 ≡ slot_word (parts j) (many - suc j)
    filled_at j l = go (eqb j k) refl
      where
        go : (b : Bool) → eqb j k ≡ b → get_or next (component_place g (c + j)) 0 ≡ slot_word (parts j) (many - suc j)
        go true e =
            rw (eqb-true j k e)
            (low (component_place g (c + k)) (omega (arith, inside)) (λ e. omega arith)
            ∙ get_or-set_same w₁ (component_place g (c + k)) w 0 (rw (length-set ws entries_used (get_or ws entries_used 0 + 1)) slot_long) ∙ word_is)
        go false e =
            let d : j ≢ k = eqb-false j k e in
            other (component_place g (c + j)) (omega (arith, inside)) (λ e. omega arith) (λ e. d (omega arith)) (λ e. omega arith) ∙ a.filled j (omega arith)

    clear_at : (d j : ℕ) → d < calls_granted g → j < k + 1 → get_or next (path_place g d (c + j)) 0 ≡ 0
    clear_at d j l m = go (eqb j k) refl
      where
        go : (b : Bool) → eqb j k ≡ b → get_or next (path_place g d (c + j)) 0 ≡ 0
        go true e =
            let q : path_place g 0 (c + k) + d ≡ path_place g d (c + k) = omega arith in
            let z = zeroed_here w₂ (path_place g 0 (c + k)) (calls_granted g) d (rw long₂ (slot_room g ws (c + k) room inside)) l in
            rw (eqb-true j k e) (get_or-set_other w₃ components_made (path_place g d (c + k)) (c + k + 1) 0 (λ e. omega arith) ∙ rw q at z)
        go false e =
            let n : j ≢ k = eqb-false j k e in
            apart d (c + j) l (λ e. n (omega arith)) ∙ a.clear d j l (omega arith)

    one_more : Filling next (k + 1)
    one_more = record {
      long = length-set w₃ components_made (c + k + 1) ∙ long₃ ∙ a.long;
      used = other shapes_used (omega arith) (λ e. omega arith) (λ e. omega arith) (λ e. omega arith) ∙ a.used;
      fit = a.fit;
      taken =
          low entries_used (omega arith) (λ e. omega arith) ∙ get_or-set_other w₁ (component_place g (c + k)) entries_used w 0 (λ e. omega arith)
          ∙ get_or-set_same ws entries_used (get_or ws entries_used 0 + 1) 0 (omega (arith, slot_long)) ∙ omega (arith, a.taken);
      room = omega (arith, fit, a.taken);
      made =
          get_or-set_same w₃ components_made (c + k + 1) 0 (rw long₃ (omega (arith, slot_long))) ∙ omega arith;
      word₀ = other at (omega (arith, a.fit)) (λ e. omega arith) (λ e. omega (arith, a.fit)) (λ e. omega arith) ∙ a.word₀;
      word₁ = other (at + 1) (omega (arith, a.fit)) (λ e. omega arith) (λ e. omega (arith, a.fit)) (λ e. omega arith) ∙ a.word₁;
      word₂ = other (at + 2) (omega (arith, a.fit)) (λ e. omega arith) (λ e. omega (arith, a.fit)) (λ e. omega arith) ∙ a.word₂;
      filled = filled_at;
      others = λ j o x y z u v q f. other j o y (f k (omega arith)) z ∙ a.others j o x y z u v q (λ i l. f i (omega arith));
      clear = clear_at;
      marks = λ d j l m. apart d j l (λ e. omega arith) ∙ a.marks d j l m;
    }

  -- ---- all of them
  record Totals (k : ℕ) (total' : Amounts) : Type 0 where
    steps : total' Run.steps ≡ total Run.steps
    shapes : total' Run.shapes ≡ total Run.shapes + 1
    entries : total' Run.entries ≡ get_or r.words entries_used 0 + k
    text : total' Run.text_bytes ≡ total Run.text_bytes
    calls : total' Run.calls ≡ total Run.calls

  data Filled : Raw → State → Amounts → Type 0 where
    filled_all : (ws : List ℕ) (total' : Amounts) → Filling ws many → Totals many total' → Filled (raw r.texts ws) s total'

  told : (ws : List ℕ) (k : ℕ) (total' : Amounts) → Filling ws k → Totals k total' → get_or ws steps_used 0 ≡ total' Run.steps
  told ws k total' a t =
      a.others steps_used (omega arith) (λ e. omega arith) (λ e. omega arith) (λ e. omega arith) (λ e. omega arith) (λ e. omega arith) (λ e. omega arith) (λ i l e. omega arith)
      ∙ steps_told h ∙ sym t.steps

  step : (a b k : ℕ) → a + b * k + b ≡ a + b * (k + 1)
  step a b k = let q : b * (k + 1) ≡ b * k + b = mul-add b k 1 ∙ ap (λ x. b * k + x) (mul-one b) in rw q (omega arith)

  module _ {granted : Amounts} (gr : Grants g granted) where
    fills : (m k : ℕ) → k + m ≡ many → (ws : List ℕ) (total' : Amounts) → Filling ws k → Totals k total'
        → Follows granted total' (λ _ _ r' s' total''. Filled r' s' total'') (fill_from g p stride unit (place + stride * k) m (raw r.texts ws)) (Group.spend_each Run.entries m p s)
    unfolding fill_from unmarked Group.spend_each Act.◌>>=◌ Act.go_on Act.load Act.store Act.give Run.◌>>=◌ Run.go_on Run.give shortage_of added resource_number
    fills zero k e ws total' a t =
        let q : k ≡ many = omega arith in
        given (filled_all ws total' (subst (Filling ws) q a) (subst (λ k. Totals k total') q t))
    fills (suc m) k e ws total' a t =
        spent_then Run.entries entries_used (entries_granted g) 1 77 p (raw r.texts ws) s (t.entries ∙ sym a.taken) gr.entries refl (told ws k total' a t) _ _
        (λ fit.
        let q : get_or ws components_made 0 % entries_granted g ≡ c + k = rw a.made (mod-eq_of_lt (inside ws k m e a fit)) in
        let d : place + stride * k + stride ≡ place + stride * (k + 1) = step place stride k in
        rw (q, d)
        (fills m (k + 1) (omega arith) (next ws k m e a fit) (added total' (due Run.entries 1 p)) (one_more ws k m e a fit)
        (record { steps = omega (arith, t.steps); shapes = omega (arith, t.shapes); entries = omega (arith, t.entries); text = omega (arith, t.text); calls = omega (arith, t.calls) })))

    -- ---- the group
    module _ (ws : List ℕ) (a : Filling ws many) where
      kind_read : is_group_at ws n ≡ true
      kind_read = rw a.word₀

      few : many < 2 ^ 16
      few = omega (arith, a.room, h.sound.lent.room.entries)

      first_small : c < 2 ^ 16
      first_small = omega (arith, h.sound.counted.made, h.sound.counted.entries, h.sound.lent.room.entries)

      first_is : first_at ws n ≡ c
      first_is = rw a.word₁ (slot_first c many first_small)

      count_is : count_at ws n ≡ many
      count_is = rw a.word₁ (slot_count c many few)

      plain : (j : ℕ) → j ≢ shapes_used → j ≢ entries_used → j ≢ components_made → j < at → get_or ws j 0 ≡ get_or r.words j 0
      plain j x y z l = a.others j (omega (arith, a.fit)) x y z (λ e. omega arith) (λ e. omega arith) (λ e. omega arith) (λ i m e. omega (arith, a.fit))

      first_in : c ≤ entries_granted g
      first_in = omega (arith, h.sound.counted.made, h.sound.counted.entries)

      behind : (j : ℕ) → at + 3 ≤ j → j < component_place g c → get_or ws j 0 ≡ get_or r.words j 0
      behind j l m = a.others j (omega (arith, first_in)) (λ e. omega arith) (λ e. omega arith) (λ e. omega arith) (λ e. omega arith) (λ e. omega arith) (λ e. omega arith) (λ i o e. omega arith)

      small : (j : ℕ) → j < many → parts j < 2 ^ 32
      small j l = omega (arith, src.older j l, h.sound.counted.shapes, h.sound.lent.room.shapes)

      part_at : (j : ℕ) → j < many → component_at g ws (c + j) ≡ parts j
      part_at j l = rw (a.filled j l) (slot_component (parts j) (many - suc j) (small j l))

      grouped : Grouped g ws n
      grouped = record {
        within = rw (first_is, count_is, a.made) (le_refl _);
        older = λ k x y.
            let u = rw first_is at x in
            let v = rw (first_is, count_is) at y in
            let q : c + (k - c) ≡ k = omega arith in
            rw (← q, part_at (k - c) (omega arith)) (src.older (k - c) (omega arith));
        follow = λ k x y.
            let u = rw first_is at x in
            let v = rw (first_is, count_is) at y in
            let q : c + (k - c) ≡ k = omega arith in
            let l : k - c < many = omega arith in
            let f : followers_at g ws (c + (k - c)) ≡ many - suc (k - c) =
            rw (a.filled (k - c) l) (slot_count (parts (k - c)) (many - suc (k - c)) (omega (arith, few))) in
            rw (first_is, count_is, rw q at f) (omega arith);
      }

      -- those of the slots before are as they were, and of the new ones there are none
      marks_kept : (d k : ℕ) → d < calls_granted g → (t : Bool) → ltb k c ≡ t → (u : Bool) → ltb k (c + many) ≡ u → mark_in g ws d k ≡ mark_in g r.words d k
      marks_kept d k l true e u f =
          let x : k < c = ltb-true k c e in
          mark_here g ws d k (omega (arith, a.made)) ∙ a.marks d k l x ∙ sym (mark_here g r.words d k x)
      marks_kept d k l false e true f =
          let x : c ≤ k = ltb-false k c e in
          let y : k < c + many = ltb-true k (c + many) f in
          let q : c + (k - c) ≡ k = omega arith in
          mark_here g ws d k (omega (arith, a.made)) ∙ rw q at (a.clear d (k - c) l (omega arith)) ∙ sym (mark_none g r.words d k x)
      marks_kept d k l false e false f =
          let x : c ≤ k = ltb-false k c e in
          let y : c + many ≤ k = ltb-false k (c + many) f in
          mark_none g ws d k (omega (arith, a.made)) ∙ sym (mark_none g r.words d k x)

      is_grown : Grown program g r ws
      is_grown = record {
        long = a.long;
        low = λ j x y z l. plain j x y z (omega arith);
        used = a.used;
        fit = a.fit;
        shapes = λ i j l k. plain _ (λ e. omega arith) (λ e. omega arith) (λ e. omega arith) (omega arith);
        ways = λ i j x y l.
            a.others _ (omega arith) (λ e. omega arith) (λ e. omega arith) (λ e. omega arith) (λ e. omega arith) (λ e. omega arith) (λ e. omega arith) (λ i m e. omega arith);
        entries = λ j x y. behind j (omega (arith, a.fit)) (omega arith);
        parts = record { made = omega (arith, a.made); words = λ k l. behind _ (omega (arith, a.fit)) (omega arith) };
        marks = λ d k l. marks_kept d k l (ltb k c) refl (ltb k (c + many)) refl;
        taken = rw a.taken a.room;
        made =
            let m = plain entries_made (λ e. omega arith) (λ e. omega arith) (λ e. omega arith) (omega arith) in
            omega (arith, m, a.made, a.taken, h.sound.counted.made);
        first = rw a.word₁ (omega arith);
        second = rw a.word₂ (omega arith);
        proper = λ e. let z : ◌≡◌ {A = Bool} true false = sym kind_read ∙ e in let y : ◌≡◌ {A = ℕ} 0 1 = cc in absurd (omega arith);
        grouped = λ e. grouped;
        behind = λ e. rw first_is (le_refl _);
        full = λ e. rw a.word₂;
        living = rw a.word₀ (alive kind_group 0);
      }

      content_is : content_at program g (raw r.texts ws) n ≡ group (listed parts 0 many)
      unfolding content_at components_of if◌then◌otherwise◌
      content_is =
          rw (kind_read, first_is, count_is)
          (ap group (listed_shift (component_at g ws) parts c 0 many (λ j l. let z : 0 + j ≡ j = omega arith in rw z (part_at j l))))

      group_after : (total' : Amounts) → Totals many total'
          → AfterShape program ts g r s n (length s.shapes) (raw r.texts ws) (with_shape s (group (listed parts 0 many))) total'
      group_after total' t =
          grown_after h ws is_grown (group (listed parts 0 many)) total' (sym content_is) t.steps t.shapes (t.entries ∙ sym a.taken) t.text t.calls

    pub makes_group : Follows granted total (λ i j r' s' total'. AfterShape program ts g r s i j r' s' total') (new_group g p stride unit place many r)
        (Group.new_shape p (group (listed parts 0 many)) s)
    unfolding new_group Group.new_shape components_in put_group Act.◌>>=◌ Act.go_on Act.load Act.give Run.◌>>=◌ Run.go_on Run.current Run.become Run.give shortage_of added resource_number
    makes_group =
        spent_then Run.shapes shapes_used (shapes_granted g) 1 76 p r s h.shapes_taken gr.shapes refl (steps_told h) _ _
        (λ fit.
        let z : get_or (set r.words shapes_used (n + 1)) components_made 0 ≡ c = get_or-set_other r.words shapes_used components_made (n + 1) 0 (λ e. omega arith) in
        let y : place + stride * 0 ≡ place = omega arith in
        rw (z, length_listed parts 0 many)
        (bind (rw y at (fills many 0 (omega arith) (group_laid (set r.words shapes_used (n + 1)) at c many) (added total (due Run.shapes 1 p)) (begun fit)
        (record { steps = omega arith; shapes = omega arith; entries = omega (arith, h.entries_taken); text = omega arith; calls = omega arith })))
        (λ _ _ r' s' total' w. last w)))
      where
        last : {r' : Raw} {s' : State} {total' : Amounts} → Filled r' s' total'
            → Follows granted total' (λ i j r' s' total'. AfterShape program ts g r s i j r' s' total') (Act.give n r')
            (Run.◌>>=◌ Run.current (λ s. Run.◌>>◌ (Run.become (with_shape s (group (listed parts 0 many)))) (Run.give (length s.shapes))) s')
        last (filled_all ws total' a t) = given (group_after ws a total' t)

-- ---- a copy of a group, which has the same components
module _ {program : List ℕ} {ts : List Token} {g : List ℕ} {r : Raw} {s : State} {total : Amounts} (h : Related program ts g r s total) (i : ℕ)
    (l : i < get_or r.words shapes_used 0) (e : is_group_at r.words i ≡ true) (p : ℕ) where
  own : Grouped g r.words i
  own = h.sound.shapes.groups i l e

  copied_from : Source g r.words (component_place g (first_at r.words i)) 1 1 (λ k. component_at g r.words (first_at r.words i + k)) (count_at r.words i)
  copied_from = record {
    gives = λ k m.
        let q : component_place g (first_at r.words i) + 1 * k ≡ component_place g (first_at r.words i + k) = omega arith in
        rw (q, div-one (get_or r.words (component_place g (first_at r.words i + k)) 0));
    older = λ k m. omega (arith, own.older (first_at r.words i + k) (omega arith) (omega arith));
    high = λ k m. omega arith;
    new = λ k j m x q. omega (arith, h.sound.counted.shapes, own.within);
    slots = λ k j m x q. omega (arith, own.within);
    below = λ k m. omega (arith, own.within, h.sound.counted.made, h.sound.counted.entries);
  }

  pub copies_group : {granted : Amounts} (gr : Grants g granted)
      → Follows granted total (λ i j r' s' total'. AfterShape program ts g r s i j r' s' total') (new_group g p 1 1 (component_place g (first_at r.words i)) (count_at r.words i) r)
      (Group.new_shape p (group (components_of g r.words i)) s)
  unfolding components_of
  copies_group gr =
      rw (listed_shift (component_at g r.words) (λ k. component_at g r.words (first_at r.words i + k)) (first_at r.words i) 0 (count_at r.words i)
      (λ j x. let z : 0 + j ≡ j = omega arith in rw z))
      (makes_group h (component_place g (first_at r.words i)) 1 1 (λ k. component_at g r.words (first_at r.words i + k)) (count_at r.words i) copied_from p gr)
