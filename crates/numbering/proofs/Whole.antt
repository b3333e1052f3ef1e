-- A program that was read, numbered procedure by procedure: one leaves the others' words alone.
use Prim.Native.Nat.{ℕ, zero, suc, ◌+◌, ◌/◌, ◌≤◌, ◌<◌}
use native.Mathlib.Omega.{arith}
use native.Mathlib.Nat.{eq-or-lt_of_le}
use mathlib.Core.Path.{◌≡◌, refl, sym, ap, ◌∙◌, subst}
use mathlib.Core.Logic.{◌⊎◌, inl, inr, ⊎_elim}
use mathlib.Core.Bool.{false}
use mathlib.Core.List.{List, [], ◌++◌, map}
use mathlib.Core.Option.{Option, none, some}
use lib.ListN.{length, get_or, set, replicate, length-append, length-map, length-set, length-replicate}
use lib.Seq.{get_or-set_same, get_or-set_other}
use lib.Dec.{eqb}
use borrow.Author.Tests.{eq-eqb, ne_eqb}
use Rattle.meaning.specs.Basics.{bytes, if◌then◌otherwise◌}
use Rattle.meaning.specs.Token.{Token, a_name}
use Rattle.meaning.specs.Tree.{Statements, only, first, Procedure, Program}
use Rattle.meaning.specs.Grammar.{procedure_named}
use Rattle.meaning.specs.Procedure.{doubled}
use Rattle.machine.specs.Opcodes.{table_place, start_in}
use Rattle.code.specs.Code.{slot_of, code_of_statements, code_of_procedure, code_of_procedures, head_word, tabled, statements_with}
use Rattle.reader.specs.Sane.{Sane}
use Rattle.reader.specs.Reading.{tokens_in}
use Rattle.reader.proofs.Homes.{Occurs, slot_small, slots_apart}
use Rattle.reader.proofs.Fields.{statement_some}
use Rattle.reader.proofs.Trees.{Understood, UnderstoodAll, UnderstoodWhole, procedures_understood}
use Rattle.reader.proofs.Tables.{head_positive, start_told, named_understood, table_at, table_length, table_word}
use Rattle.reader.proofs.Gathered.{zero_at}
use Rattle.reader.proofs.Lexing.{lexed_sane}
use Rattle.reader.proofs.Walk.{Stands, stands_front, stands_back, stands_within}
use Rattle.reader.proofs.Whole.{Whole}
use Rattle.numbering.specs.Numbers.{numbered_word, numbered_body}
use Rattle.numbering.specs.Pass.{words_from, put_from, Pass, pass, number_procedure, settled, number_slot, number_slots, number_all}
use Rattle.numbering.proofs.Numbered.{NumberedAt, Numbered, NumberedWhole}
use Rattle.numbering.proofs.Words.{words_stand, stands_words, words_same, put_long, put_before, put_behind, put_there}
use Rattle.numbering.proofs.Starts.{code_length, start_named, Lies, lies, starts_apart, table_free, Has, Lacks, has_or_lacks}
use Rattle.numbering.proofs.Procedure.{short, body_long, procedure_code, procedure_table, procedure_long, procedure_word_lem}

body_some : (ss : Statements) (ts : List Token) → 0 < length (code_of_statements ss ts)
unfolding statements_with
body_some (only s) ts = statement_some s ts
body_some (first s ss) ts = rw length-append (omega (arith, statement_some s ts))

some_none : {f : Procedure} {A : Type 0} → some f ≡ none → A
some_none e = let z : ◌≡◌ {A = ℕ} 0 1 = cc in absurd (omega arith)

same_some : {f g : Procedure} → some f ≡ some g → f ≡ g
same_some e = cc

-- the program's procedures, and main, whose name is x₀
module _ (ts : List Token) (sane : Sane ts) (fs : List Procedure) (each : UnderstoodAll ts fs) (brief : length (code_of_procedures fs ts) < 8192)
    (x₀ : List ℕ) (f₀ : Procedure) (o₀ : Occurs ts a_name x₀) (is₀ : procedure_named x₀ fs ≡ some f₀) where
  abbrev start : List ℕ → ℕ
  start x = start_named 0 fs ts x

  abbrev size : Procedure → ℕ
  size f = length (code_of_statements f.body ts)

  abbrev takes : Procedure → ℕ
  takes f = length f.parameters

  abbrev main_word : ℕ
  main_word = head_word (start x₀) f₀ ts

  -- a procedure that is not numbered yet, and one that is
  record Untouched (code : List ℕ) (x : List ℕ) (f : Procedure) : Type 0 where
    word : get_or code (table_place (slot_of ts x)) 0 ≡ head_word (start x) f ts
    slots : words_from code (start x) (takes f) ≡ map (slot_of ts) f.parameters
    body : words_from code (start x + takes f) (size f) ≡ code_of_statements f.body ts

  record Done (code : List ℕ) (x : List ℕ) (f : Procedure) : Type 0 where
    word : get_or code (table_place (slot_of ts x)) 0 ≡ numbered_word (start x) f ts
    body : words_from code (start x + takes f) (length (numbered_body f ts)) ≡ numbered_body f ts

  -- the procedures whose slots are below one are numbered
  record Going (slot : ℕ) (p : Pass) : Type 0 where
    later : (x : List ℕ) (f : Procedure) → Occurs ts a_name x → procedure_named x fs ≡ some f → slot ≤ slot_of ts x → Untouched p.code x f
    done : (x : List ℕ) (f : Procedure) → Occurs ts a_name x → procedure_named x fs ≡ some f → slot_of ts x < slot → Done p.code x f
    empty : (t : ℕ) → t < 8192 → Lacks fs ts t → get_or p.code (table_place t) 0 ≡ 0
    code_long : 16384 ≤ length p.code
    table_long : 8192 ≤ length p.table
    fresh : (t : ℕ) → get_or p.table t 0 / 65536 ≤ slot
    main_later : slot ≤ slot_of ts x₀ → p.word ≡ main_word
    main_done : slot_of ts x₀ < slot → p.word ≡ numbered_word (start x₀) f₀ ts

  -- ---- where a procedure stands
  module _ (x : List ℕ) (f : Procedure) (is : procedure_named x fs ≡ some f) where
    ends : start x + takes f + size f ≤ length (code_of_procedures fs ts)
    ends = omega (arith, (lies 0 fs ts x f is).high, code_length f ts)

    known : Understood ts f
    known = named_understood ts fs each x f is

    narrow : takes f < 65536
    narrow = omega (arith, short ts sane f known)

  small : (x : List ℕ) → Occurs ts a_name x → slot_of ts x < 8192
  small x o = omega (arith, slot_small ts x o, sane.few)

  -- procedures of two names have different words
  words_differ : (x y : List ℕ) (f g : Procedure) → procedure_named x fs ≡ some f → procedure_named y fs ≡ some g → (x ≡ y → ⊥) → head_word (start x) f ts ≡ head_word (start y) g ts → ⊥
  words_differ x y f g n m d e =
      let a : start_in (head_word (start x) f ts) ≡ start x = start_told (start x) (takes f) (size f) (omega (arith, ends x f n)) (narrow x f n) in
      let b : start_in (head_word (start y) g ts) ≡ start y = start_told (start y) (takes g) (size g) (omega (arith, ends y g m)) (narrow y g m) in
      let s : start x ≡ start y = sym a ∙ ap start_in e ∙ b in
      ⊎_elim (λ l. omega (arith, l, s, code_length f ts, body_some f.body ts)) (λ l. omega (arith, l, s, code_length g ts, body_some g.body ts))
      (starts_apart 0 fs ts x y f g n m d)

  -- ---- a slot that no procedure has
  module _ (slot : ℕ) (p : Pass) (g : Going slot p) (below : slot < length ts) (lacks : Lacks fs ts slot) where
    idle : number_slot main_word slot p ≡ p
    unfolding number_slot if◌then◌otherwise◌
    idle = let z = g.empty slot (omega (arith, sane.few)) lacks in rw (eq-eqb _ _ z)

    turn_none : Going (slot + 1) p
    turn_none = record {
      later = λ x f o is l. g.later x f o is (omega arith);
      done = λ x f o is l. ⊎_elim (λ (q : slot_of ts x ≡ slot). absurd (lacks x f o is q)) (λ (q : slot_of ts x < slot). g.done x f o is q) (eq-or-lt_of_le (omega arith));
      empty = g.empty;
      code_long = g.code_long;
      table_long = g.table_long;
      fresh = λ t. omega (arith, g.fresh t);
      main_later = λ l. g.main_later (omega arith);
      main_done = λ l. ⊎_elim (λ (q : slot_of ts x₀ ≡ slot). absurd (lacks x₀ f₀ o₀ is₀ q)) (λ (q : slot_of ts x₀ < slot). g.main_done q) (eq-or-lt_of_le (omega arith));
    }

  -- ---- a slot that one has
  module _ (slot : ℕ) (p : Pass) (g : Going slot p) (below : slot < length ts) (x : List ℕ) (f : Procedure) (o : Occurs ts a_name x)
      (is : procedure_named x fs ≡ some f) (there : slot_of ts x ≡ slot) where
    untouched : Untouched p.code x f
    untouched = g.later x f o is (omega arith)

    abbrev d : ℕ
    d = head_word (start x) f ts

    here : get_or p.code (table_place slot) 0 ≡ d
    here = ap (λ (i : ℕ). get_or p.code (table_place i) 0) (sym there) ∙ untouched.word

    abbrev numbered : Pass
    numbered = number_procedure (slot + 1) d p.code p.table

    early : start x < 65536
    early = omega (arith, ends x f is)

    newer : (t : ℕ) → get_or p.table t 0 / 65536 < slot + 1
    newer t = omega (arith, g.fresh t)

    -- the code then
    abbrev at : ℕ
    at = start x + takes f

    abbrev put : List ℕ
    put = put_from p.code at (numbered_body f ts)

    abbrev next : List ℕ
    next = set put (table_place slot) (numbered_word (start x) f ts)

    abbrev found : ℕ
    found = if eqb d main_word then (λ _. numbered_word (start x) f ts) otherwise λ _. p.word

    turned : number_slot main_word slot p ≡ pass next numbered.table found
    unfolding number_slot settled if◌then◌otherwise◌
    turned =
        let z : eqb (get_or p.code (table_place slot) 0) 0 ≡ false = rw here (ne_eqb d 0 (λ e. omega (arith, head_positive (start x) f ts))) in
        let c = procedure_code ts sane f (known x f is) (start x) (slot + 1) early p.code p.table untouched.slots untouched.body g.table_long newer in
        let w = procedure_word_lem ts sane f (known x f is) (start x) (slot + 1) early p.code p.table untouched.slots untouched.body g.table_long newer in
        rw (z, here, c, w)

    -- ---- words that stay
    body_ends : at + length (numbered_body f ts) ≤ 8191
    body_ends = omega (arith, body_long ts sane f (known x f is), ends x f is, brief)

    place_small : table_place slot < 16384
    place_small = omega arith

    stays : (i : ℕ) → (i < at) ⊎ (at + length (numbered_body f ts) ≤ i) → (i ≡ table_place slot → ⊥) → get_or next i 0 ≡ get_or p.code i 0
    stays i s n =
        get_or-set_other put (table_place slot) i (numbered_word (start x) f ts) 0 n
        ∙ ⊎_elim (λ l. put_before p.code at (numbered_body f ts) i l) (λ l. put_behind p.code at (numbered_body f ts) i l) s

    place_stays : (t : ℕ) → t < 8192 → (t ≡ slot → ⊥) → get_or next (table_place t) 0 ≡ get_or p.code (table_place t) 0
    place_stays t l n = stays (table_place t) (inr (omega (arith, body_ends))) (λ e. n (omega (arith, e, below, sane.few)))

    words_stay : (y : List ℕ) (h : Procedure) → procedure_named y fs ≡ some h → (x ≡ y → ⊥) → (a n : ℕ) → start y ≤ a → a + n ≤ start y + takes h + size h
        → words_from next a n ≡ words_from p.code a n
    words_stay y h m d a n l k = words_same p.code next a n (λ i q r. stays i (apart i q r) (λ e. omega (arith, e, ends y h m, brief)))
      where
        apart : (i : ℕ) → a ≤ i → i < a + n → (i < at) ⊎ (at + length (numbered_body f ts) ≤ i)
        apart i q r =
            ⊎_elim (λ s. inr (omega (arith, s, code_length f ts, body_long ts sane f (known x f is)))) (λ s. inl (omega (arith, s, code_length h ts)))
            (starts_apart 0 fs ts x y f h is m d)

    -- ---- the procedure itself
    is_done : Done next x f
    is_done = record {
      word = ap (λ (i : ℕ). get_or next (table_place i) 0) there
          ∙ get_or-set_same put (table_place slot) (numbered_word (start x) f ts) 0 (omega (arith, place_small, put_long p.code at (numbered_body f ts), g.code_long));
      body = words_same put next at (length (numbered_body f ts)) (λ i q r.
          get_or-set_other put (table_place slot) i (numbered_word (start x) f ts) 0 (λ e. omega (arith, e, body_ends)))
          ∙ put_there p.code at (numbered_body f ts) (omega (arith, body_ends, g.code_long));
    }

    same_name : (y : List ℕ) → Occurs ts a_name y → slot_of ts y ≡ slot → x ≡ y
    same_name y q e = (slots_apart ts x y o q).0 (there ∙ sym e)

    other_name : (y : List ℕ) → (slot_of ts y ≡ slot → ⊥) → x ≡ y → ⊥
    other_name y n e = n (ap (slot_of ts) (sym e) ∙ there)

    -- ---- the others
    later_stays : (y : List ℕ) (h : Procedure) → Occurs ts a_name y → procedure_named y fs ≡ some h → slot + 1 ≤ slot_of ts y → Untouched next y h
    later_stays y h q m l =
        let u = g.later y h q m (omega arith) in
        let d = other_name y (λ e. omega arith) in
        record {
          word = place_stays (slot_of ts y) (small y q) (λ e. omega arith) ∙ u.word;
          slots = words_stay y h m d (start y) (takes h) (omega arith) (omega arith) ∙ u.slots;
          body = words_stay y h m d (start y + takes h) (size h) (omega arith) (omega arith) ∙ u.body;
        }

    done_stays : (y : List ℕ) (h : Procedure) → Occurs ts a_name y → procedure_named y fs ≡ some h → slot_of ts y < slot + 1 → Done next y h
    done_stays y h q m l = ⊎_elim by_this by_other (eq-or-lt_of_le (omega arith))
      where
        by_this : slot_of ts y ≡ slot → Done next y h
        by_this e =
            let n : x ≡ y = same_name y q e in
            let w : f ≡ h = same_some (sym is ∙ ap (λ (z : List ℕ). procedure_named z fs) n ∙ m) in
            subst (λ (z : List ℕ). Done next z h) n (subst (Done next x) w is_done)

        by_other : slot_of ts y < slot → Done next y h
        by_other e =
            let u = g.done y h q m e in
            let d = other_name y (λ z. omega arith) in
            record {
              word = place_stays (slot_of ts y) (small y q) (λ z. omega arith) ∙ u.word;
              body = words_stay y h m d (start y + takes h) (length (numbered_body h ts)) (omega arith) (omega (arith, body_long ts sane h (known y h m))) ∙ u.body;
            }

    -- ---- main's word
    found_later : slot + 1 ≤ slot_of ts x₀ → found ≡ main_word
    unfolding if◌then◌otherwise◌
    found_later l =
        let n : d ≡ main_word → ⊥ = words_differ x x₀ f f₀ is is₀ (other_name x₀ (λ e. omega arith)) in
        rw (ne_eqb d main_word n) (g.main_later (omega arith))

    found_done : slot_of ts x₀ < slot + 1 → found ≡ numbered_word (start x₀) f₀ ts
    unfolding if◌then◌otherwise◌
    found_done l = ⊎_elim by_this by_other (eq-or-lt_of_le (omega arith))
      where
        by_this : slot_of ts x₀ ≡ slot → found ≡ numbered_word (start x₀) f₀ ts
        by_this e =
            let n : x ≡ x₀ = same_name x₀ o₀ e in
            let w : f ≡ f₀ = same_some (sym is ∙ ap (λ (z : List ℕ). procedure_named z fs) n ∙ is₀) in
            let q : d ≡ main_word = ap (λ (z : List ℕ). head_word (start z) f ts) n ∙ ap (λ (k : Procedure). head_word (start x₀) k ts) w in
            rw (eq-eqb d main_word q) (ap (λ (z : List ℕ). numbered_word (start z) f ts) n ∙ ap (λ (k : Procedure). numbered_word (start x₀) k ts) w)

        by_other : slot_of ts x₀ < slot → found ≡ numbered_word (start x₀) f₀ ts
        by_other e =
            let n : d ≡ main_word → ⊥ = words_differ x x₀ f f₀ is is₀ (other_name x₀ (λ z. omega arith)) in
            rw (ne_eqb d main_word n) (g.main_done e)

    turn_one : Going (slot + 1) (pass next numbered.table found)
    turn_one = record {
      later = later_stays;
      done = done_stays;
      empty = λ t l n. place_stays t l (λ e. n x f o is (there ∙ sym e)) ∙ g.empty t l n;
      code_long = rw (length-set put (table_place slot) (numbered_word (start x) f ts), put_long p.code at (numbered_body f ts)) g.code_long;
      table_long = procedure_long ts sane f (known x f is) (start x) (slot + 1) early p.code p.table untouched.slots untouched.body g.table_long newer;
      fresh = procedure_table ts sane f (known x f is) (start x) (slot + 1) early p.code p.table untouched.slots untouched.body g.table_long newer;
      main_later = found_later;
      main_done = found_done;
    }

  -- ---- all slots
  turn : (slot : ℕ) (p : Pass) → Going slot p → slot < length ts → Going (slot + 1) (number_slot main_word slot p)
  turn slot p g l = ⊎_elim by_has by_lacks (has_or_lacks fs ts slot)
    where
      by_has : Has fs ts slot → Going (slot + 1) (number_slot main_word slot p)
      by_has h = rw (turned slot p g l h.name h.procedure h.occurs h.is h.there) (turn_one slot p g l h.name h.procedure h.occurs h.is h.there)

      by_lacks : Lacks fs ts slot → Going (slot + 1) (number_slot main_word slot p)
      by_lacks h = rw (idle slot p g l h) (turn_none slot p g l h)

  turns : (n slot : ℕ) (p : Pass) → slot + n ≤ length ts → Going slot p → Going (slot + n) (number_slots main_word slot n p)
  unfolding number_slots
  turns zero slot p l g = let e : slot + 0 ≡ slot = omega arith in rw e g
  turns (suc n) slot p l g =
      let e : slot + 1 + n ≡ slot + suc n = omega arith in
      subst (λ (i : ℕ). Going i (number_slots main_word (slot + 1) n (number_slot main_word slot p))) e
      (turns n (slot + 1) (number_slot main_word slot p) (omega arith) (turn slot p g (omega arith)))

  -- ---- the beginning
  module _ (different : doubled [] fs ≡ none) (code table : List ℕ) (stands : Stands code 0 (code_of_procedures fs ts))
      (words : Stands code 8192 (tabled 0 fs ts (replicate 8192 0))) (room : 8192 ≤ length table) where
    long : length (tabled 0 fs ts (replicate 8192 0)) ≡ 8192
    long = table_length 0 fs ts (replicate 8192 0) ∙ length-replicate {A = ℕ} 8192 0

    at_place : (t : ℕ) → t < 8192 → get_or code (table_place t) 0 ≡ get_or (tabled 0 fs ts (replicate 8192 0)) t 0
    at_place t l = table_word code (tabled 0 fs ts (replicate 8192 0)) words long t l

    begins : (x : List ℕ) (f : Procedure) → Occurs ts a_name x → procedure_named x fs ≡ some f → Untouched code x f
    unfolding code_of_procedure
    begins x f o is =
        let l = lies 0 fs ts x f is in
        let s : Stands code (start x) (map (slot_of ts) f.parameters ++ code_of_statements f.body ts) = l.stands code stands in
        let n : length (map (slot_of ts) f.parameters) ≡ takes f = length-map f.parameters (slot_of ts) in
        record {
          word = at_place (slot_of ts x) (small x o) ∙ table_at ts sane.few fs each different x o ∙ l.word;
          slots = rw n at (words_stand (start x) (map (slot_of ts) f.parameters) (stands_front (map (slot_of ts) f.parameters) (code_of_statements f.body ts) s));
          body = rw n at (words_stand (start x + length (map (slot_of ts) f.parameters)) (code_of_statements f.body ts)
              (stands_back (map (slot_of ts) f.parameters) (code_of_statements f.body ts) s));
        }

    nothing_there : (t : ℕ) → t < 8192 → Lacks fs ts t → get_or code (table_place t) 0 ≡ 0
    nothing_there t l h = at_place t l ∙ table_free 0 fs ts (replicate 8192 0) t (λ x n e. go x (procedure_named x fs) refl n e) ∙ zero_at 8192 t
      where
        go : (x : List ℕ) (q : Option Procedure) → procedure_named x fs ≡ q → (procedure_named x fs ≡ none → ⊥) → slot_of ts x ≡ t → ⊥
        go x none q n e = n q
        go x (some f) q n e = h x f (subst (Occurs ts a_name) (lies 0 fs ts x f q).named (known x f q).name) q e

    beginning : Going 0 (pass code (replicate (length table) 0) main_word)
    beginning = record {
      later = λ x f o is l. begins x f o is;
      done = λ x f o is l. absurd (omega arith);
      empty = nothing_there;
      code_long = omega (arith, long, stands_within (tabled 0 fs ts (replicate 8192 0)) (omega (arith, long)) words);
      table_long = rw (length-replicate {A = ℕ} (length table) 0) room;
      fresh = λ t. rw (zero_at (length table) t) (omega arith);
      main_later = λ l. refl;
      main_done = λ l. absurd (omega arith);
    }

    -- ---- the end
    abbrev end : Pass
    end = number_slots main_word 0 (length ts) (pass code (replicate (length table) 0) main_word)

    ended : Going (length ts) end
    ended = subst (λ (i : ℕ). Going i end) (omega arith) (turns (length ts) 0 (pass code (replicate (length table) 0) main_word) (omega arith) beginning)

    stored : (x : List ℕ) (f : Procedure) → Occurs ts a_name x → procedure_named x fs ≡ some f → NumberedAt end.code ts x f
    stored x f o is =
        let r = ended.done x f o is (slot_small ts x o) in
        record {
          start = start x;
          early = omega (arith, ends x f is);
          word = r.word;
          body = stands_words end.code (start x + takes f) (numbered_body f ts) (omega (arith, ends x f is, body_long ts sane f (known x f is), ended.code_long)) r.body;
        }

    whole_numbered : Numbered end.code ts fs
    whole_numbered = record {
      known = stored;
      unknown = λ x o n. ended.empty (slot_of ts x) (small x o) (λ y f q m e.
          let z : y ≡ x = (slots_apart ts y x q o).0 e in
          some_none (sym m ∙ ap (λ (k : List ℕ). procedure_named k fs) z ∙ n));
    }

    main_stored : NumberedAt end.code ts x₀ f₀
    main_stored = stored x₀ f₀ o₀ is₀

    main_word_lem : end.word ≡ numbered_word main_stored.start f₀ ts
    unfolding main_stored stored
    main_word_lem = ended.main_done (slot_small ts x₀ o₀)

    pub all_numbered : (p : Pass) → p ≡ end → Numbered p.code ts fs × (a : NumberedAt p.code ts x₀ f₀) × (p.word ≡ numbered_word a.start f₀ ts)
    all_numbered p e = rw e (whole_numbered, main_stored, main_word_lem)

-- THE LAW: a program was read, which left main's word d, the code of its procedures and the table of their words, and it has n tokens. What `number` then leaves
-- by its contract is the program numbered, and the word it gives back is main's with the length of its frames.
module _ (program code table : List ℕ) (d n : ℕ) (m : Program) (fits : length program ≤ 32768) (read : Whole program code d m)
    (counted : n ≡ length (tokens_in program)) (room : 8192 ≤ length table) where
  sane : Sane (tokens_in program)
  sane = lexed_sane program (tokens_in program) fits read.read.tokens read.read.few

  whole : UnderstoodWhole (tokens_in program) m
  whole = procedures_understood (tokens_in program) m read.read.behind read.read.tree

  main_lies : Lies 0 m.procedures (tokens_in program) (bytes "main") m.main
  main_lies = lies 0 m.procedures (tokens_in program) (bytes "main") m.main whole.main

  occurs : Occurs (tokens_in program) a_name (bytes "main")
  occurs =
      subst (Occurs (tokens_in program) a_name) main_lies.named
      (named_understood (tokens_in program) m.procedures whole.each (bytes "main") m.main whole.main).name

  abbrev word : ℕ
  word = head_word (start_named 0 m.procedures (tokens_in program) (bytes "main")) m.main (tokens_in program)

  made : number_all d n code table ≡ number_slots word 0 (length (tokens_in program)) (pass code (replicate (length table) 0) word)
  unfolding number_all
  made = rw (read.main ∙ main_lies.word, counted)

  pub number_whole : (code' table' : List ℕ) (r : ℕ) → pass code' table' r ≡ number_all d n code table → NumberedWhole code' r (tokens_in program) m
  number_whole code' table' r e =
      let t = all_numbered (tokens_in program) sane m.procedures whole.each (omega (arith, whole.short, read.read.few)) (bytes "main") m.main occurs whole.main
      read.different code table read.stands read.table room (pass code' table' r) (e ∙ made) in
      record { each = t.0; main = t.1; told = t.2 }
