-- What a call keeps and gets back, and its frame opened: by words alone.
use Prim.Native.Nat.{ℕ, zero, suc, ◌+◌, ◌*◌, ◌%◌, ◌^◌, ◌≤◌, ◌<◌}
use native.Mathlib.Omega.{arith}
use native.Mathlib.Nat.{add-zero}
use mathlib.Core.Path.{◌≡◌, refl, ap, ap₂, sym, ◌∙◌}
use mathlib.Core.Logic.{◌≢◌}
use mathlib.Core.Bool.{Bool, true, false}
use mathlib.Core.List.{List, [], ◌∷◌}
use lib.ListN.{get_or, set, length, length-set}
use lib.Seq.{get_or-set_same, get_or-set_other}
use lib.Dec.{eqb, ltb}
use borrow.Author.Tests.{eqb-true, eqb-false, ltb-true, ltb-false, lt-ltb, le-ltb}
use Rattle.meaning.specs.Basics.{if◌then◌otherwise◌}
use Rattle.meaning.specs.Value as Value
use Rattle.meaning.specs.State.{Variable, fresh}
use Rattle.machine.specs.Words.{packed, unpacked}
use Rattle.machine.specs.Layout.{declared, arguments_held, calls_used, running, loop_unit, frame, call_place, argument_place, stack_words, fixed_words, first_argument}
use Rattle.machine.specs.Act.{raw, Out, done}
use Rattle.machine.specs.Act as Act
use Rattle.machine.specs.Stack.{argument_at}
use Rattle.machine.specs.Variables.{number_of, holding_at, holding_of}
use Rattle.machine.specs.Procedures.{keep, recall, first_word, frame_from, open_frame}
use Rattle.simulation.specs.Meant.{meant_value, listed, variable_at, frame_of, frame_at, declared_at, running_at, unit_at}
use Rattle.simulation.specs.Sound.{Valid, Framed}

-- ---- four words, one after the other
module _ (ws : List ℕ) (a x y z u : ℕ) (room : a + 4 ≤ length ws) where
  abbrev three : List ℕ
  three = set (set (set ws a x) (a + 1) y) (a + 2) z

  abbrev pub four : List ℕ
  four = set (set (set (set ws a x) (a + 1) y) (a + 2) z) (a + 3) u

  pub four_long : length four ≡ length ws
  four_long = length-set three (a + 3) u ∙ length-set (set (set ws a x) (a + 1) y) (a + 2) z ∙ length-set (set ws a x) (a + 1) y ∙ length-set ws a x

  pub four_other : (i : ℕ) → i ≢ a → i ≢ a + 1 → i ≢ a + 2 → i ≢ a + 3 → get_or four i 0 ≡ get_or ws i 0
  four_other i p q r s =
      get_or-set_other three (a + 3) i u 0 s ∙ get_or-set_other (set (set ws a x) (a + 1) y) (a + 2) i z 0 r ∙ get_or-set_other (set ws a x) (a + 1) i y 0 q ∙ get_or-set_other ws a i x 0 p

  pub four_first : get_or four a 0 ≡ x
  four_first =
      get_or-set_other three (a + 3) a u 0 (λ e. omega arith) ∙ get_or-set_other (set (set ws a x) (a + 1) y) (a + 2) a z 0 (λ e. omega arith)
      ∙ get_or-set_other (set ws a x) (a + 1) a y 0 (λ e. omega arith) ∙ get_or-set_same ws a x 0 (omega arith)

  pub four_second : get_or four (a + 1) 0 ≡ y
  four_second =
      get_or-set_other three (a + 3) (a + 1) u 0 (λ e. omega arith) ∙ get_or-set_other (set (set ws a x) (a + 1) y) (a + 2) (a + 1) z 0 (λ e. omega arith)
      ∙ get_or-set_same (set ws a x) (a + 1) y 0 (rw (length-set ws a x) (omega arith))

  pub four_third : get_or four (a + 2) 0 ≡ z
  four_third =
      get_or-set_other three (a + 3) (a + 2) u 0 (λ e. omega arith)
      ∙ get_or-set_same (set (set ws a x) (a + 1) y) (a + 2) z 0 (rw (length-set (set ws a x) (a + 1) y, length-set ws a x) (omega arith))

  pub four_fourth : get_or four (a + 3) 0 ≡ u
  four_fourth =
      get_or-set_same three (a + 3) u 0 (rw (length-set (set (set ws a x) (a + 1) y) (a + 2) z, length-set (set ws a x) (a + 1) y, length-set ws a x) (omega arith))

-- ---- what is kept of a call
pub record Keeps (texts ws : List ℕ) (c : ℕ) (o : Out (Unit {0})) : Type 0 where
  pub words : List ℕ
  pub is : o ≡ done tt (raw texts words)
  pub long : length words ≡ length ws
  pub place : frame_at words c ≡ get_or ws frame 0
  pub count : declared_at words c ≡ get_or ws declared 0
  pub procedure : running_at words c ≡ get_or ws running 0
  pub unit : unit_at words c ≡ get_or ws loop_unit 0
  pub before : (i : ℕ) → i < call_place c → get_or words i 0 ≡ get_or ws i 0
  pub behind : (i : ℕ) → call_place c + 4 ≤ i → get_or words i 0 ≡ get_or ws i 0

pub keeps : (texts ws : List ℕ) → fixed_words ≤ length ws → Keeps texts ws (get_or ws calls_used 0) (keep (raw texts ws))
unfolding keep Act.◌>>=◌ Act.go_on Act.load Act.store
keeps texts ws long =
    let a = call_place (get_or ws calls_used 0) in
    let room : a + 4 ≤ length ws = omega arith in
    let f = get_or ws frame 0 in
    let n : get_or (set ws a f) declared 0 ≡ get_or ws declared 0 = get_or-set_other ws a declared f 0 (λ e. omega arith) in
    let w : get_or (set (set ws a f) (a + 1) (get_or ws declared 0)) running 0 ≡ get_or ws running 0 =
    get_or-set_other (set ws a f) (a + 1) running (get_or ws declared 0) 0 (λ e. omega arith) ∙ get_or-set_other ws a running f 0 (λ e. omega arith) in
    let u : get_or (set (set (set ws a f) (a + 1) (get_or ws declared 0)) (a + 2) (get_or ws running 0)) loop_unit 0 ≡ get_or ws loop_unit 0 =
    get_or-set_other (set (set ws a f) (a + 1) (get_or ws declared 0)) (a + 2) loop_unit (get_or ws running 0) 0 (λ e. omega arith)
    ∙ get_or-set_other (set ws a f) (a + 1) loop_unit (get_or ws declared 0) 0 (λ e. omega arith) ∙ get_or-set_other ws a loop_unit f 0 (λ e. omega arith) in
    record {
      words = four ws a f (get_or ws declared 0) (get_or ws running 0) (get_or ws loop_unit 0) room;
      is = rw (n, w, u);
      long = four_long ws a f (get_or ws declared 0) (get_or ws running 0) (get_or ws loop_unit 0) room;
      place = four_first ws a f (get_or ws declared 0) (get_or ws running 0) (get_or ws loop_unit 0) room;
      count = four_second ws a f (get_or ws declared 0) (get_or ws running 0) (get_or ws loop_unit 0) room;
      procedure = four_third ws a f (get_or ws declared 0) (get_or ws running 0) (get_or ws loop_unit 0) room;
      unit = four_fourth ws a f (get_or ws declared 0) (get_or ws running 0) (get_or ws loop_unit 0) room;
      before = λ i l.
          four_other ws a f (get_or ws declared 0) (get_or ws running 0) (get_or ws loop_unit 0) room i (λ e. omega arith) (λ e. omega arith) (λ e. omega arith) (λ e. omega arith);
      behind = λ i l.
          four_other ws a f (get_or ws declared 0) (get_or ws running 0) (get_or ws loop_unit 0) room i (λ e. omega arith) (λ e. omega arith) (λ e. omega arith) (λ e. omega arith);
    }

-- ---- and recalled
pub record Recalls (texts ws : List ℕ) (c : ℕ) (o : Out (Unit {0})) : Type 0 where
  pub words : List ℕ
  pub is : o ≡ done tt (raw texts words)
  pub long : length words ≡ length ws
  pub place : get_or words frame 0 ≡ frame_at ws c
  pub count : get_or words declared 0 ≡ declared_at ws c
  pub procedure : get_or words running 0 ≡ running_at ws c
  pub unit : get_or words loop_unit 0 ≡ unit_at ws c
  pub others : (i : ℕ) → i ≢ frame → i ≢ declared → i ≢ running → i ≢ loop_unit → get_or words i 0 ≡ get_or ws i 0

module _ (texts ws : List ℕ) (long : fixed_words ≤ length ws) (c : ℕ) where
  abbrev f : ℕ
  f = frame_at ws c

  abbrev n : ℕ
  n = declared_at ws c

  abbrev w : ℕ
  w = running_at ws c

  abbrev u : ℕ
  u = unit_at ws c

  abbrev w₁ : List ℕ
  w₁ = set ws frame f

  abbrev w₂ : List ℕ
  w₂ = set (set ws frame f) declared n

  abbrev w₃ : List ℕ
  w₃ = set (set (set ws frame f) declared n) running w

  long₁ : length w₁ ≡ length ws
  long₁ = length-set ws frame f

  long₂ : length w₂ ≡ length ws
  long₂ = length-set w₁ declared n ∙ long₁

  long₃ : length w₃ ≡ length ws
  long₃ = length-set w₂ running w ∙ long₂

  pub recalls : Recalls texts ws c (recall c (raw texts ws))
  unfolding recall Act.◌>>=◌ Act.go_on Act.load Act.store
  recalls =
      let p : get_or w₁ (call_place c + 1) 0 ≡ n = get_or-set_other ws frame (call_place c + 1) f 0 (λ e. omega arith) in
      let q : get_or w₂ (call_place c + 2) 0 ≡ w = get_or-set_other w₁ declared (call_place c + 2) n 0 (λ e. omega arith) ∙ get_or-set_other ws frame (call_place c + 2) f 0 (λ e. omega arith) in
      let s : get_or w₃ (call_place c + 3) 0 ≡ u =
      get_or-set_other w₂ running (call_place c + 3) w 0 (λ e. omega arith) ∙ get_or-set_other w₁ declared (call_place c + 3) n 0 (λ e. omega arith)
      ∙ get_or-set_other ws frame (call_place c + 3) f 0 (λ e. omega arith) in
      record {
        words = set w₃ loop_unit u;
        is = rw (p, q, s);
        long = length-set w₃ loop_unit u ∙ long₃;
        place =
            get_or-set_other w₃ loop_unit frame u 0 (λ e. omega arith) ∙ get_or-set_other w₂ running frame w 0 (λ e. omega arith) ∙ get_or-set_other w₁ declared frame n 0 (λ e. omega arith)
            ∙ get_or-set_same ws frame f 0 (omega arith);
        count =
            get_or-set_other w₃ loop_unit declared u 0 (λ e. omega arith) ∙ get_or-set_other w₂ running declared w 0 (λ e. omega arith)
            ∙ get_or-set_same w₁ declared n 0 (rw long₁ (omega arith));
        procedure = get_or-set_other w₃ loop_unit running u 0 (λ e. omega arith) ∙ get_or-set_same w₂ running w 0 (rw long₂ (omega arith));
        unit = get_or-set_same w₃ loop_unit u 0 (rw long₃ (omega arith));
        others = λ i a b d e.
            get_or-set_other w₃ loop_unit i u 0 e ∙ get_or-set_other w₂ running i w 0 d ∙ get_or-set_other w₁ declared i n 0 b ∙ get_or-set_other ws frame i f 0 a;
      }

-- ---- the words of a frame, from the k-th on
pub record Frames (texts ws : List ℕ) (top m k n : ℕ) (o : Out (Unit {0})) : Type 0 where
  pub words : List ℕ
  pub is : o ≡ done tt (raw texts words)
  pub long : length words ≡ length ws
  pub word : (j : ℕ) → k ≤ j → j < k + n → argument_at words (top + j) ≡ first_word m j
  pub low : (i : ℕ) → i < first_argument + (top + k) → get_or words i 0 ≡ get_or ws i 0
  pub high : (i : ℕ) → first_argument + (top + (k + n)) ≤ i → get_or words i 0 ≡ get_or ws i 0

frames : (texts : List ℕ) (top m n k : ℕ) (ws : List ℕ) → fixed_words ≤ length ws → top + (k + n) ≤ stack_words → Frames texts ws top m k n (frame_from top m k n (raw texts ws))
unfolding frame_from Act.◌>>=◌ Act.go_on Act.store Act.give
frames texts top m zero k ws long fit = record {
  words = ws;
  is = refl;
  long = refl;
  word = λ j a b. absurd (omega arith);
  low = λ i l. refl;
  high = λ i l. refl;
}
frames texts top m (suc n) k ws long fit =
    let w = first_word m k in
    let one = set ws (argument_place (top + k)) w in
    let p = frames texts top m n (k + 1) one (rw (length-set ws (argument_place (top + k)) w) long) (omega arith) in
    record {
      words = p.words;
      is = p.is;
      long = p.long ∙ length-set ws (argument_place (top + k)) w;
      word = λ j a b. at j a b (eqb j k) refl p.words p.low p.word;
      low = λ i l. p.low i (omega arith) ∙ get_or-set_other ws (argument_place (top + k)) i w 0 (λ e. omega arith);
      high = λ i l. p.high i (omega arith) ∙ get_or-set_other ws (argument_place (top + k)) i w 0 (λ e. omega arith);
    }
  where
    at : (j : ℕ) → k ≤ j → j < k + suc n → (b : Bool) → eqb j k ≡ b → (ws' : List ℕ)
        → ((i : ℕ) → i < first_argument + (top + (k + 1)) → get_or ws' i 0 ≡ get_or (set ws (argument_place (top + k)) (first_word m k)) i 0)
        → ((j : ℕ) → k + 1 ≤ j → j < k + 1 + n → argument_at ws' (top + j) ≡ first_word m j) → argument_at ws' (top + j) ≡ first_word m j
    at j a b true e ws' low word =
        rw (eqb-true j k e) (low (argument_place (top + k)) (omega arith) ∙ get_or-set_same ws (argument_place (top + k)) (first_word m k) 0 (omega arith))
    at j a b false e ws' low word = let d : j ≢ k = eqb-false j k e in word j (omega arith) (omega arith)

-- ---- a frame opened
pub record Opens (texts ws : List ℕ) (top m n : ℕ) (o : Out (Unit {0})) : Type 0 where
  pub words : List ℕ
  pub is : o ≡ done tt (raw texts words)
  pub long : length words ≡ length ws
  pub word : (j : ℕ) → j < n → argument_at words (top + j) ≡ first_word m j
  pub place : get_or words frame 0 ≡ top
  pub count : get_or words declared 0 ≡ m
  pub held : get_or words arguments_held 0 ≡ top + n
  pub stack : (k : ℕ) → k < top → argument_at words k ≡ argument_at ws k
  pub low : (i : ℕ) → i ≢ frame → i ≢ declared → i ≢ arguments_held → i < first_argument → get_or words i 0 ≡ get_or ws i 0
  pub high : (i : ℕ) → fixed_words ≤ i → get_or words i 0 ≡ get_or ws i 0

module _ (texts ws : List ℕ) (top m n p : ℕ) (long : fixed_words ≤ length ws) (fit : top + n ≤ stack_words) where
  written : Frames texts ws top m 0 n (frame_from top m 0 n (raw texts ws))
  written = frames texts top m n 0 ws long (omega arith)

  abbrev v : List ℕ
  v = written.words

  abbrev v₁ : List ℕ
  v₁ = set written.words frame top

  abbrev v₂ : List ℕ
  v₂ = set (set written.words frame top) declared m

  abbrev v₃ : List ℕ
  v₃ = set (set (set written.words frame top) declared m) arguments_held (top + n)

  size₁ : length v₁ ≡ length ws
  size₁ = length-set v frame top ∙ written.long

  size₂ : length v₂ ≡ length ws
  size₂ = length-set v₁ declared m ∙ size₁

  opened_other : (i : ℕ) → i ≢ frame → i ≢ declared → i ≢ arguments_held → get_or v₃ i 0 ≡ get_or v i 0
  opened_other i a b d = get_or-set_other v₂ arguments_held i (top + n) 0 d ∙ get_or-set_other v₁ declared i m 0 b ∙ get_or-set_other v frame i top 0 a

  pub opens : Opens texts ws top m n (open_frame top m n p (raw texts ws))
  unfolding open_frame Act.◌>>=◌ Act.go_on Act.store Act.refuse Act.give
  opens = record {
    words = v₃;
    is = rw (le-ltb stack_words (top + n) fit, written.is);
    long = length-set v₂ arguments_held (top + n) ∙ size₂;
    word = λ j l. opened_other (argument_place (top + j)) (λ e. omega arith) (λ e. omega arith) (λ e. omega arith) ∙ written.word j (omega arith) (omega arith);
    place =
        get_or-set_other v₂ arguments_held frame (top + n) 0 (λ e. omega arith) ∙ get_or-set_other v₁ declared frame m 0 (λ e. omega arith)
        ∙ get_or-set_same v frame top 0 (rw written.long (omega arith));
    count = get_or-set_other v₂ arguments_held declared (top + n) 0 (λ e. omega arith) ∙ get_or-set_same v₁ declared m 0 (rw size₁ (omega arith));
    held = get_or-set_same v₂ arguments_held (top + n) 0 (rw size₂ (omega arith));
    stack = λ k l. opened_other (argument_place k) (λ e. omega arith) (λ e. omega arith) (λ e. omega arith) ∙ written.low (argument_place k) (omega arith);
    low = λ i a b d l. opened_other i a b d ∙ written.low i (omega arith);
    high = λ i l. opened_other i (λ e. omega arith) (λ e. omega arith) (λ e. omega arith) ∙ written.high i (omega arith);
  }

-- ---- its variables: m parameters, which hold none
first_some : (m k : ℕ) → k < m → first_word m k ≡ 4 + 2 ^ 48 * (k % 65536)
unfolding first_word packed if◌then◌otherwise◌
first_some m k l = rw (lt-ltb k m l)

first_none : (m k : ℕ) → m ≤ k → first_word m k ≡ 0
unfolding first_word if◌then◌otherwise◌
first_none m k l = rw (le-ltb k m l)

fresh_listed : (xs : List (List ℕ)) (f : ℕ → Variable) (k : ℕ) → ((j : ℕ) → j < length xs → f (k + j) ≡ record { name = get_or xs j []; holds = Value.none }) → fresh xs ≡ listed f k (length xs)
unfolding fresh listed
fresh_listed [] f k h = refl
fresh_listed (x ∷ xs) f k h =
    ap₂ ◌∷◌ (sym (ap f (sym (add-zero k)) ∙ h 0 (omega arith))) (fresh_listed xs f (suc k) (λ j l. let q : suc k + j ≡ k + suc j = omega arith in rw q (h (suc j) (omega arith))))

-- by the words of the frame
module _ (program ws : List ℕ) (top m size : ℕ) (few : m ≤ size) (brief : size < 8192) (word : (j : ℕ) → j ≤ size → argument_at ws (top + j) ≡ first_word m j) where
  number_first : (k : ℕ) → k < m → number_of ws top k ≡ k
  number_first k l = rw (word k (omega arith), first_some m k l) (omega arith)

  holding_first : (k : ℕ) → k < m → holding_at ws top k ≡ 4
  holding_first k l = rw (word k (omega arith), first_some m k l) (omega arith)

  holding_none : (k : ℕ) → m ≤ k → k ≤ size → holding_at ws top k ≡ 0
  holding_none k l h = rw (word k h, first_none m k l) (omega arith)

  held_first : (k : ℕ) → k < m → holding_of ws top k ≡ 4
  held_first k l = ap (holding_at ws top) (number_first k l) ∙ holding_first k l

  either : (i : ℕ) → i ≤ size → (P : ℕ → Type 0) → (i < m → P 4) → (m ≤ i → P 0) → P (holding_at ws top i)
  either i h P a b = go (ltb i m) refl
    where
      go : (t : Bool) → ltb i m ≡ t → P (holding_at ws top i)
      go true e = rw (holding_first i (ltb-true i m e)) (a (ltb-true i m e))
      go false e = rw (holding_none i (ltb-false i m e) h) (b (ltb-false i m e))

  pub opened_framed : Framed program ws top m size
  unfolding Valid unpacked if◌then◌otherwise◌
  opened_framed = record {
    brief = brief;
    few = few;
    small = λ k l. rw (number_first k l) (omega arith);
    there = λ k l. rw (held_first k l) (λ e. omega arith);
    apart = λ j k a b e. sym (number_first j a) ∙ e ∙ number_first k b;
    found = λ i h. either i h (λ w. w ≢ 0 → (k : ℕ) × (k < m) × (number_of ws top k ≡ i)) (λ l z. (i, l, number_first i l)) (λ l z. absurd (z refl));
    holds = λ i h. either i h (λ w. Valid program ws (unpacked w)) (λ l. tt) (λ l. tt);
  }

  -- what they stand for, by their names
  pub opened_variables : (texts : List ℕ) (names xs : List (List ℕ)) → length xs ≡ m → ((k : ℕ) → k < m → get_or names k [] ≡ get_or xs k [])
      → fresh xs ≡ frame_of program names (raw texts ws) top m
  unfolding frame_of variable_at unpacked if◌then◌otherwise◌ meant_value
  opened_variables texts names xs size same = rw (← size) (fresh_listed xs (variable_at program names (raw texts ws) top) 0 (λ k l. let q : 0 + k ≡ k = omega arith in rw q (one k (rw (← size) l))))
    where
      one : (k : ℕ) → k < m → variable_at program names (raw texts ws) top k ≡ record { name = get_or xs k []; holds = Value.none }
      one k l = rw (held_first k l, number_first k l, same k l)
