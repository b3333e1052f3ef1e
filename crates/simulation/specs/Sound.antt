-- What holds of the lent slices throughout a run.
use Rattle.std.specs.Prelude.{ℕ, suc, ◌+◌, ◌-◌, ◌*◌, ◌^◌, ◌≤◌, ◌<◌, ◌≡◌, ◌≢◌, true, false, cond, List, [], length, get_or, pos, eqb, ltb}
use Rattle.std.specs.Int.Signed.{mag}
use Rattle.meaning.specs.Token.{Token}
use Rattle.machine.specs.declared.Value.{Value}
use Rattle.machine.specs.declared.Value.TheVariants.{Integer, Text, Boolean, Nothing, Table, Shape}
use Rattle.machine.specs.Words.{packed, unpacked}
use Rattle.machine.specs.Layout.{
  steps_used,
  shapes_used,
  entries_used,
  text_used,
  tables_made,
  declared,
  arguments_held,
  calls_used,
  running,
  entries_made,
  components_made,
  loop_unit,
  steps_granted,
  shapes_granted,
  entries_granted,
  text_granted,
  calls_granted,
  frame,
  stack_words,
  shape_place,
  path_place,
  Lent,
}
use Rattle.machine.specs.Act.{Raw}
use Rattle.machine.specs.Texts.{origin_in, start_in, size_in}
use Rattle.machine.specs.declared.Figure.{Figure}
use Rattle.machine.specs.Shapes.{is_group_at, figure_at}
use Rattle.machine.specs.Groups.{component_at, followers_at, first_at, count_at}
use Rattle.machine.specs.Show.{figures_in}
use Rattle.machine.specs.Loops.{hollow_at}
use Rattle.machine.specs.Variables.{number_of, holding_at, holding_of}
use Rattle.machine.specs.Tables.{owner_at, key_at, value_at, is_group_key}
use Rattle.simulation.specs.Scope.{scope_of}
use Rattle.simulation.specs.Meant.{frame_at, declared_at, running_at, meant_key}
use Rattle.simulation.specs.Index.{Indexed}

-- a handle's text lies in the program, or within the used part of the text store
pub record Held (program : List ℕ) (used h : ℕ) : Type 0 where
  pub small : h < 2 ^ 40
  pub inside : start_in h + size_in h ≤ cond (eqb (origin_in h) 0) (length program) used

-- a value's integer is in range, its handle is held, and its table or shape was made
unfoldable pub Valid : List ℕ → List ℕ → Value → Type 0
Valid program ws (Integer z) = mag z < 2 ^ 31
Valid program ws (Text h) = Held program (get_or ws text_used 0) h
Valid program ws (Boolean b) = Unit {0}
Valid program ws Nothing = Unit {0}
Valid program ws (Table t) = t < get_or ws tables_made 0
Valid program ws (Shape i) = i < get_or ws shapes_used 0

-- a figure's numbers are in range and its handle is held; it has no text or only two numbers
pub record Proper (program : List ℕ) (used : ℕ) (f : Figure) : Type 0 where
  pub kind : f.kind < 4
  pub a : mag f.a < 2 ^ 31
  pub b : mag f.b < 2 ^ 31
  pub c : mag f.c < 2 ^ 31
  pub d : mag f.d < 2 ^ 31
  pub text : Held program used f.text
  pub plain : f.kind ≢ 3 → f.text ≡ 0
  pub lettered : f.kind ≡ 3 → (f.c ≡ pos 0) × (f.d ≡ pos 0)

-- ---- the counters are within the grants; each table was counted as a step
pub record Counted (g ws : List ℕ) : Type 0 where
  pub steps : get_or ws steps_used 0 ≤ steps_granted g
  pub shapes : get_or ws shapes_used 0 ≤ shapes_granted g
  pub entries : get_or ws entries_used 0 ≤ entries_granted g
  pub made : get_or ws entries_made 0 + get_or ws components_made 0 ≡ get_or ws entries_used 0
  pub text : get_or ws text_used 0 ≤ text_granted g
  pub tables : get_or ws tables_made 0 ≤ get_or ws steps_used 0
  pub arguments : get_or ws arguments_held 0 ≤ stack_words
  pub calls : get_or ws calls_used 0 ≤ calls_granted g

-- ---- variables
-- A frame f with n declarations among so many names. Each declaration has a number of its own, and those are the numbers whose variables hold something; the word
-- behind the last variable holds nothing.
pub record Framed (program ws : List ℕ) (f n size : ℕ) : Type 0 where
  pub brief : size < 8192
  pub few : n ≤ size
  pub small : (k : ℕ) → k < n → number_of ws f k < size
  pub there : (k : ℕ) → k < n → holding_of ws f k ≢ 0
  pub apart : (j k : ℕ) → j < n → k < n → number_of ws f j ≡ number_of ws f k → j ≡ k
  pub found : (i : ℕ) → i ≤ size → holding_at ws f i ≢ 0 → (k : ℕ) × (k < n) × (number_of ws f k ≡ i)
  pub holds : (i : ℕ) → i ≤ size → Valid program ws (unpacked (holding_at ws f i))

-- how many variables a procedure has, by its word
abbrev pub size_of : List ℕ → List Token → ℕ → ℕ
size_of program ts w = length (scope_of program ts w)

-- that of the call under way, within what the stack holds
pub record Variables (program : List ℕ) (ts : List Token) (ws : List ℕ) : Type 0 where
  pub framed : Framed program ws (get_or ws frame 0) (get_or ws declared 0) (size_of program ts (get_or ws running 0))
  pub within : get_or ws frame 0 + suc (size_of program ts (get_or ws running 0)) ≤ get_or ws arguments_held 0

-- ---- calls that wait: each has its frame, below those of later calls
pub record Waiting (program : List ℕ) (ts : List Token) (ws : List ℕ) : Type 0 where
  pub framed : (d : ℕ) → 0 < d → d < get_or ws calls_used 0 → Framed program ws (frame_at ws d) (declared_at ws d) (size_of program ts (running_at ws d))
  pub below : (d e : ℕ) → 0 < d → d < e → e < get_or ws calls_used 0 → frame_at ws d + suc (size_of program ts (running_at ws d)) ≤ frame_at ws e
  pub under : (d : ℕ) → 0 < d → d < get_or ws calls_used 0 → frame_at ws d + suc (size_of program ts (running_at ws d)) ≤ get_or ws frame 0

-- ---- shapes
-- a group: its slots are in use, its components are older, and each slot tells how many follow
pub record Grouped (g ws : List ℕ) (i : ℕ) : Type 0 where
  pub within : first_at ws i + count_at ws i ≤ get_or ws components_made 0
  pub older : (k : ℕ) → first_at ws i ≤ k → k < first_at ws i + count_at ws i → component_at g ws k < i
  pub follow : (k : ℕ) → first_at ws i ≤ k → k < first_at ws i + count_at ws i → suc k + followers_at g ws k ≡ first_at ws i + count_at ws i

-- Figures are proper. Groups made later have later slots, and one that is hollow holds no figure that is not destroyed.
pub record Shapes (program g ws : List ℕ) : Type 0 where
  pub proper : (i : ℕ) → i < get_or ws shapes_used 0 → is_group_at ws i ≡ false → Proper program (get_or ws text_used 0) (figure_at ws i)
  pub first : (i : ℕ) → i < get_or ws shapes_used 0 → get_or ws (shape_place i + 1) 0 < 2 ^ 64
  pub second : (i : ℕ) → i < get_or ws shapes_used 0 → get_or ws (shape_place i + 2) 0 < 2 ^ 64
  pub groups : (i : ℕ) → i < get_or ws shapes_used 0 → is_group_at ws i ≡ true → Grouped g ws i
  pub order : (i j : ℕ) → i < j → j < get_or ws shapes_used 0 → is_group_at ws i ≡ true → is_group_at ws j ≡ true → first_at ws i + count_at ws i ≤ first_at ws j
  pub hollow : (i : ℕ) → i < get_or ws shapes_used 0 → is_group_at ws i ≡ true → hollow_at ws i ≡ true → figures_in (suc i) g ws i ≡ []

-- ---- marks of loops
-- those that slot k has of call d, none where no component was made yet: what its word holds then means nothing
unfoldable pub mark_in : List ℕ → List ℕ → ℕ → ℕ → ℕ
mark_in g ws d k = cond (ltb k (get_or ws components_made 0)) (get_or ws (path_place g d k) 0) 0

-- In the call under way a slot has at most the marks of the loops under way, of which the innermost has this unit; of calls that are not under way it has none.
pub record Marks (g ws : List ℕ) : Type 0 where
  pub idle : (d k : ℕ) → get_or ws calls_used 0 ≤ d → d < calls_granted g → mark_in g ws d k ≡ 0
  pub own : (k : ℕ) → 0 < get_or ws calls_used 0 → mark_in g ws (get_or ws calls_used 0 - 1) k ≤ 2 * get_or ws loop_unit 0 - 1

-- ---- entries
-- Keys are words as values are packed and no groups, no two entries of a table have one key, and the index is right.
pub record Entries (program g : List ℕ) (r : Raw) : Type 0 where
  pub packs : (k : ℕ) → k < get_or r.words entries_made 0 → packed (unpacked (key_at g r.words k)) ≡ key_at g r.words k
  pub keys : (k : ℕ) → k < get_or r.words entries_made 0 → Valid program r.words (unpacked (key_at g r.words k))
  pub atoms : (k : ℕ) → k < get_or r.words entries_made 0 → is_group_key r.words (key_at g r.words k) ≡ false
  pub holds : (k : ℕ) → k < get_or r.words entries_made 0 → Valid program r.words (unpacked (value_at g r.words k))
  pub apart : (j k : ℕ) → j < get_or r.words entries_made 0 → k < get_or r.words entries_made 0 → owner_at g r.words j ≡ owner_at g r.words k
      → meant_key program g r (key_at g r.words j) ≡ meant_key program g r (key_at g r.words k) → j ≡ k
  pub index : Indexed program g r.texts r.words

-- ---- all of it
pub record Sound (program : List ℕ) (ts : List Token) (g : List ℕ) (r : Raw) : Type 0 where
  pub lent : Lent g r.texts r.words
  pub counted : Counted g r.words
  pub variables : Variables program ts r.words
  pub waiting : Waiting program ts r.words
  pub shapes : Shapes program g r.words
  pub marks : Marks g r.words
  pub entries : Entries program g r
