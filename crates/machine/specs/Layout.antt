-- Where everything stands in the words that are lent for a run.
-- 16 counters; four words for each call that waits for another; a stack of 262,144 words, which holds the arguments and the variables of calls; shapes of five words each;
-- entries of tables, four words each, behind as many shapes as are granted; components of groups, a word each, behind as many entries; and for each component
-- a word for each call under way, which says on which of its loops' ways the component is.
use Rattle.std.specs.Prelude.{ℕ, ◌+◌, ◌*◌, ◌%◌, ◌^◌, ◌≤◌, ◌<◌, List, get_or, length}

-- ---- counters
abbrev pub steps_used : ℕ
steps_used = 0

abbrev pub shapes_used : ℕ
shapes_used = 1

abbrev pub entries_used : ℕ
entries_used = 2

abbrev pub text_used : ℕ
text_used = 3

abbrev pub tables_made : ℕ
tables_made = 4

abbrev pub declared : ℕ
declared = 5

abbrev pub arguments_held : ℕ
arguments_held = 6

abbrev pub calls_used : ℕ
calls_used = 7

-- the procedure under way: 0 is main, else it is one more than the slot of its name
abbrev pub running : ℕ
running = 8

-- of the entries used, those of tables and those of groups
abbrev pub entries_made : ℕ
entries_made = 9

abbrev pub components_made : ℕ
components_made = 10

-- new components that wait for their group
abbrev pub waiting_held : ℕ
waiting_held = 11

-- what the innermost loop over a group adds to the words of its way, 0 if none is under way in this call
abbrev pub loop_unit : ℕ
loop_unit = 12

-- the bytes that the lines of the figures reached take
abbrev pub lines_length : ℕ
lines_length = 13

-- where the variables of the call under way begin on the stack
abbrev pub frame : ℕ
frame = 14

-- ---- grants, a list of five
abbrev pub steps_granted : List ℕ → ℕ
steps_granted g = get_or g 0 0

abbrev pub shapes_granted : List ℕ → ℕ
shapes_granted g = get_or g 1 0

abbrev pub entries_granted : List ℕ → ℕ
entries_granted g = get_or g 2 0

abbrev pub text_granted : List ℕ → ℕ
text_granted g = get_or g 3 0

abbrev pub calls_granted : List ℕ → ℕ
calls_granted g = get_or g 4 0

-- ---- regions
-- the first word of each behind the counters, and how many words stand before the shapes
abbrev pub first_call : ℕ
first_call = 16

abbrev pub first_argument : ℕ
first_argument = 272

abbrev pub stack_words : ℕ
stack_words = 262144

abbrev pub fixed_words : ℕ
fixed_words = 262416

-- the first word of the d-th call; the four hold its frame, how many variables it has declared, its procedure and the unit of its innermost loop
abbrev pub call_place : ℕ → ℕ
call_place d = first_call + 4 * (d % 64)

abbrev pub argument_place : ℕ → ℕ
argument_place k = first_argument + k % stack_words

abbrev pub shape_place : ℕ → ℕ
shape_place i = fixed_words + 5 * i

abbrev pub entry_place : List ℕ → ℕ → ℕ
entry_place g k = fixed_words + 5 * shapes_granted g + 4 * k

abbrev pub component_place : List ℕ → ℕ → ℕ
component_place g k = fixed_words + 5 * shapes_granted g + 4 * entries_granted g + k

-- of the d-th call under way and the k-th component, whose words stand one after the other
abbrev pub path_place : List ℕ → ℕ → ℕ → ℕ
path_place g d k = fixed_words + 5 * shapes_granted g + 5 * entries_granted g + calls_granted g * k + d

-- how many words a run needs
abbrev pub words_needed : List ℕ → ℕ
words_needed g = fixed_words + 5 * shapes_granted g + (5 + calls_granted g) * entries_granted g

-- ---- lengths
-- the grants are in their ranges, and the words are as many as they need
pub record Room (g ws : List ℕ) : Type 0 where
  pub steps : steps_granted g < 2 ^ 32
  pub shapes : shapes_granted g < 2 ^ 16
  pub entries : entries_granted g < 2 ^ 16
  pub text : text_granted g < 2 ^ 16
  pub calls : calls_granted g ≤ 64
  pub words : words_needed g ≤ length ws

-- so is the text store
pub record Lent (g ts ws : List ℕ) : Type 0 where
  pub room : Room g ws
  pub texts : text_granted g ≤ length ts
