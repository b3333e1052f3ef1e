-- Words of code: how a word is laid out, and which word each kind of expression and statement has.
use Rattle.std.specs.Prelude.{ℕ, ◌+◌, ◌*◌, ◌/◌, ◌%◌, List, get_or, ltb}
use Rattle.meaning.specs.Basics.{if◌then◌otherwise◌}
use Rattle.meaning.specs.Tree.{Operator, concatenate, add, subtract, multiply, divide, remainder, shift_right, shift_left, equal, unequal, greater, less}

-- A word: 8 bits for its tag, 24 for how many words its code has, 32 for a number that the tag explains.
unfoldable pub word : ℕ → ℕ → ℕ → ℕ
word tag size n = tag + 256 * size + 4294967296 * n

abbrev pub tag_in : ℕ → ℕ
tag_in w = w % 256

abbrev pub size_in : ℕ → ℕ
size_in w = w / 256 % 16777216

abbrev pub number_in : ℕ → ℕ
number_in w = w / 4294967296

-- a statement's number is its place in the program and one more number: a variable's slot, or its number once it has one, or where the root of a test or of a group stands
abbrev pub place_in : ℕ → ℕ
place_in w = number_in w % 65536

abbrev pub extra_in : ℕ → ℕ
extra_in w = number_in w / 65536

-- how many words the code has whose root or first word is at x
abbrev pub size_at : List ℕ → ℕ → ℕ
size_at code x = size_in (get_or code x 0)

-- the root of the argument whose first word, w, is at a and holds its size; x if it does not end before x
unfoldable pub argument_root : ℕ → ℕ → ℕ → ℕ
argument_root w a x = if ltb (a + size_in w) x then (λ _. a + size_in w) otherwise λ _. x

-- ---- calls
-- a call's number is that of the library's procedure, 0 to 10, or 11, or 12 for main, and the slot of the name
abbrev pub library_in : ℕ → ℕ
library_in w = number_in w % 16

abbrev pub callee_in : ℕ → ℕ
callee_in w = number_in w / 16

-- A table behind the code has a word for each name, by its slot; 0 if it names no procedure. The word says where the slots of its parameters stand in the
-- code, how many they are, and how many words its body has, which stands behind them. Once its variables are numbered it also says how many words they take
-- in a call; 0 if two parameters have one name.
abbrev pub table_place : ℕ → ℕ
table_place slot = 8192 + slot % 8192

unfoldable pub procedure_word : ℕ → ℕ → ℕ → ℕ
procedure_word start parameters size = start + 65536 * parameters + 4294967296 * size

abbrev pub start_in : ℕ → ℕ
start_in d = d % 65536

abbrev pub parameters_in : ℕ → ℕ
parameters_in d = d / 65536 % 65536

abbrev pub body_in : ℕ → ℕ
body_in d = d / 4294967296 % 65536

abbrev pub frame_in : ℕ → ℕ
frame_in d = d / 281474976710656

-- ---- tags of expressions
abbrev pub tag_number : ℕ
tag_number = 1

abbrev pub tag_string : ℕ
tag_string = 2

abbrev pub tag_none : ℕ
tag_none = 3

abbrev pub tag_truth : ℕ
tag_truth = 4

abbrev pub tag_name : ℕ
tag_name = 5

abbrev pub tag_table : ℕ
tag_table = 6

abbrev pub tag_entry : ℕ
tag_entry = 7

abbrev pub tag_call : ℕ
tag_call = 8

-- stands before an argument; holds how many words the argument has
abbrev pub tag_argument : ℕ
tag_argument = 9

-- operators have 16 to 27
abbrev pub first_operator : ℕ
first_operator = 16

abbrev pub tag_concatenate : ℕ
tag_concatenate = 16

abbrev pub tag_add : ℕ
tag_add = 17

abbrev pub tag_subtract : ℕ
tag_subtract = 18

abbrev pub tag_multiply : ℕ
tag_multiply = 19

abbrev pub tag_divide : ℕ
tag_divide = 20

abbrev pub tag_remainder : ℕ
tag_remainder = 21

abbrev pub tag_shift_right : ℕ
tag_shift_right = 22

abbrev pub tag_shift_left : ℕ
tag_shift_left = 23

abbrev pub tag_equal : ℕ
tag_equal = 24

abbrev pub tag_unequal : ℕ
tag_unequal = 25

abbrev pub tag_greater : ℕ
tag_greater = 26

abbrev pub tag_less : ℕ
tag_less = 27

unfoldable pub tag_of : Operator → ℕ
tag_of concatenate = tag_concatenate
tag_of add = tag_add
tag_of subtract = tag_subtract
tag_of multiply = tag_multiply
tag_of divide = tag_divide
tag_of remainder = tag_remainder
tag_of shift_right = tag_shift_right
tag_of shift_left = tag_shift_left
tag_of equal = tag_equal
tag_of unequal = tag_unequal
tag_of greater = tag_greater
tag_of less = tag_less

-- the lower half of the word of a number, of a string and of a name: the tag and a size of 1
abbrev pub head_number : ℕ
head_number = 257

abbrev pub head_string : ℕ
head_string = 258

abbrev pub head_name : ℕ
head_name = 261

-- ---- tags of statements
abbrev pub tag_declare : ℕ
tag_declare = 32

abbrev pub tag_assign : ℕ
tag_assign = 33

abbrev pub tag_update : ℕ
tag_update = 34

abbrev pub tag_when : ℕ
tag_when = 35

abbrev pub tag_while : ℕ
tag_while = 36

abbrev pub tag_return : ℕ
tag_return = 37

abbrev pub tag_block : ℕ
tag_block = 38

abbrev pub tag_act : ℕ
tag_act = 39

-- the word behind it is its variable's slot or number; its other number is how far behind it the root of its group stands
abbrev pub tag_foreach : ℕ
tag_foreach = 40
