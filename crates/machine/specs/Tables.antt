-- Entries of tables, four words each: the table that owns it (40 bits) and a link, its key, its value, and a word of the index.
use Rattle.std.specs.Prelude.{ℕ, zero, suc, ◌+◌, ◌-◌, ◌*◌, ◌/◌, ◌%◌, ◌^◌, Bool, ◌&&◌, List, [], ◌∷◌, get_or, set, eqb, leb, ltb}
use Rattle.meaning.specs.Basics.{if◌then◌otherwise◌, same_text}
use Rattle.machine.specs.declared.Value.{Value}
use Rattle.machine.specs.Words.{kind_in, number_in, handle_in, unpacked}
use Rattle.machine.specs.Layout.{entries_used, entries_made, entries_granted, shape_place, entry_place}
use Rattle.machine.specs.Act.{raw, done, Act, give, refuse, load, store, spend, ◌>>=◌, ◌>>◌}
use Rattle.machine.specs.Texts.{text_of}
use Rattle.machine.specs.Shapes.{kind_at, is_group_at}
use Rattle.machine.specs.Variables.{usable}

-- ---- keys
-- the same kind, numbers and text, destroyed or not
unfoldable pub same_figure : List ℕ → List ℕ → List ℕ → ℕ → ℕ → Bool
same_figure program ts ws i j =
    eqb (kind_at ws i) (kind_at ws j) && eqb (get_or ws (shape_place i + 1) 0) (get_or ws (shape_place j + 1) 0) &&
    eqb (get_or ws (shape_place i + 2) 0) (get_or ws (shape_place j + 2) 0) &&
    same_text (text_of program ts (get_or ws (shape_place i) 0 / 16)) (text_of program ts (get_or ws (shape_place j) 0 / 16))

-- Keys are words. Strings are compared by their texts, shapes by what they look like, everything else by the word.
unfoldable pub same_key : List ℕ → List ℕ → List ℕ → ℕ → ℕ → Bool
same_key program ts ws a b =
    if eqb (kind_in a) 2 && eqb (kind_in b) 2 then (λ _. same_text (text_of program ts (handle_in a)) (text_of program ts (handle_in b)))
    otherwise λ _. if eqb (kind_in a) 6 && eqb (kind_in b) 6 then (λ _. same_figure program ts ws (number_in a) (number_in b))
    otherwise λ _. eqb a b

-- ---- entries
abbrev pub owner_at : List ℕ → List ℕ → ℕ → ℕ
owner_at g ws k = get_or ws (entry_place g k) 0 % 2 ^ 40

abbrev pub key_at : List ℕ → List ℕ → ℕ → ℕ
key_at g ws k = get_or ws (entry_place g k + 1) 0

abbrev pub value_at : List ℕ → List ℕ → ℕ → ℕ
value_at g ws k = get_or ws (entry_place g k + 2) 0

unfoldable pub matches : List ℕ → List ℕ → List ℕ → List ℕ → ℕ → ℕ → ℕ → Bool
matches program g ts ws t key k = eqb (owner_at g ws k) t && same_key program ts ws (key_at g ws k) key

-- ---- the index: a bucket's newest entry stands in its head, and an entry's link leads to the next older one of its bucket, each as the place behind it
-- what a key holds, as numbers
unfoldable pub figure_content : List ℕ → List ℕ → List ℕ → ℕ → List ℕ
figure_content program ts ws i =
    kind_at ws i ∷ get_or ws (shape_place i + 1) 0 % 2 ^ 32 ∷ get_or ws (shape_place i + 1) 0 / 2 ^ 32 % 2 ^ 32 ∷
    get_or ws (shape_place i + 2) 0 % 2 ^ 32 ∷ get_or ws (shape_place i + 2) 0 / 2 ^ 32 % 2 ^ 32 ∷ text_of program ts (get_or ws (shape_place i) 0 / 16)

unfoldable pub content_of : List ℕ → List ℕ → List ℕ → ℕ → List ℕ
content_of program ts ws key =
    if eqb (kind_in key) 2 then (λ _. text_of program ts (handle_in key))
    otherwise λ _. if eqb (kind_in key) 6 then (λ _. figure_content program ts ws (number_in key))
    otherwise λ _. number_in key ∷ []

abbrev pub hashed : ℕ → ℕ → ℕ
hashed h x = (h * 31 + x) % 2 ^ 32

unfoldable pub hash_from : ℕ → List ℕ → ℕ
hash_from h [] = h
hash_from h (x ∷ xs) = hash_from (hashed h x) xs

-- the hash spread over 32 bits, and these over the buckets, of which there are as many as entries
abbrev pub spread : ℕ → ℕ → ℕ
spread h size = h * 2654435769 % 2 ^ 32 * size / 2 ^ 32

unfoldable pub bucket_of : List ℕ → List ℕ → List ℕ → List ℕ → ℕ → ℕ → ℕ
bucket_of program g ts ws t key = spread (hash_from t (content_of program ts ws key)) (entries_granted g)

abbrev pub head_place : List ℕ → ℕ → ℕ
head_place g b = entry_place g b + 3

abbrev pub link_at : List ℕ → List ℕ → ℕ → ℕ
link_at g ws k = get_or ws (entry_place g k) 0 / 2 ^ 40

-- From the entry before k on along its bucket: the place behind the first that meets a test, 0 if none does. A link that does not lead to an older
-- entry ends the walk, so k turns are enough.
unfoldable pub walk : (ℕ → Bool) → (ℕ → ℕ) → ℕ → ℕ → ℕ
walk meets link zero k = 0
walk meets link (suc turns) k =
    if eqb k 0 then (λ _. 0)
    otherwise λ _. if meets (k - 1) then (λ _. k)
    otherwise λ _. if ltb (link (k - 1)) k then (λ _. walk meets link turns (link (k - 1)))
    otherwise λ _. 0

-- the place behind the entry of a table with a key; 0 if there is none
unfoldable pub find_entry : List ℕ → List ℕ → List ℕ → List ℕ → ℕ → ℕ → ℕ
find_entry program g ts ws t key =
    let head = get_or ws (head_place g (bucket_of program g ts ws t key)) 0 in
    if leb head (entries_granted g) then (λ _. walk (matches program g ts ws t key) (link_at g ws) head head) otherwise λ _. 0

-- ---- a group is no key
abbrev pub is_group_key : List ℕ → ℕ → Bool
is_group_key ws key = eqb (kind_in key) 6 && is_group_at ws (number_in key)

-- ---- reading: 20 if there is no such entry
unfoldable pub read_from : List ℕ → ℕ → ℕ → Act Value
read_from g p found = do
  refuse (eqb found 0) 20 p
  w ← load (entry_place g (found - 1) + 2)
  usable p (unpacked w)
  give (unpacked w)

unfoldable pub read_entry : List ℕ → List ℕ → ℕ → ℕ → ℕ → Act Value
read_entry program g p t key r =
    (refuse (is_group_key r.words key) 20 p >> read_from g p (find_entry program g r.texts r.words t key)) r

-- ---- writing
-- an entry's words at a place, first in the bucket whose head stands at another
abbrev pub entry_laid : List ℕ → ℕ → ℕ → ℕ → ℕ → ℕ → ℕ → List ℕ
entry_laid ws at head t key value number =
    set (set (set (set ws at (t + 2 ^ 40 * (get_or ws head 0 % 2 ^ 16))) (at + 1) key) (at + 2) value) head number

unfoldable pub put_entry : ℕ → ℕ → ℕ → ℕ → ℕ → ℕ → Act (Unit {0})
put_entry at head t key value number r = done tt (raw r.texts (entry_laid r.words at head t key value number))

-- a new entry takes one
unfoldable pub add_entry : List ℕ → List ℕ → ℕ → ℕ → ℕ → ℕ → Act (Unit {0})
add_entry program g t key value p r = (do
  n ← load entries_made
  spend entries_used (entries_granted g) 1 77 p
  store entries_made (n % entries_granted g + 1)
  put_entry (entry_place g (n % entries_granted g)) (head_place g (bucket_of program g r.texts r.words t key)) t key value (n % entries_granted g + 1)) r

-- the entry is overwritten, or a new one added
unfoldable pub store_in : List ℕ → List ℕ → ℕ → ℕ → ℕ → ℕ → ℕ → Act (Unit {0})
store_in program g t key value p found =
    if eqb found 0 then (λ _. add_entry program g t key value p) otherwise λ _. store (entry_place g (found - 1) + 2) value

unfoldable pub store_entry : List ℕ → List ℕ → ℕ → ℕ → ℕ → ℕ → Act (Unit {0})
store_entry program g t key value p r =
    (refuse (is_group_key r.words key) 20 p >> store_in program g t key value p (find_entry program g r.texts r.words t key)) r
