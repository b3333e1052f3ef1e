-- Texts: a part of the program or of the text store. A handle holds which, where and how long: 1, 16 and 16 bits.
use Rattle.std.specs.Prelude.{ℕ, ◌+◌, ◌*◌, ◌/◌, ◌%◌, List, ◌++◌, take, drop, eqb}
use Rattle.meaning.specs.Basics.{if◌then◌otherwise◌, laid_over}
use Rattle.machine.specs.declared.Value.{Value}
use Rattle.machine.specs.declared.Value.TheVariants.{Text}
use Rattle.machine.specs.Layout.{text_used, text_granted}
use Rattle.machine.specs.Act.{raw, done, Act, give, load, spend, ◌>>=◌, ◌>>◌}

abbrev pub handle : ℕ → ℕ → ℕ → ℕ
handle origin start size = origin + 2 * (start + 65536 * size)

abbrev pub origin_in : ℕ → ℕ
origin_in h = h % 2

abbrev pub start_in : ℕ → ℕ
start_in h = h / 2 % 65536

abbrev pub size_in : ℕ → ℕ
size_in h = h / 131072 % 65536

-- as far as it reaches
unfoldable pub part : ℕ → ℕ → List ℕ → List ℕ
part start size s = take size (drop start s)

-- the text that a handle stands for: of the program if the origin is 0, else of the text store
unfoldable pub text_of : List ℕ → List ℕ → ℕ → List ℕ
text_of program texts h =
    if eqb (origin_in h) 0 then (λ _. part (start_in h) (size_in h) program) otherwise λ _. part (start_in h) (size_in h) texts

-- a text laid into the store from a place on, as far as the store reaches
unfoldable pub laid_at : List ℕ → ℕ → List ℕ → List ℕ
laid_at texts at s = take at texts ++ laid_over s (drop at texts)

-- two texts, one behind the other. Of the store only what is used is read
abbrev pub joined : List ℕ → List ℕ → ℕ → ℕ → ℕ → List ℕ
joined program texts used a b = text_of program (take used texts) a ++ text_of program (take used texts) b

unfoldable pub put_joined : List ℕ → ℕ → ℕ → ℕ → Act (Unit {0})
put_joined program used a b r = done tt (raw (laid_at r.texts used (joined program r.texts used a b)) r.words)

-- a joined text takes as many text bytes as it is long
unfoldable pub join_texts : List ℕ → List ℕ → ℕ → ℕ → ℕ → Act Value
join_texts program g p a b = do
  used ← load text_used
  spend text_used (text_granted g) (size_in a + size_in b) 78 p
  put_joined program used a b
  give (Text (handle 1 used (size_in a + size_in b)))
