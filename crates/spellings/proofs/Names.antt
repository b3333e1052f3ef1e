-- One law for each way through the functions on lists of names.
-- Assumes nothing.
use Prim.Native.Nat.{ℕ, zero, suc, ◌+◌, ◌^◌, ◌≤◌, ◌<◌}
use mathlib.Core.Path.{◌≡◌, refl, sym}
use mathlib.Core.Bool.{Bool, true, false, cond}
use mathlib.Core.List.{List, [], ◌∷◌, ◌++◌, map, append-nil, append_assoc}
use native.Mathlib.Numerals.{add-one}
use native.Mathlib.Omega.{arith}
use borrow.Author.Tests.{lt-ltb}
use lib.Dec.{ltb}
use lib.ListN.{length, get_or, drop, drop_of_length-le}
use lib.Seq.{drop-cons}
use Rattle.meaning.specs.Basics.{bytes}
use Rattle.canonical.specs.Text.{comma_separated}
use Rattle.writing.specs.Placed.{WroteAt}
use Rattle.spellings.specs.Spelling.{name_text}
use Rattle.spellings.proofs.Chains.{then_two, Writing, begin, goes_on, ends}

-- texts, each behind a comma
unfoldable pub each_behind : List (List ℕ) → List ℕ
each_behind [] = []
each_behind (t ∷ ts) = (bytes "," ++ t) ++ each_behind ts

first_and_behind : (t : List ℕ) (ts : List (List ℕ)) → comma_separated (t ∷ ts) ≡ t ++ each_behind ts
unfolding comma_separated each_behind
first_and_behind t [] = sym (append-nil t)
first_and_behind t (u ∷ ts) = rw (first_and_behind u ts, append_assoc t (bytes ",") (u ++ each_behind ts))

-- the text of what is left behind the first i of some slots
unfoldable pub names_left : (ℕ → List ℕ) → List ℕ → ℕ → List ℕ
names_left name slots zero = comma_separated (map name slots)
names_left name slots (suc i) = each_behind (map name (drop (suc i) slots))

none_left : (name : ℕ → List ℕ) (slots : List ℕ) (i : ℕ) → length slots ≤ i → names_left name slots i ≡ []
unfolding names_left comma_separated each_behind
none_left name [] zero h = refl
none_left name (x ∷ slots) zero h = absurd (omega arith)
none_left name slots (suc i) h = rw (drop_of_length-le slots {i = suc i} h)

one_name : (name : ℕ → List ℕ) (slots : List ℕ) (i : ℕ) → i < length slots
    → names_left name slots i ≡ (cond (ltb 0 i) (bytes ",") [] ++ name (get_or slots i 0)) ++ names_left name slots (suc i)
unfolding names_left each_behind
one_name name [] zero h = absurd (omega arith)
one_name name (x ∷ slots) zero h = first_and_behind (name x) (map name slots)
one_name name slots (suc i) h = rw (drop-cons slots (suc i) 0 h, lt-ltb 0 (suc i) (omega arith))

-- of the names of slots those from i on are left
pub record Naming (program tokens slots : List ℕ) (at : ℕ) (before now : List ℕ) (next i : ℕ) : Type 0 where
  pub short : length before < 2 ^ 64
  pub writing : Writing at (comma_separated (map (name_text program tokens) slots)) (names_left (name_text program tokens) slots i) before now next

module _ (program tokens : List ℕ) where
  module _ (slot : ℕ) (follows : Bool) {at r : ℕ} {d : List ℕ} where
    pub listed_behind : {m : ℕ} {e f : List ℕ} → length d < 2 ^ 64 → follows ≡ true → WroteAt at (bytes ",") d e m
        → WroteAt m (name_text program tokens slot) e f r
        → WroteAt at (cond follows (bytes ",") [] ++ name_text program tokens slot) d f r
    listed_behind h t p q = rw t (then_two h p q)

    pub listed_first : {e : List ℕ} → follows ≡ false → WroteAt at (name_text program tokens slot) d e r
        → WroteAt at (cond follows (bytes ",") [] ++ name_text program tokens slot) d e r
    listed_first t p = rw t p

  module _ (slots : List ℕ) {at : ℕ} {before : List ℕ} where
    pub names_first : length before < 2 ^ 64 → at < 2 ^ 64 → Naming program tokens slots at before before at 0
    unfolding names_left
    names_first h k = record { short = h; writing = begin _ k }

    module _ (i : ℕ) {next : ℕ} {now : List ℕ} (g : Naming program tokens slots at before now next i) where
      pub names_next : {last : ℕ} {after : List ℕ} → i < length slots
          → WroteAt next (cond (ltb 0 i) (bytes ",") [] ++ name_text program tokens (get_or slots i 0)) now after last
          → Naming program tokens slots at before after last (i + 1)
      names_next l p = record { short = g.short; writing = rw (add-one i) (goes_on _ _ g.short g.writing (one_name (name_text program tokens) slots i l) p) }

      pub names_end : length slots ≤ i → WroteAt at (comma_separated (map (name_text program tokens) slots)) before now next
      names_end l = ends g.writing (none_left (name_text program tokens) slots i l)
