-- The index of entries: what its words say.
use Rattle.std.specs.Prelude.{ℕ, zero, suc, ◌≤◌, ◌<◌, ◌≡◌, Bool, List, get_or, eqb}
use Rattle.meaning.specs.Basics.{if◌then◌otherwise◌}
use Rattle.machine.specs.Layout.{entries_made, entries_granted}
use Rattle.machine.specs.Tables.{owner_at, key_at, bucket_of, head_place, link_at}

-- the place behind the last of n that meets a test; 0 if none does
unfoldable pub last : (ℕ → Bool) → ℕ → ℕ
last f zero = 0
last f (suc k) = if f k then (λ _. suc k) otherwise λ _. last f k

-- whether an entry lies in a bucket
unfoldable pub lies : List ℕ → List ℕ → List ℕ → List ℕ → ℕ → ℕ → Bool
lies program g ts ws b k = eqb (bucket_of program g ts ws (owner_at g ws k) (key_at g ws k)) b

-- a bucket's head leads to its last entry, and each link to the last entry of its bucket before it
pub record Indexed (program g ts ws : List ℕ) : Type 0 where
  pub few : get_or ws entries_made 0 ≤ entries_granted g
  pub begins : (b : ℕ) → b < entries_granted g → get_or ws (head_place g b) 0 ≡ last (lies program g ts ws b) (get_or ws entries_made 0)
  pub links : (k : ℕ) → k < get_or ws entries_made 0 → link_at g ws k ≡ last (lies program g ts ws (bucket_of program g ts ws (owner_at g ws k) (key_at g ws k))) k
