-- Laws of variables, shapes and entries.
use Prim.Native.Nat.{ℕ, suc}
use mathlib.Core.Path.{◌≡◌, refl, ap}
use mathlib.Core.Bool.{Bool, true, false, ◌&&◌, and-eq-true_iff}
use mathlib.Core.List.{List, [], ◌∷◌, ◌++◌}
use mathlib.Core.Option.{Option, some}
use lib.ListN.{length, get_or, length-set}
use lib.Seq.{get_or-append_seam}
use lib.Dec.{eqb}
use borrow.Author.Tests.{eqb-true}
use Rattle.meaning.specs.Basics.{if◌then◌otherwise◌, same_text}
use Rattle.meaning.specs.Value.{Value, none}
use Rattle.meaning.specs.State.{State, Variable, Content, Shape, Entry, Key, value_in, is_some, assigned, with_variables, no_shape, with_shape, destroy, same_key, matches, entry_in, overwritten}
use Rattle.meaning.specs.Run.{run, result, go_on, ◌>>=◌, give, refuse, current, become}
use Rattle.meaning.specs.Execute.{onward, declaring, storing}
use Rattle.meaning.proofs.KeyLaws.{same_text_same, same_text_iff, same_key_iff}

-- ---- variables
abbrev variable : List ℕ → Value → Variable
variable x u = record { name = x; holds = u }

-- a name that was not declared is found once it is
pub value_in_declared : (vs : List Variable) (x : List ℕ) (u : Value) → value_in vs x ≡ Option.none → value_in (vs ++ (variable x u ∷ [])) x ≡ some u
unfolding value_in if◌then◌otherwise◌
value_in_declared [] x u e = rw (same_text_same x)
value_in_declared (v ∷ vs) x u e = go (same_text v.name x) refl (value_in_declared vs x u)
  where
    go : (t : Bool) → same_text v.name x ≡ t → (value_in vs x ≡ Option.none → value_in (vs ++ (variable x u ∷ [])) x ≡ some u) → value_in (v ∷ vs ++ (variable x u ∷ [])) x ≡ some u
    go true k h = let n : some v.holds ≡ Option.none = rw k at e in cc
    go false k h = rw k (h (rw k at e))

-- what was assigned to a declared name is read again
pub value_in_assigned : (vs : List Variable) (x : List ℕ) (u : Value) → is_some (value_in vs x) ≡ true → value_in (assigned vs x u) x ≡ some u
unfolding value_in assigned is_some if◌then◌otherwise◌
value_in_assigned [] x u e = cc
value_in_assigned (v ∷ vs) x u e = go (same_text v.name x) refl (value_in_assigned vs x u)
  where
    go : (t : Bool) → same_text v.name x ≡ t → (is_some (value_in vs x) ≡ true → value_in (assigned vs x u) x ≡ some u) → value_in (assigned (v ∷ vs) x u) x ≡ some u
    go true k h = rw (k, value_in, k)
    go false k h = rw (k, value_in, k) (h (rw k at e))

pub length_assigned : (vs : List Variable) (x : List ℕ) (u : Value) → length (assigned vs x u) ≡ length vs
unfolding assigned if◌then◌otherwise◌
length_assigned [] x u = refl
length_assigned (v ∷ vs) x u = go (same_text v.name x) (length_assigned vs x u)
  where
    go : (t : Bool) → length (assigned vs x u) ≡ length vs → length (if t then (λ _. variable v.name u ∷ vs) otherwise λ _. v ∷ assigned vs x u) ≡ suc (length vs)
    go true h = refl
    go false h = ap suc h

-- a declaration of a new name ends with that name holding none
pub declaring_declares : (p : ℕ) (x : List ℕ) (s : State) → value_in s.variables x ≡ Option.none →
    (s' : State) × (declaring p x s ≡ run [] (result onward s')) × (value_in s'.variables x ≡ some none)
unfolding declaring is_some ◌>>=◌ go_on current refuse give become
declaring_declares p x s e =
    (with_variables s (s.variables ++ (variable x none ∷ [])), rw e, value_in_declared s.variables x none e)

-- what other names hold stays
pub value_in_other : (vs : List Variable) (x y : List ℕ) (u : Value) → same_text x y ≡ false → value_in (assigned vs x u) y ≡ value_in vs y
unfolding value_in assigned if◌then◌otherwise◌
value_in_other [] x y u d = refl
value_in_other (v ∷ vs) x y u d = go (same_text v.name x) refl (value_in_other vs x y u d)
  where
    go : (t : Bool) → same_text v.name x ≡ t → value_in (assigned vs x u) y ≡ value_in vs y → value_in (assigned (v ∷ vs) x u) y ≡ value_in (v ∷ vs) y
    go true k h =
        let n : same_text v.name y ≡ false = rw ((same_text_iff v.name x).0 k) d in
        rw (k, value_in, n)
    go false k h = rw (k, value_in, h)

-- ---- shapes
-- a shape made is found by the number of shapes before it, undestroyed
pub shape_made : (s : State) (c : Content) → get_or (with_shape s c).shapes (length s.shapes) no_shape ≡ record { content = c; destroyed = false }
unfolding with_shape
shape_made s c = get_or-append_seam s.shapes (record { content = c; destroyed = false }) [] no_shape

-- destroying keeps the number of shapes
pub length_destroy : (ss : List Shape) (i : ℕ) → length (destroy ss i) ≡ length ss
unfolding destroy
length_destroy ss i = length-set ss i _

-- ---- entries
-- an entry overwritten is read again
pub entry_in_overwritten : (es : List Entry) (t : ℕ) (k : Key) (u : Value) → is_some (entry_in es t k) ≡ true → entry_in (overwritten es t k u) t k ≡ some u
unfolding entry_in overwritten is_some if◌then◌otherwise◌
entry_in_overwritten [] t k u e = cc
entry_in_overwritten (x ∷ xs) t k u e = go (matches x t k) refl (entry_in_overwritten xs t k u)
  where
    go : (b : Bool) → matches x t k ≡ b → (is_some (entry_in xs t k) ≡ true → entry_in (overwritten xs t k u) t k ≡ some u) → entry_in (overwritten (x ∷ xs) t k u) t k ≡ some u
    go true m h = rw (m, entry_in, m)
    go false m h = rw (m, entry_in, m) (h (rw m at e))

-- what other keys and other tables hold stays
pub entry_in_other : (es : List Entry) (t t' : ℕ) (k k' : Key) (u : Value) → eqb t t' && same_key k k' ≡ false →
    entry_in (overwritten es t k u) t' k' ≡ entry_in es t' k'
unfolding entry_in overwritten if◌then◌otherwise◌
entry_in_other [] t t' k k' u d = refl
entry_in_other (x ∷ xs) t t' k k' u d = go (matches x t k) refl (entry_in_other xs t t' k k' u d)
  where
    go : (b : Bool) → matches x t k ≡ b → entry_in (overwritten xs t k u) t' k' ≡ entry_in xs t' k' →
        entry_in (overwritten (x ∷ xs) t k u) t' k' ≡ entry_in (x ∷ xs) t' k'
    go true m h =
        let w = (and-eq-true_iff (eqb x.owner t) (same_key x.key k)).0 m in
        let n : matches x t' k' ≡ false = rw (eqb-true x.owner t w.0, (same_key_iff x.key k).0 w.1) d in
        rw (m, entry_in, n)
    go false m h = rw (m, entry_in, h)

-- overwriting keeps the number of entries
pub length_overwritten : (es : List Entry) (t : ℕ) (k : Key) (u : Value) → length (overwritten es t k u) ≡ length es
unfolding overwritten if◌then◌otherwise◌
length_overwritten [] t k u = refl
length_overwritten (x ∷ xs) t k u = go (matches x t k) (length_overwritten xs t k u)
  where
    go : (b : Bool) → length (overwritten xs t k u) ≡ length xs → length (if b then (λ _. record { owner = x.owner; key = x.key; holds = u } ∷ xs) otherwise λ _. x ∷ overwritten xs t k u)
        ≡ suc (length xs)
    go true h = refl
    go false h = ap suc h

-- and takes nothing
pub overwriting_free : (p t : ℕ) (k : Key) (u old : Value) (s : State) → (storing p t k u (some old) s).takings ≡ []
unfolding storing ◌>>=◌ go_on current become give
overwriting_free p t k u old s = refl
