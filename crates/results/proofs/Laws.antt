-- One law for each way through each function.
use Prim.Native.Nat.{ℕ, ◌*◌, ◌-◌, ◌≤◌, ◌<◌}
use mathlib.Core.Path.{◌≡◌, refl, sym, ◌∙◌}
use mathlib.Core.Bool.{Bool, true, false, not}
use mathlib.Core.List.{List}
use lib.ListN.{get_or}
use lib.IntN.{ℤ}
use lib.Dec.{eqb}
use mir.Syntax.{w32}
use mir.Val.{to_z, of_z, SFits}
use mir.Facts.{to_z-of_z}
use borrow.Author.Tests.{lt-ltb, le-ltb, ne_eqb}
use Rattle.std.specs.Prelude.{Result, Ok, Err}
use Rattle.meaning.specs.Basics.{if◌then◌otherwise◌}
use Rattle.meaning.specs.Integer.{is_negative}
use Rattle.machine.specs.Opcodes.{tag_in, number_in, tag_number, tag_string, tag_none, tag_truth, tag_entry, first_operator}
use Rattle.machine.specs.declared.Value.{Value}
use Rattle.machine.specs.declared.Value.TheVariants.{Integer, Text, Boolean, Nothing, Table}
use Rattle.machine.specs.declared.Fault.{Fault}
use Rattle.machine.specs.declared.Fault.TheVariants.{Misuse, NegativeSize}
use Rattle.machine.specs.Words.{kind_in, kind_integer, kind_table, unpacked}
use Rattle.machine.specs.Words as Words
use Rattle.values.proofs.Laws.{by_kind, unpacked_integer}
use Rattle.machine.specs.Layout.{arguments_held}
use Rattle.machine.specs.Act.{raw, stop, go_on, ◌>>=◌, give, fail, refuse, load, new_table, out_of, Does, DoesIn, Gives}
use Rattle.machine.specs.Stack.{drop_to}
use Rattle.machine.specs.Variables.{variable}
use Rattle.machine.specs.Tables.{read_entry}
use Rattle.machine.specs.Operate.{with_integer, operate}
use Rattle.machine.specs.Library.{call_library}
use Rattle.machine.specs.Primaries.{leaf, sized, lacks_table, applied, called}

-- a signed local holds bits, and its value is read back from them
abbrev held : ℤ → ℤ
held z = to_z w32 (of_z w32 z)

-- ---- constants and variables
module _ (ws : List ℕ) (p w tag : ℕ) (i : tag ≡ tag_in w) where
  pub is_number : (v : Value) → tag ≡ tag_number → v ≡ Integer (to_z w32 (number_in w)) → Does ws (leaf p w) (Ok v) ws
  unfolding leaf if◌then◌otherwise◌ give out_of
  is_number v t h = record { equal = λ ts. rw (h, ← i, t) }

  pub is_string : (v : Value) → tag ≡ tag_string → v ≡ Text (2 * number_in w) → Does ws (leaf p w) (Ok v) ws
  unfolding leaf if◌then◌otherwise◌ give out_of
  is_string v t h = record { equal = λ ts. rw (h, ← i, t) }

  pub is_none : tag ≡ tag_none → Does ws (leaf p w) (Ok Nothing) ws
  unfolding leaf if◌then◌otherwise◌ give out_of
  is_none t = record { equal = λ ts. rw (← i, t) }

  pub is_truth : (v : Value) → tag ≡ tag_truth → v ≡ Boolean (eqb (number_in w) 1) → Does ws (leaf p w) (Ok v) ws
  unfolding leaf if◌then◌otherwise◌ give out_of
  is_truth v t h = record { equal = λ ts. rw (h, ← i, t) }

  pub is_name : (n : ℕ) (r : Result Value Fault) → (tag ≡ tag_number → ⊥) → (tag ≡ tag_string → ⊥) → (tag ≡ tag_none → ⊥) → (tag ≡ tag_truth → ⊥) → n ≡ number_in w
      → Does ws (variable p n) r ws → Does ws (leaf p w) r ws
  unfolding leaf if◌then◌otherwise◌
  is_name n r a b c d e h = record { equal = λ ts. h.equal ts ∙ rw (← i, ne_eqb _ _ a, ne_eqb _ _ b, ne_eqb _ _ c, ne_eqb _ _ d, e) }

-- ---- operands
module _ (ws : List ℕ) (p a k : ℕ) (i : k ≡ kind_in a) where
  pub no_size : (k ≡ kind_integer → ⊥) → Does ws (sized p a) (Err (Misuse p)) ws
  unfolding sized with_integer fail out_of
  no_size n = record {
    equal = λ ts. by_kind a (λ v. stop 20 p (raw ts ws) ≡ with_integer p v (λ size. refuse (is_negative size) 40 p >>= λ _. new_table) (raw ts ws))
        (λ q. absurd (n (i ∙ q))) (λ _. refl) (λ _. refl) refl (λ _. refl) (λ _. refl);
  }

  module _ (s : k ≡ kind_integer) (z : ℤ) (f : SFits w32 z) (d : z ≡ to_z w32 (Words.number_in a)) (b : Bool) (e : b ≡ is_negative (held z)) where
    size_is : unpacked a ≡ Integer z
    size_is = unpacked_integer a (sym i ∙ s) ∙ rw d

    pub negative_size : b ≡ true → Does ws (sized p a) (Err (NegativeSize p)) ws
    unfolding sized with_integer ◌>>=◌ go_on refuse fail out_of
    negative_size t = record { equal = λ ts. rw (size_is, ← to_z-of_z f, ← e, t) }

    pub new_table_lem : (t : ℕ) (ws' : List ℕ) → b ≡ false → Gives ws new_table (Table t) ws' → Does ws (sized p a) (Ok (Table t)) ws'
    unfolding sized with_integer ◌>>=◌ go_on refuse give out_of
    new_table_lem t ws' g h = record { equal = λ ts. rw (size_is, ← to_z-of_z f, ← e, g) (h.equal ts) }

module _ (tag a : ℕ) where
  pub needs_none : first_operator ≤ tag → false ≡ lacks_table tag a
  needs_none l = rw (le-ltb tag first_operator l)

  pub needs_table : (k : ℕ) → tag < first_operator → k ≡ kind_in a → not (eqb k kind_table) ≡ lacks_table tag a
  needs_table k l e = rw (lt-ltb tag first_operator l, e)

module _ (program g : List ℕ) (tag p a b : ℕ) (ts ws : List ℕ) (r : Result Value Fault) (ts' ws' : List ℕ) where
  pub is_read : (n : ℕ) → tag ≡ tag_entry → n ≡ Words.number_in a → DoesIn ts ws (read_entry program g p n b) r ts' ws' → DoesIn ts ws (applied program g tag p a b) r ts' ws'
  unfolding applied if◌then◌otherwise◌
  is_read n t e h = record { equal = h.equal ∙ rw (t, e) }

  pub is_operator : (tag ≡ tag_entry → ⊥) → DoesIn ts ws (operate program g tag p (unpacked a) (unpacked b)) r ts' ws' → DoesIn ts ws (applied program g tag p a b) r ts' ws'
  unfolding applied if◌then◌otherwise◌
  is_operator n h = record { equal = h.equal ∙ rw (ne_eqb _ _ n) }

-- ---- calls
pub called_by : (g : List ℕ) (number p base h n : ℕ) (ws : List ℕ) (r : Result Value Fault) (ws' : List ℕ) → h ≡ get_or ws arguments_held 0 → n ≡ h - base
    → Does ws (call_library g number p base n >>= λ v. drop_to base >>= λ _. give v) r ws' → Does ws (called g number p base) r ws'
unfolding called ◌>>=◌ go_on load
called_by g number p base h n ws r ws' i j d = record { equal = λ ts. d.equal ts ∙ rw (j, i) }
