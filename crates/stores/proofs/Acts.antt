-- How acts go on after what code did.
use Prim.Native.Nat.{ℕ, ◌+◌, ◌≤◌, ◌<◌}
use mathlib.Core.Path.{◌≡◌, refl, ap, sym}
use mathlib.Core.Bool.{Bool, true, false}
use mathlib.Core.List.{List, []}
use native.Mathlib.Omega.{arith}
use lib.ListN.{get_or, set}
use lib.Dec.{leb}
use borrow.Author.Tests.{leb-true, leb-false}
use Rattle.meaning.specs.Basics.{if◌then◌otherwise◌}
use Rattle.machine.specs.declared.Value.{Value}
use Rattle.machine.specs.Act.{Raw, raw, Out, done, stop, Act, go_on, ◌>>=◌, spend, passed, out_of, Does, Pays, Gives}
use Rattle.machine.specs.declared.Fault.{Fault}
use Rattle.machine.specs.Fault.{number_of, place_of}
use Rattle.std.specs.Prelude.{Ok, Err}

-- ---- one act and then another
pub after_gift : {A B : Type 0} (k : A → Act B) {ws ws' : List ℕ} {act : Act A} {a : A} (ts : List ℕ) → Gives ws act a ws' → (act >>= k) (raw ts ws) ≡ k a (raw ts ws')
unfolding ◌>>=◌ go_on
after_gift {A} k ts h = ap (λ (o : Out A). go_on o k) (sym (h.equal ts))

-- ---- what a payment does
module _ {ws : List ℕ} {counter granted amount : ℕ} {ws' : List ℕ} where
  pub pays_so : (n p : ℕ) → Pays ws counter granted amount true ws' → Does ws (spend counter granted amount n p) (Ok tt) ws'
  unfolding passed out_of
  pays_so n p h = record { equal = h.equal n p }

  pub fails_so : (e : Fault) → Pays ws counter granted amount false ws' → Does ws (spend counter granted amount (number_of e) (place_of e)) (Err e) ws'
  unfolding passed out_of
  fails_so e h = record { equal = h.equal (number_of e) (place_of e) }

-- ---- what a payment tells
unfoldable pub words_in : Out (Unit {0}) → List ℕ
words_in (done a r) = r.words
words_in (stop n p r) = r.words

is_done : Out (Unit {0}) → Bool
is_done (done a r) = true
is_done (stop n p r) = false

pub not_stopped : {n p : ℕ} {r q : Raw} → ◌≡◌ {A = Out (Unit {0})} (done tt r) (stop n p q) → ⊥
unfolding is_done
not_stopped e = let x : true ≡ false = ap is_done e in let z : ◌≡◌ {A = ℕ} 0 1 = cc in omega arith

-- paid: it was within the grant, and the counter has it
pub record Paid (ws : List ℕ) (counter granted amount : ℕ) (ws' : List ℕ) : Type 0 where
  pub within : get_or ws counter 0 + amount ≤ granted
  pub words : ws' ≡ set ws counter (get_or ws counter 0 + amount)

-- not paid: nothing is changed
pub record Short (ws : List ℕ) (counter granted amount : ℕ) (ws' : List ℕ) : Type 0 where
  pub beyond : granted < get_or ws counter 0 + amount
  pub words : ws' ≡ ws

module _ {ws : List ℕ} {counter granted amount : ℕ} {ws' : List ℕ} where
  pub paid : Pays ws counter granted amount true ws' → Paid ws counter granted amount ws'
  unfolding passed spend if◌then◌otherwise◌ words_in is_done
  paid h = go (leb (get_or ws counter 0 + amount) granted) refl (h.equal 0 0 [])
    where
      go : (b : Bool) → leb (get_or ws counter 0 + amount) granted ≡ b
          → ◌≡◌ {A = Out (Unit {0})} (done tt (raw [] ws'))
          (if b then (λ _. done tt (raw [] (set ws counter (get_or ws counter 0 + amount)))) otherwise λ _. stop 0 0 (raw [] ws))
          → Paid ws counter granted amount ws'
      go true e q = record { within = leb-true _ _ e; words = ap words_in q }
      go false e q = let x : true ≡ false = ap is_done q in let z : ◌≡◌ {A = ℕ} 0 1 = cc in absurd (omega arith)

  pub covered : (n p : ℕ) → Does ws (spend counter granted amount n p) (Ok tt) ws' → Paid ws counter granted amount ws'
  unfolding out_of spend if◌then◌otherwise◌ words_in is_done
  covered n p h = go (leb (get_or ws counter 0 + amount) granted) refl (h.equal [])
    where
      go : (b : Bool) → leb (get_or ws counter 0 + amount) granted ≡ b
          → ◌≡◌ {A = Out (Unit {0})} (done tt (raw [] ws'))
          (if b then (λ _. done tt (raw [] (set ws counter (get_or ws counter 0 + amount)))) otherwise λ _. stop n p (raw [] ws))
          → Paid ws counter granted amount ws'
      go true e q = record { within = leb-true _ _ e; words = ap words_in q }
      go false e q = let x : true ≡ false = ap is_done q in let z : ◌≡◌ {A = ℕ} 0 1 = cc in absurd (omega arith)

  pub short : Pays ws counter granted amount false ws' → Short ws counter granted amount ws'
  unfolding passed spend if◌then◌otherwise◌ words_in is_done
  short h = go (leb (get_or ws counter 0 + amount) granted) refl (h.equal 0 0 [])
    where
      go : (b : Bool) → leb (get_or ws counter 0 + amount) granted ≡ b
          → ◌≡◌ {A = Out (Unit {0})} (stop 0 0 (raw [] ws'))
          (if b then (λ _. done tt (raw [] (set ws counter (get_or ws counter 0 + amount)))) otherwise λ _. stop 0 0 (raw [] ws))
          → Short ws counter granted amount ws'
      go true e q = let x : false ≡ true = ap is_done q in let z : ◌≡◌ {A = ℕ} 0 1 = cc in absurd (omega arith)
      go false e q = record { beyond = leb-false _ _ e; words = ap words_in q }
