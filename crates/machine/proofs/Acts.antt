-- How acts go on after what code answered: a law for each way, with the text store and of the words alone.
use Rattle.std.specs.Prelude.{ℕ, ◌≡◌, Bool, true, false, List, Result, Ok, Err, get_or, set}
use Rattle.std.specs.Result.{IsErrAnd}
use mathlib.Core.Path.{refl, ap, sym, ◌∙◌}
use Rattle.meaning.specs.Basics.{if◌then◌otherwise◌}
use Rattle.machine.specs.declared.Fault.{Fault}
use Rattle.machine.specs.Fault.{number_of, place_of}
use Rattle.machine.specs.Act.{raw, Out, Act, go_on, ◌>>=◌, refuse, give, fail, load, store, held, out_of, DoesIn, Does, Gives}

-- what the exit of a `?` returns
pub passed_on : {A : Type 0} {e : Fault} (s : Result A Fault) → IsErrAnd s (λ y. y ≡ e) → s ≡ Err e
passed_on (Ok a) h = absurd h
passed_on (Err y) h = ap Err h

-- ---- one act and then another, with the text store
module _ {A B : Type 0} {act : Act A} {ts ws ts' ws' : List ℕ} (k : A → Act B) where
  pub goes_in : {a : A} {s : Result B Fault} {ts'' ws'' : List ℕ} → DoesIn ts ws act (Ok a) ts' ws' → DoesIn ts' ws' (k a) s ts'' ws'' → DoesIn ts ws (act >>= k) s ts'' ws''
  unfolding ◌>>=◌ go_on out_of
  goes_in h n = record { equal = n.equal ∙ ap (λ (o : Out A). go_on o k) h.equal }

  pub fails_in : {e : Fault} → DoesIn ts ws act (Err e) ts' ws' → DoesIn ts ws (act >>= k) (Err e) ts' ws'
  unfolding ◌>>=◌ go_on out_of
  fails_in h = record { equal = ap (λ (o : Out A). go_on o k) h.equal }

  pub stops_in : {s : Result B Fault} {e : Fault} → DoesIn ts ws act (Err e) ts' ws' → IsErrAnd s (λ y. y ≡ e) → DoesIn ts ws (act >>= k) s ts' ws'
  stops_in {s} h i = rw (passed_on s i) (fails_in h)

-- the exit of a `?` that nothing follows
pub last_in : {A : Type 0} {act : Act A} {ts ws ts' ws' : List ℕ} {s : Result A Fault} {e : Fault} → DoesIn ts ws act (Err e) ts' ws' → IsErrAnd s (λ y. y ≡ e) → DoesIn ts ws act s ts' ws'
last_in {s = s} h i = rw (passed_on s i) h

-- ---- the same of the words alone
-- what is so whatever the text store holds
pub in_both : {A : Type 0} {act : Act A} {ws ws' : List ℕ} {s : Result A Fault} → Does ws act s ws' → (ts : List ℕ) → DoesIn ts ws act s ts ws'
in_both h ts = record { equal = h.equal ts }

pub whatever : {A : Type 0} {act : Act A} {ws ws' : List ℕ} {s : Result A Fault} → ((ts : List ℕ) → DoesIn ts ws act s ts ws') → Does ws act s ws'
whatever h = record { equal = λ ts. (h ts).equal }

module _ {A B : Type 0} {act : Act A} {ws ws' : List ℕ} (k : A → Act B) where
  pub goes : {a : A} {s : Result B Fault} {ws'' : List ℕ} → Does ws act (Ok a) ws' → Does ws' (k a) s ws'' → Does ws (act >>= k) s ws''
  goes h n = whatever (λ ts. goes_in k (in_both h ts) (in_both n ts))

  pub fails : {e : Fault} → Does ws act (Err e) ws' → Does ws (act >>= k) (Err e) ws'
  fails h = whatever (λ ts. fails_in k (in_both h ts))

  pub stops : {s : Result B Fault} {e : Fault} → Does ws act (Err e) ws' → IsErrAnd s (λ y. y ≡ e) → Does ws (act >>= k) s ws'
  stops h i = whatever (λ ts. stops_in k (in_both h ts) i)

  -- what is left to do behind it
  pub onward : {a : A} (ts : List ℕ) → Does ws act (Ok a) ws' → (act >>= k) (raw ts ws) ≡ k a (raw ts ws')
  unfolding ◌>>=◌ go_on out_of
  onward ts h = ap (λ (o : Out A). go_on o k) (sym (h.equal ts))

-- what is left does what was to be done
pub carried : {A : Type 0} {act act' : Act A} {ws ws' ws'' : List ℕ} {s : Result A Fault} → ((ts : List ℕ) → act (raw ts ws) ≡ act' (raw ts ws')) → Does ws' act' s ws'' → Does ws act s ws''
carried e h = record { equal = λ ts. h.equal ts ∙ sym (e ts) }

pub last : {A : Type 0} {act : Act A} {ws ws' : List ℕ} {s : Result A Fault} {e : Fault} → Does ws act (Err e) ws' → IsErrAnd s (λ y. y ≡ e) → Does ws act s ws'
last h i = whatever (λ ts. last_in (in_both h ts) i)

-- what cannot fail
pub sure : {A : Type 0} {act : Act A} {ws ws' : List ℕ} {a : A} → Gives ws act a ws' → Does ws act (Ok a) ws'
unfolding out_of
sure h = record { equal = h.equal }

-- ---- what asks something of the words, and what is refused by it or chosen
module _ {B : Type 0} {ws ws' : List ℕ} {s : Result B Fault} where
  pub holding : (k : List ℕ → Act B) → Does ws (k ws) s ws' → Does ws (held >>= k) s ws'
  unfolding ◌>>=◌ go_on held
  holding k h = record { equal = h.equal }

  pub loading : (i : ℕ) (k : ℕ → Act B) → Does ws (k (get_or ws i 0)) s ws' → Does ws (load i >>= k) s ws'
  unfolding ◌>>=◌ go_on load
  loading i k h = record { equal = h.equal }

  module _ (b : Bool) where
    pub allowed : (n p : ℕ) (k : Unit {0} → Act B) → b ≡ false → Does ws (k tt) s ws' → Does ws (refuse b n p >>= k) s ws'
    unfolding ◌>>=◌ go_on refuse give
    allowed n p k e h = record { equal = λ ts. rw e (h.equal ts) }

    pub taken : (x y : Unit {0} → Act B) → b ≡ true → Does ws (x tt) s ws' → Does ws (if b then x otherwise y) s ws'
    unfolding if◌then◌otherwise◌
    taken x y e h = record { equal = λ ts. rw e (h.equal ts) }

    pub other : (x y : Unit {0} → Act B) → b ≡ false → Does ws (y tt) s ws' → Does ws (if b then x otherwise y) s ws'
    unfolding if◌then◌otherwise◌
    other x y e h = record { equal = λ ts. rw e (h.equal ts) }

module _ {B : Type 0} {ws ws' ts ts' : List ℕ} {s : Result B Fault} where
  pub holding_in : (k : List ℕ → Act B) → DoesIn ts ws (k ws) s ts' ws' → DoesIn ts ws (held >>= k) s ts' ws'
  unfolding ◌>>=◌ go_on held
  holding_in k h = record { equal = h.equal }

  pub loading_in : (i : ℕ) (k : ℕ → Act B) → DoesIn ts ws (k (get_or ws i 0)) s ts' ws' → DoesIn ts ws (load i >>= k) s ts' ws'
  unfolding ◌>>=◌ go_on load
  loading_in i k h = record { equal = h.equal }

  module _ (b : Bool) where
    pub allowed_in : (n p : ℕ) (k : Unit {0} → Act B) → b ≡ false → DoesIn ts ws (k tt) s ts' ws' → DoesIn ts ws (refuse b n p >>= k) s ts' ws'
    unfolding ◌>>=◌ go_on refuse give
    allowed_in n p k e h = record { equal = rw e h.equal }

    pub taken_in : (x y : Unit {0} → Act B) → b ≡ true → DoesIn ts ws (x tt) s ts' ws' → DoesIn ts ws (if b then x otherwise y) s ts' ws'
    unfolding if◌then◌otherwise◌
    taken_in x y e h = record { equal = rw e h.equal }

    pub other_in : (x y : Unit {0} → Act B) → b ≡ false → DoesIn ts ws (y tt) s ts' ws' → DoesIn ts ws (if b then x otherwise y) s ts' ws'
    unfolding if◌then◌otherwise◌
    other_in x y e h = record { equal = rw e h.equal }

module _ {B : Type 0} {ws : List ℕ} (b : Bool) (e : Fault) (k : Unit {0} → Act B) where
  pub refused : b ≡ true → Does ws (refuse b (number_of e) (place_of e) >>= k) (Err e) ws
  unfolding ◌>>=◌ go_on refuse fail out_of
  refused h = record { equal = λ ts. rw h refl }

  pub refused_in : (ts : List ℕ) → b ≡ true → DoesIn ts ws (refuse b (number_of e) (place_of e) >>= k) (Err e) ts ws
  refused_in ts h = in_both (refused h) ts

pub given : {A : Type 0} {ws : List ℕ} (a : A) → Does ws (give a) (Ok a) ws
unfolding give out_of
given a = record { equal = λ ts. refl }

pub failed : {A : Type 0} {ws : List ℕ} (e : Fault) → Does {A = A} ws (fail (number_of e) (place_of e)) (Err e) ws
unfolding fail out_of
failed e = record { equal = λ ts. refl }

-- a word that is stored
pub stored : {ws : List ℕ} (i w : ℕ) → Does ws (store i w) (Ok tt) (set ws i w)
unfolding store out_of
stored i w = record { equal = λ ts. refl }
