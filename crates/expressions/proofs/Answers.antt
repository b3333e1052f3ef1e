-- What an answer and the slice behind it say of what was read, and what a store of one word makes of them.
-- Assumes nothing.
use Prim.Native.Nat.{ℕ, ◌+◌, ◌<◌}
use mathlib.Core.Path.{◌≡◌, ◌∙◌, refl, sym, ap}
use mathlib.Core.List.{List, [], ◌∷◌, ◌++◌, append_assoc}
use Rattle.std.specs.Prelude.{Result, Ok, Err, IsErrAnd}
use Rattle.std.proofs.lemmas.Result.{err_from_is_err_and}
use native.Mathlib.Numerals.{add-one}
use native.Mathlib.Omega.{arith}
use lib.ListN.{length, take, set, length-append, length-take}
use lib.Seq.{take-suc-set, take-set-lt, set-append_left}
use Rattle.meaning.specs.Grammar.{Got, good, wrong, after}
use Rattle.expressions.specs.declared.Read.{Read}
use Rattle.expressions.specs.declared.Misfit.{Misfit}
use Rattle.expressions.specs.declared.Target.TheVariants.{Neither}
use Rattle.expressions.specs.Words.{Piece, Seen, at, failed, seen, written, written_code}

-- ---- stores
-- a word behind the first e
pub take_put : (s : List ℕ) (e w : ℕ) → e < length s → take (e + 1) (set s e w) ≡ take e s ++ (w ∷ [])
take_put s e w h = rw add-one (take-suc-set s e w h)

-- a word before code that was written behind its place
pub take_put_before : (s₀ s : List ℕ) (c : List ℕ) (n m w : ℕ) → n < length s₀ → n < m → take m s ≡ take (n + 1) s₀ ++ c → take m (set s n w) ≡ take n s₀ ++ (w ∷ c)
take_put_before s₀ s c n m w h l e =
    let k : n < length (take (n + 1) s₀) = simp length-take (omega arith) in
    rw (take-set-lt m s n w l, e, set-append_left (take (n + 1) s₀) c n w k, ← take-set-lt (n + 1) s₀ n w (omega arith), take_put s₀ n w h) (append_assoc (take n s₀) (w ∷ []) c)

-- ---- answers
-- what an answer says where nothing was read, and only there
pub record Says {A : Type 0} (w : Got A → Seen) : Type 0 where
  pub wrongly : (k p : ℕ) → w (wrong k p) ≡ failed k p
  pub rightly : (a : A) (j k p : ℕ) → failed k p ≡ w (good a j) → ⊥

pub says : (n : ℕ) (s₀ : List ℕ) → Says (λ g. written g n s₀)
unfolding written
says n s₀ = record { wrongly = λ k p. refl; rightly = λ a j k p e. let z : ◌≡◌ {A = ℕ} 0 1 = cc in omega arith }

pub says_code : (n : ℕ) (s₀ : List ℕ) → Says (λ g. written_code g n s₀)
unfolding written_code
says_code n s₀ = record { wrongly = λ k p. refl; rightly = λ a j k p e. let z : ◌≡◌ {A = ℕ} 0 1 = cc in omega arith }

-- nothing was read
pub refused : {A : Type 0} {w : Got A → Seen} {g : Got A} → Says w → (e : Misfit) (s : List ℕ) → g ≡ wrong e.number e.token → seen (Err e) s ≡ w g
unfolding seen
refused y e s q = rw q (sym (y.wrongly e.number e.token))

pub erred : {A : Type 0} {w : Got A → Seen} → Says w → (g : Got A) (e : Misfit) (s : List ℕ) → seen (Err e) s ≡ w g → g ≡ wrong e.number e.token
unfolding seen
erred y (good a j) e s h = absurd (y.rightly a j _ _ h)
erred y (wrong k p) e s h = let q : failed e.number e.token ≡ failed k p = h ∙ y.wrongly k p in cc

-- Where the first reading fails, what is made of it fails the same.
pub fails : {A B : Type 0} {w : Got A → Seen} {h : Got B} → Says w → (g : Got A) (f : A → ℕ → Got B) (e : Misfit) (s : List ℕ) → h ≡ after g f → seen (Err e) s ≡ w g
    → h ≡ wrong e.number e.token
unfolding after
fails y g f e s q h = rw (q, erred y g e s h)

-- each exit by `?`
pub exits : {A B : Type 0} {w : Got A → Seen} {v : Got B → Seen} {h : Got B} → Says w → Says v → (g : Got A) (f : A → ℕ → Got B) (e : Misfit) (r : Result Read Misfit) (s : List ℕ)
    → h ≡ after g f → IsErrAnd r (λ x. x ≡ e) → seen (Err e) s ≡ w g → seen r s ≡ v h
exits y z g f e r s q i h =
    let p = err_from_is_err_and r i in
    rw (p.1, p.2) (refused z e s (fails y g f e s q h))

-- Where it goes on, what is made of what was read is what stands behind.
pub after_good : {A B : Type 0} (g : Got A) (a : A) (j : ℕ) → g ≡ good a j → (f : A → ℕ → Got B) → after g f ≡ f a j
unfolding after
after_good g a j q f = rw q

-- a piece that was read, from the word n on
pub record Wrote (g : Got Piece) (n : ℕ) (s₀ : List ℕ) (r : Read) (s : List ℕ) : Type 0 where
  pub piece : Piece
  pub read : g ≡ good piece r.token
  pub up_to : r.word ≡ n + length piece.code
  pub targeted : r.target ≡ piece.target
  pub front : take r.word s ≡ take n s₀ ++ piece.code

pub record WroteCode (g : Got (List ℕ)) (n : ℕ) (s₀ : List ℕ) (r : Read) (s : List ℕ) : Type 0 where
  pub code : List ℕ
  pub read : g ≡ good code r.token
  pub up_to : r.word ≡ n + length code
  pub front : take r.word s ≡ take n s₀ ++ code

pub wrote : (g : Got Piece) (n : ℕ) (s₀ s : List ℕ) (r : Read) → seen (Ok r) s ≡ written g n s₀ → Wrote g n s₀ r s
unfolding seen written
wrote (good e j) n s₀ s r h = record { piece = e; read = cc; up_to = cc; targeted = cc; front = cc }
wrote (wrong k p) n s₀ s r h = let z : ◌≡◌ {A = ℕ} 0 1 = cc in absurd (omega arith)

pub wrote_code : (g : Got (List ℕ)) (n : ℕ) (s₀ s : List ℕ) (r : Read) → seen (Ok r) s ≡ written_code g n s₀ → WroteCode g n s₀ r s
unfolding seen written_code
wrote_code (good c j) n s₀ s r h = record { code = c; read = cc; up_to = cc; front = cc }
wrote_code (wrong k p) n s₀ s r h = let z : ◌≡◌ {A = ℕ} 0 1 = cc in absurd (omega arith)

-- what was read is what its answer says
pub good_seen : (g : Got Piece) (n : ℕ) (s₀ : List ℕ) (r : Read) (s : List ℕ) (w : Wrote g n s₀ r s) → seen (Ok r) s ≡ written (good w.piece r.token) n s₀
unfolding seen written
good_seen g n s₀ r s w = let h = w.up_to in let l = w.targeted in let f = w.front in cc

-- ---- what follows
-- the same, where what follows is
pub same_after : {A B : Type 0} (g : Got A) (f h : A → ℕ → Got B) → ((a : A) (j : ℕ) → g ≡ good a j → f a j ≡ h a j) → after g f ≡ after g h
unfolding after
same_after (good a j) f h e = e a j refl
same_after (wrong k p) f h e = refl

-- a list put before what is read
pub shifted : (g : Got (List ℕ)) (c s s₂ : List ℕ) (m q : ℕ) → q ≡ m + length c → take q s₂ ≡ take m s ++ c
    → written_code (after g λ es j. good (c ++ es) j) m s ≡ written_code g q s₂
unfolding written_code after
shifted (wrong k p) c s s₂ m q h f = refl
shifted (good es j) c s s₂ m q h f =
    let u : m + length (c ++ es) ≡ q + length es = omega (arith, length-append c es) in
    rw (u, f) (ap (at j (q + length es) Neither) (sym (append_assoc (take m s) c es)))
