-- The loop over the procedures: what is gathered at the start and from there on is what is gathered here and from here on.
-- Assumes nothing.
use Prim.Native.Nat.{ℕ, zero, suc, ◌+◌, ◌-◌, ◌<◌, ◌≤◌}
use mathlib.Core.Path.{◌≡◌, ◌∙◌, refl, sym, ap}
use mathlib.Core.Bool.{Bool, true, false}
use mathlib.Core.List.{List, [], ◌∷◌, ◌++◌}
use native.Mathlib.Omega.{arith}
use borrow.Author.Tests.{ne_eqb}
use lib.Dec.{eqb}
use lib.ListN.{length, get_or, set, take, drop, replicate}
use lib.Seq.{length-take-le, take-take, take-append-le, drop_at}
use Rattle.std.specs.Prelude.{Option, Some, None, Result, Ok, Err, IsErrAnd}
use Rattle.std.proofs.lemmas.Result.{err_from_is_err_and}
use Rattle.meaning.specs.Basics.{if◌then◌otherwise◌}
use Rattle.meaning.specs.Token.{ending}
use Rattle.meaning.specs.Grammar.{Got, good, wrong, after}
use Rattle.machine.specs.Opcodes.{procedure_word}
use Rattle.expressions.specs.declared.Misfit.{Misfit}
use Rattle.expressions.specs.Words.{kind_at, place_at, home_at, procedure_at, is}
use Rattle.expressions.proofs.Answers.{same_after, after_good}
use Rattle.definitions.specs.declared.Procedure.{Procedure}
use Rattle.definitions.specs.declared.Parsed.{Parsed}
use Rattle.definitions.specs.declared.Unread.{Unread}
use Rattle.definitions.specs.declared.Unread.TheVariants as Unread
use Rattle.definitions.specs.Words.{Head, procedure, procedures_from, procedures, Gathered, main_word, first_twice, word_at, gather, gather_all, nothing, table_in, SeenProcedure}
use Rattle.definitions.specs.Words.{up_to, failed_procedure, seen_procedure, written_procedure, seen_whole, settled, settled_by, written_whole}
use Rattle.definitions.specs.Room.{Halves}
use Rattle.definitions.specs.Steps.{Below, Entered, answered}
use Rattle.definitions.proofs.Paid.{procedure_paid}

-- ---- rounds
-- a procedure, and what `rest` yields behind it
abbrev turn : List ℕ → (ℕ → Got (List Head)) → Head → ℕ → Got (List Head)
turn ws rest h j = if is ending ws j then (λ _. good (h ∷ []) j) otherwise λ _. after (rest j) λ hs m. good (h ∷ hs) m

same_turn : (ws : List ℕ) (f g : ℕ → Got (List Head)) (h : Head) (j : ℕ) → f j ≡ g j → turn ws f h j ≡ turn ws g h j
same_turn ws f g h j q = rw q

-- rounds enough are enough
enough : (ws : List ℕ) (r r' i : ℕ) → length ws - i < r → length ws - i < r' → procedures_from r ws i ≡ procedures_from r' ws i
unfolding procedures_from
enough ws zero r' i h l = absurd (omega arith)
enough ws (suc r) zero i h l = absurd (omega arith)
enough ws (suc r) (suc r') i h l = same_after (procedure ws i) _ _ λ f j q.
    let p = procedure_paid ws i f j q in
    same_turn ws (procedures_from r ws) (procedures_from r' ws) f j (enough ws r r' j (omega (arith, p.paid, p.within)) (omega (arith, p.paid, p.within)))

-- the procedures from a token on
unfoldable pub rest : List ℕ → ℕ → Got (List Head)
rest ws i = procedures_from (suc (length ws - i)) ws i

rest_turns : (ws : List ℕ) (i : ℕ) → rest ws i ≡ after (procedure ws i) (turn ws (rest ws))
unfolding rest procedures_from
rest_turns ws i = same_after (procedure ws i) _ _ λ f j q.
    let p = procedure_paid ws i f j q in
    same_turn ws (procedures_from (length ws - i) ws) (rest ws) f j
    (enough ws (length ws - i) (suc (length ws - j)) j (omega (arith, p.paid, p.within)) (omega (arith, p.paid, p.within)))

-- ---- the loop
-- what was gathered, by the slice
abbrev sofar : ℕ → Option ℕ → Option ℕ → List ℕ → Gathered
sofar n main twice s = record { code = take n s; table = table_in s; main = main; twice = twice }

-- procedures were read up to token i and word n
pub record Gathering (ws s₀ : List ℕ) (i n : ℕ) (main twice : Option ℕ) (s : List ℕ) : Type 0 where
  pub same : written_whole (length ws) nothing (procedures ws) ≡ written_whole (length ws) (sofar n main twice s) (rest ws i)
  pub behind : n ≤ i
  pub full : n ≤ 8192
  pub halves : Halves ws s
  pub kept : length s ≡ length s₀

pub gathering_starts : (ws s : List ℕ) → Halves ws s → table_in s ≡ replicate 8192 0 → Gathering ws s 0 0 None None s
unfolding procedures rest
gathering_starts ws s h e =
    let z : length ws - 0 ≡ length ws = omega arith in
    record { same = rw (e, z); behind = omega arith; full = omega arith; halves = h; kept = refl }

-- a procedure that was read
pub record Read-head (ws : List ℕ) (i n : ℕ) (s₀ : List ℕ) (p : Procedure) (s : List ℕ) : Type 0 where
  pub head : Head
  pub read : procedure ws i ≡ good head p.token
  pub up_to : p.word ≡ n + length head.slots + length head.body
  pub counted : p.parameters ≡ length head.slots
  pub front : take p.word s ≡ take n s₀ ++ (head.slots ++ head.body)

wrote_head : (ws : List ℕ) (i n : ℕ) (s₀ s : List ℕ) (p : Procedure) → seen_procedure (Ok p) s ≡ written_procedure (procedure ws i) n s₀ → Read-head ws i n s₀ p s
unfolding seen_procedure written_procedure
wrote_head ws i n s₀ s p h = go (procedure ws i) refl h
  where
    go : (g : Got Head) → procedure ws i ≡ g → seen_procedure (Ok p) s ≡ written_procedure g n s₀ → Read-head ws i n s₀ p s
    go (good d j) e q = record { head = d; read = e ∙ ap (good d) cc; up_to = cc; counted = cc; front = cc }
    go (wrong k a) e q = let z : ◌≡◌ {A = ℕ} 0 1 = cc in absurd (omega arith)

erred_head : (g : Got Head) (n : ℕ) (s₀ s : List ℕ) (e : Misfit) → seen_procedure (Err e) s ≡ written_procedure g n s₀ → g ≡ wrong e.number e.token
unfolding seen_procedure written_procedure
erred_head (good h j) n s₀ s e q = let z : ◌≡◌ {A = ℕ} 0 1 = cc in absurd (omega arith)
erred_head (wrong k p) n s₀ s e q = cc

-- ---- a procedure's code in the lower half
module _ (ws : List ℕ) (i n : ℕ) (s₀ p : List ℕ) (h : Halves ws s₀) (b : n ≤ i) (l : length p ≡ length (take 8192 s₀)) where
  lower : length p ≡ 8192
  lower = l ∙ length-take-le 8192 s₀ (omega (arith, h.room))

  upper : table_in (p ++ drop 8192 s₀) ≡ table_in s₀
  upper = ap (take 8192) (drop_at p (drop 8192 s₀) 8192 lower)

  pub below_reads : (r : Result Procedure Misfit) → seen_procedure r p ≡ written_procedure (procedure ws i) n (take 8192 s₀) → Below r ws i n s₀ (p ++ drop 8192 s₀)
  unfolding seen_procedure written_procedure
  below_reads (Ok a) q =
      let w = wrote_head ws i n (take 8192 s₀) p a q in
      let d = procedure_paid ws i w.head a.token w.read in
      let f : take a.word (p ++ drop 8192 s₀) ≡ take n s₀ ++ (w.head.slots ++ w.head.body) =
      take-append-le a.word p (drop 8192 s₀) (omega (arith, lower, d.paid, d.within, w.up_to, h.few)) ∙ w.front
      ∙ ap (λ a. a ++ (w.head.slots ++ w.head.body)) (take-take n 8192 s₀ (omega (arith, d.paid, d.within, h.few))) in
      record { reads = rw (w.read, f, ← w.up_to, ← w.counted); table = upper }
  below_reads (Err e) q = record { reads = rw (erred_head (procedure ws i) n (take 8192 s₀) p e q); table = upper }

-- ---- a turn
word_so : (k n m t w : ℕ) (h : Head) → k ≡ n → m ≡ n + length h.slots + length h.body → t ≡ length h.slots → w ≡ procedure_word n t (m - n - t) → word_at k h ≡ w
word_so k n m t w h l u c e = let z : m - n - t ≡ length h.body = omega arith in rw (e, l, z, c)

-- one procedure more is gathered before the others
gather_more : (end : ℕ) (a : Gathered) (h : Head) (g : Got (List Head)) → written_whole end a (after g λ hs m. good (h ∷ hs) m) ≡ written_whole end (gather a h) g
unfolding written_whole gather_all after
gather_more end a h (good hs j) = refl
gather_more end a h (wrong k p) = refl

-- what is answered at the end
settles : (end : ℕ) (main twice : Option ℕ) (n : ℕ) (s : List ℕ) → seen_whole (answered end main twice n) s ≡ settled end (sofar n main twice s)
unfolding answered settled_by seen_whole
settles end None twice n s = refl
settles end (Some main) None n s = refl
settles end (Some main) (Some p) n s = refl

module _ (ws s₀ : List ℕ) (i n : ℕ) (main twice : Option ℕ) (s : List ℕ) (g : Gathering ws s₀ i n main twice s) (s₁ : List ℕ) where
  -- an exit by `?`
  pub gathering_fails : (e : Misfit) (r : Result Parsed Unread) → Below (Err e) ws i n s s₁ → IsErrAnd r (λ u. u ≡ Unread.Misfit e)
      → seen_whole r s₁ ≡ written_whole (length ws) nothing (procedures ws)
  unfolding after seen_whole written_whole
  gathering_fails e r b y =
      let p = err_from_is_err_and r y in
      rw (p.1, p.2) (rw (g.same, rest_turns ws i, erred_head (procedure ws i) n s s₁ e b.reads))

  module _ (r : Procedure) (b : Below (Ok r) ws i n s s₁) where
    was : Read-head ws i n s r s₁
    was = wrote_head ws i n s s₁ r b.reads

    -- where it ends
    pub record Turned : Type 0 where
      pub inside : i + 1 < length ws
      pub ahead : i < r.token
      pub within : r.token ≤ length ws
      pub behind : r.word ≤ r.token
      pub order : n + r.parameters ≤ r.word
      pub full : r.word ≤ 8192

    pub turned : Turned
    turned =
        let w = was in
        let p = procedure_paid ws i w.head r.token w.read in
        record {
          inside = omega (arith, p.paid, p.within);
          ahead = omega (arith, p.paid);
          within = p.within;
          behind = omega (arith, p.paid, w.up_to, g.behind);
          order = omega (arith, w.up_to, w.counted);
          full = omega (arith, p.paid, p.within, w.up_to, g.behind, g.halves.few);
        }

    module _ (w old : ℕ) (wd : w ≡ procedure_word n r.parameters (r.word - n - r.parameters)) (s₂ : List ℕ) (e : Entered (home_at ws (i + 1)) w old s₁ s₂) (twice' main' : Option ℕ)
        (tw : twice' ≡ first_twice twice (procedure_at ws (i + 1)) old (place_at ws i)) (mw : main' ≡ main_word main (procedure_at ws (i + 1)) w) where
      gathered_so : gather (sofar n main twice s) was.head ≡ sofar r.word main' twice' s₂
      unfolding gather
      gathered_so =
          let h = was in
          let p = procedure_paid ws i h.head r.token h.read in
          let l : length (take n s) ≡ n = length-take-le n s (omega (arith, g.full, g.halves.room)) in
          let v : word_at (length (take n s)) h.head ≡ w = word_so (length (take n s)) n r.word r.parameters w h.head l h.up_to h.counted wd in
          let c : take r.word s₂ ≡ take n s ++ (h.head.slots ++ h.head.body) =
          sym (take-take r.word 8192 s₂ turned.full) ∙ ap (take r.word) e.code ∙ take-take r.word 8192 s₁ turned.full ∙ h.front in
          let d : table_in s₂ ≡ set (table_in s) (home_at ws (i + 1)) w = e.table ∙ ap (λ x. set x (home_at ws (i + 1)) w) b.table in
          let q : old ≡ get_or (table_in s) (home_at ws (i + 1)) 0 = e.stood ∙ ap (λ x. get_or x (home_at ws (i + 1)) 0) b.table in
          rw (p.name, p.place, v, c, d, tw, mw, q)

      module _ (next : ℕ) (x : next ≡ kind_at ws r.token) where
        pub gathering_ends : (a : Result Parsed Unread) → next ≡ 0 → a ≡ answered (length ws) main' twice' r.word → seen_whole a s₂ ≡ written_whole (length ws) nothing (procedures ws)
        unfolding after if◌then◌otherwise◌ written_whole gather_all
        gathering_ends a z f =
            let h = was in
            rw (g.same, rest_turns ws i, h.read, ← x, z, gathered_so, f) (settles (length ws) main' twice' r.word s₂)

        pub gathering_on : (next ≡ 0 → ⊥) → length s₂ ≡ length s → Gathering ws s₀ r.token r.word main' twice' s₂
        unfolding after if◌then◌otherwise◌
        gathering_on z l =
            let h = was in
            let y = turned in
            let q : written_whole (length ws) (sofar n main twice s) (rest ws i) ≡ written_whole (length ws) (sofar r.word main' twice' s₂) (rest ws r.token) =
            rw (rest_turns ws i, h.read, ← x, ne_eqb _ _ z) (gather_more (length ws) _ h.head (rest ws r.token) ∙ ap (λ a. written_whole (length ws) a (rest ws r.token)) gathered_so) in
            record {
              same = g.same ∙ q;
              behind = y.behind;
              full = y.full;
              halves = record { few = g.halves.few; room = omega (arith, g.halves.room) };
              kept = l ∙ g.kept;
            }
