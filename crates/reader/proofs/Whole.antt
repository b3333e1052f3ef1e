-- A program that was read: its tokens, the tree that they are, and what reading leaves of it.
use Prim.Native.Nat.{ℕ, ◌≤◌}
use native.Mathlib.Omega.{arith}
use mathlib.Core.Path.{◌≡◌, refl}
use mathlib.Core.Bool.{Bool, true, false}
use mathlib.Core.List.{List, []}
use mathlib.Core.Option.{Option, none, some}
use lib.ListN.{length, take, drop, replicate}
use lib.Dec.{ltb}
use borrow.Author.Tests.{ltb-false}
use Rattle.std.specs.Prelude.{Ok}
use Rattle.meaning.specs.Basics.{bytes, if◌then◌otherwise◌}
use Rattle.meaning.specs.Token.{Token, Lexed, lexed, stray, tokens_of}
use Rattle.meaning.specs.Tree.{Program}
use Rattle.meaning.specs.Grammar.{Got, good, wrong, Reading, well_formed, malformed, read_of, parsed, reading, procedures}
use Rattle.meaning.specs.Procedure.{doubled}
use Rattle.code.specs.Code.{code_of_procedures, tabled, head_named}
use Rattle.reader.specs.declared.Program as Declared
use Rattle.reader.specs.Reading.{tokens_among, tokens_in, formed, refused, seen, coded_apart, coded}
use Rattle.reader.proofs.Walk.{Stands, stands_taken, stands_behind}

-- its tokens, at most 8,192, are those of some procedures
pub record Read (program : List ℕ) (ts : List Token) (m : Program) : Type 0 where
  pub is : reading program ≡ well_formed m
  pub tokens : tokens_of program ≡ lexed ts
  pub few : length ts ≤ 8192
  pub behind : ℕ
  pub tree : procedures ts ≡ good m behind

formed_not : {n p : ℕ} {m : Program} {A : Type 0} → malformed n p ≡ well_formed m → A
formed_not e = let z : ◌≡◌ {A = ℕ} 0 1 = cc in absurd (omega arith)

pub was_read : (program : List ℕ) (m : Program) → reading program ≡ well_formed m → Read program (tokens_in program) m
unfolding reading parsed tokens_among if◌then◌otherwise◌ read_of
was_read program m is = go (tokens_of program) refl is
  where
    tree : (ts : List Token) (x : Got Program) → procedures ts ≡ x → read_of program ts x ≡ well_formed m → (j : ℕ) × (x ≡ good m j)
    tree ts (good a j) q e = (j, let w : a ≡ m = cc in rw w)
    tree ts (wrong n i) q e = formed_not e

    go : (l : Lexed) → tokens_of program ≡ l → parsed program l ≡ well_formed m → Read program (tokens_among l) m
    go (stray p) q e = formed_not e
    go (lexed ts) q e = by (ltb 8192 (length ts)) refl
      where
        by : (b : Bool) → ltb 8192 (length ts) ≡ b → Read program ts m
        by true w = formed_not (rw w at e)
        by false w =
            let t = tree ts (procedures ts) refl (rw w at e) in
            record { is = is; tokens = q; few = ltb-false _ _ w; behind = t.0; tree = t.1 }

-- what reading leaves of a program: main's word, the code and the table, where no name stands twice
pub record Whole (program code : List ℕ) (d : ℕ) (m : Program) : Type 0 where
  pub read : Read program (tokens_in program) m
  pub different : doubled [] m.procedures ≡ none
  pub main : d ≡ head_named 0 m.procedures (tokens_in program) (bytes "main")
  pub stands : Stands code 0 (code_of_procedures m.procedures (tokens_in program))
  pub table : Stands code 8192 (tabled 0 m.procedures (tokens_in program) (replicate 8192 0))

same_formed : {d d' : ℕ} {c c' t t' : List ℕ} → formed d c t ≡ formed d' c' t' → (d ≡ d') × (c ≡ c') × (t ≡ t')
same_formed e = (cc, cc, cc)

-- a program that was read was not refused
pub formed_refused : {d k p : ℕ} {c t : List ℕ} {A : Type 0} → formed d c t ≡ refused k p → A
formed_refused e = let z : ◌≡◌ {A = ℕ} 0 1 = cc in absurd (omega arith)

pub whole : (program code : List ℕ) (p : Declared.Program) → seen (Ok p) code ≡ coded (tokens_in program) (reading program) → (m : Program) × Whole program code p.main m
unfolding seen coded coded_apart
whole program code p left = go (reading program) refl left
  where
    by_name : (m : Program) → reading program ≡ well_formed m → (o : Option ℕ) → doubled [] m.procedures ≡ o
        → formed p.main (take p.words code) (take 8192 (drop 8192 code)) ≡ coded_apart (tokens_in program) m.procedures o → Whole program code p.main m
    by_name m q none a h =
        let c = same_formed h in
        record {
          read = was_read program m q;
          different = a;
          main = c.0;
          stands = stands_taken p.words code _ c.1;
          table = stands_behind 8192 8192 code _ c.2;
        }
    by_name m q (some z) a h = formed_refused h

    go : (r : Reading) → reading program ≡ r → seen (Ok p) code ≡ coded (tokens_in program) r → (m : Program) × Whole program code p.main m
    go (well_formed m) q h = (m, by_name m q (doubled [] m.procedures) refl h)
    go (malformed i z) q h = formed_refused h
