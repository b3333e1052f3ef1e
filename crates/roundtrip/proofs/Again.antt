-- The text of a program is read as the program's tree, in no more tokens than the program has.
use Prim.Native.Nat.{ℕ, ◌≤◌}
use native.Mathlib.Omega.{arith}
use mathlib.Core.Path.{◌≡◌, refl, ap, sym, ◌∙◌, subst}
use mathlib.Core.Bool.{Bool, true, false}
use mathlib.Core.List.{List, [], ◌∷◌, append-nil}
use lib.ListN.{length}
use lib.Dec.{ltb}
use borrow.Author.Tests.{ltb-false, le-ltb}
use Rattle.meaning.specs.Basics.{if◌then◌otherwise◌}
use Rattle.meaning.specs.Token.{Token, Lexed, lexed, stray, prepend, scan, tokens_of}
use Rattle.meaning.specs.Grammar.{Got, good, wrong, start_at, procedures, well_formed, malformed, read_of, parsed, reading}
use Rattle.meaning.specs.Tree.{Program}
use Rattle.canonical.specs.Bare.{bare_program}
use Rattle.canonical.specs.Text.{procedures_text, program_text}
use Rattle.roundtrip.specs.Claims.{Reads}
use Rattle.roundtrip.proofs.Words.{procedures_words}
use Rattle.roundtrip.proofs.Sound.{SoundProcedures}
use Rattle.roundtrip.proofs.Lexes.{Spell, prepend_all}
use Rattle.roundtrip.proofs.LexesTree.{lexes_procedures}
use Rattle.roundtrip.proofs.Stands.{Stands, spell_stands, spell_length}
use Rattle.roundtrip.proofs.RereadingProgram.{Shallow, AgainProgram, again_program}
use Rattle.roundtrip.proofs.Spelling.{tokens_spelt}
use Rattle.roundtrip.proofs.Yields.{yielded}
use Rattle.roundtrip.proofs.SoundTree.{FineProgram, program_fine}

-- ---- what it is to be read
pub record Known (p : List ℕ) (m : Program) : Type 0 where
  pub tokens : List Token
  pub lexes : tokens_of p ≡ lexed tokens
  pub few : length tokens ≤ 8192
  pub end : ℕ
  pub reads : procedures tokens ≡ good m end

-- a program that is read has tokens, and these are read
pub known : (p : List ℕ) (m : Program) → Reads p m → Known p m
unfolding reading parsed read_of if◌then◌otherwise◌
known p m r = by (tokens_of p) refl r
  where
    got : (ts : List Token) → tokens_of p ≡ lexed ts → length ts ≤ 8192 → (g : Got Program) → procedures ts ≡ g → read_of p ts g ≡ well_formed m → Known p m
    got ts e l (good n j) k w =
        let z : n ≡ m = cc in
        record { tokens = ts; lexes = e; few = l; end = j; reads = k ∙ ap (λ (x : Program). good x j) z }
    got ts e l (wrong n j) k w = let z : ◌≡◌ {A = ℕ} 0 1 = cc in absurd (omega arith)

    bounded : (ts : List Token) → tokens_of p ≡ lexed ts → (b : Bool) → ltb 8192 (length ts) ≡ b →
        (if b then (λ _. malformed 74 (start_at ts 8192)) otherwise λ _. read_of p ts (procedures ts)) ≡ well_formed m → Known p m
    bounded ts e true l w = let z : ◌≡◌ {A = ℕ} 0 1 = cc in absurd (omega arith)
    bounded ts e false l w = got ts e (ltb-false 8192 (length ts) l) (procedures ts) refl w

    by : (l : Lexed) → tokens_of p ≡ l → parsed p l ≡ well_formed m → Known p m
    by (stray n) e w = let z : ◌≡◌ {A = ℕ} 0 1 = cc in absurd (omega arith)
    by (lexed ts) e w = bounded ts e (ltb 8192 (length ts)) refl w

-- what is read can be written
pub fine : (p : List ℕ) (m : Program) (k : Known p m) → FineProgram k.tokens (tokens_spelt p k.tokens k.lexes) m
fine p m k = yielded (program_fine k.tokens (tokens_spelt p k.tokens k.lexes)) k.reads

-- ---- the tokens of the text
pub record TextTokens (m : Program) : Type 0 where
  pub tokens : List Token
  pub spells : Spell (procedures_words m.procedures) tokens
  pub lexes : tokens_of (program_text m) ≡ lexed tokens

-- tokens before no more tokens
all_lexed : (ts : List Token) → prepend_all ts (lexed []) ≡ lexed ts
unfolding prepend_all prepend
all_lexed [] = refl
all_lexed (t ∷ ts) = ap (prepend t) (all_lexed ts)

-- the text of a tree that can be written has tokens
text_tokens : (m : Program) → SoundProcedures m.procedures → TextTokens m
unfolding tokens_of program_text scan
text_tokens m s =
    let l = (lexes_procedures m.procedures s []).at 0 in
    record {
      tokens = l.tokens;
      spells = l.spells;
      lexes = ap (scan 0 0) (sym (append-nil (procedures_text m.procedures))) ∙ l.scanned ∙ all_lexed l.tokens;
    }

-- the tokens of the text of a program that is read
pub text_of : (p : List ℕ) (m : Program) → Known p m → TextTokens m
text_of p m k = text_tokens m (fine p m k).procedures.sound

-- no more than the program has
pub text_few : (p : List ℕ) (m : Program) (k : Known p m) → length (text_of p m k).tokens ≤ length k.tokens
text_few p m k =
    let a = (fine p m k).procedures.few in
    omega (arith, spell_length (text_of p m k).spells)

-- ---- the text read
-- the text is read where its tokens are
again_known : (m : Program) (t : TextTokens m) → length t.tokens ≤ 8192 → (a : AgainProgram t.tokens m) → Reads (program_text m) a.tree
unfolding reading parsed read_of if◌then◌otherwise◌
again_known m t l a = rw (t.lexes, le-ltb 8192 (length t.tokens) l, a.reads)

-- the text of a program that is read is read as the same tree
pub again_read : (p : List ℕ) (m : Program) → Known p m → (n : Program) × Reads (program_text m) n × (bare_program n ≡ bare_program m)
again_read p m k =
    let f = fine p m k in
    let t = text_of p m k in
    let some = f.procedures.some in
    let e = some.2 in
    let s : Stands t.tokens 0 (procedures_words m.procedures) (length t.tokens) = spell_stands t.tokens t.tokens 0 (length t.tokens) t.spells refl (omega arith) in
    let a = again_program t.tokens m some.0 some.1 e f.main (subst SoundProcedures e f.procedures.sound) (subst Shallow e f.procedures.low)
    (subst (λ fs. Stands t.tokens 0 (procedures_words fs) (length t.tokens)) e s) in
    let l = k.few in
    (a.tree, again_known m t (omega (arith, text_few p m k)) a, a.same)
