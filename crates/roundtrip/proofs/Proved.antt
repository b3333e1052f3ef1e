-- What is claimed of the text of a program, proved.
use Prim.Native.Nat.{ℕ, ◌≤◌}
use native.Mathlib.Omega.{arith}
use mathlib.Core.Path.{◌≡◌, ap, sym, ◌∙◌}
use mathlib.Core.List.{List, ◌++◌}
use lib.ListN.{length}
use Rattle.meaning.specs.Token.{tokens_of}
use Rattle.meaning.specs.Tree.{Program}
use Rattle.meaning.specs.Grammar.{well_formed, reading}
use Rattle.canonical.specs.Bare.{bare_program}
use Rattle.canonical.specs.Text.{program_text}
use Rattle.canonical.specs.Call.{text_read}
use Rattle.roundtrip.specs.Claims.{Reads, ReadsAgain, SameExactly, ItsOwnText, PassesChecking, token_count, FewestTokens, NoneNeedless, LargerText}
use Rattle.roundtrip.proofs.Bares.{same_text_lem}
use Rattle.roundtrip.proofs.Again.{known, text_of, text_few, again_read}
use Rattle.roundtrip.proofs.Checks.{passes}
use Rattle.roundtrip.proofs.Needless.{fewer}
use Rattle.roundtrip.proofs.Larger.{larger}

-- reading the text gives the tree again
pub reads_again : ReadsAgain
reads_again p m r = again_read p m (known p m r)

-- trees that one text is read as are the same
same_tree : (a b : Program) → well_formed a ≡ well_formed b → a ≡ b
same_tree a b e = cc

-- programs with one text have one tree
same_bare : (p q : List ℕ) (m n : Program) → Reads p m → Reads q n → program_text m ≡ program_text n → bare_program m ≡ bare_program n
same_bare p q m n r s e =
    let a = reads_again p m r in
    let b = reads_again q n s in
    let k = same_tree a.0 b.0 (sym a.1 ∙ ap reading e ∙ b.1) in
    sym a.2 ∙ ap bare_program k ∙ b.2

-- and programs with one tree have one text
pub same_exactly : SameExactly
same_exactly p q m n r s = (same_bare p q m n r s, same_text_lem m n)

-- the text of the text
pub its_own_text : ItsOwnText
unfolding text_read
its_own_text p m r =
    let a = reads_again p m r in
    ap text_read a.1 ∙ same_text_lem a.0 m a.2

-- the text passes checking
pub passes_checking : PassesChecking
passes_checking = passes

-- the tokens of a program that is read, and of its text
count_of : (p : List ℕ) (m : Program) → Reads p m → token_count (tokens_of (program_text m)) ≤ token_count (tokens_of p)
unfolding token_count
count_of p m r =
    let k = known p m r in
    rw ((text_of p m k).lexes, k.lexes) (text_few p m k)

-- no program with the same tree has fewer tokens
pub fewest_tokens : FewestTokens
fewest_tokens p q m n r s e = rw (← same_text_lem n m e) (count_of q n s)

-- no parenthesis is needless
pub none_needless : NoneNeedless
unfolding token_count
none_needless p m n a b c r e s same =
    let t = text_of p m (known p m r) in
    let k = known (a ++ b ++ c) n s in
    let l = fewer a b c t.tokens k.tokens (ap tokens_of (sym e) ∙ t.lexes) k.lexes in
    let f : length t.tokens ≤ length k.tokens = rw (t.lexes, k.lexes) at (fewest_tokens p (a ++ b ++ c) m n r s same) in
    omega arith

-- more memory changes no text
pub larger_text : LargerText
larger_text = larger
