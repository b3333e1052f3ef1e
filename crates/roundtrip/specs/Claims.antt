-- What is claimed of the text of a program. m and n are the trees of the programs p and q.
use Rattle.std.specs.Prelude.{ℕ, ◌≤◌, ◌≡◌, ◌≢◌, true, List, ◌++◌, length, take}
use Rattle.meaning.specs.Basics.{bytes}
use Rattle.meaning.specs.Token.{Lexed, lexed, stray, tokens_of}
use Rattle.meaning.specs.Tree.{Program}
use Rattle.meaning.specs.Grammar.{well_formed, reading}
use Rattle.meaning.specs.Program.{checking}
use Rattle.meaning.specs.Book.{pictured, number}
use Rattle.meaning.specs.Call.{Call, admitted, answer}
use Rattle.canonical.specs.Bare.{bare_program}
use Rattle.canonical.specs.Text.{program_text}
use Rattle.canonical.specs.Call.{text, text_answer, text_out}

abbrev pub Reads : List ℕ → Program → Type 0
Reads p m = reading p ≡ well_formed m

-- reading the text gives the program's tree again, without parentheses and places
abbrev pub ReadsAgain : Type 0
ReadsAgain = (p : List ℕ) (m : Program) → Reads p m → (n : Program) × Reads (program_text m) n × (bare_program n ≡ bare_program m)

-- two programs have the same text exactly if their trees are the same
abbrev pub SameExactly : Type 0
SameExactly = (p q : List ℕ) (m n : Program) → Reads p m → Reads q n →
    (program_text m ≡ program_text n → bare_program m ≡ bare_program n) × (bare_program m ≡ bare_program n → program_text m ≡ program_text n)

-- the text of the text is itself
abbrev pub ItsOwnText : Type 0
ItsOwnText = (p : List ℕ) (m : Program) → Reads p m → text (program_text m) ≡ program_text m

-- a call of checking with another program
abbrev pub asking : List ℕ → Call → Call
asking p c = record {
  operation = c.operation;
  program = p;
  width = c.width;
  height = c.height;
  grants = c.grants;
  lent = c.lent;
  out = c.out;
}

-- a text that is not too long for a program passes checking, with the same answer
abbrev pub PassesChecking : Type 0
PassesChecking = (c : Call) → c.operation ≡ checking → (l s : ℕ) → answer c ≡ pictured l s → length (text c.program) ≤ 32768 →
    answer (asking (text c.program) c) ≡ answer c

-- how many tokens a program has
unfoldable pub token_count : Lexed → ℕ
token_count (lexed ts) = length ts
token_count (stray p) = 0

-- no program with the same tree has fewer tokens than its text
abbrev pub FewestTokens : Type 0
FewestTokens = (p q : List ℕ) (m n : Program) → Reads p m → Reads q n → bare_program n ≡ bare_program m →
    token_count (tokens_of (program_text m)) ≤ token_count (tokens_of q)

-- so no parenthesis in it is needless: without any two of them it has another tree, or none
abbrev pub NoneNeedless : Type 0
NoneNeedless = (p : List ℕ) (m n : Program) (a b c : List ℕ) → Reads p m → program_text m ≡ a ++ bytes "(" ++ b ++ bytes ")" ++ c → Reads (a ++ b ++ c) n →
    bare_program n ≡ bare_program m → ⊥

-- ---- calls
-- More memory changes no text: of two calls that ask for the text of one program, get past the first question and have an out slice that is no shorter in the
-- second, the second is answered as the first, with the same text, unless that was 82.
abbrev pub LargerText : Type 0
LargerText = (c d : Call) → c.operation ≡ checking → d.operation ≡ checking → c.program ≡ d.program → admitted c ≡ true → admitted d ≡ true →
    length c.out ≤ length d.out → ((n l : ℕ) → text_answer c ≢ number 82 0 n l) →
    (text_answer d ≡ text_answer c) × ((l n : ℕ) → text_answer c ≡ pictured l n → take l (text_out d) ≡ take l (text_out c))
