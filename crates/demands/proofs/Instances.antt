-- The demands speak of something: a call that returned a picture, one for each of the language's errors and for each shortage, and refused ones.
use Prim.Native.Nat.{ℕ}
use Prim.Native.String.{String}
use mathlib.Core.Path.{◌≡◌, refl, ap, ◌∙◌}
use mathlib.Core.List.{List, [], ◌∷◌}
use lib.ListN.{replicate, length-replicate}
use lib.IntN.{pos}
use Rattle.meaning.specs.Program.{drawing}
use Rattle.meaning.specs.Book.{Answer, pictured, number}
use Rattle.meaning.specs.Call.{Call, answer}
use Rattle.meaning.proofs.Computing.{everything}
use Rattle.meaning.proofs.Readings.{main}
use Rattle.lending.specs.Lending.{grants_of, called}
use Rattle.demands.specs.Demands.{Returned}
use Rattle.demands.proofs.Proved.{not_empty}

-- a body drawn on a sheet so wide and 20 high, with these grants, token words and bytes of out slice
abbrev pub drawn_on : ℕ → ℕ → ℕ → List ℕ → String → Call
drawn_on width tokens room g body =
    called drawing (main body) (pos width) (pos 20) g (replicate tokens 0) (replicate 16384 0) (replicate 278640 0) (replicate 2 0) (replicate room 0)

pub record Instance : Type 0 where
  pub width : ℕ
  pub tokens : ℕ
  pub room : ℕ
  pub grants : List ℕ
  pub body : String
  pub expected : Answer

abbrev pub plain : List ℕ → String → Answer → Instance
plain g body a = record { width = 20; tokens = 8193; room = 200; grants = g; body = body; expected = a }

abbrev pub call_of : Instance → Call
call_of i = drawn_on i.width i.tokens i.room i.grants i.body

-- some grants
abbrev pub some : List ℕ
some = 100 ∷ 4 ∷ 1 ∷ 2 ∷ 1 ∷ []

abbrev pub table : List Instance
table =
    plain some "var a;" (pictured 141 1)
    ∷ plain some "none/0;" (number 20 14 4 0)
    ∷ plain some "var a;a=drawBox(1,2,3,4);a+destroyShape(a);" (number 30 39 12 0)
    ∷ plain some "[-1];" (number 40 14 3 0)
    ∷ plain some "foo(x);" (number 50 14 3 0)
    ∷ plain some "var w;" (number 60 14 1 0)
    ∷ plain some "true+(1/0);" (number 70 14 6 0)
    ∷ plain (100 ∷ 0 ∷ 1 ∷ 2 ∷ 1 ∷ []) "drawLine(1,2,3,4);" (number 76 14 6 0)
    ∷ plain some "var t;t=[0];t.1=1;t.2=2;" (number 77 32 12 0)
    ∷ plain (100 ∷ 4 ∷ 1 ∷ 1 ∷ 1 ∷ []) "\"a\"++\"b\";" (number 78 14 4 0)
    ∷ plain (0 ∷ 4 ∷ 1 ∷ 2 ∷ 1 ∷ []) "var a;" (number 79 14 0 0)
    ∷ plain (7 ∷ 4 ∷ 2 ∷ 2 ∷ 1 ∷ []) "w=drawGroup(drawLine(1,2,3,4));" (number 79 0 7 0)
    ∷ plain (8 ∷ 4 ∷ 2 ∷ 2 ∷ 1 ∷ []) "w=drawGroup(drawLine(1,2,3,4));" (pictured 177 8)
    ∷ record { width = 20; tokens = 8193; room = 140; grants = some; body = "var a;"; expected = number 80 0 1 141 }
    ∷ record { width = 20; tokens = 8193; room = 0; grants = some; body = "var a;"; expected = number 80 0 1 141 }
    ∷ plain some "f();}def f(){1;" (number 81 14 2 0)
    ∷ plain some "" (number 10 14 0 0)
    ∷ record { width = 20; tokens = 8192; room = 200; grants = some; body = "var a;"; expected = number 71 0 0 0 }
    ∷ record { width = 0; tokens = 8193; room = 200; grants = some; body = "var a;"; expected = number 72 0 0 0 }
    ∷ []

-- each can have returned so, and then it was answered so
abbrev pub Returns : Instance → Type 0
Returns i = (a : Answer) × (work : List (List ℕ)) × (work' : List (List ℕ)) × (out' : List ℕ) × Returned (call_of i) a work work' out' × (a ≡ i.expected)

abbrev pub AllReturn : List Instance → Type 0
AllReturn [] = Unit {0}
AllReturn (i ∷ is) = Returns i × AllReturn is

-- the same call by the lengths of its slices
abbrev by_lengths : Instance → Call
by_lengths i = record {
  operation = drawing;
  program = main i.body;
  width = pos i.width;
  height = pos 20;
  grants = grants_of i.grants;
  lent = i.tokens ∷ 16384 ∷ 278640 ∷ 2 ∷ [];
  out = replicate i.room 0;
}

same_call : (i : Instance) → call_of i ≡ by_lengths i
same_call i = rw (length-replicate {A = ℕ} i.tokens 0, length-replicate {A = ℕ} 16384 0, length-replicate {A = ℕ} 278640 0)

abbrev AllAnswered : List Instance → Type 0
AllAnswered [] = Unit {0}
AllAnswered (i ∷ is) = (answer (by_lengths i) ≡ i.expected) × AllAnswered is

all_answered : AllAnswered table
unfolding everything
all_answered = (refl, (refl, (refl, (refl, (refl, (refl, (refl, (refl, (refl, (refl, (refl, (refl, (refl, (refl, (refl, (refl, (refl, (refl, (refl, tt)))))))))))))))))))

returns : (i : Instance) → answer (by_lengths i) ≡ i.expected → Returns i
returns i e =
    let p = not_empty.drawing (main i.body) (pos i.width) (pos 20) i.grants (replicate i.tokens 0) (replicate 16384 0) (replicate 278640 0) (replicate 2 0)
    (replicate i.room 0) in
    (p.handed, p.work, p.work', p.out, p.returned, p.is ∙ ap answer (same_call i) ∙ e)

all_return : (is : List Instance) → AllAnswered is → AllReturn is
all_return [] h = tt
all_return (i ∷ is) h = (returns i h.0, all_return is h.1)

-- THE CLAIM
pub instances : AllReturn table
instances = all_return table all_answered
