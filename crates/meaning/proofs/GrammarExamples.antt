-- Examples of the grammar: a tree, or the index of the first token that fails, for each form, and the places of programs that cannot be read.
use Prim.Native.Nat.{ℕ}
use Prim.Native.String.{String}
use mathlib.Core.Path.{◌≡◌, refl}
use mathlib.Core.Bool.{true, false}
use mathlib.Core.List.{List, [], ◌∷◌, ◌++◌}
use lib.ListN.{replicate}
use lib.IntN.{pos}
use Rattle.meaning.specs.Basics.{bytes}
use Rattle.meaning.specs.Token.{Token, Lexed, lexed, stray, tokens_of}
use Rattle.meaning.specs.Tree.{concatenate, add, subtract, multiply, divide, remainder, shift_right, shift_left, equal, unequal, greater, less, Operator, Expression, number, string, nothing}
use Rattle.meaning.specs.Tree.{truth, name, table, entry, operation, call, paren, no_argument, argument, Statement, declare, assign, update, when, while, foreach, return, block, act, only}
use Rattle.meaning.specs.Tree.{first, Procedure}
use Rattle.meaning.specs.Grammar.{kind_at, text_at, start_at, Got, good, wrong, arguments_from, expression, statements_from}
use Rattle.meaning.specs.Grammar.{statement, parameters_from, procedures_from, Reading, well_formed, malformed, reading}
use Rattle.meaning.proofs.Computing.{everything}
use Rattle.meaning.proofs.Rows.{Row, ◌gives◌, Hold, minus}

tokens_in : Lexed → List Token
tokens_in (lexed ts) = ts
tokens_in (stray p) = []

abbrev named : String → Expression
named x = name (bytes x)

-- ---- expressions
-- with so many levels left
unfoldable pub expression_of : ℕ → String → Got Expression
unfolding tokens_in
expression_of left e = expression left (tokens_in (tokens_of (bytes e))) 0

abbrev both : Operator → Got Expression
both o = good (operation o (named "a") (named "b")) 3

abbrev pub expressions : List (Row String (Got Expression))
expressions =
    "a" gives good (named "a") 1
    ∷ "42" gives good (number (pos 42)) 1
    ∷ "007" gives good (number (pos 7)) 1
    ∷ "2147483647" gives good (number (pos 2147483647)) 1
    ∷ "2147483648" gives wrong 10 0
    ∷ "-2147483648" gives good (number (minus 2147483648)) 2
    ∷ "-2147483649" gives wrong 10 1
    ∷ "- 1" gives wrong 10 0
    ∷ "-a" gives wrong 10 0
    ∷ "\"day\"" gives good (string (bytes "day")) 1
    ∷ "none" gives good nothing 1
    ∷ "true" gives good (truth true) 1
    ∷ "false" gives good (truth false) 1
    ∷ "(a)" gives good (paren (named "a")) 3
    ∷ "[a]" gives good (table (named "a")) 3
    ∷ "a.b" gives good (entry (named "a") (named "b")) 3
    ∷ "a.b.c" gives good (entry (named "a") (named "b")) 3
    ∷ "f()" gives good (call (bytes "f") no_argument) 3
    ∷ "f(a)" gives good (call (bytes "f") (argument (named "a") no_argument)) 4
    ∷ "f(a,b)" gives good (call (bytes "f") (argument (named "a") (argument (named "b") no_argument))) 6
    ∷ "a++b" gives both concatenate
    ∷ "a+b" gives both add
    ∷ "a-b" gives both subtract
    ∷ "a*b" gives both multiply
    ∷ "a/b" gives both divide
    ∷ "a%b" gives both remainder
    ∷ "a>>b" gives both shift_right
    ∷ "a<<b" gives both shift_left
    ∷ "a==b" gives both equal
    ∷ "a!=b" gives both unequal
    ∷ "a>b" gives both greater
    ∷ "a<b" gives both less
    ∷ "a+b+c" gives both add
    ∷ "1-1" gives good (operation subtract (number (pos 1)) (number (pos 1))) 3
    ∷ "1--1" gives good (operation subtract (number (pos 1)) (number (minus 1))) 4
    ∷ "a.b+c.d" gives good (operation add (entry (named "a") (named "b")) (entry (named "c") (named "d"))) 7
    ∷ "" gives wrong 10 0
    ∷ "if" gives wrong 10 0
    ∷ "+" gives wrong 10 0
    ∷ "a+" gives wrong 10 2
    ∷ "a." gives wrong 10 2
    ∷ "a.+" gives wrong 10 2
    ∷ "(a" gives wrong 10 2
    ∷ "(a]" gives wrong 10 2
    ∷ "()" gives wrong 10 1
    ∷ "[a)" gives wrong 10 2
    ∷ "[]" gives wrong 10 1
    ∷ "f(" gives wrong 10 2
    ∷ "f(a" gives wrong 10 3
    ∷ "f(a b" gives wrong 10 3
    ∷ "f(a," gives wrong 10 4
    ∷ "f(a,)" gives wrong 10 4
    ∷ "f(,)" gives wrong 10 2
    ∷ []

pub expressions_hold : Hold (expression_of 64) expressions
unfolding everything expression_of
expressions_hold = refl

-- where no level is left, and where one is
abbrev pub no_levels : List (Row String (Got Expression))
no_levels =
    "f" gives good (named "f") 1
    ∷ "(a)" gives wrong 75 0
    ∷ "[a]" gives wrong 75 0
    ∷ "f()" gives wrong 75 1
    ∷ "a+(b)" gives wrong 75 2
    ∷ "a.[b]" gives wrong 75 2
    ∷ []

pub no_levels_hold : Hold (expression_of 0) no_levels
unfolding everything expression_of
no_levels_hold = refl

abbrev pub one_level : List (Row String (Got Expression))
one_level =
    "(a)+(b)" gives good (operation add (paren (named "a")) (paren (named "b"))) 7
    ∷ "f().[b]" gives good (entry (call (bytes "f") no_argument) (table (named "b"))) 7
    ∷ "((a))" gives wrong 75 1
    ∷ "[(a)]" gives wrong 75 1
    ∷ "f(a,(b))" gives wrong 75 4
    ∷ "(f(a))" gives wrong 75 2
    ∷ []

pub one_level_holds : Hold (expression_of 1) one_level
unfolding everything expression_of
one_level_holds = refl

-- ---- statements
unfoldable pub statement_of : ℕ → String → Got Statement
unfolding tokens_in
statement_of left s = statement left (tokens_in (tokens_of (bytes s))) 0

abbrev pub statements : List (Row String (Got Statement))
statements =
    "var a;" gives good (declare 0 (bytes "a")) 3
    ∷ "  var a;" gives good (declare 2 (bytes "a")) 3
    ∷ "var 1;" gives wrong 10 1
    ∷ "var if;" gives wrong 10 1
    ∷ "var a" gives wrong 10 2
    ∷ "var a=1;" gives wrong 10 2
    ∷ " a=b;" gives good (assign 1 (bytes "a") (named "b")) 4
    ∷ " a.b=c;" gives good (update 1 (named "a") (named "b") (named "c")) 6
    ∷ " a;" gives good (act 1 (named "a")) 2
    ∷ "a.b;" gives good (act 0 (entry (named "a") (named "b"))) 4
    ∷ "a" gives wrong 10 1
    ∷ "a b;" gives wrong 10 1
    ∷ "a=b" gives wrong 10 3
    ∷ "a=;" gives wrong 10 2
    ∷ "a.b=c" gives wrong 10 5
    ∷ "1=a;" gives wrong 10 1
    ∷ "\"a\"=a;" gives wrong 10 1
    ∷ "none=a;" gives wrong 10 1
    ∷ "true=a;" gives wrong 10 1
    ∷ "[a]=a;" gives wrong 10 3
    ∷ "a+b=a;" gives wrong 10 3
    ∷ "f()=a;" gives wrong 10 3
    ∷ "(a)=a;" gives wrong 10 3
    ∷ " return a;" gives good (return 1 (named "a")) 3
    ∷ "return;" gives wrong 10 1
    ∷ "return a" gives wrong 10 2
    ∷ " if(a)b;" gives good (when 1 (named "a") (act 6 (named "b"))) 6
    ∷ " while(a)b;" gives good (while 1 (named "a") (act 9 (named "b"))) 6
    ∷ "if a;" gives wrong 10 1
    ∷ "if(a b" gives wrong 10 3
    ∷ "if(a)" gives wrong 10 4
    ∷ "while()b;" gives wrong 10 2
    ∷ " {a;}" gives good (block 1 (only (act 2 (named "a")))) 4
    ∷ "{a; b;}" gives good (block 0 (first (act 1 (named "a")) (only (act 4 (named "b"))))) 6
    ∷ "{}" gives wrong 10 1
    ∷ "{a;" gives wrong 10 3
    ∷ "{a}" gives wrong 10 2
    ∷ "if(a)if(b)c;" gives good (when 0 (named "a") (when 5 (named "b") (act 10 (named "c")))) 10
    ∷ " foreach x in g do a;" gives good (foreach 1 (bytes "x") (named "g") (act 19 (named "a"))) 7
    ∷ "foreach x in-1 do 1;" gives good (foreach 0 (bytes "x") (number (minus 1)) (act 18 (number (pos 1)))) 8
    ∷ "foreach x in a.b do{c;}" gives good (foreach 0 (bytes "x") (entry (named "a") (named "b")) (block 19 (only (act 20 (named "c"))))) 11
    ∷ "foreach x in a do foreach y in b do c;" gives
    good (foreach 0 (bytes "x") (named "a") (foreach 18 (bytes "y") (named "b") (act 36 (named "c")))) 12
    ∷ "foreach 1 in a do b;" gives wrong 10 1
    ∷ "foreach in in a do b;" gives wrong 10 1
    ∷ "foreach(x)in a do b;" gives wrong 10 1
    ∷ "foreach x a do b;" gives wrong 10 2
    ∷ "foreach x=a;" gives wrong 10 2
    ∷ "foreach x in do b;" gives wrong 10 3
    ∷ "foreach x in a b;" gives wrong 10 4
    ∷ "foreach x in a=b do c;" gives wrong 10 4
    ∷ "foreach x in a do" gives wrong 10 5
    ∷ "foreach x in a do }" gives wrong 10 5
    ∷ "foreach x in a do b" gives wrong 10 6
    ∷ "foreach=1;" gives wrong 10 1
    ∷ "var in;" gives wrong 10 1
    ∷ "in=1;" gives wrong 10 0
    ∷ "do;" gives wrong 10 0
    ∷ []

pub statements_hold : Hold (statement_of 64) statements
unfolding everything statement_of
statements_hold = refl

abbrev pub levels : List (Row (Got Statement) (Got Statement))
levels =
    statement_of 0 "a=b;" gives good (assign 0 (bytes "a") (named "b")) 4
    ∷ statement_of 0 "{a;}" gives wrong 75 0
    ∷ statement_of 0 "if(a)b;" gives wrong 75 1
    ∷ statement_of 0 "while(a)b;" gives wrong 75 1
    ∷ statement_of 0 "a=(b);" gives wrong 75 2
    ∷ statement_of 0 "a.b=(b);" gives wrong 75 4
    ∷ statement_of 0 "return (a);" gives wrong 75 1
    ∷ statement_of 1 "return (a);" gives good (return 0 (paren (named "a"))) 5
    ∷ statement_of 1 "if(a)b;" gives good (when 0 (named "a") (act 5 (named "b"))) 6
    ∷ statement_of 1 "if((a))b;" gives wrong 75 2
    ∷ statement_of 1 "if(a){b;}" gives wrong 75 4
    ∷ statement_of 1 "if(a)(b);" gives wrong 75 4
    ∷ statement_of 1 "{{a;}}" gives wrong 75 1
    ∷ statement_of 1 "{(a);}" gives wrong 75 1
    ∷ statement_of 2 "if(a){b;}" gives good (when 0 (named "a") (block 5 (only (act 6 (named "b"))))) 8
    ∷ statement_of 0 "foreach x in(a)do b;" gives wrong 75 3
    ∷ statement_of 1 "foreach x in(a)do b;" gives good (foreach 0 (bytes "x") (paren (named "a")) (act 18 (named "b"))) 9
    ∷ statement_of 1 "foreach x in((a))do b;" gives wrong 75 4
    ∷ statement_of 1 "foreach x in a do{b;}" gives wrong 75 5
    ∷ statement_of 1 "foreach x in a do(b);" gives wrong 75 5
    ∷ statement_of 1 "foreach x in a do foreach y in b do c;" gives wrong 75 10
    ∷ statement_of 2 "foreach x in a do if(b)c;" gives good (foreach 0 (bytes "x") (named "a") (when 18 (named "b") (act 23 (named "c")))) 11
    ∷ []

pub levels_hold : Hold (λ g. g) levels
unfolding everything statement_of
levels_hold = refl

unfoldable pub body_of : String → Got Statement
unfolding tokens_in
body_of body = statement 0 (tokens_in (tokens_of (bytes "foreach x in a do " ++ bytes body))) 0

-- The body of a foreach where no level is left: 75 at its first token if a statement can begin with that, else 10.
abbrev pub bodies : List (Row String (Got Statement))
bodies =
    "1;" gives wrong 75 5
    ∷ "2147483647;" gives wrong 75 5
    ∷ "-1;" gives wrong 75 5
    ∷ "-2147483649;" gives wrong 75 5
    ∷ "\"a\";" gives wrong 75 5
    ∷ "none;" gives wrong 75 5
    ∷ "true;" gives wrong 75 5
    ∷ "false;" gives wrong 75 5
    ∷ "a;" gives wrong 75 5
    ∷ "(a);" gives wrong 75 5
    ∷ "[a];" gives wrong 75 5
    ∷ "var a;" gives wrong 75 5
    ∷ "if(a)b;" gives wrong 75 5
    ∷ "while(a)b;" gives wrong 75 5
    ∷ "foreach y in a do b;" gives wrong 75 5
    ∷ "return a;" gives wrong 75 5
    ∷ "{a;}" gives wrong 75 5
    ∷ "" gives wrong 10 5
    ∷ "2147483648;" gives wrong 10 5
    ∷ "- 1;" gives wrong 10 5
    ∷ "-a;" gives wrong 10 5
    ∷ "def" gives wrong 10 5
    ∷ "in" gives wrong 10 5
    ∷ "do" gives wrong 10 5
    ∷ ";" gives wrong 10 5
    ∷ ")" gives wrong 10 5
    ∷ "]" gives wrong 10 5
    ∷ "}" gives wrong 10 5
    ∷ "+" gives wrong 10 5
    ∷ "==" gives wrong 10 5
    ∷ "=" gives wrong 10 5
    ∷ "." gives wrong 10 5
    ∷ "," gives wrong 10 5
    ∷ []

pub bodies_hold : Hold body_of bodies
unfolding everything body_of
bodies_hold = refl

-- where no round is left, and behind the last token
pub no_rounds : (i : ℕ) →
    (arguments_from 0 (expression 1 []) [] i ≡ wrong 10 i) × (statements_from 0 (statement 1 []) [] i ≡ wrong 10 i)
    × (parameters_from 0 [] i ≡ wrong 10 i) × (procedures_from 0 [] i ≡ wrong 10 i)
unfolding arguments_from statements_from parameters_from procedures_from
no_rounds i = (refl, refl, refl, refl)

pub behind_last : (kind_at [] 0 ≡ 0) × (start_at [] 0 ≡ 0) × (text_at [] 0 ≡ [])
behind_last = (refl, refl, refl)

-- ---- programs
-- one procedure, main
abbrev main_alone : Procedure → Reading
main_alone f = well_formed (record { procedures = f ∷ []; main = f })

abbrev pub programs : List (Row (List ℕ) Reading)
programs =
    bytes "def main(w,h){w;}" gives main_alone (record { place = 0; name = bytes "main"; parameters = bytes "w" ∷ bytes "h" ∷ []; body = only (act 14 (named "w")) })
    ∷ bytes " def main(){w;h;} " gives main_alone (record { place = 1; name = bytes "main"; parameters = []; body = first (act 12 (named "w")) (only (act 14 (named "h"))) })
    ∷ bytes "def main(a){1;}" gives main_alone (record { place = 0; name = bytes "main"; parameters = bytes "a" ∷ []; body = only (act 12 (number (pos 1))) })
    ∷ [] gives malformed 10 0
    ∷ bytes "main(w,h){w;}" gives malformed 10 0
    ∷ bytes "def" gives malformed 10 3
    ∷ bytes "def foo(w,h){w;}" gives malformed 10 16
    ∷ bytes "def \"main\"(w,h){w;}" gives malformed 10 4
    ∷ bytes "def main w" gives malformed 10 9
    ∷ bytes "def main(1){w;}" gives malformed 10 9
    ∷ bytes "def main(w" gives malformed 10 10
    ∷ bytes "def main(w h){w;}" gives malformed 10 11
    ∷ bytes "def main(w,){w;}" gives malformed 10 11
    ∷ bytes "def main(,w){w;}" gives malformed 10 9
    ∷ bytes "def main(w,h) w;" gives malformed 10 14
    ∷ bytes "def main(w,h){}" gives malformed 10 14
    ∷ bytes "def main(w,h){w; " gives malformed 10 17
    ∷ bytes "def main(w,h){w;} w" gives malformed 10 18
    ∷ bytes "def main(w,h){w;} #" gives malformed 10 18
    ∷ bytes ") #" gives malformed 10 2
    ∷ bytes "def main(w,h){-2147483649;}" gives malformed 10 15
    ∷ (bytes "def main(w,h){" ++ replicate 63 123 ++ bytes "(1)}") gives malformed 10 80
    ∷ (bytes "def main(w,h){ " ++ replicate 64 123 ++ bytes "(1);" ++ replicate 65 125) gives malformed 75 79
    ∷ []

pub programs_hold : Hold reading programs
unfolding everything
programs_hold = refl

-- ---- several procedures
-- with this place, name and parameters, and `1;` at a place
abbrev a_procedure : ℕ → String → List (List ℕ) → ℕ → Procedure
a_procedure p f xs q = record { place = p; name = bytes f; parameters = xs; body = only (act q (number (pos 1))) }

abbrev tree : List Procedure → Procedure → Reading
tree fs m = well_formed (record { procedures = fs; main = m })

abbrev pub several : List (Row String Reading)
several =
    "def f(){1;} def main(){1;}" gives tree (a_procedure 0 "f" [] 8 ∷ a_procedure 12 "main" [] 23 ∷ []) (a_procedure 12 "main" [] 23)
    ∷ "def main(){1;}def f(a){1;}" gives tree (a_procedure 0 "main" [] 11 ∷ a_procedure 14 "f" (bytes "a" ∷ []) 23 ∷ []) (a_procedure 0 "main" [] 11)
    ∷ "def f(){1;}def main(){1;}def f(){1;}" gives
    tree (a_procedure 0 "f" [] 8 ∷ a_procedure 11 "main" [] 22 ∷ a_procedure 25 "f" [] 33 ∷ []) (a_procedure 11 "main" [] 22)
    ∷ "def main(){1;}def main(a){1;}" gives tree (a_procedure 0 "main" [] 11 ∷ a_procedure 14 "main" (bytes "a" ∷ []) 26 ∷ []) (a_procedure 0 "main" [] 11)
    ∷ "def f(a,a){1;}def main(){1;}" gives tree (a_procedure 0 "f" (bytes "a" ∷ bytes "a" ∷ []) 11 ∷ a_procedure 14 "main" [] 25 ∷ []) (a_procedure 14 "main" [] 25)
    ∷ "def f(){1;}" gives malformed 10 11
    ∷ "def f(){1;} " gives malformed 10 12
    ∷ "def mains(){1;}" gives malformed 10 15
    ∷ "def f(){1;}def g(){1;}" gives malformed 10 22
    ∷ "def f(){1;}def g(){}" gives malformed 10 19
    ∷ "def f(){1;}def 1(){1;}" gives malformed 10 15
    ∷ "def f(){1;}def" gives malformed 10 14
    ∷ "def f(){1;}main(){1;}" gives malformed 10 11
    ∷ "def main(){1;}1;" gives malformed 10 14
    ∷ "def main(){1;}}" gives malformed 10 14
    ∷ "def main(){def f(){1;}}" gives malformed 10 11
    ∷ []

pub several_hold : Hold (λ program. reading (bytes program)) several
unfolding everything
several_hold = refl
