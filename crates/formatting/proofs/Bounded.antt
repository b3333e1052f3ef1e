-- A text is far shorter than a usize can count: each word of code stands for at most 40,000 bytes of it, and a procedure's name for one word more.
use Prim.Native.Nat.{ℕ, ◌+◌, ◌-◌, ◌*◌, ◌≤◌, ◌<◌, ◌^◌}
use mathlib.Core.Path.{◌≡◌, refl, sym, ◌∙◌}
use mathlib.Core.Bool.{Bool, true, false, ◌||◌, cond}
use mathlib.Core.List.{List, [], ◌∷◌, ◌++◌, map}
use native.Mathlib.Omega.{arith}
use lib.ListN.{length, get_or, length-append, length-map}
use mir.Syntax.{w32}
use lib.IntN.{ℤ}
use mir.Val.{SFits}
use Rattle.meaning.specs.Basics.{bytes}
use Rattle.meaning.specs.Byte.{is_name_part}
use Rattle.meaning.specs.Token.{Token, a_name, a_string}
use Rattle.meaning.specs.Tree.{Operator, concatenate, add, subtract, multiply, divide, remainder, shift_right, shift_left, equal, unequal, greater, less}
use Rattle.meaning.specs.Tree.{Expression, number, string, nothing, truth, name, table, entry, operation, call, paren, Arguments, no_argument, argument, Statement}
use Rattle.meaning.specs.Tree.{declare, assign, update, when, while, foreach, return, block, act, Statements, only, first, Procedure, Program}
use Rattle.meaning.specs.Grammar.{text_at}
use Rattle.meaning.specs.Integer.{wrap, bits}
use Rattle.meaning.specs.Picture.{decimal}
use Rattle.meaning.proofs.IntegerLaws.{wrap_range}
use Rattle.writing.proofs.Decimals.{decimal_short}
use Rattle.canonical.specs.Text.{comma_separated, operator_text, is_operation, is_entry, enclosed_if, expression_text, argument_texts, apart}
use Rattle.canonical.specs.Text.{between, statement_text, statements_text, procedure_text, procedures_text, program_text}
use Rattle.code.specs.Code.{code_of, code_of_all, code_of_statement, code_of_statements, slot_of, code_of_procedure, code_of_procedures, arguments_with, code_with, statement_with, statements_with}
use Rattle.reader.proofs.Homes.{Occurs}
use Rattle.reader.proofs.Known.{Known, KnownAll, KnownStatement, KnownStatements, KnownNames}
use Rattle.reader.proofs.Trees.{Understood, UnderstoodAll, UnderstoodWhole, procedures_understood}
use Rattle.reader.specs.Reading.{tokens_in}
use Rattle.reader.proofs.Lexing.{lexed_sane}
use Rattle.reader.proofs.Whole.{Read}
use Rattle.canonical.specs.Call.{text, text_read}

-- ---- small parts
operator_short : (o : Operator) → length (operator_text o) ≤ 2
unfolding operator_text
operator_short concatenate = omega arith
operator_short add = omega arith
operator_short subtract = omega arith
operator_short multiply = omega arith
operator_short divide = omega arith
operator_short remainder = omega arith
operator_short shift_right = omega arith
operator_short shift_left = omega arith
operator_short equal = omega arith
operator_short unequal = omega arith
operator_short greater = omega arith
operator_short less = omega arith

enclosed_short : (b : Bool) (t : List ℕ) → length (enclosed_if b t) ≤ length t + 2
unfolding enclosed_if
enclosed_short true t = simp length-append (omega arith)
enclosed_short false t = omega arith

apart_short : (t : List ℕ) → length (apart t) ≤ length t + 1
unfolding apart
apart_short t = go (is_name_part (get_or t 0 0))
  where
    go : (b : Bool) → length (cond b (bytes " " ++ t) t) ≤ length t + 1
    go true = omega arith
    go false = omega arith

between_short : (t : List ℕ) → length (between t) ≤ length t + 2
unfolding between
between_short t = go (is_name_part (get_or t (length t - 1) 0))
  where
    go : (b : Bool) → length (apart (cond b (t ++ bytes " ") t)) ≤ length t + 2
    go true = omega (arith, apart_short (t ++ bytes " "), length-append t (bytes " "))
    go false = omega (arith, apart_short t)

truth_short : (b : Bool) → length (cond b (bytes "true") (bytes "false")) ≤ 5
truth_short true = omega arith
truth_short false = omega arith

separated_short : (t : List ℕ) (us : List (List ℕ)) → length (comma_separated (t ∷ us)) ≤ length t + 1 + length (comma_separated us)
unfolding comma_separated
separated_short t [] = omega arith
separated_short t (u ∷ us) = simp length-append (omega arith)

module _ (ts : List Token) (texts : (i : ℕ) → length (text_at ts i) ≤ 32768) where
  name_short : (k : ℕ) (x : List ℕ) → Occurs ts k x → length x ≤ 32768
  name_short k x o = rw (sym o.text) (texts o.index)

  number_short : (z : ℤ) → wrap z ≡ z → length (decimal z) ≤ 11
  number_short z e = decimal_short z (record { sfits = rw e at (wrap_range z) })

  -- ---- expressions
  mutual
    unfolding expression_text argument_texts code_with arguments_with Known KnownAll comma_separated

    expression_short : (e : Expression) → Known e ts → length (expression_text e) ≤ 40000 * length (code_of e ts)
    expression_short (number z) k = omega (arith, number_short z k)
    expression_short (string t) k = simp length-append (omega (arith, name_short a_string t k))
    expression_short nothing k = omega arith
    expression_short (truth b) k = omega (arith, truth_short b)
    expression_short (name x) k = omega (arith, name_short a_name x k)
    expression_short (table e) k = simp length-append (omega (arith, expression_short e k))
    expression_short (entry a b) k =
        simp length-append (omega (
          arith,
          expression_short a k.0,
          expression_short b k.1,
          enclosed_short (is_operation a || is_entry a) (expression_text a),
          enclosed_short (is_operation b || is_entry b) (expression_text b),
        ))
    expression_short (operation o a b) k =
        simp length-append (omega (
          arith,
          expression_short a k.0,
          expression_short b k.1,
          operator_short o,
          enclosed_short (is_operation a) (expression_text a),
          enclosed_short (is_operation b) (expression_text b),
        ))
    expression_short (call f es) k = simp length-append (omega (arith, name_short a_name f k.0, arguments_short es k.1))
    expression_short (paren e) k = expression_short e k

    arguments_short : (es : Arguments) → KnownAll es ts → length (comma_separated (argument_texts es)) ≤ 40000 * length (code_of_all es ts)
    arguments_short no_argument k = omega arith
    arguments_short (argument e es) k =
        simp length-append (omega (arith, expression_short e k.0, arguments_short es k.1, separated_short (expression_text e) (argument_texts es)))

  -- ---- statements
  -- one byte to spare
  mutual
    unfolding expression_text statement_text statements_text statement_with statements_with KnownStatement KnownStatements

    statement_short : (s : Statement) → KnownStatement s ts → length (statement_text s) + 1 ≤ 40000 * length (code_of_statement s ts)
    statement_short (declare p x) k = simp length-append (omega (arith, name_short a_name x k.1, apart_short x))
    statement_short (assign p x e) k = simp length-append (omega (arith, name_short a_name x k.1, expression_short e k.2))
    statement_short (update p a b e) k =
        simp length-append (omega (
          arith,
          expression_short a k.1,
          expression_short b k.2,
          expression_short e k.3,
          enclosed_short (is_operation a || is_entry a) (expression_text a),
          enclosed_short (is_operation b || is_entry b) (expression_text b),
        ))
    statement_short (when p e s) k = simp length-append (omega (arith, expression_short e k.1, statement_short s k.2))
    statement_short (while p e s) k = simp length-append (omega (arith, expression_short e k.1, statement_short s k.2))
    statement_short (foreach p x e s) k =
        simp length-append (omega (
          arith,
          name_short a_name x k.1,
          apart_short x,
          expression_short e k.2,
          between_short (expression_text e),
          statement_short s k.3,
        ))
    statement_short (return p e) k = simp length-append (omega (arith, expression_short e k.1, apart_short (expression_text e)))
    statement_short (block p ss) k = simp length-append (omega (arith, statements_short ss k.1))
    statement_short (act p e) k = simp length-append (omega (arith, expression_short e k.1))

    statements_short : (ss : Statements) → KnownStatements ss ts → length (statements_text ss) + 1 ≤ 40000 * length (code_of_statements ss ts)
    statements_short (only s) k = statement_short s k
    statements_short (first s ss) k = simp length-append (omega (arith, statement_short s k.0, statements_short ss k.1))

  -- ---- procedures
  names_short : (xs : List (List ℕ)) → KnownNames xs ts → length (comma_separated xs) ≤ 40000 * length xs
  unfolding comma_separated KnownNames
  names_short [] k = omega arith
  names_short (x ∷ xs) k = omega (arith, name_short a_name x k.0, names_short xs k.1, separated_short x xs)

  -- its name is paid for by the first word of its body
  procedure_short : (f : Procedure) → Understood ts f → length (procedure_text f) + 1 ≤ 80000 * length (code_of_procedure f ts)
  unfolding procedure_text code_of_procedure
  procedure_short f u =
      simp length-append (omega (
        arith,
        name_short a_name f.name u.name,
        apart_short f.name,
        names_short f.parameters u.parameters,
        statements_short f.body u.body,
        length-map f.parameters (slot_of ts),
      ))

  procedures_short : (fs : List Procedure) → UnderstoodAll ts fs → length (procedures_text fs) ≤ 80000 * length (code_of_procedures fs ts)
  unfolding procedures_text code_of_procedures UnderstoodAll
  procedures_short [] u = omega arith
  procedures_short (f ∷ fs) u = simp length-append (omega (arith, procedure_short f u.0, procedures_short fs u.1))

  text_short : (m : Program) → length ts ≤ 8192 → UnderstoodWhole ts m → length (program_text m) < 2 ^ 64
  unfolding program_text
  text_short m few u = omega (arith, procedures_short m.procedures u.each, u.short)

-- THE LAW
pub text_bounded : (program : List ℕ) (m : Program) → length program ≤ 32768 → Read program (tokens_in program) m → length (text program) < 2 ^ 64
unfolding text_read
text_bounded program m short r =
    let sane = lexed_sane program (tokens_in program) short r.tokens r.few in
    rw r.is (text_short (tokens_in program) sane.texts m r.few (procedures_understood (tokens_in program) m r.behind r.tree))
