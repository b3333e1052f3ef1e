-- Names by number: each has one of its own.
use Prim.Native.Nat.{ℕ, ◌<◌}
use native.Mathlib.Omega.{arith}
use mathlib.Core.Path.{◌≡◌, refl, ◌∙◌}
use mathlib.Core.Bool.{Bool, true, false}
use mathlib.Core.List.{List, [], ◌∷◌, ◌++◌}
use mathlib.Core.Option.{Option, none, some}
use lib.ListN.{get_or, length, length-append, get_or-append}
use lib.Dec.{ltb}
use lib.Seq.{get_or-append_seam}
use borrow.Author.Tests.{ltb-true, ltb-false}
use Rattle.meaning.specs.Basics.{if◌then◌otherwise◌, same_text}
use Rattle.meaning.specs.Token.{Token}
use Rattle.meaning.specs.Tree.{Procedure}
use Rattle.meaning.specs.Grammar.{reading}
use Rattle.meaning.specs.Procedure.{is_among}
use Rattle.reader.specs.Declarations.{declared_by}
use Rattle.reader.proofs.Homes.{same_text_lem}
use Rattle.numbering.specs.Numbers.{with_name, with_names, number_in, variables_in}
use Rattle.numbering.proofs.Laws.{number_front, number_last}
use Rattle.simulation.specs.Scope.{own_names, under_way, scope_of}

pub apart_text : (a b : List ℕ) → (a ≡ b → ⊥) → same_text a b ≡ false
apart_text a b n = go (same_text a b) refl
  where
    go : (t : Bool) → same_text a b ≡ t → t ≡ false
    go true e = absurd (n (same_text_lem a b e))
    go false e = refl

-- ---- each name once: its number is its place
pub record Once (names : List (List ℕ)) : Type 0 where
  pub is : (i : ℕ) → i < length names → number_in names (get_or names i []) ≡ i

once_with : (xs : List (List ℕ)) (x : List ℕ) → Once xs → Once (with_name xs x)
unfolding with_name if◌then◌otherwise◌
once_with xs x o = go (is_among x xs) refl
  where
    at : is_among x xs ≡ false → (i : ℕ) → i < length (xs ++ (x ∷ [])) → (b : Bool) → ltb i (length xs) ≡ b → number_in (xs ++ (x ∷ [])) (get_or (xs ++ (x ∷ [])) i []) ≡ i
    at e i l true q =
        let less = ltb-true i (length xs) q in
        let here = o.is i less in
        rw (get_or-append xs (x ∷ []) [] i less) (number_front xs (x ∷ []) (get_or xs i []) (rw here less) ∙ here)
    at e i l false q =
        let last : i ≡ length xs = omega (arith, ltb-false i (length xs) q, length-append xs (x ∷ [])) in
        rw (last, get_or-append_seam xs x [] []) (number_last x xs e)

    go : (b : Bool) → is_among x xs ≡ b → Once (if b then (λ _. xs) otherwise λ _. xs ++ (x ∷ []))
    go true e = o
    go false e = record { is = λ i l. at e i l (ltb i (length xs)) refl }

once_all : (xs ys : List (List ℕ)) → Once xs → Once (with_names xs ys)
unfolding with_names
once_all xs [] o = o
once_all xs (y ∷ ys) o = once_all (with_name xs y) ys (once_with xs y o)

once_none : Once []
once_none = record { is = λ i l. absurd (omega arith) }

pub own_once : (f : Option Procedure) → Once (own_names f)
unfolding own_names variables_in
own_once none = once_none
own_once (some f) = once_all [] (f.parameters ++ declared_by f.body) once_none

-- the variables of a call
pub scope_once : (program : List ℕ) (ts : List Token) (w : ℕ) → Once (scope_of program ts w)
scope_once program ts w = own_once (under_way (reading program) ts w)
