-- `lexer::front::token_at` meets its contract: by the class of the first byte.
-- Assumes nothing.
use mathlib.Core.Path.{◌∙◌, sym, ap}
use native.Mathlib.Omega.{arith}
use Rattle.lexer.specs.Lexing.{front_word}
use Rattle.lexer.proofs.Classes.{sign_low}
use Rattle.lexer.proofs.Fronts.{front_2, front_3, front_4, front_5, front_none}
use Rattle.lexer.proofs.front.token_at.Goals as goal

pub sign_at-requires : goal.sign_at-requires
sign_at-requires c = let l = sign_low _ (sym c.class_of-c.ensures ∙ c.in-5.is) in omega arith

pub returns-in-2 : goal.returns-in-2
returns-in-2 c = c.name_at.ensures ∙ ap (front_word c.args.at)
    (sym (front_2 c.args.program.now c.args.at c.requires.at_in_bounds.0
    (sym c.class_of-c.ensures ∙ c.in-2.is)))

pub returns-in-3 : goal.returns-in-3
returns-in-3 c = c.digits_at.ensures ∙ ap (front_word c.args.at)
    (sym (front_3 c.args.program.now c.args.at c.requires.at_in_bounds.0
    (sym c.class_of-c.ensures ∙ c.in-3.is)))

pub returns-in-4 : goal.returns-in-4
returns-in-4 c = c.string_at.ensures ∙ ap (front_word c.args.at)
    (sym (front_4 c.args.program.now c.args.at c.requires.at_in_bounds.0
    (sym c.class_of-c.ensures ∙ c.in-4.is)))

pub returns-in-5 : goal.returns-in-5
returns-in-5 c = rw (front_5 c.args.program.now c.args.at c.requires.at_in_bounds.0 (sym c.class_of-c.ensures ∙ c.in-5.is), ← c.byte_at.ensures) c.sign_at.ensures

pub returns-in_default : goal.returns-in_default
unfolding front_word
returns-in_default c = let n = c.in_default.in_default-own.rest in rw (front_none c.args.program.now c.args.at
    c.requires.at_in_bounds.0 _ (sym c.class_of-c.ensures) n.0.0.0.1 n.0.0.1 n.0.1 n.1)
