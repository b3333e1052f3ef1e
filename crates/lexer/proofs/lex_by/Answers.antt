-- `lexer::lex_by` meets its contract: the invariant is `Going`, with a law for each move.
-- Assumes nothing.
use mathlib.Core.Path.{◌∙◌, sym}
use native.Mathlib.Omega.{arith}
use Rattle.lexer.proofs.Going.{start, space, token, ends, ended, refused}
use Rattle.lexer.proofs.lex_by.Goals as goal

pub loop-at-init : goal.loop-at-init
loop-at-init c = start _ _

pub loop-at-preserved-then-c-eq-WHITE : goal.loop-at-preserved-then-c-eq-WHITE
loop-at-preserved-then-c-eq-WHITE c = space c.args.program.now c.args.tokens.now
    c.loop-at.tokens c.loop-at.at c.loop-at.n c.loop-at.invariant
    c.loop-at-test.true (sym c.class_at-c.ensures ∙ c.if-c-eq-WHITE.true)

pub returns-in_default : goal.returns-in_default
returns-in_default c = refused c.args.program.now
    c.args.tokens.now c.loop-at.tokens
    c.loop-at.at c.loop-at.n c.loop-at.invariant
    c.loop-at-test.true (λ e. c.if-c-eq-WHITE.false (c.class_at-c.ensures ∙ e)) (sym c.token_at.ensures ∙ c.in_default.is)

pub loop-at-smaller : goal.loop-at-smaller
loop-at-smaller c = let f = ends c.args.program.now
    c.requires.program_len_bound
    c.loop-at.at _ _
    c.loop-at-test.true (sym c.token_at.ensures ∙ c.in-Some.is)
    c.token_size-at.ensures in omega arith

pub loop-at-preserved : goal.loop-at-preserved
loop-at-preserved c = token c.args.program.now
    c.args.tokens.now
    c.loop-at.tokens
    c.loop-at.at c.loop-at.n
    c.loop-at.invariant
    c.requires.program_len_bound
    c.loop-at-test.true
    (λ e. c.if-c-eq-WHITE.false (c.class_at-c.ensures ∙ e)) _ _ _
    (sym c.token_at.ensures ∙ c.in-Some.is) c.token_size-at.ensures c.put.ensures

pub returns : goal.returns
returns c = search ended
