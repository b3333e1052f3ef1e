-- `definitions::read_procedure` meets its contract: each way is one law.
-- Assumes nothing.
use native.Mathlib.Omega.{arith}
use Rattle.definitions.proofs.Heads.{head_other, head_nameless, head_shut, opens, head_uncounted, behind_parameters, body_space, head_bodiless, head_reads}
use Rattle.definitions.proofs.read_procedure.Goals as goal

pub returns-then-kind_at-ne-DEF : goal.returns-then-kind_at-ne-DEF
returns-then-kind_at-ne-DEF c = head_other _ _ _ c.kind_at.ensures _ _ c.if-kind_at-ne-DEF.true

pub returns-then-kind_at-ne-NAME : goal.returns-then-kind_at-ne-NAME
returns-then-kind_at-ne-NAME c = head_nameless _ _ _ c.kind_at.ensures c.if-kind_at-ne-DEF.false _ c.kind_at-2.ensures _ _ c.if-kind_at-ne-NAME.true

pub returns-then-kind_at-ne-OPEN : goal.returns-then-kind_at-ne-OPEN
returns-then-kind_at-ne-OPEN c =
    head_shut _ _ _ c.kind_at.ensures c.if-kind_at-ne-DEF.false _ c.kind_at-2.ensures c.if-kind_at-ne-NAME.false _ c.kind_at-3.ensures _ _ c.if-kind_at-ne-OPEN.true

pub returns-in_err-p : goal.returns-in_err-p
returns-in_err-p c =
    let o = opens _ _ _ c.kind_at.ensures c.if-kind_at-ne-DEF.false _ c.kind_at-2.ensures c.if-kind_at-ne-NAME.false _ c.kind_at-3.ensures c.if-kind_at-ne-OPEN.false in
    head_uncounted _ _ _ _ o _ _ _ c.from_residual.ensures.1 c.in_err-p.ensures

pub read_body-requires : goal.read_body-requires
read_body-requires c =
    let o = opens _ _ _ c.kind_at.ensures c.if-kind_at-ne-DEF.false _ c.kind_at-2.ensures c.if-kind_at-ne-NAME.false _ c.kind_at-3.ensures c.if-kind_at-ne-OPEN.false in
    body_space _ _ _ _ o _ _ c.in_ok-p.ensures c.requires c.read_parameters.auto.words

pub returns-in_err-b : goal.returns-in_err-b
returns-in_err-b c =
    let o = opens _ _ _ c.kind_at.ensures c.if-kind_at-ne-DEF.false _ c.kind_at-2.ensures c.if-kind_at-ne-NAME.false _ c.kind_at-3.ensures c.if-kind_at-ne-OPEN.false in
    head_bodiless _ _ _ _ o _ _ c.in_ok-p.ensures _ _ _ c.from_residual-in_err-b.ensures.1 c.in_err-b.ensures

pub overflow_sub-result : goal.overflow_sub-result
overflow_sub-result c =
    let o = opens _ _ _ c.kind_at.ensures c.if-kind_at-ne-DEF.false _ c.kind_at-2.ensures c.if-kind_at-ne-NAME.false _ c.kind_at-3.ensures c.if-kind_at-ne-OPEN.false in
    omega (arith, behind_parameters _ _ _ _ o _ _ c.in_ok-p.ensures)

pub returns : goal.returns
returns c =
    let o = opens _ _ _ c.kind_at.ensures c.if-kind_at-ne-DEF.false _ c.kind_at-2.ensures c.if-kind_at-ne-NAME.false _ c.kind_at-3.ensures c.if-kind_at-ne-OPEN.false in
    head_reads _ _ _ _ o _ _ c.in_ok-p.ensures _ _ c.in_ok-b.ensures
