-- `definitions::read_parameters` meets its contract: the measure is the tokens left.
-- Assumes nothing.
use mathlib.Core.Path.{◌∙◌, sym}
use native.Mathlib.Omega.{arith}
use Rattle.expressions.proofs.Tokens.{token_inside}
use Rattle.definitions.proofs.Listing.{parameters_none, listing_starts, listing_stops, listing_fails, listing_ends, listing_on}
use Rattle.definitions.proofs.read_parameters.Goals as goal

pub overflow_add-result : goal.overflow_add-result
overflow_add-result c =
    let w = token_inside c.args.tokens.now c.args.i _ (sym c.kind_at.ensures
    ∙ c.if-kind_at-eq-CLOSE.true) (λ z. omega arith) in
    omega arith

pub returns-then-kind_at-eq-CLOSE : goal.returns-then-kind_at-eq-CLOSE
returns-then-kind_at-eq-CLOSE c = parameters_none _ _ _ _ _ c.kind_at.ensures c.if-kind_at-eq-CLOSE.true

pub loop-i-init : goal.loop-i-init
loop-i-init c = listing_starts _ _ _ _ _ c.kind_at.ensures c.requires c.if-kind_at-eq-CLOSE.false

pub returns-then-kind_at-ne-NAME : goal.returns-then-kind_at-ne-NAME
returns-then-kind_at-ne-NAME c = listing_stops _ _ _ _ _ _ _ c.loop-i.invariant _ c.kind_at-in-loop-i.ensures c.if-kind_at-ne-NAME.true

pub overflow_add-at : goal.overflow_add-at
overflow_add-at c =
    let w = token_inside c.args.tokens.now
    c.loop-i.at _ (sym c.kind_at-in-loop-i.ensures
    ∙ c.if-kind_at-ne-NAME.false) (λ z. omega arith) in
    omega (arith, c.loop-i.invariant.space.behind)

pub overflow_add-result-then-kind-eq-CLOSE : goal.overflow_add-result-then-kind-eq-CLOSE
overflow_add-result-then-kind-eq-CLOSE c =
    let w = token_inside c.args.tokens.now
    c.loop-i.at _ (sym c.kind_at-in-loop-i.ensures
    ∙ c.if-kind_at-ne-NAME.false) (λ z. omega arith) in
    omega (arith, c.loop-i.invariant.space.behind)

pub overflow_add-result-then-kind-eq-CLOSE-2 : goal.overflow_add-result-then-kind-eq-CLOSE-2
overflow_add-result-then-kind-eq-CLOSE-2 c =
    let w = token_inside c.args.tokens.now
    c.loop-i.at _ (sym c.kind_at-in-loop-i.ensures
    ∙ c.if-kind_at-ne-NAME.false) (λ z. omega arith) in
    omega (arith, c.loop-i.invariant.space.behind)

pub returns-then-kind-eq-CLOSE : goal.returns-then-kind-eq-CLOSE
returns-then-kind-eq-CLOSE c = listing_ends _ _ _ _ _ _ _ c.loop-i.invariant _
    c.kind_at-in-loop-i.ensures c.if-kind_at-ne-NAME.false _
    c.home_at.ensures _ c.put.ensures _ c.kind_at-kind.ensures c.if-kind-eq-CLOSE.true

pub overflow_add-result-then-kind-ne-COMMA : goal.overflow_add-result-then-kind-ne-COMMA
overflow_add-result-then-kind-ne-COMMA c =
    let w = token_inside c.args.tokens.now
    c.loop-i.at _
    (sym c.kind_at-in-loop-i.ensures
    ∙ c.if-kind_at-ne-NAME.false) (λ z. omega arith) in
    omega (arith, c.loop-i.invariant.space.behind)

pub returns-then-kind-ne-COMMA : goal.returns-then-kind-ne-COMMA
returns-then-kind-ne-COMMA c = listing_fails _ _ _ _ _ _ _ c.loop-i.invariant _
    c.kind_at-in-loop-i.ensures c.if-kind_at-ne-NAME.false _
    c.home_at.ensures _ c.put.ensures _ c.kind_at-kind.ensures
    c.if-kind-eq-CLOSE.false c.if-kind-ne-COMMA.true

pub overflow_add-at-in-loop-i : goal.overflow_add-at-in-loop-i
overflow_add-at-in-loop-i c =
    let w = token_inside c.args.tokens.now
    c.loop-i.at _
    (sym c.kind_at-in-loop-i.ensures
    ∙ c.if-kind_at-ne-NAME.false) (λ z. omega arith) in
    omega (arith, c.loop-i.invariant.space.behind)

pub overflow_add-m : goal.overflow_add-m
overflow_add-m c =
    let w = token_inside c.args.tokens.now
    c.loop-i.at _
    (sym c.kind_at-in-loop-i.ensures
    ∙ c.if-kind_at-ne-NAME.false) (λ z. omega arith) in
    omega (arith, c.loop-i.invariant.space.behind)

pub loop-i-smaller : goal.loop-i-smaller
loop-i-smaller c =
    let w = token_inside c.args.tokens.now
    c.loop-i.at _
    (sym c.kind_at-in-loop-i.ensures
    ∙ c.if-kind_at-ne-NAME.false) (λ z. omega arith) in
    omega (arith, c.loop-i.invariant.space.behind)

pub loop-i-preserved : goal.loop-i-preserved
loop-i-preserved c = listing_on _ _ _ _ _ _ _ c.loop-i.invariant _
    c.kind_at-in-loop-i.ensures c.if-kind_at-ne-NAME.false _
    c.home_at.ensures _ c.put.ensures _ c.kind_at-kind.ensures c.if-kind-ne-COMMA.false
