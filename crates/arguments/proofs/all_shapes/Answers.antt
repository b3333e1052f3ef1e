use Rattle.arguments.proofs.ArgumentLaws.{ask_first, shape_missing, shape_given, shapes_all}
use Rattle.arguments.proofs.all_shapes.Goals as goal

pub loop-k-init : goal.loop-k-init
loop-k-init c = ask_first _ _ _ _

pub returns-then-not-is_kind : goal.returns-then-not-is_kind
returns-then-not-is_kind c = shape_missing _ _ _ _ _ c.loop-k.invariant c.loop-k-test.true c.is_kind.ensures c.if-not-is_kind.true-raw

pub loop-k-preserved : goal.loop-k-preserved
loop-k-preserved c = shape_given _ _ _ _ _ c.loop-k.invariant c.loop-k-test.true c.is_kind.ensures c.if-not-is_kind.false-raw

pub returns : goal.returns
returns c = shapes_all _ _ _ _ _ c.loop-k.invariant c.loop-k-test.false
