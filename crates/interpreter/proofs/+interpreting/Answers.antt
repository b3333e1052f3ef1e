use native.Mathlib.Omega.{arith}
use mathlib.Core.Path.{refl}
use Rattle.machine.specs.declared.Value.TheVariants.{Nothing}
use Rattle.machine.specs.declared.Flow.TheVariants.{Onward, Returned}
use Rattle.machine.specs.Evaluate.{argument_of}
use Rattle.machine.specs.Execute.{continue, test_of, when_at, foreach_at}
use Rattle.machine.specs.Procedures.{result_of}
use Rattle.machine.proofs.Acts.{goes_in, stops_in, fails_in, last_in, in_both, sure, given, taken_in, other_in}
use Rattle.effects.proofs.Laws.{is_assignment}
use Rattle.interpreter.specs.Cycle.{returned}
use Rattle.interpreter.proofs.Going.{as_in}
use Rattle.interpreter.proofs.ExpressionLaws.{too_deep, begun, is_leaf, is_call, has_operands, operands_by, table_made, no_table, second_by}
use Rattle.interpreter.proofs.ExpressionLaws.{push_first, push_fails, push_next, root_falls, library_called, procedure_called}
use Rattle.interpreter.proofs.CallLaws.{invoke_by, body_by}
use Rattle.interpreter.proofs.Fast.{push_fast, push_slow}
use Rattle.interpreter.proofs.StatementLaws.{still_lent, deeper_lent, no_shape_lem, worked_anew, evaluated_anew, simple_fast, test_fast, evaluated, simple_by}
use Rattle.interpreter.proofs.StatementLaws.{update_by, key_by, value_by, not_table}
use Rattle.interpreter.proofs.StatementLaws.{statement_too_deep, statement_begun, is_loop, counted, is_declaration, is_update, is_when, is_foreach, is_block, is_simple}
use Rattle.interpreter.proofs.StatementLaws.{leave_by, leave_fails, leave_gives, goes_onward, loop_first, loop_short, turn_is, loop_again}
use Rattle.interpreter.proofs.StatementLaws.{all_short, all_done, all_fails, all_returns, all_again, all_left}
use Rattle.interpreter.proofs.LoopLaws.{bound_to, member_passed, member_by, member_figure, member_group, looked_in}
use Rattle.interpreter.proofs.LoopLaws.{turns_short, turns_done, turn_fails, turn_returns, turn_again}
use Rattle.interpreter.proofs.LoopLaws.{owning_ends, owning_fails, owning_returns, owning_again, entered_loop, not_shape, opened_by}
use Rattle.interpreter.proofs.+interpreting.Goals as goal

pub argument-returns-then-w-ne0 : goal.argument-returns-then-w-ne0
argument-returns-then-w-ne0 t c = push_fast _ _ _ _ _ _ _ _ _ _ c.argument_value-w.ensures _ _ c.requires.lent c.if-w-ne0.true c.push.ensures

pub argument-returns : goal.argument-returns
argument-returns t c = push_slow _ _ _ _ _ _ _ _ _ _ c.argument_value-w.ensures _ _ _ c.if-w-ne0.false c.pushed.ensures

pub bound-returns : goal.bound-returns
bound-returns t c = bound_to _ _ _ c.pack.ensures c.set_variable.ensures c.statement.ensures

pub call-loop-y-init : goal.call-loop-y-init
call-loop-y-init t c = push_first _ _ _ c.requires.lent c.arguments_held-base.ensures c.first_argument-a.ensures c.word_at.ensures c.argument_root-y.ensures

pub call-returns-in_err-argument : goal.call-returns-in_err-argument
call-returns-in_err-argument t c = last_in (push_fails c.loop-y.invariant c.loop-y-test.true c.in_err-argument.ensures) c.from_residual.ensures.1

pub call-loop-y-smaller : goal.call-loop-y-smaller
call-loop-y-smaller t c = search root_falls

pub call-loop-y-preserved : goal.call-loop-y-preserved
call-loop-y-preserved t c = push_next c.loop-y.invariant c.loop-y-test.true _ _ _ (omega arith) (omega arith) c.in_ok-argument.ensures c.word_at-in-loop-y.ensures c.argument_root-y-in-loop-y.ensures

pub call-returns-then-number-eq-OTHER : goal.call-returns-then-number-eq-OTHER
call-returns-then-number-eq-OTHER t c = procedure_called c.loop-y.invariant c.loop-y-test.false c.library_of-number.ensures c.if-number-eq-OTHER.true c.callee_of.ensures.0 c.invoke.ensures

pub call-returns-else-number-eq-OTHER : goal.call-returns-else-number-eq-OTHER
call-returns-else-number-eq-OTHER t c = library_called c.loop-y.invariant c.loop-y-test.false c.library_of-number.ensures c.if-number-eq-OTHER.false c.called.ensures

pub each-returns-in_err-i : goal.each-returns-in_err-i
unfolding foreach_at
each-returns-in_err-i t c = stops_in _ c.in_err-i.ensures c.from_residual.ensures.1

pub each-returns-in_default : goal.each-returns-in_default
unfolding foreach_at
each-returns-in_default t c = goes_in _ c.in_ok-i.ensures (not_shape _ _ _ c.in_default.not-Shape)

pub each-returns-in_err-open_loop : goal.each-returns-in_err-open_loop
unfolding foreach_at
each-returns-in_err-open_loop t c = goes_in _ (rw c.in-Shape.is at c.in_ok-i.ensures) (opened_by _ _ _ _ (stops_in _ (in_both c.in_err-open_loop.ensures _) c.from_residual-in_err-open_loop.ensures.1))

pub each-returns : goal.each-returns
unfolding foreach_at
each-returns t c = goes_in _ (rw c.in-Shape.is at c.in_ok-i.ensures) (opened_by _ _ _ _ (goes_in _ (in_both c.in_ok-open_loop.ensures _) c.own.ensures))

pub expression-returns-then-fuel-eq0 : goal.expression-returns-then-fuel-eq0
expression-returns-then-fuel-eq0 t c = too_deep _ _ _ _ c.if-fuel-eq0.true

pub expression-returns-in_err-take_step : goal.expression-returns-in_err-take_step
expression-returns-in_err-take_step t c = begun _ _ _ _ c.if-fuel-eq0.false refl (stops_in _ (in_both c.in_err-take_step.ensures _) c.from_residual.ensures.1)

pub expression-returns-then-tag-lt-TABLE : goal.expression-returns-then-tag-lt-TABLE
expression-returns-then-tag-lt-TABLE t c = begun _ _ _ _ c.if-fuel-eq0.false c.word_at-w.ensures (goes_in _ (in_both c.in_ok-take_step.ensures _) (is_leaf _ _ _ _ _ _ c.tag_of-tag.ensures c.if-tag-lt-TABLE.true c.leaf.ensures))

pub expression-returns-in_err-v : goal.expression-returns-in_err-v
expression-returns-in_err-v t c = begun _ _ _ _ c.if-fuel-eq0.false c.word_at-w.ensures (goes_in _ (in_both c.in_ok-take_step.ensures _) (is_call _ _ _ _ _ _ c.tag_of-tag.ensures c.if-tag-eq-CALL.true (last_in c.in_err-v.ensures c.from_residual-in_err-v.ensures.1)))

pub expression-returns-then-tag-eq-CALL : goal.expression-returns-then-tag-eq-CALL
expression-returns-then-tag-eq-CALL t c = begun _ _ _ _ c.if-fuel-eq0.false c.word_at-w.ensures (goes_in _ (in_both c.in_ok-take_step.ensures _) (is_call _ _ _ _ _ _ c.tag_of-tag.ensures c.if-tag-eq-CALL.true c.in_ok-v.ensures))

pub expression-returns-in_err-v-2 : goal.expression-returns-in_err-v-2
expression-returns-in_err-v-2 t c = begun _ _ _ _ c.if-fuel-eq0.false c.word_at-w.ensures (goes_in _ (in_both c.in_ok-take_step.ensures _) (has_operands _ _ _ _ _ _ c.tag_of-tag.ensures c.if-tag-lt-TABLE.false c.if-tag-eq-CALL.false (last_in c.in_err-v-2.ensures c.from_residual-in_err-v-2.ensures.1)))

pub expression-returns : goal.expression-returns
expression-returns t c = begun _ _ _ _ c.if-fuel-eq0.false c.word_at-w.ensures (goes_in _ (in_both c.in_ok-take_step.ensures _) (has_operands _ _ _ _ _ _ c.tag_of-tag.ensures c.if-tag-lt-TABLE.false c.if-tag-eq-CALL.false c.in_ok-v-2.ensures))

pub inside-returns-then-found-eq0 : goal.inside-returns-then-found-eq0
inside-returns-then-found-eq0 t c = looked_in _ _ _ _ _ _ c.look_in-found.ensures (turns_done c.loop.invariant (omega arith) c.if-found-eq0.true)

pub inside-returns-in_err-v : goal.inside-returns-in_err-v
inside-returns-in_err-v t c = last_in (looked_in _ _ _ _ _ _ c.look_in-found.ensures (turn_fails c.loop.invariant (omega arith) c.if-found-eq0.false c.component_at-i.ensures c.in_err-v.ensures)) c.from_residual.ensures.1

pub inside-returns-in-Returned : goal.inside-returns-in-Returned
inside-returns-in-Returned t c = looked_in _ _ _ _ _ _ c.look_in-found.ensures (turn_returns c.loop.invariant (omega arith) c.if-found-eq0.false c.component_at-i.ensures (rw c.in-Returned.is at c.in_ok-v.ensures) c.unmark_below.ensures)

pub inside-loop-preserved : goal.inside-loop-preserved
inside-loop-preserved t c = turn_again c.loop.invariant (omega arith) c.if-found-eq0.false c.component_at-i.ensures (rw (goes_onward _ c.in_default.not-Returned) at c.in_ok-v.ensures) c.look_behind-found.ensures (omega arith) (omega arith)

pub inside-returns : goal.inside-returns
inside-returns t c = looked_in _ _ _ _ _ _ c.look_in-found.ensures (turns_short c.loop.invariant (omega arith))

pub invoke-returns-in_err-begin : goal.invoke-returns-in_err-begin
invoke-returns-in_err-begin t c = invoke_by _ _ _ _ _ c.arguments_held-top.ensures (stops_in _ (in_both c.in_err-begin.ensures _) c.from_residual.ensures.1)

pub invoke-returns-in_err-v : goal.invoke-returns-in_err-v
invoke-returns-in_err-v t c = invoke_by _ _ _ _ _ c.arguments_held-top.ensures (goes_in _ (in_both c.in_ok-begin.ensures _) (body_by _ _ _ _ c.table_place.ensures c.word_at-d.ensures c.start_of.ensures.0 c.parameters_of.ensures.0 c.body_of-size.ensures.0
    (stops_in _ c.in_err-v.ensures c.from_residual-in_err-v.ensures.1)))

pub invoke-returns : goal.invoke-returns
invoke-returns t c = invoke_by _ _ _ _ _ c.arguments_held-top.ensures (goes_in _ (in_both c.in_ok-begin.ensures _) (body_by _ _ _ _ c.table_place.ensures c.word_at-d.ensures c.start_of.ensures.0 c.parameters_of.ensures.0 c.body_of-size.ensures.0
    (goes_in _ c.in_ok-v.ensures (goes_in _ (in_both (sure c.resume.ensures) _) (in_both (given _) _)))))

pub leave-returns-then-fuel-eq0 : goal.leave-returns-then-fuel-eq0
unfolding returned
leave-returns-then-fuel-eq0 t c = statement_too_deep _ _ _ c.if-fuel-eq0.true

pub leave-returns-in_err-take_step : goal.leave-returns-in_err-take_step
leave-returns-in_err-take_step t c = leave_fails _ c.requires _ (leave_by _ c.requires c.if-fuel-eq0.false c.place_of-p.ensures (fails_in _ (in_both c.in_err-take_step.ensures _))) c.from_residual.ensures.1

pub leave-returns-then-k-ne0 : goal.leave-returns-then-k-ne0
unfolding returned
leave-returns-then-k-ne0 t c = leave_by _ c.requires c.if-fuel-eq0.false c.place_of-p.ensures (goes_in _ (in_both c.in_ok-take_step.ensures _) (simple_fast _ _ _ _ c.fast_value-k.ensures (still_lent _ _ _ _ _ refl (omega arith) _ (deeper_lent _ _ _ _ c.requires.runs.lent)) c.if-k-ne0.true _ _
    c.last_of-y.ensures.0 (leave_gives c.requires _ _ c.unpack.ensures)))

pub leave-returns-in_err-v : goal.leave-returns-in_err-v
leave-returns-in_err-v t c = leave_fails _ c.requires _ (leave_by _ c.requires c.if-fuel-eq0.false c.place_of-p.ensures (goes_in _ (in_both c.in_ok-take_step.ensures _) (simple_by _ _ _ _ _ c.last_of-y.ensures.0
    (fails_in _ (evaluated _ _ _ _ c.fast_value-k.ensures c.if-k-ne0.false c.in_err-v.ensures))))) c.from_residual-in_err-v.ensures.1

pub leave-returns : goal.leave-returns
unfolding returned
leave-returns t c = leave_by _ c.requires c.if-fuel-eq0.false c.place_of-p.ensures (goes_in _ (in_both c.in_ok-take_step.ensures _) (simple_by _ _ _ _ _ c.last_of-y.ensures.0
    (goes_in _ (evaluated _ _ _ _ c.fast_value-k.ensures c.if-k-ne0.false c.in_ok-v.ensures) (rw (← c.pack.ensures) (in_both (leave_gives c.requires _ _ c.unpack-2.ensures) _)))))

pub member-returns-then-is_destroyed : goal.member-returns-then-is_destroyed
member-returns-then-is_destroyed t c = member_passed _ _ _ _ _ c.component_at-c.ensures c.is_destroyed.ensures c.if-is_destroyed.true

pub member-returns-in_err-take_step : goal.member-returns-in_err-take_step
member-returns-in_err-take_step t c = member_by _ _ _ _ _ c.component_at-c.ensures c.is_destroyed.ensures c.if-is_destroyed.false (stops_in _ (in_both c.in_err-take_step.ensures _) c.from_residual.ensures.1)

pub member-returns-then-not-is_group : goal.member-returns-then-not-is_group
member-returns-then-not-is_group t c = member_by _ _ _ _ _ c.component_at-c.ensures c.is_destroyed.ensures c.if-is_destroyed.false (goes_in _ (in_both c.in_ok-take_step.ensures _) (member_figure _ _ _ _ _ _ c.is_group.ensures c.if-not-is_group.true c.bound.ensures))

pub member-returns : goal.member-returns
member-returns t c = member_by _ _ _ _ _ c.component_at-c.ensures c.is_destroyed.ensures c.if-is_destroyed.false (goes_in _ (in_both c.in_ok-take_step.ensures _) (member_group _ _ _ _ _ _ c.is_group.ensures c.if-not-is_group.false c.inside.ensures))

pub operands-returns-in_err-u : goal.operands-returns-in_err-u
operands-returns-in_err-u t c = operands_by _ _ _ _ _ c.left_of.ensures (stops_in _ c.in_err-u.ensures c.from_residual.ensures.1)

pub operands-returns-then-tag-eq-TABLE : goal.operands-returns-then-tag-eq-TABLE
operands-returns-then-tag-eq-TABLE t c = operands_by _ _ _ _ _ c.left_of.ensures (goes_in _ c.in_ok-u.ensures (table_made _ _ _ _ _ _ c.tag_of-tag.ensures c.pack-a.ensures c.if-tag-eq-TABLE.true c.new_table.ensures))

pub operands-returns-then-lacks_table : goal.operands-returns-then-lacks_table
operands-returns-then-lacks_table t c = operands_by _ _ _ _ _ c.left_of.ensures (goes_in _ c.in_ok-u.ensures (no_table _ _ _ _ _ _ c.tag_of-tag.ensures c.pack-a.ensures c.if-tag-eq-TABLE.false c.lacks_table.ensures c.if-lacks_table.true))

pub operands-returns-in_err-v : goal.operands-returns-in_err-v
operands-returns-in_err-v t c = operands_by _ _ _ _ _ c.left_of.ensures (goes_in _ c.in_ok-u.ensures (second_by _ _ _ _ _ _ c.tag_of-tag.ensures c.pack-a.ensures c.if-tag-eq-TABLE.false c.lacks_table.ensures c.if-lacks_table.false c.right_of.ensures
    (stops_in _ c.in_err-v.ensures c.from_residual-in_err-v.ensures.1)))

pub operands-returns : goal.operands-returns
operands-returns t c = operands_by _ _ _ _ _ c.left_of.ensures (goes_in _ c.in_ok-u.ensures (second_by _ _ _ _ _ _ c.tag_of-tag.ensures c.pack-a.ensures c.if-tag-eq-TABLE.false c.lacks_table.ensures c.if-lacks_table.false c.right_of.ensures
    (goes_in _ c.in_ok-v.ensures (rw c.pack.ensures at c.apply.ensures))))

pub own-returns-in_err-v : goal.own-returns-in_err-v
own-returns-in_err-v t c = last_in (entered_loop _ _ _ _ _ c.first_at-first.ensures c.count_at-n.ensures c.enter_loop-unit.ensures (owning_fails c.loop-k.invariant (omega arith) _ c.in_err-v.ensures)) c.from_residual.ensures.1

pub own-returns-in-Returned : goal.own-returns-in-Returned
own-returns-in-Returned t c = entered_loop _ _ _ _ _ c.first_at-first.ensures c.count_at-n.ensures c.enter_loop-unit.ensures (owning_returns c.loop-k.invariant (omega arith) _ (rw c.in-Returned.is at c.in_ok-v.ensures) c.leave_loop.ensures)

pub own-loop-k-preserved : goal.own-loop-k-preserved
own-loop-k-preserved t c = owning_again c.loop-k.invariant (omega arith) (rw (goes_onward _ c.in_default.not-Returned) at c.in_ok-v.ensures) (omega arith) (omega arith)

pub own-returns : goal.own-returns
own-returns t c = entered_loop _ _ _ _ _ c.first_at-first.ensures c.count_at-n.ensures c.enter_loop-unit.ensures (owning_ends c.loop-k.invariant _ (omega arith) c.leave_loop-2.ensures)

pub procedure-returns-then-end-at : goal.procedure-returns-then-end-at
unfolding result_of
procedure-returns-then-end-at t c = goes_in result_of (all_done c.loop.invariant (omega arith) c.if-end-at.true) (in_both (given Nothing) _)

pub procedure-returns-then-tag_of-eq-RETURN : goal.procedure-returns-then-tag_of-eq-RETURN
procedure-returns-then-tag_of-eq-RETURN t c = all_left c.loop.invariant (omega arith) c.if-end-at.false c.leave.ensures

pub procedure-returns-in_err-v : goal.procedure-returns-in_err-v
procedure-returns-in_err-v t c = stops_in _ (all_fails c.loop.invariant (omega arith) c.if-end-at.false c.in_err-v.ensures) c.from_residual.ensures.1

pub procedure-returns-in-Returned : goal.procedure-returns-in-Returned
unfolding result_of
procedure-returns-in-Returned t c = goes_in result_of (all_returns c.loop.invariant (omega arith) c.if-end-at.false (rw c.in-Returned.is at c.in_ok-v.ensures)) (in_both (given _) _)

pub procedure-loop-preserved : goal.procedure-loop-preserved
procedure-loop-preserved t c = all_again c.loop.invariant (omega arith) c.if-end-at.false (omega arith) (omega arith) (rw (goes_onward _ c.in_default.not-Returned) at c.in_ok-v.ensures) c.word_at-w.ensures c.size_of-at.ensures

pub procedure-returns : goal.procedure-returns
unfolding result_of
procedure-returns t c = goes_in result_of (all_short c.loop.invariant (omega arith)) (in_both (given Nothing) _)

pub pushed-returns-in_err-v : goal.pushed-returns-in_err-v
unfolding argument_of
pushed-returns-in_err-v t c = stops_in _ c.in_err-v.ensures c.from_residual.ensures.1

pub pushed-returns : goal.pushed-returns
unfolding argument_of
pushed-returns t c = goes_in _ c.in_ok-v.ensures (in_both (rw c.pack.ensures at c.push.ensures) _)

pub repeat-loop-init : goal.repeat-loop-init
repeat-loop-init t c = loop_first c.requires

pub repeat-returns-in_err-take_step : goal.repeat-returns-in_err-take_step
repeat-returns-in_err-take_step t c = as_in (turn_is c.loop.invariant (omega arith)) (stops_in _ (in_both c.in_err-take_step.ensures _) c.from_residual.ensures.1)

pub repeat-returns-in_err-holds : goal.repeat-returns-in_err-holds
repeat-returns-in_err-holds t c = as_in (turn_is c.loop.invariant (omega arith)) (goes_in _ (in_both c.in_ok-take_step.ensures _) (stops_in _ c.in_err-holds.ensures c.from_residual-in_err-holds.ensures.1))

pub repeat-returns-then-not-holds : goal.repeat-returns-then-not-holds
repeat-returns-then-not-holds t c = as_in (turn_is c.loop.invariant (omega arith)) (goes_in _ (in_both c.in_ok-take_step.ensures _) (goes_in _ c.in_ok-holds.ensures (other_in _ _ _ c.if-not-holds.true (in_both (given Onward) _))))

pub repeat-returns-in_err-v : goal.repeat-returns-in_err-v
repeat-returns-in_err-v t c = as_in (turn_is c.loop.invariant (omega arith)) (goes_in _ (in_both c.in_ok-take_step.ensures _) (goes_in _ c.in_ok-holds.ensures (taken_in _ _ _ c.if-not-holds.false (stops_in _ c.in_err-v.ensures c.from_residual-in_err-v.ensures.1))))

pub repeat-returns-in-Returned : goal.repeat-returns-in-Returned
unfolding continue
repeat-returns-in-Returned t c = as_in (turn_is c.loop.invariant (omega arith)) (goes_in _ (in_both c.in_ok-take_step.ensures _) (goes_in _ c.in_ok-holds.ensures (taken_in _ _ _ c.if-not-holds.false (goes_in _ (rw c.in-Returned.is at c.in_ok-v.ensures) (in_both (given (Returned _)) _)))))

pub repeat-loop-preserved : goal.repeat-loop-preserved
repeat-loop-preserved t c = loop_again c.loop.invariant (omega arith) c.in_ok-take_step.ensures c.in_ok-holds.ensures c.if-not-holds.false (rw (goes_onward _ c.in_default.not-Returned) at c.in_ok-v.ensures) (omega arith) (omega arith)

pub repeat-returns : goal.repeat-returns
repeat-returns t c = loop_short c.loop.invariant (omega arith)

pub simple-put_word-requires-clause-fact : goal.simple-put_word-requires-clause-fact
simple-put_word-requires-clause-fact t c = no_shape_lem _ _ _ _ _ _ _ _ c.fast_value-k.ensures c.requires.lent c.if-k-ne0.true

pub simple-returns-then-tag_of-eq-ASSIGN : goal.simple-returns-then-tag_of-eq-ASSIGN
simple-returns-then-tag_of-eq-ASSIGN t c = simple_fast _ _ _ _ c.fast_value-k.ensures c.requires.lent c.if-k-ne0.true _ _ c.last_of-y.ensures.0 (is_assignment _ _ _ _ _ _ c.tag_of.ensures _ _ _ c.if-tag_of-eq-ASSIGN.true c.extra_of.ensures.0 c.put_word.ensures)

pub simple-returns-then-k-ne0 : goal.simple-returns-then-k-ne0
simple-returns-then-k-ne0 t c = simple_fast _ _ _ _ c.fast_value-k.ensures c.requires.lent c.if-k-ne0.true _ _ c.last_of-y.ensures.0 (sure (c.pass_on.ensures _ _ _))

pub simple-returns-in_err-v : goal.simple-returns-in_err-v
simple-returns-in_err-v t c = simple_by _ _ _ _ _ c.last_of-y.ensures.0 (stops_in _ (evaluated _ _ _ _ c.fast_value-k.ensures c.if-k-ne0.false c.in_err-v.ensures) c.from_residual.ensures.1)

pub simple-returns-in_err-flow : goal.simple-returns-in_err-flow
simple-returns-in_err-flow t c = simple_by _ _ _ _ _ c.last_of-y.ensures.0 (goes_in _ (evaluated _ _ _ _ c.fast_value-k.ensures c.if-k-ne0.false c.in_ok-v.ensures) (last_in (in_both (rw c.pack.ensures at c.in_err-flow.ensures) _) c.from_residual-in_err-flow.ensures.1))

pub simple-returns : goal.simple-returns
simple-returns t c = simple_by _ _ _ _ _ c.last_of-y.ensures.0 (goes_in _ (evaluated _ _ _ _ c.fast_value-k.ensures c.if-k-ne0.false c.in_ok-v.ensures) (in_both (rw c.pack.ensures at c.in_ok-flow.ensures) _))

pub statement-returns-then-fuel-eq0 : goal.statement-returns-then-fuel-eq0
statement-returns-then-fuel-eq0 t c = statement_too_deep _ _ _ c.if-fuel-eq0.true

pub statement-returns-then-tag-eq-WHILE : goal.statement-returns-then-tag-eq-WHILE
statement-returns-then-tag-eq-WHILE t c = statement_begun _ _ _ c.if-fuel-eq0.false c.word_at-w.ensures c.place_of-p.ensures (is_loop _ _ _ _ _ _ c.tag_of-tag.ensures c.if-tag-eq-WHILE.true c.extra_of.ensures.0 c.repeat.ensures)

pub statement-returns-in_err-take_step : goal.statement-returns-in_err-take_step
statement-returns-in_err-take_step t c = statement_begun _ _ _ c.if-fuel-eq0.false c.word_at-w.ensures c.place_of-p.ensures (counted _ _ _ _ _ _ c.tag_of-tag.ensures c.if-tag-eq-WHILE.false (stops_in _ (in_both c.in_err-take_step.ensures _) c.from_residual.ensures.1))

pub statement-returns-in-32 : goal.statement-returns-in-32
statement-returns-in-32 t c = statement_begun _ _ _ c.if-fuel-eq0.false c.word_at-w.ensures c.place_of-p.ensures (counted _ _ _ _ _ _ c.tag_of-tag.ensures c.if-tag-eq-WHILE.false (goes_in _ (in_both c.in_ok-take_step.ensures _)
    (is_declaration _ _ _ _ _ _ c.tag_of-tag.ensures c.in-32.is c.extra_of-in-32.ensures.0 c.declare.ensures)))

pub statement-returns-in-34 : goal.statement-returns-in-34
statement-returns-in-34 t c = statement_begun _ _ _ c.if-fuel-eq0.false c.word_at-w.ensures c.place_of-p.ensures (counted _ _ _ _ _ _ c.tag_of-tag.ensures c.if-tag-eq-WHILE.false (goes_in _ (in_both c.in_ok-take_step.ensures _)
    (is_update _ _ _ _ _ _ c.tag_of-tag.ensures c.in-34.is c.last_of.ensures.0 c.update.ensures)))

pub statement-returns-in-35 : goal.statement-returns-in-35
statement-returns-in-35 t c = statement_begun _ _ _ c.if-fuel-eq0.false c.word_at-w.ensures c.place_of-p.ensures (counted _ _ _ _ _ _ c.tag_of-tag.ensures c.if-tag-eq-WHILE.false (goes_in _ (in_both c.in_ok-take_step.ensures _)
    (is_when _ _ _ _ _ _ c.tag_of-tag.ensures c.in-35.is c.extra_of-in-35.ensures.0 c.when.ensures)))

pub statement-returns-in-40 : goal.statement-returns-in-40
statement-returns-in-40 t c = statement_begun _ _ _ c.if-fuel-eq0.false c.word_at-w.ensures c.place_of-p.ensures (counted _ _ _ _ _ _ c.tag_of-tag.ensures c.if-tag-eq-WHILE.false (goes_in _ (in_both c.in_ok-take_step.ensures _)
    (is_foreach _ _ _ _ _ _ c.tag_of-tag.ensures c.in-40.is c.extra_of-in-40.ensures.0 c.word_at.ensures c.each.ensures)))

pub statement-returns-in-38 : goal.statement-returns-in-38
statement-returns-in-38 t c = statement_begun _ _ _ c.if-fuel-eq0.false c.word_at-w.ensures c.place_of-p.ensures (counted _ _ _ _ _ _ c.tag_of-tag.ensures c.if-tag-eq-WHILE.false (goes_in _ (in_both c.in_ok-take_step.ensures _)
    (is_block _ _ _ _ _ _ c.tag_of-tag.ensures c.in-38.is c.size_of-n.ensures c.statements.ensures)))

pub statement-returns-in_default : goal.statement-returns-in_default
statement-returns-in_default t c = statement_begun _ _ _ c.if-fuel-eq0.false c.word_at-w.ensures c.place_of-p.ensures (counted _ _ _ _ _ _ c.tag_of-tag.ensures c.if-tag-eq-WHILE.false (goes_in _ (in_both c.in_ok-take_step.ensures _)
    (is_simple _ _ _ _ _ _ c.tag_of-tag.ensures c.in_default.in_default-own.rest.0.0.0.0.1 c.in_default.in_default-own.rest.0.0.0.1 c.in_default.in_default-own.rest.0.0.1 c.in_default.in_default-own.rest.0.1 c.in_default.in_default-own.rest.1 c.simple.ensures)))

pub statements-returns-then-end-at : goal.statements-returns-then-end-at
statements-returns-then-end-at t c = all_done c.loop.invariant (omega arith) c.if-end-at.true

pub statements-returns-in_err-v : goal.statements-returns-in_err-v
statements-returns-in_err-v t c = last_in (all_fails c.loop.invariant (omega arith) c.if-end-at.false c.in_err-v.ensures) c.from_residual.ensures.1

pub statements-returns-in-Returned : goal.statements-returns-in-Returned
statements-returns-in-Returned t c = all_returns c.loop.invariant (omega arith) c.if-end-at.false (rw c.in-Returned.is at c.in_ok-v.ensures)

pub statements-loop-preserved : goal.statements-loop-preserved
statements-loop-preserved t c = all_again c.loop.invariant (omega arith) c.if-end-at.false (omega arith) (omega arith) (rw (goes_onward _ c.in_default.not-Returned) at c.in_ok-v.ensures) c.word_at.ensures c.size_of-at.ensures

pub statements-returns : goal.statements-returns
statements-returns t c = all_short c.loop.invariant (omega arith)

pub test-returns-then-k-ne0 : goal.test-returns-then-k-ne0
test-returns-then-k-ne0 t c = test_fast _ _ _ _ (worked_anew _ _ _ _ _ _ _ c.fast_value-k.ensures) c.requires c.if-k-ne0.true (c.outcome_of.ensures _)

pub test-returns-in_err-v : goal.test-returns-in_err-v
unfolding test_of
test-returns-in_err-v t c = stops_in _ (evaluated _ _ _ _ (worked_anew _ _ _ _ _ _ _ c.fast_value-k.ensures) c.if-k-ne0.false (evaluated_anew _ _ _ _ _ _ c.in_err-v.ensures)) c.from_residual.ensures.1

pub test-returns : goal.test-returns
unfolding test_of
test-returns t c = goes_in _ (evaluated _ _ _ _ (worked_anew _ _ _ _ _ _ _ c.fast_value-k.ensures) c.if-k-ne0.false (evaluated_anew _ _ _ _ _ _ c.in_ok-v.ensures)) (in_both (rw c.pack.ensures at c.outcome_of-2.ensures _) _)

pub update-returns-in_err-t : goal.update-returns-in_err-t
update-returns-in_err-t t c = update_by _ _ _ _ c.word_at.ensures c.before-b.ensures.0 c.word_at-2.ensures c.before-a.ensures.0 (stops_in _ c.in_err-t.ensures c.from_residual.ensures.1)

pub update-returns-in_default : goal.update-returns-in_default
update-returns-in_default t c = update_by _ _ _ _ c.word_at.ensures c.before-b.ensures.0 c.word_at-2.ensures c.before-a.ensures.0 (goes_in _ c.in_ok-t.ensures (not_table _ _ _ c.in_default.not-Table))

pub update-returns-in_err-u : goal.update-returns-in_err-u
update-returns-in_err-u t c = update_by _ _ _ _ c.word_at.ensures c.before-b.ensures.0 c.word_at-2.ensures c.before-a.ensures.0 (goes_in _ (rw c.in-Table.is at c.in_ok-t.ensures)
    (key_by _ _ _ _ _ c.word_at.ensures c.before-b.ensures.0 (stops_in _ c.in_err-u.ensures c.from_residual-in_err-u.ensures.1)))

pub update-returns-in_err-z : goal.update-returns-in_err-z
update-returns-in_err-z t c = update_by _ _ _ _ c.word_at.ensures c.before-b.ensures.0 c.word_at-2.ensures c.before-a.ensures.0 (goes_in _ (rw c.in-Table.is at c.in_ok-t.ensures)
    (key_by _ _ _ _ _ c.word_at.ensures c.before-b.ensures.0 (goes_in _ c.in_ok-u.ensures (value_by _ _ _ _ _ _ c.pack-key.ensures (stops_in _ c.in_err-z.ensures c.from_residual-in_err-z.ensures.1)))))

pub update-returns-in_err-store_entry : goal.update-returns-in_err-store_entry
update-returns-in_err-store_entry t c = update_by _ _ _ _ c.word_at.ensures c.before-b.ensures.0 c.word_at-2.ensures c.before-a.ensures.0 (goes_in _ (rw c.in-Table.is at c.in_ok-t.ensures)
    (key_by _ _ _ _ _ c.word_at.ensures c.before-b.ensures.0 (goes_in _ c.in_ok-u.ensures (value_by _ _ _ _ _ _ c.pack-key.ensures (goes_in _ c.in_ok-z.ensures
    (rw (← c.pack.ensures) (stops_in _ c.in_err-store_entry.ensures c.from_residual-in_err-store_entry.ensures.1)))))))

pub update-returns : goal.update-returns
update-returns t c = update_by _ _ _ _ c.word_at.ensures c.before-b.ensures.0 c.word_at-2.ensures c.before-a.ensures.0 (goes_in _ (rw c.in-Table.is at c.in_ok-t.ensures)
    (key_by _ _ _ _ _ c.word_at.ensures c.before-b.ensures.0 (goes_in _ c.in_ok-u.ensures (value_by _ _ _ _ _ _ c.pack-key.ensures (goes_in _ c.in_ok-z.ensures
    (rw (← c.pack.ensures) (goes_in _ c.in_ok-store_entry.ensures (in_both (given Onward) _))))))))

pub when-returns-in_err-test : goal.when-returns-in_err-test
unfolding when_at
when-returns-in_err-test t c = stops_in _ c.in_err-test.ensures c.from_residual.ensures.1

pub when-returns-then-not-branch : goal.when-returns-then-not-branch
unfolding when_at
when-returns-then-not-branch t c = goes_in _ c.in_ok-test.ensures (other_in _ _ _ c.if-not-branch.true (in_both (given Onward) _))

pub when-returns-in_err-flow : goal.when-returns-in_err-flow
unfolding when_at
when-returns-in_err-flow t c = goes_in _ c.in_ok-test.ensures (taken_in _ _ _ c.if-not-branch.false (last_in c.in_err-flow.ensures c.from_residual-in_err-flow.ensures.1))

pub when-returns : goal.when-returns
unfolding when_at
when-returns t c = goes_in _ c.in_ok-test.ensures (taken_in _ _ _ c.if-not-branch.false c.in_ok-flow.ensures)
