use Rattle.std.proofs.Common.{refl, arith}
use Rattle.code_drafts.specs.Code.{as_operand}
use Rattle.code_drafts.proofs.SameRounds.{round_begins, same_round, groups_done}
use Rattle.code_drafts.proofs.several.put_each_same.Goals as goal

pub loop-done-init : goal.loop-done-init
loop-done-init c = round_begins _ _ (as_operand c.args.operand) c.args.others.now c.args.when c.args.target
    c.groups_before_last-count.result c.groups_before_last-count.ensures.last c.in-Ok.ensures

pub loop-done-preserved : goal.loop-done-preserved
loop-done-preserved c = same_round _ _ _ (as_operand c.args.operand) c.args.others.now c.args.when c.args.target
    c.item_count-end.result c.where_equal-found.result c.groups_before_last-count.result c.loop-done.done _ _
    c.loop-done-test.true c.groups_before_last-count.ensures.before c.item_count-end.ensures
    c.where_equal-found.ensures refl (omega arith) c.loop-done.invariant c.in-Ok-put_same.ensures

pub returns : goal.returns
returns c = groups_done _ _ (as_operand c.args.operand) c.args.others.now c.args.when c.args.target
    c.groups_before_last-count.result c.loop-done.done c.loop-done-test.false c.loop-done.invariant
