use Rattle.code_drafts.specs.Code.{as_operands, as_test}
use Rattle.std.proofs.Common.{take}
use Rattle.code_drafts.specs.Instructions.{most_tested}
use Rattle.code_instructions.proofs.Givens.{given_is, branch_otherwise, on_ok}
use Rattle.code_instructions.proofs.jumps.put_branch_below.Goals as goal

pub returns-else-asks_none : goal.returns-else-asks_none
returns-else-asks_none c =
    on_ok c.put_tested.result
    (branch_otherwise c.args.limit (as_test c.args.test) (take most_tested (as_operands c.args.operands.now))
    (as_operands (take c.min.result c.args.operands.now)) c.asks_none.result c.args.when c.args.offset
    c.args.bytes.now.items c.put_tested.new.bytes.items
    (given_is c.args.operands.now most_tested c.min.result c.min.ensures) c.asks_none.ensures c.if-asks_none.false)
    c.put_tested.ensures
