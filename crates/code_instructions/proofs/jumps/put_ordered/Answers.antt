use Rattle.code_drafts.specs.Code.{as_operands, as_test}
use Rattle.code_instructions.proofs.Givens.{ordered_joined}
use Rattle.code_instructions.proofs.jumps.put_ordered.Goals as goal

pub returns : goal.returns
returns c =
    ordered_joined c.args.limit (as_test c.args.test) (as_operands c.args.operands.now) c.operation_of.result
    c.args.when c.args.offset c.args.bytes.now.items c.put_takes.new.bytes.items c.put_labelled_named.new.bytes.items
    c.operation_of.ensures c.in_ok-put_takes.ensures c.in_ok-put_labelled_named.ensures
