use Rattle.code_drafts.specs.Code.{as_operand}
use Rattle.code_instructions.proofs.Givens.{one_labelled}
use Rattle.code_instructions.proofs.jumps.put_labelled_one.Goals as goal

pub returns : goal.returns
returns c =
    one_labelled c.args.limit c.args.operation c.args.when c.args.offset (as_operand c.args.operand) c.in_place.result
    c.args.bytes.now.items c.put_labelled_below.new.bytes.items c.in_place.ensures c.in_ok-put_labelled_below.ensures
