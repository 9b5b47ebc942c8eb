use Rattle.code_drafts.specs.Code.{as_operand}
use Rattle.code_instructions.proofs.Givens.{two_labelled}
use Rattle.code_instructions.proofs.jumps.put_labelled_two.Goals as goal

pub returns : goal.returns
returns c =
    two_labelled c.args.limit c.args.operation c.args.when c.args.offset (as_operand c.args.left)
    (as_operand c.args.right) c.in_place.result c.name_second.result c.args.bytes.now.items
    c.put_labelled_below.new.bytes.items c.in_place.ensures c.name_second.ensures c.in_ok-put_labelled_below.ensures
