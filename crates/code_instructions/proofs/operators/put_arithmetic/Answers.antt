use Rattle.code_drafts.specs.Code.{as_operand, as_destination}
use Rattle.code_instructions.proofs.Givens.{arithmetic_joined}
use Rattle.code_instructions.proofs.operators.put_arithmetic.Goals as goal

pub returns : goal.returns
returns c =
    arithmetic_joined (as_operand c.args.left) (as_operand c.args.right) (as_destination c.args.destination)
    c.args.operation c.result_in.result c.in_place.result c.name_second.result c.args.bytes.now.items
    c.put_takes.new.bytes.items c.put_instruction.new.bytes.items c.in_place.ensures c.name_second.ensures
    c.result_in.ensures c.in_ok-put_takes.ensures c.in_ok-put_instruction.ensures
