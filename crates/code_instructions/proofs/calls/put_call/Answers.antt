use Rattle.std.proofs.Common.{List, [], ◌∷◌, ◌++◌, take, ap, ◌∙◌}
use Rattle.zcore.specs.declared.instruction.Operand.{Operand}
use Rattle.zcore.specs.declared.instruction.Operand.TheVariants.{Large}
use Rattle.code_drafts.specs.Code.{as_operands, as_destination}
use Rattle.meaning.specs.Limits.{most_arguments}
use Rattle.code_instructions.proofs.Givens.{given_is, call_written}
use Rattle.code_instructions.proofs.calls.put_call.Goals as goal

pub returns : goal.returns
returns c =
    call_written c.args.address (take c.min.result c.args.operands.now)
    (take most_arguments (as_operands c.args.operands.now)) (as_destination c.args.destination)
    c.call_operation-operation.result c.call_result.result c.args.bytes.now.items c.put_takes.new.bytes.items
    c.put_instruction.new.bytes.items
    c.push.new.self.items c.put_named.new.named_before.items c.deref.result.now
    (given_is c.args.operands.now most_arguments c.min.result c.min.ensures) c.call_operation-operation.ensures
    c.call_result.ensures
    (c.in_ok-push.ensures.items ∙ ap (λ (l : List Operand). l ++ Large c.args.address ∷ []) c.new-named.ensures.items)
    c.in_ok-put_named.ensures c.deref.ensures.value c.in_ok-put_takes.ensures c.in_ok-put_instruction.ensures
