use Rattle.code_drafts.proofs.Chains.{instruction_joined}
use Rattle.code_drafts.proofs.instruction.put_instruction.Goals as goal

pub returns : goal.returns
returns c =
    instruction_joined (record {
      operation = c.args.operation;
      operands = c.args.operands.now;
      result = c.args.variable;
      branch = c.args.branch;
    })
    c.args.bytes.now.items c.put_opcode.new.bytes.items c.put_operands.new.bytes.items c.put_result.new.bytes.items
    c.put_branch.new.bytes.items
    c.in_ok-put_opcode.ensures c.in_ok-put_operands.ensures c.in_ok-put_result.ensures c.in_ok-put_branch.ensures
