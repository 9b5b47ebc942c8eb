use Rattle.code_drafts.proofs.Types.{types_byte_of}
use Rattle.code_drafts.proofs.opcode.types_byte.Goals as goal

pub returns : goal.returns
returns c =
    types_byte_of c.args.operands.now c.args.from c.type_at.result c.type_at-2.result c.type_at-3.result
    c.type_at-4.result c.requires
    c.type_at.ensures.value c.type_at-2.ensures.value c.type_at-3.ensures.value c.type_at-4.ensures.value
