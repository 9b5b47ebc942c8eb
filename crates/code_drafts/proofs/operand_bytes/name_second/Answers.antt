use Rattle.code_drafts.specs.Code.{as_operand}
use Rattle.code_drafts.proofs.Naming.{two_named}
use Rattle.code_drafts.proofs.operand_bytes.name_second.Goals as goal

pub returns : goal.returns
returns c =
    two_named (as_operand c.args.first) (as_operand c.args.second) c.pushed_one.result c.named.result
    c.pushed_one.ensures.value c.named.ensures
