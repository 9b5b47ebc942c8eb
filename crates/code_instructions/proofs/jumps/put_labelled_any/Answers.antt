use Rattle.code_drafts.specs.Code.{as_operands}
use Rattle.code_instructions.proofs.Givens.{all_labelled}
use Rattle.code_instructions.proofs.jumps.put_labelled_any.Goals as goal

pub returns : goal.returns
returns c =
    all_labelled c.args.limit c.args.operation c.args.when c.args.offset (as_operands c.args.operands.now)
    c.args.bytes.now.items c.put_labelled_below.new.bytes.items _ c.put_named.new.named_before.items
    c.deref.result.now c.new-named.ensures.items
    c.in_ok-put_named.ensures c.deref.ensures.value c.in_ok-put_labelled_below.ensures
