use Rattle.code_instructions.proofs.Printable.{text_joined}
use Rattle.code_instructions.proofs.printing.put_text.Goals as goal

pub returns : goal.returns
returns c =
    text_joined c.args.bytes.now.items c.push.new.self.items c.extend_from_slice.new.self.items
    c.in_ok-text.text.items c.deref.result.now _ c.in_ok-push.ensures.items c.deref.ensures.value c.in_ok-text.ensures
    c.in_ok-extend_from_slice.ensures.items
