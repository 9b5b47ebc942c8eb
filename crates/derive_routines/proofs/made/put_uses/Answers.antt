use Rattle.derive_routines.specs.Held.{asked_of}
use Rattle.derive_routines.specs.Made.{calls_text, messages_text, strings_text}
use Rattle.derive_routines.proofs.Chains.{three}
use Rattle.derive_routines.proofs.made.put_uses.Goals as goal

pub returns : goal.returns
returns c =
    let a = asked_of c.args.asked in
    three c.args.text.now.items (messages_text a) (calls_text a) (strings_text a) c.in_ok-put_messages.ensures
    c.in_ok-put_calls.ensures c.in_ok-put_strings.ensures
