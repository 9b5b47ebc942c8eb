use Rattle.std.proofs.Common.{Bool, ◌++◌, ap, ◌∙◌}
use Rattle.std.specs.Prelude.{codes}
use Rattle.derive_routines.specs.Held.{asked_of}
use Rattle.derive_routines.specs.Made.{given, has_self, send_texts, values_text}
use Rattle.derive_routines.proofs.Chains.{three}
use Rattle.derive_routines.proofs.made.put_messages.Goals as goal

pub returns : goal.returns
returns c =
    let a = asked_of c.args.asked in
    three c.args.text.now.items (send_texts 1 a.messages) (given (has_self a) (codes "global x__self;")) (values_text a)
    c.in_ok-put_sends.ensures
    (c.in_ok-put_given.ensures
    ∙ ap (λ (wanted : Bool). c.put_sends.new.text.items ++ given wanted (codes "global x__self;")) c.has_self.ensures)
    c.in_ok-put_values.ensures
