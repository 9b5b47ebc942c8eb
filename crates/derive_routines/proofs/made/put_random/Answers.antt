use Rattle.derive_routines.specs.Held.{asked_of}
use Rattle.derive_routines.specs.Made.{draws, few_choices, given, more_choices, random_text}
use Rattle.derive_routines.proofs.Chains.{three}
use Rattle.derive_routines.proofs.made.put_random.Goals as goal

pub returns : goal.returns
returns c =
    let a = asked_of c.args.asked in
    three c.args.text.now.items (few_choices a) (more_choices a) (given (draws a) random_text)
    c.in_ok-put_few_choices.ensures c.in_ok-put_more_choices.ensures c.in_ok-put_asked_generator.ensures
