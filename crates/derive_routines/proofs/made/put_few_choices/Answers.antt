use Rattle.std.specs.Prelude.{codes}
use Rattle.derive_routines.specs.Held.{asked_of}
use Rattle.derive_routines.specs.Made.{choice_given}
use Rattle.derive_routines.proofs.Chains.{three}
use Rattle.derive_routines.proofs.made.put_few_choices.Goals as goal

pub returns : goal.returns
returns c =
    let a = asked_of c.args.asked in
    three c.args.text.now.items (choice_given a (codes "x__one2") 2) (choice_given a (codes "x__one3") 3)
    (choice_given a (codes "x__one4") 4) c.in_ok-put_asked_choice.ensures c.in_ok-put_asked_choice-2.ensures
    c.in_ok-put_asked_choice-3.ensures
