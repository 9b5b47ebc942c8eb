use Rattle.machine_standard_saves.proofs.Answering.{noticed}
use Rattle.machine_standard_saves.proofs.answers.refuse.Goals as goal

pub returns-in-Ok-clause-told : goal.returns-in-Ok-clause-told
returns-in-Ok-clause-told c =
    noticed c.give_answer.result c.args.request.form c.args.request.place c.args.request.fuel c.args.what.now
    c.args.why.now c.args.text.now.items _ c.requires.store.sound c.in-Ok.ensures.added c.give_answer.ensures
