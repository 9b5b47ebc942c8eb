use Rattle.machine_standard_saves.proofs.Answering.{succeeds_at}
use Rattle.machine_standard_saves.proofs.answers.can_succeed.Goals as goal

pub returns : goal.returns
returns c =
    succeeds_at c.can_answer.result c.args.form c.args.store.now.store c.place_in.result c.place_in.ensures.place
    c.can_answer.ensures.can
