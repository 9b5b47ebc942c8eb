use Rattle.zcore_standard.specs.Saving.{test_success}
use Rattle.machine_standard_saves.proofs.Answering.{is_impossible, is_possible}
use Rattle.machine_standard_saves.proofs.answers.can_answer.Goals as goal

pub returns-in-Ok-clause-can : goal.returns-in-Ok-clause-can
returns-in-Ok-clause-can c =
    is_possible c.args.store.now (test_success c.args.form c.args.place) c.in-Ok.ensures

pub returns-in-Err-Stop-clause-can : goal.returns-in-Err-Stop-clause-can
returns-in-Err-Stop-clause-can c =
    is_impossible c.args.store.now _ (test_success c.args.form c.args.place)
    (rw c.in-Err-Stop.field-0-is at c.in-Err-Stop.ensures)

pub returns-in-Err-Memory-clause-given_up : goal.returns-in-Err-Memory-clause-given_up
returns-in-Err-Memory-clause-given_up c = (rw c.in-Err-Memory.field-0-is at c.in-Err-Memory.ensures).did
