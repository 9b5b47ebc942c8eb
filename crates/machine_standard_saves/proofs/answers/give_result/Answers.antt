use Rattle.machine_frames.proofs.Steps.{went_err}
use Rattle.machine_standard_saves.proofs.Answering.{result_given, result_not_given}
use Rattle.machine_standard_saves.proofs.answers.give_result.Goals as goal

pub returns-in_err-store_result : goal.returns-in_err-store_result
returns-in_err-store_result c =
    went_err _ c.from_residual.ensures.1
    (result_not_given c.args.place c.args.word c.args.fuel c.byte_at-variable.result c.byte_at-variable.ensures
    c.in_err-store_result.ensures)

pub returns : goal.returns
returns c =
    result_given c.args.place c.args.word c.args.fuel c.byte_at-variable.result c.byte_at-variable.ensures
    c.in_ok-store_result.ensures
