use Rattle.machine_frames.proofs.Steps.{went_err}
use Rattle.machine_standard_saves.proofs.Answering.{branch_goes, branch_stops}
use Rattle.machine_standard_saves.proofs.answers.give_branch.Goals as goal

pub returns-in_err-branch : goal.returns-in_err-branch
returns-in_err-branch c =
    went_err _ c.from_residual.ensures.1
    (branch_stops _ c.args.store.now c.args.place c.args.word c.args.fuel c.requires.sound c.in_err-branch.ensures)

pub returns : goal.returns
returns c =
    branch_goes c.branch_on.result _ c.args.place _ _ c.args.word c.args.fuel c.in_ok-branch.ensures
    c.saturating_sub.ensures c.branch_on.ensures
