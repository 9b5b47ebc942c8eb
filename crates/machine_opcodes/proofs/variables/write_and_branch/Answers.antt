use Rattle.zcore.specs.Execution.{write_and_branch}
use Rattle.machine_frames.proofs.Steps.{went_then, went_no_further, went_err, went_store}
use Rattle.machine_opcodes.proofs.variables.write_and_branch.Goals as goal

pub branch_on-requires-clause-store : goal.branch_on-requires-clause-store
branch_on-requires-clause-store c = went_store c.requires.store c.in_ok-write_in_place.ensures

pub returns-in_err-test_branch : goal.returns-in_err-test_branch
unfolding write_and_branch
returns-in_err-test_branch c = went_err _ c.from_residual.ensures.1 (went_no_further _ c.in_err-test_branch.ensures)

pub returns-in_err-write_in_place : goal.returns-in_err-write_in_place
unfolding write_and_branch
returns-in_err-write_in_place c = went_err _ c.from_residual-in_err-write_in_place.ensures.1
    (went_then _ c.in_ok-test_branch.ensures (went_no_further _ c.in_err-write_in_place.ensures))

pub returns : goal.returns
unfolding write_and_branch
returns c = went_then _ c.in_ok-test_branch.ensures (went_then _ c.in_ok-write_in_place.ensures c.branch_on.ensures)
