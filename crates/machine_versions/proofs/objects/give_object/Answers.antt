use Rattle.machine_frames.proofs.Steps.{went_then, went_no_further, went_err, went_store}
use Rattle.zcore.specs.Objects.{give_object}
use Rattle.machine_versions.proofs.objects.give_object.Goals as goal

pub returns-in_err-test_result : goal.returns-in_err-test_result
unfolding give_object
returns-in_err-test_result c = went_err _ c.from_residual.ensures.1 (went_no_further _ c.in_err-test_result.ensures)

pub returns-in_err-test_branch : goal.returns-in_err-test_branch
unfolding give_object
returns-in_err-test_branch c = went_err _ c.from_residual-in_err-test_branch.ensures.1
    (went_then _ c.in_ok-test_result.ensures (went_no_further _ c.in_err-test_branch.ensures))

pub returns-in_err-store_result : goal.returns-in_err-store_result
unfolding give_object
returns-in_err-store_result c =
    went_err _ c.from_residual-in_err-store_result.ensures.1
    (went_then _ c.in_ok-test_result.ensures
    (went_then _ c.in_ok-test_branch.ensures (went_no_further _ c.in_err-store_result.ensures)))

pub branch_on-requires-clause-store : goal.branch_on-requires-clause-store
branch_on-requires-clause-store c = went_store c.requires.store c.in_ok-store_result.ensures

pub returns : goal.returns
unfolding give_object
returns c = went_then _ c.in_ok-test_result.ensures
    (went_then _ c.in_ok-test_branch.ensures (went_then _ c.in_ok-store_result.ensures c.branch_on.ensures))
