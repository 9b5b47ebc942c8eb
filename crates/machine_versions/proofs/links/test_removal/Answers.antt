use Rattle.machine_frames.proofs.Steps.{went_then, went_no_further, went_err}
use Rattle.zcore_versions.specs.SmallObjects.{test_removal}
use Rattle.machine_versions.proofs.links.test_removal.Goals as goal

pub returns-in_err-test_object-clause-tested : goal.returns-in_err-test_object-clause-tested
unfolding test_removal
returns-in_err-test_object-clause-tested c = went_err _ c.from_residual.ensures.1
    (went_no_further _ c.in_err-test_object.ensures.tested)

pub returns-in_err-parent-clause-tested : goal.returns-in_err-parent-clause-tested
unfolding test_removal
returns-in_err-parent-clause-tested c = went_err _ c.from_residual-in_err-parent.ensures.1
    (went_then _ c.in_ok-test_object.ensures.tested (went_no_further _ c.in_err-parent.ensures))

pub returns-clause-tested : goal.returns-clause-tested
unfolding test_removal
returns-clause-tested c = went_then _ c.in_ok-test_object.ensures.tested
    (went_then _ c.in_ok-parent.ensures c.test_link.ensures)
