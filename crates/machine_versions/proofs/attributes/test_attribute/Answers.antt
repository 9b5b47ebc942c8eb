use Rattle.std.proofs.Common.{◌∙◌}
use Rattle.machine_frames.proofs.Steps.{went_then, went_no_further, went_err}
use Rattle.zcore_versions.specs.SmallObjects.{test_attribute}
use Rattle.machine_small_entries.proofs.SmallEntries.{branch_if, set_by_remainder}
use Rattle.machine_versions.proofs.attributes.test_attribute.Goals as goal

pub returns-in_err-byte : goal.returns-in_err-byte
unfolding test_attribute
returns-in_err-byte c = went_err _ c.from_residual.ensures.1 (went_no_further _ c.in_err-byte.ensures)

pub returns : goal.returns
unfolding test_attribute
returns c = went_then _ c.in_ok-byte.ensures
    (branch_if c.args.here c.args.after c.args.branch _ _
    (c.is_set-holds.ensures ∙ set_by_remainder _ c.args.attribute) c.branch_on.ensures)
