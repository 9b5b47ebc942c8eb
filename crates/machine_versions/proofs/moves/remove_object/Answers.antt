use Rattle.std.proofs.Common.{refl}
use Rattle.machine_frames.proofs.Steps.{went_then, went_no_further, went_err, went_sound, went_still}
use Rattle.zcore_versions.specs.SmallObjects.{remove_object}
use Rattle.machine_versions.proofs.moves.remove_object.Goals as goal

pub returns-in_err-link : goal.returns-in_err-link
unfolding remove_object
returns-in_err-link c = went_err _ c.from_residual.ensures.1 (went_no_further _ c.in_err-link.ensures.tested)

pub returns-in_err-unlink : goal.returns-in_err-unlink
unfolding remove_object
returns-in_err-unlink c = went_err _ c.from_residual-in_err-unlink.ensures.1
    (went_then _ c.in_ok-link.ensures.tested (went_no_further _ c.in_err-unlink.ensures))

pub returns : goal.returns
unfolding remove_object
returns c = went_then _ c.in_ok-link.ensures.tested
    (went_then _ c.in_ok-unlink.ensures (went_still _ _ (went_sound c.in_ok-unlink.ensures) (λ t. refl)))
