use Rattle.std.proofs.Common.{refl}
use Rattle.zcore_versions.specs.Performing.{drop_word}
use Rattle.machine_frames.proofs.Steps.{went_err, went_no_further, went_sound, went_still, went_then}
use Rattle.machine_versions_steps.proofs.perform.drop_word.Goals as goal

pub returns-in_err-pop : goal.returns-in_err-pop
unfolding drop_word
returns-in_err-pop c = went_err _ c.from_residual.ensures.1 (went_no_further _ c.in_err-pop.ensures)

pub returns : goal.returns
unfolding drop_word
returns c = went_then _ c.in_ok-pop.ensures (went_still _ _ (went_sound c.in_ok-pop.ensures) (λ x. refl))
