use Rattle.std.proofs.Common.{refl}
use Rattle.machine_frames.proofs.Steps.{went_then, went_no_further, went_err, went_sound, went_still}
use Rattle.zcore_standard.specs.Forgiving.{put_any_property}
use Rattle.machine_standard_objects.proofs.forgiving.put_any_property.Goals as goal

pub returns-in_err-found : goal.returns-in_err-found
unfolding put_any_property
returns-in_err-found c = went_err _ c.from_residual.ensures.1 (went_no_further _ c.in_err-found.ensures.went)

pub returns-in_err-write_first_word : goal.returns-in_err-write_first_word
unfolding put_any_property
returns-in_err-write_first_word c = went_err _ c.from_residual-in_err-write_first_word.ensures.1
    (went_then _ c.in_ok-found.ensures.went (went_no_further _ c.in_err-write_first_word.ensures))

pub returns : goal.returns
unfolding put_any_property
returns c = went_then _ c.in_ok-found.ensures.went
    (went_then _ c.in_ok-write_first_word.ensures
    (went_still _ _ (went_sound c.in_ok-write_first_word.ensures) (λ t. refl)))
