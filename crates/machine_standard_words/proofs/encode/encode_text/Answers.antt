use Rattle.std.proofs.Common.{refl}
use Rattle.zcore_standard.specs.Words.{encode_text}
use Rattle.machine_frames.proofs.Steps.{went_then, went_no_further, went_err, went_sound, went_still}
use Rattle.machine_standard_words.proofs.encode.encode_text.Goals as goal

pub returns-in_err-form : goal.returns-in_err-form
unfolding encode_text
returns-in_err-form c = went_err _ c.from_residual.ensures.1 (went_no_further _ c.in_err-form.ensures)

pub returns-in_err-write_form : goal.returns-in_err-write_form
unfolding encode_text
returns-in_err-write_form c = went_err _ c.from_residual-in_err-write_form.ensures.1
    (went_then _ c.in_ok-form.ensures (went_no_further _ c.in_err-write_form.ensures))

pub returns : goal.returns
unfolding encode_text
returns c = went_then _ c.in_ok-form.ensures
    (went_then _ c.in_ok-write_form.ensures (went_still _ _ (went_sound c.in_ok-write_form.ensures) (λ t. refl)))
