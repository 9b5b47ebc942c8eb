use Rattle.std.proofs.Common.{refl}
use Rattle.zcore_standard.specs.Unicode.{print_unicode}
use Rattle.machine_frames.proofs.Steps.{told_then, told_no_further, told_err, told_still, told_sound}
use Rattle.machine_standard_opcodes.proofs.unicode.print_unicode.Goals as goal

pub returns-in_err-print_transcript-clause-told : goal.returns-in_err-print_transcript-clause-told
unfolding print_unicode
returns-in_err-print_transcript-clause-told c = told_err _ c.from_residual.ensures.1
    (told_no_further _ c.in_err-print_transcript.ensures.told)

pub returns-clause-told : goal.returns-clause-told
unfolding print_unicode
returns-clause-told c = told_then _ c.in_ok-print_transcript.ensures.told
    (told_still _ _ _ (told_sound c.in_ok-print_transcript.ensures.told) refl)
