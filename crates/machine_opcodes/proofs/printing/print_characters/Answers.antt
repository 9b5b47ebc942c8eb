use Rattle.std.proofs.Common.{refl}
use Rattle.zcore.specs.Execution.{print_characters}
use Rattle.machine_frames.proofs.Steps.{told_then, told_no_further, told_err, told_still, told_sound}
use Rattle.machine_opcodes.proofs.printing.print_characters.Goals as goal

pub returns-in_err-print-clause-told : goal.returns-in_err-print-clause-told
unfolding print_characters
returns-in_err-print-clause-told c = told_err _ c.from_residual.ensures.1
    (told_no_further _ c.in_err-print.ensures.told)

pub returns-clause-told : goal.returns-clause-told
unfolding print_characters
returns-clause-told c = told_then _ c.in_ok-print.ensures.told
    (told_still _ _ _ (told_sound c.in_ok-print.ensures.told) refl)
