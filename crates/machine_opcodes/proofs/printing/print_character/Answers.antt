use Rattle.std.proofs.Common.{sym, ◌∙◌}
use Rattle.zcore.specs.Execution.{print_character}
use Rattle.machine_opcodes.proofs.Operating.{test_failed}
use Rattle.machine_opcodes.proofs.Transcripts.{told_passed}
use Rattle.machine_frames.proofs.Steps.{told_went}
use Rattle.machine_opcodes.proofs.printing.print_character.Goals as goal

pub returns-then-not-is_output-clause-told : goal.returns-then-not-is_output-clause-told
unfolding print_character
returns-then-not-is_output-clause-told c = told_went _ _
    (test_failed _ _ _ _ c.requires.sound (sym c.is_output.ensures ∙ c.if-not-is_output.true))

pub returns-clause-told : goal.returns-clause-told
unfolding print_character
returns-clause-told c = told_passed _ _ _ (sym c.is_output.ensures ∙ c.if-not-is_output.false)
    c.print_characters.ensures.told
