use Rattle.zcore_standard.specs.Streams.{begin_read}
use Rattle.machine_frames.proofs.Steps.{told_err, told_no_further, told_sound, told_then}
use Rattle.machine_standard_windows.proofs.TurnTexts.{keeps_after, keeps_begun}
use Rattle.machine_standard_opcodes.proofs.reads.begin_read.Goals as goal

pub returns-in_err-close_all-clause-told : goal.returns-in_err-close_all-clause-told
unfolding begin_read
returns-in_err-close_all-clause-told c = λ next. told_err _ c.from_residual.ensures.1 (told_no_further _
    (rw (c.characters.ensures, c.as_slice-streams.ensures.value) at c.in_err-close_all.ensures.told))

pub show_upper-requires-clause-sound : goal.show_upper-requires-clause-sound
show_upper-requires-clause-sound c = told_sound c.in_ok-close_all.ensures.told

pub show_upper-requires-clause-text : goal.show_upper-requires-clause-text
show_upper-requires-clause-text c = keeps_begun c.close_all.ensures.text

pub returns-clause-told : goal.returns-clause-told
unfolding begin_read
returns-clause-told c = λ next. told_then _
    (rw (c.characters.ensures, c.as_slice-streams.ensures.value) at c.in_ok-close_all.ensures.told)
    (c.show_upper.ensures.told next)

pub returns-clause-text : goal.returns-clause-text
returns-clause-text c = keeps_after c.close_all.ensures.text c.show_upper.ensures.text
