use Rattle.std.proofs.Common.{refl}
use Rattle.zcore_standard.specs.Windows.{show_upper}
use Rattle.machine_frames.proofs.Steps.{told_still}
use Rattle.machine_standard_windows.proofs.TurnTexts.{keeps_still}
use Rattle.machine_standard_windows.proofs.windows.show_upper.Goals as goal

pub returns-in-None-clause-told : goal.returns-in-None-clause-told
unfolding show_upper
returns-in-None-clause-told c = λ next. told_still _ _ _ c.requires.sound (rw c.in-None.is refl)

pub returns-in-None-clause-text : goal.returns-in-None-clause-text
returns-in-None-clause-text c = keeps_still _ _ c.requires.text

pub returns-in-Some-clause-told : goal.returns-in-Some-clause-told
unfolding show_upper
returns-in-Some-clause-told c = λ next. rw c.in-Some.is c.show_or_drop.ensures.told
