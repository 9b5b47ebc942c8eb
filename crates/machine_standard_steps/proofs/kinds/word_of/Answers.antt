use Rattle.std.proofs.Common.{refl}
use Rattle.zcore_standard.specs.Performing.{perform_keeping}
use Rattle.zcore_standard.specs.Shifts.{log_shift, art_shift}
use Rattle.zcore_standard.specs.Screen.{set_font}
use Rattle.zcore_standard.specs.Unicode.{check_unicode}
use Rattle.machine_standard_steps.proofs.kinds.word_of.Goals as goal

pub returns-in-LogShift-clause-some : goal.returns-in-LogShift-clause-some
unfolding perform_keeping log_shift
returns-in-LogShift-clause-some c = λ here after into branch. rw (c.in-LogShift.is, c.shifted.ensures) refl

pub returns-in-ArtShift-clause-some : goal.returns-in-ArtShift-clause-some
unfolding perform_keeping art_shift
returns-in-ArtShift-clause-some c = λ here after into branch. rw (c.in-ArtShift.is, c.shifted_with_sign.ensures) refl

pub returns-in-SetFont-clause-some : goal.returns-in-SetFont-clause-some
unfolding perform_keeping set_font
returns-in-SetFont-clause-some c = λ here after into branch. rw (c.in-SetFont.is, c.font_of.ensures) refl

pub returns-in-CheckUnicode-clause-some : goal.returns-in-CheckUnicode-clause-some
unfolding perform_keeping check_unicode
returns-in-CheckUnicode-clause-some c = λ here after into branch.
    rw (c.in-CheckUnicode.is, c.abilities.ensures, c.characters.ensures) refl
