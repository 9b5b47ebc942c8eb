use Rattle.std.proofs.Common.{refl}
use Rattle.zcore_versions.specs.Printing.{print_inline}
use Rattle.machine_frames.proofs.Steps.{went_no_further, went_sound, told_went, told_then, told_no_further, told_err}
use Rattle.machine_frames.proofs.Steps.{told_still, told_sound}
use Rattle.machine_standard_texts.proofs.Adding.{told_back}
use Rattle.machine_standard_texts.proofs.Printed.{grew_by, on_begun}
use Rattle.machine_locked_texts.proofs.printing.print_inline.Goals as goal

pub finish-requires : goal.finish-requires
finish-requires c = went_sound c.in_ok-added.ensures.adds.1

pub returns-in_err-added-clause-told : goal.returns-in_err-added-clause-told
unfolding print_inline
returns-in_err-added-clause-told c =
    told_err _ c.from_residual.ensures.1
    (told_back c.args.start c.args.text.now.items c.add_text.new.text.items c.in_err-added.ensures.adds.1
    (told_went _ _ (went_no_further _ c.in_err-added.ensures.adds.0)))

pub returns-in_err-added-clause-text : goal.returns-in_err-added-clause-text
returns-in_err-added-clause-text c = grew_by c.requires.text c.add_text.ensures.text

pub returns-in_err-finish-clause-told : goal.returns-in_err-finish-clause-told
unfolding print_inline
returns-in_err-finish-clause-told c =
    told_err _ c.from_residual-in_err-finish.ensures.1
    (told_then _ (told_went _ _ c.in_ok-added.ensures.adds.1)
    (told_no_further _
    (c.in_err-finish.ensures _ _ _ (on_begun _ c.in_ok-added.ensures.adds.2))))

pub returns-in_err-finish-clause-text : goal.returns-in_err-finish-clause-text
returns-in_err-finish-clause-text c = grew_by c.requires.text c.add_text.ensures.text

pub returns-clause-told : goal.returns-clause-told
unfolding print_inline
returns-clause-told c =
    let told = c.in_ok-finish.ensures _ _ _ (on_begun _ c.in_ok-added.ensures.adds.2) in
    told_then _ (told_went _ _ c.in_ok-added.ensures.adds.1)
    (told_then _ told (told_still _ _ _ (told_sound told) refl))

pub returns-clause-text : goal.returns-clause-text
returns-clause-text c = grew_by c.requires.text c.add_text.ensures.text
