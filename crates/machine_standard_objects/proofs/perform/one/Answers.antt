use Rattle.std.proofs.Common.{[], ◌∷◌, ap, sym, ◌∙◌}
use Rattle.zcore.specs.Execution.{perform}
use Rattle.zcore_standard.specs.Printing.{is_text, perform_text}
use Rattle.machine_frames.proofs.Steps.{told_went}
use Rattle.machine_standard_objects.proofs.Performing.{nothing_went, known_told, text_told, is_several, no_flags, one_plain}
use Rattle.machine_standard_objects.proofs.Performing.{is_one_or_none, unforgiven}
use Rattle.machine_standard_objects.proofs.perform.one.Goals as goal

pub returns-then-concerns_nothing-clause-told : goal.returns-then-concerns_nothing-clause-told
returns-then-concerns_nothing-clause-told c = told_went _ _
    (nothing_went c.args.loaded.now c.args.operation c.args.here c.args.ending.after c.args.ending.result
    c.args.ending.branch (c.args.x ∷ []) _ (sym c.concerns_nothing.ensures ∙ c.if-concerns_nothing.true)
    c.perform_on_nothing.ensures)

pub returns-in-PrintAddress-clause-told : goal.returns-in-PrintAddress-clause-told
unfolding perform perform_text
returns-in-PrintAddress-clause-told c =
    let e = c.in-PrintAddress.is in
    text_told c.args.loaded.now c.args.operation c.args.here c.args.ending.after c.args.ending.result
    c.args.ending.branch (c.args.x ∷ []) _ (sym c.concerns_nothing.ensures ∙ c.if-concerns_nothing.false)
    (no_flags c.args.operation _ (ap is_several c.requires.count)) (ap is_text e)
    (rw e c.print_address.ensures.told)

pub returns-in-PrintPacked-clause-told : goal.returns-in-PrintPacked-clause-told
unfolding perform perform_text
returns-in-PrintPacked-clause-told c =
    let e = c.in-PrintPacked.is in
    text_told c.args.loaded.now c.args.operation c.args.here c.args.ending.after c.args.ending.result
    c.args.ending.branch (c.args.x ∷ []) _ (sym c.concerns_nothing.ensures ∙ c.if-concerns_nothing.false)
    (no_flags c.args.operation _ (ap is_several c.requires.count)) (ap is_text e)
    (rw e c.print_packed.ensures.told)

pub returns-in-PrintObject-clause-told : goal.returns-in-PrintObject-clause-told
unfolding perform perform_text
returns-in-PrintObject-clause-told c =
    let e = c.in-PrintObject.is in
    text_told c.args.loaded.now c.args.operation c.args.here c.args.ending.after c.args.ending.result
    c.args.ending.branch (c.args.x ∷ []) _ (sym c.concerns_nothing.ensures ∙ c.if-concerns_nothing.false)
    (no_flags c.args.operation _ (ap is_several c.requires.count)) (ap is_text e)
    (rw e c.print_object.ensures.told)

pub returns-in_default-clause-told : goal.returns-in_default-clause-told
returns-in_default-clause-told c = known_told c.args.loaded.now c.args.operation c.args.here c.args.ending.after
    c.args.ending.result c.args.ending.branch (c.args.x ∷ []) _
    (sym c.concerns_nothing.ensures ∙ c.if-concerns_nothing.false)
    (no_flags c.args.operation _ (ap is_several c.requires.count))
    (unforgiven c.args.operation _ (ap is_one_or_none c.requires.count))
    (one_plain c.args.operation c.requires.count c.in_default.not-PrintAddress c.in_default.not-PrintPacked
    c.in_default.not-PrintObject) c.perform_one.ensures.told
