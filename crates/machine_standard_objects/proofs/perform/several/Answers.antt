use Rattle.std.proofs.Common.{ap, sym, ◌∙◌}
use Rattle.zcore.specs.Execution.{perform}
use Rattle.zcore_standard.specs.Printing.{is_text, perform_text}
use Rattle.machine_frames.proofs.Steps.{told_went}
use Rattle.machine_standard_objects.proofs.Performing.{nothing_went, flags_went, forgiven_went, known_told, text_told, several_plain}
use Rattle.machine_standard_objects.proofs.perform.several.Goals as goal

pub returns-then-concerns_nothing-clause-told : goal.returns-then-concerns_nothing-clause-told
returns-then-concerns_nothing-clause-told c = told_went _ _
    (nothing_went c.args.loaded.now c.args.operation c.args.here c.args.ending.after c.args.ending.result
    c.args.ending.branch c.args.values.now _ (sym c.concerns_nothing.ensures ∙ c.if-concerns_nothing.true)
    c.perform_on_nothing.ensures)

pub returns-then-concerns_flags-clause-told : goal.returns-then-concerns_flags-clause-told
returns-then-concerns_flags-clause-told c = told_went _ _
    (flags_went c.args.loaded.now c.args.operation c.args.here c.args.ending.after c.args.ending.result
    c.args.ending.branch c.args.values.now _ (sym c.concerns_nothing.ensures ∙ c.if-concerns_nothing.false)
    (sym c.concerns_flags.ensures ∙ c.if-concerns_flags.true) c.perform_on_flags.ensures)

pub returns-then-may_be_forgiven-clause-told : goal.returns-then-may_be_forgiven-clause-told
returns-then-may_be_forgiven-clause-told c = told_went _ _
    (forgiven_went c.args.loaded.now c.args.operation c.args.here c.args.ending.after c.args.ending.result
    c.args.ending.branch c.args.values.now _ (sym c.concerns_nothing.ensures ∙ c.if-concerns_nothing.false)
    (sym c.concerns_flags.ensures ∙ c.if-concerns_flags.false)
    (sym c.may_be_forgiven.ensures ∙ c.if-may_be_forgiven.true) c.perform_forgiving.ensures)

pub returns-in-PrintCharacter-clause-told : goal.returns-in-PrintCharacter-clause-told
unfolding perform perform_text
returns-in-PrintCharacter-clause-told c =
    let e = c.in-PrintCharacter.is in
    text_told c.args.loaded.now c.args.operation c.args.here c.args.ending.after c.args.ending.result
    c.args.ending.branch c.args.values.now _ (sym c.concerns_nothing.ensures ∙ c.if-concerns_nothing.false)
    (sym c.concerns_flags.ensures ∙ c.if-concerns_flags.false) (ap is_text e)
    (rw e c.print_character.ensures.told)

pub returns-in_default-clause-told : goal.returns-in_default-clause-told
returns-in_default-clause-told c = known_told c.args.loaded.now c.args.operation c.args.here c.args.ending.after
    c.args.ending.result c.args.ending.branch c.args.values.now _
    (sym c.concerns_nothing.ensures ∙ c.if-concerns_nothing.false)
    (sym c.concerns_flags.ensures ∙ c.if-concerns_flags.false)
    (sym c.may_be_forgiven.ensures ∙ c.if-may_be_forgiven.false)
    (several_plain c.args.operation c.requires.count c.in_default.not-PrintCharacter) c.perform_several.ensures.told
