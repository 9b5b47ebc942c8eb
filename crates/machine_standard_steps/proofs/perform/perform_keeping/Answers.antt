use Rattle.std.proofs.Common.{sym, ◌∙◌}
use Rattle.zcore_standard.specs.Performing.{perform_keeping}
use Rattle.machine_frames.proofs.Steps.{told_went}
use Rattle.machine_standard_steps.proofs.Doing.{does_nothing_told, gives_word_told, branches_told, quiet}
use Rattle.machine_standard_steps.proofs.perform.perform_keeping.Goals as goal

pub returns-then-does_nothing-clause-told : goal.returns-then-does_nothing-clause-told
returns-then-does_nothing-clause-told c = does_nothing_told _ _ c.args.loaded.now c.args.operation c.args.here
    c.args.ending.after c.args.ending.result c.args.ending.branch c.args.values.now c.requires.store.sound
    (sym c.does_nothing.ensures ∙ c.if-does_nothing.true)

pub returns-in-Some-clause-told : goal.returns-in-Some-clause-told
returns-in-Some-clause-told c = gives_word_told _ _ c.args.loaded.now c.args.operation c.args.here
    c.args.ending.after c.args.ending.result c.args.ending.branch c.args.values.now c.in-Some.word
    c.in-Some.ensures.some c.give_result.ensures

pub returns-in-Some-condition_of-clause-told : goal.returns-in-Some-condition_of-clause-told
returns-in-Some-condition_of-clause-told c = branches_told _ _ c.args.loaded.now c.args.operation c.args.here
    c.args.ending.after c.args.ending.result c.args.ending.branch c.args.values.now c.in-Some-condition_of.holds
    (c.in-Some-condition_of.ensures.some c.args.values.now) c.branch_on.ensures

pub returns-in-PrintUnicode-clause-told : goal.returns-in-PrintUnicode-clause-told
unfolding perform_keeping
returns-in-PrintUnicode-clause-told c = rw c.in-PrintUnicode.is c.print_unicode.ensures.told

pub perform_quietly-requires-clause-quiet : goal.perform_quietly-requires-clause-quiet
perform_quietly-requires-clause-quiet c = quiet c.args.operation (sym c.does_nothing.ensures ∙ c.if-does_nothing.false)
    c.in_default.ensures.none c.in_default-condition_of.ensures.none c.in_default-operation.not-PrintUnicode

pub returns-in_default-operation-clause-told : goal.returns-in_default-operation-clause-told
returns-in_default-operation-clause-told c = told_went _ _ c.perform_quietly.ensures
