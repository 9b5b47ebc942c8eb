use Rattle.std.proofs.Common.{sym, ◌∙◌}
use Rattle.machine_frames.proofs.Steps.{told_went}
use Rattle.zcore_versions.specs.Versions.{versioned}
use Rattle.machine_versions_steps.proofs.Performing.{on_none, on_some}
use Rattle.machine_versions_steps.proofs.perform.perform_known.Goals as goal

pub returns-then-concerns_nothing-clause-told : goal.returns-then-concerns_nothing-clause-told
returns-then-concerns_nothing-clause-told c =
    told_went _ _
    (on_none _ (versioned c.args.loaded.now c.args.version) c.args.operation c.args.here c.args.ending.after
    c.args.ending.result c.args.ending.branch c.args.values.now
    (sym c.concerns_nothing.ensures ∙ c.if-concerns_nothing.true) c.perform_on_none.ensures)

pub returns-clause-told : goal.returns-clause-told
returns-clause-told c =
    on_some _ (versioned c.args.loaded.now c.args.version) c.args.operation c.args.here c.args.ending.after
    c.args.ending.result c.args.ending.branch c.args.values.now
    (sym c.concerns_nothing.ensures ∙ c.if-concerns_nothing.false) c.perform_other.ensures.told
