use Rattle.zcore_versions.specs.Performing.{perform}
use Rattle.zcore_versions.specs.Versions.{versioned}
use Rattle.machine_frames.proofs.Steps.{told_went}
use Rattle.machine_standard_windows.specs.TurnState.{place}
use Rattle.machine_standard_windows.proofs.TurnTexts.{keeps_still}
use Rattle.machine_versions_steps.proofs.Performing.{silent_within}
use Rattle.machine_versions_steps.proofs.perform.perform_older.Goals as goal

pub returns-in-Read-clause-told : goal.returns-in-Read-clause-told
unfolding perform
returns-in-Read-clause-told c = rw c.in-Read.is (c.read_line.ensures.told c.args.version c.args.here)

pub returns-in-Save-clause-told : goal.returns-in-Save-clause-told
unfolding perform
returns-in-Save-clause-told c = rw c.in-Save.is c.use_file.ensures.told

pub returns-in-Restore-clause-told : goal.returns-in-Restore-clause-told
unfolding perform
returns-in-Restore-clause-told c = rw c.in-Restore.is c.use_file-in-Restore.ensures.told

pub returns-in_default-clause-told : goal.returns-in_default-clause-told
returns-in_default-clause-told c =
    silent_within _ (versioned c.args.loaded.now c.args.version) c.args.operation (place c.args.turn.now c.args.here)
    c.args.ending.after c.args.ending.result c.args.ending.branch c.args.values.now c.in_default.not-Read
    c.in_default.not-Save c.in_default.not-Restore
    (told_went _ _ (c.perform_silent.ensures c.args.loaded.now))

pub returns-in_default-clause-text : goal.returns-in_default-clause-text
returns-in_default-clause-text c = keeps_still _ _ c.requires.text
