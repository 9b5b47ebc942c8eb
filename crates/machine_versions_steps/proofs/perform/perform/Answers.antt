use Rattle.zcore_standard.specs.Windows.{split_window}
use Rattle.zcore_versions.specs.Performing.{perform}
use Rattle.zcore_versions.specs.Versions.{versioned}
use Rattle.machine_standard_windows.specs.TurnState.{place}
use Rattle.machine_standard_windows.proofs.Drawing.{redraws_told}
use Rattle.machine_standard_windows.proofs.TurnTexts.{keeps_still, keeps_grew}
use Rattle.machine_versions_steps.proofs.Performing.{known_within, missing_halts}
use Rattle.machine_versions_steps.proofs.perform.perform.Goals as goal

pub perform_known-requires-clause-differs : goal.perform_known-requires-clause-differs
perform_known-requires-clause-differs c = rw c.in-Known.is at c.requires.differs

pub returns-in-Known-clause-told : goal.returns-in-Known-clause-told
returns-in-Known-clause-told c =
    rw c.in-Known.is
    (known_within _ (versioned c.args.loaded.now c.args.version) c.in-Known.known (place c.args.turn.now c.args.here)
    c.args.ending.after c.args.ending.result c.args.ending.branch c.args.values.now c.perform_known.ensures.told)

pub returns-in-Known-clause-text : goal.returns-in-Known-clause-text
returns-in-Known-clause-text c = keeps_grew c.requires.text c.perform_known.ensures.text

pub returns-in-SplitWindow-clause-told : goal.returns-in-SplitWindow-clause-told
unfolding perform
returns-in-SplitWindow-clause-told c = rw c.in-SplitWindow.is
    (redraws_told _ c.args.start c.args.turn.now c.split_window.new.turn _ _ (λ here. split_window here 0) _
    c.requires.store.sound c.split_window.ensures.redraws)

pub returns-in-Missing-clause-told : goal.returns-in-Missing-clause-told
returns-in-Missing-clause-told c = rw c.in-Missing.is
    (missing_halts _ (versioned c.args.loaded.now c.args.version) (place c.args.turn.now c.args.here) c.args.ending.after
    c.args.ending.result c.args.ending.branch c.args.values.now c.requires.store.sound)

pub returns-in-Missing-clause-text : goal.returns-in-Missing-clause-text
returns-in-Missing-clause-text c = keeps_still _ _ c.requires.text

pub returns-in-Older-clause-told : goal.returns-in-Older-clause-told
returns-in-Older-clause-told c = rw c.in-Older.is c.perform_older.ensures.told
