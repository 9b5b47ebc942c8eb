use Rattle.std.proofs.Common.{Ok, Err}
use Rattle.machine_standard_windows.specs.TurnState.{place}
use Rattle.machine_standard_saves.proofs.KeptFiles.{newest_restored, none_restored, went_seen_err, without_kept}
use Rattle.machine_standard_saves.proofs.restoring.restore_undo.Goals as goal

pub returns-in_default-clause-went : goal.returns-in_default-clause-went
returns-in_default-clause-went c =
    none_restored c.give_result.result c.args.loaded.now (place c.args.turn.now c.args.here) c.args.after c.args.variable
    c.in_default.ensures c.give_result.ensures

pub returns-in_err-next-clause-went : goal.returns-in_err-next-clause-went
returns-in_err-next-clause-went c =
    went_seen_err (place c.args.turn.now) _ c.from_residual.ensures.1
    (newest_restored (Err _) c.args.loaded.now (place c.args.turn.now c.args.here) c.args.after c.args.variable
    c.in-Some.file.now c.in-Some.ensures c.in_err-next.ensures)

pub returns-clause-went : goal.returns-clause-went
returns-clause-went c =
    without_kept c.args.turn.now c.args.here c.in_ok-next.next _ _ c.drop_newest.ensures
    (newest_restored (Ok c.in_ok-next.next) c.args.loaded.now (place c.args.turn.now c.args.here) c.args.after
    c.args.variable c.in-Some.file.now c.in-Some.ensures c.in_ok-next.ensures)
