use Rattle.std.proofs.Common.{◌-◌, arith}
use Rattle.zcore.specs.Effects.{give_result}
use Rattle.machine_frames.proofs.Steps.{told_went}
use Rattle.machine_standard_saves.proofs.GivenFiles.{empty_by, some_by}
use Rattle.machine_standard_saves.proofs.Prompts.{not_paused, paused}
use Rattle.machine_standard_windows.specs.TurnState.{place}
use Rattle.machine_standard_windows.proofs.TurnTexts.{keeps_still}
use Rattle.machine_standard_steps.proofs.Doing.{saves_part, saves_whole}
use Rattle.machine_standard_steps.proofs.saving.use_file.Goals as goal

pub returns-then-not-is_empty-clause-told : goal.returns-then-not-is_empty-clause-told
returns-then-not-is_empty-clause-told c =
    saves_part c.give_result.result c.args.loaded.now c.args.purpose (place c.args.turn.now c.args.here)
    c.args.ending.after c.args.ending.result c.args.values.now
    (some_by c.args.values.now _ c.is_empty.ensures c.if-not-is_empty.true) (told_went _ _ c.give_result.ensures)

pub returns-then-not-is_empty-clause-text : goal.returns-then-not-is_empty-clause-text
returns-then-not-is_empty-clause-text c = keeps_still _ _ c.requires.text

pub pause-requires-clause-at : goal.pause-requires-clause-at
pause-requires-clause-at c = omega (arith, c.saturating_sub-at.ensures, c.requires.after)

pub returns-in-Some-clause-told : goal.returns-in-Some-clause-told
returns-in-Some-clause-told c =
    saves_whole _ c.args.loaded.now c.args.purpose (place c.args.turn.now c.args.here) c.args.ending.after
    c.args.ending.result c.args.values.now (empty_by c.args.values.now _ c.is_empty.ensures c.if-not-is_empty.false)
    (paused _ c.args.loaded.now _ c.args.purpose (place c.args.turn.now c.args.here) (c.args.ending.after - 1)
    c.args.ending.result (give_result c.args.here c.args.ending.after c.args.ending.result 0) c.in-Some.ensures
    (rw c.saturating_sub-at.ensures at (c.pause.ensures.told c.args.here)))

pub returns-in-None-clause-told : goal.returns-in-None-clause-told
returns-in-None-clause-told c =
    saves_whole _ c.args.loaded.now c.args.purpose (place c.args.turn.now c.args.here) c.args.ending.after
    c.args.ending.result c.args.values.now (empty_by c.args.values.now _ c.is_empty.ensures c.if-not-is_empty.false)
    (not_paused c.give_result-in-None.result c.args.loaded.now c.args.purpose (place c.args.turn.now c.args.here)
    (c.args.ending.after - 1) c.args.ending.result (give_result c.args.here c.args.ending.after c.args.ending.result 0)
    c.in-None.ensures (told_went _ _ c.give_result-in-None.ensures))

pub returns-in-None-clause-text : goal.returns-in-None-clause-text
returns-in-None-clause-text c = keeps_still _ _ c.requires.text
