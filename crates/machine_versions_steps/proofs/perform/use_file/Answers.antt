use Rattle.std.proofs.Common.{◌+◌, arith}
use Rattle.zcore_versions.specs.Performing.{fail}
use Rattle.zcore_versions.specs.Versions.{versioned}
use Rattle.machine_frames.proofs.Steps.{told_went}
use Rattle.machine_standard_saves.proofs.Pausing.{not_paused, paused}
use Rattle.machine_standard_windows.specs.TurnState.{place}
use Rattle.machine_standard_windows.proofs.TurnTexts.{keeps_still}
use Rattle.machine_versions_steps.proofs.perform.use_file.Goals as goal

pub pause-requires-clause-at : goal.pause-requires-clause-at
pause-requires-clause-at c = omega (arith, c.requires.here)

pub returns-in-Some-clause-told : goal.returns-in-Some-clause-told
returns-in-Some-clause-told c =
    paused _ c.args.loaded.now _ c.args.purpose (place c.args.turn.now c.args.here) (c.args.here.program_counter + 1)
    c.args.ending.result (fail (versioned c.args.loaded.now c.args.version) c.args.here c.args.ending.after
    c.args.ending.result c.args.ending.branch) c.in-Some.ensures (c.pause.ensures.told c.args.here)

pub returns-in-None-clause-told : goal.returns-in-None-clause-told
returns-in-None-clause-told c =
    not_paused c.fail.result c.args.loaded.now c.args.purpose (place c.args.turn.now c.args.here)
    (c.args.here.program_counter + 1) c.args.ending.result (fail (versioned c.args.loaded.now c.args.version) c.args.here
    c.args.ending.after c.args.ending.result c.args.ending.branch) c.in-None.ensures
    (told_went _ _ (c.fail.ensures c.args.loaded.now))

pub returns-in-None-clause-text : goal.returns-in-None-clause-text
returns-in-None-clause-text c = keeps_still _ _ c.requires.text
