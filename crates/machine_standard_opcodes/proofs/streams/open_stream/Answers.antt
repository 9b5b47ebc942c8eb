use Rattle.std.proofs.Common.{arith, refl}
use Rattle.std.proofs.lemmas.List.{length-drop}
use Rattle.machine_standard_windows.specs.TurnState.{place}
use Rattle.machine_standard_opcodes.proofs.Cuts.{stream_opened, stream_refused}
use Rattle.machine_standard_opcodes.proofs.streams.open_stream.Goals as goal

pub returns-in-Ok-clause-told : goal.returns-in-Ok-clause-told
returns-in-Ok-clause-told c = stream_opened _ _ (place c.args.turn.now c.args.here) c.args.after c.args.table _ _
    c.requires.sound (c.in-Ok.ensures.variant.0 refl)
    (omega (arith, length-drop c.args.start c.args.text.now.items)) c.in-Ok.ensures.ok

pub returns-in-Err-clause-told : goal.returns-in-Err-clause-told
returns-in-Err-clause-told c = stream_refused _ _ (place c.args.turn.now c.args.here) c.args.after c.args.table
    c.requires.sound c.in-Err.ensures.full
