use Rattle.machine_standard_windows.specs.TurnState.{place}
use Rattle.machine_standard_opcodes.proofs.Cuts.{table_missing, table_given}
use Rattle.machine_standard_opcodes.proofs.streams.open_table.Goals as goal

pub returns-then-values-eq1-clause-told : goal.returns-then-values-eq1-clause-told
returns-then-values-eq1-clause-told c = table_missing _ _ (place c.args.turn.now c.args.here) c.args.after
    c.args.values.now c.requires.sound c.if-values-eq1.true

pub returns-clause-told : goal.returns-clause-told
returns-clause-told c = table_given _ (place c.args.turn.now c.args.here) c.args.after c.args.values.now
    c.if-values-eq1.false c.open_stream.ensures.told
