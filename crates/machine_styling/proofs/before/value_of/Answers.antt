use Rattle.machine_frames.specs.States.{state_of}
use Rattle.machine_styling.proofs.Choosing.{large_value, no_value, small_value, variable_value}
use Rattle.machine_styling.proofs.before.value_of.Goals as goal

pub returns-in-Large-clause-value : goal.returns-in-Large-clause-value
returns-in-Large-clause-value c text =
    rw c.in-Large.is (large_value (state_of c.args.store.now.store text) c.in-Large.word)

pub returns-in-Small-clause-value : goal.returns-in-Small-clause-value
returns-in-Small-clause-value c text =
    rw c.in-Small.is (small_value (state_of c.args.store.now.store text) c.in-Small.byte)

pub returns-in-Ok-clause-value : goal.returns-in-Ok-clause-value
returns-in-Ok-clause-value c text =
    rw c.in-Variable.is
    (variable_value c.in-Variable.variable (state_of c.args.store.now.store text) _ c.in-Ok.word (c.in-Ok.ensures.did.1 text))

-- it cannot be read
pub returns-in-Err-Stop-clause-value : goal.returns-in-Err-Stop-clause-value
returns-in-Err-Stop-clause-value c text =
    rw c.in-Variable.is
    (no_value c.in-Variable.variable (state_of c.args.store.now.store text) _ _
    ((rw c.in-Err-Stop.field-0-is at c.in-Err-Stop.ensures).did.1 text))

pub returns-in-Err-Memory-clause-given_up : goal.returns-in-Err-Memory-clause-given_up
returns-in-Err-Memory-clause-given_up c = (rw c.in-Err-Memory.field-0-is at c.in-Err-Memory.ensures).did
