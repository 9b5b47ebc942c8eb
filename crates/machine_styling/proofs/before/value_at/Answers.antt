use Rattle.std.proofs.Common.{ap, arith, length, ◌∙◌}
use Rattle.zcore_standard.specs.Operations.{further_at}
use Rattle.zcore_standard.specs.Rows.{with_row}
use Rattle.zcore_standard.specs.declared.operations.StandardOperation.TheVariants.{SetTextStyle}
use Rattle.zcore_versions.proofs.Refusing.{stands}
use Rattle.machine_frames.specs.Contents.{memory_of}
use Rattle.machine_styling.proofs.Choosing.{none_found, row_found}
use Rattle.machine_styling.proofs.before.value_at.Goals as goal

pub operation_at-requires : goal.operation_at-requires
operation_at-requires c =
    omega (arith, ap length (c.memory.ensures ∙ ap memory_of c.store.ensures), c.requires.store.sound.short)

pub value_by-requires-clause-row : goal.value_by-requires-clause-row
value_by-requires-clause-row c =
    row_found (further_at (memory_of c.args.store.now.store) c.args.here.program_counter) _ _
    (c.in-Some.ensures
    ∙ ap (λ m. with_row (further_at m c.args.here.program_counter)) (c.memory.ensures ∙ ap memory_of c.store.ensures))
    c.requires.found

pub value_by-requires-clause-within : goal.value_by-requires-clause-within
value_by-requires-clause-within c =
    (stands (memory_of c.args.store.now.store) c.args.here.program_counter SetTextStyle c.requires.found).within

-- there is an operation
pub returns-in-None-clause-value : goal.returns-in-None-clause-value
returns-in-None-clause-value c =
    absurd (none_found (further_at (memory_of c.args.store.now.store) c.args.here.program_counter)
    (c.in-None.ensures
    ∙ ap (λ m. with_row (further_at m c.args.here.program_counter)) (c.memory.ensures ∙ ap memory_of c.store.ensures))
    c.requires.found)

pub returns-in-Some-clause-value : goal.returns-in-Some-clause-value
returns-in-Some-clause-value c = c.value_by.ensures.value
