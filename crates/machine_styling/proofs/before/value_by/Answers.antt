use Rattle.std.proofs.Common.{[], ◌∷◌, ap, arith, get_or, length, ◌∙◌}
use Rattle.machine_frames.specs.Contents.{memory_of}
use Rattle.machine_frames.specs.States.{state_of}
use Rattle.machine_picture.specs.Styles.{first_value, value_at, value_in}
use Rattle.machine_styling.proofs.Choosing.{first_taken, row_decoded, some_operand, value_named}
use Rattle.machine_styling.proofs.before.value_by.Goals as goal

pub decode_row-requires-clause-short : goal.decode_row-requires-clause-short
decode_row-requires-clause-short c =
    omega (arith, ap length (c.memory-memory.ensures ∙ ap memory_of c.store.ensures), c.requires.store.sound.short)

pub decode_row-requires-clause-within : goal.decode_row-requires-clause-within
decode_row-requires-clause-within c =
    omega (arith, ap length (c.memory-memory.ensures ∙ ap memory_of c.store.ensures), c.requires.within)

pub returns-in-Ok-clause-value : goal.returns-in-Ok-clause-value
returns-in-Ok-clause-value c =
    let store = c.args.store.now.store in
    let operands = c.decode_row.new.operands in
    value_named c.value_of.result (λ text. first_value (state_of store text) (get_or operands 0 _ ∷ []))
    (λ text. value_at (state_of store text) c.args.at)
    (λ text. first_taken (state_of store text) _ operands _
    (some_operand c.args.row _ c.requires.row c.in-Ok.ensures.enough) (omega (arith, c.decode_row.ensures.size))
    ∙ ap (value_in (state_of store text))
    (row_decoded _ (memory_of store) c.args.at c.args.row _ c.in-Ok.ensures.instruction
    (c.memory-memory.ensures ∙ ap memory_of c.store.ensures) c.requires.row))
    c.value_of.ensures.value

pub returns-in-Err-clause-value : goal.returns-in-Err-clause-value
returns-in-Err-clause-value c text =
    ap (value_in (state_of c.args.store.now.store text))
    (row_decoded _ (memory_of c.args.store.now.store) c.args.at c.args.row _ c.in-Err.ensures.instruction
    (c.memory-memory.ensures ∙ ap memory_of c.store.ensures) c.requires.row)
