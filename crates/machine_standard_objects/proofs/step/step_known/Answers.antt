use Rattle.std.proofs.Common.{ap, sym, ◌∙◌, refl, slice_index}
use Rattle.machine_frames.specs.Contents.{memory_of}
use Rattle.machine_frames.proofs.Steps.{told_went}
use Rattle.machine_standard_objects.proofs.Stepping.{no_code, long_stepped, short_stepped, without_stepped, variable_stepped}
use Rattle.machine_standard_objects.proofs.step.step_known.Goals as goal

pub returns-then-not-is_code-clause-told : goal.returns-then-not-is_code-clause-told
returns-then-not-is_code-clause-told c =
    no_code c.args.loaded.now c.args.store.now _ c.memory-memory.result.now c.args.here c.requires.store.sound
    (c.memory-memory.ensures ∙ ap memory_of c.store.ensures) (sym c.is_code.ensures ∙ c.if-not-is_code.true)

pub returns-then-first-lt-SHORT_FORM-clause-told : goal.returns-then-first-lt-SHORT_FORM-clause-told
returns-then-first-lt-SHORT_FORM-clause-told c =
    long_stepped c.args.loaded.now _ c.args.here c.memory-memory.result.now
    (slice_index c.memory-memory.result.now c.args.here.program_counter)
    (c.memory-memory.ensures ∙ ap memory_of c.store.ensures) (sym c.is_code.ensures ∙ c.if-not-is_code.false) refl
    c.if-first-lt-SHORT_FORM.true (told_went _ _ (c.step_long.ensures c.args.loaded.now))

pub returns-then-first-lt-SHORT_FORM_0OP-clause-told : goal.returns-then-first-lt-SHORT_FORM_0OP-clause-told
returns-then-first-lt-SHORT_FORM_0OP-clause-told c =
    short_stepped c.args.loaded.now _ c.args.here c.memory-memory.result.now
    (slice_index c.memory-memory.result.now c.args.here.program_counter)
    (c.memory-memory.ensures ∙ ap memory_of c.store.ensures) (sym c.is_code.ensures ∙ c.if-not-is_code.false) refl
    c.if-first-lt-SHORT_FORM.false c.if-first-lt-SHORT_FORM_0OP.true c.step_short.ensures.told

pub returns-then-first-lt-VARIABLE_FORM-clause-told : goal.returns-then-first-lt-VARIABLE_FORM-clause-told
returns-then-first-lt-VARIABLE_FORM-clause-told c =
    without_stepped c.args.loaded.now _ c.args.here c.memory-memory.result.now
    (slice_index c.memory-memory.result.now c.args.here.program_counter)
    (c.memory-memory.ensures ∙ ap memory_of c.store.ensures) (sym c.is_code.ensures ∙ c.if-not-is_code.false) refl
    c.if-first-lt-SHORT_FORM_0OP.false c.if-first-lt-VARIABLE_FORM.true c.step_without.ensures.told

pub returns-then-first-lt-VARIABLE_FORM_VAR-clause-told : goal.returns-then-first-lt-VARIABLE_FORM_VAR-clause-told
returns-then-first-lt-VARIABLE_FORM_VAR-clause-told c =
    variable_stepped c.args.loaded.now _ c.args.here c.memory-memory.result.now
    (slice_index c.memory-memory.result.now c.args.here.program_counter)
    (c.memory-memory.ensures ∙ ap memory_of c.store.ensures) (sym c.is_code.ensures ∙ c.if-not-is_code.false) refl
    c.if-first-lt-VARIABLE_FORM.false (told_went _ _ (c.step_two.ensures c.args.loaded.now))

pub returns-else-first-lt-VARIABLE_FORM_VAR-clause-told : goal.returns-else-first-lt-VARIABLE_FORM_VAR-clause-told
returns-else-first-lt-VARIABLE_FORM_VAR-clause-told c =
    variable_stepped c.args.loaded.now _ c.args.here c.memory-memory.result.now
    (slice_index c.memory-memory.result.now c.args.here.program_counter)
    (c.memory-memory.ensures ∙ ap memory_of c.store.ensures) (sym c.is_code.ensures ∙ c.if-not-is_code.false) refl
    c.if-first-lt-VARIABLE_FORM.false c.step_several.ensures.told
