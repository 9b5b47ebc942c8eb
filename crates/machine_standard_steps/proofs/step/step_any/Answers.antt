use Rattle.std.proofs.Common.{◌∙◌, ap, sym, drop}
use Rattle.zcore_versions.specs.Operations.{with_row, older_at}
use Rattle.zcore_versions.specs.Versions.{versioned}
use Rattle.machine_frames.specs.Contents.{memory_of}
use Rattle.machine_standard_windows.specs.TurnState.{place}
use Rattle.zcore_standard.specs.Operations.{further_at}
use Rattle.machine_frames.specs.States.{state_of}
use Rattle.machine_picture.specs.Picture.{by_name}
use Rattle.machine_standard_steps.proofs.Redrawing.{by_name_alike, late_has_none, pictures_as}
use Rattle.machine_standard_steps.proofs.Stepping.{late_stepped, same_stepped, any_lighter, finds_no_other, finds_other}
use Rattle.machine_standard_steps.proofs.step.step_any.Goals as goal

pub returns-then-is_late-clause-told : goal.returns-then-is_late-clause-told
returns-then-is_late-clause-told c =
    late_stepped _ (versioned c.args.loaded.now c.args.version) (place c.args.turn.now c.args.here)
    (sym c.is_late.ensures ∙ c.if-is_late.true) c.step_standard.ensures.told

pub returns-in-None-clause-told : goal.returns-in-None-clause-told
returns-in-None-clause-told c =
    same_stepped _ (versioned c.args.loaded.now c.args.version) (place c.args.turn.now c.args.here)
    (finds_no_other c.args.version.number _ (c.in-None.ensures
    ∙ ap (λ l. with_row c.args.version.number (older_at c.args.version l c.args.here.program_counter))
    (c.memory.ensures ∙ ap memory_of c.store.ensures))) c.step_standard-in-None.ensures.told

pub step_other-requires-clause-early : goal.step_other-requires-clause-early
step_other-requires-clause-early c = sym c.is_late.ensures ∙ c.if-is_late.false

pub step_other-requires-clause-row : goal.step_other-requires-clause-row
step_other-requires-clause-row c =
    (finds_other c.args.version.number _ _ _ (c.in-Some.ensures
    ∙ ap (λ l. with_row c.args.version.number (older_at c.args.version l c.args.here.program_counter))
    (c.memory.ensures ∙ ap memory_of c.store.ensures))).row_is

pub step_other-requires-clause-found : goal.step_other-requires-clause-found
step_other-requires-clause-found c =
    (finds_other c.args.version.number _ _ _ (c.in-Some.ensures
    ∙ ap (λ l. with_row c.args.version.number (older_at c.args.version l c.args.here.program_counter))
    (c.memory.ensures ∙ ap memory_of c.store.ensures))).found

pub returns-in-Some-clause-falls : goal.returns-in-Some-clause-falls
returns-in-Some-clause-falls c = any_lighter c.step_other.result (versioned c.args.loaded.now c.args.version)
    (place c.args.turn.now c.args.here) c.step_other.new.turn c.step_other.ensures.told

pub returns-then-is_late-clause-picture : goal.returns-then-is_late-clause-picture
returns-then-is_late-clause-picture c =
    pictures_as c.step_standard.result c.args.version.number _ _ (place c.args.turn.now c.args.here)
    (state_of c.args.store.now.store (drop c.args.start c.args.text.now.items))
    (drop c.args.start c.step_standard.new.text.items) _ _
    (ap (λ o. by_name o (further_at (memory_of c.args.store.now.store) c.args.here.program_counter))
    (late_has_none c.args.version (memory_of c.args.store.now.store) c.args.here.program_counter
    (sym c.is_late.ensures ∙ c.if-is_late.true))) c.step_standard.ensures.picture

pub returns-in-None-clause-picture : goal.returns-in-None-clause-picture
returns-in-None-clause-picture c =
    pictures_as c.step_standard-in-None.result c.args.version.number _ _ (place c.args.turn.now c.args.here)
    (state_of c.args.store.now.store (drop c.args.start c.args.text.now.items))
    (drop c.args.start c.step_standard-in-None.new.text.items) _ _
    (ap (λ o. by_name o (further_at (memory_of c.args.store.now.store) c.args.here.program_counter))
    (finds_no_other c.args.version.number _ (c.in-None.ensures
    ∙ ap (λ l. with_row c.args.version.number (older_at c.args.version l c.args.here.program_counter))
    (c.memory.ensures ∙ ap memory_of c.store.ensures)))) c.step_standard-in-None.ensures.picture

pub returns-in-Some-clause-picture : goal.returns-in-Some-clause-picture
returns-in-Some-clause-picture c =
    pictures_as c.step_other.result c.args.version.number _ _ (place c.args.turn.now c.args.here)
    (state_of c.args.store.now.store (drop c.args.start c.args.text.now.items))
    (drop c.args.start c.step_other.new.text.items) _ _
    (ap (λ o. by_name o (further_at (memory_of c.args.store.now.store) c.args.here.program_counter))
    (finds_other c.args.version.number _ _ _ (c.in-Some.ensures
    ∙ ap (λ l. with_row c.args.version.number (older_at c.args.version l c.args.here.program_counter))
    (c.memory.ensures ∙ ap memory_of c.store.ensures))).found
    ∙ by_name_alike _ (further_at (memory_of c.args.store.now.store) c.args.here.program_counter))
    c.step_other.ensures.picture
