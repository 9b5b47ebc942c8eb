use Rattle.std.proofs.Common.{◌∙◌, ap, drop, Some}
use Rattle.zcore_standard.specs.Operations.{further_at}
use Rattle.zcore_standard.specs.Rows.{with_row}
use Rattle.machine_frames.specs.Contents.{memory_of}
use Rattle.machine_standard_windows.specs.TurnState.{place}
use Rattle.machine_standard_windows.proofs.TurnTexts.{keeps_grew}
use Rattle.machine_frames.specs.States.{state_of}
use Rattle.machine_picture.specs.Drawing.{picture_of}
use Rattle.machine_standard_steps.proofs.Redrawing.{none_pictures, pictures_as}
use Rattle.machine_standard_steps.proofs.Stepping.{stepped_none, stepped_some, standard_lighter, finds_none, finds_some}
use Rattle.machine_standard_steps.proofs.step.step_standard.Goals as goal

pub returns-in-None-clause-told : goal.returns-in-None-clause-told
returns-in-None-clause-told c = stepped_none c.step_known.result c.args.loaded.now
    (place c.args.turn.now c.args.here)
    (finds_none _ (c.in-None.ensures ∙ ap (λ l. with_row (further_at l c.args.here.program_counter))
    (c.memory.ensures ∙ ap memory_of c.store.ensures))) c.step_known.ensures.told

pub returns-in-None-clause-falls : goal.returns-in-None-clause-falls
returns-in-None-clause-falls c = standard_lighter c.step_known.result c.args.loaded.now
    (place c.args.turn.now c.args.here) c.args.turn.now (returns-in-None-clause-told c)

pub returns-in-None-clause-text : goal.returns-in-None-clause-text
returns-in-None-clause-text c = keeps_grew c.requires.text c.step_known.ensures.text

pub step_looking-requires-clause-row : goal.step_looking-requires-clause-row
step_looking-requires-clause-row c =
    (finds_some _ _ _ (c.in-Some.ensures ∙ ap (λ l. with_row (further_at l c.args.here.program_counter))
    (c.memory.ensures ∙ ap memory_of c.store.ensures))).row_is

pub step_looking-requires-clause-found : goal.step_looking-requires-clause-found
step_looking-requires-clause-found c =
    (finds_some _ _ _ (c.in-Some.ensures ∙ ap (λ l. with_row (further_at l c.args.here.program_counter))
    (c.memory.ensures ∙ ap memory_of c.store.ensures))).found

pub returns-in-Some-clause-told : goal.returns-in-Some-clause-told
returns-in-Some-clause-told c = stepped_some _ c.args.loaded.now (place c.args.turn.now c.args.here) _
    (finds_some _ _ _ (c.in-Some.ensures ∙ ap (λ l. with_row (further_at l c.args.here.program_counter))
    (c.memory.ensures ∙ ap memory_of c.store.ensures))).found c.step_looking.ensures.told

pub returns-in-Some-clause-falls : goal.returns-in-Some-clause-falls
returns-in-Some-clause-falls c = standard_lighter c.step_looking.result c.args.loaded.now
    (place c.args.turn.now c.args.here) c.step_looking.new.turn (returns-in-Some-clause-told c)

pub returns-in-None-clause-picture : goal.returns-in-None-clause-picture
returns-in-None-clause-picture c =
    none_pictures c.step_known.result c.args.version _ (place c.args.turn.now c.args.here)
    (state_of c.args.store.now.store (drop c.args.start c.args.text.now.items))
    (drop c.args.start c.step_known.new.text.items) (picture_of c.args.picture.now)
    (finds_none _ (c.in-None.ensures ∙ ap (λ l. with_row (further_at l c.args.here.program_counter))
    (c.memory.ensures ∙ ap memory_of c.store.ensures)))

pub returns-in-Some-clause-picture : goal.returns-in-Some-clause-picture
returns-in-Some-clause-picture c =
    pictures_as c.step_looking.result c.args.version _ _ (place c.args.turn.now c.args.here)
    (state_of c.args.store.now.store (drop c.args.start c.args.text.now.items))
    (drop c.args.start c.step_looking.new.text.items) _ _
    (finds_some _ _ _ (c.in-Some.ensures ∙ ap (λ l. with_row (further_at l c.args.here.program_counter))
    (c.memory.ensures ∙ ap memory_of c.store.ensures))).found c.step_looking.ensures.picture
