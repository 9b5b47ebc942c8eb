use Rattle.std.proofs.Common.{◌∙◌, ap, subst, sym, drop, Some, None}
use Rattle.zcore_versions.specs.Versions.{versioned}
use Rattle.zcore_versions.proofs.Finding.{found_within}
use Rattle.machine_frames.specs.Contents.{memory_of}
use Rattle.machine_standard_windows.specs.TurnState.{place}
use Rattle.machine_standard_windows.proofs.TurnTexts.{keeps_still}
use Rattle.zcore_versions.specs.declared.operations.VersionOperation.TheVariants as variants
use Rattle.zcore_versions.specs.Operations.{row_of}
use Rattle.machine_frames.specs.States.{state_of}
use Rattle.machine_picture.specs.Drawing.{picture_of}
use Rattle.machine_picture.specs.Picture.{by_name}
use Rattle.machine_standard_steps.specs.Redrawing.{Redraws}
use Rattle.machine_standard_steps.proofs.Redrawing.{redraws_still, split_not_missing}
use Rattle.machine_standard_steps.proofs.Stepping.{other_stepped, missing_stepped, other_differs}
use Rattle.machine_standard_steps.proofs.step.step_looked.Goals as goal

pub returns-in-Missing-clause-told : goal.returns-in-Missing-clause-told
returns-in-Missing-clause-told c =
    missing_stepped _ (versioned c.args.loaded.now c.args.version) (place c.args.turn.now c.args.here)
    c.requires.store.sound (c.requires.found ∙ ap (λ o. Some o) c.in-Missing.is)

pub returns-in-Missing-clause-text : goal.returns-in-Missing-clause-text
returns-in-Missing-clause-text c = keeps_still _ _ c.requires.text

pub step_version-requires-clause-version : goal.step_version-requires-clause-version
step_version-requires-clause-version c = record {
  early = c.requires.early;
  routines = c.requires.version.routines;
  texts = c.requires.version.texts;
}

pub step_version-requires-clause-differs : goal.step_version-requires-clause-differs
step_version-requires-clause-differs c =
    other_differs c.args.version (memory_of c.args.store.now.store) c.args.here.program_counter _ c.requires.found

pub step_version-requires-clause-within : goal.step_version-requires-clause-within
step_version-requires-clause-within c =
    found_within c.args.version (memory_of c.args.store.now.store) c.args.here.program_counter _ c.requires.found

pub returns-in_default-clause-told : goal.returns-in_default-clause-told
returns-in_default-clause-told c =
    other_stepped _ (versioned c.args.loaded.now c.args.version) (place c.args.turn.now c.args.here) _
    c.in_default.not-Missing c.requires.found c.step_version.ensures.told

pub returns-in_default-clause-picture : goal.returns-in_default-clause-picture
returns-in_default-clause-picture c =
    redraws_still c.step_version.result c.args.version.number c.args.operation (place c.args.turn.now c.args.here)
    (state_of c.args.store.now.store (drop c.args.start c.args.text.now.items))
    (drop c.args.start c.step_version.new.text.items) (picture_of c.args.picture.now) c.in_default.not-SplitWindow

-- `split_window` of version 3

pub step_split-requires-clause-row : goal.step_split-requires-clause-row
step_split-requires-clause-row c = c.requires.row ∙ ap (row_of c.args.version.number) c.in-SplitWindow.is

pub step_split-requires-clause-within : goal.step_split-requires-clause-within
step_split-requires-clause-within c =
    found_within c.args.version (memory_of c.args.store.now.store) c.args.here.program_counter _ c.requires.found

pub returns-in-SplitWindow-clause-told : goal.returns-in-SplitWindow-clause-told
returns-in-SplitWindow-clause-told c =
    other_stepped _ (versioned c.args.loaded.now c.args.version) (place c.args.turn.now c.args.here) variants.SplitWindow
    split_not_missing (c.requires.found ∙ ap (λ o. Some o) c.in-SplitWindow.is)
    (c.step_split.ensures.told (versioned c.args.loaded.now c.args.version))

pub returns-in-SplitWindow-clause-picture : goal.returns-in-SplitWindow-clause-picture
returns-in-SplitWindow-clause-picture c =
    subst (λ o. Redraws c.step_split.result c.args.version.number (by_name (Some o) None)
    (place c.args.turn.now c.args.here) (state_of c.args.store.now.store (drop c.args.start c.args.text.now.items))
    (drop c.args.start c.step_split.new.text.items) (picture_of c.args.picture.now)
    (picture_of c.step_split.new.picture)) (sym c.in-SplitWindow.is) c.step_split.ensures.picture
