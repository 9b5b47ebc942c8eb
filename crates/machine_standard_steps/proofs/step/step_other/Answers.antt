use Rattle.std.proofs.Common.{sym, subst, ◌≡◌, drop, Some, None}
use Rattle.zcore_versions.specs.Machine.{any_step}
use Rattle.zcore_versions.specs.Operations.{older_at}
use Rattle.zcore_versions.specs.Versions.{versioned}
use Rattle.journal.specs.Recording.{Recording}
use Rattle.machine_decoding.specs.Seen.{seen}
use Rattle.machine_frames.specs.Contents.{Contents, memory_of}
use Rattle.machine_frames.specs.States.{state_of, IsStoreOf}
use Rattle.machine_frames.specs.Went.{Told}
use Rattle.machine_picture.specs.Drawing.{picture_of}
use Rattle.machine_picture.specs.Picture.{by_name}
use Rattle.machine_standard_windows.specs.TurnState.{place}
use Rattle.machine_standard_windows.proofs.TurnTexts.{keeps_still}
use Rattle.machine_standard_steps.specs.Redrawing.{Redraws}
use Rattle.machine_standard_steps.proofs.Redrawing.{looked_by, pictures_looked, turn_text}
use Rattle.machine_standard_steps.proofs.step.step_other.Goals as goal

pub step_looked-requires-clause-store : goal.step_looked-requires-clause-store
step_looked-requires-clause-store c =
    subst (λ (r : Recording Contents). IsStoreOf c.args.header.now r.store) (sym c.in-Ok.ensures.same) c.requires.store

pub step_looked-requires-clause-found : goal.step_looked-requires-clause-found
step_looked-requires-clause-found c =
    subst (λ (r : Recording Contents).
    older_at c.args.version (memory_of r.store) c.args.here.program_counter ≡ Some c.args.operation)
    (sym c.in-Ok.ensures.same) c.requires.found

pub returns-in-Ok-clause-told : goal.returns-in-Ok-clause-told
returns-in-Ok-clause-told c =
    subst (λ (r : Recording Contents). Told (seen (place c.step_looked.new.turn) c.step_looked.result) r
    (drop c.args.start c.args.text.now.items) c.step_looked.new.store
    (drop c.args.start c.step_looked.new.text.items)
    (any_step (versioned c.args.loaded.now c.args.version) (place c.args.turn.now c.args.here)))
    c.in-Ok.ensures.same c.step_looked.ensures.told

pub returns-in-Ok-clause-picture : goal.returns-in-Ok-clause-picture
returns-in-Ok-clause-picture c =
    pictures_looked c.step_looked.result c.args.version.number (by_name (Some c.args.operation) None)
    (place c.args.turn.now c.args.here)
    (state_of c.args.store.now.store (drop c.args.start c.args.text.now.items))
    (drop c.args.start c.step_looked.new.text.items) _ (picture_of c.look.new.picture) _
    (looked_by (place c.args.turn.now c.args.here) (drop c.args.start c.args.text.now.items) c.name_of.result
    (by_name (Some c.args.operation) None) (picture_of c.args.picture.now) (picture_of c.look.new.picture)
    c.name_of.ensures
    (turn_text c.args.start c.args.text.now.items c.deref.result.now c.name_of.result
    (place c.args.turn.now c.args.here) (picture_of c.args.picture.now) (picture_of c.look.new.picture)
    c.deref.ensures.value (c.in-Ok.ensures.picture c.args.here)))
    (subst (λ (r : Recording Contents). Redraws c.step_looked.result c.args.version.number
    (by_name (Some c.args.operation) None)
    (place c.args.turn.now c.args.here) (state_of r.store (drop c.args.start c.args.text.now.items))
    (drop c.args.start c.step_looked.new.text.items) (picture_of c.look.new.picture)
    (picture_of c.step_looked.new.picture))
    c.in-Ok.ensures.same c.step_looked.ensures.picture)

pub returns-in-Err-clause-told : goal.returns-in-Err-clause-told
returns-in-Err-clause-told c = record { told = c.in-Err.ensures.given_up }

pub returns-in-Err-clause-text : goal.returns-in-Err-clause-text
returns-in-Err-clause-text c = keeps_still _ _ c.requires.text
