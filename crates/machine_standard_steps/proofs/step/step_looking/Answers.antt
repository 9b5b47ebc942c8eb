use Rattle.std.proofs.Common.{sym, subst, ◌≡◌, length, drop, Some}
use Rattle.zcore.specs.Header.{static_base_of}
use Rattle.zcore_standard.specs.Instruction.{decode_row}
use Rattle.zcore_standard.specs.Operations.{further_at, row_of}
use Rattle.zcore_standard.specs.Performing.{execute_further}
use Rattle.journal.specs.Recording.{Recording}
use Rattle.machine_decoding.specs.Seen.{seen}
use Rattle.machine_frames.specs.Contents.{Contents, memory_of}
use Rattle.machine_frames.specs.States.{state_of, IsStoreOf}
use Rattle.machine_frames.specs.Went.{Told}
use Rattle.machine_picture.specs.Drawing.{picture_of}
use Rattle.machine_standard_windows.specs.TurnState.{place}
use Rattle.machine_standard_windows.proofs.TurnTexts.{keeps_still}
use Rattle.machine_standard_steps.specs.Redrawing.{Redraws}
use Rattle.machine_standard_steps.proofs.Redrawing.{pictures_looked, turn_text}
use Rattle.machine_standard_steps.proofs.step.step_looking.Goals as goal

pub step_further-requires-clause-store : goal.step_further-requires-clause-store
step_further-requires-clause-store c =
    subst (λ (r : Recording Contents). IsStoreOf c.args.header.now r.store) (sym c.in-Ok.ensures.same) c.requires.store

pub step_further-requires-clause-dynamic : goal.step_further-requires-clause-dynamic
step_further-requires-clause-dynamic c =
    subst (λ (r : Recording Contents). length c.args.loaded.now.dynamic ≡ static_base_of (memory_of r.store))
    (sym c.in-Ok.ensures.same) c.requires.dynamic

pub step_further-requires-clause-found : goal.step_further-requires-clause-found
step_further-requires-clause-found c =
    subst (λ (r : Recording Contents). further_at (memory_of r.store) c.args.here.program_counter ≡ Some c.args.operation)
    (sym c.in-Ok.ensures.same) c.requires.found

pub returns-in-Ok-clause-told : goal.returns-in-Ok-clause-told
returns-in-Ok-clause-told c =
    subst (λ (r : Recording Contents). Told (seen (place c.step_further.new.turn) c.step_further.result) r
    (drop c.args.start c.args.text.now.items) c.step_further.new.store
    (drop c.args.start c.step_further.new.text.items)
    (execute_further c.args.loaded.now c.args.operation (place c.args.turn.now c.args.here)
    (decode_row (memory_of r.store) c.args.here.program_counter (row_of c.args.operation))))
    c.in-Ok.ensures.same c.step_further.ensures.told

pub returns-in-Ok-clause-picture : goal.returns-in-Ok-clause-picture
returns-in-Ok-clause-picture c =
    pictures_looked c.step_further.result c.args.version (Some c.args.operation) (place c.args.turn.now c.args.here)
    (state_of c.args.store.now.store (drop c.args.start c.args.text.now.items))
    (drop c.args.start c.step_further.new.text.items) _ (picture_of c.look.new.picture) _
    (turn_text c.args.start c.args.text.now.items c.deref.result.now (Some c.args.operation)
    (place c.args.turn.now c.args.here) (picture_of c.args.picture.now) (picture_of c.look.new.picture)
    c.deref.ensures.value (c.in-Ok.ensures.picture c.args.here))
    (subst (λ (r : Recording Contents). Redraws c.step_further.result c.args.version (Some c.args.operation)
    (place c.args.turn.now c.args.here) (state_of r.store (drop c.args.start c.args.text.now.items))
    (drop c.args.start c.step_further.new.text.items) (picture_of c.look.new.picture)
    (picture_of c.step_further.new.picture))
    c.in-Ok.ensures.same c.step_further.ensures.picture)

pub returns-in-Err-clause-told : goal.returns-in-Err-clause-told
returns-in-Err-clause-told c = record { told = c.in-Err.ensures.given_up }

pub returns-in-Err-clause-text : goal.returns-in-Err-clause-text
returns-in-Err-clause-text c = keeps_still _ _ c.requires.text
