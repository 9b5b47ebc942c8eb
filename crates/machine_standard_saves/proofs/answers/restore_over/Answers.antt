use Rattle.std.proofs.Common.{List, ℕ, ap, sym, ◌∙◌, length, subst}
use Rattle.iff_files.specs.SaveFiles.{saved_in}
use Rattle.machine_frames.specs.Contents.{memory_of}
use Rattle.machine_standard_saves.specs.Restored.{AreStacks}
use Rattle.machine_standard_saves.proofs.GivenFiles.{read_as, refused_as}
use Rattle.machine_standard_saves.proofs.answers.restore_over.Goals as goal

pub restore_save-requires-clause-stacks : goal.restore_save-requires-clause-stacks
restore_save-requires-clause-stacks c =
    let size = ap (λ (l : List ℕ). length l) (c.memory.ensures ∙ ap memory_of c.store.ensures) in (
      c.in-Ok.ensures.read.0,
      subst (λ (n : ℕ). AreStacks n c.in-Ok.save.stacks.now c.in-Ok.ensures.read.0) size c.in-Ok.ensures.read.1.0,
    )

pub returns-in-Ok-clause-told : goal.returns-in-Ok-clause-told
returns-in-Ok-clause-told c =
    let size = ap (λ (l : List ℕ). length l) (c.memory.ensures ∙ ap memory_of c.store.ensures) in
    let stacks = c.in-Ok.ensures.read.0 in
    read_as c.restore_save.result c.args.loaded.now c.args.story.now c.args.request.form c.args.request.place
    c.args.request.fuel c.args.bytes.now _
    (ap (λ (l : List ℕ). saved_in l (length (memory_of c.args.store.now.store)) c.args.bytes.now) (sym c.requires.same)
    ∙ ap (λ (n : ℕ). saved_in c.args.memory.now n c.args.bytes.now) (sym size) ∙ c.in-Ok.ensures.read.1.1)
    (c.restore_save.ensures.told stacks
    (subst (λ (n : ℕ). AreStacks n c.in-Ok.save.stacks.now stacks) size c.in-Ok.ensures.read.1.0))

pub returns-in-Err-clause-told : goal.returns-in-Err-clause-told
returns-in-Err-clause-told c =
    let size = ap (λ (l : List ℕ). length l) (c.memory.ensures ∙ ap memory_of c.store.ensures) in
    read_as c.refuse.result c.args.loaded.now c.args.story.now c.args.request.form c.args.request.place
    c.args.request.fuel c.args.bytes.now _
    (ap (λ (l : List ℕ). saved_in l (length (memory_of c.args.store.now.store)) c.args.bytes.now) (sym c.requires.same)
    ∙ ap (λ (n : ℕ). saved_in c.args.memory.now n c.args.bytes.now) (sym size) ∙ c.in-Err.ensures.read)
    (refused_as c.refuse.result c.args.loaded.now c.args.story.now c.args.request.form c.args.request.place
    c.args.request.fuel c.in-Err.fault _ c.reason_of.ensures.reason c.refuse.ensures.told)
