use Rattle.std.proofs.Common.{List, ℕ, ap, sym, ◌∙◌, length, subst}
use Rattle.iff_files.specs.SaveFiles.{saved_in}
use Rattle.machine_frames.specs.Contents.{memory_of}
use Rattle.machine_standard_saves.specs.Restored.{AreStacks}
use Rattle.machine_standard_saves.proofs.Resumed.{read, refused}
use Rattle.machine_standard_saves.proofs.restoring.restore_over.Goals as goal

pub resume-requires-clause-stacks : goal.resume-requires-clause-stacks
resume-requires-clause-stacks c =
    let size = ap (λ (l : List ℕ). length l) (c.memory.ensures ∙ ap memory_of c.store.ensures) in (
      c.in-Ok.ensures.read.0,
      subst (λ (n : ℕ). AreStacks n c.in-Ok.save.stacks.now c.in-Ok.ensures.read.0) size c.in-Ok.ensures.read.1.0,
    )

pub returns-in-Ok : goal.returns-in-Ok
returns-in-Ok c =
    let size = ap (λ (l : List ℕ). length l) (c.memory.ensures ∙ ap memory_of c.store.ensures) in
    let stacks = c.in-Ok.ensures.read.0 in
    read c.args.loaded.now c.resume.result _ _ c.args.here c.args.after c.args.variable
    (ap (λ (n : ℕ). saved_in c.args.memory.now n c.args.file.now) (sym size) ∙ c.in-Ok.ensures.read.1.1)
    (c.resume.ensures stacks
    (subst (λ (n : ℕ). AreStacks n c.in-Ok.save.stacks.now stacks) size c.in-Ok.ensures.read.1.0))

pub returns-in-Err : goal.returns-in-Err
returns-in-Err c =
    let size = ap (λ (l : List ℕ). length l) (c.memory.ensures ∙ ap memory_of c.store.ensures) in
    refused c.args.loaded.now c.give_result.result _ _ c.args.here c.args.after c.args.variable
    (ap (λ (n : ℕ). saved_in c.args.memory.now n c.args.file.now) (sym size) ∙ c.in-Err.ensures.read)
    c.give_result.ensures
