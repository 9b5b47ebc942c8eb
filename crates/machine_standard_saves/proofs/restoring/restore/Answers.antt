use Rattle.std.proofs.Common.{List, ℕ, ap, ◌∙◌, length, subst}
use Rattle.zcore_standard.specs.SavedStates.{resume_if_read}
use Rattle.iff_files.specs.SaveFiles.{saved_in}
use Rattle.machine_frames.specs.Contents.{memory_of}
use Rattle.machine_frames.specs.Went.{Went}
use Rattle.machine_standard_saves.proofs.restoring.restore.Goals as goal

pub restore_over-requires-clause-dynamic : goal.restore_over-requires-clause-dynamic
restore_over-requires-clause-dynamic c =
    ap (λ (l : List ℕ). length l) (c.deref_mut.ensures.value ∙ c.in-Ok.ensures ∙ c.dynamic.ensures) ∙ c.requires.dynamic

pub returns : goal.returns
returns c =
    subst (λ (l : List ℕ). Went c.restore_over.result c.args.store.now c.restore_over.new.store (resume_if_read c.args.loaded.now
    (saved_in l (length (memory_of c.args.store.now.store)) c.args.file.now) c.args.here c.args.after c.args.variable))
    (c.deref_mut.ensures.value ∙ c.in-Ok.ensures ∙ c.dynamic.ensures) c.restore_over.ensures
