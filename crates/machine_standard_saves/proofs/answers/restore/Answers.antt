use Rattle.machine_standard_saves.proofs.Growing.{grew_none}
use Rattle.std.proofs.Common.{List, ℕ, ap, length, ◌∙◌}
use Rattle.machine_standard_saves.proofs.GivenFiles.{from_saves, no_saves}
use Rattle.machine_standard_saves.proofs.answers.restore.Goals as goal

pub returns-in_default-clause-told : goal.returns-in_default-clause-told
returns-in_default-clause-told c =
    no_saves c.refuse.result c.args.loaded.now c.args.request.form c.args.request.place c.args.request.fuel _
    c.args.bytes.now c.in_default.ensures c.reason.ensures.reason c.refuse.ensures.told

pub restore_over-requires-clause-story : goal.restore_over-requires-clause-story
restore_over-requires-clause-story c = rw c.in-Some.ensures at c.requires.saves

pub restore_over-requires-clause-memory : goal.restore_over-requires-clause-memory
restore_over-requires-clause-memory c =
    ap (λ (l : List ℕ). length l) (c.deref_mut.ensures.value ∙ c.in-Ok.ensures) ∙ (rw c.in-Some.ensures at c.requires.saves)

pub restore_over-requires-clause-same : goal.restore_over-requires-clause-same
restore_over-requires-clause-same c = c.deref_mut.ensures.value ∙ c.in-Ok.ensures

pub returns-clause-told : goal.returns-clause-told
returns-clause-told c =
    from_saves c.restore_over.result c.args.loaded.now c.in-Some.story.now c.args.request.form c.args.request.place
    c.args.request.fuel c.args.bytes.now c.in-Some.ensures c.restore_over.ensures.told

pub returns-in_default-copy_of-clause-text : goal.returns-in_default-copy_of-clause-text
returns-in_default-copy_of-clause-text c = grew_none _ _
