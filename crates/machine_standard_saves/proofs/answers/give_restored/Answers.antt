use Rattle.machine_standard_saves.proofs.Growing.{grew_none}
use Rattle.std.proofs.Common.{refl}
use Rattle.machine_standard_saves.proofs.GivenFiles.{empty_by, gives_none_restored, gives_refused, gives_restored, some_by}
use Rattle.machine_standard_saves.proofs.answers.give_restored.Goals as goal

pub returns-then-is_empty-clause-told : goal.returns-then-is_empty-clause-told
returns-then-is_empty-clause-told c =
    gives_none_restored c.give_answer.result c.args.loaded.now c.args.request.form c.args.request.place
    c.args.request.fuel c.args.given.now c.args.text.now.items (empty_by c.args.given.now _ c.is_empty.ensures c.if-is_empty.true)
    c.give_answer.ensures

pub returns-then-number-eq-DONE-clause-told : goal.returns-then-number-eq-DONE-clause-told
returns-then-number-eq-DONE-clause-told c =
    gives_restored c.restore.result c.args.loaded.now c.args.request.form c.args.request.place c.args.request.fuel
    _ c.args.given.now _ (some_by c.args.given.now _ c.is_empty.ensures c.if-is_empty.false) refl c.if-number-eq-DONE.true c.bytes_after.ensures
    c.restore.ensures.told

pub returns-else-number-eq-DONE-clause-told : goal.returns-else-number-eq-DONE-clause-told
returns-else-number-eq-DONE-clause-told c =
    gives_refused c.refuse.result c.args.loaded.now c.args.request.form c.args.request.place c.args.request.fuel
    _ c.args.given.now _ (some_by c.args.given.now _ c.is_empty.ensures c.if-is_empty.false) refl c.if-number-eq-DONE.false c.reason.ensures.reason
    c.refuse.ensures.told

pub returns-then-is_empty-clause-text : goal.returns-then-is_empty-clause-text
returns-then-is_empty-clause-text c = grew_none _ _
