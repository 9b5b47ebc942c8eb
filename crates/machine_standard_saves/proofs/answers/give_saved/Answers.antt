use Rattle.machine_standard_saves.proofs.Growing.{grew_none}
use Rattle.machine_standard_saves.proofs.GivenFiles.{empty_by, gives_none_saved, gives_saved, some_by}
use Rattle.machine_standard_saves.proofs.answers.give_saved.Goals as goal

pub returns-then-is_empty-clause-told : goal.returns-then-is_empty-clause-told
returns-then-is_empty-clause-told c =
    gives_none_saved c.give_answer.result c.args.request.form c.args.request.place c.args.request.fuel
    c.args.given.now c.args.text.now.items (empty_by c.args.given.now _ c.is_empty.ensures c.if-is_empty.true) c.give_answer.ensures

pub returns-clause-told : goal.returns-clause-told
returns-clause-told c =
    gives_saved c.answer_saved.result c.args.request.form c.args.request.place c.args.request.fuel c.args.given.now
    (some_by c.args.given.now _ c.is_empty.ensures c.if-is_empty.false) c.answer_saved.ensures.told

pub returns-then-is_empty-clause-text : goal.returns-then-is_empty-clause-text
returns-then-is_empty-clause-text c = grew_none _ _
