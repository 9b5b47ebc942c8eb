use Rattle.std.proofs.Common.{◌+◌, arith, length}
use Rattle.machine_standard_saves.proofs.Growing.{grew_more, grew_then, why_added}
use Rattle.machine_standard_saves.proofs.answers.put_why.Goals as goal

pub returns-in_err-add-clause-text : goal.returns-in_err-add-clause-text
returns-in_err-add-clause-text c = grew_more 2 _ _ _ c.add.ensures.text (omega arith)

pub returns-in_err-add-2-clause-text : goal.returns-in_err-add-2-clause-text
returns-in_err-add-2-clause-text c = grew_then 2 _ _ _ _ _ c.add.ensures.text c.add-2.ensures.text (omega arith)

pub returns-clause-added : goal.returns-clause-added
returns-clause-added c =
    why_added c.add-3.result c.args.text.now.items c.add.new.text.items c.add-2.new.text.items _ c.args.why.now
    c.in_ok-add.ensures.added c.in_ok-add-2.ensures.added c.add-3.ensures.added

pub returns-clause-text : goal.returns-clause-text
returns-clause-text c =
    grew_then (2 + length c.args.why.now) 3 _ _ _ _ (grew_then 2 _ _ _ _ _ c.add.ensures.text c.add-2.ensures.text (omega arith))
    c.add-3.ensures.text (omega arith)
