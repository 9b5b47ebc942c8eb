use Rattle.std.proofs.Common.{slice_index}
use Rattle.machine_standard_saves.proofs.Asking.{asked_with, not_asked}
use Rattle.machine_standard_saves.proofs.answers.asked.Goals as goal

pub returns-then-waiting-eq0 : goal.returns-then-waiting-eq0
returns-then-waiting-eq0 c =
    not_asked (slice_index c.args.store.now.store.cells) c.cell-waiting.result c.cell-waiting.ensures
    c.if-waiting-eq0.true

pub returns : goal.returns
returns c =
    asked_with (slice_index c.args.store.now.store.cells) c.cell-waiting.result c.cell-text.result c.cell-parse.result _
    c.cell-waiting.ensures c.if-waiting-eq0.false c.cell-text.ensures c.cell-parse.ensures c.purpose_by.ensures
