use Rattle.std.proofs.Common.{ap, ◌∙◌, arith, drop}
use Rattle.machine_standard_windows.proofs.TurnTexts.{keeps_cut, text_cut}
use Rattle.machine_standard_windows.proofs.texts.cut.Goals as goal

pub returns-clause-cut : goal.returns-clause-cut
returns-clause-cut c = ap (drop c.args.start) c.truncate.ensures.items
    ∙ text_cut c.args.start c.args.from c.min-kept.result c.args.text.now.items c.requires.begun (omega arith)

pub returns-clause-text : goal.returns-clause-text
returns-clause-text c = keeps_cut c.args.start c.min-kept.result _ _ c.requires (omega arith) c.truncate.ensures.items
