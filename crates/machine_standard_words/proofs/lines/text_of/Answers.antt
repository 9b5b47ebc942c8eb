use Rattle.std.proofs.Common.{sym, ◌∙◌}
use Rattle.machine_standard_words.proofs.Texts.{text_is, text_none}
use Rattle.machine_standard_words.proofs.lines.text_of.Goals as goal

pub returns-in-Ok : goal.returns-in-Ok
returns-in-Ok c = let p = c.in-Ok.ensures.cases in p.0 ∙ sym (text_is c.args.line.now p.1)

pub returns-in-Err : goal.returns-in-Err
returns-in-Err c = sym (text_none c.args.line.now c.in-Err.ensures.cases.0)
