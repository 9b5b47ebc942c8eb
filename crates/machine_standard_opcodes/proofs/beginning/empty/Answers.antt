use Rattle.std.proofs.Common.{◌∙◌}
use Rattle.machine_lines.proofs.Lines.{waits_no_more}
use Rattle.machine_standard_opcodes.proofs.Anew.{emptied, frames_emptied}
use Rattle.machine_standard_opcodes.proofs.beginning.empty.Goals as goal

pub returns-clause-emptied : goal.returns-clause-emptied
returns-clause-emptied c =
    let fixed = c.put_all-2.ensures.fixed ∙ c.put_all.ensures.fixed in
    let beginning = c.in_ok-put_all-2.ensures.beginning ∙ c.in_ok-put_all.ensures.beginning in
    let first = frames_emptied c.args.store.now c.put_all-2.new.store _ c.requires.sound
    c.in_ok-put_all.ensures.cells c.in_ok-put_all-2.ensures.cells fixed beginning in
    emptied _ c.put_all-2.new.store _ first
    (waits_no_more _ _ first.0.sound c.in_ok-put.ensures.cells c.put.ensures.fixed c.in_ok-put.ensures.beginning)
