use Rattle.machine_lines.proofs.Lines.{waits_no_more}
use Rattle.machine_standard_saves.proofs.answers.stop_asking.Goals as goal

pub returns-clause-waits : goal.returns-clause-waits
returns-clause-waits c =
    waits_no_more _ _ c.requires c.in_ok-put.ensures.cells c.put.ensures.fixed c.in_ok-put.ensures.beginning
