use Rattle.machine_lines.proofs.Lines.{waits_now}
use Rattle.machine_lines.proofs.line.wait.Goals as goal

pub returns : goal.returns
returns c = waits_now _ _ c.args.text_buffer c.args.parse_buffer c.variable_cell.result c.args.return_address
    c.args.result_variable c.requires c.variable_cell.ensures c.in_ok-put_all.ensures.cells c.put_all.ensures.fixed
    c.in_ok-put_all.ensures.beginning
