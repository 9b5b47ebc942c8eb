use Rattle.machine_versions_steps.proofs.Columns.{minutes_short, minutes_long, on_ok}
use Rattle.machine_versions_steps.proofs.line.put_minutes.Goals as goal

pub returns-then-minutes-ge10 : goal.returns-then-minutes-ge10
returns-then-minutes-ge10 c = on_ok c.put_number.result
    (minutes_long c.args.text.now.items _ c.args.minutes c.if-minutes-ge10.true) c.put_number.ensures

pub returns : goal.returns
returns c = on_ok c.put_number-2.result
    (minutes_short c.args.text.now.items _ _ c.args.minutes c.if-minutes-ge10.false c.in_ok-put.ensures)
    c.put_number-2.ensures
