use Rattle.map_text.proofs.Rounds.{given_rows, given_up}
use Rattle.map_text.proofs.reading.read_map.Goals as goal

pub returns-clause-rows : goal.returns-clause-rows
returns-clause-rows c = λ rs are up is.
    given_rows c.args.heading.now c.args.text.now c.rows_after.result rs c.rows_after.ensures are up is

pub returns-clause-ascend : goal.returns-clause-ascend
returns-clause-ascend c = given_up c.args.heading.now c.args.text.now c.rows_after.result c.rows_after.ensures
