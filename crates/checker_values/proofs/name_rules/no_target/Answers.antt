use Rattle.checker_values.specs.Breaches.{at}
use Rattle.checker_values.proofs.Noted.{noted_two}
use Rattle.checker_values.proofs.name_rules.no_target.Goals as goal

pub returns : goal.returns
returns c = noted_two c.args.tally.now c.note.new.tally c.note-2.new.tally (at c.args.position 23)
    (at c.args.operator 26) c.note.ensures c.note-2.ensures
