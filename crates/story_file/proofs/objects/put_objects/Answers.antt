use Rattle.std.proofs.Common.{ap}
use Rattle.meaning.specs.Views.{program_of}
use Rattle.story_file.proofs.ObjectRows.{placed_in}
use Rattle.story_file.proofs.ObjectTables.{are_rows, have_short_names, rows_are, rows_end}
use Rattle.story_file.proofs.objects.put_objects.Goals as goal

pub rows-requires-clause-placed : goal.rows-requires-clause-placed
rows-requires-clause-placed c =
    placed_in c.args.checked.now c.objects.result.now c.objects.ensures c.requires.fit.proper

pub table-requires-clause-rows : goal.table-requires-clause-rows
table-requires-clause-rows c =
    are_rows (program_of c.args.checked.now).objects c.requires.fit.proper c.deref.result.now
    (rows_are c.args.checked.now c.deref.result.now c.in_ok-rows.rows.items c.objects.result.now c.deref.ensures.value
    c.in_ok-rows.ensures c.objects.ensures)

pub table-requires-clause-names : goal.table-requires-clause-names
table-requires-clause-names c =
    have_short_names (program_of c.args.checked.now).objects c.requires.fit.proper c.deref.result.now
    (rows_are c.args.checked.now c.deref.result.now c.in_ok-rows.rows.items c.objects.result.now c.deref.ensures.value
    c.in_ok-rows.ensures c.objects.ensures)

pub table-requires-clause-fits : goal.table-requires-clause-fits
table-requires-clause-fits c =
    rows_end (program_of c.args.checked.now) c.deref.result.now c.args.at.defaults
    (rows_are c.args.checked.now c.deref.result.now c.in_ok-rows.rows.items c.objects.result.now c.deref.ensures.value
    c.in_ok-rows.ensures c.objects.ensures) (ap (λ at. at.defaults) c.requires.at) c.requires.fit.placed
