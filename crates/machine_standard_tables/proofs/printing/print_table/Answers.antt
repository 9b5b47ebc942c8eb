use Rattle.std.proofs.Common.{◌≡◌, subst, true}
use Rattle.zcore_standard.specs.Tables.{are_readable}
use Rattle.machine_frames.specs.Contents.{memory_of}
use Rattle.machine_frames.proofs.Steps.{told_err}
use Rattle.machine_standard_tables.proofs.Tests.{is_readable_after}
use Rattle.machine_standard_tables.proofs.Rows.{table_stops, table_told, table_unpaid, table_unread}
use Rattle.machine_standard_tables.proofs.printing.print_table.Goals as goal

pub returns-in_err-test_readable-clause-told : goal.returns-in_err-test_readable-clause-told
returns-in_err-test_readable-clause-told c =
    let a = c.args in
    told_err _ c.from_residual.ensures.1
    (table_unread a.store.now a.characters.now _ a.here a.after a.table a.width a.height a.skip a.indent _ c.rows_size.ensures.same
    c.in_err-test_readable.ensures)

pub returns-in_err-fuel-clause-told : goal.returns-in_err-fuel-clause-told
returns-in_err-fuel-clause-told c =
    let a = c.args in
    told_err _ c.from_residual-in_err-fuel.ensures.1
    (table_unpaid a.store.now a.characters.now _ a.here a.after a.table a.width a.height a.skip a.indent _ _ c.rows_size.ensures.same
    c.rows_length.ensures c.in_ok-test_readable.ensures c.in_err-fuel.ensures)

pub print_rows-requires-clause-readable : goal.print_rows-requires-clause-readable
print_rows-requires-clause-readable c =
    let m = memory_of c.args.store.now.store in
    subst (λ n. are_readable m c.args.table n ≡ true) c.rows_size.ensures.same
    (is_readable_after c.args.store.now c.args.table _ c.in_ok-test_readable.ensures)

pub returns-in_err-print_rows-clause-told : goal.returns-in_err-print_rows-clause-told
returns-in_err-print_rows-clause-told c =
    let a = c.args in
    told_err _ c.from_residual-in_err-print_rows.ensures.1
    (table_stops a.store.now a.characters.now a.here a.after a.table a.width a.height a.skip a.indent _ _ _ c.rows_size.ensures.same
    c.rows_length.ensures c.in_ok-test_readable.ensures c.in_ok-fuel.ensures c.in_err-print_rows.ensures.told)

pub returns-clause-told : goal.returns-clause-told
returns-clause-told c =
    let a = c.args in
    table_told a.store.now a.characters.now a.here a.after a.table a.width a.height a.skip a.indent _ _ _ c.rows_size.ensures.same
    c.rows_length.ensures c.in_ok-test_readable.ensures c.in_ok-fuel.ensures c.in_ok-print_rows.ensures.told
