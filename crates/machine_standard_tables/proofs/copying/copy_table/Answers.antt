use Rattle.machine_frames.proofs.Steps.{went_then, went_no_further, went_err}
use Rattle.machine_standard_tables.proofs.Tests.{is_readable_after, is_writable_after}
use Rattle.machine_standard_tables.proofs.Copies.{at_once_filled, clears, copies, forwards_filled, table_stops, table_unpaid, table_written}
use Rattle.machine_standard_tables.proofs.copying.copy_table.Goals as goal

pub returns-in_err-test_writable : goal.returns-in_err-test_writable
returns-in_err-test_writable c =
    let a = c.args in
    clears a.here a.after a.first a.second a.size _ c.if-second-eq0.true c.magnitude-count.ensures
    (went_err _ c.from_residual.ensures.1 (table_stops a.store.now a.here a.after a.first _ _ c.in_err-test_writable.ensures))

pub returns-in_err-fuel : goal.returns-in_err-fuel
returns-in_err-fuel c =
    let a = c.args in
    clears a.here a.after a.first a.second a.size _ c.if-second-eq0.true c.magnitude-count.ensures
    (went_err _ c.from_residual-in_err-fuel.ensures.1
    (table_unpaid a.store.now a.here a.after a.first _ _ c.in_ok-test_writable.ensures c.in_err-fuel.ensures))

pub clear-requires-clause-writable : goal.clear-requires-clause-writable
clear-requires-clause-writable c = is_writable_after c.args.store.now c.args.first _ c.in_ok-test_writable.ensures

pub returns-then-second-eq0 : goal.returns-then-second-eq0
returns-then-second-eq0 c =
    let a = c.args in
    clears a.here a.after a.first a.second a.size _ c.if-second-eq0.true c.magnitude-count.ensures
    (table_written a.store.now c.clear.new.store a.here a.after a.first _ _ _ c.in_ok-test_writable.ensures
    c.in_ok-fuel.ensures c.in_ok-clear.ensures.filled)

pub returns-in_err-test_readable : goal.returns-in_err-test_readable
returns-in_err-test_readable c =
    let a = c.args in
    copies a.here a.after a.first a.second a.size _ c.if-second-eq0.false c.magnitude-count.ensures
    (went_err _ c.from_residual-in_err-test_readable.ensures.1 (went_no_further _ c.in_err-test_readable.ensures))

pub returns-in_err-test_writable-2 : goal.returns-in_err-test_writable-2
returns-in_err-test_writable-2 c =
    let a = c.args in
    copies a.here a.after a.first a.second a.size _ c.if-second-eq0.false c.magnitude-count.ensures
    (went_err _ c.from_residual-in_err-test_writable-2.ensures.1
    (went_then _ c.in_ok-test_readable.ensures
    (table_stops a.store.now a.here a.after a.second _ _ c.in_err-test_writable-2.ensures)))

pub returns-in_err-fuel-2 : goal.returns-in_err-fuel-2
returns-in_err-fuel-2 c =
    let a = c.args in
    copies a.here a.after a.first a.second a.size _ c.if-second-eq0.false c.magnitude-count.ensures
    (went_err _ c.from_residual-in_err-fuel-2.ensures.1
    (went_then _ c.in_ok-test_readable.ensures
    (table_unpaid a.store.now a.here a.after a.second _ _ c.in_ok-test_writable-2.ensures c.in_err-fuel-2.ensures)))

pub copy_at_once-requires-clause-readable : goal.copy_at_once-requires-clause-readable
copy_at_once-requires-clause-readable c = is_readable_after c.args.store.now c.args.first _
    c.in_ok-test_readable.ensures

pub copy_at_once-requires-clause-writable : goal.copy_at_once-requires-clause-writable
copy_at_once-requires-clause-writable c = is_writable_after c.args.store.now c.args.second _
    c.in_ok-test_writable-2.ensures

pub returns-then-size-lt-NEGATIVE : goal.returns-then-size-lt-NEGATIVE
returns-then-size-lt-NEGATIVE c =
    let a = c.args in
    copies a.here a.after a.first a.second a.size _ c.if-second-eq0.false c.magnitude-count.ensures
    (went_then _ c.in_ok-test_readable.ensures
    (table_written a.store.now c.copy_at_once.new.store a.here a.after a.second _ _ _ c.in_ok-test_writable-2.ensures
    c.in_ok-fuel-2.ensures
    (at_once_filled a.store.now c.copy_at_once.new.store a.first a.second a.size _ c.if-size-lt-NEGATIVE.true
    c.in_ok-copy_at_once.ensures.filled)))

pub copy_forwards-requires-clause-readable : goal.copy_forwards-requires-clause-readable
copy_forwards-requires-clause-readable c = is_readable_after c.args.store.now c.args.first _
    c.in_ok-test_readable.ensures

pub copy_forwards-requires-clause-writable : goal.copy_forwards-requires-clause-writable
copy_forwards-requires-clause-writable c = is_writable_after c.args.store.now c.args.second _
    c.in_ok-test_writable-2.ensures

pub returns : goal.returns
returns c =
    let a = c.args in
    copies a.here a.after a.first a.second a.size _ c.if-second-eq0.false c.magnitude-count.ensures
    (went_then _ c.in_ok-test_readable.ensures
    (table_written a.store.now c.copy_forwards.new.store a.here a.after a.second _ _ _ c.in_ok-test_writable-2.ensures
    c.in_ok-fuel-2.ensures
    (forwards_filled a.store.now c.copy_forwards.new.store a.first a.second a.size _ c.if-size-lt-NEGATIVE.false
    c.in_ok-copy_forwards.ensures.filled)))
