use Rattle.std.proofs.Common.{refl}
use Rattle.std.specs.Option.{is_some, unwrap_or}
use Rattle.machine_frames.proofs.Steps.{went_then, went_no_further, went_err, went_store}
use Rattle.machine_standard_tables.proofs.Fields.{gives}
use Rattle.machine_standard_tables.proofs.scanning.give_found.Goals as goal

pub returns-in_err-test_result : goal.returns-in_err-test_result
returns-in_err-test_result c =
    let a = c.args in
    gives a.here a.after a.result_variable a.branch a.found (is_some a.found) (unwrap_or a.found 0) refl refl
    (went_err _ c.from_residual.ensures.1 (went_no_further _ c.in_err-test_result.ensures))

pub returns-in_err-test_branch : goal.returns-in_err-test_branch
returns-in_err-test_branch c =
    let a = c.args in
    gives a.here a.after a.result_variable a.branch a.found c.is_some-is_found.result (unwrap_or a.found 0)
    c.is_some-is_found.ensures refl
    (went_err _ c.from_residual-in_err-test_branch.ensures.1
    (went_then _ c.in_ok-test_result.ensures (went_no_further _ c.in_err-test_branch.ensures)))

pub returns-in_err-store_result : goal.returns-in_err-store_result
returns-in_err-store_result c =
    let a = c.args in
    gives a.here a.after a.result_variable a.branch a.found c.is_some-is_found.result c.unwrap_or.result
    c.is_some-is_found.ensures c.unwrap_or.ensures
    (went_err _ c.from_residual-in_err-store_result.ensures.1
    (went_then _ c.in_ok-test_result.ensures
    (went_then _ c.in_ok-test_branch.ensures (went_no_further _ c.in_err-store_result.ensures))))

pub branch_on-requires-clause-store : goal.branch_on-requires-clause-store
branch_on-requires-clause-store c = went_store c.requires.store c.in_ok-store_result.ensures

pub returns : goal.returns
returns c =
    let a = c.args in
    gives a.here a.after a.result_variable a.branch a.found c.is_some-is_found.result c.unwrap_or.result
    c.is_some-is_found.ensures c.unwrap_or.ensures
    (went_then _ c.in_ok-test_result.ensures
    (went_then _ c.in_ok-test_branch.ensures (went_then _ c.in_ok-store_result.ensures c.branch_on.ensures)))
