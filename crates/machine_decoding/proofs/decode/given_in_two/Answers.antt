use Rattle.std.proofs.Common.{arith}
use Rattle.machine_decoding.proofs.Decoding.{seen_err}
use Rattle.machine_decoding.proofs.TypesGiven.{given_wrong, given_short, given_full}
use Rattle.machine_decoding.proofs.decode.given_in_two.Goals as goal

pub returns-in_err-count-clause-types : goal.returns-in_err-count-clause-types
returns-in_err-count-clause-types c = seen_err _ _ _ _ c.from_residual.ensures.1
    (given_wrong c.args.first c.args.second _ c.in_err-count.ensures.types)

pub returns-in_err-given_types-clause-types : goal.returns-in_err-given_types-clause-types
returns-in_err-given_types-clause-types c =
    seen_err _ _ _ _ c.from_residual-in_err-given_types.ensures.1
    (given_full c.args.first c.args.second c.in_ok-count.count _ (omega arith) c.in_ok-count.ensures.types
    c.in_err-given_types.ensures.types)

pub returns-then-count-lt4-clause-types : goal.returns-then-count-lt4-clause-types
returns-then-count-lt4-clause-types c =
    given_short c.args.first c.args.second c.in_ok-count.count c.are_omitted.result c.omitted.result (omega arith)
    c.in_ok-count.ensures.types c.are_omitted.ensures c.omitted.ensures
