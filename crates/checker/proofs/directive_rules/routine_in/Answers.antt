use Rattle.std.proofs.Common.{◌≡◌, length, map, arith}
use Rattle.meaning.specs.Views.{action_of}
use Rattle.checker_values.specs.Scope.{seen_in}
use Rattle.checker.proofs.Locals.{routine_walked}
use Rattle.checker.proofs.directive_rules.routine_in.Goals as goal

pub returns : goal.returns
returns c =
    let count : c.len-locals.result ≡ length c.args.routine.now.locals.items = omega
    (arith, c.len-locals.ensures, c.args.routine.now.locals.ok.0) in
    routine_walked (seen_in c.args.scope.now) c.args.routine.now c.body_of.result.now c.len-locals.result
    (map action_of c.in_ok-body.body.items) c.args.tally.now c.all_statements.new.tally
    c.body_of.ensures count c.in_ok-body.ensures
