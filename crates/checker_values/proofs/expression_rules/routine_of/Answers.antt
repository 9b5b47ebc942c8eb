use Rattle.checker_values.specs.Expressions.{call_breaches, routine_of_binding}
use Rattle.checker_values.proofs.Walks.{named_part}
use Rattle.checker_values.proofs.expression_rules.routine_of.Goals as goal

pub returns : goal.returns
returns c = named_part routine_of_binding (call_breaches c.args.name.now.position c.args.given) c.look.result _
    c.routine.result c.look.ensures c.routine.ensures.value c.routine.ensures.breaches
