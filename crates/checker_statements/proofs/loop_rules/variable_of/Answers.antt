use Rattle.checker_values.specs.Expressions.{variable_of_binding}
use Rattle.checker_values.proofs.Walks.{named_part}
use Rattle.checker_statements.specs.Statements.{loop_breaches}
use Rattle.checker_statements.proofs.loop_rules.variable_of.Goals as goal

pub returns : goal.returns
returns c = named_part variable_of_binding (loop_breaches c.args.name.now.position) c.look.result _
    c.loop_variable.result c.look.ensures c.loop_variable.ensures.value c.loop_variable.ensures.breaches
