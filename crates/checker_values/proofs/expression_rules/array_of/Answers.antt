use Rattle.checker_values.specs.Expressions.{array_name_breaches, array_of_binding}
use Rattle.checker_values.proofs.Walks.{named_part}
use Rattle.checker_values.proofs.expression_rules.array_of.Goals as goal

pub returns : goal.returns
returns c = named_part array_of_binding (array_name_breaches c.args.name.now.position) c.look.result _
    c.array.result c.look.ensures c.array.ensures.value c.array.ensures.breaches
