use Rattle.checker_values.specs.Expressions.{property_breaches, property_of_binding}
use Rattle.checker_values.proofs.Walks.{named_part}
use Rattle.checker_values.proofs.expression_rules.property_of.Goals as goal

pub returns : goal.returns
returns c = named_part property_of_binding (property_breaches c.args.name.now.position) c.look.result _
    c.property.result c.look.ensures c.property.ensures.value c.property.ensures.breaches
