use Rattle.std.proofs.Common.{ℕ}
use Rattle.checker_values.specs.Expressions.{attribute_breaches, attribute_of_binding}
use Rattle.checker_values.proofs.Walks.{one, named_part}
use Rattle.checker_statements.proofs.simple_rules.flag.Goals as goal

pub returns : goal.returns
returns c = one (λ (n : ℕ). (c.args.given.now.0, n))
    (named_part attribute_of_binding (attribute_breaches _) c.look.result _ c.attribute-number.result c.look.ensures
    c.attribute-number.ensures.value c.attribute-number.ensures.breaches)
